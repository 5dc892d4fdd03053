use Rattle.std.proofs.Common.{arith}
use Rattle.std.proofs.lemmas.Grind.{common_steps}
use Rattle.tinyjambu.proofs.Sealing.{seal-length}
use Rattle.vectors.proofs.agreement.seals.Goals as goal

-- the sealed form is as long as the buffer
pub returns-clause-meant : goal.returns-clause-meant
returns-clause-meant g c = grind (arith, common_steps, seal-length)
