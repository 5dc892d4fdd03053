use Rattle.std.proofs.Common.{arith}
use Rattle.std.proofs.lemmas.Grind.{common_steps}
use Rattle.vectors.proofs.agreement.opens.Goals as goal

-- the text is as long as the buffer
pub returns-clause-meant : goal.returns-clause-meant
returns-clause-meant g c = grind (arith, common_steps)
