use Rattle.std.proofs.Common.{arith}
use Rattle.tape.proofs.Tapes.{stands_in}
use Rattle.tape.proofs.finding.entry_part.Goals as goal

pub begin_of-requires : goal.begin_of-requires
begin_of-requires c = omega (arith, (stands_in c.args.memory.now c.args.number c.requires).noted)
