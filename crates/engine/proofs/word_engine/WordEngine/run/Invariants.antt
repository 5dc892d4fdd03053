use Rattle.std.proofs.Common.{◌*◌, length}
use Rattle.engine.specs.Turns.{flipped}
use Rattle.engine.proofs.Turns.{Stands}
use Rattle.engine.proofs.word_engine.WordEngine.run.Given as goal

abbrev pub invariant-loop-n : goal.invariant-loop-n
invariant-loop-n l = Stands (flipped l.words) (length l.words) l.state (l.n * 4) l.at l.a l.b l.c l.d
