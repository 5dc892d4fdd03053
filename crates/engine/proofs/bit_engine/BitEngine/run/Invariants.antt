use Rattle.std.proofs.Common.{◌≡◌, length}
use Rattle.engine.specs.Permutation.{rounds}
use Rattle.engine.specs.Keys.{key_of}
use Rattle.engine.proofs.bit_engine.BitEngine.run.Given as goal

abbrev pub invariant-loop-i : goal.invariant-loop-i
invariant-loop-i l = l.s ≡ rounds (key_of l.words (length l.words)) l.i l.initial.s
