use Rattle.std.proofs.Common.{length, refl, arith}
use Rattle.engine.specs.Permutation.{rounds}
use Rattle.engine.proofs.Keys.{in_use-some}
use Rattle.engine.proofs.Turns.{bit_turn}
use Rattle.engine.proofs.bit_engine.BitEngine.run.Goals as goal

pub loop-i-init : goal.loop-i-init
unfolding rounds
loop-i-init c = refl

pub loop-i-preserved : goal.loop-i-preserved
loop-i-preserved c =
    let words = c.in_use-words.result.now in
    bit_turn words (length words) c.loop-i.i c.args.state c.loop-i.s c.bit_round-s.result
    (omega arith) (in_use-some c.words-key.result words c.in_use-words.ensures) c.loop-i.invariant c.bit_round-s.ensures
