use Rattle.std.proofs.Common.{◌≡◌, ◌+◌, ◌*◌, length, sym, ap, ◌∙◌, subst, arith}
use lib.ListN.{length-map}
use native.Mathlib.Nat.{zero-mod}
use Rattle.engine.specs.Permutation.{rounds}
use Rattle.engine.specs.Bytes.{joined, AllWords}
use Rattle.engine.specs.Turns.{flip}
use Rattle.engine.proofs.Joined.{joined_words, words_small, four}
use Rattle.engine.proofs.Keys.{in_use-some}
use Rattle.engine.proofs.Turns.{turn_flipped}
use Rattle.engine.proofs.word_engine.WordEngine.run.Goals as goal

pub loop-n-init : goal.loop-n-init
unfolding rounds
loop-n-init c = record {
  many = omega (arith, length-map c.in_use-words.result.now flip);
  place = sym (zero-mod (length c.in_use-words.result.now));
  below = in_use-some c.args.self.now.complement c.in_use-words.result.now c.in_use-words.ensures;
  small = subst AllWords (sym (four c.as_words.result (omega arith) ∙ c.as_words.ensures)) (words_small 4 c.args.state);
  state = sym (ap joined (four c.as_words.result (omega arith) ∙ c.as_words.ensures) ∙ joined_words 4 c.args.state c.ranges.state.fits);
}

pub loop-n-preserved : goal.loop-n-preserved
loop-n-preserved c =
    let a = turn_flipped c.in_use-words.result.now c.loop-n.invariant c.mix-a.ensures c.mix-a.type_inv c.next-at.ensures.is c.next-at.ensures.below in
    let b = turn_flipped c.in_use-words.result.now a c.mix-b.ensures c.mix-b.type_inv c.next-at-in-loop-n.ensures.is c.next-at-in-loop-n.ensures.below in
    let d = turn_flipped c.in_use-words.result.now b c.mix-c.ensures c.mix-c.type_inv c.next-at-in-loop-n-2.ensures.is c.next-at-in-loop-n-2.ensures.below in
    let e = turn_flipped c.in_use-words.result.now d c.mix-d.ensures c.mix-d.type_inv c.next-at-in-loop-n-3.ensures.is c.next-at-in-loop-n-3.ensures.below in
    let q : c.loop-n.n * 4 + 1 + 1 + 1 + 1 ≡ (c.loop-n.n + 1) * 4 = omega arith in
    rw q at e
