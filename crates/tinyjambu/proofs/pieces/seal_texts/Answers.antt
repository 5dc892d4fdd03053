use Rattle.std.proofs.Common.{ℕ, ◌≤◌, List, length, sym, ap, ◌∙◌, arith}
use Rattle.std.proofs.lemmas.List.{take_all}
use Rattle.tinyjambu.proofs.Messages.{message_all, end_within, text_piece}
use Rattle.tinyjambu.proofs.pieces.seal_texts.Goals as goal

pub overflow_add-end : goal.overflow_add-end
overflow_add-end g c =
    let end = end_within c.args.pieces.now c.loop-piece.piece-index c.loop-piece.at (length c.loop-piece.out) c.loop-piece-test.true c.loop-piece.invariant.place (c.loop-piece.auto.out ∙ c.requires) in
    record { fits = omega arith }

pub slice_bounds-crypt-end-in-loop-piece : goal.slice_bounds-crypt-end-in-loop-piece
slice_bounds-crypt-end-in-loop-piece g c =
    (end_within c.args.pieces.now c.loop-piece.piece-index c.loop-piece.at (length c.loop-piece.out) c.loop-piece-test.true c.loop-piece.invariant.place (c.loop-piece.auto.out ∙ c.requires)).0

pub loop-piece-preserved : goal.loop-piece-preserved
loop-piece-preserved g c =
    let inv = c.loop-piece.invariant in
    let ps = c.args.pieces.now in
    let i = c.loop-piece.piece-index in
    let at = c.loop-piece.at in
    let out : List ℕ = c.loop-piece.out in
    let end = end_within ps i at (length out) c.loop-piece-test.true inv.place (c.loop-piece.auto.out ∙ c.requires) in
    record {
      place = end.1;
      made = λ nonce ad h. text_piece _ nonce ad ps i at out c.crypt.new.out c.loop-piece-test.true inv.place (omega arith) inv.same c.crypt.ensures (inv.made nonce ad h);
      same = c.crypt.ensures.same ∙ inv.same;
    }

pub returns : goal.returns
returns g c =
    let inv = c.loop-piece.invariant in
    let all = message_all c.args.pieces.now c.loop-piece.piece-index c.loop-piece-test.false in
    let n : length c.loop-piece.out ≤ c.loop-piece.at = omega (arith, inv.place, ap length all) in
    let made = rw all at inv.made in
    record {
      took = λ nonce ad h. (made nonce ad h).0;
      out = λ nonce ad h. sym (take_all c.loop-piece.at c.loop-piece.out n) ∙ (made nonce ad h).1;
      same = inv.same;
    }
