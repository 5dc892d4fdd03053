use Rattle.std.proofs.Common.{◌∙◌}
use Rattle.tinyjambu.proofs.Messages.{data_piece, message_all}
use Rattle.tinyjambu.proofs.pieces.absorb_pieces.Goals as goal

pub loop-piece-preserved : goal.loop-piece-preserved
loop-piece-preserved g c =
    let inv = c.loop-piece.invariant in
    record {
      took = λ nonce ad h. data_piece _ nonce ad c.args.pieces.now c.loop-piece.piece-index c.loop-piece-test.true inv.same c.absorb.ensures.took (inv.took nonce ad h);
      same = c.absorb.ensures.same ∙ inv.same;
    }

pub returns : goal.returns
returns g c =
    let all = message_all c.args.pieces.now c.loop-piece.piece-index c.loop-piece-test.false in
    rw all at c.loop-piece.invariant
