use Rattle.std.proofs.Common.{◌≡◌, ℕ, List, ◌++◌, take}
use Rattle.tinyjambu.specs.History.{TookData}
use Rattle.tinyjambu.specs.Message.{message}
use Rattle.tinyjambu.proofs.pieces.absorb_pieces.Given as goal

abbrev pub invariant-loop-piece : goal.invariant-loop-piece
invariant-loop-piece g l =
    let key : List ℕ = g.E.Engine.key l.initial.engine in
    record {
      took : (nonce ad : List ℕ) → TookData key nonce ad l.initial.duplex → TookData key nonce (ad ++ message (take l.piece-index l.pieces)) l.duplex;
      same : g.E.Engine.key l.engine ≡ key;
    }
