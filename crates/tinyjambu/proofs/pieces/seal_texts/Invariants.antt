use Rattle.std.proofs.Common.{◌≡◌, ℕ, List, [], length, take}
use Rattle.tinyjambu.specs.History.{TookText, sealed_piece}
use Rattle.tinyjambu.specs.Message.{message}
use Rattle.tinyjambu.proofs.pieces.seal_texts.Given as goal

abbrev pub invariant-loop-piece : goal.invariant-loop-piece
invariant-loop-piece g l =
    let key : List ℕ = g.E.Engine.key l.initial.engine in
    let t : List ℕ = message (take l.piece-index l.pieces) in
    record {
      place : l.at ≡ length t;
      made : (nonce ad : List ℕ) → TookText key nonce ad [] l.initial.duplex → TookText key nonce ad t l.duplex × (take l.at l.out ≡ sealed_piece key nonce ad [] t);
      same : g.E.Engine.key l.engine ≡ key;
    }
