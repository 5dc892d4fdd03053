use Rattle.std.proofs.Common.{◌≡◌, ℕ, List, [], ◌++◌, length, sym, ap, ◌∙◌, ap₂, append-nil}
use Rattle.std.proofs.lemmas.Bool.{cond-true}
use Rattle.tinyjambu.specs.Answers.{sealed_out, seal_check, message_check}
use Rattle.engine.specs.Bytes.{word_bytes}
use Rattle.tinyjambu.specs.Mode.{seal}
use Rattle.engine.proofs.Joined.{all_bytes}
use Rattle.tinyjambu.proofs.Opening.{nonce_taken}
use Rattle.tinyjambu.proofs.whole.seal.Goals as goal

pub returns-clause-out : goal.returns-clause-out
returns-clause-out g c =
    let key : List ℕ = g.E.Engine.key c.args.engine.now in
    let n : List ℕ = c.args.nonce.now in
    let ad : List ℕ = c.args.ad.now in
    let t : List ℕ = c.args.text.now in
    let out : List ℕ = c.args.out.now in
    let taken = nonce_taken n c.in_ok-words.words (all_bytes n c.type_inv.nonce) (sym c.in_ok-words.ensures) in
    let check : message_check (length (ad ++ [])) (length (t ++ [])) (length out) ≡ seal_check (length n) (length ad) (length t) (length out)
    = ap₂ (λ x y. message_check (length x) (length y) (length out)) (append-nil ad) (append-nil t) ∙ sym (cond-true _ _ _ taken.0) in
    let words : List ℕ = word_bytes c.in_ok-words.words in
    let message : seal key words (ad ++ []) (t ++ []) ≡ seal key n ad t = ap₂ (λ x y. seal key words x y) (append-nil ad) (append-nil t) ∙ ap (λ x. seal key x ad t) taken.1 in
    c.seal_pieces.ensures.out ∙ ap₂ (λ x y. sealed_out x y out) check message
