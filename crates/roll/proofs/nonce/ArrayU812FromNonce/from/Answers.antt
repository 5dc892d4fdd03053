use Rattle.std.proofs.Common.{◌≡◌, ℕ, ◌/◌, ◌%◌, [], ◌∷◌, ◌∙◌, ap₂, arith}
use Rattle.engine.specs.Bytes.{bytes}
use Rattle.roll.proofs.nonce.ArrayU812FromNonce.from.Goals as goal

-- the four bytes of a word, as the library gives them
four : (w : ℕ) → w % 256 ∷ w / 256 % 256 ∷ w / 65536 % 256 ∷ w / 16777216 % 256 ∷ [] ≡ bytes 4 w
four w = ap₂ (λ x y. w % 256 ∷ w / 256 % 256 ∷ x ∷ y ∷ []) (omega arith) (omega arith)

pub returns : goal.returns
returns c =
    let name = c.to_le_bytes.ensures ∙ four c.args.nonce.name in
    let floor = c.to_le_bytes-2.ensures ∙ four c.args.nonce.floor in
    let entry = c.to_le_bytes-3.ensures ∙ four c.args.nonce.entry in
    rw (name, floor, entry)
