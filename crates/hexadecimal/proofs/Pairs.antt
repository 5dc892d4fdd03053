-- The pairs of a text, as it is cut in twos.
use Rattle.std.proofs.Common.{◌≡◌, ℕ, zero, suc, ◌+◌, ◌*◌, ◌<◌, List, [], drop, get_or, ap₂, ◌∙◌, refl, arith}
use Rattle.std.proofs.lemmas.Grind.{common_steps}
use Rattle.std.proofs.lemmas.List.{get_or-drop}
use Rattle.std.specs.Simd.{first_chunks}
use Rattle.hexadecimal.specs.Digits.{pair_value}

-- a digit of a pair stands at its place in the text
digit_at : (n k j i : ℕ) (text : List ℕ) → k < n → j < 2 → i ≡ 2 * k + j → get_or (get_or (first_chunks 2 n text) k []) j 0 ≡ get_or text i 0
digit_at zero k j i text h two e = absurd (omega arith)
digit_at (suc n) zero j i text h two e = grind (arith, common_steps)
digit_at (suc n) (suc k) j i text h two e =
    let rest : i ≡ 2 + (2 * k + j) = omega arith in
    digit_at n k j (2 * k + j) (drop 2 text) (omega arith) two refl ∙ rw rest (get_or-drop 2 text (2 * k + j) 0)

-- the byte of a pair is that of its two places in the text
pub pair_at : (n k : ℕ) (text : List ℕ) (pairs : List (List ℕ)) → pairs ≡ first_chunks 2 n text → k < n
    → pair_value (get_or (get_or pairs k []) 0 0) (get_or (get_or pairs k []) 1 0) ≡ pair_value (get_or text (2 * k) 0) (get_or text (2 * k + 1) 0)
pair_at n k text pairs e h = rw e (ap₂ pair_value (digit_at n k 0 (2 * k) text h (omega arith) (omega arith)) (digit_at n k 1 (2 * k + 1) text h (omega arith) (omega arith)))
