-- A sealed form is 8 bytes longer than its text, and no two texts have the same.
use Rattle.std.proofs.Common.{◌≡◌, ℕ, suc, ◌+◌, List, [], ◌∷◌, length, refl, ap, arith, length-append, length-drop}
use Rattle.std.proofs.lemmas.List.{length-take-le}
use Rattle.tinyjambu.specs.Mode.{seal, blocks, ciphertext, mark, inject, text_run}
use Rattle.tinyjambu.specs.History.{sealed_piece, sealed_tag}
use Rattle.tinyjambu.proofs.Exact.{opened_exactly}

-- the sealed text is as long as the text
pub ciphertext-length : (key : List ℕ) (s : ℕ) (t : List ℕ) → length (ciphertext key s (blocks t)) ≡ length t
ciphertext-length key s [] = refl
ciphertext-length key s (a ∷ []) = refl
ciphertext-length key s (a ∷ b ∷ []) = refl
ciphertext-length key s (a ∷ b ∷ c ∷ []) = refl
ciphertext-length key s (a ∷ b ∷ c ∷ d ∷ rest) = ap (λ n. suc (suc (suc (suc n)))) (ciphertext-length key (mark (a ∷ b ∷ c ∷ d ∷ []) (inject (a ∷ b ∷ c ∷ d ∷ []) (text_run key s))) rest)

-- the sealed form is 8 bytes longer
pub seal-length : (key n ad t : List ℕ) → length (seal key n ad t) ≡ length t + 8
unfolding seal
seal-length key n ad t = rw (length-append, ciphertext-length)

-- no two texts have one sealed form
pub seal-one : (key n ad t u : List ℕ) → seal key n ad t ≡ seal key n ad u → t ≡ u
seal-one key n ad t u e =
    let p = (opened_exactly key n ad (seal key n ad u) t).1 e in
    let q = (opened_exactly key n ad (seal key n ad u) u).1 refl in
    cc

-- its parts: the sealed text, and the tag
pub length-sealed_text : (key n ad t : List ℕ) → length (sealed_piece key n ad [] t) ≡ length t
length-sealed_text key n ad t = length-take-le (length t) (seal key n ad t) (omega (arith, seal-length key n ad t))

pub length-sealed_tag : (key n ad t : List ℕ) → length (sealed_tag key n ad t) ≡ 8
length-sealed_tag key n ad t = rw (length-drop, seal-length) (omega arith)
