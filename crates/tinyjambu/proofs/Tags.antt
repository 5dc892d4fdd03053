-- Tags compared byte by byte, with what differs gathered up.
use Rattle.std.proofs.Common.{◌≡◌, ℕ, Bool, true, false, ◌&&◌, eqb, List, [], ◌∷◌, length, sym, refl, ap, ◌∙◌, ap₂, arith}
use lib.Bits.{bit_or, bit_xor, or_add_and, and_le_l, and_le_r, xor_add_and, xor_self}
use Rattle.std.specs.List.{fold, zip}
use Rattle.std.proofs.lemmas.Bool.{eqb-true, eq-eqb, true≢false}
use Rattle.tinyjambu.specs.Mode.{same}

-- two tests in one
and_both : (a b : Bool) → (a && b) ≡ true → (a ≡ true) × (b ≡ true)
and_both true b e = (refl, e)
and_both false b e = absurd (true≢false (sym e))

and_true : (a : Bool) → (a && true) ≡ a
and_true true = refl
and_true false = refl

and_assoc : (a b c : Bool) → ((a && b) && c) ≡ (a && (b && c))
and_assoc true b c = refl
and_assoc false b c = refl

-- an or, and a xor, that leave nothing
or_none : (a b : ℕ) → bit_or a b ≡ 0 → (a ≡ 0) × (b ≡ 0)
or_none a b e = (omega (arith, or_add_and a b, and_le_l a b, and_le_r a b), omega (arith, or_add_and a b, and_le_l a b, and_le_r a b))

xor-none : (a b : ℕ) → bit_xor a b ≡ 0 → a ≡ b
xor-none a b e = omega (arith, xor_add_and a b, and_le_l a b, and_le_r a b)

-- two tests that say the same
both : (b c : Bool) → (b ≡ true → c ≡ true) → (c ≡ true → b ≡ true) → b ≡ c
both true c f g = sym (f refl)
both false true f g = g refl
both false false f g = refl

-- what differs so far, and one byte more
abbrev pub gathered : ℕ → ℕ × ℕ → ℕ
gathered d p = bit_or d (bit_xor p.0 p.1)

one_more : (d x y : ℕ) → eqb (bit_or d (bit_xor x y)) 0 ≡ (eqb d 0 && eqb x y)
one_more d x y =
    both (eqb (bit_or d (bit_xor x y)) 0) (eqb d 0 && eqb x y)
    (λ e. let none = or_none d (bit_xor x y) (eqb-true (bit_or d (bit_xor x y)) 0 e) in
    ap₂ ◌&&◌ (eq-eqb d 0 none.0) (eq-eqb x y (xor-none x y none.1)))
    (λ e. let two = and_both (eqb d 0) (eqb x y) e in
    eq-eqb (bit_or d (bit_xor x y)) 0 (ap₂ bit_or (eqb-true d 0 two.0) (ap (λ z. bit_xor z y) (eqb-true x y two.1) ∙ xor_self y)))

-- nothing differs in all of them
pub gathered_none : (xs ys : List ℕ) (d : ℕ) → length xs ≡ length ys → eqb (fold gathered d (zip xs ys)) 0 ≡ (eqb d 0 && same xs ys)
gathered_none [] [] d h = sym (and_true (eqb d 0))
gathered_none [] (y ∷ ys) d h = absurd (omega arith)
gathered_none (x ∷ xs) [] d h = absurd (omega arith)
gathered_none (x ∷ xs) (y ∷ ys) d h =
    gathered_none xs ys (gathered d (x, y)) (omega arith) ∙ ap (λ b. b && same xs ys) (one_more d x y) ∙ and_assoc (eqb d 0) (eqb x y) (same xs ys)
