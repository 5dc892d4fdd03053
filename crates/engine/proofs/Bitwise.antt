-- The bits of a number that is shifted, cut, joined from parts, or made by a bit operation.
use Rattle.std.proofs.Common.{◌≡◌, ℕ, zero, suc, ◌+◌, ◌-◌, ◌*◌, ◌/◌, ◌%◌, ◌^◌, ◌<◌, ◌≤◌, min, sym, ap, ◌∙◌, pow-suc, div-add-mod', arith, pow_pos, pow-add, shr-shr}
use native.Mathlib.Nat.{mul-add-div_right, mul-add-mod_self_right, le_dest, pow-succ', div-div-eq-div-mul}
use lib.Bits.{bit_and, bit_xor, xor_add_and, and_step, xor_shr, and_shr, and_le_l}
use Rattle.engine.specs.Permutation.{bit}

-- a bit of a number that is shifted down
pub bit-shr : (n k j : ℕ) → bit (n / 2 ^ k) j ≡ bit n (k + j)
bit-shr n k j = ap (λ x. x % 2) (shr-shr n k j)

-- what stands above a bit
pub bit-low : (y k n j : ℕ) → j < k → bit (y * 2 ^ k + n) j ≡ bit n j
bit-low y k n j h =
    let d = le_dest h in
    let e : y * 2 ^ k ≡ y * 2 ^ d.0 * 2 * 2 ^ j = ap (λ x. y * 2 ^ x) (sym d.1) ∙ rw (pow-add, pow-suc) (omega arith) in
    rw (e, mul-add-div_right, pow_pos j, mul-add-mod_self_right)

-- a bit of a number that is cut
pub bit-mod : (n k j : ℕ) → j < k → bit (n % 2 ^ k) j ≡ bit n j
bit-mod n k j h = sym (bit-low (n / 2 ^ k) k (n % 2 ^ k) j h) ∙ ap (λ x. bit x j) (div-add-mod' n (2 ^ k))

-- xor, and and half, bit by bit
pub bit-xor : (a b j : ℕ) → bit (bit_xor a b) j ≡ (bit a j + bit b j) % 2
bit-xor a b j = rw xor_shr (omega (arith, xor_add_and (a / 2 ^ j) (b / 2 ^ j)))

bit-both : (x y : ℕ) → x < 2 → y < 2 → min x y ≡ x * y
bit-both zero y h l = omega arith
bit-both (suc zero) y h l = omega arith
bit-both (suc (suc x)) y h l = absurd (omega arith)

pub bit-and : (a b j : ℕ) → bit (bit_and a b) j ≡ bit a j * bit b j
bit-and a b j = rw and_shr (omega (arith, and_step (a / 2 ^ j) (b / 2 ^ j), bit-both (bit a j) (bit b j) (omega arith) (omega arith)))

pub bit_half : (n j : ℕ) → bit n (suc j) ≡ bit (n / 2) j
bit_half n j = ap (λ x. n / x % 2) (pow-succ' 2 j) ∙ ap (λ x. x % 2) (sym (div-div-eq-div-mul n 2 (2 ^ j)))

-- the complement in k bits
pub bit_not : (n k j : ℕ) → n < 2 ^ k → j < k → bit (2 ^ k - 1 - n) j ≡ 1 - bit n j
bit_not n zero j h l = absurd (omega arith)
bit_not n (suc k) zero h l = omega arith
bit_not n (suc k) (suc j) h l =
    let e : (2 ^ suc k - 1 - n) / 2 ≡ 2 ^ k - 1 - n / 2 = omega arith in
    rw (bit_half, bit_half n, e) (bit_not (n / 2) k j (omega arith) (omega arith))

-- bit j of what is cut out of s at bit n and then at bit k
pub bit_cut : (s n v k w j x : ℕ) → k + j < v → j < w → x ≡ s / 2 ^ n % 2 ^ v / 2 ^ k % 2 ^ w → bit x j ≡ bit (s / 2 ^ j) (n + k)
bit_cut s n v k w j x h l e = rw (e, bit-mod, bit-shr, bit-mod, bit-shr, bit-shr) (ap (bit s) (omega arith))

-- what a round adds up, at a bit j of words of w bits
pub bit_sum : (a t₁ t₂ t₃ t₄ k w j : ℕ) → t₂ < 2 ^ w → j < w
    → bit (bit_xor (bit_xor (bit_xor (bit_xor a t₁) (2 ^ w - 1 - bit_and t₂ t₃)) t₄) k) j
    ≡ (bit a j + bit t₁ j + (1 - bit t₂ j * bit t₃ j) + bit t₄ j + bit k j) % 2
bit_sum a t₁ t₂ t₃ t₄ k w j h l =
    let s : bit_and t₂ t₃ < 2 ^ w = omega (arith, and_le_l) in
    simp (bit-xor, bit_not, bit-and) (omega arith)

-- the same with the complement of the key's word, so that the nand becomes an and
pub bit_sum_flipped : (a t₁ t₂ t₃ t₄ k w j : ℕ) → k < 2 ^ w → j < w
    → bit (bit_xor (bit_xor (bit_xor (bit_xor a t₁) k) t₄) (bit_and t₂ t₃)) j
    ≡ (bit a j + bit t₁ j + (1 - bit t₂ j * bit t₃ j) + bit t₄ j + bit (2 ^ w - 1 - k) j) % 2
bit_sum_flipped a t₁ t₂ t₃ t₄ k w j h l =
    let m : bit t₂ j * bit t₃ j ≤ 1 = omega (arith, bit-and t₂ t₃ j) in
    simp (bit-xor, bit_not, bit-and) (omega arith)
