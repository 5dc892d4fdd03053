-- Up to 37 rounds at once.
use Rattle.std.proofs.Common.{◌≡◌, ℕ, zero, suc, ◌+◌, ◌*◌, ◌/◌, ◌%◌, ◌^◌, ◌<◌, ◌≤◌, List, length, sym, ap, ◌∙◌, add-zero, add-suc, zero-mul, add-one, one-add, arith, pow-add, shr-shr}
use native.Mathlib.Nat.{mod-one}
use lib.Bits.{block_half}
use lib.Pow.{mod-pow-add}
use Rattle.engine.specs.Permutation.{bit, taps, key_bit, feedback, rounds}
use Rattle.engine.proofs.Bitwise.{bit-low}

-- what a round adds up stands below bit 92
pub taps-low : (y k s : ℕ) → 91 < k → taps (y * 2 ^ k + s) ≡ taps s
taps-low y k s h =
    let g : (m : ℕ) → m < k → bit (y * 2 ^ k + s) m ≡ bit s m = bit-low y k s in
    cc (g 0 (omega arith), g 47 (omega arith), g 70 (omega arith), g 85 (omega arith), g 91 h)

-- Where the bits of x are what the next n rounds bring in, read off the state as it is now, x is above the state after them.
pub at_once : (key : List ℕ) (i s t x : ℕ) → rounds key i s ≡ t → (n d : ℕ) → n + d ≡ 128 → 91 ≤ d
    → ((j : ℕ) → j < n → bit x j ≡ feedback key (i + j) (t / 2 ^ j))
    → rounds key (i + n) s ≡ x % 2 ^ n * 2 ^ d + t / 2 ^ n
unfolding rounds
at_once key i s t x e zero d h l f = rw (add-zero, e, mod-one, zero-mul) (omega arith)
at_once key i s t x e (suc n) d h l f =
    let ih = at_once key i s t x e n (suc d) (omega arith) (omega arith) (λ j k. f j (omega arith)) in
    let b = ap (λ z. (z + key_bit key ((i + n) % (8 * length key))) % 2) (taps-low (x % 2 ^ n) (suc d) (t / 2 ^ n) (omega arith)) ∙ sym (f n (omega arith)) in
    let e127 : 127 ≡ n + d = omega arith in
    let p = ap (λ z. bit x n * z) (ap (λ z. 2 ^ z) e127 ∙ pow-add 2 n d) in
    let q = rw one-add at (mod-pow-add x 1 n) in
    let r = rw add-one at (shr-shr t n 1) in
    rw (add-suc, ih, b, block_half, q, ← r) (omega (arith, p))

-- a state stays below 2 ^ 128
pub rounds_below : (key : List ℕ) (n s : ℕ) → s < 2 ^ 128 → rounds key n s < 2 ^ 128
unfolding rounds
rounds_below key zero s h = h
rounds_below key (suc n) s h =
    let below : (t x : ℕ) → t < 2 ^ 128 → t / 2 + x % 2 * 2 ^ 127 < 2 ^ 128 = λ t x l. omega arith in
    below (rounds key n s) (taps (rounds key n s) + key_bit key (n % (8 * length key))) (rounds_below key n s h)
