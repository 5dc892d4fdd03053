-- Bytes that go into the state one after another, and by whole blocks.
use Rattle.std.proofs.Common.{◌≡◌, ℕ, zero, suc, ◌+◌, ◌*◌, ◌/◌, ◌%◌, ◌^◌, ◌<◌, ◌≤◌, eqb, List, [], ◌∷◌, ◌++◌, length, sym, refl, ap, ◌∙◌, ap₂, mul_assoc, mul_comm, add-mul, zero-add, arith, pow_mono, pow-add, shl_lt, shr-shr}
use native.Mathlib.Nat.{mul-mod_left}
use lib.Bits.{bit_xor, xor_assoc, xor_comm, xor_zero_r, xor_shifted, xor_shr, xor_mod}
use lib.Pow.{shl-shr}
use Rattle.std.proofs.lemmas.Bool.{cond-false, ne_eqb}
use Rattle.engine.specs.Bytes.{number, AllBytes}
use Rattle.tinyjambu.specs.Mode.{stream, xored}
use Rattle.tinyjambu.specs.Duplex.{entered, fed_byte, fed, sealed_byte, sealed_bytes}

-- a byte at its place is within the state
pub byte_fits : (b k : ℕ) → b < 256 → k < 4 → b * 2 ^ (96 + 8 * k) < 2 ^ 128
byte_fits b k h l =
    let p = shl_lt 8 (96 + 8 * k) h in
    let q = pow_mono {i = 8 + (96 + 8 * k)} {j = 128} (omega arith) in
    omega arith

-- byte k of s64 to s95
pub stream_at : (s k : ℕ) → k < 4 → stream s / 2 ^ (8 * k) % 256 ≡ s / 2 ^ (64 + 8 * k) % 256
stream_at s zero h = omega arith
stream_at s (suc zero) h = omega arith
stream_at s (suc (suc zero)) h = omega arith
stream_at s (suc (suc (suc zero))) h = omega arith
stream_at s (suc (suc (suc (suc k)))) h = absurd (omega arith)

module _ (run : ℕ → ℕ) where
  -- bytes in two pieces
  pub fed_append : (xs ys : List ℕ) (k s : ℕ) → k < 4 → fed run k s (xs ++ ys) ≡ fed run ((k + length xs) % 4) (fed run k s xs) ys
  fed_append [] ys k s h = ap (λ j. fed run j s ys) (omega arith)
  fed_append (x ∷ xs) ys k s h =
      fed_append xs ys ((k + 1) % 4) (fed_byte run k s x) (omega arith)
      ∙ ap (λ j. fed run j (fed run ((k + 1) % 4) (fed_byte run k s x) xs) ys) (omega arith)

  pub sealed_append : (xs ys : List ℕ) (k s : ℕ) → k < 4
      → sealed_bytes run k s (xs ++ ys) ≡ sealed_bytes run k s xs ++ sealed_bytes run ((k + length xs) % 4) (fed run k s xs) ys
  sealed_append [] ys k s h = ap (λ j. sealed_bytes run j s ys) (omega arith)
  sealed_append (x ∷ xs) ys k s h =
      ap (λ r. sealed_byte run k s x ∷ r)
      (sealed_append xs ys ((k + 1) % 4) (fed_byte run k s x) (omega arith)
      ∙ ap (λ j. sealed_bytes run ((k + 1) % 4) (fed_byte run k s x) xs ++ sealed_bytes run j (fed run ((k + 1) % 4) (fed_byte run k s x) xs) ys) (omega arith))

  -- a piece after what came before it, from the start of a phase
  pub fed_after : (xs ys : List ℕ) (s : ℕ) → fed run (length xs % 4) (fed run 0 s xs) ys ≡ fed run 0 s (xs ++ ys)
  fed_after xs ys s = ap (λ n. fed run (n % 4) (fed run 0 s xs) ys) (sym (zero-add (length xs))) ∙ sym (fed_append xs ys 0 s (omega arith))

  pub sealed-after : (xs ys : List ℕ) (s : ℕ)
      → sealed_bytes run 0 s (xs ++ ys) ≡ sealed_bytes run 0 s xs ++ sealed_bytes run (length xs % 4) (fed run 0 s xs) ys
  sealed-after xs ys s = sealed_append xs ys 0 s (omega arith) ∙ ap (λ n. sealed_bytes run 0 s xs ++ sealed_bytes run (n % 4) (fed run 0 s xs) ys) (zero-add (length xs))

  -- as many sealed bytes as bytes
  pub length_sealed : (xs : List ℕ) (k s : ℕ) → length (sealed_bytes run k s xs) ≡ length xs
  length_sealed [] k s = refl
  length_sealed (x ∷ xs) k s = ap suc (length_sealed xs ((k + 1) % 4) (fed_byte run k s x))

-- a byte at its place, and what comes above it, are one number
xor_parts : (s b n m : ℕ) → b < 256 → bit_xor (bit_xor s (b * 2 ^ m)) (n * 2 ^ (m + 8)) ≡ bit_xor s ((b + 256 * n) * 2 ^ m)
xor_parts s b n m h =
    let below = shl_lt 8 m h in
    let e : 2 ^ (8 + m) ≡ 2 ^ (m + 8) = ap (λ x. 2 ^ x) (omega arith) in
    let low : b * 2 ^ m < 2 ^ (m + 8) = omega arith in
    let p = xor_comm (b * 2 ^ m) (n * 2 ^ (m + 8)) ∙ xor_shifted n (m + 8) (b * 2 ^ m) low in
    let q = pow-add 2 m 8 in
    let r : n * 2 ^ (m + 8) + b * 2 ^ m ≡ (b + 256 * n) * 2 ^ m = rw q (omega (arith, add-mul b (256 * n) (2 ^ m), mul_assoc 256 n (2 ^ m), mul_assoc n (2 ^ m) 256)) in
    xor_assoc s (b * 2 ^ m) (n * 2 ^ (m + 8)) ∙ ap (bit_xor s) (p ∙ r)

-- what goes in above s96 leaves s64 to s95
stream_kept : (s n m : ℕ) → stream (bit_xor s (n * 2 ^ (96 + m))) ≡ stream s
stream_kept s n m =
    let e : n * 2 ^ (96 + m) ≡ n * 2 ^ m * 2 ^ 32 * 2 ^ 64 = rw (pow-add 2 96 m) (omega (arith, mul_assoc n (2 ^ 96) (2 ^ m), mul_comm (2 ^ 96) (2 ^ m), mul_assoc n (2 ^ m) (2 ^ 96))) in
    rw (e, xor_shr, xor_mod, shl-shr) (ap (bit_xor (stream s)) (mul-mod_left (n * 2 ^ m) (2 ^ 32)) ∙ xor_zero_r (stream s))

module _ (run : ℕ → ℕ) where
  -- within a block no run is done
  inside : (j s : ℕ) → 0 < j → entered run j s ≡ s
  inside j s h = cond-false (eqb j 0) (run s) s (ne_eqb j 0 (λ e. omega arith))

  -- the rest of a block of which b has come, where t is the state after the block's run
  fed_rest : (bs : List ℕ) (b j t : ℕ) → j + suc (length bs) ≤ 4 → AllBytes (b ∷ bs)
      → fed run ((j + 1) % 4) (bit_xor t (b * 2 ^ (96 + 8 * j))) bs ≡ bit_xor t (number (b ∷ bs) * 2 ^ (96 + 8 * j))
  fed_rest [] b j t h small = ap (λ n. bit_xor t (n * 2 ^ (96 + 8 * j))) (omega arith)
  fed_rest (c ∷ bs) b j t h small =
      let u = bit_xor t (b * 2 ^ (96 + 8 * j)) in
      let n : (j + 1) % 4 ≡ suc j = omega arith in
      let m : 96 + 8 * suc j ≡ 96 + 8 * j + 8 = omega arith in
      let ih = fed_rest bs c (suc j) u (omega arith) small.1 in
      rw (n, inside (suc j) u (omega arith), ih, m) (xor_parts t b (number (c ∷ bs)) (96 + 8 * j) small.0)

  -- a block at once
  pub fed_block : (bs : List ℕ) (s : ℕ) → 0 < length bs → length bs ≤ 4 → AllBytes bs → fed run 0 s bs ≡ bit_xor (run s) (number bs * 2 ^ 96)
  fed_block [] s h l small = absurd (omega arith)
  fed_block (b ∷ bs) s h l small = fed_rest bs b 0 (run s) (omega arith) small

  -- the sealed bytes of the rest of such a block
  sealed_rest : (bs : List ℕ) (b j t : ℕ) → j + suc (length bs) ≤ 4
      → sealed_bytes run ((j + 1) % 4) (bit_xor t (b * 2 ^ (96 + 8 * j))) bs ≡ xored bs (stream t / 2 ^ (8 * (j + 1)))
  sealed_rest [] b j t h = refl
  sealed_rest (c ∷ bs) b j t h =
      let u = bit_xor t (b * 2 ^ (96 + 8 * j)) in
      let n : (j + 1) % 4 ≡ suc j = omega arith in
      let k = stream_kept t b (8 * j) in
      let e : u / 2 ^ (64 + 8 * suc j) % 256 ≡ stream t / 2 ^ (8 * (j + 1)) % 256 = sym (stream_at u (suc j) (omega arith)) ∙ ap₂ (λ x y. x / 2 ^ y % 256) k (omega arith) in
      let d : stream t / 2 ^ (8 * (suc j + 1)) ≡ stream t / 2 ^ (8 * (j + 1)) / 256 = ap (λ x. stream t / 2 ^ x) (omega arith) ∙ sym (shr-shr (stream t) (8 * (j + 1)) 8) in
      rw (n, inside (suc j) u (omega arith)) (ap₂ (λ x y. bit_xor c x ∷ y) e (sealed_rest bs c (suc j) u (omega arith) ∙ ap (xored bs) (ap (λ x. x / 2 ^ (8 * (suc j + 1))) k ∙ d)))

  pub sealed_block : (bs : List ℕ) (s : ℕ) → 0 < length bs → length bs ≤ 4 → sealed_bytes run 0 s bs ≡ xored bs (stream (run s))
  sealed_block [] s h l = absurd (omega arith)
  sealed_block (b ∷ bs) s h l = ap₂ (λ x y. bit_xor b x ∷ y) (sym (stream_at (run s) 0 (omega arith)) ∙ omega arith) (sealed_rest bs b 0 (run s) (omega arith))
