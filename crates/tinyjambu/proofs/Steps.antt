-- A piece that is worked through from its start: what one step more, of a byte or of a block, makes of it.
use Rattle.std.proofs.Common.{◌≡◌, ℕ, ◌+◌, ◌*◌, ◌/◌, ◌%◌, ◌^◌, ◌<◌, ◌≤◌, List, [], ◌∷◌, ◌++◌, length, get_or, take, drop, set, sym, refl, ap, ◌∙◌, ap₂, append_assoc, arith, length-append, length-drop, length-set, take-add}
use lib.Bits.{bit_xor, xor_mod, xor_shr}
use Rattle.std.proofs.ByRecursion.{All-take, All-drop, All-append}
use Rattle.std.proofs.lemmas.List.{take_more, take_more_set, take_all, take_at, length-take-le}
use Rattle.engine.specs.Bytes.{number, bytes, AllBytes}
use Rattle.tinyjambu.specs.Mode.{stream, xored}
use Rattle.tinyjambu.specs.Duplex.{fed_byte, fed, sealed_byte, sealed_bytes, text_of, sealed_of}
use Rattle.tinyjambu.specs.declared.direction.Direction.{Direction}
use Rattle.tinyjambu.specs.declared.direction.Direction.TheVariants.{Sealing, Opening}
use Rattle.engine.proofs.Joined.{bytes-number, number-bytes, all_bytes_of}
use Rattle.tinyjambu.proofs.Feeding.{fed_append, sealed_append, fed_block, sealed_block}

-- The registers after the first `at` bytes of a piece, which began at state s with k bytes in the open block.
pub record Fed (run : ℕ → ℕ) (k s at : ℕ) (piece : List ℕ) (state filled : ℕ) : Type 0 where
  pub within : at ≤ length piece
  pub few : k < 4
  pub is : state ≡ fed run k s (take at piece)
  pub place : filled ≡ (k + at) % 4

module _ {run : ℕ → ℕ} {k s at : ℕ} {piece : List ℕ} {state filled : ℕ} (h : Fed run k s at piece state filled) where
  -- how far the open block is, by what came
  fed_place : filled ≡ (k + length (take at piece)) % 4
  fed_place = h.place ∙ ap (λ x. (k + x) % 4) (sym (length-take-le at piece h.within))

  -- n bytes more, of a piece that may have changed past `at`
  fed_more : (next part : List ℕ) (n after place : ℕ) → at + n ≤ length next → take (at + n) next ≡ take at piece ++ part
      → after ≡ fed run filled state part → place ≡ (filled + n) % 4 → Fed run k s (at + n) next after place
  fed_more next part n after place l e p q =
      let here : filled ≡ (k + at) % 4 = h.place in
      record {
        within = l;
        few = h.few;
        is = p ∙ ap₂ (λ x y. fed run x y part) fed_place h.is ∙ sym (ap (fed run k s) e ∙ fed_append run (take at piece) part k s h.few);
        place = omega arith;
      }

-- all of it
pub fed_all : {run : ℕ → ℕ} {k s at : ℕ} {piece : List ℕ} {state filled : ℕ} → Fed run k s at piece state filled → length piece ≤ at
    → (state ≡ fed run k s piece) × (filled ≡ (k + length piece) % 4)
fed_all {run} {k} {s} {at} {piece} h l =
    let w = h.within in
    let n : length piece ≡ at = omega arith in
    (h.is ∙ ap (fed run k s) (take_all at piece l), h.place ∙ ap (λ x. (k + x) % 4) (sym n))

-- The same of a piece that is sealed or opened: besides, the sealed bytes so far are those of the text so far, and what was written is bytes.
pub record Crypted (run : ℕ → ℕ) (k s at : ℕ) (d : Direction) (input out : List ℕ) (state filled : ℕ) : Type 0 where
  pub fed : Fed run k s at (text_of d input out) state filled
  pub made : take at (sealed_of d input out) ≡ sealed_bytes run k s (take at (text_of d input out))
  pub long : length out ≡ length input
  pub small : AllBytes (take at out)

-- a part more of input and output is a part more of text and sealed text
either_more : (d : Direction) (input out next part other : List ℕ) (at n : ℕ) → take (at + n) input ≡ take at input ++ part → take (at + n) next ≡ take at out ++ other
    → (take (at + n) (text_of d input next) ≡ take at (text_of d input out) ++ text_of d part other)
    × (take (at + n) (sealed_of d input next) ≡ take at (sealed_of d input out) ++ sealed_of d part other)
either_more Sealing input out next part other at n p q = (p, q)
either_more Opening input out next part other at n p q = (q, p)

-- text and sealed text are as long as the input, and bytes if both are
pub either_length : (d : Direction) (input out : List ℕ) → length out ≡ length input → length (text_of d input out) ≡ length input
either_length Sealing input out e = refl
either_length Opening input out e = e

pub either_small : (d : Direction) (input out : List ℕ) → AllBytes input → AllBytes out → AllBytes (text_of d input out)
either_small Sealing input out i o = i
either_small Opening input out i o = o

other_length : (d : Direction) (input out : List ℕ) → length out ≡ length input → length (sealed_of d input out) ≡ length input
other_length Sealing input out e = e
other_length Opening input out e = refl

-- one byte
single : (d : Direction) (x r : ℕ) → (text_of d (x ∷ []) (r ∷ []) ≡ text_of d x r ∷ []) × (sealed_of d (x ∷ []) (r ∷ []) ≡ sealed_of d x r ∷ [])
single Sealing x r = (refl, refl)
single Opening x r = (refl, refl)

-- a block xored byte by byte is its number xored
xored-bytes : (bs : List ℕ) (n : ℕ) → AllBytes bs → xored bs n ≡ bytes (length bs) (bit_xor (number bs) n)
xored-bytes [] n h = refl
xored-bytes (b ∷ bs) n h =
    let x : ℕ = b + 256 * number bs in
    let l : x % 2 ^ 8 ≡ b = omega arith in
    let m : x / 2 ^ 8 ≡ number bs = omega arith in
    let low : bit_xor x n % 2 ^ 8 ≡ bit_xor b (n % 256) = xor_mod x n 8 ∙ ap (λ y. bit_xor y (n % 2 ^ 8)) l in
    let up : bit_xor x n / 2 ^ 8 ≡ bit_xor (number bs) (n / 256) = xor_shr x n 8 ∙ ap (λ y. bit_xor y (n / 2 ^ 8)) m in
    ap₂ ◌∷◌ (sym low) (xored-bytes bs (n / 256) h.1 ∙ ap (bytes (length bs)) (sym up))

-- a full block by its word, on either side
record Block (d : Direction) (part : List ℕ) (r : ℕ) : Type 0 where
  pub length : length (text_of d part (bytes 4 r)) ≡ 4
  pub small : AllBytes (text_of d part (bytes 4 r))
  pub text : number (text_of d part (bytes 4 r)) ≡ text_of d (number part) r
  pub sealed : (k : ℕ) → sealed_of d (number part) r ≡ bit_xor (text_of d (number part) r) k → sealed_of d part (bytes 4 r) ≡ xored (text_of d part (bytes 4 r)) k

word_block : (d : Direction) (part : List ℕ) (r : ℕ) → length part ≡ 4 → AllBytes part → r < 2 ^ 32 → Block d part r
word_block Sealing part r n small h = record {
  length = n;
  small = small;
  text = refl;
  sealed = λ k e. ap (bytes 4) e ∙ ap (λ m. bytes m (bit_xor (number part) k)) (sym n) ∙ sym (xored-bytes part k small);
}
word_block Opening part r n small h = record {
  length = refl;
  small = all_bytes_of 4 r;
  text = number-bytes 4 r h;
  sealed = λ k e. sym (bytes-number part small) ∙ ap₂ bytes n (e ∙ ap (λ x. bit_xor x k) (sym (number-bytes 4 r h))) ∙ sym (xored-bytes (bytes 4 r) k (all_bytes_of 4 r));
}

module _ {run : ℕ → ℕ} {k s at : ℕ} {d : Direction} {input out : List ℕ} {state filled : ℕ} (h : Crypted run k s at d input out state filled) where
  -- n bytes more
  crypted_more : (part other next : List ℕ) (n after place : ℕ) → at + n ≤ length input → take (at + n) input ≡ take at input ++ part → take (at + n) next ≡ take at out ++ other
      → length next ≡ length input → AllBytes other
      → after ≡ fed run filled state (text_of d part other) → place ≡ (filled + n) % 4
      → sealed_of d part other ≡ sealed_bytes run filled state (text_of d part other)
      → Crypted run k s (at + n) d input next after place
  crypted_more part other next n after place l p q long small a b made =
      let text : List ℕ = take at (text_of d input out) in
      let more : List ℕ = text_of d part other in
      let both = either_more d input out next part other at n p q in
      record {
        fed = fed_more h.fed (text_of d input next) more n after place (rw (either_length d input next long) l) both.0 a b;
        made = both.1 ∙ ap₂ ◌++◌ h.made (made ∙ ap₂ (λ x y. sealed_bytes run x y more) (fed_place h.fed) h.fed.is)
            ∙ sym (ap (sealed_bytes run k s) both.0 ∙ sealed_append run text more k s h.fed.few);
        long = long;
        small = rw q (All-append (λ b. b < 256) (take at out) other h.small small);
      }

  -- one byte more
  pub crypted_byte_more : (r after place : ℕ) → at < length input → r < 256 → after ≡ fed_byte run filled state (text_of d (get_or input at 0) r) → place ≡ (filled + 1) % 4
      → sealed_of d (get_or input at 0) r ≡ sealed_byte run filled state (text_of d (get_or input at 0) r)
      → Crypted run k s (at + 1) d input (set out at r) after place
  crypted_byte_more r after place l small a b made =
      let long : length out ≡ length input = h.long in
      let x = get_or input at 0 in
      let one = single d x r in
      crypted_more (x ∷ []) (r ∷ []) (set out at r) 1 after place (omega arith) (take_more input at 0 l) (take_more_set out at r (omega arith)) (length-set out at r ∙ long) (small, tt)
      (a ∙ ap (fed run filled state) (sym one.0)) b (one.1 ∙ ap (λ y. y ∷ []) made ∙ ap (sealed_bytes run filled state) (sym one.0))

  -- a full block more
  pub crypted_word_more : (r after place : ℕ) (next : List ℕ) → AllBytes input → at + 4 ≤ length input → r < 2 ^ 32 → filled ≡ 0 → next ≡ take at out ++ (bytes 4 r ++ drop (at + 4) out)
      → after ≡ bit_xor (run state) (text_of d (number (take 4 (drop at input))) r * 2 ^ 96) → place ≡ 0
      → sealed_of d (number (take 4 (drop at input))) r ≡ bit_xor (text_of d (number (take 4 (drop at input))) r) (stream (run state))
      → Crypted run k s (at + 4) d input next after place
  crypted_word_more r after place next small l fits z e a b made =
      let long : length out ≡ length input = h.long in
      let part : List ℕ = take 4 (drop at input) in
      let block = word_block d part r (length-take-le 4 (drop at input) (rw length-drop (omega arith))) (All-take (λ b. b < 256) 4 (drop at input) (All-drop (λ b. b < 256) at input small)) fits in
      let text : List ℕ = text_of d part (bytes 4 r) in
      let n : length text ≡ 4 = block.length in
      let f = fed_block run text state (omega arith) (omega arith) block.small in
      let m : length (take at out ++ bytes 4 r) ≡ at + 4 = length-append (take at out) (bytes 4 r) ∙ ap (λ x. x + 4) (length-take-le at out (omega arith)) in
      let q : take (at + 4) next ≡ take at out ++ bytes 4 r = ap (take (at + 4)) (e ∙ sym (append_assoc (take at out) (bytes 4 r) (drop (at + 4) out))) ∙ take_at (take at out ++ bytes 4 r) (drop (at + 4) out) (at + 4) m in
      let g : length next ≡ length input = ap length (e ∙ sym (append_assoc (take at out) (bytes 4 r) (drop (at + 4) out))) ∙ length-append (take at out ++ bytes 4 r) (drop (at + 4) out) ∙ ap₂ ◌+◌ m (length-drop (at + 4) out) ∙ omega arith in
      crypted_more part (bytes 4 r) next 4 after place l (take-add at 4 input) q g (all_bytes_of 4 r)
      (a ∙ ap (λ x. bit_xor (run state) (x * 2 ^ 96)) (sym block.text) ∙ sym f ∙ ap (λ x. fed run x state text) (sym z))
      (omega arith)
      (block.sealed (stream (run state)) made ∙ sym (sealed_block run text state (omega arith) (omega arith)) ∙ ap (λ x. sealed_bytes run x state text) (sym z))

-- all of it
pub crypted_all : {run : ℕ → ℕ} {k s at : ℕ} {d : Direction} {input out : List ℕ} {state filled : ℕ} → Crypted run k s at d input out state filled → length input ≤ at
    → (sealed_of d input out ≡ sealed_bytes run k s (text_of d input out)) × (state ≡ fed run k s (text_of d input out)) × (filled ≡ (k + length (text_of d input out)) % 4) × AllBytes out
crypted_all {run} {k} {s} {at} {d} {input} {out} h l =
    let long : length out ≡ length input = h.long in
    let n : length (text_of d input out) ≡ length input = either_length d input out long in
    let all = fed_all h.fed (omega arith) in
    let whole : (xs : List ℕ) → length xs ≡ length input → take at xs ≡ xs = λ xs e. take_all at xs (omega arith) in (
      sym (whole (sealed_of d input out) (other_length d input out long)) ∙ h.made ∙ ap (sealed_bytes run k s) (whole (text_of d input out) n),
      all.0,
      all.1,
      rw (whole out long) at h.small,
    )
