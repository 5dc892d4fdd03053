-- The bits of a key that is held in words.
use Rattle.std.proofs.Common.{◌≡◌, ℕ, zero, suc, ◌+◌, ◌-◌, ◌*◌, ◌/◌, ◌%◌, ◌^◌, ◌<◌, ◌≤◌, true, Ok, refl, List, [], ◌∷◌, ◌++◌, length, get_or, take, drop, replicate, sym, ap, ◌∙◌, ap₂, append-nil, mod-lt, zero-add, arith, length-drop, get_or-take, take-add}
use native.Mathlib.Nat.{div-add-mod}
use lib.Arith.{mod-mul}
use Rattle.std.proofs.ByRecursion.{All-take, All-drop}
use Rattle.std.proofs.lemmas.List.{get_or_append_left, take_more, length-take-le, drop-drop, ext_get_or, get_or-drop, get_or-replicate, length-replicate}
use Rattle.engine.specs.Permutation.{bit, key_bit}
use Rattle.engine.specs.Bytes.{number, bytes, AllBytes, word_bytes, length-word_bytes}
use Rattle.std.proofs.lemmas.Bool.Decides.{nat_tests}
use Rattle.std.specs.Simd.{first_chunks}
use Rattle.std.specs.Array.{IsFromFnResultFrom}
use denote.Param.Members.{Mut, Called}
use Rattle.engine.specs.declared.key_size.KeySize.{KeySize}
use Rattle.engine.specs.declared.key_size.KeySize.TheVariants.{Bits128, Bits192, Bits256}
use Rattle.engine.specs.declared.key_words.KeyWords.{KeyWords}
use Rattle.engine.specs.Keys.{key_of, is_key_size, size_words, size_of}
use Rattle.engine.proofs.Bitwise.{bit-mod, bit-shr}
use Rattle.engine.proofs.Joined.{bytes_at, bytes-number, word_bytes-append}

-- bit j of the word at p is bit p * 32 + j of the bytes
word_bit : (ws : List ℕ) (p j : ℕ) → p < length ws → j < 32 → key_bit (word_bytes ws) (p * 32 + j) ≡ bit (get_or ws p 0) j
word_bit [] p j h l = absurd (omega arith)
word_bit (w ∷ ws) zero j h l =
    let q : j / 8 < 4 = omega arith in
    let e = get_or_append_left (bytes 4 w) (word_bytes ws) 0 (j / 8) q ∙ bytes_at 4 w (j / 8) q in
    ap (key_bit (word_bytes (w ∷ ws))) (zero-add j) ∙ ap (λ x. bit x (j % 8)) e ∙ bit-mod (w / 2 ^ (8 * (j / 8))) 8 (j % 8) (omega arith)
    ∙ bit-shr w (8 * (j / 8)) (j % 8) ∙ ap (bit w) (div-add-mod j 8)
word_bit (w ∷ ws) (suc p) j h l =
    let q : (suc p * 32 + j) / 8 ≡ suc (suc (suc (suc ((p * 32 + j) / 8)))) = omega arith in
    let r : (suc p * 32 + j) % 8 ≡ (p * 32 + j) % 8 = omega arith in
    ap₂ (λ x y. bit (get_or (word_bytes (w ∷ ws)) x 0) y) q r ∙ word_bit ws p j (omega arith) l

-- round q * 32 + j takes bit j of word q, where the first u of ws are gone through round and round
pub key_at : (ws : List ℕ) (u q j : ℕ) → u ≤ length ws → 0 < u → j < 32
    → key_bit (key_of ws u) ((q * 32 + j) % (8 * length (key_of ws u))) ≡ bit (get_or ws (q % u) 0) j
key_at ws u q j h o l =
    let e : (q * 32 + j) / 32 ≡ q = omega arith in
    let f : (q * 32 + j) % 32 ≡ j = omega arith in
    let m = length-take-le u ws h in
    let p = mod-lt q o in
    let n : 8 * length (key_of ws u) ≡ u * 32 = omega (arith, length-word_bytes (take u ws)) in
    rw (n, mod-mul (q * 32 + j) {c = 32} o (omega arith), e, f)
    (word_bit (take u ws) (q % u) j (rw m p) l ∙ ap (λ x. bit x j) (get_or-take u ws (q % u) 0 p))

-- one word more of a key whose words are read from bytes
filled_more : (ws bs : List ℕ) (i : ℕ) → AllBytes bs → i < length ws → 4 * i + 4 ≤ length bs → get_or ws i 0 ≡ number (take 4 (drop (4 * i) bs)) → key_of ws i ≡ take (4 * i) bs
    → key_of ws (i + 1) ≡ take (4 * (i + 1)) bs
filled_more ws bs i small h l w e =
    let part : List ℕ = take 4 (drop (4 * i) bs) in
    let n : length part ≡ 4 = length-take-le 4 (drop (4 * i) bs) (rw length-drop (omega arith)) in
    let p = bytes-number part (All-take (λ b. b < 256) 4 (drop (4 * i) bs) (All-drop (λ b. b < 256) (4 * i) bs small)) in
    let q : 4 * (i + 1) ≡ 4 * i + 4 = omega arith in
    let u : bytes 4 (get_or ws i 0) ++ [] ≡ part = append-nil (bytes 4 (get_or ws i 0)) ∙ ap₂ bytes (sym n) w ∙ p in
    ap word_bytes (take_more ws i 0 h) ∙ word_bytes-append (take i ws) (get_or ws i 0 ∷ [])
    ∙ ap₂ ◌++◌ e u ∙ sym (take-add (4 * i) 4 bs) ∙ ap (λ k. take k bs) (sym q)

-- a key of which each word is read from the four bytes at its place
pub filled : (ws bs : List ℕ) (n : ℕ) → AllBytes bs → n ≤ length ws → 4 * n ≤ length bs → ((j : ℕ) → j < n → get_or ws j 0 ≡ number (take 4 (drop (4 * j) bs)))
    → key_of ws n ≡ take (4 * n) bs
filled ws bs zero small h l each = refl
filled ws bs (suc n) small h l each =
    let e : suc n ≡ n + 1 = omega arith in
    rw e (filled_more ws bs n small (omega arith) (omega arith) (each n (omega arith)) (filled ws bs n small (omega arith) (omega arith) (λ j k. each j (omega arith))))

-- the words past those that are read are 0
pub rest_zero : (ws : List ℕ) (n : ℕ) → length ws ≡ 8 → ((j : ℕ) → j < 8 - n → get_or ws (n + j) 0 ≡ 0) → drop n ws ≡ replicate (8 - n) 0
rest_zero ws n long each =
    let m : length (drop n ws) ≡ 8 - n = length-drop n ws ∙ ap (λ k. k - n) long in
    ext_get_or 0 (drop n ws) (replicate (8 - n) 0) (m ∙ sym (length-replicate (8 - n) 0))
    (λ j l. let k : j < 8 - n = omega (arith, m) in get_or-drop n ws j 0 ∙ each j k ∙ sym (get_or-replicate (8 - n) j 0 0 k))

-- some words are in use
size_words-some : (s : KeySize) → 0 < size_words s
size_words-some Bits128 = omega arith
size_words-some Bits192 = omega arith
size_words-some Bits256 = omega arith

pub size_words-most : (s : KeySize) → size_words s ≤ 8
size_words-most Bits128 = omega arith
size_words-most Bits192 = omega arith
size_words-most Bits256 = omega arith

pub length-in_use : (k : KeyWords) (xs : List ℕ) → xs ≡ take (size_words k.size) k.words → length xs ≡ size_words k.size
length-in_use k xs e = ap length e ∙ length-take-le (size_words k.size) k.words (omega (arith, size_words-most k.size, k.stored))

pub in_use-some : (k : KeyWords) (xs : List ℕ) → xs ≡ take (size_words k.size) k.words → 0 < length xs
in_use-some k xs e = omega (arith, length-in_use k xs e, size_words-some k.size)

-- a part of four bytes out of many
pub part_at : (k i : ℕ) (xs : List ℕ) → i < k → get_or (first_chunks 4 k xs) i [] ≡ take 4 (drop (4 * i) xs)
part_at zero i xs h = absurd (omega arith)
part_at (suc k) zero xs h = refl
part_at (suc k) (suc i) xs h =
    let e : 4 + 4 * i ≡ 4 * suc i = omega arith in
    part_at k i (drop 4 xs) (omega arith) ∙ ap (take 4) (drop-drop (4 * i) 4 xs ∙ ap (λ n. drop n xs) e)

-- the size of so many bytes
pub size_of-ok : (n : ℕ) (s : KeySize) → size_of n ≡ Ok s → (is_key_size n ≡ true) × (n ≡ 4 * size_words s)
size_of-ok n s e = grind (arith, nat_tests)

-- the words that calls at each place gave, where a call gives the word of its place and leaves the closure as it was
pub made_at : {F : Type 0} (g : Mut F (ℕ × Unit {0}) ℕ) (f : F) (word : ℕ → ℕ) → ((i r : ℕ) (q : F) → Called g f (i, tt) r q → (r ≡ word i) × (q ≡ f))
    → (ws : List ℕ) (n i : ℕ) → IsFromFnResultFrom g f ws i n → (j : ℕ) → j < n → get_or ws (i + j) 0 ≡ word (i + j)
made_at g f word gives ws zero i made j h = absurd (omega arith)
made_at g f word gives ws (suc n) i made zero h =
    let e : i + zero ≡ i = omega arith in
    rw e (made.2.1 0 ∙ (gives i made.1 made.0 made.3).0)
made_at g f word gives ws (suc n) i made (suc j) h =
    let e : i + suc j ≡ i + 1 + j = omega arith in
    let rest : IsFromFnResultFrom g f ws (i + 1) n = rw (gives i made.1 made.0 made.3).1 at made.4 in
    rw e (made_at g f word gives ws n (i + 1) rest j (omega arith))
