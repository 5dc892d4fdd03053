-- Bytes and words joined to a number, and taken out of it again.
use Rattle.std.proofs.Common.{◌≡◌, ℕ, zero, suc, ◌+◌, ◌*◌, ◌/◌, ◌%◌, ◌^◌, ◌<◌, ◌≤◌, List, [], ◌∷◌, ◌++◌, length, get_or, take, drop, refl, ap, ◌∙◌, ap₂, pow-suc, arith, drop_of_length-le, drop-cons, shr-shr, w8, Fits}
use Rattle.std.proofs.ByRecursion.{All-from_get_or}
use Rattle.std.proofs.lemmas.List.{drop_more}
use Rattle.engine.specs.Bytes.{number, bytes, joined, words, word_bytes, AllBytes, AllWords}

-- byte q of a number
pub bytes_at : (k n q : ℕ) → q < k → get_or (bytes k n) q 0 ≡ n / 2 ^ (8 * q) % 2 ^ 8
bytes_at zero n q h = absurd (omega arith)
bytes_at (suc k) n zero h = omega arith
bytes_at (suc k) n (suc q) h =
    let e : 8 * suc q ≡ 8 + 8 * q = omega arith in
    rw (bytes_at k (n / 256) q (omega arith), e) (ap (λ x. x % 2 ^ 8) (shr-shr n 8 (8 * q)))

-- what bytes were joined to gives them back
pub bytes-number : (bs : List ℕ) → AllBytes bs → bytes (length bs) (number bs) ≡ bs
bytes-number [] h = refl
bytes-number (b ∷ bs) h =
    let l : (b + 256 * number bs) % 256 ≡ b = omega arith in
    let m : (b + 256 * number bs) / 256 ≡ number bs = omega arith in
    ap₂ ◌∷◌ l (ap (bytes (length bs)) m ∙ bytes-number bs h.1)

-- a number that was cut into bytes is joined again
pub number-bytes : (k n : ℕ) → n < 256 ^ k → number (bytes k n) ≡ n
number-bytes zero n h = omega arith
number-bytes (suc k) n h =
    let l : n < 256 ^ k * 256 = rw pow-suc at h in
    omega (arith, number-bytes k (n / 256) (omega arith))

-- the same of words
pub words-joined : (ws : List ℕ) → AllWords ws → words (length ws) (joined ws) ≡ ws
words-joined [] h = refl
words-joined (w ∷ ws) h =
    let l : (w + 2 ^ 32 * joined ws) % 2 ^ 32 ≡ w = omega arith in
    let m : (w + 2 ^ 32 * joined ws) / 2 ^ 32 ≡ joined ws = omega arith in
    ap₂ ◌∷◌ l (ap (words (length ws)) m ∙ words-joined ws h.1)

pub joined_words : (k n : ℕ) → n < (2 ^ 32) ^ k → joined (words k n) ≡ n
joined_words zero n h = omega arith
joined_words (suc k) n h =
    let l : n < (2 ^ 32) ^ k * 2 ^ 32 = rw pow-suc at h in
    omega (arith, joined_words k (n / 2 ^ 32) (omega arith))

-- the words of a number are words
pub words_small : (k n : ℕ) → AllWords (words k n)
words_small zero n = tt
words_small (suc k) n = (omega arith, words_small k (n / 2 ^ 32))

-- a list of four, item by item
pub four : (ws : List ℕ) → length ws ≡ 4 → get_or ws 0 0 ∷ get_or ws 1 0 ∷ get_or ws 2 0 ∷ get_or ws 3 0 ∷ [] ≡ ws
four ws e =
    let at : (j : ℕ) → j < 4 → drop j ws ≡ get_or ws j 0 ∷ drop (suc j) ws = λ j l. drop-cons ws j 0 (omega arith) in
    cc (at 0 (omega arith), at 1 (omega arith), at 2 (omega arith), at 3 (omega arith), drop_of_length-le ws {i = 4} (omega arith))

-- a list of three
pub three : (ws : List ℕ) → length ws ≡ 3 → get_or ws 0 0 ∷ get_or ws 1 0 ∷ get_or ws 2 0 ∷ [] ≡ ws
three ws e =
    let at : (j : ℕ) → j < 3 → drop j ws ≡ get_or ws j 0 ∷ drop (suc j) ws = λ j l. drop-cons ws j 0 (omega arith) in
    cc (at 0 (omega arith), at 1 (omega arith), at 2 (omega arith), drop_of_length-le ws {i = 3} (omega arith))

-- the bytes of two lists of words
pub word_bytes-append : (xs ys : List ℕ) → word_bytes (xs ++ ys) ≡ word_bytes xs ++ word_bytes ys
word_bytes-append [] ys = refl
word_bytes-append (x ∷ xs) ys = ap (λ r. bytes 4 x ++ r) (word_bytes-append xs ys)

-- four items of a list
pub four_at : (xs : List ℕ) (i : ℕ) → i + 4 ≤ length xs
    → take 4 (drop i xs) ≡ get_or xs i 0 ∷ get_or xs (i + 1) 0 ∷ get_or xs (i + 2) 0 ∷ get_or xs (i + 3) 0 ∷ []
four_at xs i h =
    let a = drop_more xs i 0 (omega arith) in
    let b = drop_more xs (i + 1) 0 (omega arith) in
    let c = drop_more xs (i + 1 + 1) 0 (omega arith) in
    let d = drop_more xs (i + 1 + 1 + 1) 0 (omega arith) in
    let e : i + 1 + 1 ≡ i + 2 = omega arith in
    let f : i + 1 + 1 + 1 ≡ i + 3 = omega arith in
    rw (a, b, c, d) (cc)

-- what the checker knows of a slice of bytes, said of all of them at once
pub all_bytes : (bs : List ℕ) → ((i : ℕ) → Fits w8 (get_or bs i 0)) → AllBytes bs
all_bytes bs h = All-from_get_or (λ b. b < 256) bs 0 (λ i l. omega (arith, h i))

-- the bytes of a number are bytes
pub all_bytes_of : (k n : ℕ) → AllBytes (bytes k n)
all_bytes_of zero n = tt
all_bytes_of (suc k) n = (omega arith, all_bytes_of k (n / 256))
