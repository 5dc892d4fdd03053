-- Bytes as one number, and words of 32 bits as one number; the least comes first in both.
use Rattle.std.specs.Prelude.{◌≡◌, ℕ, zero, suc, ◌+◌, ◌*◌, ◌/◌, ◌%◌, ◌^◌, ◌<◌, List, [], ◌∷◌, ◌++◌, length, refl}
use Rattle.std.proofs.Common.{arith}
use Rattle.std.specs.List.{AllByRecursion}

-- bytes as one number, and a number as so many bytes
abbrev pub number : List ℕ → ℕ
number [] = 0
number (b ∷ bs) = b + 256 * number bs

abbrev pub bytes : ℕ → ℕ → List ℕ
bytes zero n = []
bytes (suc k) n = n % 256 ∷ bytes k (n / 256)

-- words as one number, and a number as so many words
abbrev pub joined : List ℕ → ℕ
joined [] = 0
joined (w ∷ ws) = w + 2 ^ 32 * joined ws

abbrev pub words : ℕ → ℕ → List ℕ
words zero n = []
words (suc k) n = n % 2 ^ 32 ∷ words k (n / 2 ^ 32)

-- the bytes of words
abbrev pub word_bytes : List ℕ → List ℕ
word_bytes [] = []
word_bytes (w ∷ ws) = bytes 4 w ++ word_bytes ws

pub length-word_bytes : (ws : List ℕ) → length (word_bytes ws) ≡ 4 * length ws
length-word_bytes [] = refl
length-word_bytes (w ∷ ws) = omega (arith, length-word_bytes ws)

-- each is a byte; each is a word
abbrev pub AllBytes : List ℕ → Type 0
AllBytes bs = AllByRecursion (λ b. b < 256) bs

abbrev pub AllWords : List ℕ → Type 0
AllWords ws = AllByRecursion (λ w. w < 2 ^ 32) ws
