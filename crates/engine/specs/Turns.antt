-- Thirty-two rounds at once.
use Rattle.std.specs.Prelude.{◌≡◌, ℕ, ◌+◌, ◌-◌, ◌/◌, ◌%◌, ◌^◌, ◌<◌, List, map, length, refl}
use Rattle.std.proofs.lemmas.List.{length-map}
use Rattle.engine.specs.Permutation.{bit, taps}

-- r is the word that thirty-two rounds bring in above the state s, with the word k of the key
abbrev pub Brings : ℕ → ℕ → ℕ → Type 0
Brings s k r = (j : ℕ) → j < 32 → bit r j ≡ (taps (s / 2 ^ j) + bit k j) % 2

-- the complement of a word, and of words
abbrev pub flip : ℕ → ℕ
flip w = 2 ^ 32 - 1 - w

abbrev pub flipped : List ℕ → List ℕ
flipped ws = map flip ws

-- there are as many
pub length-flipped : (ws : List ℕ) → length (flipped ws) ≡ length ws
length-flipped ws = rw length-map refl
