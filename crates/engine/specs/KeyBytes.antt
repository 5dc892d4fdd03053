-- A key as its bytes, and the bytes of a key whose words are held by their complements.
use Rattle.std.specs.Prelude.{◌≡◌, ℕ, true, false, List, length, Result, MatchResult}
use Rattle.refusal.specs.declared.refusal.Refusal.{Refusal}
use Rattle.refusal.specs.declared.refusal.Refusal.TheVariants.{KeyLength}
use Rattle.std.proofs.Common.{◌∙◌}
use Rattle.engine.specs.declared.key.Key.{Key}
use Rattle.engine.specs.declared.key_words.KeyWords.{KeyWords}
use Rattle.engine.specs.Keys.{HasKeySize, key_of, size_words, is_key_size, words_sized}
use Rattle.engine.specs.Turns.{flipped, length-flipped}

-- the bytes of a key
abbrev pub key_bytes : Key → List ℕ
key_bytes k = key_of k.words.words (size_words k.words.size)

-- the bytes of the key of which these words are the complements
abbrev pub flipped_key : KeyWords → List ℕ
flipped_key w = key_of (flipped w.words) (size_words w.size)

-- there are 16, 24 or 32 of them
pub key_sized : (k : Key) → HasKeySize (key_bytes k)
key_sized k = words_sized k.words.words k.words.size k.words.stored

pub flipped_key-sized : (w : KeyWords) → HasKeySize (flipped_key w)
flipped_key-sized w = words_sized (flipped w.words) w.size (length-flipped w.words ∙ w.stored)

-- what becomes of bytes: a key of exactly these, or refusal 1 where they are not 16, 24 or 32
abbrev pub IsKeyOf : List ℕ → Result Key Refusal → Type 0
IsKeyOf bytes result = MatchResult result
    (λ key. (is_key_size (length bytes) ≡ true) × (key_bytes key ≡ bytes))
    (λ refusal. (is_key_size (length bytes) ≡ false) × (refusal ≡ KeyLength))
