-- The sizes of a key, a key by its bytes, and what filling one answers and leaves.
use Rattle.std.specs.Prelude.{◌≡◌, ℕ, ◌*◌, ◌%◌, ◌≤◌, Bool, ◌||◌, List, length, take, Ok, Err, Result, ◌==◌, if◌then◌else◌}
use Rattle.std.proofs.Common.{length-take-le, arith}
use Rattle.refusal.specs.declared.fault.Fault.{Fault}
use Rattle.refusal.specs.declared.refusal.Refusal.{Refusal}
use Rattle.refusal.specs.declared.refusal.Refusal.TheVariants.{KeyLength}
use Rattle.engine.specs.declared.key_size.KeySize.{KeySize}
use Rattle.engine.specs.declared.key_size.KeySize.TheVariants.{Bits128, Bits192, Bits256}
use Rattle.engine.specs.Bytes.{word_bytes, length-word_bytes}
use Rattle.refusal.specs.Refusals.{outside}

-- the words of a key, and its bytes, by its size
abbrev pub size_words : KeySize → ℕ
size_words Bits128 = 4
size_words Bits192 = 6
size_words Bits256 = 8

abbrev pub size_bytes : KeySize → ℕ
size_bytes s = 4 * size_words s

-- a key is 16, 24 or 32 bytes long
abbrev pub is_key_size : ℕ → Bool
is_key_size n = n == 16 || n == 24 || n == 32

-- the size of a key of so many bytes, or refusal 1
abbrev pub size_of : ℕ → Result KeySize Refusal
size_of n = if n == 16 then Ok Bits128 else if n == 24 then Ok Bits192 else if n == 32 then Ok Bits256 else Err KeyLength

-- the bytes of a key that is held in the first words of a list
abbrev pub key_of : List ℕ → ℕ → List ℕ
key_of words used = word_bytes (take used words)

-- what the length of every key keeps
pub record HasKeySize (key : List ℕ) : Type 0 where
  pub least : 16 ≤ length key
  pub most : length key ≤ 32
  pub eights : length key % 8 ≡ 0

-- filling a key: the answer, and the key afterwards
abbrev pub fill_answer : List ℕ → Result Unit Fault
fill_answer bytes = if is_key_size (length bytes) then Ok tt else Err (outside KeyLength)

abbrev pub fill_after : List ℕ → List ℕ → List ℕ
fill_after key bytes = if is_key_size (length bytes) then bytes else key

-- words in use that are 4, 6 or 8 make such a key
pub key_of_sized : (ws : List ℕ) (u : ℕ) → 4 ≤ u → u ≤ 8 → u % 2 ≡ 0 → u ≤ length ws → HasKeySize (key_of ws u)
key_of_sized ws u h l e m =
    let n = length-word_bytes (take u ws) in
    let k = length-take-le u ws m in
    record { least = omega arith; most = omega arith; eights = omega arith }

-- so do as many as a size says
pub words_sized : (ws : List ℕ) (s : KeySize) → length ws ≡ 8 → HasKeySize (key_of ws (size_words s))
words_sized ws Bits128 e = key_of_sized ws 4 (omega arith) (omega arith) (omega arith) (omega arith)
words_sized ws Bits192 e = key_of_sized ws 6 (omega arith) (omega arith) (omega arith) (omega arith)
words_sized ws Bits256 e = key_of_sized ws 8 (omega arith) (omega arith) (omega arith) (omega arith)
