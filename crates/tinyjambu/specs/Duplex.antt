-- The cipher at work on bytes that come one after another, however they are cut into pieces. Four of them make a block: its run is done
-- when its first byte comes, and what is left of the last block is marked when the phase ends.
-- Here s is the state, k the number of bytes in the open block, and `run` what a phase does to the state before each block.
use Rattle.std.specs.Prelude.{ℕ, ◌+◌, ◌*◌, ◌/◌, ◌%◌, ◌^◌, if◌then◌else◌, List, [], ◌∷◌, ◌==◌, bit_xor}
use Rattle.engine.specs.Permutation.{rounds, short_rounds, long_rounds}
use Rattle.tinyjambu.specs.Mode.{frame}
use Rattle.tinyjambu.specs.declared.phase.Phase.{Phase}
use Rattle.tinyjambu.specs.declared.phase.Phase.TheVariants.{Nonce, Data, Text, FirstTag, LastTag}
use Rattle.tinyjambu.specs.declared.direction.Direction.{Direction}
use Rattle.tinyjambu.specs.declared.direction.Direction.TheVariants.{Sealing, Opening}

-- the frame bits of each phase
abbrev pub frame_bits : Phase → ℕ
frame_bits Nonce = 1
frame_bits Data = 3
frame_bits Text = 5
frame_bits FirstTag = 7
frame_bits LastTag = 7

-- how many rounds the run of each phase has
abbrev pub phase_rounds : Phase → List ℕ → ℕ
phase_rounds Nonce key = short_rounds
phase_rounds Data key = short_rounds
phase_rounds Text key = long_rounds key
phase_rounds FirstTag key = long_rounds key
phase_rounds LastTag key = short_rounds

-- the run of a phase: of a nonce word, before each block of data and of text, and for the two halves of the tag
abbrev pub phase_run : Phase → List ℕ → ℕ → ℕ
phase_run phase key s = rounds key (phase_rounds phase key) (frame (frame_bits phase) s)

-- the state that the next byte meets
abbrev pub entered : (ℕ → ℕ) → ℕ → ℕ → ℕ
entered run k s = if k == 0 then run s else s

-- the state after a byte, which goes in from s96 upward
abbrev pub fed_byte : (ℕ → ℕ) → ℕ → ℕ → ℕ → ℕ
fed_byte run k s b = bit_xor (entered run k s) (b * 2 ^ (96 + 8 * k))

-- the state after bytes
abbrev pub fed : (ℕ → ℕ) → ℕ → ℕ → List ℕ → ℕ
fed run k s [] = s
fed run k s (b ∷ bs) = fed run ((k + 1) % 4) (fed_byte run k s b) bs

-- what bytes are sealed to: each is xored with its byte of s64 to s95
abbrev pub sealed_byte : (ℕ → ℕ) → ℕ → ℕ → ℕ → ℕ
sealed_byte run k s b = bit_xor b (entered run k s / 2 ^ (64 + 8 * k) % 256)

abbrev pub sealed_bytes : (ℕ → ℕ) → ℕ → ℕ → List ℕ → List ℕ
sealed_bytes run k s [] = []
sealed_bytes run k s (b ∷ bs) = sealed_byte run k s b ∷ sealed_bytes run ((k + 1) % 4) (fed_byte run k s b) bs

-- the state at the end of a phase
abbrev pub closed : ℕ → ℕ → ℕ
closed k s = if k == 0 then s else bit_xor s (k * 2 ^ 32)

-- which of input and output is the text
abbrev pub text_of : {A : Type 0} → Direction → A → A → A
text_of Sealing input output = input
text_of Opening input output = output

abbrev pub sealed_of : {A : Type 0} → Direction → A → A → A
sealed_of Sealing input output = output
sealed_of Opening input output = input
