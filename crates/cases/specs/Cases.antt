-- The worked cases at the edges, as one table.
use Rattle.std.specs.Prelude.{◌≡◌, ℕ, ◌^◌, ◌<◌, ◌≤◌, List, [], ◌∷◌, length, replicate, Ok, Err}
use Rattle.refusal.specs.declared.refusal.Refusal.TheVariants.{EntryTooLong, NoSpace}
use Rattle.engine.specs.Bytes.{words}
use Rattle.engine.specs.Permutation.{bit, rounds}
use Rattle.roll.specs.Roll.{count, append_answer}
use Rattle.refusal.specs.Refusals.{fault}
use Rattle.roll.specs.Floor.{Layer, nonce, piled}
use Rattle.pocket.specs.Pocket.{pocket}
use Rattle.tape.specs.Tape.{InOrder, tape}
use Rattle.tape.specs.Judged.{blank_after}

-- it holds of a key of n equal bytes, for each size of key
abbrev pub EachSize : (ℕ → Type 0) → Type 0
EachSize P = P 16 × P 24 × P 32

-- the runs of a state of zeros
pub record Runs : Type 0 where
  -- under a key of zeros, one round sets bit 127 only, 32 rounds fill the last of the four words, and the round of index 37 then brings in 0
  pub one : EachSize (λ n. rounds (replicate n 0) 1 0 ≡ 2 ^ 127)
  pub word : EachSize (λ n. words 4 (rounds (replicate n 0) 32 0) ≡ 0 ∷ 0 ∷ 0 ∷ 0xffffffff ∷ [])
  pub falls : EachSize (λ n. bit (rounds (replicate n 0) 38 0) 127 ≡ 0)
  -- under a key of ones, 640 rounds leave zeros
  pub still : EachSize (λ n. rounds (replicate n 255) 640 0 ≡ 0)

-- small blank tapes under any name, and one floor on such a tape
pub record Blanks : Type 0 where
  pub takes : (name : ℕ) (memory : List ℕ) → name < 2 ^ 32 → length memory ≡ 20 → append_answer (tape (blank_after name memory)) [] ≡ Ok 0
  pub refuses : (name : ℕ) (memory : List ℕ) → name < 2 ^ 32 → length memory ≡ 16 → append_answer (tape (blank_after name memory)) [] ≡ Err (fault NoSpace 0 0)
  pub floor_takes : (l : Layer) (name : ℕ) (memory : List ℕ) → name < 2 ^ 32 → length memory ≡ 28 → append_answer (piled (l ∷ []) (tape (blank_after name memory))) [] ≡ Ok 0
  pub floor_refuses : (l : Layer) (name : ℕ) (memory : List ℕ) → name < 2 ^ 32 → length memory ≡ 27 → append_answer (piled (l ∷ []) (tape (blank_after name memory))) [] ≡ Err (fault NoSpace 1 0)

-- floors on a tape in order
pub record Floors : Type 0 where
  -- one floor refuses 4,089 bytes as too long, and takes 4,088 where a number is free and the space is at least 4,100
  pub refuses : (l : Layer) (memory t : List ℕ) → InOrder memory → length t ≡ 4089 → append_answer (piled (l ∷ []) (tape memory)) t ≡ Err (fault EntryTooLong 1 (count (tape memory)))
  pub takes : (l : Layer) (memory t : List ℕ) → InOrder memory → length t ≡ 4088 → count (tape memory) < 4095 → 4100 ≤ (tape memory).space
      → append_answer (piled (l ∷ []) (tape memory)) t ≡ Ok (count (tape memory))
  -- under 512 floors the bound is 1, and under 513 it is 0
  pub one : (ls : List Layer) (memory : List ℕ) → InOrder memory → length ls ≡ 512 → (piled ls (tape memory)).bound ≡ 1
  pub none : (ls : List Layer) (memory : List ℕ) → InOrder memory → length ls ≡ 513 → (piled ls (tape memory)).bound ≡ 0

-- the table
pub record Table : Type 0 where
  pub runs : Runs
  -- name 7, floor 2 and entry 300 make this nonce
  pub nonce : nonce 7 2 300 ≡ 0x07 ∷ 0 ∷ 0 ∷ 0 ∷ 0x02 ∷ 0 ∷ 0 ∷ 0 ∷ 0x2c ∷ 0x01 ∷ 0 ∷ 0 ∷ []
  pub blanks : Blanks
  pub floors : Floors
  -- under one floor, 56 bytes charge a pocket one page and 57 charge it two
  pub page : (l : Layer) (name : ℕ) (bytes lengths : List ℕ) → (piled (l ∷ []) (pocket name bytes lengths)).charge 56 ≡ 64
  pub pages : (l : Layer) (name : ℕ) (bytes lengths : List ℕ) → (piled (l ∷ []) (pocket name bytes lengths)).charge 57 ≡ 128
