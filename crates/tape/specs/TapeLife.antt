-- The memory of a tape through the life of a pile that stands on it.
use Rattle.std.specs.Prelude.{◌≡◌, ℕ, List, length}
use Rattle.roll.specs.Floor.{Layer, sealed}
use Rattle.roll.specs.Life.{Call, Each, accepted, after, answers, image_after_all}
use Rattle.tape.specs.Tape.{InOrder, between, tape, tape_put}

-- calls cs at the top of the floors ls made the memory `end` of the memory `start`
pub record TapeLife (ls : List Layer) (start end : List ℕ) (cs : List Call) : Type 0 where
  -- it is as long as it was, and in order
  pub long : length end ≡ length start
  pub ordered : InOrder end
  -- it means what the bottom of the pile then means
  pub means : tape end ≡ after ls (tape start) cs
  -- each accepted entry, sealed by each floor from the top down, stands between its offsets
  pub stands : Each (λ k. between end k.number ≡ sealed ls (tape start) k.number k.what) (accepted cs (answers ls (tape start) cs))

-- so lives a memory in order under any floors, whatever list of calls works the pile
abbrev pub TapeLives : List ℕ → Type 0
TapeLives memory = (ls : List Layer) (cs : List Call) → InOrder memory → TapeLife ls memory (image_after_all tape_put ls (tape memory) memory cs) cs

-- a memory that is not in order is never changed
abbrev pub TapeRests : List ℕ → Type 0
TapeRests memory = (ls : List Layer) (cs : List Call) → (InOrder memory → ⊥) → image_after_all tape_put ls (tape memory) memory cs ≡ memory
