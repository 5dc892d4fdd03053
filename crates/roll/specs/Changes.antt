-- What becomes of a roll of any make, by what its make says of it.
use Rattle.std.specs.Prelude.{◌≡◌, ℕ, List, Option}
use Rattle.roll.specs.declared.roll.Roll.{Ghosts}
use Rattle.roll.specs.Life.{stored, image_by}
use Rattle.roll.specs.Same.{Same}

-- it is to its caller what it was
abbrev pub Unchanged : {S : Type 0} → Ghosts S → S → S → Type 0
Unchanged make old new = Same make.meaning make.bottom make.layers make.image old new

-- it has taken a text at the top, if there is one: so are its bottom, its floors and its stored bytes
pub record Took {S : Type 0} (make : Ghosts S) (t : Option (List ℕ)) (old new : S) : Type 0 where
  pub stored : make.bottom new ≡ stored (make.layers old) (make.bottom old) t
  pub floors : make.layers new ≡ make.layers old
  pub bytes : make.image new ≡ image_by make.writes (make.layers old) (make.bottom old) (make.image old) t
