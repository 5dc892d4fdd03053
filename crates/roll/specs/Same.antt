-- That a roll is to its caller what it was.
use Rattle.std.specs.Prelude.{◌≡◌, ℕ, List}
use Rattle.roll.specs.Roll.{Meaning}
use Rattle.roll.specs.Floor.{Layer}

-- what a roll means, what it stands on, its floors and its stored bytes, which are four ghost members of its make, are as they were
pub record Same {S : Type 0} (meaning bottom : S → Meaning) (layers : S → List Layer) (image : S → List ℕ) (old new : S) : Type 0 where
  pub means : meaning new ≡ meaning old
  pub stands : bottom new ≡ bottom old
  pub floors : layers new ≡ layers old
  pub bytes : image new ≡ image old
