-- What a pocket holds, by its fields, and that it keeps the laws of a roll.
use Rattle.std.specs.Prelude.{◌≡◌, ℕ, List}
use Rattle.roll.specs.Roll.{Meaning, Lawful}
use Rattle.pocket.specs.declared.pocket.Pocket.{Pocket}
use Rattle.pocket.specs.Pocket.{pocket, pocket_put, pocket_writes}
use Rattle.pocket.specs.PocketLaws.{few_fit, pocket_lawful, pocket_puts}

-- the roll that it is
abbrev pub roll_of : Pocket → Meaning
roll_of p = pocket p.name p.bytes p.lengths.items

-- its pages, and those after an accepted append of a text
abbrev pub pages_of : Pocket → List ℕ
pages_of p = p.bytes

abbrev pub pages_with : Pocket → List ℕ → List ℕ
pages_with p t = pocket_put p.bytes p.lengths.items t

-- it is lawful, and its appends put what the roll and the pages say
pub roll_lawful : (p : Pocket) → Lawful (roll_of p)
roll_lawful p = pocket_lawful p.name p.bytes p.lengths.items p.whole (few_fit p.lengths.items p.fits)

pub pages_put : (p : Pocket) (t : List ℕ) → pages_with p t ≡ pocket_writes (roll_of p) (pages_of p) t
pages_put p t = pocket_puts p.name p.bytes p.lengths.items t p.fits
