-- When two rolls agree.
use Rattle.std.specs.Prelude.{◌≡◌, ℕ, Some, None, Option}
use Rattle.roll.specs.Roll.{Meaning, Entry, text, broken, count, entry}

-- two entries are alike: they are the same text, or both are broken
abbrev pub Alike : Entry → Entry → Type 0
Alike (text t) (text u) = t ≡ u
Alike (text t) (broken f n) = ⊥
Alike (broken f n) (text t) = ⊥
Alike (broken f n) (broken g k) = Unit {0}

-- what two rolls have under one number is alike: an entry in each, or in neither
abbrev pub AlikeThere : Option Entry → Option Entry → Type 0
AlikeThere None None = Unit {0}
AlikeThere None (Some e) = ⊥
AlikeThere (Some d) None = ⊥
AlikeThere (Some d) (Some e) = Alike d e

-- two rolls agree: they have as many entries, and at every number what they have is alike
pub record Agree (m n : Meaning) : Type 0 where
  pub counted : count m ≡ count n
  pub alike : (i : ℕ) → AlikeThere (entry m i) (entry n i)
