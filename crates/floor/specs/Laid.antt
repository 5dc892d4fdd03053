-- What a floor is to the rolls above and below it.
use Rattle.std.specs.Prelude.{ℕ, List}
use Rattle.roll.specs.Floor.{Layer}
use Rattle.roll.specs.Kinds.{kind_byte}
use Rattle.roll.specs.declared.kind.Kind.{Kind}

-- the layer of a floor that has an engine of this key, and is of this kind
abbrev pub layer : List ℕ → Kind → Layer
layer key kind = record { key = key; kind = kind_byte kind }
