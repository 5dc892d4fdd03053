-- The layer that a floor is.
use Rattle.std.specs.Prelude.{ℕ, List}
use Rattle.roll.specs.Floor.{Layer}
use Rattle.floor.specs.Laid.{layer}
use Rattle.floor.specs.declared.floor.Floor.{Floor}

-- by its engine, of which `key` gives the key, and its kind
abbrev pub own_layer : {R E : Type 0} → (E → List ℕ) → Floor R E → Layer
own_layer key f = layer (key f.engine) f.kind
