-- The nonce and the associated data of a label, as bytes.
use Rattle.std.specs.Prelude.{ℕ, List, [], ◌∷◌}
use Rattle.roll.specs.Floor.{nonce}
use Rattle.roll.specs.Kinds.{kind_byte}
use Rattle.roll.specs.declared.label.Label.{Label}

abbrev pub nonce_of : Label → List ℕ
nonce_of l = nonce l.nonce.name l.nonce.floor l.nonce.entry

abbrev pub data_of : Label → List ℕ
data_of l = kind_byte l.kind ∷ []
