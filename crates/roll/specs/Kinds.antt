-- The kinds of floors by their bytes.
use Rattle.std.specs.Prelude.{ℕ}
use Rattle.roll.specs.declared.kind.Kind.{Kind}
use Rattle.roll.specs.declared.kind.Kind.TheVariants.{Scene, Preview, Lock}

-- the byte of a kind
abbrev pub kind_byte : Kind → ℕ
kind_byte Scene = 1
kind_byte Preview = 2
kind_byte Lock = 3
