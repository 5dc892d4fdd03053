-- A message that comes in pieces.
use Rattle.std.specs.Prelude.{ℕ, List, [], ◌∷◌, ◌++◌}
use Rattle.std.specs.Borrow.{Bor}

-- the pieces joined
abbrev pub message : List (Bor (List ℕ)) → List ℕ
message [] = []
message (p ∷ ps) = p.now ++ message ps
