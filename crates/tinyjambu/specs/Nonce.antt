-- A nonce as it is given to a whole call.
use Rattle.std.specs.Prelude.{ℕ, if◌then◌else◌, List, [], ◌∷◌, length, take, drop, Some, None, Option, ◌==◌}
use Rattle.engine.specs.Bytes.{number}

-- a nonce of twelve bytes as three words
abbrev pub nonce_words : List ℕ → Option (List ℕ)
nonce_words n = if length n == 12 then Some (number (take 4 n) ∷ number (take 4 (drop 4 n)) ∷ number (take 4 (drop 8 n)) ∷ []) else None
