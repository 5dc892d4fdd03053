use Rattle.std.proofs.Common.{◌≡◌, ℕ, ◌+◌, ◌*◌, ◌<◌, get_or, Some, vec_items, vec_len}
use Rattle.hexadecimal.specs.Digits.{pair_value}
use Rattle.hexadecimal.proofs.digits.decode.Given as goal

-- each byte so far is that of its pair
abbrev pub invariant-loop-high : goal.invariant-loop-high
invariant-loop-high l =
    (vec_len l.bytes ≡ l.high-index)
    × ((k : ℕ) → k < l.high-index → pair_value (get_or l.text (2 * k) 0) (get_or l.text (2 * k + 1) 0) ≡ Some (get_or (vec_items l.bytes) k 0))
