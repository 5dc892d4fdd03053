-- Bytes in hexadecimal.
use Rattle.std.specs.Prelude.{◌≡◌, ℕ, ◌+◌, ◌-◌, ◌*◌, ◌%◌, ◌<◌, Bool, if◌then◌else◌, ◌&&◌, List, length, Some, None, Option, nat_le, slice_index}
use Rattle.hexadecimal.specs.declared.fault.HexFault.{HexFault}
use Rattle.hexadecimal.specs.declared.fault.HexFault.TheVariants.{OddLength, NotADigit, NoMemory}

-- the value of a digit: 0 to 9, A to F or a to f
abbrev pub between : ℕ → ℕ → ℕ → Bool
between low high b = nat_le low b && nat_le b high

abbrev pub digit_value : ℕ → Option ℕ
digit_value b =
    if between 48 57 b then Some (b - 48)
    else if between 65 70 b then Some (b - 55)
    else if between 97 102 b then Some (b - 87)
    else None

-- the byte of two digits, if both are digits
abbrev pub both : Option ℕ → Option ℕ → Option ℕ
both None l = None
both (Some h) None = None
both (Some h) (Some l) = Some (16 * h + l)

abbrev pub pair_value : ℕ → ℕ → Option ℕ
pair_value high low = both (digit_value high) (digit_value low)

-- a text spells bytes: each pair of its digits is the byte at that place
pub record Spells (text bytes : List ℕ) : Type 0 where
  pub long : length text ≡ 2 * length bytes
  pub each : (k : ℕ) → k < length bytes → pair_value (slice_index text (2 * k)) (slice_index text (2 * k + 1)) ≡ Some (slice_index bytes k)

-- what a fault says of the text
abbrev pub Refuses : HexFault → List ℕ → Type 0
Refuses OddLength text = length text % 2 ≡ 1
Refuses NotADigit text = (length text % 2 ≡ 0) × ((k : ℕ) × (2 * k + 1 < length text) × (pair_value (slice_index text (2 * k)) (slice_index text (2 * k + 1)) ≡ None))
Refuses NoMemory text = (length text % 2 ≡ 0) × (0 < length text)
