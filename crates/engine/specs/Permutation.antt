-- The keyed permutation of TinyJAMBU: a shift register of 128 bits that takes in one bit a round.
-- A state is a number, of which bit j is s_j; a key is a list of bytes.
use Rattle.std.specs.Prelude.{ℕ, zero, suc, ◌+◌, ◌-◌, ◌*◌, ◌/◌, ◌%◌, ◌^◌, List, length, slice_index}

-- bit j of a number, the least bit first
abbrev pub bit : ℕ → ℕ → ℕ
bit n j = n / 2 ^ j % 2

-- bit i of a key
abbrev pub key_bit : List ℕ → ℕ → ℕ
key_bit key i = bit (slice_index key (i / 8)) (i % 8)

-- the bits of the state that a round adds up: 0, 47, 70 nand 85, and 91
abbrev pub taps : ℕ → ℕ
taps s = bit s 0 + bit s 47 + (1 - bit s 70 * bit s 85) + bit s 91

-- what round i brings in at the top
abbrev pub feedback : List ℕ → ℕ → ℕ → ℕ
feedback key i s = (taps s + key_bit key (i % (8 * length key))) % 2

-- round i: each bit takes its upper neighbour, and bit 127 what comes in
abbrev pub round : List ℕ → ℕ → ℕ → ℕ
round key i s = s / 2 + feedback key i s * 2 ^ 127

-- a run of n rounds, of index 0 to n - 1
unfoldable pub rounds : List ℕ → ℕ → ℕ → ℕ
rounds key zero s = s
rounds key (suc n) s = round key n (rounds key n s)

-- the rounds of a short run, and of a long one: 1,024, 1,152 or 1,280 for a key of 16, 24 or 32 bytes
abbrev pub short_rounds : ℕ
short_rounds = 640

abbrev pub long_rounds : List ℕ → ℕ
long_rounds key = 768 + 16 * length key
