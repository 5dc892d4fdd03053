-- What a memory means as a tape: a header of 16 bytes, the entries one behind the other, and at the end of the memory where each of them ends.
use Rattle.std.specs.Prelude.{◌≡◌, ℕ, zero, suc, ◌+◌, ◌-◌, ◌*◌, ◌<◌, ◌≤◌, Bool, true, if◌then◌else◌, ◌&&◌, List, [], map, length, ◌==◌, nat_le, nat_lt}
use Rattle.std.specs.List.{range_with_len}
use Rattle.engine.specs.Bytes.{number, bytes}
use Rattle.roll.specs.Memory.{part, written}
use Rattle.roll.specs.Roll.{Meaning, Entry, text, Put}

-- the number in the four bytes at a place, the least byte first
abbrev pub word : ℕ → List ℕ → ℕ
word at memory = number (part at 4 memory)

-- the header: the name, how many entries there are, where the first begins, and how long the memory is
abbrev pub name_of : List ℕ → ℕ
name_of memory = word 0 memory

abbrev pub count_of : List ℕ → ℕ
count_of memory = word 4 memory

abbrev pub first_of : List ℕ → ℕ
first_of memory = word 8 memory

abbrev pub size_of : List ℕ → ℕ
size_of memory = word 12 memory

-- where entry i ends: the ends stand at the end of the memory, that of entry 0 in the last four bytes
abbrev pub end_of : List ℕ → ℕ → ℕ
end_of memory i = word (length memory - 4 * (i + 1)) memory

-- where entry i begins: the first behind the header, each other at the end of the one before
abbrev pub begin_of : List ℕ → ℕ → ℕ
begin_of memory zero = 16
begin_of memory (suc i) = end_of memory i

-- the end of the last entry, or of the header without entries
abbrev pub last_end : List ℕ → ℕ
last_end memory = begin_of memory (count_of memory)

-- a memory is in order
pub record InOrder (memory : List ℕ) : Type 0 where
  -- it is long enough and not too long, and the header says how long it is, and where the first entry begins
  pub long : 16 ≤ length memory
  pub short : length memory ≤ 65536
  pub sized : size_of memory ≡ length memory
  pub first : first_of memory ≡ 16
  -- there are at most 4,095 entries, and their ends have room behind the header
  pub few : count_of memory ≤ 4095
  pub room : 16 + 4 * count_of memory ≤ length memory
  -- no entry ends before it begins, and none passes 4,096 bytes
  pub rising : (i : ℕ) → i < count_of memory → begin_of memory i ≤ end_of memory i
  pub small : (i : ℕ) → i < count_of memory → end_of memory i ≤ begin_of memory i + 4096
  -- the last entry ends before the ends of the entries stand
  pub apart : last_end memory ≤ length memory - 4 * count_of memory

-- every number below n passes a test
abbrev pub every : (ℕ → Bool) → ℕ → Bool
every test zero = true
every test (suc n) = test n && every test n

-- an entry ends where it may
abbrev pub entry_ordered : List ℕ → ℕ → Bool
entry_ordered memory i = nat_le (begin_of memory i) (end_of memory i) && nat_le (end_of memory i) (begin_of memory i + 4096)

-- whether a length is that of a tape
abbrev pub tape_length : ℕ → Bool
tape_length n = nat_le 16 n && nat_le n 65536

-- the header of a memory that is long enough is in order
abbrev pub header_ordered : List ℕ → Bool
header_ordered memory =
    (size_of memory == length memory) && (first_of memory == 16
    && (nat_le (count_of memory) 4095 && nat_le (16 + 4 * count_of memory) (length memory)))

-- whether a memory is in order
unfoldable pub in_order : List ℕ → Bool
in_order memory =
    tape_length (length memory) && (header_ordered memory
    && (every (entry_ordered memory) (count_of memory) && nat_le (last_end memory) (length memory - 4 * count_of memory)))

-- entry i, which stands between its beginning and its end
abbrev pub between : List ℕ → ℕ → List ℕ
between memory i = part (begin_of memory i) (end_of memory i - begin_of memory i) memory

abbrev pub tape_entry : List ℕ → ℕ → Entry
tape_entry memory i = text (between memory i)

-- what an entry costs: its bytes and the four of its end
abbrev pub tape_charge : ℕ → ℕ
tape_charge n = if nat_lt n 4097 then n + 4 else 0

-- a roll of this name, space and entries on a tape
abbrev pub roll_of : ℕ → ℕ → List Entry → Meaning
roll_of name space entries = record { name = name; floor = 0; bound = 4097; space = space; charge = tape_charge; entries = entries }

-- what a memory in order means
abbrev pub ordered_tape : List ℕ → Meaning
ordered_tape memory = roll_of (name_of memory) (length memory - 4 * count_of memory - last_end memory) (map (tape_entry memory) (range_with_len 0 (count_of memory)))

-- what any other means: a roll with nothing
abbrev pub nothing : Meaning
nothing = record { name = 0; floor = 0; bound = 0; space = 0; charge = λ n. 0; entries = [] }

-- what a memory means
unfoldable pub tape : List ℕ → Meaning
tape memory = if in_order memory then ordered_tape memory else nothing

-- the memory with an entry written behind the last one, which ends at `end`, then where it ends, then how many entries there are
abbrev pub entry_put : ℕ → ℕ → List ℕ → List ℕ → List ℕ
entry_put count end memory t =
    written 4 (bytes 4 (count + 1))
    (written (length memory - 4 * (count + 1)) (bytes 4 (end + length t))
    (written end t memory))

-- so an accepted text is written
unfoldable pub tape_put : Put
tape_put m memory t = entry_put (count_of memory) (last_end memory) memory t
