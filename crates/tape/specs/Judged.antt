-- What is found of a memory when it is judged, blanked or checked.
use Rattle.std.specs.Prelude.{ℕ, ◌-◌, if◌then◌else◌, List, [], ◌++◌, length, Some, None, Ok, Err, Option, Result}
use Rattle.engine.specs.Bytes.{bytes}
use Rattle.refusal.specs.Refusals.{outside}
use Rattle.refusal.specs.declared.fault.Fault.{Fault}
use Rattle.refusal.specs.declared.refusal.Refusal.{Refusal}
use Rattle.refusal.specs.declared.refusal.Refusal.TheVariants.{TapeLength, TapeDisorder}
use Rattle.roll.specs.Memory.{written}
use Rattle.roll.specs.Roll.{Meaning}
use Rattle.tape.specs.declared.extent.Extent.{Extent}
use Rattle.tape.specs.Tape.{count_of, last_end, tape_length, in_order, roll_of}

-- a refusal of a length that is not that of a tape
abbrev pub tape_length_answer : ℕ → Result Unit Refusal
tape_length_answer n = if tape_length n then Ok tt else Err TapeLength

-- how many entries a memory in order has, and where the last ends
abbrev pub extent_of : List ℕ → Extent
extent_of memory = record { count = count_of memory; end = last_end memory }

-- what is found of a memory: its extent, if it is in order
abbrev pub judged : List ℕ → Option Extent
judged memory = if in_order memory then Some (extent_of memory) else None

-- its extent, or why it is not in order
abbrev pub judgement : List ℕ → Result Extent Refusal
judgement memory = if tape_length (length memory) then (if in_order memory then Ok (extent_of memory) else Err TapeDisorder) else Err TapeLength

-- the answer of the checking call: how many entries there are, or refusal 6 or 7
abbrev pub check_answer : List ℕ → Result ℕ Fault
check_answer memory =
    if tape_length (length memory) then (if in_order memory then Ok (count_of memory) else Err (outside TapeDisorder)) else Err (outside TapeLength)

-- the answer to a blanking: refusal 6 where the length is not that of a tape
abbrev pub blank_answer : ℕ → Result Unit Fault
blank_answer n = if tape_length n then Ok tt else Err (outside TapeLength)

-- an empty header under a name, for a memory of so many bytes
abbrev pub blank_header : ℕ → ℕ → List ℕ
blank_header name size = bytes 4 name ++ (bytes 4 0 ++ (bytes 4 16 ++ bytes 4 size))

-- the memory after a blanking: with the header, or as it was
abbrev pub blank_after : ℕ → List ℕ → List ℕ
blank_after name memory = if tape_length (length memory) then written 0 (blank_header name (length memory)) memory else memory

-- an empty roll on a tape of so many bytes
abbrev pub blank_roll : ℕ → ℕ → Meaning
blank_roll name size = roll_of name (size - 16) []
