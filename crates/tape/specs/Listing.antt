-- The lines that list a tape.
use Rattle.std.specs.Prelude.{ℕ, ◌+◌, List, [], ◌∷◌, ◌++◌, Ok, Err, codes, decimal, Result}
use Rattle.refusal.specs.Refusals.{refusal_number}
use Rattle.refusal.specs.declared.fault.Fault.{Fault}
use Rattle.roll.specs.Roll.{Meaning, Entry, entry_length, count}
use Rattle.tape.specs.Tape.{tape}
use Rattle.tape.specs.Judged.{check_answer}

-- a line for the roll: its name, how many entries it has, and its space
abbrev pub roll_line : Meaning → List ℕ
roll_line m =
    codes "roll " ++ (decimal m.name ++ (codes " entries " ++ (decimal (count m) ++ (codes " space " ++ (decimal m.space ++ codes "\n")))))

-- a line for an entry: its number and its length
abbrev pub entry_line : ℕ → Entry → List ℕ
entry_line i e = decimal i ++ (codes " " ++ (decimal (entry_length e) ++ codes "\n"))

-- the lines of entries that are numbered from i on
abbrev pub entry_lines : ℕ → List Entry → List ℕ
entry_lines i [] = []
entry_lines i (e ∷ es) = entry_line i e ++ entry_lines (i + 1) es

-- all lines of a roll
abbrev pub roll_lines : Meaning → List ℕ
roll_lines m = roll_line m ++ entry_lines 0 m.entries

-- the only line of a memory that is refused
abbrev pub refused_line : Fault → List ℕ
refused_line f = codes "refused " ++ (decimal (refusal_number f.refusal) ++ codes "\n")

-- the lines for what the checking call answers
abbrev pub lines_by : Meaning → Result ℕ Fault → List ℕ
lines_by m (Ok n) = roll_lines m
lines_by m (Err f) = refused_line f

-- the lines for a memory
abbrev pub listing : List ℕ → List ℕ
listing memory = lines_by (tape memory) (check_answer memory)
