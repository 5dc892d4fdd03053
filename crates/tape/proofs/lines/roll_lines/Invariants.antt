use Rattle.std.proofs.Common.{◌≡◌, ◌++◌, take, string_bytes}
use Rattle.tape.specs.Listing.{roll_line, entry_lines}
use Rattle.tape.proofs.lines.roll_lines.Given as goal

abbrev pub invariant-loop-number : goal.invariant-loop-number
invariant-loop-number g l =
    string_bytes l.lines ≡ roll_line (g.R.Roll.meaning l.roll) ++ entry_lines 0 (take l.number-counter (g.R.Roll.meaning l.roll).entries)
