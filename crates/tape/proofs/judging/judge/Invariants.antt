use Rattle.std.proofs.Common.{◌≡◌, true}
use Rattle.tape.specs.Tape.{begin_of, every, entry_ordered}
use Rattle.tape.proofs.judging.judge.Given as goal

abbrev pub invariant-loop-entry : goal.invariant-loop-entry
invariant-loop-entry l = (l.end ≡ begin_of l.memory l.entry) × (every (entry_ordered l.memory) l.entry ≡ true)
