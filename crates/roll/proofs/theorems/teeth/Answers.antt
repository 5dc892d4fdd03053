use Rattle.roll.proofs.Bites.{blank_lawful, both-accepted, unsealed_fails, uncounted_fails, twice_fails, miserly_fails, silent_fails}
use Rattle.roll.proofs.theorems.teeth.Goals as goal

pub returns : goal.returns
returns c = record { lawful = blank_lawful; accepted = both-accepted; unsealed = unsealed_fails; uncounted = uncounted_fails; twice = twice_fails; miserly = miserly_fails; silent = silent_fails }
