use Rattle.std.proofs.Common.{sym, ◌∙◌}
use Rattle.roll.specs.Laws.{raised-count}
use Rattle.floor.proofs.floor.FloorRoll.count.Goals as goal

pub returns : goal.returns
returns g c = c.count.ensures ∙ sym (raised-count _ _)
