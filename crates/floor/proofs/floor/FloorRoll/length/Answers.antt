use Rattle.std.proofs.Common.{rules}
use Rattle.floor.proofs.Floors.{length_none, length_less}
use Rattle.floor.proofs.floor.FloorRoll.length.Goals as goal

pub returns : goal.returns
returns g c = search (rules, length_none, length_less)
