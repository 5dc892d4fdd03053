use Rattle.roll.proofs.Whole.{life}
use Rattle.roll.proofs.theorems.whole_life.Goals as goal

pub returns : goal.returns
returns c = record { life = life }
