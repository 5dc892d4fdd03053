use Rattle.roll.proofs.Whole.{life}
use Rattle.floor.proofs.floor.FloorLay.lay.Goals as goal

pub returns-clause-life : goal.returns-clause-life
returns-clause-life g c = λ cs. life _ _ cs (g.R.Roll.lawful c.args.below)
