use Rattle.roll.proofs.Whole.{life}
use Rattle.roll.proofs.handing.hand_in.Goals as goal

pub returns-clause-life : goal.returns-clause-life
returns-clause-life g c = λ cs. life _ _ cs (g.R.Roll.lawful c.args.roll)
