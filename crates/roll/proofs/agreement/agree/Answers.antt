use Rattle.std.proofs.Common.{refl, arith}
use Rattle.roll.proofs.Agreements.{all_alike}
use Rattle.roll.proofs.agreement.agree.Goals as goal

pub returns-clause-exact : goal.returns-clause-exact
returns-clause-exact g c =
    (λ _. all_alike (g.R.Roll.meaning c.args.left.now) (g.S.Roll.meaning c.args.right.now) (omega arith) (λ i h. c.loop-number.invariant.alike i (omega arith)), λ _. refl)
