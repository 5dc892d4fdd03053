use Rattle.std.proofs.Common.{refl}
use Rattle.std.proofs.lemmas.Bool.Decides.{Decides-eqb}
use Rattle.std.proofs.lemmas.Slice.Eq.{slice_eq-Decides}
use Rattle.roll.proofs.Reading.{gave, kept_back}
use Rattle.roll.proofs.Agreements.{texts_alike, broken_alike}
use Rattle.roll.proofs.agreement.alike.Goals as goal

pub returns-in-Ok-Ok-clause-exact : goal.returns-in-Ok-Ok-clause-exact
returns-in-Ok-Ok-clause-exact g c =
    let d = gave _ _ _ _ (g.R.Roll.lawful_top c.args.left.now) c.read.ensures.answer c.read.ensures.out _ c.in-Ok-Ok.is-0 in
    let e = gave _ _ _ _ (g.S.Roll.lawful_top c.args.right.now) c.read-2.ensures.answer c.read-2.ensures.out _ c.in-Ok-Ok.is-1 in
    texts_alike _ _ _ _ c.eq.result d e (slice_eq-Decides Decides-eqb _ _ _ c.eq.ensures)

pub returns-in-Err-Err-clause-exact : goal.returns-in-Err-Err-clause-exact
returns-in-Err-Err-clause-exact g c =
    let d = kept_back _ _ _ _ (g.R.Roll.lawful_top c.args.left.now) c.read.ensures.answer c.read.ensures.out _ c.requires.left c.in-Err-Err.is-0 in
    let e = kept_back _ _ _ _ (g.S.Roll.lawful_top c.args.right.now) c.read-2.ensures.answer c.read-2.ensures.out _ c.requires.right c.in-Err-Err.is-1 in
    (λ _. broken_alike _ _ d e, λ _. refl)
