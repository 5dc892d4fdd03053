use Rattle.std.proofs.Common.{refl, ap, ◌∙◌}
use Rattle.std.specs.Result.{result_ok}
use Rattle.tape.specs.Judged.{judgement}
use Rattle.tape.proofs.Orders.{result_ok-judgement}
use Rattle.tape.proofs.TapeLives.{lives, rests}
use Rattle.tape.proofs.tape.Tape.open.Goals as goal

pub invariant_of-result : goal.invariant_of-result
invariant_of-result c =
    c.ok-extent.ensures.value ∙ ap result_ok (c.judge.ensures ∙ ap judgement c.deref.ensures.value) ∙ result_ok-judgement c.args.memory.items

pub returns : goal.returns
returns c = record { held = refl; life = lives c.args.memory.items; rests = rests c.args.memory.items }
