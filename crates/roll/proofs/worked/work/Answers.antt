use Rattle.std.proofs.Common.{[], rules}
use Rattle.std.proofs.lemmas.List.{take_more}
use Rattle.roll.specs.declared.call.Call.{Call as Given}
use Rattle.roll.specs.declared.call.Call.TheVariants.{Append}
use Rattle.roll.proofs.Works.{again, all_worked}
use Rattle.roll.proofs.worked.work.Goals as goal

pub loop-call-preserved : goal.loop-call-preserved
loop-call-preserved g c =
    let none : Given = Append (record { ref_ptr = (0, 0); now = [] }) in
    let one = c.one-answer.ensures in
    let more = take_more c.args.calls.now c.loop-call.call-index none c.loop-call-test.true in
    record {
      worked =
          again _ _ _ _ _ _ _ _ _ _ c.args.calls.now c.loop-call.call-index _ _ _ _ _ _ c.loop-call.invariant.worked c.loop-call.invariant.floors
          (g.R.Roll.stands c.loop-call.roll) more one.took.stored one.took.bytes one.result c.push_reserved.ensures.items one.told;
      floors = search rules;
      answered = search rules;
      answers_fit = search rules;
      texts_fit = search rules;
    }

pub returns : goal.returns
returns g c =
    let all =
    all_worked _ _ _ _ _ _ _ _ c.args.calls.now c.loop-call.call-index _ _ (g.R.Roll.lawful c.args.roll.now) c.loop-call.invariant.worked c.loop-call.invariant.floors
    (g.R.Roll.stands c.loop-call.roll) c.loop-call-test.false in
    record { worked = all.0; unchanged = search rules; floors = search rules; bytes = all.1; room = search rules }
