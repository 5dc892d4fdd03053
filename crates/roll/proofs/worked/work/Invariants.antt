use Rattle.std.proofs.Common.{◌≡◌, ◌+◌, ◌-◌, ◌*◌, ◌≤◌, length, take, vec_items, vec_len, vec_capacity}
use Rattle.roll.specs.Work.{all_heard}
use Rattle.roll.proofs.Works.{SoFar}
use Rattle.roll.proofs.worked.work.Given as goal

abbrev pub invariant-loop-call : goal.invariant-loop-call
invariant-loop-call g l = record {
  worked : SoFar g.R.Roll.writes (g.R.Roll.layers l.initial.roll) (g.R.Roll.bottom l.initial.roll) (g.R.Roll.bottom l.roll) (g.R.Roll.image l.initial.roll) (g.R.Roll.image l.roll) (all_heard (take l.call-index l.calls)) (vec_items l.answers) (vec_items l.texts);
  floors : g.R.Roll.layers l.roll ≡ g.R.Roll.layers l.initial.roll;
  answered : vec_len l.answers ≡ l.call-index;
  answers_fit : length l.calls ≤ vec_capacity l.answers;
  texts_fit : vec_len l.texts + 4096 * (length l.calls - l.call-index) ≤ vec_capacity l.texts;
}
