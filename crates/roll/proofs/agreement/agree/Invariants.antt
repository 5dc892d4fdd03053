use Rattle.std.proofs.Common.{ℕ, ◌<◌}
use Rattle.roll.specs.Roll.{entry}
use Rattle.roll.specs.Agree.{AlikeThere}
use Rattle.roll.specs.Changes.{Unchanged}
use Rattle.roll.proofs.agreement.agree.Given as goal

abbrev pub invariant-loop-number : goal.invariant-loop-number
invariant-loop-number g l = record {
  alike : (i : ℕ) → i < l.number → AlikeThere (entry (g.R.Roll.meaning l.initial.left) i) (entry (g.S.Roll.meaning l.initial.right) i);
  left : Unchanged g.R.Roll l.initial.left l.left;
  right : Unchanged g.S.Roll l.initial.right l.right;
}
