-- The whole life of a pile: what it is at the top is the life of one roll, and what stands below are its sealings.
use Rattle.std.proofs.Common.{List, [], Some, sym, ap, ◌∙◌, subst, subst₂, arith}
use Rattle.roll.specs.Roll.{Meaning, Lawful, count, text}
use Rattle.roll.specs.Floor.{Layer, piled}
use Rattle.roll.specs.Life.{Call, Kept, WholeLife, after, answers, accepted, Fair}
use Rattle.roll.proofs.Rolls.{Ran, ran, reads-entry, gives-entry, refused_dear, dear_refused, fair}
use Rattle.roll.proofs.Piles.{piled_lawful, entry_down, entry_up, sealed-one, sealed-after, top_after, top_answers}
use Rattle.roll.proofs.Stamps.{each_map, all_differ}

-- the top of the pile lived as one roll
top_ran : (ls : List Layer) (b : Meaning) (cs : List Call) → Lawful b → Ran (piled ls b) (piled ls (after ls b cs)) (accepted cs (answers ls b cs))
top_ran ls b cs lawful =
    subst₂ (λ a rs. Ran (piled ls b) a (accepted cs rs)) (sym (top_after ls b cs)) (sym (top_answers ls b cs))
    (ran (piled ls b) cs (piled_lawful ls b lawful))

-- the law, clause by clause
pub life : WholeLife
life ls b cs lawful = record {
  reads = λ i t g. entry_down ls a i t (reads-entry top i t r.lawful g) ∙ ap (λ x. Some (text x)) (sym (sealed-after ls b cs i t));
  gives = λ i t e. gives-entry top i t r.lawful (entry_up ls a i t (e ∙ ap (λ x. Some (text x)) (sealed-after ls b cs i t)));
  one = λ i t u e. sealed-one ls b i t u e;
  back = each_map _ _ _ (λ k e. gives-entry top k.number k.what r.lawful e) r.back;
  stays = λ i t g. gives-entry top i t r.lawful (r.old i (text t) (reads-entry (piled ls b) i t (piled_lawful ls b lawful) g));
  numbered = r.numbered;
  counted = r.counted;
  spent = r.spent;
  refused_if = λ t fits room dear. dear_refused top t (rw r.charge dear);
  only_if = λ t fits room e. rw r.charge at (refused_dear top t (omega (arith, fits, r.bound)) room e);
  fair = subst (Fair (piled ls b) [] cs) (sym (top_answers ls b cs)) (fair (piled ls b) cs);
  differ = all_differ b lawful ls (count (piled ls b)) ks r.rising;
}
  where
    a : Meaning
    a = after ls b cs

    top : Meaning
    top = piled ls a

    ks : List Kept
    ks = accepted cs (answers ls b cs)

    r : Ran (piled ls b) top ks
    r = top_ran ls b cs lawful
