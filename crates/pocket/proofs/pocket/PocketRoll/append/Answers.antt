use Rattle.std.proofs.Common.{Ok, sym, refl, ap, ◌∙◌, arith}
use Rattle.pocket.specs.Pocket.{pocket}
use Rattle.roll.proofs.Memories.{copied}
use Rattle.pocket.proofs.Pockets.{pocket_no_space, pocket_room, pocket_taken, pocket_put}
use Rattle.pocket.proofs.pocket.PocketRoll.append.Goals as goal

pub returns-then-at-paged-clause-answer : goal.returns-then-at-paged-clause-answer
returns-then-at-paged-clause-answer c =
    let e = pocket_no_space c.args.self.now _ c.args.text.now _ _ c.deref.ensures.0 c.paged_all-at.ensures c.paged.ensures (omega arith) c.if-at-paged.true in
    cc e

pub push-requires : goal.push-requires
push-requires c = (omega arith, pocket_room c.args.self.now _ c.args.text.now _ _ c.deref.ensures.0 c.paged_all-at.ensures c.paged.ensures (omega arith) c.if-at-paged.false)

pub returns-clause-answer : goal.returns-clause-answer
returns-clause-answer c =
    ap Ok c.count-entry.ensures
    ∙ sym (pocket_taken c.args.self.now _ c.args.text.now _ _ c.deref.ensures.0 c.paged_all-at.ensures c.paged.ensures (omega arith) c.if-at-paged.false)

pub returns-clause-after : goal.returns-clause-after
returns-clause-after c =
    let p = c.args.self.now in
    let w = copied p.bytes c.args.text.now c.copy_from_slice.new.self c.paged_all-at.result _ refl c.copy_from_slice.ensures.after in
    ap (pocket p.name _) c.push.ensures.items
    ∙ pocket_put p _ c.args.text.now _ _ c.deref.ensures.0 c.paged_all-at.ensures c.paged.ensures (omega arith) _ c.if-at-paged.false w

pub returns-clause-stored : goal.returns-clause-stored
returns-clause-stored c = returns-clause-after c
