use Rattle.std.proofs.Common.{length, Ok, sym, refl, ap, ◌∙◌, arith}
use Rattle.tape.specs.Tape.{tape}
use Rattle.tape.specs.Judged.{judged}
use Rattle.tape.proofs.Tapes.{bound-most, opened, opened_nothing}
use Rattle.tape.proofs.Appends.{long_refused, full_refused, dear_refused, appended}
use Rattle.tape.proofs.tape.TapeRoll.append.Goals as goal

pub returns-in_default : goal.returns-in_default
returns-in_default c =
    let memory = c.args.self.now.items in
    let none = opened_nothing memory _ (c.self.invariant ∙ ap (λ v. judged v.items) c.self.view_is) c.in_default.is in
    let d = long_refused memory c.args.text.now _ _ c.count-entry.ensures (omega (arith, ap (λ m. m.bound) none)) c.at.ensures in
    record { answer = d.0; after = d.1; stored = d.1; floors = refl; bytes = refl; refused = refl }

pub returns-then-len : goal.returns-then-len
returns-then-len c =
    let memory = c.args.self.now.items in
    let d = long_refused memory c.args.text.now _ _ c.count-entry.ensures (omega (arith, bound-most memory, c.if-len.true)) c.at-then-len.ensures in
    record { answer = d.0; after = d.1; stored = d.1; floors = refl; bytes = refl; refused = refl }

pub returns-then-extent-ge-MOST : goal.returns-then-extent-ge-MOST
returns-then-extent-ge-MOST c =
    let memory = c.args.self.now.items in
    let o = opened memory _ (c.self.invariant ∙ ap (λ v. judged v.items) c.self.view_is) _ c.in-Some.is in
    let d = full_refused memory c.args.text.now _ _ c.count-entry.ensures _ o c.if-len.false c.if-extent-ge-MOST.true c.at-then-extent-ge-MOST.ensures in
    record { answer = d.0; after = d.1; stored = d.1; floors = refl; bytes = refl; refused = refl }

pub returns-then-space-len : goal.returns-then-space-len
returns-then-space-len c =
    let memory = c.args.self.now.items in
    let o = opened memory _ (c.self.invariant ∙ ap (λ v. judged v.items) c.self.view_is) _ c.in-Some.is in
    let d =
    dear_refused memory c.args.text.now _ _ c.count-entry.ensures _ o c.if-len.false c.if-extent-ge-MOST.false
    (omega (arith, c.space.ensures, c.if-space-len.true)) c.at-then-space-len.ensures in
    record { answer = d.0; after = d.1; stored = d.1; floors = refl; bytes = refl; refused = refl }

pub write_entry-requires : goal.write_entry-requires
write_entry-requires c =
    let o = opened c.self.inside.memory.items _ c.self.invariant _ c.in-Some.is in
    let n = ap length c.deref_mut.ensures.value in
    let space = ap (λ m. m.space) (sym o.means ∙ ap (λ v. tape v.items) c.self.view_is) in
    record { memory = omega (arith, n, o.short); entry = omega (arith, n, o.apart, space, c.space.ensures, c.if-space-len.false); header = omega (arith, o.late) }

pub invariant_of-self : goal.invariant_of-self
invariant_of-self c =
    let a =
    appended c.self.inside.memory _ _ _ _ _ _ c.args.text.now c.self.view_is c.self.invariant c.in-Some.is c.if-len.false c.if-extent-ge-MOST.false
    (omega (arith, c.space.ensures, c.if-space-len.false)) c.deref_mut.ensures.value c.write_entry.auto.memory c.write_entry.ensures.after c.write_entry.ensures.extent in
    a.known

pub returns : goal.returns
returns c =
    let a =
    appended c.self.inside.memory _ _ _ _ _ _ c.args.text.now c.self.view_is c.self.invariant c.in-Some.is c.if-len.false c.if-extent-ge-MOST.false
    (omega (arith, c.space.ensures, c.if-space-len.false)) c.deref_mut.ensures.value c.write_entry.auto.memory c.write_entry.ensures.after c.write_entry.ensures.extent in
    record { answer = ap Ok c.count-entry.ensures ∙ sym a.answer; after = a.means; stored = a.means; floors = refl; bytes = a.put; refused = tt }
