use Rattle.std.proofs.Common.{length, sym, ap, ◌∙◌, arith}
use Rattle.tape.specs.Tape.{word, tape}
use Rattle.tape.proofs.Tapes.{opened, opened_nothing}
use Rattle.tape.proofs.tape.TapeRoll.name.Goals as goal

pub word-requires : goal.word-requires
word-requires c = omega (arith, ap length c.deref.ensures.value, (opened c.self.inside.memory.items _ c.self.invariant _ c.in-Some.is).ordered.long)

pub returns-in_default : goal.returns-in_default
returns-in_default c =
    ap (λ m. m.name) (sym (opened_nothing c.self.inside.memory.items _ c.self.invariant c.in_default.is) ∙ ap (λ v. tape v.items) c.self.view_is)

pub returns : goal.returns
returns c =
    let o = opened c.self.inside.memory.items _ c.self.invariant _ c.in-Some.is in
    c.word.ensures ∙ ap (word 0) c.deref.ensures.value ∙ ap (λ m. m.name) (sym o.means ∙ ap (λ v. tape v.items) c.self.view_is)
