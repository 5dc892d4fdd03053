use Rattle.std.proofs.Common.{sym, ap, ◌∙◌, arith}
use Rattle.tape.specs.Tape.{tape}
use Rattle.tape.proofs.Tapes.{opened, opened_nothing}
use Rattle.tape.proofs.tape.TapeRoll.space.Goals as goal

pub returns-in_default : goal.returns-in_default
returns-in_default c =
    ap (λ m. m.space) (sym (opened_nothing c.self.inside.memory.items _ c.self.invariant c.in_default.is) ∙ ap (λ v. tape v.items) c.self.view_is)

pub overflow_sub-result : goal.overflow_sub-result
overflow_sub-result c = omega (arith, (opened c.self.inside.memory.items _ c.self.invariant _ c.in-Some.is).noted, c.self.inside.memory.ok.0)

pub overflow_sub-result-2 : goal.overflow_sub-result-2
overflow_sub-result-2 c = omega (arith, (opened c.self.inside.memory.items _ c.self.invariant _ c.in-Some.is).apart, c.self.inside.memory.ok.0)

pub overflow_cast-result-2 : goal.overflow_cast-result-2
overflow_cast-result-2 c = omega (arith, (opened c.self.inside.memory.items _ c.self.invariant _ c.in-Some.is).short, c.self.inside.memory.ok.0)

pub returns : goal.returns
returns c =
    let o = opened c.self.inside.memory.items _ c.self.invariant _ c.in-Some.is in
    omega (arith, ap (λ m. m.space) (sym o.means ∙ ap (λ v. tape v.items) c.self.view_is), c.self.inside.memory.ok.0)
