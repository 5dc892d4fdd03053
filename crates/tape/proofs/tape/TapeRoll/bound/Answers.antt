use Rattle.std.proofs.Common.{◌≡◌, ap, ◌∙◌, rules}
use Rattle.std.specs.Option.{option_map_or}
use Rattle.tape.specs.Tape.{tape}
use Rattle.tape.specs.declared.extent.Extent.{Extent}
use Rattle.tape.proofs.Tapes.{opened_bound}
use Rattle.tape.proofs.tape.TapeRoll.bound.Goals as goal

pub returns : goal.returns
returns c =
    let s = c.self.inside in
    let e : c.map_or.result ≡ option_map_or (λ (x : Extent). 4097) s.extent 0 = search rules in
    e ∙ opened_bound s.memory.items s.extent c.self.invariant ∙ ap (λ v. (tape v.items).bound) c.self.view_is
