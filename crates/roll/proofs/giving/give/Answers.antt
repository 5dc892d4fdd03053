use Rattle.std.proofs.Common.{◌≡◌, ◌-◌, ◌++◌, length, drop, sym, ap, ◌∙◌, ap₂, arith}
use Rattle.std.proofs.lemmas.Bool.{cond-false, le-ltb}
use Rattle.roll.specs.Giving.{given_out}
use Rattle.roll.proofs.giving.give.Goals as goal

pub returns-clause-out : goal.returns-clause-out
returns-clause-out c =
    let out = c.args.out.now in
    let len = length c.in_ok-bytes.bytes.now in
    let rest : len - 0 ≡ len = omega arith in
    let whole = c.keep.ensures ∙ ap₂ (λ x n. x ++ drop n out) c.copy_from_slice.ensures.after rest in
    whole ∙ sym (ap (λ r. given_out r out) c.in_ok-bytes.was ∙ cond-false _ _ _ (le-ltb (length out) len (omega (arith, c.if-guard-len.false))))
