use Rattle.std.proofs.Common.{◌≡◌, replicate, Some, None, Ok, Err, sym, ap, ◌∙◌, rules}
use Rattle.refusal.specs.Refusals.{outside}
use Rattle.refusal.specs.declared.refusal.Refusal.TheVariants.{Broken}
use Rattle.engine.proofs.Joined.{all_bytes}
use Rattle.tinyjambu.proofs.Opening.{opened_by, part_passed}
use Rattle.tinyjambu.proofs.whole.open.Goals as goal

pub returns-in_err-recover : goal.returns-in_err-recover
returns-in_err-recover g c =
    let answer : c.from_residual-in_err-recover.result ≡ Err (outside Broken) = search rules in
    let part = part_passed _ _ c.args.out.now c.recover.new.out _ c.in_ok-len.ensures c.recover.auto.out in
    let wiped = c.drop-guard-in_err-recover.ensures ∙ ap (λ k. replicate k 0) part.2 in
    opened_by g.E.Engine.key _ None (all_bytes _ c.type_inv.nonce) c.in_ok-words.ensures c.in_ok-len.ensures.0 c.in_err-recover.ensures.text.0 answer wiped c.recover.ensures.same

pub returns : goal.returns
returns g c =
    let part = part_passed _ _ c.args.out.now c.recover.new.out _ c.in_ok-len.ensures c.recover.auto.out in
    opened_by g.E.Engine.key _ (Some c.recover.new.out) (all_bytes _ c.type_inv.nonce) c.in_ok-words.ensures c.in_ok-len.ensures.0 c.in_ok-recover.ensures.text
    (ap Ok (sym part.0)) (c.keep.ensures ∙ part.1) c.recover.ensures.same
