use Rattle.std.proofs.Common.{◌≡◌, true, is_ok, Err, Some, None, ap, rules, below_more, arith}
use Rattle.hexadecimal.proofs.Pairs.{pair_at}
use Rattle.hexadecimal.specs.declared.fault.HexFault.TheVariants.{NotADigit}
use Rattle.hexadecimal.proofs.digits.decode.Goals as goal

-- the pair that has no byte stands where the loop is
pub returns-in_err-ok_or : goal.returns-in_err-ok_or
returns-in_err-ok_or c =
    let here = pair_at _ c.loop-high.high-index _ _ c.as_chunks.ensures.front (omega arith) in
    let none : c.pair.result ≡ None = search rules in
    let refused : c.from_residual.result ≡ Err NotADigit = search rules in
    rw refused (omega arith, (c.loop-high.high-index, omega arith, cc (here, c.pair.ensures, none)))

-- the bytes so far stay, and the new one is that of the pair
pub loop-high-preserved : goal.loop-high-preserved
loop-high-preserved c =
    let some : c.pair.result ≡ Some c.in_ok-ok_or.field-0 = search rules in
    let pushed : is_ok c.push.result ≡ true = ap is_ok c.in_ok-push.was in
    let here = pair_at _ c.loop-high.high-index _ _ c.as_chunks.ensures.front (omega arith) in (
      search rules,
      below_more _ _
          (λ k h. cc (c.loop-high.invariant.1 k h, c.push.ensures.by_index.0 k 0 (omega arith)))
          (cc (here, c.pair.ensures, some, c.push.ensures.by_index.1 0 pushed, c.loop-high.invariant.0)),
    )
