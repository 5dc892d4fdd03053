use Rattle.std.proofs.Common.{ℕ, List, ◌++◌, codes, decimal, is_ok, sym, ap, ◌∙◌, arith}
use Rattle.roll.specs.Roll.{Meaning}
use Rattle.tape.proofs.Listings.{length_there, more_lines}
use Rattle.tape.proofs.lines.roll_lines.Goals as goal

pub unwrap-length-requires : goal.unwrap-length-requires
unwrap-length-requires g c =
    let m : Meaning = g.R.Roll.meaning c.args.roll.now in
    let there = length_there m c.loop-number.number-counter (omega (arith, c.loop-number-test.true, c.count-count.ensures)) in
    ap is_ok (c.length.ensures ∙ there.1)

pub loop-number-preserved : goal.loop-number-preserved
loop-number-preserved g c =
    let m : Meaning = g.R.Roll.meaning c.args.roll.now in
    let i = c.loop-number.number-counter in
    let line : List ℕ = decimal i ++ (codes " " ++ (decimal c.unwrap-length.result ++ codes "\n")) in
    c.in_ok-writeln.ensures.bytes ∙ ap (λ r. r ++ line) c.loop-number.invariant
    ∙ more_lines m i c.unwrap-length.result (omega (arith, c.loop-number-test.true, c.count-count.ensures)) (sym c.length.ensures ∙ c.unwrap-length.ensures)
