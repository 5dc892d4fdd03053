use Rattle.std.proofs.Common.{◌≡◌, ℕ, ◌+◌, ◌*◌, ◌/◌, ◌%◌, ◌^◌, div-one, arith}
use Rattle.engine.specs.Permutation.{bit, taps}
use Rattle.engine.proofs.Bitwise.{bit_sum}
use Rattle.engine.proofs.bit_engine.bit_round.Goals as goal

comes_in : (h x z : ℕ) → x % 2 ≡ z % 2 → h + x % 2 * 2 ^ 127 % 2 ^ 128 ≡ h + z % 2 * 2 ^ 127
comes_in h x z e = omega arith

pub returns : goal.returns
returns c =
    let s = c.args.s in
    comes_in (s / 2) _ (taps s + bit c.args.k 0)
    (simp (div-one, c.from.ensures) (simp (div-one, c.from.ensures) at (bit_sum s (s / 2 ^ 47) (s / 2 ^ 70) (s / 2 ^ 85) (s / 2 ^ 91) c.from.result 128 0 (omega arith) (omega arith))))
