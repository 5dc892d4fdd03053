use Rattle.std.proofs.Common.{◌≡◌, ℕ, ◌+◌, ◌/◌, ◌%◌, ◌^◌, ◌<◌, [], ◌∷◌, ◌∙◌, arith}
use Rattle.engine.specs.Permutation.{bit}
use Rattle.engine.specs.Bytes.{joined}
use Rattle.engine.proofs.Bitwise.{bit_sum_flipped, bit_cut}
use Rattle.engine.proofs.word_engine.mix.Goals as goal

pub returns : goal.returns
returns c j h =
    let s = joined (c.args.a ∷ c.args.b ∷ c.args.c ∷ c.args.d ∷ []) in
    let cut : (n k x : ℕ) → k < 32 → x ≡ s / 2 ^ n % 2 ^ 64 / 2 ^ k % 2 ^ 32 → bit x j ≡ bit (s / 2 ^ j) (n + k)
    = λ n k x l. bit_cut s n 64 k 32 j x (omega arith) h in
    bit_sum_flipped c.args.a _ _ _ _ c.args.k 32 j (omega arith) h
    ∙ cc (cut 0 0 c.args.a (omega arith) (omega arith), cut 32 15 c.window-s47.result (omega arith) (omega arith), cut 64 6 c.window-s70.result (omega arith) (omega arith), cut 64 21 c.window-s85.result (omega arith) (omega arith), cut 64 27 c.window-s91.result (omega arith) (omega arith))
