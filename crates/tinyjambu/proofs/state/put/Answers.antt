use Rattle.std.proofs.Common.{◌≡◌, ◌*◌, ◌%◌, ◌^◌, ap, ◌∙◌, mod-eq_of_lt}
use lib.Bits.{bit_xor, xor_lt}
use Rattle.engine.specs.Bytes.{joined, words}
use Rattle.engine.proofs.Joined.{joined_words}
use Rattle.tinyjambu.proofs.state.put.Goals as goal

pub returns : goal.returns
returns c =
    let x = c.args.bits * 2 ^ c.args.from in
    let b : c.from.result * 2 ^ c.args.from % 2 ^ 128 ≡ x = ap (λ y. y * 2 ^ c.args.from % 2 ^ 128) c.from.ensures ∙ mod-eq_of_lt c.requires.fits in
    let s = c.as_number.result in
    let e : joined c.as_words.result ≡ bit_xor s x = ap joined (c.as_words.ensures ∙ ap (λ y. words 4 (bit_xor s y)) b) ∙ joined_words 4 (bit_xor s x) (xor_lt 128 s x c.as_number.type_inv c.requires.fits) in
    record {
      state = e ∙ ap (λ y. bit_xor y x) c.as_number.ensures;
      below = rw e (xor_lt 128 s x c.as_number.type_inv c.requires.fits);
    }
