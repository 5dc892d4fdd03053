use Rattle.std.proofs.Common.{◌≡◌, ◌+◌, ◌*◌, ◌%◌, ◌^◌, ◌≤◌, length, take, ap, ◌∙◌, ap₂, arith}
use Rattle.std.proofs.lemmas.List.{nil_from_length}
use lib.Bits.{bit_xor}
use Rattle.engine.specs.Bytes.{joined, number}
use Rattle.tinyjambu.specs.Mode.{data_run}
use Rattle.tinyjambu.proofs.Histories.{took_more}
use Rattle.engine.proofs.Joined.{all_bytes, four_at}
use Rattle.tinyjambu.proofs.Absorbing.{left_word}
use Rattle.tinyjambu.proofs.duplex.Duplex.absorb.Goals as goal

pub loop-byte-preserved-in-Some-split_first_chunk : goal.loop-byte-preserved-in-Some-split_first_chunk
loop-byte-preserved-in-Some-split_first_chunk g c =
    let d = c.loop-byte.self in
    let left = c.loop-byte.left.now in
    let cut = c.in-Some-split_first_chunk.ensures.cases in
    let e = c.absorb_word.ensures in
    let l : 4 ≤ length left = omega arith in
    let four = four_at left 0 l in
    let is : c.from_le_bytes.result ≡ number (take 4 left) = omega (arith, ap number four, rw (cut.0 ∙ four) at c.from_le_bytes.ensures) in (
      rw cut.1 (left_word left c.loop-byte.invariant.0 l c.if-self-eq0.true _ _
          (e.fed.state ∙ ap₂ (λ k w. bit_xor (data_run k (joined d.state)) (w * 2 ^ 96)) c.loop-byte.invariant.1 is) e.fed.filled),
      e.same ∙ c.loop-byte.invariant.1,
    )

pub returns : goal.returns
returns g c =
    let none = nil_from_length c.loop-byte.left.now c.in_default.ensures.cases in
    let all = rw none at c.loop-byte.invariant.0 in
    let few = c.loop-byte.self.few in
    let filled : (c.loop-byte.self.filled + 0) % 4 ≡ (c.args.self.now.filled + length c.args.piece.now) % 4 = all.place in
    record {
      took = λ nonce ad h. took_more h c.args.piece.now _ _ (all_bytes c.args.piece.now c.type_inv.piece) all.is (omega arith);
      same = c.loop-byte.invariant.1;
    }
