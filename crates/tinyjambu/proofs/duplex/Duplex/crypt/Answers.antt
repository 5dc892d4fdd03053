use Rattle.std.proofs.Common.{◌+◌, ◌*◌, ◌^◌, ◌≤◌, length, get_or, sym, ap, ◌∙◌, ap₂, arith}
use lib.Bits.{bit_xor}
use Rattle.engine.specs.Bytes.{joined}
use Rattle.tinyjambu.specs.Mode.{text_run, stream}
use Rattle.tinyjambu.specs.Duplex.{fed_byte, sealed_byte, text_of, sealed_of}
use Rattle.tinyjambu.proofs.Histories.{took_more, sealed_part}
use Rattle.engine.proofs.Joined.{all_bytes}
use Rattle.tinyjambu.proofs.Steps.{either_small, crypted_all, crypted_byte_more, crypted_word_more}
use Rattle.tinyjambu.proofs.duplex.Duplex.crypt.Goals as goal

pub loop-at-preserved-then-input-at-ge4 : goal.loop-at-preserved-then-input-at-ge4
loop-at-preserved-then-input-at-ge4 g c =
    let s = joined c.loop-at.self.state in
    let e = c.crypt_word-other.ensures in
    let same = c.loop-at.invariant.1 in
    let l : c.loop-at.at + 4 ≤ length c.args.input.now = omega arith in
    let r = c.crypt_word-other.result in
    let d = c.args.direction in (
      crypted_word_more c.loop-at.invariant.0 r _ _ _ (all_bytes c.args.input.now c.type_inv.input) l c.crypt_word-other.type_inv c.if-self-eq0.true c.store.ensures
          (e.fed.state ∙ ap₂ (λ k w. bit_xor (text_run k s) (text_of d w r * 2 ^ 96)) same c.load.ensures) e.fed.filled
          (ap (λ w. sealed_of d w r) (sym c.load.ensures) ∙ e.result ∙ ap₂ (λ k w. bit_xor (text_of d w r) (stream (text_run k s))) same c.load.ensures),
      e.same ∙ same,
    )

pub loop-at-preserved : goal.loop-at-preserved
loop-at-preserved g c =
    let d = c.loop-at.self in
    let e = c.crypt_byte.ensures in
    let same = c.loop-at.invariant.1 in
    let r = c.crypt_byte.result in
    let x = get_or c.args.input.now c.loop-at.at 0 in (
      crypted_byte_more c.loop-at.invariant.0 r _ _ c.loop-at-test.true c.crypt_byte.type_inv
          (e.fed.state ∙ ap (λ k. fed_byte (text_run k) d.filled (joined d.state) (text_of c.args.direction x r)) same) e.fed.filled
          (e.result ∙ ap (λ k. sealed_byte (text_run k) d.filled (joined d.state) (text_of c.args.direction x r)) same),
      e.same ∙ same,
    )

pub returns : goal.returns
returns g c =
    let all = crypted_all c.loop-at.invariant.0 c.loop-at-test.false in
    let key = g.E.Engine.key c.args.engine.now in
    let text = text_of c.args.direction c.args.input.now c.loop-at.out in
    let small = either_small c.args.direction c.args.input.now c.loop-at.out (all_bytes c.args.input.now c.type_inv.input) all.3 in
    record {
      took = λ nonce ad t h. took_more h text _ _ small all.1 all.2;
      out = λ nonce ad t h. all.0 ∙ sealed_part key nonce ad t text _ _ h small;
      len = c.loop-at.invariant.0.long;
      same = c.loop-at.invariant.1;
    }
