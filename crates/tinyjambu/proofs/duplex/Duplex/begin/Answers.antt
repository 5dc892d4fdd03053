use Rattle.std.proofs.Common.{◌≡◌, get_or, replicate, refl, ap, ◌∙◌, ap₂, arith}
use Rattle.engine.specs.Bytes.{joined, word_bytes}
use Rattle.engine.specs.Permutation.{long_rounds}
use Rattle.tinyjambu.specs.Mode.{long, nonce_word, begun}
use Rattle.tinyjambu.proofs.Histories.{data_none}
use Rattle.engine.proofs.Joined.{three}
use Rattle.tinyjambu.proofs.States.{joined_run, begun-words}
use Rattle.tinyjambu.proofs.duplex.Duplex.begin.Goals as goal

pub returns : goal.returns
returns g c =
    let key = g.E.Engine.key c.args.engine.now in
    let n = c.args.nonce in
    let e₀ : joined c.long_run-begun.result ≡ long key 0
    = joined_run key (replicate 4 0) c.long_run-begun.result (long_rounds key) 0 c.long_run-begun.ensures.result refl (omega arith) in
    let k₁ = c.long_run-begun.ensures.same in
    let k₂ = c.word_step-one.ensures.same ∙ k₁ in
    let k₃ = c.word_step-two.ensures.same ∙ k₂ in
    let e₁ = c.word_step-one.ensures.state ∙ ap₂ (λ k s. nonce_word k (get_or n 0 0) s) k₁ e₀ in
    let e₂ = c.word_step-two.ensures.state ∙ ap₂ (λ k s. nonce_word k (get_or n 1 0) s) k₂ e₁ in
    let e₃ = c.word_step-state.ensures.state ∙ ap₂ (λ k s. nonce_word k (get_or n 2 0) s) k₃ e₂ in
    let e = e₃ ∙ begun-words key (get_or n 0 0) (get_or n 1 0) (get_or n 2 0) c.element_fits.fits c.element_fits2.fits c.element_fits3.fits
    ∙ ap (λ ws. begun key (word_bytes ws)) (three n (omega arith)) in
    record { took = data_none key (word_bytes n) _ 0 e refl; same = c.word_step-state.ensures.same ∙ k₃ }
