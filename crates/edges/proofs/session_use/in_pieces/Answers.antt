use Rattle.std.proofs.Common.{ℕ, List, [], ◌++◌, sym, refl, ap, ◌∙◌}
use Rattle.engine.specs.Bytes.{word_bytes}
use Rattle.tinyjambu.specs.History.{sealed_piece, sealed_tag}
use Rattle.edges.proofs.Written.{all_written, text_took}
use Rattle.edges.proofs.session_use.in_pieces.Goals as goal

-- d is what the session has of the data, s of the text, o what each piece leaves in the out buffer, and k that the key stays
pub returns-clause-out : goal.returns-clause-out
returns-clause-out g c =
    let n : List ℕ = word_bytes c.args.nonce in
    let a = c.args.ad.first.now in
    let b = c.args.ad.second.now in
    let t = c.args.text.first.now in
    let u = c.args.text.second.now in
    let d₁ = c.in_ok-absorb.ensures.extends n [] c.new-session.ensures.begun in
    let d₂ = c.in_ok-absorb-2.ensures.extends n a d₁ in
    let s₀ = c.into_text-sealing.ensures.ended n (a ++ b) d₂ in
    let s₁ = c.in_ok-first.ensures.extends n (a ++ b) [] s₀ in
    let s₂ = c.in_ok-second.ensures.extends n (a ++ b) t s₁ in
    let o₁ = c.in_ok-first.ensures.out n (a ++ b) [] s₀ in
    let o₂ = c.in_ok-second.ensures.out n (a ++ b) t s₁ in
    let tag = c.copy_from_slice.ensures.after ∙ c.into_tag.ensures.tag n (a ++ b) (t ++ u) s₂ in
    let key = g.E.Engine.key in
    let k₃ = c.absorb-2.ensures.same ∙ c.absorb.ensures.same ∙ c.new-session.ensures.same in
    let k₄ = ap key c.into_text-sealing.ensures.same ∙ k₃ in
    let k₅ = c.seal.ensures.same ∙ k₄ in
    let k₆ = c.seal-2.ensures.same ∙ k₅ in
    let f = text_took _ _ _ _ (sym c.in_ok-first.ensures.answer) in
    let h = text_took _ _ _ _ (sym c.in_ok-second.ensures.answer) in
    all_written (key c.args.engine) n (a ++ b) t u _ _ _ c.args.out.now _ _ _ _ _ s₁.took.small s₂.took.small f h
    (ap (λ k. sealed_piece k n (a ++ b) [] t) k₄) (ap (λ k. sealed_piece k n (a ++ b) t u) k₅) (tag ∙ ap (λ k. sealed_tag k n (a ++ b) (t ++ u)) k₆) o₁ refl o₂
