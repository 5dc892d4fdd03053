use Rattle.std.proofs.Common.{◌≡◌, ℕ, List, ◌∷◌, take, sym, ap, ◌∙◌, ap₂}
use Rattle.roll.specs.Roll.{Meaning, count, append_after, image_after}
use Rattle.roll.specs.Floor.{Layer, nonce, above, seal_at, apply_seal, raised}
use Rattle.roll.specs.Laws.{raised-count}
use Rattle.floor.specs.Laid.{layer}
use Rattle.floor.proofs.Floors.{raised-floor, short_enough, was_taken, numbered, seal_written, handed_down, answer_below, after_below, refused, not_refused}
use Rattle.floor.proofs.floor.FloorRoll.append.Goals as goal

pub returns-in_err-entry-clause-stored : goal.returns-in_err-entry-clause-stored
returns-in_err-entry-clause-stored g c =
    let s = c.args.self.now in
    refused (layer (g.E.Engine.key s.engine) s.kind) (g.R.Roll.meaning s.below) (g.R.Roll.layers s.below) (g.R.Roll.bottom s.below) c.args.text.now _
    (g.R.Roll.stands s.below) (sym c.admit.ensures ∙ c.in_err-entry.was)

pub returns : goal.returns
returns g c =
    let s = c.args.self.now in
    let l : Layer = layer (g.E.Engine.key s.engine) s.kind in
    let m : Meaning = g.R.Roll.meaning s.below in
    let b : Meaning = g.R.Roll.bottom s.below in
    let image : List ℕ = g.R.Roll.image s.below in
    let t : List ℕ = c.args.text.now in
    let admitted = sym c.admit.ensures ∙ c.in_ok-entry.was in
    let h = was_taken (raised l m) t _ admitted in
    let i : c.in_ok-entry.entry ≡ count m = numbered (raised l m) t _ admitted ∙ raised-count l m in
    let here : c.floor-floor.result ≡ above m = c.floor-floor.ensures ∙ raised-floor l m in
    let stored : List ℕ = take c.unwrap-n.result c.seal.new.out in
    let q : stored ≡ apply_seal (seal_at l m (count m)) t =
    ap (take c.unwrap-n.result) c.seal.ensures.out
    ∙ seal_written l m _ t _ _ (c.label-label.ensures.nonce ∙ ap (λ f. nonce m.name f c.in_ok-entry.entry) here) c.label-label.ensures.data (short_enough l m _ (g.R.Roll.lawful_top s.below) h.fits) _ (sym c.seal.ensures.answer ∙ c.unwrap-n.ensures)
    ∙ ap (λ k. apply_seal (seal_at l m k) t) i in
    let p = g.R.Roll.stands s.below in
    let down = handed_down l m (g.R.Roll.layers s.below) b t stored p q in
    let e = c.append.ensures in
    let answer = e.answer ∙ answer_below l m (g.R.Roll.layers s.below) b t stored p q h in
    record {
      answer = answer;
      after = ap₂ (λ x y. raised (layer x s.kind) y) c.seal.ensures.same e.after ∙ after_below l m (g.R.Roll.layers s.below) b t stored p q;
      stored = e.stored ∙ ap (append_after b) down;
      floors = ap₂ (λ x ls. layer x s.kind ∷ ls) c.seal.ensures.same e.floors;
      bytes =
          e.bytes ∙ ap (λ n. image_after c.append.result n image) (g.R.Roll.puts s.below stored)
          ∙ ap (λ x. image_after c.append.result (g.R.Roll.writes b image x) image) down;
      refused = not_refused _ (raised l m) t _ h answer;
    }
