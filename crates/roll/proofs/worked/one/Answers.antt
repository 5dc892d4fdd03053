use Rattle.std.proofs.Common.{ℕ, List, sym, ap, ◌∙◌}
use Rattle.roll.specs.Roll.{Meaning, count, append_answer, image_after}
use Rattle.roll.specs.Floor.{sealed}
use Rattle.roll.specs.Life.{appends, stored, image_by}
use Rattle.roll.specs.Work.{heard}
use Rattle.roll.proofs.worked.one.Goals as goal

-- an append puts what the bottom writes of the sealed text
pub returns-in-Append-clause-took : goal.returns-in-Append-clause-took
returns-in-Append-clause-took g c =
    let roll = c.args.roll.now in
    let t : List ℕ = c.in-Append.text.now in
    let answer = c.append.ensures.answer ∙ ap (λ m. append_answer m t) (g.R.Roll.stands roll) in
    let bottom : Meaning = g.R.Roll.bottom roll in
    let image : List ℕ = g.R.Roll.image roll in
    let new : List ℕ = g.R.Roll.writes bottom image (sealed (g.R.Roll.layers roll) bottom (count bottom) t) in
    let given = ap (λ x. appends (heard x)) c.in-Append.is in
    record {
      stored = c.append.ensures.stored ∙ ap (stored (g.R.Roll.layers roll) bottom) (sym given);
      floors = c.append.ensures.floors;
      bytes =
          c.append.ensures.bytes ∙ ap (λ n. image_after c.append.result n image) (g.R.Roll.puts roll t)
          ∙ ap (λ r. image_after r new image) answer
          ∙ ap (image_by g.R.Roll.writes (g.R.Roll.layers roll) bottom image) (sym given);
    }
