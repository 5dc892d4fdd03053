use Rattle.std.proofs.Common.{◌≡◌, ◌+◌, ◌-◌, ◌<◌, ◌≤◌, length, take, get_or, Some, ◌∙◌, ap₂, rules}
use Rattle.roll.specs.Memory.{part}
use Rattle.roll.specs.Roll.{text}
use Rattle.pocket.specs.Pocket.{paged_all}
use Rattle.pocket.proofs.Pockets.{pocket_entry, pocket_no_entry}
use Rattle.pocket.proofs.pocket.Pocket.part.Goals as goal

pub returns-in_default : goal.returns-in_default
returns-in_default c =
    let p = c.args.self.now in
    let past : length p.lengths.items ≤ c.args.entry = search rules in
    (pocket_no_entry p.name p.bytes p.lengths.items c.args.entry past, c.at.ensures)

pub returns : goal.returns
returns c =
    let p = c.args.self.now in
    let i = c.args.entry in
    let there : i < length p.lengths.items = search rules in
    let at = c.paged_all-start.result in
    let start : paged_all (take i p.lengths.items) ≡ at = search rules in
    let len : get_or p.lengths.items i 0 ≡ at + c.in-Some.field-0.now - at = search rules in
    pocket_entry p.name p.bytes p.lengths.items i there ∙ ap₂ (λ k n. Some (text (part k n p.bytes))) start len
