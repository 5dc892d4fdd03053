use Rattle.std.proofs.Common.{◌≡◌, ◌^◌, ◌<◌, length, get_or, ◌∙◌, arith, rules}
use Rattle.std.proofs.lemmas.List.{ext_get_or, get_or-map, length-map}
use Rattle.engine.specs.Turns.{flip, flipped}
use Rattle.engine.proofs.key_words.KeyWords.complement.Goals as goal

pub returns-clause-words : goal.returns-clause-words
returns-clause-words c =
    let ws = c.args.self.words in
    let items = c.map.ensures.items in
    let n : length c.map.result ≡ length ws = omega (arith, items.long, c.args.self.stored) in
    ext_get_or 0 (flipped c.map.result) ws (omega (arith, length-map c.map.result flip))
    (λ i h.
    let k = items.at i 0 0 (omega (arith, length-map c.map.result flip, items.long)) in
    let s : get_or ws i 0 < 2 ^ 32 = search rules in
    let e : get_or c.map.result i 0 ≡ flip (get_or ws i 0) = search rules in
    get_or-map flip c.map.result i 0 0 (omega (arith, length-map c.map.result flip)) ∙ omega arith)
