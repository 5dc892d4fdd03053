use Rattle.std.proofs.Common.{rules, ◌≡◌, ℕ, ◌+◌, ◌*◌, ◌/◌, ◌<◌, ◌≤◌, [], length, get_or, take, drop, sym, ap, ◌∙◌, zero-add, arith}
use Rattle.std.specs.Int.{from_le_bytes, w32}
use Rattle.std.proofs.lemmas.List.{take_all, get_or_past}
use Rattle.engine.specs.Bytes.{number}
use Rattle.engine.specs.Keys.{size_words}
use Rattle.engine.proofs.Joined.{four_at, all_bytes}
use Rattle.engine.proofs.Keys.{filled, rest_zero, made_at, part_at, size_of-ok, size_words-most}
use Rattle.engine.proofs.key.KeyTryFromRefSliceU8.try_from.Goals as goal

pub invariant_of-result-2 : goal.invariant_of-result-2
invariant_of-result-2 c =
    let ws = c.from_fn-words.result in
    let parts = c.as_chunks.result.0.now in
    let size = size_of-ok (length c.args.bytes.now) c.in_ok-size.size (sym c.in_ok-size.ensures) in
    let n = size_words c.in_ok-size.size in
    let many : length parts ≡ n = omega (arith, size.1, c.as_chunks.ensures.front_len) in
    let made = made_at _ _ (λ i. from_le_bytes w32 (get_or parts i [])) (λ i r q k. search rules) ws 8 0 c.from_fn-words.ensures.items.each in
    record { rest = rest_zero ws n c.from_fn-words.ensures.items.long (λ j l. rw zero-add at (made (n + j) (omega arith)) ∙ ap (from_le_bytes w32) (get_or_past parts (n + j) [] (omega arith))) }

pub returns : goal.returns
returns c =
    let bs = c.args.bytes.now in
    let ws = c.from_fn-words.result in
    let parts = c.as_chunks.result.0.now in
    let size = size_of-ok (length bs) c.in_ok-size.size (sym c.in_ok-size.ensures) in
    let n = size_words c.in_ok-size.size in
    let most : n ≤ 8 = size_words-most c.in_ok-size.size in
    let made : (j : ℕ) → j < 8 → get_or ws j 0 ≡ from_le_bytes w32 (get_or parts j [])
    = λ j l. rw zero-add at (made_at _ _ (λ i. from_le_bytes w32 (get_or parts i [])) (λ i r q k. search rules) ws 8 0 c.from_fn-words.ensures.items.each j l) in
    let each : (j : ℕ) → j < n → get_or ws j 0 ≡ number (take 4 (drop (4 * j) bs))
    = λ j l.
    let part : get_or parts j [] ≡ take 4 (drop (4 * j) bs) = ap (λ xs. get_or xs j []) c.as_chunks.ensures.front ∙ part_at (length bs / 4) j bs (omega (arith, size.1)) in
    let four = four_at bs (4 * j) (omega (arith, size.1)) in
    omega (arith, ap number four, rw (part ∙ four) at (made j (omega arith))) in
    (size.0, filled ws bs n (all_bytes bs c.type_inv.bytes) (omega (arith, c.from_fn-words.ensures.items.long)) (omega (arith, size.1)) each ∙ take_all (4 * n) bs (omega (arith, size.1)))
