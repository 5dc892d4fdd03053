use Rattle.std.proofs.Common.{ℕ, ◌<◌, List, Ok, sym, ap, ◌∙◌, ap₂, arith}
use Rattle.std.proofs.lemmas.Bool.{lt-leb}
use Rattle.tape.specs.Tape.{count_of, every, entry_ordered}
use Rattle.tape.proofs.Tapes.{extent}
use Rattle.tape.proofs.Orders.{begin_next, every_more, gone, entry_tested, fails_header, fails_entry, fails_end, judged_ill, judged_well}
use Rattle.tape.proofs.judging.judge.Goals as goal

pub returns-then-not-header_ordered : goal.returns-then-not-header_ordered
returns-then-not-header_ordered c =
    let memory : List ℕ = c.args.memory.now in
    judged_ill memory c.in_ok-check_tape_length.ensures (fails_header memory (sym c.if-not-header_ordered.ensures))

pub returns-then-not-entry_ordered : goal.returns-then-not-entry_ordered
returns-then-not-entry_ordered c =
    let memory : List ℕ = c.args.memory.now in
    let i = c.loop-entry.entry in
    let below : i < count_of memory = omega (arith, c.loop-entry-test.true, c.word-count.ensures) in
    let tested = entry_tested memory i _ _ _ c.loop-entry.invariant.0 c.end_of-next.ensures c.if-not-entry_ordered.ensures in
    judged_ill memory c.in_ok-check_tape_length.ensures (fails_entry memory i below tested)

pub loop-entry-preserved : goal.loop-entry-preserved
loop-entry-preserved c =
    let memory : List ℕ = c.args.memory.now in
    let i = c.loop-entry.entry in
    let tested = entry_tested memory i _ _ _ c.loop-entry.invariant.0 c.end_of-next.ensures c.if-not-entry_ordered.ensures in
    (c.end_of-next.ensures ∙ sym (begin_next memory i), every_more (entry_ordered memory) i tested c.loop-entry.invariant.1)

pub returns-then-end-len : goal.returns-then-end-len
returns-then-end-len c =
    let memory : List ℕ = c.args.memory.now in
    let g = gone memory _ _ _ c.loop-entry-test.false c.loop-entry.auto.entry-end c.word-count.ensures c.loop-entry.invariant.0 in
    judged_ill memory c.in_ok-check_tape_length.ensures (fails_end memory (lt-leb _ _ (omega (arith, g.1, c.if-end-len.true, c.word-count.ensures))))

pub returns : goal.returns
returns c =
    let memory : List ℕ = c.args.memory.now in
    let g = gone memory _ _ _ c.loop-entry-test.false c.loop-entry.auto.entry-end c.word-count.ensures c.loop-entry.invariant.0 in
    let all = ap (every (entry_ordered memory)) (sym g.0) ∙ c.loop-entry.invariant.1 in
    ap₂ (λ n e. Ok (extent n e)) c.word-count.ensures g.1
    ∙ judged_well memory c.in_ok-check_tape_length.ensures (sym c.if-not-header_ordered.ensures) all (omega (arith, g.1, c.if-end-len.false, c.word-count.ensures))
