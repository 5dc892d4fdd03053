use Rattle.std.proofs.Common.{ℕ, leb, List, length, ap, ◌∙◌, arith}
use Rattle.std.proofs.lemmas.Bool.{and_parts, leb-true}
use Rattle.engine.specs.Bytes.{bytes}
use Rattle.roll.specs.Memory.{written}
use Rattle.tape.specs.Tape.{tape}
use Rattle.tape.proofs.Orders.{length_passed}
use Rattle.tape.proofs.Blanks.{header_written, blank_ordered, blank_means}
use Rattle.tape.proofs.blanking.blank.Goals as goal

pub returns-clause-empty : goal.returns-clause-empty
returns-clause-empty c =
    let memory : List ℕ = c.args.memory.now in
    let name = c.args.name in
    let fits = length_passed (length memory) c.in_ok-check_tape_length.ensures in
    let both = and_parts (leb 16 (length memory)) (leb (length memory) 65536) fits in
    let long = leb-true _ _ both.0 in
    let short = leb-true _ _ both.1 in
    let two = c.write_word-2.ensures ∙ ap (written 4 (bytes 4 0)) c.write_word.ensures in
    let four = c.write_word-4.ensures ∙ ap (written 12 (bytes 4 (length memory))) (c.write_word-3.ensures ∙ ap (written 8 (bytes 4 16)) two) in
    let wrote = four ∙ header_written name memory (omega arith) long short in
    (rw wrote (blank_ordered name memory (omega arith) long short), ap tape wrote ∙ blank_means name memory (omega arith) long short)
