use Rattle.std.proofs.Common.{length, ◌∙◌}
use Rattle.roll.proofs.Reading.{read_found}
use Rattle.tape.specs.Tape.{tape}
use Rattle.tape.proofs.Tapes.{tape-floor}
use Rattle.tape.proofs.tape.TapeRoll.read.Goals as goal

pub returns-clause-answer : goal.returns-clause-answer
returns-clause-answer c =
    let memory = c.args.self.now.items in
    c.give.ensures.answer ∙ read_found (tape memory) c.args.entry (length c.args.out.now) c.part.result (tape-floor memory) c.part.ensures
