use Rattle.std.proofs.Common.{Err, sym, ap, ◌∙◌}
use Rattle.std.proofs.lemmas.Result.{err_from_is_err_and}
use Rattle.refusal.specs.declared.refusal.Refusal.TheVariants.{NoEntry}
use Rattle.refusal.specs.Refusals.{fault}
use Rattle.roll.proofs.Reading.{length_missing}
use Rattle.tape.specs.Tape.{tape}
use Rattle.tape.proofs.Tapes.{tape-floor}
use Rattle.tape.proofs.tape.TapeRoll.length.Goals as goal

pub returns-in_err-part : goal.returns-in_err-part
returns-in_err-part c =
    let m = tape c.args.self.now.items in
    let back = err_from_is_err_and c.from_residual.result c.from_residual.ensures.1 in
    let at = c.in_err-part.ensures.1 ∙ ap (λ k. fault NoEntry k c.args.entry) (sym (tape-floor c.args.self.now.items)) in
    back.1 ∙ ap Err (back.2 ∙ at) ∙ sym (length_missing m c.args.entry c.in_err-part.ensures.0)
