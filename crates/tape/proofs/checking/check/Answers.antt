use Rattle.std.proofs.lemmas.Result.{err_from_is_err_and}
use Rattle.std.proofs.Common.{sym, ◌∙◌}
use Rattle.tape.proofs.Tapes.{judged_finds, judged_refuses}
use Rattle.tape.proofs.checking.check.Goals as goal

pub returns-in_err-judge-clause-finds : goal.returns-in_err-judge-clause-finds
returns-in_err-judge-clause-finds c =
    let back = err_from_is_err_and c.from_residual.result c.from_residual.ensures.1 in
    rw back.1 (judged_refuses c.args.memory.now _ (sym c.judge.ensures ∙ c.in_err-judge.was))

pub returns-clause-finds : goal.returns-clause-finds
returns-clause-finds c = judged_finds c.args.memory.now _ (sym c.judge.ensures ∙ c.in_ok-judge.was)
