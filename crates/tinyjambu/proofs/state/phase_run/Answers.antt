use Rattle.std.proofs.Common.{◌≡◌, rules}
use Rattle.engine.specs.Permutation.{short_rounds, long_rounds}
use Rattle.tinyjambu.specs.Duplex.{phase_rounds}
use Rattle.tinyjambu.proofs.States.{phase_ran}
use Rattle.tinyjambu.proofs.state.phase_run.Goals as goal

pub returns-in-Nonce : goal.returns-in-Nonce
returns-in-Nonce g c =
    let key = g.E.Engine.key c.args.engine.now in
    let n : short_rounds ≡ phase_rounds c.args.phase key = search rules in
    record {
      state = phase_ran key c.args.phase _ _ _ _ n c.frame_bits.ensures.is c.short_run.ensures.result c.put-framed.ensures.state c.put-framed.ensures.below;
      same = c.short_run.ensures.same;
    }

pub returns-in-Text-clause-state : goal.returns-in-Text-clause-state
returns-in-Text-clause-state g c =
    let key = g.E.Engine.key c.args.engine.now in
    let n : long_rounds key ≡ phase_rounds c.args.phase key = search rules in
    phase_ran key c.args.phase _ _ _ _ n c.frame_bits.ensures.is c.long_run.ensures.result c.put-framed.ensures.state c.put-framed.ensures.below
