use Rattle.std.proofs.Common.{◌≡◌, ◌-◌, length}
use Rattle.engine.specs.Bytes.{joined}
use Rattle.tinyjambu.specs.Mode.{text_run}
use Rattle.tinyjambu.proofs.Steps.{Crypted}
use Rattle.tinyjambu.proofs.duplex.Duplex.crypt.Given as goal

abbrev pub invariant-loop-at : goal.invariant-loop-at
invariant-loop-at g l =
    Crypted (text_run (g.E.Engine.key l.initial.engine)) l.initial.self.filled (joined l.initial.self.state) l.at l.direction l.input l.out (joined l.self.state) l.self.filled
    × (g.E.Engine.key l.engine ≡ g.E.Engine.key l.initial.engine)

abbrev pub decreases-loop-at : goal.decreases-loop-at
decreases-loop-at g l = length l.initial.input - l.at
