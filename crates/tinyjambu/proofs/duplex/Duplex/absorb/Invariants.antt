use Rattle.std.proofs.Common.{◌≡◌, length}
use Rattle.engine.specs.Bytes.{joined}
use Rattle.tinyjambu.specs.Mode.{data_run}
use Rattle.tinyjambu.proofs.Absorbing.{Left}
use Rattle.tinyjambu.proofs.duplex.Duplex.absorb.Given as goal

abbrev pub invariant-loop-byte : goal.invariant-loop-byte
invariant-loop-byte g l =
    Left (data_run (g.E.Engine.key l.initial.engine)) l.initial.self.filled (joined l.initial.self.state) l.piece (joined l.self.state) l.self.filled l.left
    × (g.E.Engine.key l.engine ≡ g.E.Engine.key l.initial.engine)

abbrev pub decreases-loop-byte : goal.decreases-loop-byte
decreases-loop-byte g l = length l.left
