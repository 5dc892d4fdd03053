use Rattle.std.proofs.Common.{arith}
use Rattle.tinyjambu.proofs.Feeding.{byte_fits}
use Rattle.tinyjambu.proofs.duplex.Duplex.put_byte.Goals as goal

pub put-self-requires : goal.put-self-requires
put-self-requires c = record { fits = rw c.from.ensures (byte_fits c.args.byte c.args.self.now.filled (omega arith) c.args.self.now.few); within = omega arith }
