use Rattle.std.proofs.Common.{sym}
use Rattle.tape.proofs.Tapes.{tape-floor}
use Rattle.tape.proofs.tape.TapeRoll.floor.Goals as goal

pub returns : goal.returns
returns c = sym (tape-floor c.args.self.now.items)
