use Rattle.pocket.specs.PocketLaws.{entries-count}
use Rattle.pocket.proofs.pocket.PocketRoll.count.Goals as goal

pub returns : goal.returns
returns c = let n = entries-count c.args.self.now.bytes 0 c.args.self.now.lengths.items in cc
