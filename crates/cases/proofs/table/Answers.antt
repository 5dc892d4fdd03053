use Rattle.cases.proofs.Edges.{holds}
use Rattle.cases.proofs.table.Goals as goal

pub returns : goal.returns
returns c = record { table = holds }
