use Rattle.std.proofs.Common.{◌∙◌, arith, rules}
use Rattle.std.proofs.lemmas.Iterator.{YieldsList-from_slice}
use Rattle.std.proofs.lemmas.Iterator.Consumers.{fold_from_yields_List}
use Rattle.tinyjambu.proofs.Messages.{capped, capped_sum}
use Rattle.tinyjambu.proofs.pieces.joined_len.Goals as goal

pub returns : goal.returns
returns c =
    fold_from_yields_List _ capped 0 c.fold.result c.fold.ensures.ran (YieldsList-from_slice c.args.pieces.now (cc)) (λ a x b q k. search rules)
    ∙ capped_sum c.args.pieces.now 0 ∙ omega arith
