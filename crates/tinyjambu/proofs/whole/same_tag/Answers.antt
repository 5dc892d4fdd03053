use Rattle.std.proofs.Common.{eqb, ap, ◌∙◌, arith, rules}
use Rattle.std.proofs.lemmas.Iterator.{YieldsList-from_slice, YieldsList-from_zip}
use Rattle.std.proofs.lemmas.Iterator.Consumers.{fold_from_yields_List}
use Rattle.tinyjambu.proofs.Tags.{gathered, gathered_none}
use Rattle.tinyjambu.proofs.whole.same_tag.Goals as goal

pub returns : goal.returns
returns c =
    let pairs = YieldsList-from_zip (YieldsList-from_slice c.args.made (cc)) (YieldsList-from_slice c.args.given.now (cc)) in
    let all = fold_from_yields_List _ gathered 0 c.fold-differ.result c.fold-differ.ensures.ran pairs (λ a x b q k. search rules) in
    ap (λ d. eqb d 0) all ∙ gathered_none c.args.made c.args.given.now 0 (omega arith)
