use Rattle.std.proofs.Common.{◌≡◌, ◌-◌, true, false, ◌++◌, drop, is_ok, Err, sym, ap, ◌∙◌, rules}
use Rattle.std.proofs.lemmas.Result.{err_from_is_err_and}
use Rattle.refusal.specs.declared.refusal.Refusal.TheVariants.{Broken}
use Rattle.refusal.specs.Refusals.{fault}
use Rattle.floor.specs.Own.{own_layer}
use Rattle.floor.proofs.Floors.{reads_broken, read_shut, read_opened}
use Rattle.floor.proofs.floor.FloorRoll.read.Goals as goal

-- what broke below is refused as it was there
pub returns-in_err-n : goal.returns-in_err-n
returns-in_err-n g c =
    let s = c.args.self.now in
    let passed = err_from_is_err_and c.from_residual-in_err-n.result c.from_residual-in_err-n.ensures.1 in
    let done =
    reads_broken (own_layer g.E.Engine.key s) (g.R.Roll.meaning s.below) c.args.entry _ _ c.args.out.now _ _ (g.R.Roll.lawful_top s.below)
    c.length.ensures c.in_ok-len.was c.if-guard-len.false c.read.ensures.answer c.in_err-n.was in
    record {
      answer = passed.1 ∙ ap Err passed.2 ∙ sym done.0;
      out = c.drop-guard-in_err-n.ensures ∙ sym done.1;
      same = search rules;
    }

-- what the floor cannot open is broken there
pub returns-in_err-opened : goal.returns-in_err-opened
returns-in_err-opened g c =
    let s = c.args.self.now in
    let shut : is_ok c.open.result ≡ false = search rules in
    let done =
    read_shut (own_layer g.E.Engine.key s) (g.R.Roll.meaning s.below) c.args.entry _ _ _ _ _ c.read.new.out c.args.out.now _ _ (g.R.Roll.lawful_top s.below)
    c.length.ensures c.in_ok-len.was c.if-guard-len.false c.read.ensures.out c.read.ensures.answer c.in_ok-n.was
    c.floor-floor.ensures c.label-label.ensures.nonce c.label-label.ensures.data _ c.open.ensures.answer shut in
    let passed = err_from_is_err_and c.from_residual-in_err-opened.result c.from_residual-in_err-opened.ensures.1 in
    let what : c.in_err-opened.field-0.0 ≡ fault Broken c.floor-floor.result c.args.entry = search rules in
    record {
      answer = passed.1 ∙ ap Err (passed.2 ∙ what) ∙ sym done.0;
      out = (search rules) ∙ sym done.1;
      same = search rules;
    }

-- and what it opens is given out
pub returns : goal.returns
returns g c =
    let s = c.args.self.now in
    let opened : is_ok c.open.result ≡ true = search rules in
    let done =
    read_opened (own_layer g.E.Engine.key s) (g.R.Roll.meaning s.below) c.args.entry _ _ _ _ _ c.read.new.out c.args.out.now _ _ (g.R.Roll.lawful_top s.below)
    c.length.ensures c.in_ok-len.was c.if-guard-len.false c.read.ensures.out c.read.ensures.answer c.in_ok-n.was
    c.floor-floor.ensures c.label-label.ensures.nonce c.label-label.ensures.data _ c.open.ensures.answer opened in
    let whole : c.keep.new.self.0 ≡ c.open.new.out ++ drop (c.in_ok-len.len - 0) c.args.out.now = c.keep.ensures in
    record {
      answer = sym done.0;
      out = whole ∙ ap (λ x. x ++ drop (c.in_ok-len.len - 0) c.args.out.now) c.open.ensures.out ∙ sym done.1;
      same = search rules;
    }
