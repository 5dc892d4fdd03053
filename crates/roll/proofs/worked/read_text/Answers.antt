use Rattle.std.proofs.Common.{◌≡◌, ℕ, ◌+◌, ◌++◌, true, List, length, take, replicate, is_ok, vec_len, ap, ap₂, ◌∙◌, arith, rules}
use lib.ListN.{length-replicate}
use Rattle.std.proofs.lemmas.Bool.{cond-true}
use Rattle.roll.specs.Roll.{read_out}
use Rattle.roll.proofs.Reading.{told_there, cut_back, grown_longer}
use Rattle.roll.proofs.worked.read_text.Goals as goal

-- what was read stands behind the texts so far
pub returns-clause-told : goal.returns-clause-told
returns-clause-told g c =
    let m = g.R.Roll.meaning c.args.roll.now in
    let i = c.args.number in
    let all : List ℕ = c.deref_mut.result.now in
    let begin = c.len-begin.result in
    let out : List ℕ = c.read-answer.new.out in
    let zeros : List ℕ = replicate {A = ℕ} 4096 0 in
    let ok : is_ok c.resize.result ≡ true = search rules in
    let longer : c.resize.new.self.len ≡ begin + 4096 = c.resize.ensures.len ∙ cond-true _ _ _ ok in
    let grown =
    grown_longer c.args.texts.now.items all begin (vec_len c.args.texts.now) (search rules) (search rules)
    (c.deref_mut.ensures.value ∙ c.resize.ensures.items ∙ cond-true _ _ _ ok) in
    let long : length out ≡ 4096 = c.read-answer.auto.out ∙ ap length grown.1 ∙ length-replicate {A = ℕ} 4096 0 in
    let told = told_there m i zeros out c.read-answer.result (g.R.Roll.lawful_top c.args.roll.now) (length-replicate {A = ℕ} 4096 0) (search rules) (c.read-answer.ensures.out ∙ ap (read_out m i) grown.1) in
    let many : length (take begin all) ≡ begin = ap length grown.0 ∙ search rules in
    c.truncate.ensures.items
    ∙ cut_back (take begin all) out _ _ begin c.unwrap_or.result c.resize.new.self.len many (omega (arith, told.0, long, c.unwrap_or.ensures)) (omega (arith, told.0, longer, c.unwrap_or.ensures))
    ∙ ap₂ ◌++◌ grown.0 (ap (λ n. take n out) c.unwrap_or.ensures ∙ told.1)
