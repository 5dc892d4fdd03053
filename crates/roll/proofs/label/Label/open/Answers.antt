use Rattle.roll.proofs.label.Label.open.Goals as goal

-- the nonce and the associated data are those of the label
pub returns-clause-answer : goal.returns-clause-answer
returns-clause-answer g c = simp (c.bytes.ensures.nonce, c.bytes.ensures.data) at c.open.ensures.answer

pub returns-clause-out : goal.returns-clause-out
returns-clause-out g c = simp (c.bytes.ensures.nonce, c.bytes.ensures.data) at c.open.ensures.out

pub returns-clause-exact : goal.returns-clause-exact
returns-clause-exact g c = simp (c.bytes.ensures.nonce, c.bytes.ensures.data) at c.open.ensures.exact
