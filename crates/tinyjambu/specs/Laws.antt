-- The law of sealing and opening.
use Rattle.std.specs.Prelude.{◌≡◌, ℕ, List, length, take, None, Ok, Err, Result, ◌≢◌}
use Rattle.refusal.specs.declared.fault.Fault.{Fault}
use Rattle.refusal.specs.declared.refusal.Refusal.TheVariants.{Broken}
use Rattle.tinyjambu.specs.Answers.{open_refusal}
use Rattle.tinyjambu.specs.Mode.{seal}
use Rattle.refusal.specs.Refusals.{outside}

-- Opening is exact, by an answer and the out buffer afterwards: what is given seals to the bytes c, each text that seals to them is given,
-- there is at most one, and the answer is refusal 13 where there is none.
pub record Exact (key n ad c : List ℕ) (answer : Result ℕ Fault) (out : List ℕ) : Type 0 where
  pub gives : (m : ℕ) → answer ≡ Ok m → seal key n ad (take m out) ≡ c
  pub finds : (t : List ℕ) → seal key n ad t ≡ c → (answer ≡ Ok (length t)) × (take (length t) out ≡ t)
  pub one : (t u : List ℕ) → seal key n ad t ≡ c → seal key n ad u ≡ c → t ≡ u
  pub none : ((t : List ℕ) → seal key n ad t ≢ c) → answer ≡ Err (outside Broken)

-- so it is for each call that passes the checks of lengths
abbrev pub OpensExactly : List ℕ → List ℕ → List ℕ → List ℕ → List ℕ → Result ℕ Fault → List ℕ → Type 0
OpensExactly key n ad c before answer out = open_refusal n ad c before ≡ None → Exact key n ad c answer out
