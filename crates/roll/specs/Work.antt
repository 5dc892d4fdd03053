-- A list of calls as the program is given it, and what is left when it has been worked.
use Rattle.std.specs.Prelude.{◌≡◌, ℕ, List, [], ◌∷◌, ◌++◌, Some, None, Option}
use Rattle.roll.specs.declared.call.Call.{Call as Given}
use Rattle.roll.specs.declared.call.Call.TheVariants.{Append, Read, Length, Name, Floor, Bound, Space, Count, Charge}
use Rattle.roll.specs.declared.answer.Answer.{Answer}
use Rattle.roll.specs.Roll.{Meaning, Entry, text_of, entry}
use Rattle.roll.specs.Floor.{Layer, piled}
use Rattle.roll.specs.Life.{Call, append, read, length_of, ask_name, ask_floor, ask_bound, ask_space, ask_count, ask_charge, appends, stored, after, answers, Life}

-- a call as it was given
abbrev pub heard : Given → Call
heard (Append t) = append t.now
heard (Read i) = read i
heard (Length i) = length_of i
heard Name = ask_name
heard Floor = ask_floor
heard Bound = ask_bound
heard Space = ask_space
heard Count = ask_count
heard (Charge n) = ask_charge n

-- each call of a list
abbrev pub all_heard : List Given → List Call
all_heard [] = []
all_heard (g ∷ gs) = heard g ∷ all_heard gs

-- the entry that a call reads, if it is a read
abbrev pub reads : Call → Option ℕ
reads (append t) = None
reads (read i) = Some i
reads (length_of i) = None
reads ask_name = None
reads ask_floor = None
reads ask_bound = None
reads ask_space = None
reads ask_count = None
reads (ask_charge n) = None

-- the text of an entry, where there is one
abbrev pub text_at : Option Entry → List ℕ
text_at None = []
text_at (Some e) = text_of e

-- the text that a call reads, where it reads one
abbrev pub told : Meaning → Option ℕ → List ℕ
told m None = []
told m (Some i) = text_at (entry m i)

-- the texts that a list of calls reads, one after the other
abbrev pub texts_read : List Layer → Meaning → List Call → List ℕ
texts_read ls b [] = []
texts_read ls b (c ∷ cs) = told (piled ls b) (reads c) ++ texts_read ls (stored ls b (appends c)) cs

-- the calls cs were worked at the top of the floors ls on the bottom `start`: they were answered rs, and ts are the texts that they read; the bottom is then `end`, and the top is `top`
pub record Worked (ls : List Layer) (start end top : Meaning) (cs : List Call) (rs : List Answer) (ts : List ℕ) : Type 0 where
  pub answered : rs ≡ answers ls start cs
  pub read : ts ≡ texts_read ls start cs
  pub ended : end ≡ after ls start cs
  pub topped : top ≡ piled ls end
  pub life : Life ls start end top cs rs
