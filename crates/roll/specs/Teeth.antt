-- That the law of a life speaks of something, and that it fails of what is wrong.
use Rattle.std.specs.Prelude.{◌≡◌, ℕ, ◌+◌, ◌<◌, ◌≤◌, if◌then◌else◌, List, [], ◌∷◌, ◌++◌, length, Some, Err, nat_lt}
use Rattle.refusal.specs.declared.fault.Fault.{Fault}
use Rattle.roll.specs.declared.answer.Answer.{Answer}
use Rattle.roll.specs.declared.answer.Answer.TheVariants.{Appended}
use Rattle.roll.specs.Roll.{Meaning, Lawful, text, entry, count}
use Rattle.roll.specs.Floor.{Layer, piled}
use Rattle.roll.specs.Life.{Call, append, Kept, answers, accepted, Life}

-- a bottom with no entries and 1,000 bytes of space
abbrev pub blank : Meaning
blank = record { name = 7; floor = 0; bound = 4097; space = 1000; charge = λ n. if nat_lt n 4097 then n + 4 else 0; entries = [] }

-- two appends, of 2 bytes and of none
abbrev pub two_appends : List Call
two_appends = append (104 ∷ 105 ∷ []) ∷ append [] ∷ []

-- it is lawful, and under any two floors both of two appends are accepted
abbrev pub BlankLawful : Type 0
BlankLawful = Lawful blank

abbrev pub BothAccepted : Type 0
BothAccepted = (l k : Layer) → length (accepted two_appends (answers (l ∷ k ∷ []) blank two_appends)) ≡ 2

-- an accepted text that the bottom holds unsealed under a floor is no life
abbrev pub UnsealedFails : Type 0
UnsealedFails = (l : Layer) (ls : List Layer) (start end top : Meaning) (cs : List Call) (rs : List Answer) (before rest : List Kept) (k : Kept)
    → accepted cs rs ≡ before ++ k ∷ rest → entry end k.number ≡ Some (text k.what) → Life (l ∷ ls) start end top cs rs → ⊥

-- nor is an accepted text after which the count has not grown
abbrev pub UncountedFails : Type 0
UncountedFails = (ls : List Layer) (start end top : Meaning) (cs : List Call) (rs : List Answer) (k : Kept) (ks : List Kept)
    → accepted cs rs ≡ k ∷ ks → count top ≡ count (piled ls start) → Life ls start end top cs rs → ⊥

-- nor are two accepted texts under one number
abbrev pub TwiceFails : Type 0
TwiceFails = (ls : List Layer) (start end top : Meaning) (cs : List Call) (rs : List Answer) (before between rest : List Kept) (k u : Kept)
    → accepted cs rs ≡ before ++ k ∷ (between ++ u ∷ rest) → k.number ≡ u.number → Life ls start end top cs rs → ⊥

-- nor is a refusal of an append that is short enough, finds a number free and is paid for
abbrev pub MiserlyFails : Type 0
MiserlyFails = (ls : List Layer) (start end top : Meaning) (t : List ℕ) (cs : List Call) (f : Fault) (rs : List Answer)
    → length t < (piled ls start).bound → count (piled ls start) < 4095 → (piled ls start).charge (length t) ≤ (piled ls start).space
    → Life ls start end top (append t ∷ cs) (Appended (Err f) ∷ rs) → ⊥

-- nor is a call with no answer
abbrev pub SilentFails : Type 0
SilentFails = (ls : List Layer) (start end top : Meaning) (c : Call) (cs : List Call) → Life ls start end top (c ∷ cs) [] → ⊥
