-- The whole life of a pile that is worked at its top, as a law over what was seen of it.
use Rattle.std.specs.Prelude.{◌≡◌, ℕ, ◌+◌, ◌<◌, false, List, [], ◌∷◌, ◌++◌, length, take, is_ok, Some, None, Ok, Err, Option}
use Rattle.roll.specs.declared.answer.Answer.{Answer}
use Rattle.roll.specs.declared.answer.Answer.TheVariants.{Appended, Read, Length, Number}
use Rattle.roll.specs.Roll.{Meaning, Put, text, entry, count, Lawful, append_answer, append_after, image_after, length_answer, read_answer, read_out}
use Rattle.roll.specs.Floor.{Layer, Seal, piled, seals, sealed}

-- a call at the top: an append of a text, a read of an entry into 4,096 bytes, an entry's length, or a question
pub data Call : Type 0 where
  append : List ℕ → Call
  read : ℕ → Call
  length_of : ℕ → Call
  ask_name : Call
  ask_floor : Call
  ask_bound : Call
  ask_space : Call
  ask_count : Call
  ask_charge : ℕ → Call

-- what a roll answers to a call
abbrev pub answer : Meaning → Call → Answer
answer m (append t) = Appended (append_answer m t)
answer m (read i) = Read (read_answer m i 4096)
answer m (length_of i) = Length (length_answer m i)
answer m ask_name = Number m.name
answer m ask_floor = Number m.floor
answer m ask_bound = Number m.bound
answer m ask_space = Number m.space
answer m ask_count = Number (count m)
answer m (ask_charge n) = Number (m.charge n)

-- the text that a call appends, if it is an append
abbrev pub appends : Call → Option (List ℕ)
appends (append t) = Some t
appends (read i) = None
appends (length_of i) = None
appends ask_name = None
appends ask_floor = None
appends ask_bound = None
appends ask_space = None
appends ask_count = None
appends (ask_charge n) = None

-- the bottom after a text is appended at the top, sealed by each floor; only an append changes it
abbrev pub stored : List Layer → Meaning → Option (List ℕ) → Meaning
stored ls b None = b
stored ls b (Some t) = append_after b (sealed ls b (count b) t)

-- the bottom after a list of calls at the top
abbrev pub after : List Layer → Meaning → List Call → Meaning
after ls b [] = b
after ls b (c ∷ cs) = after ls (stored ls b (appends c)) cs

-- the bytes of the bottom after a text is appended at the top; only an accepted append changes them
abbrev pub image_by : Put → List Layer → Meaning → List ℕ → Option (List ℕ) → List ℕ
image_by put ls b image None = image
image_by put ls b image (Some t) = image_after (append_answer (piled ls b) t) (put b image (sealed ls b (count b) t)) image

-- and after a list of calls at the top
abbrev pub image_after_all : Put → List Layer → Meaning → List ℕ → List Call → List ℕ
image_after_all put ls b image [] = image
image_after_all put ls b image (c ∷ cs) = image_after_all put ls (stored ls b (appends c)) (image_by put ls b image (appends c)) cs

-- the answers to a list of calls at the top
abbrev pub answers : List Layer → Meaning → List Call → List Answer
answers ls b [] = []
answers ls b (c ∷ cs) = answer (piled ls b) c ∷ answers ls (stored ls b (appends c)) cs

-- an accepted entry: the number that was answered, and the text that was given
pub record Kept : Type 0 where
  pub number : ℕ
  pub what : List ℕ

-- an append was accepted if the answer is Ok with a number
abbrev pub kept_as : List ℕ → Answer → List Kept
kept_as t (Appended (Ok i)) = record { number = i; what = t } ∷ []
kept_as t (Appended (Err f)) = []
kept_as t (Read r) = []
kept_as t (Length r) = []
kept_as t (Number n) = []

-- what one call adds to the accepted entries
abbrev pub kept_if : Option (List ℕ) → Answer → List Kept
kept_if None r = []
kept_if (Some t) r = kept_as t r

-- the accepted entries, from the calls and their answers alone
abbrev pub accepted : List Call → List Answer → List Kept
accepted [] rs = []
accepted (c ∷ cs) [] = []
accepted (c ∷ cs) (r ∷ rs) = kept_if (appends c) r ++ accepted cs rs

-- what the accepted entries cost together
abbrev pub charges : Meaning → List Kept → ℕ
charges m [] = 0
charges m (k ∷ ks) = m.charge (length k.what) + charges m ks

-- P holds of each element
abbrev pub Each : {A : Type 0} → (A → Type 0) → List A → Type 0
Each P [] = Unit {0}
Each P (x ∷ xs) = P x × Each P xs

-- the numbers of the accepted entries run on from n
abbrev pub Numbered : ℕ → List Kept → Type 0
Numbered n [] = Unit {0}
Numbered n (k ∷ ks) = (k.number ≡ n) × Numbered (n + 1) ks

-- every sealing that the accepted entries took, at every floor
abbrev pub all_seals : List Layer → Meaning → List Kept → List Seal
all_seals ls b [] = []
all_seals ls b (k ∷ ks) = seals ls b k.number ++ all_seals ls b ks

-- two sealings under one key and one nonce
abbrev pub Pair : Seal → Seal → Type 0
Pair s u = (s.key ≡ u.key) × (s.nonce ≡ u.nonce)

-- no two of a list are such
abbrev pub Differ : List Seal → Type 0
Differ [] = Unit {0}
Differ (s ∷ ss) = Each (λ u. Pair s u → ⊥) ss × Differ ss

-- r is a fair answer to an append of t after the accepted ks: if t is short enough and finds a number free, a refusal exactly when its charge is more than is left
abbrev pub FairAppend : Meaning → List Kept → List ℕ → Answer → Type 0
FairAppend m ks t r = length t < m.bound → count m + length ks < 4095
    → (kept_as t r ≡ [] → m.space < charges m ks + m.charge (length t)) × (m.space < charges m ks + m.charge (length t) → kept_as t r ≡ [])

-- a call that appends nothing may have any answer here
abbrev pub FairCall : Meaning → List Kept → Option (List ℕ) → Answer → Type 0
FairCall m ks None r = Unit {0}
FairCall m ks (Some t) r = FairAppend m ks t r

-- each call was answered, and each append fairly; ks are the entries accepted before, the newest first
abbrev pub Fair : Meaning → List Kept → List Call → List Answer → Type 0
Fair m ks [] rs = rs ≡ []
Fair m ks (c ∷ cs) [] = ⊥
Fair m ks (c ∷ cs) (r ∷ rs) = FairCall m ks (appends c) r × Fair m (kept_if (appends c) r ++ ks) cs rs

-- a read of entry i into 4,096 bytes, whatever they held, gives the text t
abbrev pub Gives : Meaning → ℕ → List ℕ → Type 0
Gives m i t = (out : List ℕ) → length out ≡ 4096 → (read_answer m i 4096 ≡ Ok (length t)) × (take (length t) (read_out m i out) ≡ t)

-- a pile of the floors ls on the bottom `start` was worked by the calls cs, which were answered rs; the bottom is then `end`, and the top is `top`
pub record Life (ls : List Layer) (start end top : Meaning) (cs : List Call) (rs : List Answer) : Type 0 where
  -- a read gives t exactly when t, sealed at each floor from the top down, is what the bottom holds
  pub reads : (i : ℕ) (t : List ℕ) → Gives top i t → entry end i ≡ Some (text (sealed ls start i t))
  pub gives : (i : ℕ) (t : List ℕ) → entry end i ≡ Some (text (sealed ls start i t)) → Gives top i t
  -- and at most one text is
  pub one : (i : ℕ) (t u : List ℕ) → sealed ls start i t ≡ sealed ls start i u → t ≡ u
  -- each accepted entry reads back, and what could be read at the start still can
  pub back : Each (λ k. Gives top k.number k.what) (accepted cs rs)
  pub stays : (i : ℕ) (t : List ℕ) → Gives (piled ls start) i t → Gives top i t
  -- the accepted entries were numbered from the count at the start on, without a gap
  pub numbered : Numbered (count (piled ls start)) (accepted cs rs)
  -- the count has risen by the accepted entries, and the space fallen by their charges
  pub counted : count top ≡ count (piled ls start) + length (accepted cs rs)
  pub spent : top.space + charges (piled ls start) (accepted cs rs) ≡ (piled ls start).space
  -- a next append that is short enough and finds a number free is refused exactly when its charge is more than the space
  pub refused_if : (t : List ℕ) → length t < (piled ls start).bound → count top < 4095
      → top.space < (piled ls start).charge (length t) → is_ok (append_answer top t) ≡ false
  pub only_if : (t : List ℕ) → length t < (piled ls start).bound → count top < 4095
      → is_ok (append_answer top t) ≡ false → top.space < (piled ls start).charge (length t)
  -- and so was each append of the list, in its turn
  pub fair : Fair (piled ls start) [] cs rs
  -- no two sealings, over all accepted entries and floors, are under one key and nonce
  pub differ : Differ (all_seals ls start (accepted cs rs))

-- so lives a pile of the floors ls on the bottom b, whatever list of calls works it
abbrev pub Lives : List Layer → Meaning → Type 0
Lives ls b = (cs : List Call) → Life ls b (after ls b cs) (piled ls (after ls b cs)) cs (answers ls b cs)

-- the law: so lives every pile on a lawful bottom
abbrev pub WholeLife : Type 0
WholeLife = (ls : List Layer) (b : Meaning) (cs : List Call) → Lawful b → Life ls b (after ls b cs) (piled ls (after ls b cs)) cs (answers ls b cs)
