-- What a roll means, and what each call on one answers and leaves.
use Rattle.std.specs.Prelude.{◌≡◌, ℕ, ◌+◌, ◌-◌, ◌*◌, ◌<◌, ◌≤◌, if◌then◌else◌, List, [], ◌∷◌, ◌++◌, length, drop, replicate, Some, None, Ok, Err, Option, Result, nat_le, nat_lt}
use Rattle.refusal.specs.declared.fault.Fault.{Fault}
use Rattle.refusal.specs.Refusals.{fault}
use Rattle.refusal.specs.declared.refusal.Refusal.TheVariants.{NoEntry, EntryTooLong, RollFull, NoSpace, OutTooShort, Broken}

-- an entry: its text, or the floor at which it is broken, and its length
pub data Entry : Type 0 where
  text : List ℕ → Entry
  broken : ℕ → ℕ → Entry

-- the length of an entry, broken or not
abbrev pub entry_length : Entry → ℕ
entry_length (text t) = length t
entry_length (broken floor n) = n

-- what a roll is to its caller
pub record Meaning : Type 0 where
  -- its name and the number of its floor, which go into nonces
  pub name : ℕ
  pub floor : ℕ
  -- entries to append are shorter
  pub bound : ℕ
  -- what is left to pay for entries with, and what an entry costs by its length
  pub space : ℕ
  pub charge : ℕ → ℕ
  -- the entries, the oldest first
  pub entries : List Entry

-- how many entries there are
abbrev pub count : Meaning → ℕ
count m = length m.entries

-- the first of a list, if there is one
abbrev pub first : List Entry → Option Entry
first [] = None
first (e ∷ es) = Some e

-- the entry of a number, if there is one; the oldest is number 0
abbrev pub entry : Meaning → ℕ → Option Entry
entry m i = first (drop i m.entries)

-- no entry is longer than 4,096 bytes
abbrev pub ShortEntries : List Entry → Type 0
ShortEntries [] = Unit {0}
ShortEntries (e ∷ es) = (entry_length e ≤ 4096) × ShortEntries es

-- the laws that every roll keeps
pub record Lawful (m : Meaning) : Type 0 where
  pub few : count m ≤ 4095
  pub short : ShortEntries m.entries
  -- a text that is short enough is at most 4,096 bytes when it has been sealed by each floor
  pub bounded : 0 < m.bound → m.bound + 8 * m.floor ≤ 4097
  -- a text that is short enough costs its length and a little more, and any other nothing
  pub at_least : (n : ℕ) → n < m.bound → n ≤ m.charge n
  pub at_most : (n : ℕ) → n < m.bound → m.charge n ≤ n + 64 + 8 * m.floor
  pub free : (n : ℕ) → m.bound ≤ n → m.charge n ≡ 0
  pub low : m.floor ≤ 65535
  pub small : m.space ≤ 65536

-- the answer to an append of a text: the number of the new entry, or the first of three refusals that applies
abbrev pub append_answer : Meaning → List ℕ → Result ℕ Fault
append_answer m t =
    if nat_le m.bound (length t) then Err (fault EntryTooLong m.floor (count m)) else
    if nat_le 4095 (count m) then Err (fault RollFull m.floor (count m)) else
    if nat_lt m.space (m.charge (length t)) then Err (fault NoSpace m.floor (count m)) else
    Ok (count m)

-- the roll with one text more
abbrev pub grown : Meaning → List ℕ → Meaning
grown m t = record {
  name = m.name;
  floor = m.floor;
  bound = m.bound;
  space = m.space - m.charge (length t);
  charge = m.charge;
  entries = m.entries ++ text t ∷ [];
}

-- the roll after an append: with the text if it was accepted, else as it was
abbrev pub append_after : Meaning → List ℕ → Meaning
append_after m t = elim (append_answer m t) [ Ok _ ↦ grown m t | Err _ ↦ m ]

-- how a bottom writes a text that it accepts: from its meaning, its bytes and the text to its bytes then
abbrev pub Put : Type 0
Put = Meaning → List ℕ → List ℕ → List ℕ

-- the stored bytes after an append: the new ones if it was accepted, else the old
abbrev pub image_after : Result ℕ Fault → List ℕ → List ℕ → List ℕ
image_after (Ok i) new old = new
image_after (Err f) new old = old

-- the answer to a question for the length of an entry, broken or not
abbrev pub length_answer : Meaning → ℕ → Result ℕ Fault
length_answer m i = elim (entry m i) [ None ↦ Err (fault NoEntry m.floor i) | Some e ↦ Ok (entry_length e) ]

-- the answer to a read of an entry that the out buffer has room for
abbrev pub read_entry : Meaning → ℕ → Entry → Result ℕ Fault
read_entry m i (text t) = Ok (length t)
read_entry m i (broken f n) = Err (fault Broken f i)

-- the answer to a read of the entry of a number into a buffer of so many bytes: the length of the text, or a refusal
abbrev pub read_answer : Meaning → ℕ → ℕ → Result ℕ Fault
read_answer m i room = elim (entry m i) [
  | None ↦ Err (fault NoEntry m.floor i)
  | Some e ↦ if nat_lt room (entry_length e) then Err (fault OutTooShort m.floor i) else read_entry m i e
]

-- the text of an entry, which a broken one has not
abbrev pub text_of : Entry → List ℕ
text_of (text t) = t
text_of (broken f n) = []

-- the out buffer after a read: only zeros if it was refused, else the text and then what was there
abbrev pub read_out : Meaning → ℕ → List ℕ → List ℕ
read_out m i out = elim (read_answer m i (length out)) [
  | Err _ ↦ replicate (length out) 0
  | Ok n ↦ elim (entry m i) [ None ↦ out | Some e ↦ text_of e ++ drop n out ]
]
