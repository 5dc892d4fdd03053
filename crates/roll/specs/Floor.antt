-- What a sealing floor makes of the roll below it, and a pile of floors of its bottom.
use Rattle.std.specs.Prelude.{ℕ, ◌+◌, ◌-◌, min, if◌then◌else◌, List, [], ◌∷◌, ◌++◌, length, Some, None, Option, nat_lt}
use Rattle.tinyjambu.specs.Mode.{seal, opened}
use Rattle.engine.specs.Bytes.{bytes}
use Rattle.roll.specs.Roll.{Meaning, Entry, text, broken}

-- a floor: the key of its engine, and the byte of its kind (any byte, so that the laws hold for more than the kinds that there are)
pub record Layer : Type 0 where
  pub key : List ℕ
  pub kind : ℕ

-- what one sealing is done under
pub record Seal : Type 0 where
  pub key : List ℕ
  pub nonce : List ℕ
  pub kind : ℕ

-- the twelve bytes of a nonce: the name of the roll, the number of the floor and that of the entry, each with its least byte first
abbrev pub nonce : ℕ → ℕ → ℕ → List ℕ
nonce name floor i = bytes 4 name ++ bytes 4 floor ++ bytes 4 i

-- the number of a floor laid on a roll
abbrev pub above : Meaning → ℕ
above m = min (m.floor + 1) 65535

-- what a floor seals entry i under
abbrev pub seal_at : Layer → Meaning → ℕ → Seal
seal_at l below i = record { key = l.key; nonce = nonce below.name (above below) i; kind = l.kind }

-- a text sealed; the byte of the kind is its associated data
abbrev pub apply_seal : Seal → List ℕ → List ℕ
apply_seal s t = seal s.key s.nonce (s.kind ∷ []) t

-- an entry by what its opening gave: broken at this floor if no text seals to the bytes below
abbrev pub opened_entry : ℕ → ℕ → Option (List ℕ) → Entry
opened_entry floor n None = broken floor n
opened_entry floor n (Some t) = text t

-- entry i as a floor shows it: opened, or broken where it broke below
abbrev pub raised_entry : Layer → Meaning → ℕ → Entry → Entry
raised_entry l below i (text c) = opened_entry (above below) (length c - 8) (opened l.key (nonce below.name (above below) i) (l.kind ∷ []) c)
raised_entry l below i (broken f n) = broken f (n - 8)

-- each of the entries from number i on
abbrev pub raised_from : Layer → Meaning → ℕ → List Entry → List Entry
raised_from l below i [] = []
raised_from l below i (e ∷ es) = raised_entry l below i e ∷ raised_from l below (i + 1) es

-- what a floor makes of the roll below: a tag of 8 bytes more for each entry, and the rest the same
unfoldable pub raised : Layer → Meaning → Meaning
raised l below = record {
  name = below.name;
  floor = above below;
  bound = below.bound - 8;
  space = below.space;
  charge = λ n. if nat_lt n (below.bound - 8) then below.charge (n + 8) else 0;
  entries = raised_from l below 0 below.entries;
}

-- a pile, its top floor first
abbrev pub piled : List Layer → Meaning → Meaning
piled [] bottom = bottom
piled (l ∷ ls) bottom = raised l (piled ls bottom)

-- the sealings of entry i, the top floor's first
abbrev pub seals : List Layer → Meaning → ℕ → List Seal
seals [] bottom i = []
seals (l ∷ ls) bottom i = seal_at l (piled ls bottom) i ∷ seals ls bottom i

-- a text sealed under each of a list in turn
abbrev pub sealed_by : List Seal → List ℕ → List ℕ
sealed_by [] t = t
sealed_by (s ∷ ss) t = sealed_by ss (apply_seal s t)

-- a text as the bottom holds it under number i: sealed by each floor from the top down
abbrev pub sealed : List Layer → Meaning → ℕ → List ℕ → List ℕ
sealed ls bottom i t = sealed_by (seals ls bottom i) t
