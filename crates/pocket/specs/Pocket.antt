-- What a pocket means: 64 pages of 64 bytes, in which each entry begins on a page of its own.
use Rattle.std.specs.Prelude.{ℕ, ◌+◌, ◌-◌, ◌*◌, ◌/◌, max, if◌then◌else◌, List, [], ◌∷◌, ◌++◌, length, take, drop, nat_lt, sum_by}
use Rattle.roll.specs.Memory.{written}
use Rattle.roll.specs.Roll.{Meaning, Entry, text, Put}

-- the bytes of the pages that an entry of n bytes takes, which is at least one
abbrev pub paged : ℕ → ℕ
paged n = 64 * max 1 ((n + 63) / 64)

-- what entries of these lengths take together
abbrev pub paged_all : List ℕ → ℕ
paged_all ns = sum_by paged ns

-- the entries of these lengths, of which the first begins at a place of the bytes
abbrev pub entries_at : List ℕ → ℕ → List ℕ → List Entry
entries_at bytes at [] = []
entries_at bytes at (n ∷ ns) = text (take n (drop at bytes)) ∷ entries_at bytes (at + paged n) ns

-- what an entry costs: its pages, where it is short enough
abbrev pub pocket_charge : ℕ → ℕ
pocket_charge n = if nat_lt n 513 then paged n else 0

-- a pocket with a name, its bytes, and the lengths of its entries
abbrev pub pocket : ℕ → List ℕ → List ℕ → Meaning
pocket name bytes lengths = record {
  name = name;
  floor = 0;
  bound = 513;
  space = 4096 - paged_all lengths;
  charge = pocket_charge;
  entries = entries_at bytes 0 lengths;
}

-- the bytes after an accepted append of t, which begins behind the pages in use
abbrev pub pocket_put : List ℕ → List ℕ → List ℕ → List ℕ
pocket_put bytes lengths t = take (paged_all lengths) bytes ++ (t ++ drop (paged_all lengths + length t) bytes)

-- so a text that is accepted is written, by the space and the bytes alone
abbrev pub pocket_writes : Put
pocket_writes m bytes t = written (4096 - m.space) t bytes
