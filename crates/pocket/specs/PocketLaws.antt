-- A pocket keeps the laws of a roll. (Proofs, which the pocket gives as ghost members.)
use Rattle.std.specs.Prelude.{◌≡◌, ℕ, suc, ◌+◌, ◌*◌, ◌<◌, ◌≤◌, List, [], ◌∷◌, length, take, drop, refl}
use Rattle.std.proofs.Common.{ap, arith, length-take, length-drop}
use Rattle.std.proofs.lemmas.Bool.{lt-ltb, le-ltb, cond-true, cond-false}
use Rattle.std.proofs.lemmas.List.Sums.{sum_by-cons}
use Rattle.roll.specs.Roll.{Lawful, ShortEntries}
use Rattle.roll.specs.Memory.{written}
use Rattle.pocket.specs.Pocket.{paged, paged_all, entries_at, pocket_charge, pocket, pocket_put, pocket_writes}

-- as many entries as lengths
pub entries-count : (bytes : List ℕ) (at : ℕ) (ns : List ℕ) → length (entries_at bytes at ns) ≡ length ns
entries-count bytes at [] = refl
entries-count bytes at (n ∷ ns) = ap suc (entries-count bytes (at + paged n) ns)

-- no entry is longer than the memory
entries-short : (bytes : List ℕ) (at : ℕ) (ns : List ℕ) → length bytes ≡ 4096 → ShortEntries (entries_at bytes at ns)
entries-short bytes at [] e = tt
entries-short bytes at (n ∷ ns) e = (omega (arith, length-take n (drop at bytes), length-drop at bytes), entries-short bytes (at + paged n) ns e)

-- the charge of an entry that is short enough
pub charge_is : (n : ℕ) → n < 513 → pocket_charge n ≡ paged n
charge_is n h = cond-true _ _ _ (lt-ltb n 513 h)

-- as many pages as entries at least
pub paged_many : (ns : List ℕ) → 64 * length ns ≤ paged_all ns
paged_many [] = omega arith
paged_many (n ∷ ns) = omega (arith, paged_many ns, sum_by-cons paged n ns)

-- so entries that fit are few
pub few_fit : (ns : List ℕ) → paged_all ns ≤ 4096 → length ns ≤ 64
few_fit ns h = omega (arith, paged_many ns)

-- a pocket is lawful
pub pocket_lawful : (name : ℕ) (bytes ns : List ℕ) → length bytes ≡ 4096 → length ns ≤ 64 → Lawful (pocket name bytes ns)
pocket_lawful name bytes ns e few = record {
  few = omega (arith, entries-count bytes 0 ns);
  short = entries-short bytes 0 ns e;
  bounded = λ h. omega arith;
  at_least = λ n h. omega (arith, charge_is n h);
  at_most = λ n h. omega (arith, charge_is n h);
  free = λ n h. cond-false _ _ _ (le-ltb n 513 h);
  low = omega arith;
  small = omega arith;
}

-- an append puts what the bytes and the space say
pub pocket_puts : (name : ℕ) (bytes ns t : List ℕ) → paged_all ns ≤ 4096 → pocket_put bytes ns t ≡ pocket_writes (pocket name bytes ns) bytes t
pocket_puts name bytes ns t h = ap (λ at. written at t bytes) (omega arith)

-- the first lengths of a list, of which there are few
pub few_taken : (c : ℕ) (ns : List ℕ) → c ≤ 64 → length (take c ns) ≤ 64
few_taken c ns h = omega (arith, length-take c ns)
