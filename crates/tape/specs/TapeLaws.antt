-- A tape keeps the laws of a roll. (Proofs, which the tape gives as ghost members.)
use Rattle.std.specs.Prelude.{◌≡◌, ℕ, zero, suc, ◌+◌, ◌-◌, ◌<◌, ◌≤◌, Bool, true, List, map, length, drop, ◌==◌, nat_le, refl}
use Rattle.std.proofs.Common.{⊎_elim, arith, length-take}
use Rattle.std.specs.List.{range_with_len}
use Rattle.std.proofs.lemmas.List.FromFn.{length-map-range_with_len}
use Rattle.std.proofs.lemmas.Bool.{and_parts, cases_lt, cond_both, cond-true, cond-false, eqb-true, leb-true, lt-ltb, le-ltb}
use Rattle.roll.specs.Roll.{Lawful, ShortEntries}
use Rattle.tape.specs.Tape.{size_of, first_of, count_of, begin_of, end_of, InOrder, every, entry_ordered, tape_length, header_ordered, in_order, tape_entry, tape_charge, ordered_tape, nothing, tape}

-- what every number below n passes, each of them passes
passes : (test : ℕ → Bool) (n i : ℕ) → every test n ≡ true → i < n → test i ≡ true
passes test zero i e h = absurd (omega arith)
passes test (suc n) i e h =
    let both = and_parts (test n) (every test n) e in
    ⊎_elim (λ l. passes test n i both.1 l) (λ l. let same : n ≡ i = omega arith in rw same at both.0) (cases_lt i n)

-- a memory that passes the test is in order
pub ordered : (memory : List ℕ) → in_order memory ≡ true → InOrder memory
unfolding in_order
ordered memory e =
    let whole = and_parts (tape_length (length memory)) _ e in
    let lengths = and_parts (nat_le 16 (length memory)) _ whole.0 in
    let parts = and_parts (header_ordered memory) _ whole.1 in
    let size = and_parts (size_of memory == length memory) _ parts.0 in
    let first = and_parts (first_of memory == 16) _ size.1 in
    let counts = and_parts (nat_le (count_of memory) 4095) _ first.1 in
    let body = and_parts (every (entry_ordered memory) (count_of memory)) _ parts.1 in
    let each : (i : ℕ) → i < count_of memory → (nat_le (begin_of memory i) (end_of memory i) ≡ true) × (nat_le (end_of memory i) (begin_of memory i + 4096) ≡ true)
    = λ i h. and_parts _ _ (passes (entry_ordered memory) (count_of memory) i body.0 h) in
    record {
      long = leb-true _ _ lengths.0;
      short = leb-true _ _ lengths.1;
      sized = eqb-true _ _ size.0;
      first = eqb-true _ _ first.0;
      few = leb-true _ _ counts.0;
      room = leb-true _ _ counts.1;
      rising = λ i h. leb-true _ _ (each i h).0;
      small = λ i h. leb-true _ _ (each i h).1;
      apart = leb-true _ _ body.1;
    }

-- entries are short if each is
shorts : (memory : List ℕ) (a n : ℕ) → ((i : ℕ) → a ≤ i → i < a + n → end_of memory i ≤ begin_of memory i + 4096) → ShortEntries (map (tape_entry memory) (range_with_len a n))
shorts memory a zero h = tt
shorts memory a (suc n) h =
    let last = h a (omega arith) (omega arith) in (
      omega (arith, last, length-take (end_of memory a - begin_of memory a) (drop (begin_of memory a) memory)),
      shorts memory (a + 1) n (λ i l u. h i (omega arith) (omega arith)),
    )

-- what an entry that is short enough costs
pub charge_is : (n : ℕ) → n < 4097 → tape_charge n ≡ n + 4
charge_is n h = cond-true _ _ _ (lt-ltb n 4097 h)

-- a tape in order is lawful
ordered_lawful : (memory : List ℕ) → InOrder memory → Lawful (ordered_tape memory)
ordered_lawful memory o = record {
  few = omega (arith, length-map-range_with_len (tape_entry memory) 0 (count_of memory), o.few);
  short = shorts memory 0 (count_of memory) (λ i l u. o.small i (omega arith));
  bounded = λ h. omega arith;
  at_least = λ n h. omega (arith, charge_is n h);
  at_most = λ n h. omega (arith, charge_is n h);
  free = λ n h. cond-false _ _ _ (le-ltb n 4097 h);
  low = omega arith;
  small = omega (arith, o.short);
}

-- so is a roll with nothing
nothing_lawful : Lawful nothing
nothing_lawful = record {
  few = omega arith;
  short = tt;
  bounded = λ h. absurd (omega arith);
  at_least = λ n h. absurd (omega arith);
  at_most = λ n h. absurd (omega arith);
  free = λ n h. refl;
  low = omega arith;
  small = omega arith;
}

-- and so every tape
pub tape_lawful : (memory : List ℕ) → Lawful (tape memory)
unfolding tape
tape_lawful memory = cond_both (in_order memory) (ordered_tape memory) nothing Lawful (λ e. ordered_lawful memory (ordered memory e)) (λ e. nothing_lawful)
