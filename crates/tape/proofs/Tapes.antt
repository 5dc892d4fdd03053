-- Tapes in order: where their entries stand, and what an append makes of them.
use Rattle.std.proofs.Common.{◌≡◌, ℕ, zero, suc, ◌+◌, ◌-◌, ◌*◌, ◌<◌, ◌≤◌, false, List, [], ◌∷◌, ◌++◌, map, length, drop, drop_of_length-le, Some, None, Ok, Err, Option, sym, refl, ap, ◌∙◌, ap₂, ⊎_elim, arith}
use Rattle.std.specs.List.{range_with_len}
use Rattle.std.specs.Option.{option_map_or}
use Rattle.std.proofs.lemmas.List.FromFn.{length-map-range_with_len, map-range_with_len_more}
use Rattle.std.proofs.lemmas.Bool.{both_ways, cases_lt, cond-true, cond-false, cond_both}
use Rattle.engine.specs.Bytes.{number, bytes}
use Rattle.refusal.specs.declared.refusal.Refusal.{Refusal}
use Rattle.roll.specs.Memory.{part, written}
use Rattle.roll.specs.Roll.{Meaning, Entry, text, count, entry, first, grown}
use Rattle.roll.proofs.Memories.{written_length, written_there, written_below, written_above}
use Rattle.roll.proofs.Rolls.{Takes}
use Rattle.tape.specs.Tape.{word, name_of, count_of, begin_of, end_of, last_end, InOrder, in_order, between, tape_entry, tape_charge, roll_of, ordered_tape, nothing, tape, tape_put}
use Rattle.tape.specs.Judged.{extent_of, judged, judgement}
use Rattle.tape.specs.TapeLaws.{ordered, charge_is}
use Rattle.tape.specs.declared.extent.Extent.{Extent}
use Rattle.tape.proofs.Orders.{begin_next, fails_length, in_order_is, judgement_is, judged_order, judged_disorder}

-- what a memory means, by the test
pub tape_is : (memory : List ℕ) → InOrder memory → tape memory ≡ ordered_tape memory
unfolding tape
tape_is memory o = cond-true _ _ _ (in_order_is memory o)

pub tape-nothing : (memory : List ℕ) → in_order memory ≡ false → tape memory ≡ nothing
unfolding tape
tape-nothing memory e = cond-false _ _ _ e

-- the element of a number in a list made by a function
made_at : (f : ℕ → Entry) (a n i : ℕ) → i < n → first (drop i (map f (range_with_len a n))) ≡ Some (f (a + i))
made_at f a zero i h = absurd (omega arith)
made_at f a (suc n) zero h = ap (λ k. Some (f k)) (omega arith)
made_at f a (suc n) (suc i) h = made_at f (a + 1) n i (omega arith) ∙ ap (λ k. Some (f k)) (omega arith)

-- lists made by two functions that agree
made_same : (f g : ℕ → Entry) (a n : ℕ) → ((i : ℕ) → a ≤ i → i < a + n → f i ≡ g i) → map f (range_with_len a n) ≡ map g (range_with_len a n)
made_same f g a zero h = refl
made_same f g a (suc n) h = ap₂ ◌∷◌ (h a (omega arith) (omega arith)) (made_same f g (a + 1) n (λ i l u. h i (omega arith) (omega arith)))

-- a tape in order
module _ (memory : List ℕ) (o : InOrder memory) where
  -- how many entries it has
  pub tape_count : count (ordered_tape memory) ≡ count_of memory
  tape_count = length-map-range_with_len (tape_entry memory) 0 (count_of memory)

  -- an entry begins no later than a later one
  begins_rise : (i j : ℕ) → i ≤ j → j ≤ count_of memory → begin_of memory i ≤ begin_of memory j
  begins_rise i zero l u = let z : i ≡ 0 = omega arith in omega (arith, ap (begin_of memory) z)
  begins_rise i (suc j) l u =
      ⊎_elim (λ h. omega (arith, begins_rise i j (omega arith) (omega arith), o.rising j (omega arith))) (λ h. let z : i ≡ suc j = omega arith in omega (arith, ap (begin_of memory) z)) (cases_lt i (suc j))

  -- each begins behind the header
  pub begins_late : (i : ℕ) → i ≤ count_of memory → 16 ≤ begin_of memory i
  begins_late i u = omega (arith, begins_rise 0 i (omega arith) u)

  -- each ends before the last does
  pub ends_early : (i : ℕ) → i < count_of memory → end_of memory i ≤ last_end memory
  ends_early i u = omega (arith, begin_next memory i, begins_rise (i + 1) (count_of memory) (omega arith) (omega arith))

  -- the entry of a number
  pub tape_at : (i : ℕ) → i < count_of memory → entry (ordered_tape memory) i ≡ Some (text (between memory i))
  tape_at i h = made_at (tape_entry memory) 0 (count_of memory) i h ∙ ap (λ k. Some (tape_entry memory k)) (omega arith)

  -- an entry lies within the memory
  pub between_within : (i : ℕ) → i < count_of memory → begin_of memory i + (end_of memory i - begin_of memory i) ≤ length memory
  between_within i h = omega (arith, o.rising i h, ends_early i h, o.apart)

-- what the checking call finds of a memory in order, and of any other
pub judged_finds : (memory : List ℕ) (x : Extent) → judgement memory ≡ Ok x → InOrder memory × (count (tape memory) ≡ x.count)
judged_finds memory x =
    judgement_is memory (λ r. r ≡ Ok x → InOrder memory × (count (tape memory) ≡ x.count))
    (λ t e. let o = ordered memory t in (o, ap count (tape_is memory o) ∙ tape_count memory o ∙ cc e)) (λ t f e. absurd (cc e)) (λ l e. absurd (cc e))

pub judged_refuses : (memory : List ℕ) (r : Refusal) → judgement memory ≡ Err r → (InOrder memory → ⊥) × (tape memory ≡ nothing)
judged_refuses memory r =
    judgement_is memory (λ j. j ≡ Err r → (InOrder memory → ⊥) × (tape memory ≡ nothing))
    (λ t e. absurd (cc e)) (λ t f e. refused f) (λ l e. refused (fails_length memory l))
  where
    refused : in_order memory ≡ false → (InOrder memory → ⊥) × (tape memory ≡ nothing)
    refused f = (λ o. both_ways (in_order memory) f (in_order_is memory o), tape-nothing memory f)

-- a tape with an extent: its memory is in order, and what it says is so by that extent
pub record Open (memory : List ℕ) (x : Extent) : Type 0 where
  pub ordered : InOrder memory
  pub extent_is : x ≡ extent_of memory
  pub means : tape memory ≡ roll_of (name_of memory) (length memory - 4 * x.count - x.end) (tape memory).entries
  pub count_is : count (tape memory) ≡ x.count
  -- the ends of the entries have room, behind the last entry and the header
  pub short : length memory ≤ 65536
  pub noted : 4 * x.count ≤ length memory
  pub apart : x.end ≤ length memory - 4 * x.count
  pub late : 16 ≤ x.end

-- what a tape keeps of its memory
module _ (memory : List ℕ) (found : Option Extent) (known : found ≡ judged memory) where
  -- with an extent it is such a tape
  pub opened : (x : Extent) → found ≡ Some x → Open memory x
  opened x e =
      let j = judged_order memory x (sym known ∙ e) in
      let o : InOrder memory = j.0 in
      let m = tape_is memory o in
      let n : x.count ≡ count_of memory = ap (λ y. y.count) j.1 in
      let z : x.end ≡ last_end memory = ap (λ y. y.end) j.1 in
      record {
        ordered = o;
        extent_is = j.1;
        means = m ∙ ap₂ (roll_of (name_of memory)) (omega (arith, n, z)) (ap (λ r. r.entries) (sym m));
        count_is = ap count m ∙ tape_count memory o ∙ sym n;
        short = o.short;
        noted = omega (arith, o.room);
        apart = omega (arith, o.apart);
        late = omega (arith, begins_late memory o (count_of memory) (omega arith));
      }

  -- or it is a roll with nothing
  pub opened_nothing : found ≡ None → tape memory ≡ nothing
  opened_nothing e = tape-nothing memory (judged_disorder memory (sym known ∙ e))

  -- either way it says the bound and the count
  pub opened_bound : option_map_or (λ x. 4097) found 0 ≡ (tape memory).bound
  opened_bound = from found refl
    where
      from : (o : Option Extent) → found ≡ o → option_map_or (λ x. 4097) o 0 ≡ (tape memory).bound
      from None e = ap (λ m. m.bound) (sym (opened_nothing e))
      from (Some x) e = ap (λ m. m.bound) (sym (opened x e).means)

  pub opened_count : option_map_or (λ x. x.count) found 0 ≡ count (tape memory)
  opened_count = from found refl
    where
      from : (o : Option Extent) → found ≡ o → option_map_or (λ x. x.count) o 0 ≡ count (tape memory)
      from None e = ap count (sym (opened_nothing e))
      from (Some x) e = sym (opened x e).count_is

-- a tape is a bottom
pub tape-floor : (memory : List ℕ) → (tape memory).floor ≡ 0
unfolding tape
tape-floor memory = cond_both (in_order memory) (ordered_tape memory) nothing (λ m. m.floor ≡ 0) (λ e. refl) (λ e. refl)

-- its bound is 4,097 or 0
pub bound-most : (memory : List ℕ) → (tape memory).bound ≤ 4097
unfolding tape
bound-most memory = cond_both (in_order memory) (ordered_tape memory) nothing (λ m. m.bound ≤ 4097) (λ e. omega arith) (λ e. omega arith)

-- what is short enough costs its length and four
pub charge_under : (memory : List ℕ) (n : ℕ) → n < (tape memory).bound → (tape memory).charge n ≡ n + 4
unfolding tape
charge_under memory n = cond_both (in_order memory) (ordered_tape memory) nothing (λ m. n < m.bound → m.charge n ≡ n + 4) (λ e h. charge_is n h) (λ e h. absurd (omega arith))

-- an entry below the count of a tape is one of a memory in order
pub below_count : (memory : List ℕ) (i : ℕ) → i < count (tape memory) → InOrder memory × (i < count_of memory)
unfolding tape
below_count memory i =
    cond_both (in_order memory) (ordered_tape memory) nothing (λ m. i < count m → InOrder memory × (i < count_of memory))
    (λ t h. (ordered memory t, omega (arith, tape_count memory (ordered memory t))))
    (λ f h. absurd (omega arith))

-- an entry of a tape, and where it ends, stand within the memory
pub record StandsIn (memory : List ℕ) (i : ℕ) : Type 0 where
  pub noted : 4 * (i + 1) ≤ length memory
  pub rises : begin_of memory i ≤ end_of memory i
  pub within : end_of memory i ≤ length memory
  pub stands : entry (tape memory) i ≡ Some (text (between memory i))

-- as each entry below the count does
pub stands_in : (memory : List ℕ) (i : ℕ) → i < count (tape memory) → StandsIn memory i
stands_in memory i h =
    let q = below_count memory i h in
    record {
      noted = omega (arith, q.0.room);
      rises = q.0.rising i q.1;
      within = omega (arith, q.0.rising i q.1, between_within memory q.0 i q.1);
      stands = ap (λ m. entry m i) (tape_is memory q.0) ∙ tape_at memory q.0 i q.1;
    }

-- from the count on there is no entry
pub entry_past : (m : Meaning) (i : ℕ) → count m ≤ i → entry m i ≡ None
entry_past m i h = ap first (drop_of_length-le m.entries h)

-- an extent by its parts
abbrev pub extent : ℕ → ℕ → Extent
extent count end = record { count = count; end = end }

-- an append that is accepted
module _ (memory t : List ℕ) (o : InOrder memory) (short : length t < 4097) (room : count_of memory < 4095)
    (paid : length t + 4 ≤ length memory - 4 * count_of memory - last_end memory) where
  -- how many entries there were, where the last ended, and where the end of the new one goes
  abbrev c : ℕ
  c = count_of memory

  abbrev e : ℕ
  e = last_end memory

  abbrev at : ℕ
  at = length memory - 4 * (c + 1)

  -- the memory with the entry, with its end, and with the new count
  abbrev one : List ℕ
  one = written e t memory

  abbrev two : List ℕ
  two = written at (bytes 4 (e + length t)) one

  abbrev next : List ℕ
  next = written 4 (bytes 4 (c + 1)) two

  -- the last entry ended behind the header
  late : 16 ≤ e
  late = begins_late memory o c (omega arith)

  -- the new one ends before its end stands
  apart : e + length t ≤ at
  apart = omega (arith, o.apart)

  within : at + 4 + 4 * c ≡ length memory
  within = omega (arith, o.apart)

  length_one : length one ≡ length memory
  length_one = written_length e t memory (omega (arith, apart, within))

  length_two : length two ≡ length memory
  length_two = written_length at (bytes 4 (e + length t)) one (omega (arith, length_one, within)) ∙ length_one

  -- the memory is as long as it was
  pub length_next : length next ≡ length memory
  length_next = written_length 4 (bytes 4 (c + 1)) two (omega (arith, length_two, within, late, apart)) ∙ length_two

  -- the name is as it was
  same_name : part 0 4 next ≡ part 0 4 memory
  same_name =
      written_below 4 (bytes 4 (c + 1)) two (omega (arith, length_two, within, late, apart)) 0 4 (omega arith)
      ∙ written_below at (bytes 4 (e + length t)) one (omega (arith, length_one, within)) 0 4 (omega (arith, late, apart))
      ∙ written_below e t memory (omega (arith, apart, within)) 0 4 (omega (arith, late))

  -- and all between the count and the end of the last entry
  same_low : (k n : ℕ) → 8 ≤ k → k + n ≤ e → part k n next ≡ part k n memory
  same_low k n l u =
      written_above 4 (bytes 4 (c + 1)) two (omega (arith, length_two, within, late, apart)) k n l
      ∙ written_below at (bytes 4 (e + length t)) one (omega (arith, length_one, within)) k n (omega (arith, apart))
      ∙ written_below e t memory (omega (arith, apart, within)) k n u

  -- and the ends of the old entries
  same_high : (k n : ℕ) → at + 4 ≤ k → part k n next ≡ part k n memory
  same_high k n l =
      written_above 4 (bytes 4 (c + 1)) two (omega (arith, length_two, within, late, apart)) k n (omega (arith, late, apart))
      ∙ written_above at (bytes 4 (e + length t)) one (omega (arith, length_one, within)) k n l
      ∙ written_above e t memory (omega (arith, apart, within)) k n (omega (arith, apart))

  -- the count is one more
  count_next : count_of next ≡ c + 1
  count_next = ap number (written_there 4 (bytes 4 (c + 1)) two (omega (arith, length_two, within, late, apart))) ∙ omega arith

  -- the old entries end where they did
  end_same : (i : ℕ) → i < c → end_of next i ≡ end_of memory i
  end_same i h =
      ap (λ k. word (k - 4 * (i + 1)) next) length_next
      ∙ ap number (same_high (length memory - 4 * (i + 1)) 4 (omega (arith, within)))

  -- and begin where they did
  begin_same : (i : ℕ) → i ≤ c → begin_of next i ≡ begin_of memory i
  begin_same zero h = refl
  begin_same (suc i) h = end_same i (omega arith)

  -- the new one ends where it should
  end_new : end_of next c ≡ e + length t
  end_new =
      ap (λ k. word (k - 4 * (c + 1)) next) length_next
      ∙ ap number (written_above 4 (bytes 4 (c + 1)) two (omega (arith, length_two, within, late, apart)) at 4 (omega (arith, late, apart))
      ∙ written_there at (bytes 4 (e + length t)) one (omega (arith, length_one, within)))
      ∙ omega (arith, o.short, apart, within)

  last_next : last_end next ≡ e + length t
  last_next = ap (begin_of next) count_next ∙ begin_next next c ∙ end_new

  -- so the memory is in order
  pub next_ordered : InOrder next
  next_ordered = record {
    long = omega (arith, length_next, o.long);
    short = omega (arith, length_next, o.short);
    sized = ap number (same_low 12 4 (omega arith) (omega (arith, late))) ∙ o.sized ∙ sym length_next;
    first = ap number (same_low 8 4 (omega arith) (omega (arith, late))) ∙ o.first;
    few = omega (arith, count_next);
    room = omega (arith, count_next, length_next, within, late, apart);
    rising = λ i h. ⊎_elim (λ l. omega (arith, begin_same i (omega arith), end_same i l, o.rising i l)) (λ l. let z : i ≡ c = omega (arith, count_next) in rw z (omega (arith, begin_same c (omega arith), end_new))) (cases_lt i c);
    small = λ i h. ⊎_elim (λ l. omega (arith, begin_same i (omega arith), end_same i l, o.small i l)) (λ l. let z : i ≡ c = omega (arith, count_next) in rw z (omega (arith, begin_same c (omega arith), end_new))) (cases_lt i c);
    apart = omega (arith, last_next, count_next, length_next, apart);
  }

  -- the old entries are as they were
  entry_same : (i : ℕ) → i < c → tape_entry next i ≡ tape_entry memory i
  entry_same i h =
      ap₂ (λ b f. text (part b (f - b) next)) (begin_same i (omega arith)) (end_same i h)
      ∙ ap text (same_low (begin_of memory i) (end_of memory i - begin_of memory i) (omega (arith, begins_late memory o i (omega arith))) (omega (arith, o.rising i h, ends_early memory o i h)))

  -- the new one is the text
  entry_new : tape_entry next c ≡ text t
  entry_new =
      ap₂ (λ b f. text (part b (f - b) next)) (begin_same c (omega arith)) end_new
      ∙ ap (λ n. text (part e n next)) (omega arith)
      ∙ ap text (written_above 4 (bytes 4 (c + 1)) two (omega (arith, length_two, within, late, apart)) e (length t) (omega (arith, late))
      ∙ written_below at (bytes 4 (e + length t)) one (omega (arith, length_one, within)) e (length t) apart
      ∙ written_there e t memory (omega (arith, apart, within)))

  -- the memory means the roll with the text
  next_means : ordered_tape next ≡ grown (ordered_tape memory) t
  next_means =
      let space : ℕ = (ordered_tape memory).space - tape_charge (length t) in
      let spent : (ordered_tape next).space ≡ space = omega (arith, length_next, count_next, last_next, charge_is (length t) short) in
      ap₂ (λ n s. roll_of n s (map (tape_entry next) (range_with_len 0 (count_of next)))) (ap number same_name) spent
      ∙ ap (roll_of (name_of memory) space)
      (ap (λ n. map (tape_entry next) (range_with_len 0 n)) count_next ∙ map-range_with_len_more (tape_entry next) 0 c c (omega arith)
      ∙ ap₂ (λ es x. es ++ x ∷ []) (made_same (tape_entry next) (tape_entry memory) 0 c (λ i l u. entry_same i (omega arith))) entry_new)

  -- what an append writes is that memory
  pub put_length : (m : Meaning) → length (tape_put m memory t) ≡ length memory
  unfolding tape_put
  put_length m = length_next

  pub put_ordered : (m : Meaning) → InOrder (tape_put m memory t)
  unfolding tape_put
  put_ordered m = next_ordered

  pub put_means : (m : Meaning) → tape (tape_put m memory t) ≡ grown (tape memory) t
  unfolding tape_put
  put_means m = tape_is next next_ordered ∙ next_means ∙ ap (λ x. grown x t) (sym (tape_is memory o))

  -- which is judged so
  pub put_judged : (m : Meaning) → judged (tape_put m memory t) ≡ Some (extent (c + 1) (e + length t))
  unfolding tape_put
  put_judged m = cond-true _ _ _ (in_order_is next next_ordered) ∙ ap₂ (λ x y. Some (extent x y)) count_next last_next

  -- the append is accepted
  pub tape_takes : Takes (tape memory) t
  tape_takes =
      let m = tape_is memory o in
      record {
        fits = omega (arith, ap (λ x. x.bound) m);
        room = omega (arith, ap count m, tape_count memory o);
        paid = omega (arith, ap (λ x. x.space) m, charge_under memory (length t) (omega (arith, ap (λ x. x.bound) m)));
      }
