-- The test for order, and the relation that it decides.
use Rattle.std.proofs.Common.{◌≡◌, ℕ, zero, suc, ◌+◌, ◌-◌, ◌*◌, ◌<◌, ◌≤◌, ◌&&◌, Bool, true, false, leb, List, length, Some, None, Ok, Err, Result, sym, refl, ap, ◌∙◌, ap₂, ⊎_elim, add-one, arith}
use Rattle.std.proofs.lemmas.Bool.{and_from, and_left, and_right, cases_lt, cond-true, cond-false, cond_both, eq-eqb, le-leb}
use Rattle.std.specs.Result.{result_ok}
use Rattle.refusal.specs.declared.refusal.Refusal.{Refusal}
use Rattle.refusal.specs.declared.refusal.Refusal.TheVariants.{TapeLength, TapeDisorder}
use Rattle.roll.proofs.Rolls.{none_some}
use Rattle.tape.specs.declared.extent.Extent.{Extent}
use Rattle.tape.specs.Tape.{begin_of, end_of, count_of, last_end, InOrder, every, entry_ordered, tape_length, header_ordered, in_order}
use Rattle.tape.specs.TapeLaws.{ordered}
use Rattle.tape.specs.Judged.{tape_length_answer, extent_of, judged, judgement}

-- the next entry begins where this one ends
pub begin_next : (memory : List ℕ) (i : ℕ) → begin_of memory (i + 1) ≡ end_of memory i
begin_next memory i = ap (begin_of memory) (add-one i)

-- one number more passes
pub every_more : (test : ℕ → Bool) (i : ℕ) → test i ≡ true → every test i ≡ true → every test (i + 1) ≡ true
every_more test i e h = ap (every test) (add-one i) ∙ and_from (test i) (every test i) e h

-- what each number passes, every one passes
pub every-each : (test : ℕ → Bool) (n : ℕ) → ((i : ℕ) → i < n → test i ≡ true) → every test n ≡ true
every-each test zero h = refl
every-each test (suc n) h = and_from (test n) (every test n) (h n (omega arith)) (every-each test n (λ i l. h i (omega arith)))

-- where one number fails, not every one passes
every_fails : (test : ℕ → Bool) (n i : ℕ) → i < n → test i ≡ false → every test n ≡ false
every_fails test zero i h e = absurd (omega arith)
every_fails test (suc n) i h e =
    ⊎_elim (λ l. and_right (test n) (every test n) (every_fails test n i l e)) (λ l. let same : i ≡ n = omega arith in and_left (test n) (every test n) (ap test (sym same) ∙ e)) (cases_lt i n)

-- a length that is not refused is that of a tape
pub length_passed : (n : ℕ) → Ok tt ≡ tape_length_answer n → tape_length n ≡ true
length_passed n = cond_both (tape_length n) _ _ (λ r. Ok tt ≡ r → tape_length n ≡ true) (λ t e. t) (λ f e. absurd (cc e))

-- a memory that passes each part of the test is in order, and one that fails any part is not
module _ (memory : List ℕ) where
  pub passes : tape_length (length memory) ≡ true → header_ordered memory ≡ true → every (entry_ordered memory) (count_of memory) ≡ true
      → leb (last_end memory) (length memory - 4 * count_of memory) ≡ true → in_order memory ≡ true
  unfolding in_order
  passes a b c d = and_from _ _ a (and_from _ _ b (and_from _ _ c d))

  pub fails_length : tape_length (length memory) ≡ false → in_order memory ≡ false
  unfolding in_order
  fails_length e = and_left (tape_length (length memory)) _ e

  pub fails_header : header_ordered memory ≡ false → in_order memory ≡ false
  unfolding in_order
  fails_header e = and_right (tape_length (length memory)) _ (and_left (header_ordered memory) _ e)

  pub fails_entry : (i : ℕ) → i < count_of memory → entry_ordered memory i ≡ false → in_order memory ≡ false
  unfolding in_order
  fails_entry i h e =
      and_right (tape_length (length memory)) _ (and_right (header_ordered memory) _
      (and_left (every (entry_ordered memory) (count_of memory)) _ (every_fails (entry_ordered memory) (count_of memory) i h e)))

  pub fails_end : leb (last_end memory) (length memory - 4 * count_of memory) ≡ false → in_order memory ≡ false
  unfolding in_order
  fails_end e = and_right (tape_length (length memory)) _ (and_right (header_ordered memory) _ (and_right (every (entry_ordered memory) (count_of memory)) _ e))

  -- a loop that has gone through all entries has the end of the last
  pub gone : (i n end : ℕ) → n ≤ i → i ≤ n → n ≡ count_of memory → end ≡ begin_of memory i → (i ≡ count_of memory) × (end ≡ last_end memory)
  gone i n end l u c e = let all : i ≡ count_of memory = omega arith in (all, e ∙ ap (begin_of memory) all)

  -- a memory in order passes the test
  pub in_order_is : InOrder memory → in_order memory ≡ true
  in_order_is o =
      passes (and_from _ _ (le-leb _ _ o.long) (le-leb _ _ o.short))
      (and_from _ _ (eq-eqb _ _ o.sized) (and_from _ _ (eq-eqb _ _ o.first) (and_from _ _ (le-leb _ _ o.few) (le-leb _ _ o.room))))
      (every-each (entry_ordered memory) (count_of memory) (λ i h. and_from _ _ (le-leb _ _ (o.rising i h)) (le-leb _ _ (o.small i h))))
      (le-leb _ _ o.apart)

  -- an entry is in order if the test of where the loop has it begin and end says so
  pub entry_tested : (i begin end : ℕ) (b : Bool) → begin ≡ begin_of memory i → end ≡ end_of memory i → b ≡ (leb begin end && leb end (begin + 4096)) → entry_ordered memory i ≡ b
  entry_tested i begin end b p q e = sym (e ∙ ap₂ (λ x y. leb x y && leb y (x + 4096)) p q)

  -- a judgement of a memory of which the length was not refused
  pub judged_ill : Ok tt ≡ tape_length_answer (length memory) → in_order memory ≡ false → Err TapeDisorder ≡ judgement memory
  judged_ill e f = sym (cond-true _ _ _ (length_passed (length memory) e) ∙ cond-false _ _ _ f)

  pub judged_well : Ok tt ≡ tape_length_answer (length memory) → header_ordered memory ≡ true → every (entry_ordered memory) (count_of memory) ≡ true
      → last_end memory ≤ length memory - 4 * count_of memory → Ok (extent_of memory) ≡ judgement memory
  judged_well e b c d =
      let t = length_passed (length memory) e in
      sym (cond-true _ _ _ t ∙ cond-true _ _ _ (passes t b c (le-leb _ _ d)))

  -- what holds of each answer of a judgement, where that may be given, holds of the judgement
  pub judgement_is : (P : Result Extent Refusal → Type 0) → (in_order memory ≡ true → P (Ok (extent_of memory)))
      → (tape_length (length memory) ≡ true → in_order memory ≡ false → P (Err TapeDisorder)) → (tape_length (length memory) ≡ false → P (Err TapeLength))
      → P (judgement memory)
  judgement_is P ordered disordered long =
      cond_both (tape_length (length memory)) _ _ P (λ t. cond_both (in_order memory) _ _ P ordered (disordered t)) long

  -- without the reason it is what is kept of a memory
  pub result_ok-judgement : result_ok (judgement memory) ≡ judged memory
  result_ok-judgement =
      judgement_is (λ r. result_ok r ≡ judged memory) (λ t. sym (cond-true _ _ _ t)) (λ t f. sym (cond-false _ _ _ f)) (λ l. sym (cond-false _ _ _ (fails_length l)))

  -- a memory that was judged in order is so, and has the extent that was found
  pub judged_order : (x : Extent) → judged memory ≡ Some x → InOrder memory × (x ≡ extent_of memory)
  judged_order x =
      cond_both (in_order memory) _ _ (λ r. r ≡ Some x → InOrder memory × (x ≡ extent_of memory)) (λ t e. (ordered memory t, cc)) (λ f e. none_some e)

  -- one that was not is not
  pub judged_disorder : judged memory ≡ None → in_order memory ≡ false
  judged_disorder = cond_both (in_order memory) _ _ (λ r. r ≡ None → in_order memory ≡ false) (λ t e. none_some (sym e)) (λ f e. f)
