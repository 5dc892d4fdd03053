-- What a floor answers and leaves, by what the roll below and the cipher do.
use Rattle.std.proofs.Common.{◌≡◌, ℕ, ◌+◌, ◌-◌, ◌<◌, ◌≤◌, true, false, List, [], ◌∷◌, ◌++◌, length, take, drop, replicate, is_ok, Some, None, Ok, Err, Option, Result, sym, refl, ap, ◌∙◌, ap₂, ⊎_elim, append-nil, arith}
use lib.ListN.{length-replicate}
use Rattle.std.specs.Prelude.{OnErr}
use Rattle.std.proofs.lemmas.Bool.{cases_lt, le-ltb, lt-ltb, cond-false, cond-true, both_ways}
use Rattle.std.proofs.lemmas.List.{take_at, drop_all, length-take-le}
use Rattle.refusal.specs.declared.fault.Fault.{Fault}
use Rattle.refusal.specs.declared.refusal.Refusal.TheVariants.{NoEntry, SealedTooShort, Broken}
use Rattle.tinyjambu.specs.Mode.{opened}
use Rattle.tinyjambu.specs.Answers.{longest, seal_check, seal_answer, seal_out, sealed_answer, sealed_out, open_check, open_answer, open_out, opened_answer, opened_out, opened_text_answer, opened_text_out}
use Rattle.tinyjambu.proofs.Buffers.{message_check-none}
use Rattle.tinyjambu.proofs.Opening.{open_check-none, opened-length}
use Rattle.tinyjambu.proofs.Sealing.{seal-length}
use Rattle.roll.specs.Roll.{Meaning, Entry, text, broken, Lawful, entry, entry_length, count, append_answer, append_after, length_answer, read_answer, read_out}
use Rattle.refusal.specs.Refusals.{fault}
use Rattle.roll.specs.Work.{text_at}
use Rattle.roll.specs.Floor.{Layer, nonce, above, seal_at, apply_seal, opened_entry, raised, piled, sealed}
use Rattle.roll.specs.Laws.{raised_entry-length, raised-count}
use Rattle.roll.proofs.Rolls.{Takes, taken, tried, never, ok_one, said, entries_fit, read_told}
use Rattle.roll.proofs.Reading.{measured, length_missing, length_given, read_broken, read_given}
use Rattle.roll.proofs.Piles.{raised_option, entry-raised, raised-append, takes_below, refused_down, piled-count}

-- the buffer that is sealed or read into
abbrev zeros : List ℕ
zeros = replicate {A = ℕ} 4096 0

-- a lawful bound is small
bound-small : (m : Meaning) → Lawful m → m.bound ≤ 4097
bound-small m w = ⊎_elim (λ h. omega (arith, w.bounded h)) (λ h. omega arith) (cases_lt 0 m.bound)

-- so what a floor takes fits into the buffer when it is sealed
pub short_enough : (l : Layer) (m : Meaning) (n : ℕ) → Lawful m → n < (raised l m).bound → n ≤ 4088
unfolding raised
short_enough l m n w h = omega (arith, bound-small m w)

-- what is answered with a number was taken
pub was_taken : (a : Meaning) (t : List ℕ) (i : ℕ) → append_answer a t ≡ Ok i → Takes a t
was_taken a t i e = ⊎_elim (λ h. h) (λ h. never _ _ _ h.1 e) (tried a t)

-- and the number is the count of entries
pub numbered : (a : Meaning) (t : List ℕ) (i : ℕ) → append_answer a t ≡ Ok i → i ≡ count a
numbered a t i e = ok_one (sym e ∙ taken a t (was_taken a t i e))

-- the sealing of a text that is short enough, under the label of an entry, into a buffer of 4,096 zeros
module _ (l : Layer) (m : Meaning) (i : ℕ) (t n ad : List ℕ) (n-is : n ≡ nonce m.name (above m) i) (ad-is : ad ≡ l.kind ∷ []) (short : length t ≤ 4088) where
  -- it passes the checks
  seal_passes : seal_check 12 1 (length t) (length zeros) ≡ None
  seal_passes = message_check-none 1 (length t) (length zeros) (omega arith) (omega arith) (omega arith)

  -- so it is answered with the length of the sealed form
  seal_answered : (k : ℕ) → seal_answer n ad t zeros ≡ Ok k → k ≡ length t + 8
  seal_answered k e = ok_one (sym e ∙ ap₂ (λ x y. seal_answer x y t zeros) n-is ad-is ∙ ap (λ x. sealed_answer x (length t)) seal_passes)

  -- which stands at the start of the buffer
  pub seal_written : (k : ℕ) → seal_answer n ad t zeros ≡ Ok k → take k (seal_out l.key n ad t zeros) ≡ apply_seal (seal_at l m i) t
  seal_written k e =
      let form : List ℕ = apply_seal (seal_at l m i) t in
      let long = seal-length l.key (nonce m.name (above m) i) (l.kind ∷ []) t in
      ap₂ (λ x y. take k (seal_out l.key x y t zeros)) n-is ad-is ∙ ap (λ x. take k (sealed_out x form zeros)) seal_passes
      ∙ take_at form _ k (omega (arith, seal_answered k e, long))

-- the number of the floor l on m
pub raised-floor : (l : Layer) (m : Meaning) → (raised l m).floor ≡ above m
unfolding raised
raised-floor l m = refl

-- an append at the floor l, on a roll m that is the pile ls on b, of a text t that it takes, by the sealed form s that the program hands down
module _ (l : Layer) (m : Meaning) (ls : List Layer) (b : Meaning) (t s : List ℕ) (p : m ≡ piled ls b) (s-is : s ≡ apply_seal (seal_at l m (count m)) t) where
  -- what the floors below make of that is what all floors make of the text
  pub handed_down : sealed ls b (count b) s ≡ sealed (l ∷ ls) b (count b) t
  handed_down = ap (sealed ls b (count b)) s-is ∙ ap₂ (λ x k. sealed ls b (count b) (apply_seal (seal_at l x k) t)) p (ap count p ∙ piled-count ls b)

  -- the roll below takes it, and answers as the floor has to
  pub answer_below : Takes (raised l m) t → append_answer m s ≡ append_answer (raised l m) t
  answer_below h =
      ap (append_answer m) s-is ∙ taken m _ (takes_below l m (seal_at l m (count m)) t h) ∙ ap Ok (sym (raised-count l m)) ∙ sym (taken (raised l m) t h)

  -- and then means what makes of the floor what the append of the text does
  pub after_below : raised l (append_after m s) ≡ append_after (raised l m) t
  after_below = ap (λ x. raised l (append_after m x)) s-is ∙ raised-append l m t

-- what the floor refuses, the bottom refuses too
pub refused : (l : Layer) (m : Meaning) (ls : List Layer) (b : Meaning) (t : List ℕ) (f : Fault) → m ≡ piled ls b → append_answer (raised l m) t ≡ Err f
    → b ≡ append_after b (sealed (l ∷ ls) b (count b) t)
refused l m ls b t f p e = sym (refused_down (l ∷ ls) b (count b) t f (ap (λ x. append_answer (raised l x) t) (sym p) ∙ e))

-- an accepted append is not refused
pub not_refused : (A : Type 0) (a : Meaning) (t : List ℕ) (r : Result ℕ Fault) → Takes a t → r ≡ append_answer a t → OnErr r A
not_refused A a t r h e = rw (e ∙ taken a t h) tt

-- no entry has a number of which the length is refused
no_entry : (a : Meaning) (i : ℕ) (f : Fault) (o : Option Entry) → measured a i o ≡ Err f → o ≡ None
no_entry a i f None e = refl
no_entry a i f (Some x) e = never _ _ _ e refl

-- an entry of this length, broken or not
record Holds (n : ℕ) (o : Option Entry) : Type 0 where
  pub what : Entry
  pub stands : o ≡ Some what
  pub long : entry_length what ≡ n

-- there is one where a length is answered
some_entry : (a : Meaning) (i n : ℕ) (o : Option Entry) → measured a i o ≡ Ok n → Holds n o
some_entry a i n None e = never _ _ _ refl e
some_entry a i n (Some x) e = record { what = x; stands = refl; long = ok_one e }

-- the length of an entry of a floor, by the answer of the roll below
module _ (l : Layer) (m : Meaning) (i : ℕ) where
  -- where that has no entry, the floor has none
  pub length_none : (f : Fault) → length_answer m i ≡ Err f → length_answer (raised l m) i ≡ Err (fault NoEntry (raised l m).floor i)
  length_none f e = length_missing (raised l m) i (entry-raised l m i ∙ ap (raised_option l m i) (no_entry m i f (entry m i) e))

  -- else the floor has one that is 8 bytes shorter
  pub length_less : (n : ℕ) → length_answer m i ≡ Ok n → length_answer (raised l m) i ≡ Ok (n - 8)
  length_less n e =
      let h = some_entry m i n (entry m i) e in
      length_given (raised l m) i _ (entry-raised l m i ∙ ap (raised_option l m i) h.stands)
      ∙ ap Ok (raised_entry-length l m i h.what ∙ ap (λ k. k - 8) h.long)

-- an entry at which the read below was refused
module _ (l : Layer) (m : Meaning) (i n : ℕ) (f : Fault) (out : List ℕ) where
  -- by what stands below
  broken_by : (o : Option Entry) → entry m i ≡ o → ((e : Entry) → o ≡ Some e → entry_length e ≤ 4096) → said m i 4096 o ≡ Err f
      → measured (raised l m) i (raised_option l m i o) ≡ Ok n → n ≤ length out → (read_answer (raised l m) i (length out) ≡ Err f) × (read_out (raised l m) i out ≡ replicate (length out) 0)
  broken_by None at h e len room = never _ _ _ refl len
  broken_by (Some (text u)) at h e len room = never _ _ _ e (cond-false _ _ _ (le-ltb 4096 (length u) (h _ refl)))
  broken_by (Some (broken g x)) at h e len room =
      let y = ok_one len in
      let s = read_broken (raised l m) i out g (x - 8) (entry-raised l m i ∙ ap (raised_option l m i) at) (omega arith) in
      let z : ◌≡◌ {A = Result ℕ Fault} (Err (fault Broken g i)) (Err f) = sym (cond-false _ _ _ (le-ltb 4096 x (h _ refl))) ∙ e in
      (s.0 ∙ z, s.1)

  -- it is broken where it broke below
  pub reads_broken : (long read : Result ℕ Fault) → Lawful m → long ≡ length_answer (raised l m) i → long ≡ Ok n → n ≤ length out → read ≡ read_answer m i 4096 → read ≡ Err f
      → (read_answer (raised l m) i (length out) ≡ Err f) × (read_out (raised l m) i out ≡ replicate (length out) 0)
  reads_broken long read w p len room q e =
      broken_by (entry m i) refl (λ x h. entries_fit m i x w h) (sym q ∙ e) (ap (measured (raised l m) i) (sym (entry-raised l m i)) ∙ (sym p ∙ len)) room

-- what stands in a roll where a read of it into 4,096 bytes is not refused is a text
is_text : (m : Meaning) (i k room : ℕ) (o : Option Entry) → ((e : Entry) → o ≡ Some e → entry_length e ≤ 4096) → room ≡ 4096 → said m i room o ≡ Ok k
    → (o ≡ Some (text (text_at o))) × (length (text_at o) ≡ k)
is_text m i k room None h p e = never _ _ _ refl e
is_text m i k room (Some (broken f n)) h p e = never _ _ _ (cond-false _ _ _ (le-ltb room n (omega (arith, h _ refl)))) e
is_text m i k room (Some (text u)) h p e = (refl, ok_one (sym (cond-false _ _ _ (le-ltb room (length u) (omega (arith, h _ refl)))) ∙ e))

-- the sealed text below, as the program has it
record Below (m : Meaning) (i k : ℕ) (c : List ℕ) : Type 0 where
  pub short : k ≤ 4096
  pub stands : entry m i ≡ Some (text c)
  pub long : length c ≡ k

-- a read below that is not refused gives it
below : (m : Meaning) (i k : ℕ) (s : List ℕ) → Lawful m → s ≡ read_out m i zeros → read_answer m i 4096 ≡ Ok k → Below m i k (take k s)
below m i k s w p e =
    let t = read_told m i k zeros w (length-replicate {A = ℕ} 4096 0) e in
    let o = is_text m i k 4096 (entry m i) (λ x h. entries_fit m i x w h) refl e in
    let c : take k s ≡ text_at (entry m i) = ap (take k) p ∙ t.1 in
    record { short = t.0; stands = o.0 ∙ ap (λ x. Some (text x)) (sym c); long = ap length c ∙ o.1 }

-- an opening of at most 4,096 bytes into a buffer that is as long as the text
module _ (key n ad c out : List ℕ) (twelve : length n ≡ 12) (data-fits : length ad ≤ longest) (fits : length c ≤ 4096) (room : length out ≡ length c - 8) where
  -- fewer than 8 bytes are refused
  few_refused : length c < 8 → open_check (length n) (length ad) (length c) (length out) ≡ Some SealedTooShort
  few_refused h =
      ap (λ k. open_check k (length ad) (length c) (length out)) twelve
      ∙ cond-false _ _ _ (le-ltb longest (length ad) data-fits) ∙ cond-false _ _ _ (le-ltb longest (length c - 8) (omega arith)) ∙ cond-true _ _ _ (lt-ltb (length c) 8 h)

  -- and no text seals to them
  few_shut : length c < 8 → (o : Option (List ℕ)) → opened key n ad c ≡ o → o ≡ None
  few_shut h None e = refl
  few_shut h (Some t) e = absurd (omega (arith, opened-length key n ad c t e))

  -- 8 bytes or more pass the checks
  many_pass : 8 ≤ length c → open_check (length n) (length ad) (length c) (length out) ≡ None
  many_pass h =
      ap (λ k. open_check k (length ad) (length c) (length out)) twelve
      ∙ open_check-none 12 (length ad) (length c) (length out) refl data-fits (omega arith) h (omega arith)

  -- past the checks, a refusal says that there is no text
  shut_by : (o : Option (List ℕ)) → is_ok (opened_text_answer o) ≡ false → o ≡ None
  shut_by None e = refl
  shut_by (Some t) e = absurd (both_ways true e refl)

  -- and else the text is all that the buffer holds
  given_by : (o : Option (List ℕ)) → opened key n ad c ≡ o → is_ok (opened_text_answer o) ≡ true → o ≡ Some (opened_text_out o out)
  given_by None p e = absurd (both_ways false refl e)
  given_by (Some t) p e =
      let all : drop (length t) out ≡ [] = drop_all (length t) out (omega (arith, opened-length key n ad c t p)) in
      ap Some (sym (ap (λ x. t ++ x) all ∙ append-nil t))

  -- a refused one found no text
  open_shut : is_ok (open_answer key n ad c out) ≡ false → opened key n ad c ≡ None
  open_shut e =
      ⊎_elim (λ h. few_shut h (opened key n ad c) refl)
      (λ h. shut_by (opened key n ad c) (ap (λ x. is_ok (opened_answer x (opened key n ad c))) (sym (many_pass h)) ∙ e))
      (cases_lt (length c) 8)

  -- an accepted one has written it
  open_given : is_ok (open_answer key n ad c out) ≡ true → opened key n ad c ≡ Some (open_out key n ad c out)
  open_given e =
      ⊎_elim (λ h. absurd (both_ways _ (ap (λ x. is_ok (opened_answer x (opened key n ad c))) (few_refused h)) e))
      (λ h.
      given_by (opened key n ad c) refl (ap (λ x. is_ok (opened_answer x (opened key n ad c))) (sym (many_pass h)) ∙ e)
      ∙ ap (λ x. Some (opened_out x (opened key n ad c) out)) (sym (many_pass h)))
      (cases_lt (length c) 8)

-- a read of an entry of a floor, by what opening the sealed text below gives
module _ (l : Layer) (m : Meaning) (i k : ℕ) (c out : List ℕ) (b : Below m i k c) (room : k - 8 ≤ length out) where
  -- the entry
  entry_is : (o : Option (List ℕ)) → opened l.key (nonce m.name (above m) i) (l.kind ∷ []) c ≡ o → entry (raised l m) i ≡ Some (opened_entry (above m) (length c - 8) o)
  entry_is o e = entry-raised l m i ∙ (ap (raised_option l m i) b.stands ∙ ap (λ y. Some (opened_entry (above m) (length c - 8) y)) e)

  -- a text
  reads_opened : (u : List ℕ) → opened l.key (nonce m.name (above m) i) (l.kind ∷ []) c ≡ Some u
      → (read_answer (raised l m) i (length out) ≡ Ok (k - 8)) × (read_out (raised l m) i out ≡ u ++ drop (k - 8) out)
  reads_opened u e =
      let h : length u ≡ k - 8 = omega (arith, b.long, opened-length _ _ _ c u e) in
      let s = read_given (raised l m) i out u (entry_is (Some u) e) (omega arith) in
      (s.0 ∙ ap Ok h, s.1 ∙ ap (λ x. u ++ drop x out) h)

  -- broken at this floor
  reads_shut : opened l.key (nonce m.name (above m) i) (l.kind ∷ []) c ≡ None
      → (read_answer (raised l m) i (length out) ≡ Err (fault Broken (above m) i)) × (read_out (raised l m) i out ≡ replicate (length out) 0)
  reads_shut e = read_broken (raised l m) i out (above m) (length c - 8) (entry_is None e) (omega (arith, b.long))

-- a read that opens what it read below into the first bytes of the buffer, by what the program has: the length of the entry and that of what was read,
-- and the answers that gave them, the number of the floor, nonce and data of the label, and the buffer that it read into
module _ (l : Layer) (m : Meaning) (i len k f : ℕ) (n ad s out : List ℕ) (long read : Result ℕ Fault) (w : Lawful m)
    (long-is : long ≡ length_answer (raised l m) i) (len-is : long ≡ Ok len) (room : len ≤ length out)
    (s-is : s ≡ read_out m i zeros) (read-is : read ≡ read_answer m i 4096) (k-is : read ≡ Ok k)
    (f-is : f ≡ (raised l m).floor) (n-is : n ≡ nonce m.name f i) (ad-is : ad ≡ l.kind ∷ []) where
  -- what it opens, and where to
  abbrev stored : List ℕ
  stored = take k s

  abbrev front : List ℕ
  front = take (len - 0) out

  -- that stands below
  there : Below m i k stored
  there = below m i k s w s-is (sym read-is ∙ k-is)

  -- and is 8 bytes longer than the entry
  less : len ≡ k - 8
  less = ok_one (sym len-is ∙ long-is ∙ length_less l m i k (length_given m i (text stored) there.stands ∙ ap Ok there.long))

  -- for which there is just enough room
  front_long : length front ≡ length stored - 8
  front_long = length-take-le (len - 0) out (omega arith) ∙ omega (arith, there.long, less)

  -- the data fit
  data-fits : length ad ≤ longest
  data-fits = rw ad-is (omega arith)

  -- it is opened under the label of the floor
  under : opened l.key (nonce m.name (above m) i) (l.kind ∷ []) stored ≡ opened l.key n ad stored
  under = ap₂ (λ x y. opened l.key x y stored) (ap (λ x. nonce m.name x i) (sym (f-is ∙ raised-floor l m)) ∙ sym n-is) (sym ad-is)

  -- and the nonce has twelve bytes
  twelve : length n ≡ 12
  twelve = ap length n-is

  -- where that is refused, the entry is broken at this floor
  pub read_shut : (r : Result ℕ Fault) → r ≡ open_answer l.key n ad stored front → is_ok r ≡ false
      → (read_answer (raised l m) i (length out) ≡ Err (fault Broken f i)) × (read_out (raised l m) i out ≡ replicate (length out) 0)
  unfolding raised
  read_shut r p e =
      let o = open_shut l.key n ad stored front twelve data-fits (omega (arith, there.long, there.short)) front_long (ap is_ok (sym p) ∙ e) in
      let d = reads_shut l m i k stored out there (omega (arith, less)) (under ∙ o) in
      (d.0 ∙ ap (λ x. Err (fault Broken x i)) (sym f-is), d.1)

  -- else the text stands in those bytes
  pub read_opened : (r : Result ℕ Fault) → r ≡ open_answer l.key n ad stored front → is_ok r ≡ true
      → (read_answer (raised l m) i (length out) ≡ Ok len) × (read_out (raised l m) i out ≡ open_out l.key n ad stored front ++ drop (len - 0) out)
  read_opened r p e =
      let o = open_given l.key n ad stored front twelve data-fits (omega (arith, there.long, there.short)) front_long (ap is_ok (sym p) ∙ e) in
      let d = reads_opened l m i k stored out there (omega (arith, less)) _ (under ∙ o) in
      (d.0 ∙ ap Ok (sym less), d.1 ∙ ap (λ x. open_out l.key n ad stored front ++ drop x out) (omega (arith, less)))
