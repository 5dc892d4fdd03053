-- One roll by itself: what an append does to it, what a read of it gives, and its life under a list of calls.
use Rattle.std.proofs.Common.{◌≡◌, ℕ, zero, suc, ◌+◌, ◌<◌, ◌≤◌, false, if◌then◌else◌, ltb, leb, ◌⊎◌, List, [], ◌∷◌, ◌++◌, length, take, drop, replicate, is_ok, Some, None, Ok, Err, Option, Result, sym, refl, ap, ◌∙◌, subst, subst₂, inl, inr, ⊎_elim, arith}
use lib.ListN.{length-replicate}
use Rattle.std.proofs.lemmas.Bool.{cases_Bool, cases_lt, both_ways, leb-false, ltb-false, le-leb, lt-leb, lt-ltb, le-ltb, cond-true, cond-false}
use Rattle.std.proofs.lemmas.List.{take_at, drop_at, length_push}
use Rattle.refusal.specs.declared.fault.Fault.{Fault}
use Rattle.refusal.specs.declared.refusal.Refusal.TheVariants.{NoEntry, EntryTooLong, RollFull, NoSpace, OutTooShort}
use Rattle.roll.specs.Roll.{Meaning, Entry, text, broken, entry_length, entry, count, first, Lawful, ShortEntries, append_answer, append_after, grown, read_entry, text_of, read_answer, read_out}
use Rattle.refusal.specs.Refusals.{fault}
use Rattle.roll.specs.Work.{text_at}
use Rattle.roll.specs.declared.answer.Answer.{Answer}
use Rattle.roll.specs.declared.answer.Answer.TheVariants.{Appended}
use Rattle.roll.specs.Life.{Call, append, read, length_of, ask_name, ask_floor, ask_bound, ask_space, ask_count, ask_charge, answer, appends, stored, after, answers, kept_as, kept_if, accepted, Kept, charges, Each, Numbered, Gives, FairAppend, FairCall, Fair}

-- what is taken: it is short enough, finds a number free, and is paid for
pub record Takes (m : Meaning) (t : List ℕ) : Type 0 where
  pub fits : length t < m.bound
  pub room : count m < 4095
  pub paid : m.charge (length t) ≤ m.space

-- what is taken is answered with its number
pub taken : (m : Meaning) (t : List ℕ) → Takes m t → append_answer m t ≡ Ok (count m)
taken m t h = cond-false _ _ _ (lt-leb _ _ h.fits) ∙ (cond-false _ _ _ (lt-leb _ _ h.room) ∙ cond-false _ _ _ (le-ltb _ _ h.paid))

-- what is too long, what finds no number free, and what costs more than the space is refused, in this order
module _ (m : Meaning) (t : List ℕ) where
  pub too_long : m.bound ≤ length t → append_answer m t ≡ Err (fault EntryTooLong m.floor (count m))
  too_long h = cond-true _ _ _ (le-leb _ _ h)

  pub too_many : length t < m.bound → 4095 ≤ count m → append_answer m t ≡ Err (fault RollFull m.floor (count m))
  too_many s h = cond-false _ _ _ (lt-leb _ _ s) ∙ cond-true _ _ _ (le-leb _ _ h)

  pub too_dear : length t < m.bound → count m < 4095 → m.space < m.charge (length t) → append_answer m t ≡ Err (fault NoSpace m.floor (count m))
  too_dear s r h = cond-false _ _ _ (lt-leb _ _ s) ∙ (cond-false _ _ _ (lt-leb _ _ r) ∙ cond-true _ _ _ (lt-ltb _ _ h))

-- an append is taken or refused
pub tried : (m : Meaning) (t : List ℕ) → Takes m t ⊎ ((f : Fault) × (append_answer m t ≡ Err f))
tried m t =
    ⊎_elim (λ e. inr (_, cond-true _ _ _ e)) (λ fits.
    ⊎_elim (λ e. inr (_, cond-false _ _ _ fits ∙ cond-true _ _ _ e)) (λ room.
    ⊎_elim (λ e. inr (_, cond-false _ _ _ fits ∙ (cond-false _ _ _ room ∙ cond-true _ _ _ e))) (λ paid.
    inl (record { fits = leb-false _ _ fits; room = leb-false _ _ room; paid = ltb-false _ _ paid }))
    (cases_Bool (ltb m.space (m.charge (length t)))))
    (cases_Bool (leb 4095 (count m))))
    (cases_Bool (leb m.bound (length t)))

-- the roll by the answer to the append
abbrev after_answer : Meaning → List ℕ → Result ℕ Fault → Meaning
after_answer m t r = elim r [ Ok _ ↦ grown m t | Err _ ↦ m ]

-- an append leaves the roll by its answer
pub after_is : (m : Meaning) (t : List ℕ) (r : Result ℕ Fault) → append_answer m t ≡ r → append_after m t ≡ after_answer m t r
after_is m t r e = ap (after_answer m t) e

-- entries, by their numbers
pub none_some : {X A : Type 0} {x : X} → None ≡ Some x → A
none_some e = absurd cc

-- an entry stays where more are put behind it
pub entry_old : (i : ℕ) (es fs : List Entry) (e : Entry) → first (drop i es) ≡ Some e → first (drop i (es ++ fs)) ≡ Some e
entry_old zero [] fs e h = none_some h
entry_old zero (x ∷ es) fs e h = h
entry_old (suc i) [] fs e h = none_some h
entry_old (suc i) (x ∷ es) fs e h = entry_old i es fs e h

-- an entry of short ones is short
short_at : (i : ℕ) (es : List Entry) (e : Entry) → ShortEntries es → first (drop i es) ≡ Some e → entry_length e ≤ 4096
short_at zero [] e s h = none_some h
short_at zero (x ∷ es) e s h = let p : x ≡ e = cc in rw p at s.0
short_at (suc i) [] e s h = none_some h
short_at (suc i) (x ∷ es) e s h = short_at i es e s.1 h

-- one short entry more
short_push : (es : List Entry) (e : Entry) → ShortEntries es → entry_length e ≤ 4096 → ShortEntries (es ++ e ∷ [])
short_push [] e s h = (h, tt)
short_push (x ∷ es) e s h = (s.0, short_push es e s.1 h)

-- an accepted append keeps the laws
grown_lawful : (m : Meaning) (t : List ℕ) → Lawful m → Takes m t → Lawful (grown m t)
grown_lawful m t l h = record {
  few = rw length_push (omega (arith, h.room));
  short = short_push m.entries (text t) l.short (omega (arith, h.fits, l.bounded));
  bounded = l.bounded;
  at_least = l.at_least;
  at_most = l.at_most;
  free = l.free;
  low = l.low;
  small = omega (arith, l.small);
}

-- numbers that rise from i, below 4,095; there are none where the bound is 0
abbrev pub Rising : ℕ → ℕ → List Kept → Type 0
Rising bound i [] = Unit {0}
Rising bound i (k ∷ ks) = (0 < bound) × (i ≤ k.number) × (k.number < 4095) × Rising bound (k.number + 1) ks

-- from the roll m, the calls led to the roll a and kept ks
pub record Ran (m a : Meaning) (ks : List Kept) : Type 0 where
  pub lawful : Lawful a
  pub bound : a.bound ≡ m.bound
  pub charge : a.charge ≡ m.charge
  pub old : (i : ℕ) (e : Entry) → entry m i ≡ Some e → entry a i ≡ Some e
  pub counted : count a ≡ count m + length ks
  pub spent : a.space + charges m ks ≡ m.space
  pub back : Each (λ k. entry a k.number ≡ Some (text k.what)) ks
  pub rising : Rising m.bound (count m) ks
  pub numbered : Numbered (count m) ks

-- charges are the same under the same prices
charges_at : (m n : Meaning) (ks : List Kept) → m.charge ≡ n.charge → charges m ks ≡ charges n ks
charges_at m n [] e = refl
charges_at m n (k ∷ ks) e = let p = charges_at m n ks e in cc

-- one accepted append before the others
ran_more : (m a : Meaning) (t : List ℕ) (ks : List Kept) → Takes m t → Ran (grown m t) a ks → Ran m a (record { number = count m; what = t } ∷ ks)
ran_more m a t ks h r = record {
  lawful = r.lawful;
  bound = r.bound;
  charge = r.charge;
  old = λ i e p. r.old i e (entry_old i m.entries (text t ∷ []) e p);
  counted = r.counted ∙ rw length_push (omega arith);
  spent = omega (arith, charges_at (grown m t) m ks refl, r.spent, h.paid);
  back = (r.old (count m) (text t) (ap first (drop_at m.entries (text t ∷ []) (count m) refl)), r.back);
  rising = (omega (arith, h.fits), omega arith, h.room, rw length_push at r.rising);
  numbered = (refl, rw length_push at r.numbered);
}

-- what a call keeps is by the text that it appends, if any
abbrev pub kept_of : Meaning → Option (List ℕ) → List Kept
kept_of m None = []
kept_of m (Some t) = kept_as t (Appended (append_answer m t))

-- the answer to an append
appended_is : (m : Meaning) (c : Call) (t : List ℕ) → appends c ≡ Some t → answer m c ≡ Appended (append_answer m t)
appended_is m (append u) t e = let p : u ≡ t = cc in ap (λ x. Appended (append_answer m x)) p
appended_is m (read i) t e = none_some e
appended_is m (length_of i) t e = none_some e
appended_is m ask_name t e = none_some e
appended_is m ask_floor t e = none_some e
appended_is m ask_bound t e = none_some e
appended_is m ask_space t e = none_some e
appended_is m ask_count t e = none_some e
appended_is m (ask_charge n) t e = none_some e

-- what a call adds, by its answer
kept_by : (m : Meaning) (o : Option (List ℕ)) (r : Answer) → ((t : List ℕ) → o ≡ Some t → r ≡ Appended (append_answer m t)) → kept_if o r ≡ kept_of m o
kept_by m None r h = refl
kept_by m (Some t) r h = ap (kept_as t) (h t refl)

-- what a call adds
kept_is : (m : Meaning) (c : Call) → kept_if (appends c) (answer m c) ≡ kept_of m (appends c)
kept_is m c = kept_by m (appends c) (answer m c) (λ t e. appended_is m c t e)

-- one call, and then a life from where it led
abbrev Goes : List Call → Meaning → Type 0
Goes cs a = Ran a (after [] a cs) (accepted cs (answers [] a cs))

-- one call before the others
ran_call : (m : Meaning) (o : Option (List ℕ)) (cs : List Call) → Lawful m → ((a : Meaning) → Lawful a → Goes cs a)
    → Ran m (after [] (stored [] m o) cs) (kept_of m o ++ accepted cs (answers [] (stored [] m o) cs))
ran_call m None cs l go = go m l
ran_call m (Some t) cs l go =
    ⊎_elim (λ h. from (grown m t) (Ok (count m)) (after_is m t _ (taken m t h)) (taken m t h) (ran_more m _ t _ h (go (grown m t) (grown_lawful m t l h))))
    (λ h. from m (Err h.0) (after_is m t _ h.1) h.1 (go m l))
    (tried m t)
  where
    Led : Meaning → Result ℕ Fault → Type 0
    Led a r = Ran m (after [] a cs) (kept_as t (Appended r) ++ accepted cs (answers [] a cs))

    from : (a : Meaning) (r : Result ℕ Fault) → append_after m t ≡ a → append_answer m t ≡ r → Led a r → Led (append_after m t) (append_answer m t)
    from a r p q h = subst₂ Led (sym p) (sym q) h

-- so goes every list of calls
pub ran : (m : Meaning) (cs : List Call) → Lawful m → Goes cs m
ran m [] l = record { lawful = l; bound = refl; charge = refl; old = λ i e p. p; counted = omega arith; spent = omega arith; back = tt; rising = tt; numbered = tt }
ran m (c ∷ cs) l =
    let a : Meaning = stored [] m (appends c) in
    subst (λ ks. Ran m (after [] a cs) (ks ++ accepted cs (answers [] a cs))) (sym (kept_is m c)) (ran_call m (appends c) cs l (λ a h. ran a cs h))

-- a read of entry i, by what stands there
abbrev pub said : Meaning → ℕ → ℕ → Option Entry → Result ℕ Fault
said m i room o = elim o [
  | None ↦ Err (fault NoEntry m.floor i)
  | Some e ↦ if ltb room (entry_length e) then Err (fault OutTooShort m.floor i) else read_entry m i e
]

-- the out buffer by the entry and the answer
abbrev pub put : List ℕ → Option Entry → Result ℕ Fault → List ℕ
put out o r = elim r [
  | Err _ ↦ replicate (length out) 0
  | Ok n ↦ elim o [ None ↦ out | Some e ↦ text_of e ++ drop n out ]
]

-- a read of this entry gives the text
abbrev Read : Meaning → ℕ → Option Entry → List ℕ → Type 0
Read m i o t = (out : List ℕ) → length out ≡ 4096 → (said m i 4096 o ≡ Ok (length t)) × (take (length t) (put out o (said m i (length out) o)) ≡ t)

-- a text is answered with its length
text_said : (m : Meaning) (i : ℕ) (u : List ℕ) → length u ≤ 4096 → said m i 4096 (Some (text u)) ≡ Ok (length u)
text_said m i u h = cond-false _ _ _ (le-ltb 4096 (length u) h)

-- and is written
text_put : (m : Meaning) (i : ℕ) (u out : List ℕ) → length u ≤ 4096 → length out ≡ 4096 → take (length u) (put out (Some (text u)) (said m i (length out) (Some (text u)))) ≡ u
text_put m i u out h p =
    let e : said m i (length out) (Some (text u)) ≡ Ok (length u) = ap (λ n. said m i n (Some (text u))) p ∙ text_said m i u h in
    ap (λ r. take (length u) (put out (Some (text u)) r)) e ∙ take_at u (drop (length u) out) (length u) refl

-- so it is read
text_read : (m : Meaning) (i : ℕ) (t : List ℕ) → length t ≤ 4096 → Read m i (Some (text t)) t
text_read m i t h out p = (text_said m i t h, text_put m i t out h p)

a_buffer : (out : List ℕ) × (length out ≡ 4096)
a_buffer = (replicate 4096 0, length-replicate {A = ℕ} 4096 0)

-- answers that are the same have the same number
pub ok_one : {a b : ℕ} → ◌≡◌ {A = Result ℕ Fault} (Ok a) (Ok b) → a ≡ b
ok_one e = cc

-- a refusal is no answer with a number
pub never : {A : Type 0} (f : Fault) (n : ℕ) (r : Result ℕ Fault) → r ≡ Err f → r ≡ Ok n → A
never f n r p q = absurd cc

-- a read text is that of the entry
read_text : (m : Meaning) (i : ℕ) (o : Option Entry) (t : List ℕ) → ((e : Entry) → o ≡ Some e → entry_length e ≤ 4096) → Read m i o t → o ≡ Some (text t)
read_text m i None t h r = never _ _ _ refl (r a_buffer.0 a_buffer.1).0
read_text m i (Some (broken f n)) t h r = never _ _ _ (cond-false _ _ _ (le-ltb 4096 n (h _ refl))) (r a_buffer.0 a_buffer.1).0
read_text m i (Some (text u)) t h r =
    let fits : length u ≤ 4096 = h _ refl in
    let e : length u ≡ length t = ok_one (sym (text_said m i u fits) ∙ (r a_buffer.0 a_buffer.1).0) in
    let p = text_put m i u a_buffer.0 fits a_buffer.1 in
    let q = (r a_buffer.0 a_buffer.1).1 in
    ap (λ x. Some (text x)) (sym p ∙ (ap (λ n. take n (put a_buffer.0 (Some (text u)) (said m i (length a_buffer.0) (Some (text u))))) e ∙ q))

-- every entry of a lawful roll fits into 4,096 bytes
pub entries_fit : (m : Meaning) (i : ℕ) (e : Entry) → Lawful m → entry m i ≡ Some e → entry_length e ≤ 4096
entries_fit m i e l h = short_at i m.entries e l.short h

-- what a read gives is the entry
pub reads-entry : (m : Meaning) (i : ℕ) (t : List ℕ) → Lawful m → Gives m i t → entry m i ≡ Some (text t)
reads-entry m i t l g = read_text m i (entry m i) t (λ e h. entries_fit m i e l h) g

-- an entry that is a text is what a read gives
pub gives-entry : (m : Meaning) (i : ℕ) (t : List ℕ) → Lawful m → entry m i ≡ Some (text t) → Gives m i t
gives-entry m i t l h = subst (λ o. Read m i o t) (sym h) (text_read m i t (entries_fit m i (text t) l h))

-- what a read into 4,096 bytes puts there is the text of the entry, and where it is refused there is none
told_some : (m : Meaning) (i n : ℕ) (o : Option Entry) (out : List ℕ) → ((e : Entry) → o ≡ Some e → entry_length e ≤ 4096) → length out ≡ 4096
    → said m i (length out) o ≡ Ok n → (n ≤ 4096) × (take n (put out o (said m i (length out) o)) ≡ text_at o)
told_some m i n None out h p e = never _ _ _ refl e
told_some m i n (Some (broken f k)) out h p e = never _ _ _ (cond-false _ _ _ (le-ltb (length out) k (omega (arith, h _ refl)))) e
told_some m i n (Some (text u)) out h p e =
    let fits : length u ≤ 4096 = h _ refl in
    let q = text_said m i u fits in
    let k : length u ≡ n = ok_one (sym q ∙ (ap (λ x. said m i x (Some (text u))) (sym p) ∙ e)) in
    (omega arith, ap (λ x. take x (put out (Some (text u)) (said m i (length out) (Some (text u))))) (sym k) ∙ text_put m i u out fits p)

-- a refused read tells nothing
told_none : (m : Meaning) (i : ℕ) (f : Fault) (o : Option Entry) (room : ℕ) → ((e : Entry) → o ≡ Some e → entry_length e ≤ 4096) → room ≡ 4096
    → said m i room o ≡ Err f → text_at o ≡ []
told_none m i f None room h p e = refl
told_none m i f (Some (broken g k)) room h p e = refl
told_none m i f (Some (text u)) room h p e = never _ _ _ e (ap (λ x. said m i x (Some (text u))) p ∙ text_said m i u (h _ refl))

-- an accepted read tells the text of the entry
pub read_told : (m : Meaning) (i n : ℕ) (out : List ℕ) → Lawful m → length out ≡ 4096
    → read_answer m i (length out) ≡ Ok n → (n ≤ 4096) × (take n (read_out m i out) ≡ text_at (entry m i))
read_told m i n out l p e = told_some m i n (entry m i) out (λ x h. entries_fit m i x l h) p e

-- a refused read of a roll tells nothing
pub read_none : (m : Meaning) (i room : ℕ) (f : Fault) → Lawful m → room ≡ 4096 → read_answer m i room ≡ Err f → text_at (entry m i) ≡ []
read_none m i room f l p e = told_none m i f (entry m i) room (λ x h. entries_fit m i x l h) p e

-- a text of a length that is allowed, in a roll that is not full, is refused exactly where it costs more than is left
pub refused_dear : (m : Meaning) (t : List ℕ) → length t < m.bound → count m < 4095 → is_ok (append_answer m t) ≡ false → m.space < m.charge (length t)
refused_dear m t fits room e =
    ⊎_elim (λ h. h) (λ paid. let p = ap is_ok (taken m t (record { fits = fits; room = room; paid = paid })) in absurd (both_ways _ e p)) (cases_lt m.space (m.charge (length t)))

-- what costs more than the space is refused
pub dear_refused : (m : Meaning) (t : List ℕ) → m.space < m.charge (length t) → is_ok (append_answer m t) ≡ false
dear_refused m t dear = ⊎_elim (λ h. absurd (omega (arith, h.paid))) (λ h. ap is_ok h.1) (tried m t)

-- a is m after the accepted ks
record Since (m a : Meaning) (ks : List Kept) : Type 0 where
  pub bound : a.bound ≡ m.bound
  pub charge : a.charge ≡ m.charge
  pub counted : count a ≡ count m + length ks
  pub spent : a.space + charges m ks ≡ m.space

-- an accepted append is answered fairly
fair_taken : (m a : Meaning) (ks : List Kept) (t : List ℕ) → Since m a ks → Takes a t → FairAppend m ks t (Appended (Ok (count a)))
fair_taken m a ks t s h fits room =
    let p = ap (λ f. f (length t)) s.charge in
    (λ e. absurd cc, λ dear. absurd (omega (arith, dear, p, s.spent, h.paid)))

-- and a refused one
fair_refused : (m a : Meaning) (ks : List Kept) (t : List ℕ) (f : Fault) → Since m a ks → append_answer a t ≡ Err f → FairAppend m ks t (Appended (Err f))
fair_refused m a ks t f s h fits room =
    let p = ap (λ f. f (length t)) s.charge in
    let dear = refused_dear a t (omega (arith, fits, s.bound)) (omega (arith, room, s.counted)) (ap is_ok h) in
    (λ e. omega (arith, dear, p, s.spent), λ e. refl)

-- one accepted append more
since_grown : (m a : Meaning) (ks : List Kept) (t : List ℕ) → Since m a ks → Takes a t → Since m (grown a t) (record { number = count a; what = t } ∷ ks)
since_grown m a ks t s h =
    let p = ap (λ f. f (length t)) s.charge in
    record { bound = s.bound; charge = s.charge; counted = rw length_push (omega (arith, s.counted)); spent = omega (arith, p, s.spent, h.paid) }

-- one call, and then the others
fair_call : (m a : Meaning) (ks : List Kept) (o : Option (List ℕ)) (r : Answer) (cs : List Call) → Since m a ks → ((t : List ℕ) → o ≡ Some t → r ≡ Appended (append_answer a t))
    → ((x : Meaning) (us : List Kept) → Since m x us → Fair m us cs (answers [] x cs))
    → FairCall m ks o r × Fair m (kept_if o r ++ ks) cs (answers [] (stored [] a o) cs)
fair_call m a ks None r cs s e go = (tt, go a ks s)
fair_call m a ks (Some t) r cs s e go =
    ⊎_elim (λ h. from (Ok (count a)) (taken a t h) (fair_taken m a ks t s h, go (grown a t) _ (since_grown m a ks t s h)))
    (λ h. from (Err h.0) h.1 (fair_refused m a ks t h.0 s h.1, go a ks s))
    (tried a t)
  where
    Led : Result ℕ Fault → Answer → Type 0
    Led q r = FairAppend m ks t r × Fair m (kept_as t r ++ ks) cs (answers [] (after_answer a t q) cs)

    from : (q : Result ℕ Fault) → append_answer a t ≡ q → Led q (Appended q) → Led (append_answer a t) r
    from q p h = subst (Led (append_answer a t)) (sym (e t refl)) (subst (λ x. Led x (Appended x)) (sym p) h)

-- so is each of a list, after any list
fair_from : (m a : Meaning) (ks : List Kept) (cs : List Call) → Since m a ks → Fair m ks cs (answers [] a cs)
fair_from m a ks [] s = refl
fair_from m a ks (c ∷ cs) s = fair_call m a ks (appends c) (answer a c) cs s (λ t e. appended_is a c t e) (λ x us h. fair_from m x us cs h)

-- and from the start
pub fair : (m : Meaning) (cs : List Call) → Fair m [] cs (answers [] m cs)
fair m cs = fair_from m m [] cs (record { bound = refl; charge = refl; counted = omega arith; spent = omega arith })
