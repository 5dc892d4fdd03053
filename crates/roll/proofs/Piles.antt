-- What a floor makes of a roll, and a pile of floors of its bottom: laws, entries and appends carry up.
use Rattle.std.proofs.Common.{◌≡◌, ℕ, zero, suc, ◌+◌, ◌-◌, ◌<◌, min, List, [], ◌∷◌, ◌++◌, length, drop, Some, None, Ok, Err, Option, Result, sym, refl, ap, ◌∙◌, ap₂, ⊎_elim, add-zero, zero-add, arith}
use Rattle.refusal.specs.declared.fault.Fault.{Fault}
use Rattle.tinyjambu.specs.Mode.{opened}
use Rattle.roll.specs.Roll.{Meaning, Entry, text, broken, entry, count, first, Lawful, append_answer, append_after, grown}
use Rattle.roll.specs.Floor.{Layer, Seal, nonce, above, seal_at, apply_seal, opened_entry, raised_entry, raised_from, raised, piled, seals, sealed_by, sealed}
use Rattle.roll.specs.Life.{Call, answer, appends, stored, after, answers}
use Rattle.roll.specs.Laws.{raised-count, charge-raised, raised_lawful}
use Rattle.tinyjambu.proofs.Exact.{opened_exactly}
use Rattle.tinyjambu.proofs.Sealing.{seal-length, seal-one}
use Rattle.roll.proofs.Rolls.{none_some, never, Takes, taken, tried, after_is}

-- the entries of a raised roll
raised_push : (l : Layer) (m : Meaning) (i : ℕ) (es : List Entry) (e : Entry) → raised_from l m i (es ++ e ∷ []) ≡ raised_from l m i es ++ raised_entry l m (i + length es) e ∷ []
raised_push l m i [] e = ap (λ j. raised_entry l m j e ∷ []) (sym (add-zero i))
raised_push l m i (x ∷ es) e =
    let p : i + 1 + length es ≡ i + suc (length es) = omega arith in
    ap (λ xs. raised_entry l m i x ∷ xs) (raised_push l m (i + 1) es e ∙ ap (λ j. raised_from l m (i + 1) es ++ raised_entry l m j e ∷ []) p)

-- an append below does not change how the old entries are shown
raised_as : (l : Layer) (m : Meaning) (c : List ℕ) (i : ℕ) (es : List Entry) → raised_from l (grown m c) i es ≡ raised_from l m i es
raised_as l m c i [] = refl
raised_as l m c i (text x ∷ es) = ap (λ xs. raised_entry l m i (text x) ∷ xs) (raised_as l m c (i + 1) es)
raised_as l m c i (broken f n ∷ es) = ap (λ xs. raised_entry l m i (broken f n) ∷ xs) (raised_as l m c (i + 1) es)

-- an entry as a floor shows it, if there is one
abbrev pub raised_option : Layer → Meaning → ℕ → Option Entry → Option Entry
raised_option l m i None = None
raised_option l m i (Some e) = Some (raised_entry l m i e)

-- the entry at a place of the raised ones is the one below, raised
raised_at : (l : Layer) (m : Meaning) (i j : ℕ) (es : List Entry) → first (drop j (raised_from l m i es)) ≡ raised_option l m (i + j) (first (drop j es))
raised_at l m i zero [] = refl
raised_at l m i zero (e ∷ es) = ap (λ k. Some (raised_entry l m k e)) (sym (add-zero i))
raised_at l m i (suc j) [] = refl
raised_at l m i (suc j) (e ∷ es) =
    let p : i + 1 + j ≡ i + suc j = omega arith in
    raised_at l m (i + 1) j es ∙ ap (λ k. raised_option l m k (first (drop j es))) p

-- the same of a roll
pub entry-raised : (l : Layer) (m : Meaning) (i : ℕ) → entry (raised l m) i ≡ raised_option l m i (entry m i)
unfolding raised
entry-raised l m i = raised_at l m 0 i m.entries ∙ ap (λ k. raised_option l m k (entry m i)) (zero-add i)

-- a shown text is what the opening gave
opened_text : (f n : ℕ) (o : Option (List ℕ)) (t : List ℕ) → opened_entry f n o ≡ text t → o ≡ Some t
opened_text f n None t e = absurd cc
opened_text f n (Some u) t e = cc

-- what was sealed opens to the text
opened-sealed : (s : Seal) (t : List ℕ) → opened s.key s.nonce (s.kind ∷ []) (apply_seal s t) ≡ Some t
opened-sealed s t = (opened_exactly _ _ _ _ t).1 refl

-- a sealed text below is shown as the text
text_raised : (l : Layer) (m : Meaning) (i : ℕ) (t : List ℕ) → raised_entry l m i (text (apply_seal (seal_at l m i) t)) ≡ text t
text_raised l m i t = ap (opened_entry _ _) (opened-sealed (seal_at l m i) t)

-- a shown text is sealed below
text_below : (l : Layer) (m : Meaning) (i : ℕ) (e : Entry) (t : List ℕ) → raised_entry l m i e ≡ text t → e ≡ text (apply_seal (seal_at l m i) t)
text_below l m i (broken f n) t p = absurd cc
text_below l m i (text c) t p = ap text (sym ((opened_exactly _ _ _ c t).0 (opened_text _ _ _ t p)))

-- the same of an entry that may not be there
raised_text : (l : Layer) (m : Meaning) (i : ℕ) (o : Option Entry) (t : List ℕ) → raised_option l m i o ≡ Some (text t) → o ≡ Some (text (apply_seal (seal_at l m i) t))
raised_text l m i None t p = none_some p
raised_text l m i (Some e) t p = let q : raised_entry l m i e ≡ text t = cc in ap Some (text_below l m i e t q)

-- entry i of a raised roll is the text t exactly if the entry below is t sealed
raised_entry_down : (l : Layer) (m : Meaning) (i : ℕ) (t : List ℕ) → entry (raised l m) i ≡ Some (text t) → entry m i ≡ Some (text (apply_seal (seal_at l m i) t))
raised_entry_down l m i t e = raised_text l m i (entry m i) t (sym (entry-raised l m i) ∙ e)

-- a sealed text below can be read above
raised_entry_up : (l : Layer) (m : Meaning) (i : ℕ) (t : List ℕ) → entry m i ≡ Some (text (apply_seal (seal_at l m i) t)) → entry (raised l m) i ≡ Some (text t)
raised_entry_up l m i t e = entry-raised l m i ∙ (ap (raised_option l m i) e ∙ ap Some (text_raised l m i t))

-- an append of t to a raised roll is one of t sealed to the roll below
pub takes_below : (l : Layer) (m : Meaning) (s : Seal) (t : List ℕ) → Takes (raised l m) t → Takes m (apply_seal s t)
unfolding raised
takes_below l m s t h =
    let p = seal-length s.key s.nonce (s.kind ∷ []) t in
    let q = charge-raised l m (length t) h.fits in
    record { fits = omega (arith, p, h.fits); room = omega (arith, h.room, raised-count l m); paid = rw p (omega (arith, q, h.paid)) }

-- what the roll below takes sealed, the floor takes
pub takes_above : (l : Layer) (m : Meaning) (s : Seal) (t : List ℕ) → Takes m (apply_seal s t) → Takes (raised l m) t
unfolding raised
takes_above l m s t h =
    let p = seal-length s.key s.nonce (s.kind ∷ []) t in
    let fits : length t < m.bound - 8 = omega (arith, p, h.fits) in
    let q = charge-raised l m (length t) fits in
    record { fits = fits; room = omega (arith, h.room, raised-count l m); paid = omega (arith, q, rw p at h.paid) }

-- an accepted append below is one above
raised-grown : (l : Layer) (m : Meaning) (t : List ℕ) → length t < (raised l m).bound → raised l (grown m (apply_seal (seal_at l m (count m)) t)) ≡ grown (raised l m) t
unfolding raised
raised-grown l m t h =
    ap₂ with_parts
    (ap (λ n. m.space - n) (ap m.charge (seal-length _ _ _ t) ∙ sym (charge-raised l m (length t) h)))
    (raised_as l m c 0 (m.entries ++ text c ∷ []) ∙ (raised_push l m 0 m.entries (text c) ∙ ap (λ e. raised_from l m 0 m.entries ++ e ∷ []) (ap (λ i. raised_entry l m i (text c)) (zero-add (count m)) ∙ text_raised l m (count m) t)))
  where
    c : List ℕ
    c = apply_seal (seal_at l m (count m)) t

    with_parts : ℕ → List Entry → Meaning
    with_parts sp es = record { name = m.name; floor = above m; bound = m.bound - 8; space = sp; charge = (raised l m).charge; entries = es }

-- an append below, accepted or refused, is one above
pub raised-append : (l : Layer) (m : Meaning) (t : List ℕ) → raised l (append_after m (apply_seal (seal_at l m (count m)) t)) ≡ append_after (raised l m) t
raised-append l m t =
    ⊎_elim (λ h. ap (raised l) (after_is m c _ (taken m c (takes_below l m s t h))) ∙ (raised-grown l m t h.fits ∙ sym (after_is (raised l m) t _ (taken (raised l m) t h))))
    (λ h. ap (raised l) (refused h) ∙ sym (after_is (raised l m) t _ h.1))
    (tried (raised l m) t)
  where
    s : Seal
    s = seal_at l m (count m)

    c : List ℕ
    c = apply_seal s t

    refused : (f : Fault) × (append_answer (raised l m) t ≡ Err f) → append_after m c ≡ m
    refused h = ⊎_elim (λ k. never _ _ _ h.1 (taken (raised l m) t (takes_above l m s t k))) (λ k. after_is m c _ k.1) (tried m c)

-- the laws carry up
pub piled_lawful : (ls : List Layer) (b : Meaning) → Lawful b → Lawful (piled ls b)
piled_lawful [] b w = w
piled_lawful (l ∷ ls) b w = raised_lawful l (piled ls b) (piled_lawful ls b w)

-- a pile has as many entries as its bottom
pub piled-count : (ls : List Layer) (b : Meaning) → count (piled ls b) ≡ count b
piled-count [] b = refl
piled-count (l ∷ ls) b = raised-count l (piled ls b) ∙ piled-count ls b

-- what the top shows is held sealed by the bottom
pub entry_down : (ls : List Layer) (b : Meaning) (i : ℕ) (t : List ℕ) → entry (piled ls b) i ≡ Some (text t) → entry b i ≡ Some (text (sealed ls b i t))
entry_down [] b i t e = e
entry_down (l ∷ ls) b i t e = entry_down ls b i _ (raised_entry_down l (piled ls b) i t e)

-- what the bottom holds sealed is shown by the top
pub entry_up : (ls : List Layer) (b : Meaning) (i : ℕ) (t : List ℕ) → entry b i ≡ Some (text (sealed ls b i t)) → entry (piled ls b) i ≡ Some (text t)
entry_up [] b i t e = e
entry_up (l ∷ ls) b i t e = raised_entry_up l (piled ls b) i t (entry_up ls b i _ e)

-- texts that seal to the same bytes are the same
pub sealed-one : (ls : List Layer) (b : Meaning) (i : ℕ) (t u : List ℕ) → sealed ls b i t ≡ sealed ls b i u → t ≡ u
sealed-one [] b i t u e = e
sealed-one (l ∷ ls) b i t u e = seal-one _ _ _ t u (sealed-one ls b i _ _ e)

-- what the top takes, the bottom takes sealed by each floor
pub takes_down : (ls : List Layer) (b : Meaning) (i : ℕ) (t : List ℕ) → Takes (piled ls b) t → Takes b (sealed ls b i t)
takes_down [] b i t h = h
takes_down (l ∷ ls) b i t h = takes_down ls b i _ (takes_below l (piled ls b) (seal_at l (piled ls b) i) t h)

-- and what the bottom takes so, the top takes
pub takes_up : (ls : List Layer) (b : Meaning) (i : ℕ) (t : List ℕ) → Takes b (sealed ls b i t) → Takes (piled ls b) t
takes_up [] b i t h = h
takes_up (l ∷ ls) b i t h = takes_above l (piled ls b) (seal_at l (piled ls b) i) t (takes_up ls b i _ h)

-- what the top refuses, the bottom refuses too
pub refused_down : (ls : List Layer) (b : Meaning) (i : ℕ) (t : List ℕ) (f : Fault) → append_answer (piled ls b) t ≡ Err f → append_after b (sealed ls b i t) ≡ b
refused_down ls b i t f e =
    ⊎_elim (λ h. never _ _ _ e (taken (piled ls b) t (takes_up ls b i t h))) (λ h. after_is b (sealed ls b i t) _ h.1) (tried b (sealed ls b i t))

-- an append at the top, by what it does at the bottom
pub piled-append : (ls : List Layer) (b : Meaning) (t : List ℕ) → piled ls (append_after b (sealed ls b (count b) t)) ≡ append_after (piled ls b) t
piled-append [] b t = refl
piled-append (l ∷ ls) b t =
    ap (raised l) (piled-append ls b (apply_seal (seal_at l (piled ls b) (count b)) t))
    ∙ (ap (λ n. raised l (append_after (piled ls b) (apply_seal (seal_at l (piled ls b) n) t))) (sym (piled-count ls b))
    ∙ raised-append l (piled ls b) t)

-- the life of the pile is that of its top, taken as a roll
pub piled-stored : (ls : List Layer) (b : Meaning) (o : Option (List ℕ)) → piled ls (stored ls b o) ≡ stored [] (piled ls b) o
piled-stored ls b None = refl
piled-stored ls b (Some t) = piled-append ls b t

-- a list of calls makes of the top what it would of one roll
pub top_after : (ls : List Layer) (b : Meaning) (cs : List Call) → piled ls (after ls b cs) ≡ after [] (piled ls b) cs
top_after ls b [] = refl
top_after ls b (c ∷ cs) = top_after ls (stored ls b (appends c)) cs ∙ ap (λ m. after [] m cs) (piled-stored ls b (appends c))

-- and is answered as by one roll
pub top_answers : (ls : List Layer) (b : Meaning) (cs : List Call) → answers ls b cs ≡ answers [] (piled ls b) cs
top_answers ls b [] = refl
top_answers ls b (c ∷ cs) = ap (λ rs. answer (piled ls b) c ∷ rs) (top_answers ls (stored ls b (appends c)) cs ∙ ap (λ m. answers [] m cs) (piled-stored ls b (appends c)))

-- the sealings are by the bottom's name and floor alone, which no call changes
record Ground (b m : Meaning) : Type 0 where
  pub name : b.name ≡ m.name
  pub floor : b.floor ≡ m.floor

-- floors do not change what goes into nonces
grounds : (ls : List Layer) (b m : Meaning) → Ground b m → Ground (piled ls b) (piled ls m)
unfolding raised
grounds [] b m g = g
grounds (l ∷ ls) b m g = let h = grounds ls b m g in record { name = h.name; floor = ap (λ n. min (n + 1) 65535) h.floor }

-- so the sealings are the same
seals-same : (ls : List Layer) (b m : Meaning) (i : ℕ) → Ground b m → seals ls b i ≡ seals ls m i
seals-same [] b m i g = refl
seals-same (l ∷ ls) b m i g =
    let h = grounds ls b m g in
    ap₂ (λ s ss. s ∷ ss) (ap₂ (λ n f. record { key = l.key; nonce = nonce n (min (f + 1) 65535) i; kind = l.kind }) h.name h.floor) (seals-same ls b m i g)

-- nor does an append
append_ground : (m : Meaning) (t : List ℕ) → Ground m (append_after m t)
append_ground m t =
    let f : Result ℕ Fault → Type 0 = λ r. Ground m (elim r [ Ok _ ↦ grown m t | Err _ ↦ m ]) in
    elim (append_answer m t) as f [ Ok _ ↦ record { name = refl; floor = refl } | Err _ ↦ record { name = refl; floor = refl } ]

-- nor a call
stored_ground : (ls : List Layer) (b : Meaning) (o : Option (List ℕ)) → Ground b (stored ls b o)
stored_ground ls b None = record { name = refl; floor = refl }
stored_ground ls b (Some t) = append_ground b (sealed ls b (count b) t)

-- nor a list of calls
after_ground : (ls : List Layer) (b : Meaning) (cs : List Call) → Ground b (after ls b cs)
after_ground ls b [] = record { name = refl; floor = refl }
after_ground ls b (c ∷ cs) =
    let g = stored_ground ls b (appends c) in
    let h = after_ground ls (stored ls b (appends c)) cs in
    record { name = g.name ∙ h.name; floor = g.floor ∙ h.floor }

-- so a text is sealed after a list of calls as before it
pub sealed-after : (ls : List Layer) (b : Meaning) (cs : List Call) (i : ℕ) (t : List ℕ) → sealed ls b i t ≡ sealed ls (after ls b cs) i t
sealed-after ls b cs i t = ap (λ ss. sealed_by ss t) (seals-same ls b (after ls b cs) i (after_ground ls b cs))
