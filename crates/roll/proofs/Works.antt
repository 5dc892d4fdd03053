-- A list of calls worked one by one: what holds after each, and the law when all are done.
use Rattle.std.proofs.Common.{◌≡◌, ℕ, ◌+◌, ◌≤◌, List, [], ◌∷◌, ◌++◌, length, take, sym, refl, ap, ◌∙◌, subst, append_assoc, append-nil}
use Rattle.std.proofs.lemmas.List.{take_all}
use Rattle.roll.specs.declared.answer.Answer.{Answer}
use Rattle.roll.specs.declared.call.Call.{Call as Given}
use Rattle.roll.specs.Roll.{Meaning, Put, Lawful}
use Rattle.roll.specs.Floor.{Layer, piled}
use Rattle.roll.specs.Life.{Call, answer, appends, stored, image_by, image_after_all, after, answers, Life}
use Rattle.roll.specs.Work.{heard, all_heard, reads, told, texts_read, Worked}
use Rattle.roll.proofs.Whole.{life}

module _ (ls : List Layer) where
  -- one call more: what becomes of the bottom
  after_push : (b : Meaning) (cs : List Call) (c : Call) → after ls b (cs ++ c ∷ []) ≡ stored ls (after ls b cs) (appends c)
  after_push b [] c = refl
  after_push b (x ∷ cs) c = after_push (stored ls b (appends x)) cs c

  -- of its bytes
  image_push : (put : Put) (b : Meaning) (image : List ℕ) (cs : List Call) (c : Call)
      → image_after_all put ls b image (cs ++ c ∷ []) ≡ image_by put ls (after ls b cs) (image_after_all put ls b image cs) (appends c)
  image_push put b image [] c = refl
  image_push put b image (x ∷ cs) c = image_push put (stored ls b (appends x)) (image_by put ls b image (appends x)) cs c

  -- its answer
  answers_push : (b : Meaning) (cs : List Call) (c : Call) → answers ls b (cs ++ c ∷ []) ≡ answers ls b cs ++ answer (piled ls (after ls b cs)) c ∷ []
  answers_push b [] c = refl
  answers_push b (x ∷ cs) c = ap (λ rs. answer (piled ls b) x ∷ rs) (answers_push (stored ls b (appends x)) cs c)

  -- the text that it reads
  texts_push : (b : Meaning) (cs : List Call) (c : Call) → texts_read ls b (cs ++ c ∷ []) ≡ texts_read ls b cs ++ told (piled ls (after ls b cs)) (reads c)
  texts_push b [] c = append-nil _
  texts_push b (x ∷ cs) c = rw (texts_push (stored ls b (appends x)) cs c, append_assoc)

-- the call as it was given
heard_push : (gs : List Given) (x : Given) → all_heard (gs ++ x ∷ []) ≡ all_heard gs ++ heard x ∷ []
heard_push [] x = refl
heard_push (y ∷ gs) x = ap (λ cs. heard y ∷ cs) (heard_push gs x)

-- the calls cs have been worked: the bottom was `start` with the bytes `was`, and is `end` with the bytes `image`
pub record SoFar (put : Put) (ls : List Layer) (start end : Meaning) (was image : List ℕ) (cs : List Call) (rs : List Answer) (ts : List ℕ) : Type 0 where
  pub imaged : image ≡ image_after_all put ls start was cs
  pub answered : rs ≡ answers ls start cs
  pub read : ts ≡ texts_read ls start cs
  pub ended : end ≡ after ls start cs

-- one call more
further : (put : Put) (ls : List Layer) (b e : Meaning) (was image : List ℕ) (cs : List Call) (rs : List Answer) (ts : List ℕ) (c : Call) → SoFar put ls b e was image cs rs ts
    → SoFar put ls b (stored ls e (appends c)) was (image_by put ls e image (appends c)) (cs ++ c ∷ []) (rs ++ answer (piled ls e) c ∷ []) (ts ++ told (piled ls e) (reads c))
further put ls b e was image cs rs ts c s = record {
  imaged = rw (image_push ls put b was cs c, s.imaged, s.ended);
  answered = rw (answers_push ls b cs c, s.answered, s.ended);
  read = rw (texts_push ls b cs c, s.read, s.ended);
  ended = rw (after_push ls b cs c, s.ended);
}

-- one more, as the program sees it
pub again : (put : Put) (ls ms : List Layer) (b e f m : Meaning) (was image next : List ℕ) (gs : List Given) (i : ℕ) (x : Given) (r : Answer) (rs qs : List Answer) (ts us : List ℕ)
    → SoFar put ls b e was image (all_heard (take i gs)) rs ts → ms ≡ ls → m ≡ piled ms e → take (i + 1) gs ≡ take i gs ++ x ∷ []
    → f ≡ stored ms e (appends (heard x)) → next ≡ image_by put ms e image (appends (heard x)) → r ≡ answer m (heard x) → qs ≡ rs ++ r ∷ [] → us ≡ ts ++ told m (reads (heard x))
    → SoFar put ls b f was next (all_heard (take (i + 1) gs)) qs us
again put ls ms b e f m was image next gs i x r rs qs ts us s p q t pf pn pr pq pu =
    let h = further put ls b e was image (all_heard (take i gs)) rs ts (heard x) s in
    let k = heard_push (take i gs) x in
    record {
      imaged = rw (pn, p, t, k) h.imaged;
      answered = rw (pq, pr, q, p, t, k) h.answered;
      read = rw (pu, q, p, t, k) h.read;
      ended = rw (pf, p, t, k) h.ended;
    }

-- all calls worked
worked : (put : Put) (ls : List Layer) (b e top : Meaning) (was image : List ℕ) (cs : List Call) (rs : List Answer) (ts : List ℕ)
    → Lawful b → SoFar put ls b e was image cs rs ts → top ≡ piled ls e → Worked ls b e top cs rs ts
worked put ls b e top was image cs rs ts lawful s p = record {
  answered = s.answered;
  read = s.read;
  ended = s.ended;
  topped = p;
  life =
      subst (λ x. Life ls b e top cs x) (sym s.answered)
      (subst (λ x. Life ls b e x cs (answers ls b cs)) (sym p)
      (subst (λ x. Life ls b x (piled ls x) cs (answers ls b cs)) (sym s.ended) (life ls b cs lawful)));
}

-- all of them, as the program sees it, with the bytes of the bottom then
pub all_worked : (put : Put) (ls ms : List Layer) (b e top : Meaning) (was image : List ℕ) (gs : List Given) (i : ℕ) (rs : List Answer) (ts : List ℕ)
    → Lawful b → SoFar put ls b e was image (all_heard (take i gs)) rs ts → ms ≡ ls → top ≡ piled ms e → length gs ≤ i
    → Worked ls b e top (all_heard gs) rs ts × (image ≡ image_after_all put ls b was (all_heard gs))
all_worked put ls ms b e top was image gs i rs ts lawful s p q h =
    let t = take_all i gs h in
    let all = rw t at s in
    (worked put ls b e top was image (all_heard gs) rs ts lawful all (q ∙ ap (λ x. piled x e) p), all.imaged)
