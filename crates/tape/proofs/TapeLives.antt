-- The memory of a tape through the life of a pile that stands on it.
use Rattle.std.proofs.Common.{◌≡◌, ℕ, ◌+◌, ◌-◌, ◌*◌, ◌<◌, ◌≤◌, List, [], ◌∷◌, length, Some, None, Ok, Err, Option, Result, sym, refl, ap, ◌∙◌, subst, ap₂, ⊎_elim, arith}
use Rattle.std.proofs.lemmas.Bool.{cases_Bool, cases_lt}
use Rattle.refusal.specs.declared.fault.Fault.{Fault}
use Rattle.roll.specs.Roll.{Meaning, text, count, entry, append_answer, image_after}
use Rattle.roll.specs.Floor.{Layer, piled, sealed}
use Rattle.roll.specs.Life.{Call, appends, stored, after, image_by, image_after_all}
use Rattle.roll.proofs.Rolls.{Takes, taken, tried, after_is, none_some}
use Rattle.roll.proofs.Piles.{takes_down, refused_down}
use Rattle.roll.proofs.Stamps.{each_map}
use Rattle.roll.proofs.Whole.{life}
use Rattle.tape.specs.Tape.{count_of, last_end, InOrder, in_order, between, ordered_tape, nothing, tape, tape_put}
use Rattle.tape.specs.TapeLaws.{ordered, tape_lawful}
use Rattle.tape.specs.TapeLife.{TapeLives, TapeRests}
use Rattle.tape.proofs.Tapes.{tape_is, tape-nothing, tape_count, tape_at, entry_past, charge_under, put_length, put_ordered, put_means}

-- what a tape in order takes, in the terms of its memory
module _ (memory t : List ℕ) (o : InOrder memory) (h : Takes (tape memory) t) where
  short : length t < 4097
  short = omega (arith, h.fits, ap (λ m. m.bound) (tape_is memory o))

  room : count_of memory < 4095
  room = omega (arith, h.room, ap count (tape_is memory o), tape_count memory o)

  paid : length t + 4 ≤ length memory - 4 * count_of memory - last_end memory
  paid = omega (arith, h.paid, charge_under memory (length t) h.fits, ap (λ m. m.space) (tape_is memory o))

-- one call leaves the memory in order, and meaning what the bottom then means
record Keeps (ls : List Layer) (memory next : List ℕ) (a : Option (List ℕ)) : Type 0 where
  pub long : length next ≡ length memory
  pub ordered : InOrder next
  pub means : tape next ≡ stored ls (tape memory) a

-- an accepted append keeps it so
keeps_taken : (ls : List Layer) (memory t : List ℕ) → InOrder memory → Takes (piled ls (tape memory)) t → Keeps ls memory (tape_put (tape memory) memory (sealed ls (tape memory) (count (tape memory)) t)) (Some t)
keeps_taken ls memory t o h =
    let b : Meaning = tape memory in
    let s : List ℕ = sealed ls b (count b) t in
    let k = takes_down ls b (count b) t h in
    let r = room memory s o k in
    let p = paid memory s o k in
    record {
      long = put_length memory s o (short memory s o k) r p b;
      ordered = put_ordered memory s o (short memory s o k) r p b;
      means = put_means memory s o (short memory s o k) r p b ∙ sym (after_is b s _ (taken b s k));
    }

-- so does every call
keeps : (ls : List Layer) (memory : List ℕ) (a : Option (List ℕ)) → InOrder memory → Keeps ls memory (image_by tape_put ls (tape memory) memory a) a
keeps ls memory None o = record { long = refl; ordered = o; means = refl }
keeps ls memory (Some t) o =
    ⊎_elim (λ h. from (Ok (count top)) (taken top t h) (keeps_taken ls memory t o h))
    (λ h. from (Err h.0) h.1 (record { long = refl; ordered = o; means = sym (refused_down ls b (count b) t h.0 h.1) }))
    (tried top t)
  where
    b : Meaning
    b = tape memory

    top : Meaning
    top = piled ls b

    new : List ℕ
    new = tape_put b memory (sealed ls b (count b) t)

    from : (r : Result ℕ Fault) → append_answer top t ≡ r → Keeps ls memory (image_after r new memory) (Some t) → Keeps ls memory (image_after (append_answer top t) new memory) (Some t)
    from r e k = subst (λ x. Keeps ls memory (image_after x new memory) (Some t)) (sym e) k

-- and so does a list of calls
kept : (ls : List Layer) (memory : List ℕ) (cs : List Call) → InOrder memory
    → (length (image_after_all tape_put ls (tape memory) memory cs) ≡ length memory) × InOrder (image_after_all tape_put ls (tape memory) memory cs)
    × (tape (image_after_all tape_put ls (tape memory) memory cs) ≡ after ls (tape memory) cs)
kept ls memory [] o = (refl, o, refl)
kept ls memory (c ∷ cs) o =
    let k = keeps ls memory (appends c) o in
    let next : List ℕ = image_by tape_put ls (tape memory) memory (appends c) in
    let r = kept ls next cs k.ordered in
    subst (λ b. (length (image_after_all tape_put ls b next cs) ≡ length memory) × InOrder (image_after_all tape_put ls b next cs) × (tape (image_after_all tape_put ls b next cs) ≡ after ls b cs))
    k.means (r.0 ∙ k.long, r.1, r.2)

-- an entry of a tape in order stands between its offsets
stands-between : (memory : List ℕ) (i : ℕ) (t : List ℕ) → InOrder memory → entry (tape memory) i ≡ Some (text t) → between memory i ≡ t
stands-between memory i t o e =
    let m = ap (λ x. entry x i) (sym (tape_is memory o)) in
    ⊎_elim (λ h. let p = sym (tape_at memory o i h) ∙ (m ∙ e) in cc) (λ h. none_some (sym (entry_past (ordered_tape memory) i (omega (arith, tape_count memory o))) ∙ (m ∙ e))) (cases_lt i (count_of memory))

-- the life of a memory in order
pub lives : (memory : List ℕ) → TapeLives memory
lives memory ls cs o =
    let b : Meaning = tape memory in
    let end : List ℕ = image_after_all tape_put ls b memory cs in
    let k = kept ls memory cs o in
    let l = life ls b cs (tape_lawful memory) in
    record {
      long = k.0;
      ordered = k.1;
      means = k.2;
      stands = each_map _ _ _ (λ x g. stands-between end x.number _ k.1 (ap (λ m. entry m x.number) k.2 ∙ l.reads x.number x.what g)) l.back;
    }

-- a roll with nothing takes nothing
idle : (ls : List Layer) (memory : List ℕ) (a : Option (List ℕ)) → tape memory ≡ nothing → (image_by tape_put ls (tape memory) memory a ≡ memory) × (stored ls (tape memory) a ≡ tape memory)
idle ls memory None e = (refl, refl)
idle ls memory (Some t) e =
    ⊎_elim (λ h. absurd (omega (arith, (takes_down ls (tape memory) (count (tape memory)) t h).fits, ap (λ m. m.bound) e)))
    (λ h. (ap (λ r. image_after r new memory) h.1, refused_down ls (tape memory) (count (tape memory)) t h.0 h.1)) (tried (piled ls (tape memory)) t)
  where
    new : List ℕ
    new = tape_put (tape memory) memory (sealed ls (tape memory) (count (tape memory)) t)

-- so its memory rests
resting : (ls : List Layer) (memory : List ℕ) (cs : List Call) → tape memory ≡ nothing → image_after_all tape_put ls (tape memory) memory cs ≡ memory
resting ls memory [] e = refl
resting ls memory (c ∷ cs) e = let i = idle ls memory (appends c) e in ap₂ (λ b m. image_after_all tape_put ls b m cs) i.1 i.0 ∙ resting ls memory cs e

-- the life of any other
pub rests : (memory : List ℕ) → TapeRests memory
rests memory ls cs out = ⊎_elim (λ t. absurd (out (ordered memory t))) (λ f. resting ls memory cs (tape-nothing memory f)) (cases_Bool (in_order memory))
