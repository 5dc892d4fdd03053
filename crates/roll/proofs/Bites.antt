-- The law can be met, and fails of what is wrong.
use Rattle.std.proofs.Common.{◌≡◌, ℕ, ◌+◌, ◌≤◌, List, [], ◌∷◌, ◌++◌, length, Some, Option, sym, refl, ap, ◌∙◌, subst, arith}
use Rattle.std.proofs.lemmas.Bool.{lt-ltb, le-ltb, cond-true, cond-false}
use Rattle.tinyjambu.specs.Mode.{seal}
use Rattle.roll.specs.Roll.{text}
use Rattle.roll.specs.Floor.{Seal, apply_seal, seal_at, raised, piled, seals, sealed_by}
use Rattle.roll.specs.Life.{Kept, Numbered, Each}
use Rattle.roll.specs.Teeth.{BlankLawful, BothAccepted, UnsealedFails, UncountedFails, TwiceFails, MiserlyFails, SilentFails}
use Rattle.tinyjambu.proofs.Sealing.{seal-length}

-- the blank bottom keeps the laws
pub blank_lawful : BlankLawful
blank_lawful = record {
  few = omega arith;
  short = tt;
  bounded = λ h. omega arith;
  at_least = λ n h. rw (cond-true _ _ _ (lt-ltb n 4097 h)) (omega arith);
  at_most = λ n h. rw (cond-true _ _ _ (lt-ltb n 4097 h)) (omega arith);
  free = λ n h. cond-false _ _ _ (le-ltb n 4097 h);
  low = omega arith;
  small = omega arith;
}

-- it takes two entries under two floors
pub both-accepted : BothAccepted
unfolding raised seal
both-accepted l k = refl

-- each sealing makes a text longer
sealed-length : (ss : List Seal) (t : List ℕ) → length t ≤ length (sealed_by ss t)
sealed-length [] t = omega arith
sealed-length (s ∷ ss) t = omega (arith, sealed-length ss (apply_seal s t), seal-length s.key s.nonce (s.kind ∷ []) t)

module _ {A : Type 0} (P : A → Type 0) where
  -- what holds of each of two lists holds of each of the second
  each_end : (xs ys : List A) → Each P (xs ++ ys) → Each P ys
  each_end [] ys h = h
  each_end (x ∷ xs) ys h = each_end xs ys h.1

-- entries that are the same have the same text
same_text : {t u : List ℕ} → ◌≡◌ {A = Option _} (Some (text t)) (Some (text u)) → t ≡ u
same_text e = cc

-- by `back` and `reads`: an unsealed text is shorter than a sealed one
pub unsealed_fails : UnsealedFails
unsealed_fails l ls start end top cs rs before rest k e h life =
    let b = subst (Each _) e life.back in
    let g = (each_end _ before (k ∷ rest) b).0 in
    let p = ap length (same_text (sym h ∙ life.reads k.number k.what g)) in
    let s = seal_at l (piled ls start) k.number in
    omega (arith, p, sealed-length (seals ls start k.number) (apply_seal s k.what), seal-length s.key s.nonce (s.kind ∷ []) k.what)

-- by `counted`
pub uncounted_fails : UncountedFails
uncounted_fails ls start end top cs rs k ks e h life = omega (arith, h, life.counted, ap length e)

-- the number of an accepted entry, and those of the ones behind it
numbered_at : (n : ℕ) (before rest : List Kept) (k : Kept) → Numbered n (before ++ k ∷ rest) → (k.number ≡ n + length before) × Numbered (n + length before + 1) rest
numbered_at n [] rest k h = (omega (arith, h.0), subst (λ j. Numbered (j + 1) rest) (omega arith) h.1)
numbered_at n (x ∷ before) rest k h =
    let r = numbered_at (n + 1) before rest k h.1 in
    (omega (arith, r.0), subst (λ j. Numbered (j + 1) rest) (omega arith) r.1)

-- by `numbered`
pub twice_fails : TwiceFails
twice_fails ls start end top cs rs before between rest k u e h life =
    let p = numbered_at _ before (between ++ u ∷ rest) k (subst (Numbered _) e life.numbered) in
    omega (arith, h, p.0, (numbered_at _ between rest u p.1).0)

-- by `fair`
pub miserly_fails : MiserlyFails
miserly_fails ls start end top t cs f rs fits room paid life = omega (arith, paid, (life.fair.0 fits (omega (arith, room))).0 refl)

-- by `fair`
pub silent_fails : SilentFails
silent_fails ls start end top c cs life = life.fair
