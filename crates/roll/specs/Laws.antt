-- The laws of a roll carry up to the floor that is laid on it. (Proofs, for a floor to give as ghost members.)
use Rattle.std.specs.Prelude.{◌≡◌, ℕ, suc, ◌+◌, ◌-◌, ◌<◌, Bool, true, false, if◌then◌else◌, List, [], ◌∷◌, length, take, Some, None, refl}
use Rattle.std.proofs.Common.{◌∙◌, ap, arith, length-take}
use Rattle.std.proofs.lemmas.Bool.{lt-ltb, le-ltb, cond-true, cond-false}
use Rattle.tinyjambu.specs.Mode.{blocks, plaintext, plain_block, mark, inject, text_run, opened}
use Rattle.roll.specs.Roll.{Meaning, Entry, text, broken, entry_length, count, Lawful, ShortEntries}
use Rattle.roll.specs.Floor.{Layer, opened_entry, raised_entry, raised_from, raised}

-- an opened text is as long as the sealed text without its tag
plain_length : (key : List ℕ) (s : ℕ) (t : List ℕ) → length (plaintext key s (blocks t)) ≡ length t
plain_length key s [] = refl
plain_length key s (a ∷ []) = refl
plain_length key s (a ∷ b ∷ []) = refl
plain_length key s (a ∷ b ∷ c ∷ []) = refl
plain_length key s (a ∷ b ∷ c ∷ d ∷ t) =
    let x : List ℕ = a ∷ b ∷ c ∷ d ∷ [] in
    ap (λ n. suc (suc (suc (suc n)))) (plain_length key (mark x (inject (plain_block key s x) (text_run key s))) t)

-- the same of the bytes before the tag
body_length : (key : List ℕ) (s : ℕ) (c : List ℕ) → length (plaintext key s (blocks (take (length c - 8) c))) ≡ length c - 8
body_length key s c = plain_length key s (take (length c - 8) c) ∙ (length-take (length c - 8) c ∙ omega arith)

-- a broken entry is counted as long as a text would be
either_length : (b : Bool) (f n : ℕ) (t : List ℕ) → length t ≡ n → entry_length (opened_entry f n (if b then Some t else None)) ≡ n
either_length true f n t h = h
either_length false f n t h = refl

-- an entry of a floor is 8 bytes shorter than the one below, and never shorter than 0
pub raised_entry-length : (l : Layer) (m : Meaning) (i : ℕ) (e : Entry) → entry_length (raised_entry l m i e) ≡ entry_length e - 8
unfolding opened
raised_entry-length l m i (text c) = either_length _ _ (length c - 8) _ (body_length _ _ c)
raised_entry-length l m i (broken f n) = refl

-- the entries stay short
raised-short : (l : Layer) (m : Meaning) (i : ℕ) (es : List Entry) → ShortEntries es → ShortEntries (raised_from l m i es)
raised-short l m i [] s = tt
raised-short l m i (e ∷ es) s = (omega (arith, raised_entry-length l m i e, s.0), raised-short l m (i + 1) es s.1)

-- there are as many
raised-length : (l : Layer) (m : Meaning) (i : ℕ) (es : List Entry) → length (raised_from l m i es) ≡ length es
raised-length l m i [] = refl
raised-length l m i (e ∷ es) = ap suc (raised-length l m (i + 1) es)

-- the same of a roll
pub raised-count : (l : Layer) (m : Meaning) → count (raised l m) ≡ count m
unfolding raised
raised-count l m = raised-length l m 0 m.entries

-- the charge of a text that is short enough
pub charge-raised : (l : Layer) (m : Meaning) (n : ℕ) → n < m.bound - 8 → (raised l m).charge n ≡ m.charge (n + 8)
unfolding raised
charge-raised l m n h = cond-true _ _ _ (lt-ltb n (m.bound - 8) h)

-- a floor on a lawful roll is lawful
pub raised_lawful : (l : Layer) (m : Meaning) → Lawful m → Lawful (raised l m)
unfolding raised
raised_lawful l m w = record {
  few = omega (arith, raised-count l m, w.few);
  short = raised-short l m 0 m.entries w.short;
  bounded = λ h. omega (arith, w.bounded);
  at_least = λ n h. omega (arith, charge-raised l m n h, w.at_least (n + 8));
  at_most = λ n h. omega (arith, charge-raised l m n h, w.at_most (n + 8), w.bounded);
  free = λ n h. cond-false _ _ _ (le-ltb n (m.bound - 8) h);
  low = omega arith;
  small = w.small;
}
