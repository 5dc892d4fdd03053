-- Two rolls compared entry by entry.
use Rattle.std.proofs.Common.{◌≡◌, ℕ, ◌<◌, ◌≤◌, Bool, List, length, drop, Some, None, Decides, Option, sym, ap, subst₂, ⊎_elim, arith}
use Rattle.std.proofs.lemmas.Bool.{cases_lt}
use Rattle.std.proofs.lemmas.List.{drop_all}
use Rattle.roll.specs.Roll.{Meaning, Entry, text, broken, count, entry, first}
use Rattle.roll.specs.Agree.{AlikeThere, Agree}
use Rattle.roll.proofs.Reading.{BrokenThere}

-- two texts are alike if they are the same
pub texts_alike : (d e : Option Entry) (t u : List ℕ) (r : Bool) → d ≡ Some (text t) → e ≡ Some (text u) → Decides r (t ≡ u) → Decides r (AlikeThere d e)
texts_alike d e t u r p q h = subst₂ (λ x y. Decides r (AlikeThere x y)) (sym p) (sym q) h

-- two broken entries are alike
pub broken_alike : (d e : Option Entry) → BrokenThere d → BrokenThere e → AlikeThere d e
broken_alike None e p q = absurd p
broken_alike (Some (text t)) e p q = absurd p
broken_alike (Some (broken f n)) None p q = absurd q
broken_alike (Some (broken f n)) (Some (text t)) p q = absurd q
broken_alike (Some (broken f n)) (Some (broken g k)) p q = tt

-- behind the end there is nothing
past_end : (es : List Entry) (i : ℕ) → length es ≤ i → first (drop i es) ≡ None
past_end es i h = ap first (drop_all i es h)

-- rolls with as many entries that are alike below the end agree
pub all_alike : (m n : Meaning) → count m ≡ count n → ((i : ℕ) → i < count m → AlikeThere (entry m i) (entry n i)) → Agree m n
all_alike m n e h = record {
  counted = e;
  alike = λ i. ⊎_elim (h i) (λ l. subst₂ AlikeThere (sym (past_end m.entries i l)) (sym (past_end n.entries i (omega (arith, e)))) tt) (cases_lt i (count m));
}
