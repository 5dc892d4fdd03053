-- The lines of a roll, one entry after another.
use Rattle.std.proofs.Common.{◌≡◌, ℕ, zero, suc, ◌+◌, ◌<◌, List, [], ◌∷◌, ◌++◌, length, take, drop, Some, Ok, codes, decimal, sym, refl, ap, ◌∙◌, ap₂, append_assoc, append-nil, arith}
use Rattle.roll.specs.Roll.{Meaning, Entry, entry_length, count, first, length_answer}
use Rattle.roll.proofs.Reading.{measured}
use Rattle.roll.proofs.Rolls.{ok_one}
use Rattle.tape.specs.Listing.{roll_line, entry_line, entry_lines}

-- the lines of one entry more
lines_push : (i : ℕ) (es : List Entry) (e : Entry) → entry_lines i (es ++ e ∷ []) ≡ entry_lines i es ++ entry_line (i + length es) e
lines_push i [] e = append-nil (entry_line i e) ∙ ap (λ k. entry_line k e) (omega arith)
lines_push i (x ∷ es) e =
    ap (λ r. entry_line i x ++ r) (lines_push (i + 1) es e)
    ∙ (sym (append_assoc (entry_line i x) (entry_lines (i + 1) es) (entry_line (i + 1 + length es) e))
    ∙ ap (λ k. (entry_line i x ++ entry_lines (i + 1) es) ++ entry_line k e) (omega arith))

-- the entry of a number below the count
found : (es : List Entry) (i : ℕ) → i < length es → (e : Entry) × (first (drop i es) ≡ Some e) × (take (i + 1) es ≡ take i es ++ e ∷ []) × (length (take i es) ≡ i)
found [] i h = absurd (omega arith)
found (x ∷ es) zero h = (x, refl, refl, refl)
found (x ∷ es) (suc i) h =
    let f = found es i (omega arith) in
    let n : suc i + 1 ≡ suc (i + 1) = omega arith in
    (f.0, f.1, ap (λ k. take k (x ∷ es)) n ∙ ap (λ r. x ∷ r) f.2, ap suc f.3)

-- the length of an entry that is there is answered
pub length_there : (m : Meaning) (i : ℕ) → i < count m → (n : ℕ) × (length_answer m i ≡ Ok n)
length_there m i h = let f = found m.entries i h in (entry_length f.0, ap (measured m i) f.1)

-- the lines of one entry more, as the program writes it
pub more_lines : (m : Meaning) (i n : ℕ) → i < count m → length_answer m i ≡ Ok n
    → (roll_line m ++ entry_lines 0 (take i m.entries)) ++ (decimal i ++ (codes " " ++ (decimal n ++ codes "\n"))) ≡ roll_line m ++ entry_lines 0 (take (i + 1) m.entries)
more_lines m i n h a =
    let f = found m.entries i h in
    let old : List ℕ = entry_lines 0 (take i m.entries) in
    let at : 0 + length (take i m.entries) ≡ i = omega (arith, f.3) in
    let long : entry_length f.0 ≡ n = ok_one (sym (ap (measured m i) f.1) ∙ a) in
    let line : entry_line (0 + length (take i m.entries)) f.0 ≡ decimal i ++ (codes " " ++ (decimal n ++ codes "\n"))
    = ap₂ (λ x y. decimal x ++ (codes " " ++ (decimal y ++ codes "\n"))) at long in
    append_assoc (roll_line m) old _
    ∙ ap (λ r. roll_line m ++ r) (ap (λ r. old ++ r) (sym line) ∙ sym (lines_push 0 (take i m.entries) f.0) ∙ ap (entry_lines 0) (sym f.2))
