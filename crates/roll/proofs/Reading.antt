-- What a roll answers to a read and to a question for a length, by what stands under the number.
use Rattle.std.proofs.Common.{◌≡◌, ℕ, zero, suc, ◌+◌, ◌-◌, ◌<◌, ◌≤◌, if◌then◌else◌, ltb, List, [], ◌∷◌, ◌++◌, length, take, drop, replicate, Some, None, Ok, Err, Option, Result, sym, refl, ap, ◌∙◌, ap₂, arith, append_assoc, length-append}
use lib.ListN.{length-replicate}
use Rattle.std.proofs.Math.Seq.{take-append-add, take-append_seam, drop-append_seam, take-length}
use Rattle.std.proofs.lemmas.List.{take-take, take-append-le, take_all}
use Rattle.std.specs.Result.{result_unwrap_or}
use Rattle.std.specs.Borrow.{Bor}
use Rattle.std.proofs.lemmas.Bool.{cond-true, cond-false, lt-ltb, le-ltb}
use Rattle.refusal.specs.declared.fault.Fault.{Fault}
use Rattle.refusal.specs.declared.refusal.Refusal.TheVariants.{NoEntry, OutTooShort, Broken}
use Rattle.roll.specs.Roll.{Meaning, Entry, text, broken, entry_length, Lawful, count, first, entry, length_answer, read_answer, read_out}
use Rattle.refusal.specs.Refusals.{fault}
use Rattle.roll.specs.Giving.{Finds, given_answer}
use Rattle.roll.specs.Work.{text_at}
use Rattle.roll.proofs.Rolls.{said, put, none_some, never, entries_fit, read_told, read_none}

-- the answer of a length, by the entry
abbrev pub measured : Meaning → ℕ → Option Entry → Result ℕ Fault
measured m i o = elim o [ None ↦ Err (fault NoEntry m.floor i) | Some e ↦ Ok (entry_length e) ]

module _ (m : Meaning) (i : ℕ) where
  -- the length of no entry, and of one, broken or not
  pub length_missing : entry m i ≡ None → length_answer m i ≡ Err (fault NoEntry m.floor i)
  length_missing e = ap (measured m i) e

  pub length_given : (x : Entry) → entry m i ≡ Some x → length_answer m i ≡ Ok (entry_length x)
  length_given x e = ap (measured m i) e

  module _ (out : List ℕ) where
    -- a read of no entry
    pub read_missing : entry m i ≡ None → (read_answer m i (length out) ≡ Err (fault NoEntry m.floor i)) × (read_out m i out ≡ replicate (length out) 0)
    read_missing e = let a = ap (said m i (length out)) e in (a, ap (put out (entry m i)) a)

    -- of an entry that is too long for the buffer, broken or not
    pub read_long : (x : Entry) → entry m i ≡ Some x → length out < entry_length x
        → (read_answer m i (length out) ≡ Err (fault OutTooShort m.floor i)) × (read_out m i out ≡ replicate (length out) 0)
    read_long x e h = let a = ap (said m i (length out)) e ∙ cond-true _ _ _ (lt-ltb (length out) (entry_length x) h) in (a, ap (put out (entry m i)) a)

    -- of a broken entry that would fit
    pub read_broken : (f n : ℕ) → entry m i ≡ Some (broken f n) → n ≤ length out
        → (read_answer m i (length out) ≡ Err (fault Broken f i)) × (read_out m i out ≡ replicate (length out) 0)
    read_broken f n e h = let a = ap (said m i (length out)) e ∙ cond-false _ _ _ (le-ltb (length out) n h) in (a, ap (put out (entry m i)) a)

    -- and of a text that fits
    pub read_given : (t : List ℕ) → entry m i ≡ Some (text t) → length t ≤ length out
        → (read_answer m i (length out) ≡ Ok (length t)) × (read_out m i out ≡ t ++ drop (length t) out)
    read_given t e h =
        let a = ap (said m i (length out)) e ∙ cond-false _ _ _ (le-ltb (length out) (length t) h) in
        (a, ap₂ (λ o r. put out o r) e a)

-- what a bottom finds is given out with the answer to a read
pub read_found : (m : Meaning) (i room : ℕ) (found : Result (Bor (List ℕ)) Fault) → m.floor ≡ 0 → Finds m i found → given_answer found i room ≡ read_answer m i room
read_found m i room (Err f) low (none, is) = ap Err is ∙ ap (λ k. Err (fault NoEntry k i)) (sym low) ∙ sym (ap (said m i room) none)
read_found m i room (Ok bytes) low there =
    let n = length bytes.now in
    ap (λ k. if ltb room n then Err (fault OutTooShort k i) else Ok n) (sym low) ∙ sym (ap (said m i room) there)

-- a broken entry stands there
abbrev pub BrokenThere : Option Entry → Type 0
BrokenThere None = ⊥
BrokenThere (Some (text t)) = ⊥
BrokenThere (Some (broken f n)) = Unit {0}

-- there is an entry below the end
entry_there : (es : List Entry) (i : ℕ) → i < length es → first (drop i es) ≡ None → ⊥
entry_there [] i h e = absurd (omega arith)
entry_there (x ∷ es) zero h e = none_some (sym e)
entry_there (x ∷ es) (suc i) h e = entry_there es i (omega arith) e

-- the buffer that is read into
abbrev zeros : List ℕ
zeros = replicate {A = ℕ} 4096 0

-- is as long as it says
long : length zeros ≡ 4096
long = length-replicate {A = ℕ} 4096 0

-- what a read of a lawful roll into 4,096 zeros tells of the entry, by the answer r and the buffer afterwards
module _ (m : Meaning) (i : ℕ) (r : Result ℕ Fault) (out : List ℕ) (lawful : Lawful m) (r-is : r ≡ read_answer m i (length zeros)) (out-is : out ≡ read_out m i zeros) where
  -- a broken entry is refused
  broken_refused : (f n : ℕ) → entry m i ≡ Some (broken f n) → read_answer m i (length zeros) ≡ Err (fault Broken f i)
  broken_refused f n e = (read_broken m i zeros f n e (omega (arith, entries_fit m i (broken f n) lawful e, long))).0

  -- one that was given was a text, which stands at the start of the buffer
  pub gave : (n : ℕ) → r ≡ Ok n → entry m i ≡ Some (text (take n out))
  gave n p = from (entry m i) refl
    where
      a : read_answer m i (length zeros) ≡ Ok n
      a = sym r-is ∙ p

      from : (o : Option Entry) → entry m i ≡ o → entry m i ≡ Some (text (take n out))
      from None e = never _ _ _ (read_missing m i zeros e).0 a
      from (Some (broken f k)) e = never _ _ _ (broken_refused f k e) a
      from (Some (text t)) e = e ∙ ap (λ x. Some (text x)) (sym (ap (take n) out-is ∙ (read_told m i n zeros lawful long a).1 ∙ ap text_at e))

  -- one that was refused was broken
  pub kept_back : (f : Fault) → i < count m → r ≡ Err f → BrokenThere (entry m i)
  kept_back f h p = from (entry m i) refl
    where
      from : (o : Option Entry) → entry m i ≡ o → BrokenThere o
      from None e = entry_there m.entries i h e
      from (Some (broken g k)) e = tt
      from (Some (text t)) e = never _ _ _ (sym r-is ∙ p) (read_given m i zeros t e (omega (arith, entries_fit m i (text t) lawful e, long))).0

-- what a read into 4,096 bytes answers and leaves is the text of the entry, or nothing where it is refused
pub told_there : (m : Meaning) (i : ℕ) (before out : List ℕ) (r : Result ℕ Fault) → Lawful m → length before ≡ 4096 → r ≡ read_answer m i (length before) → out ≡ read_out m i before
    → (result_unwrap_or r 0 ≤ 4096) × (take (result_unwrap_or r 0) out ≡ text_at (entry m i))
told_there m i before out (Ok n) lawful p r-is out-is =
    let told = read_told m i n before lawful p (sym r-is) in
    (told.0, ap (take n) out-is ∙ told.1)
told_there m i before out (Err f) lawful p r-is out-is = (omega arith, sym (read_none m i (length before) f lawful p (sym r-is)))

-- bytes behind others, of which some are cut off again
pub cut_back : (xs ys zs rest : List ℕ) (begin r n : ℕ) → length xs ≡ begin → r ≤ length ys → begin + r ≤ n
    → take (begin + r) (take n ((xs ++ (ys ++ zs)) ++ rest)) ≡ xs ++ take r ys
cut_back xs ys zs rest begin r n long few within =
    take-take (begin + r) n _ within ∙ ap₂ (λ k ws. take (k + r) ws) (sym long) (append_assoc xs (ys ++ zs) rest) ∙ take-append-add xs ((ys ++ zs) ++ rest) r
    ∙ ap (λ ws. xs ++ ws) (take-append-le r (ys ++ zs) rest (omega (arith, length-append ys zs)) ∙ take-append-le r ys zs few)

-- texts that are made longer by 4,096 zeros: behind as many as there were stand the zeros
pub grown_longer : (ts all : List ℕ) (begin len : ℕ) → begin ≡ length ts → len ≡ length ts → all ≡ take (begin + 4096) ts ++ replicate (begin + 4096 - len) 0
    → (take begin all ≡ ts) × (take (length all - begin) (drop begin all) ≡ zeros)
grown_longer ts all begin len p q is =
    let count : begin + 4096 - len ≡ 4096 = omega arith in
    let grown : all ≡ ts ++ zeros = is ∙ ap₂ (λ x n. x ++ replicate n 0) (take_all (begin + 4096) ts (omega arith)) count in
    let many : length all - begin ≡ length zeros = omega (arith, ap length grown, length-append ts zeros) in (
      ap₂ take p grown ∙ take-append_seam ts zeros,
      ap₂ take many (ap₂ drop p grown ∙ drop-append_seam ts zeros) ∙ take-length zeros,
    )
