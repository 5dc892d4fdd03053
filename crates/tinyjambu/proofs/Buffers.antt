-- What is written at the start of an out buffer.
use Rattle.std.proofs.Common.{◌≡◌, ℕ, ◌+◌, ◌-◌, ◌≤◌, List, ◌++◌, length, drop, None, sym, ap, ◌∙◌, ap₂, append_assoc, arith}
use borrow.Rule.Slice.PartMut.{put_mid}
use Rattle.std.proofs.lemmas.List.{length-append, take_at, drop_at, drop-drop}
use Rattle.std.proofs.lemmas.Bool.{cond-false, le-ltb}
use Rattle.tinyjambu.specs.Answers.{written, longest, message_check}

-- after a write to the first n bytes, and then of a tag behind them
pub written-tag : (text tag out : List ℕ) (n : ℕ) → length text ≡ n → length tag ≡ 8 → put_mid n (n + 8 - n) (text ++ drop (n - 0) out) tag ≡ written (text ++ tag) out
written-tag text tag out n l m =
    let rest : List ℕ = drop (n - 0) out in
    let e : n + 8 - n ≡ 8 = omega arith in
    let z : n - 0 ≡ n = omega arith in
    let t = take_at text rest n l in
    let d : drop 8 (drop n (text ++ rest)) ≡ drop (length (text ++ tag)) out
    = ap (drop 8) (drop_at text rest n l ∙ ap (λ k. drop k out) z) ∙ drop-drop 8 n out ∙ ap (λ k. drop k out) (ap₂ ◌+◌ (sym l) (sym m) ∙ sym (length-append text tag)) in
    ap (λ k. put_mid n k (text ++ rest) tag) e ∙ ap₂ (λ x y. x ++ (tag ++ y)) t d ∙ sym (append_assoc text tag (drop (length (text ++ tag)) out))

-- the checks pass
pub message_check-none : (ad t room : ℕ) → ad ≤ longest → t ≤ longest → t + 8 ≤ room → message_check ad t room ≡ None
message_check-none ad t room h l m =
    cond-false _ _ _ (le-ltb longest ad h) ∙ cond-false _ _ _ (le-ltb longest t l) ∙ cond-false _ _ _ (le-ltb room (t + 8) m)
