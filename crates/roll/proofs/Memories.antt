-- What a write leaves of the parts of a memory.
use Rattle.std.proofs.Common.{◌≡◌, ℕ, ◌+◌, ◌-◌, ◌≤◌, List, ◌++◌, length, take, drop, sym, refl, ap, ◌∙◌, ap₂, append_assoc, arith, length-append, length-drop}
use borrow.Rule.Slice.PartMut.{put_mid}
use Rattle.std.proofs.lemmas.List.{take_at, take-take, drop_at, drop-take, drop-drop, length-take-le}
use Rattle.roll.specs.Memory.{part, written}

-- a part of the bytes below u, where those are the same
pub same_below : (memory next : List ℕ) (u at n : ℕ) → take u next ≡ take u memory → at + n ≤ u → part at n next ≡ part at n memory
same_below memory next u at n e h =
    sym (drop-take at n next) ∙ ap (drop at) (sym (take-take (at + n) u next h) ∙ ap (take (at + n)) e ∙ take-take (at + n) u memory h) ∙ drop-take at n memory

-- a part of the bytes from u on, where those are the same
pub same_above : (memory next : List ℕ) (u at n : ℕ) → drop u next ≡ drop u memory → u ≤ at → part at n next ≡ part at n memory
same_above memory next u at n e h =
    let k : u + (at - u) ≡ at = omega arith in
    ap (λ x. take n (drop x next)) (sym k) ∙ ap (take n) (sym (drop-drop (at - u) u next) ∙ ap (drop (at - u)) e ∙ drop-drop (at - u) u memory) ∙ ap (λ x. take n (drop x memory)) k

-- a part as long as it says
pub part_length : (at n : ℕ) (memory : List ℕ) → at + n ≤ length memory → length (part at n memory) ≡ n
part_length at n memory h = length-take-le n (drop at memory) (omega (arith, length-drop at memory))

module _ (at : ℕ) (bs memory : List ℕ) (fits : at + length bs ≤ length memory) where
  -- the bytes before a write are as they were
  front : length (take at memory) ≡ at
  front = length-take-le at memory (omega arith)

  -- a write keeps the length of the memory
  pub written_length : length (written at bs memory) ≡ length memory
  written_length =
      length-append (take at memory) _ ∙ ap₂ ◌+◌ front (length-append bs _ ∙ ap (λ k. length bs + k) (length-drop (at + length bs) memory)) ∙ omega arith

  -- what was written stands in its place
  pub written_there : part at (length bs) (written at bs memory) ≡ bs
  written_there = ap (take (length bs)) (drop_at (take at memory) _ at front) ∙ take_at bs _ (length bs) refl

  -- what lies before is as it was
  pub written_below : (k n : ℕ) → k + n ≤ at → part k n (written at bs memory) ≡ part k n memory
  written_below k n h = same_below memory (written at bs memory) at k n (take_at (take at memory) _ at front) h

  -- and what lies behind
  pub written_above : (k n : ℕ) → at + length bs ≤ k → part k n (written at bs memory) ≡ part k n memory
  written_above k n h =
      same_above memory (written at bs memory) (at + length bs) k n
      (sym (drop-drop (length bs) at (written at bs memory)) ∙ ap (drop (length bs)) (drop_at (take at memory) _ at front) ∙ drop_at bs _ (length bs) refl) h

-- two writes one behind the other are one
pub written_both : (at : ℕ) (xs ys memory : List ℕ) → at + length xs ≤ length memory → written (at + length xs) ys (written at xs memory) ≡ written at (xs ++ ys) memory
written_both at xs ys memory h =
    let before : List ℕ = take at memory ++ xs in
    let rest : List ℕ = drop (at + length xs) memory in
    let whole = sym (append_assoc (take at memory) xs rest) in
    let long : length before ≡ at + length xs = length-append (take at memory) xs ∙ ap (λ n. n + length xs) (length-take-le at memory (omega arith)) in
    let low = ap (take (at + length xs)) whole ∙ take_at before rest (at + length xs) long in
    let high : drop (at + length xs + length ys) (written at xs memory) ≡ drop (at + (length xs + length ys)) memory
    = sym (drop-drop (length ys) (at + length xs) (written at xs memory)) ∙ ap (drop (length ys)) (ap (drop (at + length xs)) whole ∙ drop_at before rest (at + length xs) long)
    ∙ drop-drop (length ys) (at + length xs) memory ∙ ap (λ k. drop k memory) (omega arith) in
    ap₂ (λ x y. x ++ (ys ++ y)) low high ∙ append_assoc (take at memory) xs _
    ∙ ap (λ x. take at memory ++ x) (sym (append_assoc xs ys _) ∙ ap (λ n. (xs ++ ys) ++ drop (at + n) memory) (sym (length-append xs ys)))

-- the copy of n bytes into a part of the memory, as the program shows it
pub copied : (memory bs now : List ℕ) (at e : ℕ) → e ≡ at + length bs → now ≡ bs → put_mid at (e - at) memory now ≡ written at bs memory
copied memory bs now at e p q =
    let n : e - at ≡ length bs = omega arith in
    ap (λ k. put_mid at k memory now) n ∙ ap₂ (λ x y. take at memory ++ (x ++ y)) q (drop-drop (length bs) at memory)

-- a part of the memory, as the program shows it, copied to the start of a buffer
pub read-part : (memory out now : List ℕ) (at e n : ℕ) → e ≡ at + n → now ≡ take (e - at) (drop at memory) → at + n ≤ length memory
    → now ++ drop (n - 0) out ≡ part at n memory ++ drop (length (part at n memory)) out
read-part memory out now at e n p q h =
    let k : e - at ≡ n = omega arith in
    let z : n - 0 ≡ n = omega arith in
    ap₂ (λ x y. x ++ drop y out) (q ∙ ap (λ x. take x (drop at memory)) k) (z ∙ sym (part_length at n memory h))
