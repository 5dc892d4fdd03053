-- Opening a sealed text is exact, from any state.
use Rattle.std.proofs.Common.{◌≡◌, ℕ, ◌-◌, ◌≤◌, Bool, true, false, cond, ◌&&◌, leb, List, [], ◌∷◌, ◌++◌, length, take, drop, Some, None, Decides, Option, sym, refl, ap, ◌∙◌, arith, rules}
use Rattle.std.proofs.lemmas.Slice.Eq.{compares_Decides}
use Rattle.std.proofs.lemmas.Bool.{and_parts, le-leb}
use Rattle.std.proofs.lemmas.List.{length-append, take-append-drop, take_at, drop_at}
use Rattle.tinyjambu.specs.Mode.{text_run, stream, mark, inject, plain_block, xored, blocks, ciphertext, text_state, plaintext, plain_state, tag, same, seal, opened, begun, absorbed}
use Rattle.tinyjambu.proofs.Walk.{flat, walked, ended, xored_undone, length-xored, text_back, state_back}

module _ (key : List ℕ) where
  -- sealing and opening as two walks over blocks with one key stream
  abbrev pub key_stream : ℕ → ℕ
  key_stream s = stream (text_run key s)

  abbrev pub seal_step : ℕ → List ℕ → ℕ
  seal_step s b = mark b (inject b (text_run key s))

  abbrev pub open_step : ℕ → List ℕ → ℕ
  open_step s c = mark c (inject (plain_block key s c) (text_run key s))

  -- each step undoes the other
  pub open_seal : (s : ℕ) (b : List ℕ) → open_step s (xored b (key_stream s)) ≡ seal_step s b
  open_seal s b = simp (xored_undone, length-xored)

  pub seal_open : (s : ℕ) (b : List ℕ) → seal_step s (xored b (key_stream s)) ≡ open_step s b
  seal_open s b = simp length-xored

  -- the definitions are these walks
  pub ciphertext_is : (s : ℕ) (bs : List (List ℕ)) → ciphertext key s bs ≡ flat (walked key_stream seal_step s bs)
  ciphertext_is s [] = refl
  ciphertext_is s (b ∷ bs) = ap (λ r. xored b (key_stream s) ++ r) (ciphertext_is (seal_step s b) bs)

  pub plaintext_is : (s : ℕ) (bs : List (List ℕ)) → plaintext key s bs ≡ flat (walked key_stream open_step s bs)
  plaintext_is s [] = refl
  plaintext_is s (b ∷ bs) = ap (λ r. xored b (key_stream s) ++ r) (plaintext_is (open_step s b) bs)

  pub text_state_is : (s : ℕ) (bs : List (List ℕ)) → text_state key s bs ≡ ended seal_step s bs
  text_state_is s [] = refl
  text_state_is s (b ∷ bs) = text_state_is (seal_step s b) bs

  pub plain_state_is : (s : ℕ) (bs : List (List ℕ)) → plain_state key s bs ≡ ended open_step s bs
  plain_state_is s [] = refl
  plain_state_is s (b ∷ bs) = plain_state_is (open_step s b) bs

  -- sealing what was opened, and opening what was sealed, gives it back
  pub sealed_text : (s : ℕ) (c : List ℕ) → ciphertext key s (blocks (plaintext key s (blocks c))) ≡ c
  sealed_text s c = rw (plaintext_is, ciphertext_is) (text_back key_stream open_step seal_step seal_open s c)

  pub sealed_state : (s : ℕ) (c : List ℕ) → text_state key s (blocks (plaintext key s (blocks c))) ≡ plain_state key s (blocks c)
  sealed_state s c = rw (plaintext_is, text_state_is, plain_state_is) (state_back key_stream open_step seal_step seal_open s c)

  pub opened_text : (s : ℕ) (t : List ℕ) → plaintext key s (blocks (ciphertext key s (blocks t))) ≡ t
  opened_text s t = rw (ciphertext_is, plaintext_is) (text_back key_stream seal_step open_step open_seal s t)

  pub opened_state : (s : ℕ) (t : List ℕ) → plain_state key s (blocks (ciphertext key s (blocks t))) ≡ text_state key s (blocks t)
  opened_state s t = rw (ciphertext_is, plain_state_is, text_state_is) (state_back key_stream seal_step open_step open_seal s t)

-- the comparison of tags
pub same_decides : (xs ys : List ℕ) → Decides (same xs ys) (xs ≡ ys)
same_decides = compares_Decides same (search rules)

-- what a test that gave a text says
pub some_if : {A : Type 0} (b : Bool) (x t : A) → cond b (Some x) None ≡ Some t → (b ≡ true) × (x ≡ t)
some_if true x t e = (refl, cc)
some_if false x t e = grind arith

-- a list whose last eight items are known
ends : (p q c : List ℕ) → p ++ q ≡ c → length q ≡ 8 → (8 ≤ length c) × (take (length c - 8) c ≡ p) × (drop (length c - 8) c ≡ q)
ends p q c e h =
    let n = simp length-append at (ap length e) in
    let l : length p ≡ length c - 8 = omega arith in
    (omega arith, ap (take (length c - 8)) (sym e) ∙ take_at p q _ l, ap (drop (length c - 8)) (sym e) ∙ drop_at p q _ l)

-- both ways, from the state s after the associated data
module _ (key : List ℕ) (s : ℕ) where
  abbrev sealed_from : List ℕ → List ℕ
  sealed_from t = ciphertext key s (blocks t) ++ tag key (text_state key s (blocks t))

  abbrev opened_from : List ℕ → Option (List ℕ)
  opened_from c =
      let cs : List (List ℕ) = blocks (take (length c - 8) c) in
      cond (leb 8 (length c) && same (tag key (plain_state key s cs)) (drop (length c - 8) c)) (Some (plaintext key s cs)) None

  pub seals : (c t : List ℕ) → opened_from c ≡ Some t → sealed_from t ≡ c
  seals c t e =
      let body : List ℕ = take (length c - 8) c in
      let end : List ℕ = drop (length c - 8) c in
      let made : List ℕ = tag key (plain_state key s (blocks body)) in
      let p = some_if (leb 8 (length c) && same made end) (plaintext key s (blocks body)) t e in
      let q = (same_decides made end).0 (and_parts (leb 8 (length c)) (same made end) p.0).1 in
      rw (← p.1, sealed_text, sealed_state, q) (take-append-drop (length c - 8) c)

  pub opens : (c t : List ℕ) → sealed_from t ≡ c → opened_from c ≡ Some t
  opens c t e =
      let made : List ℕ = tag key (text_state key s (blocks t)) in
      let p = ends (ciphertext key s (blocks t)) made c e refl in
      rw (p.1, p.2, opened_text, opened_state, le-leb 8 (length c) p.0, (same_decides made made).1 refl)

-- opening by the definition is exact
pub opened_exactly : (key n ad c t : List ℕ) → (opened key n ad c ≡ Some t → seal key n ad t ≡ c) × (seal key n ad t ≡ c → opened key n ad c ≡ Some t)
unfolding seal opened
opened_exactly key n ad c t = (seals key (absorbed key (begun key n) (blocks ad)) c t, opens key (absorbed key (begun key n) (blocks ad)) c t)
