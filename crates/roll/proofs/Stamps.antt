-- No two sealings of a life have the same key and nonce.
use Rattle.std.proofs.Common.{◌≡◌, ℕ, ◌+◌, ◌^◌, ◌<◌, ◌≤◌, List, [], ◌∷◌, ◌++◌, take, drop, sym, refl, ap, ◌∙◌, arith, lit≤}
use Rattle.engine.specs.Bytes.{bytes, number}
use Rattle.roll.specs.Roll.{Meaning, Lawful}
use Rattle.roll.specs.Floor.{Layer, Seal, nonce, above, seal_at, raised, piled, seals}
use Rattle.roll.specs.Life.{Kept, Each, all_seals, Pair, Differ}
use Rattle.roll.proofs.Rolls.{Rising}
use Rattle.roll.proofs.Piles.{piled_lawful}

module _ {A : Type 0} where
  -- what follows for each
  pub each_map : (P Q : A → Type 0) (xs : List A) → ((x : A) → P x → Q x) → Each P xs → Each Q xs
  each_map P Q [] f h = tt
  each_map P Q (x ∷ xs) f h = (f x h.0, each_map P Q xs f h.1)

  each-++ : (P : A → Type 0) (xs ys : List A) → Each P xs → Each P ys → Each P (xs ++ ys)
  each-++ P [] ys h k = k
  each-++ P (x ∷ xs) ys h k = (h.0, each-++ P xs ys h.1 k)

differ-++ : (ss us : List Seal) → Differ ss → Differ us → Each (λ s. Each (λ u. Pair s u → ⊥) us) ss → Differ (ss ++ us)
differ-++ [] us h k p = k
differ-++ (s ∷ ss) us h k p = (each-++ _ ss us h.0 p.0, differ-++ ss us h.1 k p.1)

-- a sealing by a floor of number at most top, of an entry of number at least low and below high
record Stamp (top low high : ℕ) (s : Seal) : Type 0 where
  pub name : ℕ
  pub floor : ℕ
  pub entry : ℕ
  pub under : floor ≤ top
  pub least : low ≤ entry
  pub below : entry < high
  pub is : s.nonce ≡ nonce name floor entry

-- wider limits
wider : (top low high top' low' high' : ℕ) (s : Seal) → top ≤ top' → low' ≤ low → high ≤ high' → Stamp top low high s → Stamp top' low' high' s
wider top low high top' low' high' s p q r h =
    record { name = h.name; floor = h.floor; entry = h.entry; under = omega (arith, h.under); least = omega (arith, h.least); below = omega (arith, h.below); is = h.is }

-- a number is told by its four bytes
number-bytes : (n : ℕ) → n < 2 ^ 32 → number (bytes 4 n) ≡ n
number-bytes n h = omega arith

-- nonces that are the same have the same floor
nonce-floor : (n f i m g j : ℕ) → f < 2 ^ 32 → g < 2 ^ 32 → nonce n f i ≡ nonce m g j → f ≡ g
nonce-floor n f i m g j hf hg e = sym (number-bytes f hf) ∙ (ap (λ bs. number (take 4 (drop 4 bs))) e ∙ number-bytes g hg)

-- and the same entry
nonce-entry : (n f i m g j : ℕ) → i < 2 ^ 32 → j < 2 ^ 32 → nonce n f i ≡ nonce m g j → i ≡ j
nonce-entry n f i m g j hi hj e = sym (number-bytes i hi) ∙ (ap (λ bs. number (drop 8 bs)) e ∙ number-bytes j hj)

-- sealings of one entry by floors below, and of entries before and after, differ
floors_differ : (l : Layer) (m : Meaning) (i top low high : ℕ) (u : Seal) → top < above m → above m < 2 ^ 32 → Stamp top low high u → Pair (seal_at l m i) u → ⊥
floors_differ l m i top low high u h k w p = omega (arith, h, w.under, nonce-floor _ _ _ _ _ _ k (omega (arith, w.under)) (p.1 ∙ w.is))

-- sealings of different entries differ
entries-differ : (top low i high : ℕ) (s u : Seal) → high ≤ 2 ^ 32 → i ≤ high → Stamp top low i s → Stamp top i high u → Pair s u → ⊥
entries-differ top low i high s u h k v w p =
    omega (arith, v.below, w.least, nonce-entry _ _ _ _ _ _ (omega (arith, v.below)) (omega (arith, w.below)) (sym v.is ∙ (p.1 ∙ w.is)))

module _ (b : Meaning) (lawful : Lawful b) where
  -- the sealings of one entry are within their limits
  stamped : (ls : List Layer) (i : ℕ) → Each (Stamp (piled ls b).floor i (i + 1)) (seals ls b i)
  unfolding raised
  stamped [] i = tt
  stamped (l ∷ ls) i = (
    record { name = (piled ls b).name; floor = above (piled ls b); entry = i; under = omega arith; least = omega arith; below = omega arith; is = refl },
    each_map _ _ (seals ls b i) (λ u h. wider _ _ _ _ _ _ u (omega (arith, (piled_lawful ls b lawful).low)) (omega arith) (omega arith) h) (stamped ls i),
  )

  -- and differ, floor by floor
  seals_differ : (ls : List Layer) (i : ℕ) → 0 < (piled ls b).bound → Differ (seals ls b i)
  unfolding raised
  seals_differ [] i h = tt
  seals_differ (l ∷ ls) i h =
      let w = (piled_lawful ls b lawful).bounded in (
        each_map _ _ (seals ls b i) (λ u k. floors_differ l (piled ls b) i _ _ _ u (omega (arith, w)) (omega arith) k) (stamped ls i),
        seals_differ ls i (omega arith),
      )

  -- the sealings of all accepted entries are within theirs
  all_stamped : (ls : List Layer) (low : ℕ) (ks : List Kept) → Rising (piled ls b).bound low ks → Each (Stamp (piled ls b).floor low 4095) (all_seals ls b ks)
  all_stamped ls low [] r = tt
  all_stamped ls low (k ∷ ks) r =
      each-++ _ (seals ls b k.number) (all_seals ls b ks)
      (each_map _ _ _ (λ u h. wider _ _ _ _ _ _ u (omega arith) r.1 (omega (arith, r.2)) h) (stamped ls k.number))
      (each_map _ _ _ (λ u h. wider _ _ _ _ _ _ u (omega arith) (omega (arith, r.1)) (omega arith) h) (all_stamped ls (k.number + 1) ks r.3))

  -- and differ
  pub all_differ : (ls : List Layer) (low : ℕ) (ks : List Kept) → Rising (piled ls b).bound low ks → Differ (all_seals ls b ks)
  all_differ ls low [] r = tt
  all_differ ls low (k ∷ ks) r =
      let rest = all_stamped ls (k.number + 1) ks r.3 in
      differ-++ (seals ls b k.number) (all_seals ls b ks) (seals_differ ls k.number r.0) (all_differ ls (k.number + 1) ks r.3)
      (each_map _ _ (seals ls b k.number) (λ s v. each_map _ _ (all_seals ls b ks) (λ u w. entries-differ _ _ (k.number + 1) 4095 s u (lit≤ tt) (omega (arith, r.2)) v w) rest) (stamped ls k.number))
