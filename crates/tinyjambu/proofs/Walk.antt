-- A walk over blocks: each is xored with a number that the state gives, and moves the state on.
use Rattle.std.proofs.Common.{◌≡◌, ℕ, suc, ◌/◌, ◌%◌, List, [], ◌∷◌, ◌++◌, length, refl, ap, ◌∙◌}
use lib.Bits.{bit_xor, xor_assoc, xor_self, xor_zero_r}
use Rattle.tinyjambu.specs.Mode.{xored, blocks}

-- xor undoes itself: a number, and a block
pub xor_undone : (a b : ℕ) → bit_xor (bit_xor a b) b ≡ a
xor_undone a b = xor_assoc a b b ∙ ap (bit_xor a) (xor_self b) ∙ xor_zero_r a

pub xored_undone : (b : List ℕ) (n : ℕ) → xored (xored b n) n ≡ b
xored_undone [] n = refl
xored_undone (x ∷ b) n = let e = xor_undone x (n % 256) in let r = xored_undone b (n / 256) in cc

-- a block keeps its length
pub length-xored : (b : List ℕ) (n : ℕ) → length (xored b n) ≡ length b
length-xored [] n = refl
length-xored (x ∷ b) n = ap suc (length-xored b (n / 256))

-- blocks put together again
abbrev pub flat : List (List ℕ) → List ℕ
flat [] = []
flat (b ∷ bs) = b ++ flat bs

pub flat_blocks : (t : List ℕ) → flat (blocks t) ≡ t
flat_blocks [] = refl
flat_blocks (a ∷ []) = refl
flat_blocks (a ∷ b ∷ []) = refl
flat_blocks (a ∷ b ∷ c ∷ []) = refl
flat_blocks (a ∷ b ∷ c ∷ d ∷ t) = ap (λ r. a ∷ b ∷ c ∷ d ∷ r) (flat_blocks t)

-- where a walk ends
abbrev pub ended : (ℕ → List ℕ → ℕ) → ℕ → List (List ℕ) → ℕ
ended step s [] = s
ended step s (b ∷ bs) = ended step (step s b) bs

module _ (f : ℕ → ℕ) (step : ℕ → List ℕ → ℕ) where
  -- the blocks that a walk gives
  abbrev pub walked : ℕ → List (List ℕ) → List (List ℕ)
  walked s [] = []
  walked s (b ∷ bs) = xored b (f s) ∷ walked (step s b) bs

  -- they are blocks again
  pub blocks_walked : (s : ℕ) (t : List ℕ) → blocks (flat (walked s (blocks t))) ≡ walked s (blocks t)
  blocks_walked s [] = refl
  blocks_walked s (a ∷ []) = refl
  blocks_walked s (a ∷ b ∷ []) = refl
  blocks_walked s (a ∷ b ∷ c ∷ []) = refl
  blocks_walked s (a ∷ b ∷ c ∷ d ∷ t) = ap (λ r. xored (a ∷ b ∷ c ∷ d ∷ []) (f s) ∷ r) (blocks_walked (step s (a ∷ b ∷ c ∷ d ∷ [])) t)

-- `back` takes each xored block where `step` takes the block
module _ (f : ℕ → ℕ) (step back : ℕ → List ℕ → ℕ) (h : (s : ℕ) (b : List ℕ) → back s (xored b (f s)) ≡ step s b) where
  pub walked_back : (s : ℕ) (bs : List (List ℕ)) → walked f back s (walked f step s bs) ≡ bs
  walked_back s [] = refl
  walked_back s (b ∷ bs) = rw (xored_undone, h, walked_back (step s b) bs)

  pub ended_back : (s : ℕ) (bs : List (List ℕ)) → ended back s (walked f step s bs) ≡ ended step s bs
  ended_back s [] = refl
  ended_back s (b ∷ bs) = rw (h, ended) (ended_back (step s b) bs)

  pub text_back : (s : ℕ) (t : List ℕ) → flat (walked f back s (blocks (flat (walked f step s (blocks t))))) ≡ t
  text_back s t = rw (blocks_walked f step, walked_back) (flat_blocks t)

  pub state_back : (s : ℕ) (t : List ℕ) → ended back s (blocks (flat (walked f step s (blocks t)))) ≡ ended step s (blocks t)
  state_back s t = rw (blocks_walked f step) (ended_back s (blocks t))
