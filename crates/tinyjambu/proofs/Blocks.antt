-- Bytes one after another, with the last block marked, are the blocks of the definition.
use Rattle.std.proofs.Common.{◌≡◌, ℕ, suc, ◌%◌, List, [], ◌∷◌, ◌++◌, length, refl, ap, ◌∙◌, ap₂, arith}
use Rattle.engine.specs.Bytes.{AllBytes}
use Rattle.tinyjambu.specs.Mode.{stream, mark, inject, blocks, data_run, absorbed}
use Rattle.tinyjambu.specs.Duplex.{fed, sealed_bytes, closed}
use Rattle.tinyjambu.proofs.Feeding.{fed_block, sealed_block}
use Rattle.tinyjambu.proofs.Walk.{flat, walked, ended}

module _ (run : ℕ → ℕ) where
  -- what a full or last block makes of the state
  abbrev pub block_step : ℕ → List ℕ → ℕ
  block_step s b = mark b (inject b (run s))

  -- the state at the end of a phase
  pub fed_blocks : (t : List ℕ) (s : ℕ) → AllBytes t → closed (length t % 4) (fed run 0 s t) ≡ ended block_step s (blocks t)
  fed_blocks [] s h = refl
  fed_blocks (a ∷ []) s h = ap (closed 1) (fed_block run (a ∷ []) s (omega arith) (omega arith) h)
  fed_blocks (a ∷ b ∷ []) s h = ap (closed 2) (fed_block run (a ∷ b ∷ []) s (omega arith) (omega arith) h)
  fed_blocks (a ∷ b ∷ c ∷ []) s h = ap (closed 3) (fed_block run (a ∷ b ∷ c ∷ []) s (omega arith) (omega arith) h)
  fed_blocks (a ∷ b ∷ c ∷ d ∷ t) s h =
      let four : List ℕ = a ∷ b ∷ c ∷ d ∷ [] in
      let n : suc (suc (suc (suc (length t)))) % 4 ≡ length t % 4 = omega arith in
      let e = fed_block run four s (omega arith) (omega arith) (h.0, (h.1.0, (h.1.1.0, (h.1.1.1.0, tt)))) in
      ap (λ k. closed k (fed run 0 (fed run 0 s four) t)) n ∙ fed_blocks t (fed run 0 s four) h.1.1.1.1 ∙ ap (λ x. ended block_step x (blocks t)) e

  -- the sealed bytes
  pub sealed_blocks : (t : List ℕ) (s : ℕ) → AllBytes t → sealed_bytes run 0 s t ≡ flat (walked (λ x. stream (run x)) block_step s (blocks t))
  sealed_blocks [] s h = refl
  sealed_blocks (a ∷ []) s h = sealed_block run (a ∷ []) s (omega arith) (omega arith)
  sealed_blocks (a ∷ b ∷ []) s h = sealed_block run (a ∷ b ∷ []) s (omega arith) (omega arith)
  sealed_blocks (a ∷ b ∷ c ∷ []) s h = sealed_block run (a ∷ b ∷ c ∷ []) s (omega arith) (omega arith)
  sealed_blocks (a ∷ b ∷ c ∷ d ∷ t) s h =
      let four : List ℕ = a ∷ b ∷ c ∷ d ∷ [] in
      let e = fed_block run four s (omega arith) (omega arith) (h.0, (h.1.0, (h.1.1.0, (h.1.1.1.0, tt)))) in
      ap₂ ◌++◌ (sealed_block run four s (omega arith) (omega arith)) (sealed_blocks t (fed run 0 s four) h.1.1.1.1 ∙ ap (λ x. flat (walked (λ x. stream (run x)) block_step x (blocks t))) e)

-- the definition of absorbing is such a walk
pub absorbed_is : (key : List ℕ) (s : ℕ) (bs : List (List ℕ)) → absorbed key s bs ≡ ended (block_step (data_run key)) s bs
absorbed_is key s [] = refl
absorbed_is key s (b ∷ bs) = absorbed_is key (block_step (data_run key) s b) bs
