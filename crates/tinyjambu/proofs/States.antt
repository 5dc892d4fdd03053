-- The state as four words and as one number.
use Rattle.std.proofs.Common.{◌≡◌, ℕ, ◌*◌, ◌^◌, ◌<◌, List, [], ◌∷◌, refl, ap, ap₂, ◌∙◌}
use lib.Bits.{bit_xor}
use Rattle.engine.specs.Permutation.{rounds}
use Rattle.engine.specs.Bytes.{joined, words, word_bytes}
use Rattle.tinyjambu.specs.Mode.{long, nonce_word, begun}
use Rattle.tinyjambu.specs.Duplex.{frame_bits, phase_rounds, phase_run}
use Rattle.tinyjambu.specs.declared.phase.Phase.{Phase}
use Rattle.engine.proofs.Joined.{joined_words, number-bytes}
use Rattle.engine.proofs.Rounds.{rounds_below}

-- what an engine gives back of a state, as a number
pub joined_run : (key ws rs : List ℕ) (n s : ℕ) → rs ≡ words 4 (rounds key n (joined ws)) → joined ws ≡ s → s < 2 ^ 128 → joined rs ≡ rounds key n s
joined_run key ws rs n s r e small =
    ap joined (r ∙ ap (λ x. words 4 (rounds key n x)) e) ∙ joined_words 4 (rounds key n s) (rounds_below key n s small)

-- the run of a phase, whose frame bits were put in before it
pub phase_ran : (key : List ℕ) (phase : Phase) (ws rs : List ℕ) (s bits : ℕ) {n : ℕ} → n ≡ phase_rounds phase key → bits ≡ frame_bits phase
    → rs ≡ words 4 (rounds key n (joined ws)) → joined ws ≡ bit_xor s (bits * 2 ^ 36) → joined ws < 2 ^ 128 → joined rs ≡ phase_run phase key s
phase_ran key phase ws rs s bits {n} e b r f small =
    joined_run key ws rs n (joined ws) r refl small ∙ ap₂ (rounds key) e (f ∙ ap (λ x. bit_xor s (x * 2 ^ 36)) b)

-- a nonce of three words
pub begun-words : (key : List ℕ) (a b c : ℕ) → a < 2 ^ 32 → b < 2 ^ 32 → c < 2 ^ 32
    → nonce_word key c (nonce_word key b (nonce_word key a (long key 0))) ≡ begun key (word_bytes (a ∷ b ∷ c ∷ []))
begun-words key a b c h l m = rw (number-bytes 4 a h, number-bytes 4 b l, number-bytes 4 c m)
