-- A piece that is taken from its front: what is left of it, fed from here on, ends where the whole piece ends.
use Rattle.std.proofs.Common.{◌≡◌, ℕ, ◌+◌, ◌*◌, ◌%◌, ◌^◌, ◌<◌, ◌≤◌, List, length, take, drop, sym, ap, ◌∙◌, arith, length-drop, take-append-drop}
use lib.Bits.{bit_xor}
use Rattle.std.proofs.ByRecursion.{All-take, All-drop}
use Rattle.std.proofs.lemmas.List.{length-take-le}
use Rattle.engine.specs.Bytes.{number, AllBytes}
use Rattle.tinyjambu.specs.Duplex.{fed}
use Rattle.tinyjambu.proofs.Feeding.{fed_append, fed_block}

pub record Left (run : ℕ → ℕ) (k s : ℕ) (piece : List ℕ) (state filled : ℕ) (left : List ℕ) : Type 0 where
  pub small : AllBytes left
  pub is : fed run filled state left ≡ fed run k s piece
  pub place : (filled + length left) % 4 ≡ (k + length piece) % 4

-- a full block less
pub left_word : {run : ℕ → ℕ} {k s : ℕ} {piece : List ℕ} {state filled : ℕ} (left : List ℕ) → Left run k s piece state filled left → 4 ≤ length left → filled ≡ 0
    → (next place : ℕ) → next ≡ bit_xor (run state) (number (take 4 left) * 2 ^ 96) → place ≡ 0 → Left run k s piece next place (drop 4 left)
left_word {run} {k} {piece = piece} {state} {filled} left h l z next place e f =
    let part : List ℕ = take 4 left in
    let n : length part ≡ 4 = length-take-le 4 left l in
    let block : fed run 0 state part ≡ next = fed_block run part state (omega arith) (omega arith) (All-take (λ b. b < 256) 4 left h.small) ∙ sym e in
    let both : fed run 0 state left ≡ fed run ((0 + length part) % 4) (fed run 0 state part) (drop 4 left)
    = ap (fed run 0 state) (sym (take-append-drop 4 left)) ∙ fed_append run part (drop 4 left) 0 state (omega arith) in
    let sum : (filled + length left) % 4 ≡ (k + length piece) % 4 = h.place in
    let zero : (0 + length part) % 4 ≡ place = omega arith in
    record {
      small = All-drop (λ b. b < 256) 4 left h.small;
      is = sym (rw (block, zero) at both) ∙ ap (λ j. fed run j state left) (sym z) ∙ h.is;
      place = omega (arith, length-drop 4 left);
    }
