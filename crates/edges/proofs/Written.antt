-- A sealed form that is written in three parts: two pieces of the text, and the tag.
use Rattle.std.proofs.Common.{◌≡◌, ℕ, ◌+◌, ◌-◌, ◌<◌, List, [], ◌++◌, length, take, drop, Ok, sym, ap, ◌∙◌, arith, length-append}
use Rattle.std.proofs.lemmas.Bool.Decides.{nat_tests}
use borrow.Rule.Slice.PartMut.{put_mid}
use Rattle.std.proofs.lemmas.Grind.{common_steps}
use Rattle.std.proofs.ByRecursion.{All-drop}
use Rattle.tinyjambu.specs.Answers.{written, text_answer}
use Rattle.engine.specs.Bytes.{AllBytes}
use Rattle.tinyjambu.specs.History.{sealed_piece, sealed_tag}
use Rattle.tinyjambu.specs.Mode.{seal}
use Rattle.tinyjambu.proofs.Buffers.{written-tag}
use Rattle.tinyjambu.proofs.Messages.{sealed_join}
use Rattle.tinyjambu.proofs.Sealing.{seal-length, length-sealed_tag}

-- a second piece is written after the first
second_part : (p₁ p₂ out₀ out₁ tail : List ℕ) (a b m : ℕ) → length p₁ ≡ a → length p₂ ≡ b → out₁ ≡ written p₁ out₀ → m ≡ length out₁ - a
    → tail ≡ written p₂ (take m (drop a out₁)) → put_mid a m out₁ tail ≡ (p₁ ++ p₂) ++ drop (a + b - 0) out₀
second_part p₁ p₂ out₀ out₁ tail a b m l₁ l₂ o₁ k o₂ = grind (arith, common_steps)

-- the three parts make the sealed form of the joined text
three_parts : (key n ad t u p q tag : List ℕ) → AllBytes t → AllBytes (t ++ u) → p ≡ sealed_piece key n ad [] t → q ≡ sealed_piece key n ad t u
    → tag ≡ sealed_tag key n ad (t ++ u) → (p ++ q) ++ tag ≡ seal key n ad (t ++ u)
three_parts key n ad t u p q tag small all e f h = grind (arith, common_steps, sealed_join key n ad t u, All-drop (λ b. b < 256) (length t) (t ++ u))

-- a piece is sealed to as many bytes
length_piece : (key n ad t u : List ℕ) → length (sealed_piece key n ad t u) ≡ length u
length_piece key n ad t u = grind (arith, common_steps, seal-length)

-- what the three writes leave in the out buffer
pub all_written : (key n ad t u p q tag out₀ out₁ tail : List ℕ) (a b m : ℕ) → AllBytes t → AllBytes (t ++ u) → a ≡ length t → b ≡ length u
    → p ≡ sealed_piece key n ad [] t → q ≡ sealed_piece key n ad t u → tag ≡ sealed_tag key n ad (t ++ u)
    → out₁ ≡ written p out₀ → m ≡ length out₁ - a → tail ≡ written q (take m (drop a out₁))
    → put_mid (a + b) (a + b + 8 - (a + b)) (put_mid a m out₁ tail) tag ≡ written (seal key n ad (t ++ u)) out₀
all_written key n ad t u p q tag out₀ out₁ tail a b m small all ea eb ep eq et o₁ k o₂ =
    let l : length p ≡ a = ap length ep ∙ length_piece key n ad [] t ∙ sym ea in
    let r : length q ≡ b = ap length eq ∙ length_piece key n ad t u ∙ sym eb in
    let pq : length (p ++ q) ≡ a + b = omega (arith, length-append p q) in
    let tagged = written-tag (p ++ q) tag out₀ (a + b) pq (ap length et ∙ length-sealed_tag key n ad (t ++ u)) in
    rw (second_part p q out₀ out₁ tail a b m l r o₁ k o₂, tagged, three_parts key n ad t u p q tag small all ep eq et)

-- a text piece that is taken answers its length
pub text_took : (taken more room m : ℕ) → text_answer taken more room ≡ Ok m → m ≡ more
text_took taken more room m e = grind (arith, nat_tests)
