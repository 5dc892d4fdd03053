-- A run that takes thirty-two rounds at a time, on four words.
use Rattle.std.proofs.Common.{◌≡◌, ℕ, ◌+◌, ◌*◌, ◌/◌, ◌%◌, ◌^◌, ◌<◌, ◌≤◌, List, [], ◌∷◌, length, get_or, sym, refl, ap, ◌∙◌, div-add-mod', div-one, add-one, arith}
use native.Mathlib.Nat.{mod-add-mod}
use lib.ListN.{length-map}
use Rattle.std.proofs.lemmas.List.{get_or-map}
use Rattle.engine.specs.Permutation.{bit, taps, key_bit, rounds}
use Rattle.engine.specs.Bytes.{joined, AllWords}
use Rattle.engine.specs.Keys.{key_of}
use Rattle.engine.specs.Turns.{Brings, flip, flipped}
use Rattle.engine.proofs.Rounds.{at_once}
use Rattle.engine.proofs.Keys.{key_at}

-- After q words of the key, which are the first u of ws, the next is at the place `at`, and the state is in the words a to d.
pub record Stands (ws : List ℕ) (u s q at a b c d : ℕ) : Type 0 where
  pub many : u ≤ length ws
  pub place : at ≡ q % u
  pub below : at < u
  pub small : AllWords (a ∷ b ∷ c ∷ d ∷ [])
  pub state : rounds (key_of ws u) (q * 32) s ≡ joined (a ∷ b ∷ c ∷ d ∷ [])

-- thirty-two rounds more
pub turn : {ws : List ℕ} {u s q at a b c d next r : ℕ} → Stands ws u s q at a b c d
    → Brings (joined (a ∷ b ∷ c ∷ d ∷ [])) (get_or ws at 0) r → r < 2 ^ 32 → next ≡ (at + 1) % u → next < u
    → Stands ws u s (q + 1) next b c d r
turn {ws} {u} {s} {q} {at} {a} {b} {c} {d} {r = r} h brings small place below = record {
  many = h.many;
  place = place ∙ ap (λ x. (x + 1) % u) h.place ∙ mod-add-mod q u 1;
  below = below;
  small = (h.small.1.0, (h.small.1.1.0, (h.small.1.1.1.0, (small, tt))));
  state =
      let t = joined (a ∷ b ∷ c ∷ d ∷ []) in
      let e : (q + 1) * 32 ≡ q * 32 + 32 = omega arith in
      let k : (j : ℕ) → j < 32 → bit (get_or ws at 0) j ≡ key_bit (key_of ws u) ((q * 32 + j) % (8 * length (key_of ws u)))
      = λ j l. ap (λ x. bit (get_or ws x 0) j) h.place ∙ sym (key_at ws u q j h.many (omega arith) l) in
      rw e (at_once (key_of ws u) (q * 32) s t r h.state 32 96 refl (omega arith) (λ j l. brings j l ∙ ap (λ z. (taps (t / 2 ^ j) + z) % 2) (k j l))
      ∙ omega arith);
}

-- one round, with the bit of the key's word that the index names
pub bit_turn : (ws : List ℕ) (u i s t r : ℕ) → u ≤ length ws → 0 < u → t ≡ rounds (key_of ws u) i s
    → r ≡ t / 2 + (taps t + bit (get_or ws (i / 32 % u) 0 / 2 ^ (i % 32)) 0) % 2 * 2 ^ 127 → r ≡ rounds (key_of ws u) (i + 1) s
unfolding rounds
bit_turn ws u i s t r h o e f =
    let k = rw div-add-mod' at (key_at ws u (i / 32) (i % 32) h o (omega arith)) in
    rw (add-one, ← e) (f ∙ ap (λ z. t / 2 + (taps t + z) % 2 * 2 ^ 127) (ap (λ x. x % 2) (div-one (get_or ws (i / 32 % u) 0 / 2 ^ (i % 32))) ∙ sym k))

-- the same where the words are held by their complements
pub turn_flipped : (ws : List ℕ) {u s q at a b c d next r : ℕ} → Stands (flipped ws) u s q at a b c d
    → Brings (joined (a ∷ b ∷ c ∷ d ∷ [])) (flip (get_or ws at 0)) r → r < 2 ^ 32 → next ≡ (at + 1) % u → next < u
    → Stands (flipped ws) u s (q + 1) next b c d r
turn_flipped ws {at = at} {a} {b} {c} {d} {r = r} h brings =
    let n : at < length ws = omega (arith, length-map ws flip, h.many, h.below) in
    let e = get_or-map flip ws at 0 0 n in
    turn h (rw e brings)
