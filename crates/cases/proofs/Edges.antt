-- The worked cases, from the definitions.
use Rattle.std.proofs.Common.{◌≡◌, ℕ, ◌+◌, ◌-◌, ◌*◌, ◌^◌, ◌<◌, ◌≤◌, List, [], ◌∷◌, length, Ok, Err, refl, ap, ◌∙◌, ap₂, arith}
use Rattle.std.proofs.lemmas.Bool.{and_from, cond-true, le-leb}
use Rattle.refusal.specs.declared.refusal.Refusal.TheVariants.{EntryTooLong}
use Rattle.engine.specs.Permutation.{rounds}
use Rattle.roll.specs.Roll.{Meaning, count, append_answer}
use Rattle.refusal.specs.Refusals.{fault}
use Rattle.roll.specs.Floor.{Layer, raised, piled}
use Rattle.roll.specs.Laws.{raised-count, charge-raised}
use Rattle.roll.proofs.Rolls.{taken, too_long}
use Rattle.tape.specs.Tape.{InOrder, tape}
use Rattle.tape.specs.Judged.{blank_after, blank_roll}
use Rattle.tape.proofs.Blanks.{blank_means}
use Rattle.tape.proofs.Tapes.{tape_is, tape-floor, charge_under}
use Rattle.cases.specs.Cases.{Runs, Blanks, Floors, Table}

-- a state of zeros, by computing
runs : Runs
unfolding rounds
runs = record { one = (refl, refl, refl); word = (refl, refl, refl); falls = (refl, refl, refl); still = (refl, refl, refl) }

-- a blanked memory of n bytes means an empty roll
blanked : (name n : ℕ) (memory : List ℕ) → name < 2 ^ 32 → 16 ≤ n → n ≤ 65536 → length memory ≡ n → tape (blank_after name memory) ≡ blank_roll name n
blanked name n memory small long short e =
    let low : 16 ≤ length memory = omega arith in
    let high : length memory ≤ 65536 = omega arith in
    ap tape (cond-true _ _ _ (and_from _ _ (le-leb _ _ low) (le-leb _ _ high))) ∙ blank_means name memory small low high ∙ ap (blank_roll name) e

-- what an append of no bytes to one is answered, by computing
blanks : Blanks
unfolding raised
blanks = record {
  takes = λ name memory small e. ap (λ m. append_answer m []) (blanked name 20 memory small (omega arith) (omega arith) e);
  refuses = λ name memory small e. ap (λ m. append_answer m []) (blanked name 16 memory small (omega arith) (omega arith) e);
  floor_takes = λ l name memory small e. ap (λ m. append_answer (raised l m) []) (blanked name 28 memory small (omega arith) (omega arith) e);
  floor_refuses = λ l name memory small e. ap (λ m. append_answer (raised l m) []) (blanked name 27 memory small (omega arith) (omega arith) e);
}

-- the bound under floors
bounds : (ls : List Layer) (m : Meaning) → (piled ls m).bound ≡ m.bound - 8 * length ls
unfolding raised
bounds [] m = omega arith
bounds (l ∷ ls) m = omega (arith, bounds ls m)

-- the bound of a tape in order
tape-bound : (memory : List ℕ) → InOrder memory → (tape memory).bound ≡ 4097
tape-bound memory o = ap (λ m. m.bound) (tape_is memory o)

-- one floor on a tape in order
module _ (l : Layer) (memory t : List ℕ) (o : InOrder memory) where
  too_long_above : length t ≡ 4089 → append_answer (piled (l ∷ []) (tape memory)) t ≡ Err (fault EntryTooLong 1 (count (tape memory)))
  unfolding raised
  too_long_above e =
      too_long (raised l (tape memory)) t (omega (arith, tape-bound memory o))
      ∙ ap₂ (λ f n. Err (fault EntryTooLong f n)) (omega (arith, tape-floor memory)) (raised-count l (tape memory))

  taken_above : length t ≡ 4088 → count (tape memory) < 4095 → 4100 ≤ (tape memory).space → append_answer (piled (l ∷ []) (tape memory)) t ≡ Ok (count (tape memory))
  unfolding raised
  taken_above e free cheap =
      taken (raised l (tape memory)) t (record {
        fits = omega (arith, tape-bound memory o);
        room = omega (arith, raised-count l (tape memory));
        paid = omega (arith, charge-raised l (tape memory) (length t) (omega (arith, tape-bound memory o)), charge_under memory (length t + 8) (omega (arith, tape-bound memory o)));
      })
      ∙ ap Ok (raised-count l (tape memory))

floors : Floors
floors = record {
  refuses = too_long_above;
  takes = taken_above;
  one = λ ls memory o e. bounds ls (tape memory) ∙ omega (arith, e, tape-bound memory o);
  none = λ ls memory o e. bounds ls (tape memory) ∙ omega (arith, e, tape-bound memory o);
}

-- the table
pub holds : Table
unfolding raised
holds = record { runs = runs; nonce = refl; blanks = blanks; floors = floors; page = λ l name bytes lengths. refl; pages = λ l name bytes lengths. refl }
