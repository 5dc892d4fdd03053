-- A blanked memory is an empty tape.
use Rattle.std.proofs.Common.{◌≡◌, ℕ, ◌^◌, ◌<◌, ◌≤◌, List, [], ◌++◌, length, refl, ap, ◌∙◌, ap₂, arith}
use Rattle.engine.specs.Bytes.{bytes}
use Rattle.roll.specs.Memory.{written}
use Rattle.roll.proofs.Memories.{written_length, written_both}
use Rattle.tape.specs.Tape.{InOrder, roll_of, tape}
use Rattle.tape.specs.Judged.{blank_header, blank_roll}
use Rattle.tape.proofs.Tapes.{tape_is}

module _ (name : ℕ) (memory : List ℕ) (small : name < 2 ^ 32) (long : 16 ≤ length memory) (short : length memory ≤ 65536) where
  -- the memory with the header
  abbrev blanked : List ℕ
  blanked = written 0 (blank_header name (length memory)) memory

  -- four writes, one behind the other, make it
  pub header_written : written 12 (bytes 4 (length memory)) (written 8 (bytes 4 16) (written 4 (bytes 4 0) (written 0 (bytes 4 name) memory))) ≡ blanked
  header_written =
      ap (λ m. written 12 (bytes 4 (length memory)) (written 8 (bytes 4 16) m)) (written_both 0 (bytes 4 name) (bytes 4 0) memory (omega arith))
      ∙ ap (written 12 (bytes 4 (length memory))) (written_both 0 (bytes 4 name ++ bytes 4 0) (bytes 4 16) memory (omega arith))
      ∙ written_both 0 ((bytes 4 name ++ bytes 4 0) ++ bytes 4 16) (bytes 4 (length memory)) memory (omega arith)

  blanked_length : length blanked ≡ length memory
  blanked_length = written_length 0 (blank_header name (length memory)) memory (omega arith)

  -- it is in order
  pub blank_ordered : InOrder blanked
  blank_ordered = record {
    long = omega (arith, blanked_length);
    short = omega (arith, blanked_length);
    sized = omega (arith, blanked_length);
    first = refl;
    few = omega arith;
    room = omega (arith, blanked_length);
    rising = λ i h. absurd (omega arith);
    small = λ i h. absurd (omega arith);
    apart = omega (arith, blanked_length);
  }

  -- and has no entries
  pub blank_means : tape blanked ≡ blank_roll name (length memory)
  blank_means = tape_is blanked blank_ordered ∙ ap₂ (λ n s. roll_of n s []) (omega arith) (omega (arith, blanked_length))
