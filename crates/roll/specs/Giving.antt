-- What a bottom finds of an entry, and what it gives out of that.
use Rattle.std.specs.Prelude.{◌≡◌, ℕ, if◌then◌else◌, List, ◌++◌, length, drop, replicate, Some, None, Ok, Err, Result, nat_lt}
use Rattle.std.specs.Borrow.{Bor}
use Rattle.refusal.specs.declared.fault.Fault.{Fault}
use Rattle.refusal.specs.Refusals.{fault}
use Rattle.refusal.specs.declared.refusal.Refusal.TheVariants.{NoEntry, OutTooShort}
use Rattle.roll.specs.Roll.{Meaning, text, entry}

-- what is found of the entry of a number: the bytes of its text, or that there is none, which is refusal 8 of a bottom
abbrev pub Finds : Meaning → ℕ → Result (Bor (List ℕ)) Fault → Type 0
Finds m i (Ok bytes) = entry m i ≡ Some (text bytes.now)
Finds m i (Err f) = (entry m i ≡ None) × (f ≡ fault NoEntry 0 i)

-- the answer to what was found for the entry of a number, with so much room for it: a fault as it is, a refusal where the bytes have no room, else how many they are
abbrev pub given_answer : Result (Bor (List ℕ)) Fault → ℕ → ℕ → Result ℕ Fault
given_answer (Err f) i room = Err f
given_answer (Ok bytes) i room = if nat_lt room (length bytes.now) then Err (fault OutTooShort 0 i) else Ok (length bytes.now)

-- the out buffer then: only zeros if it was refused, else the bytes and then what was there
abbrev pub given_out : Result (Bor (List ℕ)) Fault → List ℕ → List ℕ
given_out (Err f) out = replicate (length out) 0
given_out (Ok bytes) out = if nat_lt (length out) (length bytes.now) then replicate (length out) 0 else bytes.now ++ drop (length bytes.now) out
