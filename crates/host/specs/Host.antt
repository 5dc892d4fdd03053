-- What a C host is answered.
use Rattle.std.specs.Prelude.{ℕ, ◌-◌, if◌then◌else◌, List, length, ℤ, pos, negsuc, Some, Ok, Err, Option, Result}
use Rattle.refusal.specs.declared.fault.Fault.{Fault}
use Rattle.refusal.specs.declared.refusal.Refusal.{Refusal}
use Rattle.refusal.specs.declared.refusal.Refusal.TheVariants.{KeyLength}
use Rattle.tinyjambu.specs.Answers.{seal_check, sealed_answer, sealed_out, open_check, opened_answer, opened_out}
use Rattle.engine.specs.Keys.{is_key_size}
use Rattle.tinyjambu.specs.Mode.{seal, opened}
use Rattle.refusal.specs.Refusals.{refusal_number}

-- the length, or the number of the refusal negated
abbrev pub signed : Result ℕ Fault → ℤ
signed (Ok n) = pos n
signed (Err f) = negsuc (refusal_number f.refusal - 1)

-- the length of the key is checked first
abbrev pub host_check : List ℕ → Option Refusal → Option Refusal
host_check key rest = if is_key_size (length key) then rest else Some KeyLength

-- whole sealing under a key of bytes
abbrev pub host_seal_check : List ℕ → List ℕ → List ℕ → List ℕ → List ℕ → Option Refusal
host_seal_check key n ad t out = host_check key (seal_check (length n) (length ad) (length t) (length out))

abbrev pub host_seal_answer : List ℕ → List ℕ → List ℕ → List ℕ → List ℕ → Result ℕ Fault
host_seal_answer key n ad t out = sealed_answer (host_seal_check key n ad t out) (length t)

abbrev pub host_seal_out : List ℕ → List ℕ → List ℕ → List ℕ → List ℕ → List ℕ
host_seal_out key n ad t out = sealed_out (host_seal_check key n ad t out) (seal key n ad t) out

-- whole opening under a key of bytes
abbrev pub host_open_check : List ℕ → List ℕ → List ℕ → List ℕ → List ℕ → Option Refusal
host_open_check key n ad c out = host_check key (open_check (length n) (length ad) (length c) (length out))

abbrev pub host_open_answer : List ℕ → List ℕ → List ℕ → List ℕ → List ℕ → Result ℕ Fault
host_open_answer key n ad c out = opened_answer (host_open_check key n ad c out) (opened key n ad c)

abbrev pub host_open_out : List ℕ → List ℕ → List ℕ → List ℕ → List ℕ → List ℕ
host_open_out key n ad c out = opened_out (host_open_check key n ad c out) (opened key n ad c) out
