-- What each call answers, and what it leaves in the out buffer, for all cases.
use Rattle.std.specs.Prelude.{ℕ, ◌+◌, ◌-◌, List, ◌++◌, length, drop, replicate, Some, None, Ok, Err, Option, Result, ◌==◌, nat_lt, if◌then◌else◌}
use Rattle.refusal.specs.declared.fault.Fault.{Fault}
use Rattle.refusal.specs.declared.refusal.Refusal.{Refusal}
use Rattle.refusal.specs.declared.refusal.Refusal.TheVariants.{NonceLength, DataTooLong, TextTooLong, SealedTooShort, OutTooShort, Broken}
use Rattle.tinyjambu.specs.Mode.{seal, same, opened}
use Rattle.refusal.specs.Refusals.{outside}

-- the most bytes of associated data, and of text
abbrev pub longest : ℕ
longest = 65536

-- a refusal where bytes that were taken and more of them pass the limit, and one where a buffer has too little room
abbrev pub limit_answer : ℕ → ℕ → Refusal → Result Unit Refusal
limit_answer taken more refusal = if nat_lt longest (taken + more) then Err refusal else Ok tt

abbrev pub room_answer : ℕ → ℕ → Result Unit Refusal
room_answer room bytes = if nat_lt room bytes then Err OutTooShort else Ok tt

-- a refusal where the tag that was made is not the one that was given
abbrev pub tag_answer : List ℕ → List ℕ → Result Unit Refusal
tag_answer made given = if same made given then Ok tt else Err Broken

-- bytes at the start of a buffer, and the rest of it as it was
abbrev pub written : List ℕ → List ℕ → List ℕ
written bytes out = bytes ++ drop (length bytes) out

-- a data piece: so many bytes were taken before, and so many come
abbrev pub data_answer : ℕ → ℕ → Result Unit Fault
data_answer taken more = if nat_lt longest (taken + more) then Err (outside DataTooLong) else Ok tt

-- a text piece, with so much room to write it to
abbrev pub text_answer : ℕ → ℕ → ℕ → Result ℕ Fault
text_answer taken more room =
    if nat_lt longest (taken + more) then Err (outside TextTooLong)
    else if nat_lt room more then Err (outside OutTooShort)
    else Ok more

-- what refuses the sealing of so many bytes of data and text into so much room
abbrev pub message_check : ℕ → ℕ → ℕ → Option Refusal
message_check ad t room =
    if nat_lt longest ad then Some DataTooLong
    else if nat_lt longest t then Some TextTooLong
    else if nat_lt room (t + 8) then Some OutTooShort
    else None

-- the same with a nonce of so many bytes
abbrev pub seal_check : ℕ → ℕ → ℕ → ℕ → Option Refusal
seal_check n ad t room = if n == 12 then message_check ad t room else Some NonceLength

-- a sealing that no check refuses answers the length of the sealed form, and writes it at the start of the buffer; a refused one writes nothing
abbrev pub sealed_answer : Option Refusal → ℕ → Result ℕ Fault
sealed_answer (Some r) t = Err (outside r)
sealed_answer None t = Ok (t + 8)

abbrev pub sealed_out : Option Refusal → List ℕ → List ℕ → List ℕ
sealed_out (Some r) sealed out = out
sealed_out None sealed out = written sealed out

-- sealing a message in pieces, of which ad and t are the joined data and text
abbrev pub message_answer : List ℕ → List ℕ → List ℕ → Result ℕ Fault
message_answer ad t out = sealed_answer (message_check (length ad) (length t) (length out)) (length t)

abbrev pub message_out : List ℕ → List ℕ → List ℕ → List ℕ → List ℕ → List ℕ
message_out key n ad t out = sealed_out (message_check (length ad) (length t) (length out)) (seal key n ad t) out

-- whole sealing
abbrev pub seal_answer : List ℕ → List ℕ → List ℕ → List ℕ → Result ℕ Fault
seal_answer n ad t out = sealed_answer (seal_check (length n) (length ad) (length t) (length out)) (length t)

abbrev pub seal_out : List ℕ → List ℕ → List ℕ → List ℕ → List ℕ → List ℕ
seal_out key n ad t out = sealed_out (seal_check (length n) (length ad) (length t) (length out)) (seal key n ad t) out

-- what refuses the opening of so many sealed bytes before the cipher is run
abbrev pub length_check : ℕ → ℕ → ℕ → Option Refusal
length_check ad c room =
    if nat_lt longest ad then Some DataTooLong
    else if nat_lt longest (c - 8) then Some TextTooLong
    else if nat_lt c 8 then Some SealedTooShort
    else if nat_lt room (c - 8) then Some OutTooShort
    else None

-- the same with a nonce of so many bytes
abbrev pub open_check : ℕ → ℕ → ℕ → ℕ → Option Refusal
open_check n ad c room = if n == 12 then length_check ad c room else Some NonceLength

-- an opening that no check refuses answers the length of the text, and writes it at the start of the buffer; a refused one leaves only zeros
abbrev pub opened_text_answer : Option (List ℕ) → Result ℕ Fault
opened_text_answer None = Err (outside Broken)
opened_text_answer (Some t) = Ok (length t)

abbrev pub opened_text_out : Option (List ℕ) → List ℕ → List ℕ
opened_text_out None out = replicate (length out) 0
opened_text_out (Some t) out = written t out

abbrev pub opened_answer : Option Refusal → Option (List ℕ) → Result ℕ Fault
opened_answer (Some r) text = Err (outside r)
opened_answer None text = opened_text_answer text

abbrev pub opened_out : Option Refusal → Option (List ℕ) → List ℕ → List ℕ
opened_out (Some r) text out = replicate (length out) 0
opened_out None text out = opened_text_out text out

-- whole opening
abbrev pub open_refusal : List ℕ → List ℕ → List ℕ → List ℕ → Option Refusal
open_refusal n ad c out = open_check (length n) (length ad) (length c) (length out)

abbrev pub open_answer : List ℕ → List ℕ → List ℕ → List ℕ → List ℕ → Result ℕ Fault
open_answer key n ad c out = opened_answer (open_refusal n ad c out) (opened key n ad c)

abbrev pub open_out : List ℕ → List ℕ → List ℕ → List ℕ → List ℕ → List ℕ
open_out key n ad c out = opened_out (open_refusal n ad c out) (opened key n ad c) out
