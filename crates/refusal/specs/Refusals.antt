-- The thirteen refusals by their numbers.
use Rattle.std.specs.Prelude.{ℕ, List, ◌++◌, codes, decimal}
use Rattle.refusal.specs.declared.fault.Fault.{Fault}
use Rattle.refusal.specs.declared.refusal.Refusal.{Refusal}
use Rattle.refusal.specs.declared.refusal.Refusal.TheVariants.{KeyLength, NonceLength, DataTooLong, TextTooLong, SealedTooShort, TapeLength, TapeDisorder, NoEntry, EntryTooLong, RollFull, NoSpace, OutTooShort, Broken}

abbrev pub refusal_number : Refusal → ℕ
refusal_number KeyLength = 1
refusal_number NonceLength = 2
refusal_number DataTooLong = 3
refusal_number TextTooLong = 4
refusal_number SealedTooShort = 5
refusal_number TapeLength = 6
refusal_number TapeDisorder = 7
refusal_number NoEntry = 8
refusal_number EntryTooLong = 9
refusal_number RollFull = 10
refusal_number NoSpace = 11
refusal_number OutTooShort = 12
refusal_number Broken = 13

-- each in words
abbrev pub refusal_words : Refusal → List ℕ
refusal_words KeyLength = codes "the key is not 16, 24 or 32 bytes"
refusal_words NonceLength = codes "the nonce is not 12 bytes"
refusal_words DataTooLong = codes "the associated data passes 65536 bytes"
refusal_words TextTooLong = codes "the text passes 65536 bytes"
refusal_words SealedTooShort = codes "the sealed bytes are fewer than 8"
refusal_words TapeLength = codes "the tape is shorter than 16 or longer than 65536 bytes"
refusal_words TapeDisorder = codes "the tape is not in order"
refusal_words NoEntry = codes "no entry has the number"
refusal_words EntryTooLong = codes "the entry is not shorter than the bound"
refusal_words RollFull = codes "the roll has 4095 entries"
refusal_words NoSpace = codes "the charge of the entry is more than the space"
refusal_words OutTooShort = codes "the out buffer is too short"
refusal_words Broken = codes "no text seals to the bytes"

-- a refusal, the floor that it is about, and the number of the entry
abbrev pub fault : Refusal → ℕ → ℕ → Fault
fault r f e = record { refusal = r; floor = f; entry = e }

-- the fault of a call outside rolls
abbrev pub outside : Refusal → Fault
outside r = fault r 0 0

-- a fault for a person to read: number, words, floor and entry
abbrev pub fault_text : Fault → List ℕ
fault_text f =
    codes "refusal " ++ (decimal (refusal_number f.refusal) ++ (codes ": " ++ (refusal_words f.refusal
    ++ (codes " (floor " ++ (decimal f.floor ++ (codes ", entry " ++ (decimal f.entry ++ codes ")")))))))
