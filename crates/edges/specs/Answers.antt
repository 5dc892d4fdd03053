-- What an answer says of a call.
use Rattle.std.specs.Prelude.{Ok, Err, Some, None, Option, Result}
use Rattle.refusal.specs.declared.fault.Fault.{Fault}
use Rattle.refusal.specs.declared.refusal.Refusal.{Refusal}

-- the refusal that an answer is, if the call was not taken
abbrev pub answer_refusal : {X : Type 0} → Result X Fault → Option Refusal
answer_refusal (Ok x) = None
answer_refusal (Err f) = Some f.refusal
