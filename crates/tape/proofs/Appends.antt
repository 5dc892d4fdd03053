-- What an append to a tape answers and leaves, by what the program has.
use Rattle.std.proofs.Common.{◌≡◌, ℕ, ◌+◌, ◌-◌, ◌*◌, ◌<◌, ◌≤◌, List, length, Some, Ok, Err, Option, Vec, sym, ap, ◌∙◌, ap₂, arith}
use Rattle.std.specs.declared.alloc.Global.{Global}
use Rattle.std.specs.Vec.{with_items}
use Rattle.std.proofs.lemmas.List.{with_items_is}
use Rattle.refusal.specs.declared.fault.Fault.{Fault}
use Rattle.refusal.specs.declared.refusal.Refusal.{Refusal}
use Rattle.refusal.specs.declared.refusal.Refusal.TheVariants.{EntryTooLong, RollFull, NoSpace}
use Rattle.refusal.specs.Refusals.{fault}
use Rattle.roll.specs.Roll.{count, append_answer, append_after}
use Rattle.roll.proofs.Rolls.{taken, after_is, too_long, too_many, too_dear}
use Rattle.tape.specs.Tape.{count_of, last_end, tape, entry_put, tape_put}
use Rattle.tape.specs.Judged.{judged}
use Rattle.tape.specs.declared.extent.Extent.{Extent}
use Rattle.tape.proofs.Tapes.{Open, opened, tape-floor, charge_under, extent, put_means, put_judged, tape_takes}

-- a refused append, of which n is the count that the program has, and f the fault that it answers
module _ (memory t : List ℕ) (n : ℕ) (f : Fault) (counted : n ≡ count (tape memory)) where
  -- that is the answer, and nothing changes
  abbrev Refused : Type 0
  Refused = (Err f ≡ append_answer (tape memory) t) × (tape memory ≡ append_after (tape memory) t)

  -- so it is for each refusal that the answer has to be
  refused_by : (r : Refusal) → f ≡ fault r 0 n → append_answer (tape memory) t ≡ Err (fault r (tape memory).floor (count (tape memory))) → Refused
  refused_by r p a =
      (ap Err (p ∙ ap₂ (λ x y. fault r x y) (sym (tape-floor memory)) counted) ∙ sym a, sym (after_is (tape memory) t _ a))

  -- for a text that is too long
  pub long_refused : (tape memory).bound ≤ length t → f ≡ fault EntryTooLong 0 n → Refused
  long_refused l p = refused_by EntryTooLong p (too_long (tape memory) t l)

  -- for a tape that is full
  pub full_refused : (x : Extent) → Open memory x → length t < 4097 → 4095 ≤ x.count → f ≡ fault RollFull 0 n → Refused
  full_refused x o short full p =
      refused_by RollFull p (too_many (tape memory) t (omega (arith, ap (λ m. m.bound) o.means)) (omega (arith, o.count_is)))

  -- and for a text that has no space
  pub dear_refused : (x : Extent) → Open memory x → length t < 4097 → x.count < 4095 → (tape memory).space < length t + 4 → f ≡ fault NoSpace 0 n → Refused
  dear_refused x o short free dear p =
      let fits : length t < (tape memory).bound = omega (arith, ap (λ m. m.bound) o.means) in
      refused_by NoSpace p (too_dear (tape memory) t fits (omega (arith, o.count_is)) (omega (arith, charge_under memory (length t) fits)))

-- an accepted append: what it answers, and the memory `next` and the extent r that it leaves
pub record Appended (memory t next : List ℕ) (r : Extent) : Type 0 where
  pub answer : append_answer (tape memory) t ≡ Ok (count (tape memory))
  pub means : tape next ≡ append_after (tape memory) t
  pub put : next ≡ tape_put (tape memory) memory t
  pub known : Some r ≡ judged next

-- past the tests it is accepted: `found` is what was found of the tape on v, which is seen as w, and `new` is the bytes that were lent, with the entry
pub appended : (v w : Vec ℕ Global) (found : Option Extent) (x r : Extent) (lent new t : List ℕ) → v ≡ w → found ≡ judged v.items → found ≡ Some x
    → length t < 4097 → x.count < 4095 → length t + 4 ≤ (tape w.items).space → lent ≡ v.items → length new ≡ length lent
    → new ≡ entry_put x.count x.end lent t → r ≡ extent (x.count + 1) (x.end + length t) → Appended w.items t (with_items v new).items r
unfolding tape_put
appended v w found x r lent new t seen known is short free cheap same long wrote grew =
    let memory : List ℕ = w.items in
    let next : List ℕ = (with_items v new).items in
    let o : Open memory x = opened memory found (known ∙ ap (λ y. judged y.items) seen) x is in
    let n : x.count ≡ count_of memory = ap (λ y. y.count) o.extent_is in
    let z : x.end ≡ last_end memory = ap (λ y. y.end) o.extent_is in
    let room : count_of memory < 4095 = omega arith in
    let paid : length t + 4 ≤ length memory - 4 * count_of memory - last_end memory = omega (arith, ap (λ m. m.space) o.means) in
    let written : next ≡ entry_put x.count x.end lent t = with_items_is v new (omega (arith, ap length same, v.ok.0)) ∙ wrote in
    let put : next ≡ tape_put (tape memory) memory t = written ∙ ap₂ (λ m y. entry_put y.count y.end m t) (same ∙ ap (λ y. y.items) seen) o.extent_is in
    let a = taken (tape memory) t (tape_takes memory t o.ordered short room paid) in
    record {
      answer = a;
      means = ap tape put ∙ put_means memory t o.ordered short room paid (tape memory) ∙ sym (after_is (tape memory) t _ a);
      put = put;
      known = ap Some (grew ∙ ap (λ y. extent (y.count + 1) (y.end + length t)) o.extent_is) ∙ sym (ap judged put ∙ put_judged memory t o.ordered short room paid (tape memory));
    }
