use Rattle.std.proofs.Common.{◌≡◌, ℕ, ◌<◌, List, length, IfOk, Some, None, Option, refl, arith}
use Rattle.refusal.specs.declared.refusal.Refusal.{Refusal}
use Rattle.refusal.specs.declared.refusal.Refusal.TheVariants.{KeyLength}
use Rattle.tinyjambu.specs.Answers.{open_check, opened_answer}
use Rattle.engine.specs.Keys.{is_key_size}
use Rattle.tinyjambu.specs.Mode.{opened}
use Rattle.tinyjambu.proofs.Opening.{opened-length, none_taken, open_check-short}
use Rattle.host.specs.Host.{host_check}
use Rattle.host.proofs.vurshade_open.Goals as goal

-- what is answered is the length of a text that passed the checks
fits : (check : Option Refusal) (o : Option (List ℕ)) (n : ℕ) → (check ≡ None → (t : List ℕ) → o ≡ Some t → length t < n) → IfOk (opened_answer check o) (λ m. m < n)
fits (Some r) o n h = tt
fits None None n h = tt
fits None (Some t) n h = h refl t refl

pub as_signed-requires : goal.as_signed-requires
as_signed-requires c =
    let key : List ℕ = c.args.key.now in
    let n : List ℕ = c.args.nonce.now in
    let ad : List ℕ = c.args.ad.now in
    let s : List ℕ = c.args.sealed.now in
    let check = open_check (length n) (length ad) (length s) (length c.args.out.now) in
    rw c.open_under.ensures.answer (fits (host_check key check) (opened key n ad s) 9223372036854775808
    (λ e t f. omega (arith, opened-length key n ad s t f, open_check-short (length n) (length ad) (length s) (length c.args.out.now) (none_taken (is_key_size (length key)) KeyLength check e).1)))
