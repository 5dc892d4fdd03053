-- A message in pieces, one piece more.
use Rattle.std.proofs.Common.{◌≡◌, ℕ, ◌+◌, ◌-◌, ◌%◌, ◌^◌, ◌<◌, ◌≤◌, min, Ok, List, [], ◌∷◌, ◌++◌, length, get_or, take, drop, sym, refl, ap, ◌∙◌, ap₂, append_assoc, append-nil, arith, length-append, Bor}
use Rattle.std.proofs.ByRecursion.{All-append, All-drop}
use Rattle.std.proofs.lemmas.List.{take_more, take_all, take-append-drop, drop_at}
use Rattle.std.proofs.lemmas.Slice.{take-put_mid}
use Rattle.std.proofs.lemmas.Bool.Decides.{nat_tests}
use Rattle.refusal.specs.declared.refusal.Refusal.{Refusal}
use Rattle.tinyjambu.specs.Answers.{longest, limit_answer, room_answer}
use Rattle.std.specs.List.{fold}
use borrow.Rule.Slice.PartMut.{put_mid}
use Rattle.engine.specs.Bytes.{AllBytes}
use Rattle.tinyjambu.specs.History.{sealed_piece}
use Rattle.tinyjambu.specs.Message.{message}
use Rattle.tinyjambu.specs.Mode.{begun, blocks, absorbed, text_run}
use Rattle.tinyjambu.specs.Duplex.{fed}
use Rattle.tinyjambu.proofs.Feeding.{sealed-after}
use Rattle.tinyjambu.proofs.Histories.{DataAt, TextAt, sealed_part}

-- what a read past the end of the pieces would give
abbrev pub nothing : Bor (List ℕ)
nothing = record { ref_ptr = (0, 0); now = [] }

-- two lists of pieces
message-append : (ps qs : List (Bor (List ℕ))) → message (ps ++ qs) ≡ message ps ++ message qs
message-append [] qs = refl
message-append (p ∷ ps) qs = ap (λ m. p.now ++ m) (message-append ps qs) ∙ sym (append_assoc p.now (message ps) (message qs))

-- one piece more, and all of them
pub message_more : (ps : List (Bor (List ℕ))) (i : ℕ) → i < length ps → message (take (i + 1) ps) ≡ message (take i ps) ++ (get_or ps i nothing).now
message_more ps i h =
    ap message (take_more ps i nothing h) ∙ message-append (take i ps) (get_or ps i nothing ∷ []) ∙ ap (λ m. message (take i ps) ++ m) (append-nil (get_or ps i nothing).now)

pub message_all : (ps : List (Bor (List ℕ))) (i : ℕ) → length ps ≤ i → message (take i ps) ≡ message ps
message_all ps i h = ap message (take_all i ps h)

-- what has come is no longer than the whole
pub message_within : (ps : List (Bor (List ℕ))) (i : ℕ) → length (message (take i ps)) ≤ length (message ps)
message_within ps i =
    let e = ap length (ap message (sym (take-append-drop i ps)) ∙ message-append (take i ps) (drop i ps)) ∙ length-append (message (take i ps)) (message (drop i ps)) in
    omega arith

-- so the next piece ends within it, where the pieces up to it end
pub end_within : (ps : List (Bor (List ℕ))) (i at n : ℕ) → i < length ps → at ≡ length (message (take i ps)) → n ≡ length (message ps)
    → (at + length (get_or ps i nothing).now ≤ n) × (at + length (get_or ps i nothing).now ≡ length (message (take (i + 1) ps)))
end_within ps i at n h e f =
    let m = ap length (message_more ps i h) ∙ length-append (message (take i ps)) (get_or ps i nothing).now in
    (omega (arith, message_within ps (i + 1)), omega arith)

-- a sum of lengths that stops at the largest number
abbrev pub capped : ℕ → Bor (List ℕ) → ℕ
capped total p = min (total + length p.now) (2 ^ 64 - 1)

pub capped_sum : (ps : List (Bor (List ℕ))) (n : ℕ) → fold capped (min n (2 ^ 64 - 1)) ps ≡ min (n + length (message ps)) (2 ^ 64 - 1)
capped_sum [] n = omega arith
capped_sum (p ∷ ps) n =
    let e : min (min n (2 ^ 64 - 1) + length p.now) (2 ^ 64 - 1) ≡ min (n + length p.now) (2 ^ 64 - 1) = omega arith in
    ap (λ m. fold capped m ps) e ∙ capped_sum ps (n + length p.now) ∙ omega (arith, length-append p.now (message ps))

module _ (key nonce ad : List ℕ) where
  -- the next piece of the associated data, under the key as it was left
  pub data_piece : (ps : List (Bor (List ℕ))) (i : ℕ) {k : List ℕ} {s j s' j' : ℕ} → i < length ps → k ≡ key
      → ((n a : List ℕ) → DataAt k n a s j → DataAt k n (a ++ (get_or ps i nothing).now) s' j')
      → DataAt key nonce (ad ++ message (take i ps)) s j → DataAt key nonce (ad ++ message (take (i + 1) ps)) s' j'
  data_piece ps i h same took before =
      let e = append_assoc ad (message (take i ps)) (get_or ps i nothing).now ∙ ap (λ m. ad ++ m) (sym (message_more ps i h)) in
      rw e at ((rw same at took) nonce (ad ++ message (take i ps)) before)

  -- the sealed forms of two pieces, one after the other, are that of both
  pub sealed_join : (t p : List ℕ) → AllBytes t → AllBytes p → sealed_piece key nonce ad [] t ++ sealed_piece key nonce ad t p ≡ sealed_piece key nonce ad [] (t ++ p)
  sealed_join t p h l =
      let run = text_run key in
      let s = absorbed key (begun key nonce) (blocks ad) in
      let none : TextAt key nonce ad [] s 0 = record { small = tt; state = refl; filled = refl } in
      let some : TextAt key nonce ad t (fed run 0 s t) (length t % 4) = record { small = h; state = refl; filled = refl } in
      ap₂ ◌++◌ (sym (sealed_part key nonce ad [] t s 0 none h)) (sym (sealed_part key nonce ad t p (fed run 0 s t) (length t % 4) some l))
      ∙ sym (sealed-after run t p s) ∙ sealed_part key nonce ad [] (t ++ p) s 0 none (All-append (λ b. b < 256) t p h l)

  -- the next piece of the text, written after what was sealed before it, under the key as it was left
  pub text_piece : (ps : List (Bor (List ℕ))) (i at : ℕ) (room part : List ℕ) {k l : List ℕ} {s j s' j' : ℕ} → i < length ps → at ≡ length (message (take i ps))
      → at ≤ length room → k ≡ key
      → record {
        took : (n a t : List ℕ) → TextAt k n a t s j → TextAt k n a (t ++ (get_or ps i nothing).now) s' j';
        out : (n a t : List ℕ) → TextAt k n a t s j → part ≡ sealed_piece k n a t (get_or ps i nothing).now;
        len : length part ≡ length (get_or ps i nothing).now;
        same : l ≡ k;
      }
      → TextAt key nonce ad (message (take i ps)) s j × (take at room ≡ sealed_piece key nonce ad [] (message (take i ps)))
      → TextAt key nonce ad (message (take (i + 1) ps)) s' j'
      × (take (at + length (get_or ps i nothing).now) (put_mid at (at + length (get_or ps i nothing).now - at) room part) ≡ sealed_piece key nonce ad [] (message (take (i + 1) ps)))
  text_piece ps i at room part h n l same crypt before =
      let t : List ℕ = message (take i ps) in
      let p : List ℕ = (get_or ps i nothing).now in
      let more = message_more ps i h in
      let after = (rw same at crypt.took) nonce ad t before.0 in
      let made = (rw same at crypt.out) nonce ad t before.0 in
      let small : AllBytes p = rw (drop_at t p (length t) refl) at (All-drop (λ b. b < 256) (length t) (t ++ p) after.small) in (
        rw more after,
        take-put_mid at (at + length p - at) room part (at + length p) (ap (λ x. at + x) (sym crypt.len)) l ∙ ap₂ ◌++◌ before.1 made ∙ sealed_join t p before.0.small small
            ∙ ap (sealed_piece key nonce ad []) (sym more),
      )

-- a total that passed the test for length is the message's own, and what passed the test for room has it
pub limit_passed : (n r : ℕ) (f : Refusal) → r ≡ min n (2 ^ 64 - 1) → Ok tt ≡ limit_answer 0 r f → (n ≤ longest) × (r ≡ n)
limit_passed n r f e h = grind (arith, nat_tests)

pub room_passed : (room n : ℕ) → Ok tt ≡ room_answer room n → n ≤ room
room_passed room n h = grind (arith, nat_tests)
