-- What an opening that recovered t, and compared its tag, has found.
use Rattle.std.proofs.Common.{◌≡◌, ℕ, ◌+◌, ◌-◌, ◌<◌, ◌≤◌, Bool, true, false, cond, ◌&&◌, eqb, ltb, leb, List, [], ◌∷◌, ◌++◌, length, take, drop, Some, None, is_some, Ok, Err, Option, Result, sym, refl, ap, ◌∙◌, ap₂, append-nil, arith, length-append, length-drop, take-append-drop}
use Rattle.std.specs.Prelude.{if◌then◌else◌, MatchResult, IsSome}
use Rattle.std.proofs.lemmas.Bool.Decides.{nat_tests}
use Rattle.std.proofs.lemmas.Bool.{both_ways, le-leb, ltb-false, eqb-true, le-ltb, cond-true, cond-false}
use Rattle.std.proofs.ByRecursion.{All-take, All-drop}
use Rattle.std.proofs.lemmas.List.{take_at, drop_at, take_all, drop-drop, length-take-le}
use Rattle.refusal.specs.declared.fault.Fault.{Fault}
use Rattle.refusal.specs.declared.refusal.Refusal.{Refusal}
use Rattle.refusal.specs.declared.refusal.Refusal.TheVariants.{NonceLength, DataTooLong, TextTooLong, Broken}
use Rattle.tinyjambu.specs.Answers.{written, longest, length_check, tag_answer, open_check, open_refusal, open_answer, open_out, opened_answer, opened_out, opened_text_answer, opened_text_out}
use Rattle.engine.specs.Bytes.{number, bytes, word_bytes, AllBytes}
use Rattle.tinyjambu.specs.History.{sealed_piece, sealed_tag}
use Rattle.tinyjambu.specs.Laws.{Exact, OpensExactly}
use Rattle.tinyjambu.specs.Nonce.{nonce_words}
use Rattle.tinyjambu.specs.Mode.{begun, blocks, absorbed, ciphertext, text_state, plaintext, plain_state, tag, same, seal, opened}
use Rattle.tinyjambu.proofs.Exact.{opened_exactly, opened_text, opened_state, some_if}
use Rattle.engine.proofs.Joined.{bytes-number}
use Rattle.tinyjambu.proofs.Sealing.{seal-one, seal-length, ciphertext-length}

-- what is opened goes by the test of the tag
tag_decides : (b : Bool) (t : List ℕ) {o : Option (List ℕ)} {r : Result Unit Refusal} → o ≡ (if b then Some t else None) → r ≡ (if b then Ok tt else Err Broken)
    → MatchResult r (λ _. o ≡ Some t) (λ f. (o ≡ None) × (f ≡ Broken))
tag_decides true t e f = rw f e
tag_decides false t e f = rw f (e, refl)

module _ (key n ad : List ℕ) where
  abbrev start : ℕ
  start = absorbed key (begun key n) (blocks ad)

  -- the definition of opening, written out
  opened_is : (c : List ℕ) → opened key n ad c
      ≡ cond (leb 8 (length c) && same (tag key (plain_state key start (blocks (take (length c - 8) c)))) (drop (length c - 8) c)) (Some (plaintext key start (blocks (take (length c - 8) c)))) None
  unfolding opened
  opened_is c = refl

  -- the two parts of a sealed form
  text_part : (t : List ℕ) → sealed_piece key n ad [] t ≡ ciphertext key start (blocks t)
  unfolding seal
  text_part t = take_at (ciphertext key start (blocks t)) (tag key (text_state key start (blocks t))) (length t) (ciphertext-length key start t)

  tag_part : (t : List ℕ) → sealed_tag key n ad t ≡ tag key (text_state key start (blocks t))
  unfolding seal
  tag_part t = drop_at (ciphertext key start (blocks t)) (tag key (text_state key start (blocks t))) (length t) (ciphertext-length key start t)

  -- where t is sealed to the sealed bytes less 8, and the tag of that is made, the test of the tag tells what is opened
  pub recovered : (t c body given made : List ℕ) {r : Result Unit Refusal} → (body ≡ take (length c - 8) c) × (given ≡ drop (length c - 8) c) × (length body + 8 ≡ length c)
      → (body ≡ sealed_piece key n ad [] t) × (made ≡ sealed_tag key n ad t) → r ≡ tag_answer made given
      → MatchResult r (λ _. opened key n ad c ≡ Some t) (λ f. (opened key n ad c ≡ None) × (f ≡ Broken))
  recovered t c body given made parts walk e =
      let is : take (length c - 8) c ≡ ciphertext key start (blocks t) = sym parts.0 ∙ walk.0 ∙ text_part t in
      let text = ap (λ b. plaintext key start (blocks b)) is ∙ opened_text key start t in
      let state = ap (λ b. plain_state key start (blocks b)) is ∙ opened_state key start t in
      let tags = ap (tag key) state ∙ sym (walk.1 ∙ tag_part t) in
      let l = le-leb 8 (length c) (omega arith) in
      tag_decides (same made given) t (opened_is c ∙ rw (l, text, tags, ← parts.1) refl) e

  -- an opening by the definition is exact
  pub exact_by : (c : List ℕ) (o : Option (List ℕ)) (out : List ℕ) → opened key n ad c ≡ o → Exact key n ad c (opened_text_answer o) (opened_text_out o out)
  exact_by c None out e = record {
    gives = λ m f. let z : ◌≡◌ {A = ℕ} 0 1 = cc in absurd (omega arith);
    finds = λ t f. let g = (opened_exactly key n ad c t).1 f in let z : ◌≡◌ {A = ℕ} 0 1 = cc in absurd (omega arith);
    one = λ t u f g. seal-one key n ad t u (f ∙ sym g);
    none = λ f. refl;
  }
  exact_by c (Some t) out e = record {
    gives = λ m f. let k : length t ≡ m = cc in ap (seal key n ad) (take_at t (drop (length t) out) m k) ∙ (opened_exactly key n ad c t).0 e;
    finds = λ u f.
        let g = (opened_exactly key n ad c u).1 f in
        let same : t ≡ u = cc in
        (ap (λ x. Ok (length x)) same, take_at t (drop (length t) out) (length u) (ap length same) ∙ same);
    one = λ t u f g. seal-one key n ad t u (f ∙ sym g);
    none = λ f. absurd (f t ((opened_exactly key n ad c t).0 e));
  }

-- a nonce that was taken for three words has their bytes
pub nonce_taken : (n ws : List ℕ) → AllBytes n → Some ws ≡ nonce_words n → (eqb (length n) 12 ≡ true) × (word_bytes ws ≡ n)
nonce_taken n ws small e =
    let p = some_if (eqb (length n) 12) (number (take 4 n) ∷ number (take 4 (drop 4 n)) ∷ number (take 4 (drop 8 n)) ∷ []) ws (sym e) in
    let l = eqb-true (length n) 12 p.0 in
    let part : (i : ℕ) → i + 4 ≤ 12 → bytes 4 (number (take 4 (drop i n))) ≡ take 4 (drop i n)
    = λ i h.
    let k : length (take 4 (drop i n)) ≡ 4 = length-take-le 4 (drop i n) (rw length-drop (omega arith)) in
    ap (λ m. bytes m (number (take 4 (drop i n)))) (sym k) ∙ bytes-number (take 4 (drop i n)) (All-take (λ b. b < 256) 4 (drop i n) (All-drop (λ b. b < 256) i n small)) in
    let last : take 4 (drop 8 n) ++ [] ≡ drop 8 n = append-nil (take 4 (drop 8 n)) ∙ take_all 4 (drop 8 n) (rw length-drop (omega arith)) in
    let middle : take 4 (drop 4 n) ++ drop 8 n ≡ drop 4 n = ap (λ x. take 4 (drop 4 n) ++ x) (sym (drop-drop 4 4 n)) ∙ take-append-drop 4 (drop 4 n) in
    (p.0, ap word_bytes (sym p.1) ∙ ap₂ ◌++◌ (part 0 (omega arith)) (ap₂ ◌++◌ (part 4 (omega arith)) (ap (λ x. x ++ []) (part 8 (omega arith)) ∙ last) ∙ middle) ∙ take-append-drop 4 n)

-- the checks pass
pub open_check-none : (n ad c room : ℕ) → eqb n 12 ≡ true → ad ≤ longest → c - 8 ≤ longest → 8 ≤ c → c - 8 ≤ room → open_check n ad c room ≡ None
open_check-none n ad c room e f g h l =
    cond-true _ _ _ e ∙ cond-false _ _ _ (le-ltb longest ad f) ∙ cond-false _ _ _ (le-ltb longest (c - 8) g) ∙ cond-false _ _ _ (le-ltb c 8 h) ∙ cond-false _ _ _ (le-ltb room (c - 8) l)

-- what `open` ensures, where the checks pass and it is known what there is to open
pub opened_by : {A : Type 0} (key : A → List ℕ) {old new : A} {n ws ad c after : List ℕ} (room : List ℕ) (o : Option (List ℕ)) {r : Result ℕ Fault} → AllBytes n
    → nonce_words n ≡ Some ws → length_check (length ad) (length c) (length room) ≡ None → opened (key old) (word_bytes ws) ad c ≡ o
    → r ≡ opened_text_answer o → after ≡ opened_text_out o room → key new ≡ key old
    → record {
      answer : r ≡ open_answer (key old) n ad c room;
      out : after ≡ open_out (key old) n ad c room;
      exact : OpensExactly (key old) n ad c room r after;
      refused : IsSome (open_refusal n ad c room) → new ≡ old;
      same : key new ≡ key old;
    }
opened_by key {old} {n = n} {ws} {ad} {c} room o small w l f g h kept =
    let taken = nonce_taken n ws small (sym w) in
    let e : open_refusal n ad c room ≡ None = cond-true _ _ _ taken.0 ∙ l in
    let k : opened (key old) n ad c ≡ o = ap (λ x. opened (key old) x ad c) (sym taken.1) ∙ f in
    record {
      answer = g ∙ sym (ap₂ opened_answer e k);
      out = h ∙ sym (ap₂ (λ x y. opened_out x y room) e k);
      exact = λ _. rw (g, h) (exact_by (key old) n ad c o room k);
      refused = λ i. absurd (both_ways _ (ap is_some e) i);
      same = kept;
    }

-- what is recovered into the first bytes of a buffer, once the checks of lengths passed, is all of the text, and the rest stays
pub part_passed : (ad c : ℕ) (room part : List ℕ) (len : ℕ) → (length_check ad c (length room) ≡ None) × (len + 8 ≡ c) → length part ≡ length (take (len - 0) room)
    → (length part ≡ len) × (part ++ drop (len - 0) room ≡ written part room) × (length (part ++ drop (len - 0) room) ≡ length room)
part_passed ad c room part len h e =
    let l : len ≤ length room = grind (arith, nat_tests) in
    let f : length part ≡ len = e ∙ length-take-le (len - 0) room (omega arith) ∙ omega arith in
    let m : len - 0 ≡ length part = omega arith in
    (f, ap (λ k. part ++ drop k room) m, length-append part (drop (len - 0) room) ∙ rw length-drop (omega arith))

-- a text that was opened is 8 bytes shorter
pub opened-length : (key n ad c t : List ℕ) → opened key n ad c ≡ Some t → length t + 8 ≡ length c
opened-length key n ad c t e = sym (seal-length key n ad t) ∙ ap length ((opened_exactly key n ad c t).0 e)

-- where no check refuses, each one passed
pub none_passed : (b : Bool) (r : Refusal) (rest : Option Refusal) → cond b (Some r) rest ≡ None → (b ≡ false) × (rest ≡ None)
none_passed true r rest e = let z : ◌≡◌ {A = ℕ} 0 1 = cc in absurd (omega arith)
none_passed false r rest e = (refl, e)

pub none_taken : (b : Bool) (r : Refusal) (rest : Option Refusal) → cond b rest (Some r) ≡ None → (b ≡ true) × (rest ≡ None)
none_taken true r rest e = (refl, e)
none_taken false r rest e = let z : ◌≡◌ {A = ℕ} 0 1 = cc in absurd (omega arith)

-- a text that passed the checks is within the limit
pub open_check-short : (n ad c room : ℕ) → open_check n ad c room ≡ None → c - 8 ≤ longest
open_check-short n ad c room e =
    let p = none_taken (eqb n 12) NonceLength _ e in
    let q = none_passed (ltb longest ad) DataTooLong _ p.1 in
    let r = none_passed (ltb longest (c - 8)) TextTooLong _ q.1 in
    ltb-false longest (c - 8) r.0
