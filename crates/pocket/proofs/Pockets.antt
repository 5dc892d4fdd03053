-- The entries of a pocket, by where they begin, and one more.
use Rattle.std.proofs.Common.{◌≡◌, ℕ, zero, suc, ◌+◌, ◌-◌, ◌<◌, ◌≤◌, List, [], ◌∷◌, ◌++◌, length, get_or, take, drop, drop_of_length-le, Some, None, Ok, Err, sym, refl, ap, ◌∙◌, ap₂, arith}
use Rattle.std.proofs.lemmas.List.{take-take, take_at, get_or-take, length-take-le}
use Rattle.std.proofs.lemmas.List.Sums.{sum_by-cons, sum_by_push, sum_by_more_le}
use Rattle.refusal.specs.declared.refusal.Refusal.TheVariants.{NoSpace}
use Rattle.roll.specs.Memory.{part, written}
use Rattle.roll.specs.Roll.{Meaning, Entry, text, count, entry, first, append_answer, append_after, grown}
use Rattle.refusal.specs.Refusals.{fault}
use Rattle.roll.proofs.Memories.{same_below, written_there, part_length}
use Rattle.roll.proofs.Rolls.{Takes, taken, after_is, too_dear}
use Rattle.pocket.specs.declared.pocket.Pocket.{Pocket}
use Rattle.pocket.specs.Held.{roll_of}
use Rattle.pocket.specs.Pocket.{paged, paged_all, entries_at, pocket_charge, pocket}
use Rattle.pocket.specs.PocketLaws.{entries-count, charge_is, paged_many}

-- the entry of a number
entry_from : (bytes ns : List ℕ) (at i : ℕ) → i < length ns → first (drop i (entries_at bytes at ns)) ≡ Some (text (part (at + paged_all (take i ns)) (get_or ns i 0) bytes))
entry_from bytes [] at i h = absurd (omega arith)
entry_from bytes (n ∷ ns) at zero h = ap (λ k. Some (text (part k n bytes))) (omega arith)
entry_from bytes (n ∷ ns) at (suc i) h =
    entry_from bytes ns (at + paged n) i (omega arith)
    ∙ ap (λ k. Some (text (part k (get_or ns i 0) bytes))) (omega (arith, sum_by-cons paged n (take i ns)))

-- the same of a pocket
module _ (name : ℕ) (bytes ns : List ℕ) where
  -- there is an entry of each number below the count
  pub pocket_entry : (i : ℕ) → i < length ns → entry (pocket name bytes ns) i ≡ Some (text (part (paged_all (take i ns)) (get_or ns i 0) bytes))
  pocket_entry i l = entry_from bytes ns 0 i l ∙ ap (λ k. Some (text (part k (get_or ns i 0) bytes))) (omega arith)

  -- and of no other
  pub pocket_no_entry : (i : ℕ) → length ns ≤ i → entry (pocket name bytes ns) i ≡ None
  pocket_no_entry i l = ap first (drop_of_length-le (entries_at bytes 0 ns) (omega (arith, entries-count bytes 0 ns)))

  -- an entry ends within the bytes
  pub stored_within : (i : ℕ) → i < length ns → paged_all ns ≤ length bytes → paged_all (take i ns) + get_or ns i 0 ≤ length bytes
  stored_within i l fits = omega (arith, sum_by_more_le paged ns i 0 l)

  -- it is as long as its length says
  pub stored-length : (i : ℕ) → i < length ns → paged_all ns ≤ length bytes → length (part (paged_all (take i ns)) (get_or ns i 0) bytes) ≡ get_or ns i 0
  stored-length i l fits = part_length (paged_all (take i ns)) (get_or ns i 0) bytes (stored_within i l fits)

-- the same of a pocket of which the first c lengths of a list count
module _ (name : ℕ) (bytes ls : List ℕ) (c i : ℕ) (h : c ≤ length ls) (l : i < c) where
  -- the lengths before it, and its own, are those of the list
  before : take i (take c ls) ≡ take i ls
  before = take-take i c ls (omega arith)

  own : get_or (take c ls) i 0 ≡ get_or ls i 0
  own = get_or-take c ls i 0 l

  -- there is an entry of each number below c
  pub pocket_entry_first : entry (pocket name bytes (take c ls)) i ≡ Some (text (part (paged_all (take i ls)) (get_or ls i 0) bytes))
  pocket_entry_first =
      pocket_entry name bytes (take c ls) i (omega (arith, length-take-le c ls h))
      ∙ ap₂ (λ x ns. Some (text (part (paged_all ns) x bytes))) own before

  -- it is as long as its length says
  pub stored-length_first : paged_all (take c ls) ≤ length bytes → length (part (paged_all (take i ls)) (get_or ls i 0) bytes) ≡ get_or ls i 0
  stored-length_first fits =
      sym (ap₂ (λ x ns. length (part (paged_all ns) x bytes)) own before)
      ∙ stored-length name bytes (take c ls) i (omega (arith, length-take-le c ls h)) fits
      ∙ own

-- the entries below u are the same
entries-same : (bytes next : List ℕ) (u at : ℕ) (ns : List ℕ) → take u next ≡ take u bytes → at + paged_all ns ≤ u → entries_at next at ns ≡ entries_at bytes at ns
entries-same bytes next u at [] e h = refl
entries-same bytes next u at (n ∷ ns) e h =
    let all = sum_by-cons paged n ns in
    ap₂ (λ t es. text t ∷ es) (same_below bytes next u at n e (omega arith)) (entries-same bytes next u (at + paged n) ns e (omega arith))

-- the entries of two lists of lengths
entries-append : (bytes : List ℕ) (at : ℕ) (ns ms : List ℕ) → entries_at bytes at (ns ++ ms) ≡ entries_at bytes at ns ++ entries_at bytes (at + paged_all ns) ms
entries-append bytes at [] ms = ap (λ k. entries_at bytes k ms) (omega arith)
entries-append bytes at (n ∷ ns) ms =
    ap (λ es. text (part at n bytes) ∷ es)
    (entries-append bytes (at + paged n) ns ms
    ∙ ap (λ k. entries_at bytes (at + paged n) ns ++ entries_at bytes k ms) (omega (arith, sum_by-cons paged n ns)))

-- what an accepted append makes of a pocket
module _ (name : ℕ) (bytes ns t : List ℕ) (whole : length bytes ≡ 4096) (short : length t < 513) (paid : paged_all ns + paged (length t) ≤ 4096) where
  -- the pages in use
  abbrev used : ℕ
  used = paged_all ns

  -- a pocket by what an append changes of it
  abbrev with_parts : ℕ → List Entry → Meaning
  with_parts space entries = record { name = name; floor = 0; bound = 513; space = space; charge = pocket_charge; entries = entries }

  -- the bytes and lengths after the append mean the roll with one text more
  pub pocket_grown : pocket name (written used t bytes) (ns ++ length t ∷ []) ≡ grown (pocket name bytes ns) t
  pocket_grown =
      let next : List ℕ = written used t bytes in
      let low : take used next ≡ take used bytes = take_at (take used bytes) _ used (length-take-le used bytes (omega arith)) in
      let last : part (0 + used) (length t) next ≡ t
      = ap (λ k. part k (length t) next) (omega arith) ∙ written_there used t bytes (omega arith) in
      ap₂ with_parts (omega (arith, sum_by_push paged ns (length t), charge_is (length t) short))
      (entries-append next 0 ns (length t ∷ []) ∙ ap₂ (λ es x. es ++ text x ∷ []) (entries-same bytes next used 0 ns low (omega arith)) last)

  -- the append is accepted
  pub pocket_takes : Takes (pocket name bytes ns) t
  pocket_takes = record {
    fits = short;
    room = omega (arith, entries-count bytes 0 ns, paged_many ns);
    paid = omega (arith, charge_is (length t) short);
  }

  -- so they mean the roll after the append
  pub pocket_after : append_after (pocket name bytes ns) t ≡ pocket name (written used t bytes) (ns ++ length t ∷ [])
  pocket_after = after_is (pocket name bytes ns) t _ (taken (pocket name bytes ns) t pocket_takes) ∙ sym pocket_grown

-- an append by what the program has: the lengths that it was lent, where their pages end, and what the pages of the text take
module _ (p : Pocket) (lent t : List ℕ) (at need : ℕ) (same : lent ≡ p.lengths.items) (at-is : at ≡ paged_all lent) (need-is : need ≡ paged (length t)) (short : length t < 513) where
  -- the text goes where the pages in use end
  ends : at ≡ paged_all p.lengths.items
  ends = at-is ∙ ap paged_all same

  -- if the pages left are too few, it is refused
  pub pocket_no_space : 4096 - at < need → append_answer (roll_of p) t ≡ Err (fault NoSpace 0 (count (roll_of p)))
  pocket_no_space l =
      too_dear (roll_of p) t short (omega (arith, entries-count p.bytes 0 p.lengths.items, paged_many p.lengths.items, ends, p.fits)) (omega (arith, charge_is (length t) short, ends, p.fits))

  -- else they hold the text
  pub pocket_paid : need ≤ 4096 - at → paged_all p.lengths.items + paged (length t) ≤ 4096
  pocket_paid l = omega (arith, ends, p.fits)

  -- there is room for its length
  pub pocket_room : need ≤ 4096 - at → length p.lengths.items < 64
  pocket_room l = omega (arith, paged_many p.lengths.items, pocket_paid l)

  -- the append is accepted
  pub pocket_taken : need ≤ 4096 - at → append_answer (roll_of p) t ≡ Ok (count (roll_of p))
  pocket_taken l = taken (roll_of p) t (pocket_takes p.name p.bytes p.lengths.items t p.whole short (pocket_paid l))

  -- and the roll after it is what the text written there and its length make
  pub pocket_put : (next : List ℕ) → need ≤ 4096 - at → next ≡ written at t p.bytes → pocket p.name next (p.lengths.items ++ length t ∷ []) ≡ append_after (roll_of p) t
  pocket_put next l w =
      ap (λ b. pocket p.name b (p.lengths.items ++ length t ∷ [])) (w ∙ ap (λ k. written k t p.bytes) ends)
      ∙ sym (pocket_after p.name p.bytes p.lengths.items t p.whole short (pocket_paid l))
