-- What a duplex has taken, one call after another, and what is sealed meanwhile.
use Rattle.std.proofs.Common.{◌≡◌, ℕ, ◌+◌, ◌%◌, ◌<◌, List, [], ◌++◌, length, take, drop, sym, ap, ◌∙◌, ap₂, append_assoc, arith, length-append}
use Rattle.std.proofs.ByRecursion.{All-append}
use Rattle.std.proofs.lemmas.List.{take_at, drop_at}
use Rattle.engine.specs.Bytes.{AllBytes}
use Rattle.tinyjambu.specs.Mode.{begun, blocks, absorbed, data_run, text_run, text_state, ciphertext, tag, seal}
use Rattle.tinyjambu.specs.Duplex.{fed, sealed_bytes, closed}
use Rattle.tinyjambu.specs.History.{Took, sealed_piece, sealed_tag}
use Rattle.tinyjambu.proofs.Exact.{ciphertext_is, text_state_is}
use Rattle.tinyjambu.proofs.Feeding.{fed_after, sealed-after, length_sealed}
use Rattle.tinyjambu.proofs.Blocks.{fed_blocks, sealed_blocks, absorbed_is}

-- how far the open block is after a piece
place_more : (t p k : ℕ) → k ≡ t % 4 → (k + p) % 4 ≡ (t + p) % 4
place_more t p k e = omega arith

-- a piece more of a phase
pub took_more : {run : ℕ → ℕ} {start : ℕ} {bs : List ℕ} {s k : ℕ} → Took run start bs s k → (p : List ℕ) (s' k' : ℕ) → AllBytes p
    → s' ≡ fed run k s p → k' ≡ (k + length p) % 4 → Took run start (bs ++ p) s' k'
took_more {run} {start} {bs} {s} {k} h p s' k' small e f = record {
  small = All-append (λ b. b < 256) bs p h.small small;
  state = e ∙ ap₂ (λ x y. fed run x y p) h.filled h.state ∙ fed_after run bs p start;
  filled = f ∙ place_more (length bs) (length p) k h.filled ∙ ap (λ n. n % 4) (sym (length-append bs p));
}

-- the associated data ad was taken, or all of it and the text t, by the state and the open block
abbrev pub DataAt : List ℕ → List ℕ → List ℕ → ℕ → ℕ → Type 0
DataAt key nonce ad s k = Took (data_run key) (begun key nonce) ad s k

abbrev pub TextAt : List ℕ → List ℕ → List ℕ → List ℕ → ℕ → ℕ → Type 0
TextAt key nonce ad t s k = Took (text_run key) (absorbed key (begun key nonce) (blocks ad)) t s k

module _ (key nonce : List ℕ) where
  -- the associated data begins, and ends
  pub data_none : (s k : ℕ) → s ≡ begun key nonce → k ≡ 0 → DataAt key nonce [] s k
  data_none s k e f = record { small = tt; state = e; filled = f }

  pub data_all : (ad : List ℕ) (s k s' k' : ℕ) → DataAt key nonce ad s k → s' ≡ closed k s → k' ≡ 0 → TextAt key nonce ad [] s' k'
  data_all ad s k s' k' h e f = record {
    small = tt;
    state = e ∙ ap₂ closed h.filled h.state ∙ fed_blocks (data_run key) ad (begun key nonce) h.small ∙ sym (absorbed_is key (begun key nonce) (blocks ad));
    filled = f;
  }

  -- from the state after the associated data
  module _ (ad : List ℕ) where
    abbrev start : ℕ
    start = absorbed key (begun key nonce) (blocks ad)

    -- the sealed text, and the sealed form, by the walk over bytes
    sealed_is : (t : List ℕ) → AllBytes t → sealed_bytes (text_run key) 0 start t ≡ ciphertext key start (blocks t)
    sealed_is t small = sealed_blocks (text_run key) t start small ∙ sym (ciphertext_is key start (blocks t))

    seal_is : (t : List ℕ) → AllBytes t → seal key nonce ad t ≡ sealed_bytes (text_run key) 0 start t ++ tag key (text_state key start (blocks t))
    unfolding seal
    seal_is t small = ap (λ c. c ++ tag key (text_state key start (blocks t))) (sym (sealed_is t small))

    -- the part of the sealed form that a piece of the text gives
    pub sealed_part : (t p : List ℕ) (s k : ℕ) → TextAt key nonce ad t s k → AllBytes p
        → sealed_bytes (text_run key) k s p ≡ sealed_piece key nonce ad t p
    sealed_part t p s k h small =
        let here : List ℕ = sealed_bytes (text_run key) k s p in
        let before : List ℕ = sealed_bytes (text_run key) 0 start t in
        let rest : List ℕ = tag key (text_state key start (blocks (t ++ p))) in
        let e : sealed_bytes (text_run key) 0 start (t ++ p) ≡ before ++ here
        = sealed-after (text_run key) t p start ∙ ap₂ (λ x y. before ++ sealed_bytes (text_run key) x y p) (sym h.filled) (sym h.state) in
        let f : seal key nonce ad (t ++ p) ≡ before ++ (here ++ rest)
        = seal_is (t ++ p) (All-append (λ b. b < 256) t p h.small small) ∙ ap (λ c. c ++ rest) e ∙ append_assoc before here rest in
        let g : drop (length t) (seal key nonce ad (t ++ p)) ≡ here ++ rest
        = ap (drop (length t)) f ∙ drop_at before (here ++ rest) (length t) (length_sealed (text_run key) t 0 start) in
        sym (ap (take (length p)) g ∙ take_at here rest (length p) (length_sealed (text_run key) p k s))

    -- the tag is what the sealed form has after the text
    pub tag_part : (t : List ℕ) (s k : ℕ) → TextAt key nonce ad t s k → tag key (closed k s) ≡ sealed_tag key nonce ad t
    tag_part t s k h =
        let before : List ℕ = sealed_bytes (text_run key) 0 start t in
        let e : closed k s ≡ text_state key start (blocks t)
        = ap₂ closed h.filled h.state ∙ fed_blocks (text_run key) t start h.small ∙ sym (text_state_is key start (blocks t)) in
        ap (tag key) e ∙ sym (ap (drop (length t)) (seal_is t h.small) ∙ drop_at before (tag key (text_state key start (blocks t))) (length t) (length_sealed (text_run key) t 0 start))

-- A whole message: the key and the nonce are taken, the data, its end, the text, and the tag, each under the key that the step before left.
pub whole_message : {key k₁ k₂ k₃ tag : List ℕ} {s₀ s₁ s₂ s₃ j₀ j₁ j₂ j₃ : ℕ} (nonce ad t made : List ℕ)
    → record { took : DataAt key nonce [] s₀ j₀; same : k₁ ≡ key }
    → record { took : (n a : List ℕ) → DataAt k₁ n a s₀ j₀ → DataAt k₁ n (a ++ ad) s₁ j₁; same : k₂ ≡ k₁ }
    → ((k n a : List ℕ) → DataAt k n a s₁ j₁ → TextAt k n a [] s₂ j₂)
    → ((n a : List ℕ) → TextAt k₂ n a [] s₂ j₂ → TextAt k₂ n a t s₃ j₃)
    → ((n a : List ℕ) → TextAt k₂ n a [] s₂ j₂ → made ≡ sealed_piece k₂ n a [] t)
    → k₃ ≡ k₂
    → ((n a u : List ℕ) → TextAt k₃ n a u s₃ j₃ → tag ≡ sealed_tag k₃ n a u)
    → (made ≡ sealed_piece key nonce ad [] t) × (tag ≡ sealed_tag key nonce ad t)
whole_message {key} nonce ad t made begin absorb end crypt out same tags =
    let two = absorb.same ∙ begin.same in
    let three = same ∙ two in
    let took = end key nonce ad ((rw begin.same at absorb.took) nonce [] begin.took) in
    ((rw two at out) nonce ad took, (rw three at tags) nonce ad t ((rw two at crypt) nonce ad took))
