-- What the cipher has taken under a key and a nonce, whatever pieces it came in. The state is s, with k bytes in the open block.
use Rattle.std.specs.Prelude.{◌≡◌, ℕ, ◌+◌, ◌*◌, ◌%◌, ◌^◌, List, ◌++◌, length, take, drop, bit_xor}
use Rattle.engine.specs.Bytes.{AllBytes, joined}
use Rattle.tinyjambu.specs.Mode.{begun, blocks, absorbed, data_run, text_run, seal}
use Rattle.tinyjambu.specs.Duplex.{fed, fed_byte}
use Rattle.tinyjambu.specs.declared.duplex.Duplex.{Duplex}

-- a duplex took one byte of a phase, whose run is done where the byte begins a block
pub record FedByte (run : ℕ → ℕ) (old : Duplex) (byte : ℕ) (new : Duplex) : Type 0 where
  pub state : joined new.state ≡ fed_byte run old.filled (joined old.state) byte
  pub filled : new.filled ≡ (old.filled + 1) % 4

-- a duplex in which no block was open took a full one, as a word
pub record FedBlock (run : ℕ → ℕ) (old : Duplex) (word : ℕ) (new : Duplex) : Type 0 where
  pub state : joined new.state ≡ bit_xor (run (joined old.state)) (word * 2 ^ 96)
  pub filled : new.filled ≡ 0

-- a phase that began at the state `start` has taken the bytes bs
pub record Took (run : ℕ → ℕ) (start : ℕ) (bs : List ℕ) (s k : ℕ) : Type 0 where
  pub small : AllBytes bs
  pub state : s ≡ fed run 0 start bs
  pub filled : k ≡ length bs % 4

-- a duplex has taken the associated data ad
abbrev pub TookData : List ℕ → List ℕ → List ℕ → Duplex → Type 0
TookData key nonce ad d = Took (data_run key) (begun key nonce) ad (joined d.state) d.filled

-- all of the associated data ad, and the text t
abbrev pub TookText : List ℕ → List ℕ → List ℕ → List ℕ → Duplex → Type 0
TookText key nonce ad t d = Took (text_run key) (absorbed key (begun key nonce) (blocks ad)) t (joined d.state) d.filled

-- the part of the sealed form of t and p joined that stands for p, and the part that stands for no text: the tag
abbrev pub sealed_piece : List ℕ → List ℕ → List ℕ → List ℕ → List ℕ → List ℕ
sealed_piece key nonce ad t p = take (length p) (drop (length t) (seal key nonce ad (t ++ p)))

abbrev pub sealed_tag : List ℕ → List ℕ → List ℕ → List ℕ → List ℕ
sealed_tag key nonce ad t = drop (length t) (seal key nonce ad t)
