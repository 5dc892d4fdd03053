-- TinyJAMBU as authenticated encryption with associated data, over lists of bytes, as its designers define it (version 2).
-- A state is a number of 128 bits, bit j being s_j.
use Rattle.std.specs.Prelude.{ℕ, ◌-◌, ◌*◌, ◌/◌, ◌%◌, ◌^◌, Bool, true, false, if◌then◌else◌, ◌&&◌, List, [], ◌∷◌, ◌++◌, length, take, drop, Some, None, Option, ◌==◌, bit_xor, nat_le}
use Rattle.engine.specs.Permutation.{rounds, short_rounds, long_rounds}
use Rattle.engine.specs.Bytes.{number, bytes}

-- a short run, and a long one
abbrev pub short : List ℕ → ℕ → ℕ
short key s = rounds key short_rounds s

abbrev pub long : List ℕ → ℕ → ℕ
long key s = rounds key (long_rounds key) s

-- the frame bits of a phase go into s36 to s38
abbrev pub frame : ℕ → ℕ → ℕ
frame v s = bit_xor s (v * 2 ^ 36)

-- a block goes into the state from s96 upward
abbrev pub inject : List ℕ → ℕ → ℕ
inject block s = bit_xor s (number block * 2 ^ 96)

-- the length of a block that is not full goes into s32 and s33
abbrev pub mark : List ℕ → ℕ → ℕ
mark block s = if length block == 4 then s else bit_xor s (length block * 2 ^ 32)

-- s64 to s95
abbrev pub stream : ℕ → ℕ
stream s = s / 2 ^ 64 % 2 ^ 32

-- full blocks of four bytes, and what is left over as a last one
abbrev pub blocks : List ℕ → List (List ℕ)
blocks [] = []
blocks (a ∷ []) = (a ∷ []) ∷ []
blocks (a ∷ b ∷ []) = (a ∷ b ∷ []) ∷ []
blocks (a ∷ b ∷ c ∷ []) = (a ∷ b ∷ c ∷ []) ∷ []
blocks (a ∷ b ∷ c ∷ d ∷ rest) = (a ∷ b ∷ c ∷ d ∷ []) ∷ blocks rest

-- the state after the key and a nonce of twelve bytes
abbrev pub nonce_word : List ℕ → ℕ → ℕ → ℕ
nonce_word key w s = bit_xor (short key (frame 1 s)) (w * 2 ^ 96)

abbrev pub begun : List ℕ → List ℕ → ℕ
begun key n =
    nonce_word key (number (drop 8 n)) (nonce_word key (number (take 4 (drop 4 n))) (nonce_word key (number (take 4 n)) (long key 0)))

-- the state after associated data
abbrev pub data_run : List ℕ → ℕ → ℕ
data_run key s = short key (frame 3 s)

abbrev pub absorbed : List ℕ → ℕ → List (List ℕ) → ℕ
absorbed key s [] = s
absorbed key s (b ∷ bs) = absorbed key (mark b (inject b (data_run key s))) bs

-- a block xor a number, byte by byte
abbrev pub xored : List ℕ → ℕ → List ℕ
xored [] n = []
xored (b ∷ bs) n = bit_xor b (n % 256) ∷ xored bs (n / 256)

-- the state after the text, and the sealed text
abbrev pub text_run : List ℕ → ℕ → ℕ
text_run key s = long key (frame 5 s)

abbrev pub text_state : List ℕ → ℕ → List (List ℕ) → ℕ
text_state key s [] = s
text_state key s (b ∷ bs) = text_state key (mark b (inject b (text_run key s))) bs

abbrev pub ciphertext : List ℕ → ℕ → List (List ℕ) → List ℕ
ciphertext key s [] = []
ciphertext key s (b ∷ bs) = xored b (stream (text_run key s)) ++ ciphertext key (mark b (inject b (text_run key s))) bs

-- the tag
abbrev pub tag : List ℕ → ℕ → List ℕ
tag key s = bytes 4 (stream (long key (frame 7 s))) ++ bytes 4 (stream (short key (frame 7 (long key (frame 7 s)))))

-- what a text with its associated data is sealed to
unfoldable pub seal : List ℕ → List ℕ → List ℕ → List ℕ → List ℕ
seal key n ad t =
    ciphertext key (absorbed key (begun key n) (blocks ad)) (blocks t)
    ++ tag key (text_state key (absorbed key (begun key n) (blocks ad)) (blocks t))

-- the text that a sealed text was made of: the same steps, with the recovered block going into the state
abbrev pub plain_block : List ℕ → ℕ → List ℕ → List ℕ
plain_block key s c = xored c (stream (text_run key s))

abbrev pub plaintext : List ℕ → ℕ → List (List ℕ) → List ℕ
plaintext key s [] = []
plaintext key s (c ∷ cs) = plain_block key s c ++ plaintext key (mark c (inject (plain_block key s c) (text_run key s))) cs

abbrev pub plain_state : List ℕ → ℕ → List (List ℕ) → ℕ
plain_state key s [] = s
plain_state key s (c ∷ cs) = plain_state key (mark c (inject (plain_block key s c) (text_run key s))) cs

abbrev pub same : List ℕ → List ℕ → Bool
same [] [] = true
same [] (y ∷ ys) = false
same (x ∷ xs) [] = false
same (x ∷ xs) (y ∷ ys) = x == y && same xs ys

-- the text that opening sealed bytes gives, if their tag is right
unfoldable pub opened : List ℕ → List ℕ → List ℕ → List ℕ → Option (List ℕ)
opened key n ad c =
    let s : ℕ = absorbed key (begun key n) (blocks ad) in
    let cs : List (List ℕ) = blocks (take (length c - 8) c) in
    if nat_le 8 (length c) && same (tag key (plain_state key s cs)) (drop (length c - 8) c) then Some (plaintext key s cs) else None
