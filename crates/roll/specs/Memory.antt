-- Parts of a memory.
use Rattle.std.specs.Prelude.{ℕ, ◌+◌, List, ◌++◌, length, take, drop}

-- the n bytes from a place on
abbrev pub part : ℕ → ℕ → List ℕ → List ℕ
part at n memory = take n (drop at memory)

-- the memory with these bytes written from a place on
abbrev pub written : ℕ → List ℕ → List ℕ → List ℕ
written at bs memory = take at memory ++ (bs ++ drop (at + length bs) memory)
