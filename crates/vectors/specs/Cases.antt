-- What a key makes of a case.
use Rattle.std.specs.Prelude.{◌≡◌, ℕ, List, Some}
use Rattle.tinyjambu.specs.Mode.{seal, opened}
use Rattle.vectors.specs.declared.case.Case.{Case}

-- under this key the text of the case seals to its sealed bytes
abbrev pub SealsTo : List ℕ → Case → Type 0
SealsTo key c = seal key c.nonce.items c.ad.items c.text.items ≡ c.sealed.items

-- under this key its sealed bytes open to the text
abbrev pub OpensTo : List ℕ → Case → Type 0
OpensTo key c = opened key c.nonce.items c.ad.items c.sealed.items ≡ Some c.text.items
