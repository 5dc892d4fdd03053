-- What a session has taken so far, as one message. `key` gives the key of an engine.
use Rattle.std.specs.Prelude.{◌≡◌, ℕ, List, length}
use Rattle.tinyjambu.specs.declared.session.Session.{Session}
use Rattle.tinyjambu.specs.declared.session.TextSession.{TextSession}
use Rattle.tinyjambu.specs.History.{TookData, TookText}

-- the associated data ad, all of its pieces joined
pub record HasData {E : Type 0} (key : E → List ℕ) (nonce ad : List ℕ) (s : Session E) : Type 0 where
  pub took : TookData (key s.engine) nonce ad s.duplex
  pub counted : s.taken ≡ length ad

-- all of the associated data, and the text t, all of its pieces joined
pub record HasText {E : Type 0} (key : E → List ℕ) (nonce ad t : List ℕ) (s : TextSession E) : Type 0 where
  pub took : TookText (key s.engine) nonce ad t s.duplex
  pub counted : s.taken ≡ length t
