use Rattle.std.proofs.Common.{arith, length-append}
use Rattle.tinyjambu.proofs.session.TextSession.seal.Goals as goal

pub returns-clause-extends : goal.returns-clause-extends
returns-clause-extends g c =
    let p = c.args.piece.now in
    λ nonce ad t h. record {
      took = rw c.crypt.ensures.same (c.crypt.ensures.took nonce ad t h.took);
      counted = omega (arith, length-append t p);
    }
