use Rattle.std.proofs.Common.{arith, length-append}
use Rattle.tinyjambu.proofs.session.Session.absorb.Goals as goal

pub returns-clause-extends : goal.returns-clause-extends
returns-clause-extends g c =
    let p = c.args.piece.now in
    λ nonce ad h. record {
      took = rw c.absorb.ensures.same (c.absorb.ensures.took nonce ad h.took);
      counted = omega (arith, length-append ad p);
    }
