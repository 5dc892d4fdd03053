use Rattle.std.proofs.Common.{refl}
use Rattle.tinyjambu.proofs.session.Session.into_text.Goals as goal

pub returns : goal.returns
returns g c = record {
  ended = λ nonce ad h. record { took = c.end_data.ensures.took (g.E.Engine.key c.args.self.engine) nonce ad h.took; counted = refl };
  same = refl;
}
