use Rattle.std.proofs.Common.{ap, ◌∙◌}
use Rattle.tinyjambu.specs.Mode.{tag}
use Rattle.tinyjambu.proofs.Histories.{tag_part}
use Rattle.tinyjambu.proofs.duplex.Duplex.tag.Goals as goal

pub returns : goal.returns
returns g c =
    let key = g.E.Engine.key c.args.engine.now in
    record {
      result = λ nonce ad t h. c.tag_bytes.ensures.result ∙ ap (tag key) c.close.ensures.state ∙ tag_part key nonce ad t _ _ h;
      same = c.tag_bytes.ensures.same;
    }
