use Rattle.std.proofs.Common.{◌*◌, ◌/◌, ◌%◌, ◌^◌, ap, ◌∙◌}
use Rattle.engine.specs.Bytes.{joined}
use Rattle.tinyjambu.proofs.Feeding.{stream_at}
use Rattle.tinyjambu.proofs.duplex.Duplex.stream_byte.Goals as goal

pub returns : goal.returns
returns c =
    let d = c.args.self.now in
    ap (λ w. w / 2 ^ (8 * d.filled) % 256) c.stream_word.ensures ∙ stream_at (joined d.state) d.filled d.few
