use Rattle.std.proofs.Common.{ℕ, List, []}
use Rattle.engine.specs.Bytes.{word_bytes}
use Rattle.tinyjambu.proofs.Histories.{whole_message}
use Rattle.tinyjambu.proofs.Opening.{recovered}
use Rattle.tinyjambu.proofs.whole.recover.Goals as goal

pub returns-clause-text : goal.returns-clause-text
returns-clause-text g c =
    let key : List ℕ = g.E.Engine.key c.args.engine.now in
    let n : List ℕ = word_bytes c.args.nonce in
    let ad : List ℕ = c.args.ad.now in
    let t : List ℕ = c.crypt.new.out in
    let body : List ℕ = c.unwrap.result.0.now in
    let walk = whole_message n ad t body c.begin-duplex.ensures c.absorb.ensures c.end_data.ensures.took
    (λ n a. c.crypt.ensures.took n a []) (λ n a. c.crypt.ensures.out n a []) c.crypt.ensures.same c.tag.ensures.result in
    recovered key n ad t c.args.sealed.now body _ _ (rw c.unwrap.ensures at c.split_last_chunk.ensures.cases) walk c.check_tag.ensures
