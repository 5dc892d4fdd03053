use Rattle.tinyjambu.proofs.Histories.{data_all}
use Rattle.tinyjambu.proofs.duplex.Duplex.end_data.Goals as goal

pub returns : goal.returns
returns c = record { took = λ key nonce ad h. data_all key nonce ad _ _ _ _ h c.close.ensures.state c.close.ensures.filled }
