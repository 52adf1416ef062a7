use Rattle.sc_lockpass.proofs.Listings.{holder_at-replicate}
use Rattle.sc_lockpass.proofs.holders.nobody.Goals as goal

pub returns : goal.returns
returns c = holder_at-replicate 512
