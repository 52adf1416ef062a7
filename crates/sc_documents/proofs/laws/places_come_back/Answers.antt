use Rattle.sc_documents.proofs.Places.{comes-back}
use Rattle.sc_documents.proofs.laws.places_come_back.Goals as goal

pub returns : goal.returns
returns c = comes-back
