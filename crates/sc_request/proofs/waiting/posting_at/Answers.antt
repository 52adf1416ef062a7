use Rattle.std.proofs.lemmas.Iterator.Consumers.{YieldsList-from_rest, nth_from_yields_List}
use Rattle.sc_request.proofs.waiting.posting_at.Goals as goal

pub returns : goal.returns
returns c = nth_from_yields_List _ _ c.args.number c.nth.ensures.ran (YieldsList-from_rest c.args.place.now.queue c.iter.ensures.rest)
