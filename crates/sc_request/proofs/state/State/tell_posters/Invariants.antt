use Rattle.std.proofs.Common.{◌≡◌, length, map}
use Rattle.sc_handler.specs.InMemory.{posting_of}
use Rattle.sc_request.specs.Places.{outs_of, plain, tells}
use Rattle.sc_request.specs.Sound.{ArePlaced}
use Rattle.sc_request.proofs.state.State.tell_posters.Given as goal

abbrev pub invariant-loop-posting : goal.invariant-loop-posting
invariant-loop-posting l = record {
  told : tells (map posting_of l.postings) (plain l.self) ≡ tells (map posting_of l.initial.postings) (plain l.initial.self);
  placed : ArePlaced (map posting_of l.postings);
  outs : outs_of l.self ≡ outs_of l.initial.self;
  version : l.self.rights.version ≡ l.initial.self.rights.version;
}

abbrev pub decreases-loop-posting : goal.decreases-loop-posting
decreases-loop-posting l = length l.postings
