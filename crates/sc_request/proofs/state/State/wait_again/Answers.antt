use Rattle.std.proofs.Common.{◌≡◌, ℕ, List, rules, ◌∙◌, ap}
use Rattle.std.specs.Prelude.{slice_index}
use Rattle.sc_lockpass.specs.wait_conditions.Reservations.{mark_of}
use Rattle.sc_lockpass.specs.Tables.{rights_of}
use Rattle.sc_request.specs.Places.{plain}
use Rattle.sc_request.proofs.Releases.{released, waits}
use Rattle.sc_request.proofs.state.State.wait_again.Goals as goal

pub returns-clause-plain : goal.returns-clause-plain
returns-clause-plain c =
    let e : c.as_slice.result.now ≡ c.args.self.now.sessions.items = search rules in
    let s = c.reserve_again.new.self in
    waits s.count s.handlers.items s.sessions.items s.rights c.release_each.new.rights (plain c.args.self.now) c.args.handler c.args.handlers.now c.of-mark.result
    (c.of-mark.ensures ∙ ap (λ (l : List ℕ). mark_of (slice_index l) c.args.handlers.now) e) c.reserve_again.ensures.plain (released c.args.handlers.now (rights_of s.rights) (rights_of c.release_each.new.rights) (c.release_each.ensures.queue, c.release_each.ensures.top))
