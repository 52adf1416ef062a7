use Rattle.std.proofs.Common.{◌∙◌, ◌==◌, ◌&&◌, Option, Bool, ℕ, ap, not}
use Rattle.sc_lockpass.specs.Rights.{is_handler}
use Rattle.sc_lockpass.specs.Tables.{is_member, rights_of}
use Rattle.sc_request.proofs.Waiters.{by_each}
use Rattle.sc_request.proofs.state.State.without_holders.Goals as goal

pub returns : goal.returns
returns c = λ k below.
    let r = rights_of c.args.self.now.rights in
    let n = c.args.needed in
    c.dismiss-3.ensures k below
    ∙ ap (λ (o : Option ℕ). not (is_handler k o) && is_member c.dismiss-2.new.self.words k) c.top.ensures
    ∙ ap (λ (b : Bool). not (is_handler k (r.top n)) && b)
    (c.dismiss-2.ensures k below
    ∙ ap (λ (o : Option ℕ). not (is_handler k o) && is_member c.dismiss.new.self.words k) c.queue.ensures
    ∙ ap (λ (b : Bool). not (is_handler k (r.queue n)) && b) (c.dismiss.ensures k below))
    ∙ by_each (n == k) (is_handler k (r.queue n)) (is_handler k (r.top n)) (is_member c.args.crowd.words k)
