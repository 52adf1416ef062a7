use Rattle.std.proofs.Common.{◌∙◌}
use Rattle.sc_lockpass.specs.Tables.{rights_of}
use Rattle.sc_request.proofs.Releases.{free_then, reserved_over}
use Rattle.sc_request.proofs.sessions.reserve_each.Goals as goal

pub reserve-requires-clause-unreserved : goal.reserve-requires-clause-unreserved
reserve-requires-clause-unreserved c =
    free_then c.args.handlers.now (rights_of c.args.rights.now) (rights_of c.release_each.new.rights) (c.release_each.ensures.queue, c.release_each.ensures.top)

pub returns-clause-rights : goal.returns-clause-rights
returns-clause-rights c =
    c.reserve.ensures.rights
    ∙ reserved_over c.args.holder c.args.handlers.now (rights_of c.args.rights.now) (rights_of c.release_each.new.rights) (c.release_each.ensures.queue, c.release_each.ensures.top)
