use Rattle.std.proofs.Common.{sym, ◌∙◌}
use Rattle.sc_lockpass.specs.Tables.{passed_of, rights_of}
use Rattle.sc_request.proofs.Releases.{cleared_queue, cleared_top, given_queue, given_top, none_of}
use Rattle.sc_request.proofs.sessions.give_new.Goals as goal

pub returns-then-is_some-clause-queue : goal.returns-then-is_some-clause-queue
returns-then-is_some-clause-queue c = λ k.
    cleared_queue c.args.holder c.args.made k (passed_of c.pass-nothing.result) (rights_of c.new.result) (rights_of c.args.rights.now) (rights_of c.reserve_each.new.rights)
    (rights_of c.give_back.new.self) c.pass-nothing.ensures.passed c.new.ensures.rights c.reserve_each.ensures.rights c.give_back.ensures.rights

pub returns-then-is_some-clause-top : goal.returns-then-is_some-clause-top
returns-then-is_some-clause-top c = λ k.
    cleared_top c.args.holder c.args.made k (passed_of c.pass-nothing.result) (rights_of c.new.result) (rights_of c.args.rights.now) (rights_of c.reserve_each.new.rights)
    (rights_of c.give_back.new.self) c.pass-nothing.ensures.passed c.new.ensures.rights c.reserve_each.ensures.rights c.give_back.ensures.rights

pub returns-else-is_some-clause-queue : goal.returns-else-is_some-clause-queue
returns-else-is_some-clause-queue c = λ k.
    given_queue c.args.holder c.args.made k (rights_of c.args.rights.now) (rights_of c.reserve_each.new.rights) c.reserve_each.ensures.rights

pub returns-else-is_some-clause-top : goal.returns-else-is_some-clause-top
returns-else-is_some-clause-top c = λ k.
    given_top c.args.holder c.args.made k (rights_of c.args.rights.now) (rights_of c.reserve_each.new.rights) c.reserve_each.ensures.rights
    (sym c.top.ensures ∙ none_of c.top.result (sym c.is_some.ensures ∙ c.if-is_some.false))
