use Rattle.std.proofs.Common.{arith, map}
use Rattle.sc_tree.specs.View.{declaration_of}
use Rattle.sc_warnings.specs.Views.{site_of}
use Rattle.sc_warnings.specs.Warnings.{are_reserved}
use Rattle.sc_warnings.proofs.Looks.{reserved_end, reserved_more, reserved_not}
use Rattle.sc_warnings.proofs.waiting.are_reserved.Goals as goal

pub loop-index-preserved : goal.loop-index-preserved
loop-index-preserved c =
    reserved_more (map site_of c.args.calls.now) c.args.feature.now c.args.formals.now (map site_of c.args.clause.now) c.loop-index.index c.index-formals-index.result
    c.is_reserved_if_named.result (are_reserved (map site_of c.args.calls.now) c.args.feature.now 0 (map declaration_of c.args.formals.now) (map site_of c.args.clause.now))
    c.loop-index-test.true c.index-formals-index.is c.loop-index.invariant c.is_reserved_if_named.ensures c.if-not-is_reserved_if_named.false

pub returns-then-not-is_reserved_if_named : goal.returns-then-not-is_reserved_if_named
returns-then-not-is_reserved_if_named c =
    reserved_not (map site_of c.args.calls.now) c.args.feature.now c.args.formals.now (map site_of c.args.clause.now) c.loop-index.index c.index-formals-index.result
    c.is_reserved_if_named.result (are_reserved (map site_of c.args.calls.now) c.args.feature.now 0 (map declaration_of c.args.formals.now) (map site_of c.args.clause.now))
    c.loop-index-test.true c.index-formals-index.is c.loop-index.invariant c.is_reserved_if_named.ensures c.if-not-is_reserved_if_named.true

pub returns : goal.returns
returns c =
    reserved_end (map site_of c.args.calls.now) c.args.feature.now c.args.formals.now (map site_of c.args.clause.now) c.loop-index.index
    (are_reserved (map site_of c.args.calls.now) c.args.feature.now 0 (map declaration_of c.args.formals.now) (map site_of c.args.clause.now))
    (omega (arith, c.loop-index-test.false)) c.loop-index.invariant
