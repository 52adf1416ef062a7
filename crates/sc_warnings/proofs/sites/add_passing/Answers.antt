use Rattle.std.proofs.Common.{◌∙◌, ◌++◌, ◌∷◌, [], ap, arith, map}
use Rattle.sc_tree.specs.View.{exprs_of}
use Rattle.sc_warnings.specs.Sites.{passed, sites_of_passing}
use Rattle.sc_warnings.specs.Views.{site_of}
use Rattle.sc_warnings.proofs.Looks.{passing_next, passing_end}
use Rattle.sc_warnings.proofs.sites.add_passing.Goals as goal

pub loop-index-preserved : goal.loop-index-preserved
loop-index-preserved c =
    let n = map (λ name. name.now) c.args.names.now in
    passing_next n c.args.feature.now c.args.actuals.now c.loop-index.index c.index-actuals-index.result
    (map site_of c.args.sites.now.items ++ sites_of_passing n c.args.feature.now 0 (exprs_of c.args.actuals.now)) (map site_of c.loop-index.sites.items)
    (map site_of c.add_site.new.sites.items) c.loop-index-test.true c.index-actuals-index.is c.loop-index.invariant
    (c.in_ok-add_site.ensures ∙ ap (λ b. map site_of c.loop-index.sites.items ++ passed c.args.feature.now c.loop-index.index b ∷ []) c.is_reserved-is_reserved.ensures)

pub returns : goal.returns
returns c =
    let n = map (λ name. name.now) c.args.names.now in
    passing_end n c.args.feature.now c.args.actuals.now c.loop-index.index
    (map site_of c.args.sites.now.items ++ sites_of_passing n c.args.feature.now 0 (exprs_of c.args.actuals.now)) (map site_of c.loop-index.sites.items)
    (omega (arith, c.loop-index-test.false)) c.loop-index.invariant
