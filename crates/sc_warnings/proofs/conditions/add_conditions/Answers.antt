use Rattle.std.proofs.Common.{map}
use Rattle.std.specs.List.{flat_map}
use Rattle.std.proofs.lemmas.List.Folds.{flat_map-map}
use Rattle.sc_warnings.specs.declared.sites.Site.{Site}
use Rattle.sc_warnings.specs.Views.{site_of}
use Rattle.sc_warnings.specs.Warnings.{warnings_at}
use Rattle.sc_warnings.proofs.Added.{all_given, next_given}
use Rattle.sc_warnings.proofs.conditions.add_conditions.Goals as goal

pub loop-site-preserved : goal.loop-site-preserved
loop-site-preserved c =
    next_given (λ (x : Site). warnings_at (site_of x)) c.args.sites.now c.loop-site.site-index c.site-item.result
    c.args.warnings.now.items c.loop-site.warnings.items c.add_warnings_at.new.warnings.items
    c.loop-site-test.true c.site-item.is c.loop-site.invariant c.in_ok-add_warnings_at.ensures

pub returns : goal.returns
returns c =
    let f = warnings_at in
    all_given (λ (x : Site). f (site_of x)) c.args.sites.now c.loop-site.site-index c.args.warnings.now.items
    c.loop-site.warnings.items (flat_map f (map site_of c.args.sites.now)) c.loop-site-test.false (flat_map-map f site_of c.args.sites.now)
    c.loop-site.invariant
