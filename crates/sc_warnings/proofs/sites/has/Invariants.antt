use Rattle.std.proofs.Common.{◌≡◌, drop, map}
use Rattle.sc_warnings.specs.Sites.{has}
use Rattle.sc_warnings.specs.Views.{site_of}
use Rattle.sc_warnings.proofs.sites.has.Given as goal

abbrev pub invariant-loop-site : goal.invariant-loop-site
invariant-loop-site l = has (site_of l.wanted) (map site_of (drop l.site-index l.sites)) ≡ has (site_of l.wanted) (map site_of l.sites)
