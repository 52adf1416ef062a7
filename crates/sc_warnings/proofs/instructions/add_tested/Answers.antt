use Rattle.std.proofs.Common.{[], ◌∷◌, map}
use Rattle.sc_tree.specs.View.{expr_of}
use Rattle.sc_warnings.specs.Sites.{sites_of}
use Rattle.sc_warnings.specs.Views.{site_of}
use Rattle.sc_warnings.proofs.Added.{two_if_ok}
use Rattle.sc_warnings.proofs.instructions.add_tested.Goals as goal

pub returns : goal.returns
returns c =
    two_if_ok c.add_expression.result (map site_of c.args.sites.now.items) (map site_of c.add_site.new.sites.items) (map site_of c.add_expression.new.sites.items)
    (site_of c.args.site ∷ []) (sites_of (map (λ name. name.now) c.args.names.now) (expr_of c.args.tested.now)) c.in_ok-add_site.ensures c.add_expression.ensures
