use Rattle.std.proofs.Common.{map}
use Rattle.std.specs.List.{flat_map}
use Rattle.std.proofs.lemmas.List.Folds.{flat_map-map}
use Rattle.sc_tree.specs.declared.instruction.Head.{Head}
use Rattle.sc_tree.specs.View.{head_of}
use Rattle.sc_warnings.specs.Sites.{sites_of_head}
use Rattle.sc_warnings.specs.Views.{site_of}
use Rattle.sc_warnings.proofs.Added.{all_given, next_given}
use Rattle.sc_warnings.proofs.instructions.add_heads.Goals as goal

pub loop-head-preserved : goal.loop-head-preserved
unfolding head_of
loop-head-preserved c =
    next_given (λ (k : Head). sites_of_head (map (λ name. name.now) c.args.names.now) (head_of k)) c.args.heads.now c.loop-head.head-index c.head-item.result
    (map site_of c.args.sites.now.items) (map site_of c.loop-head.sites.items) (map site_of c.add_expression.new.sites.items)
    c.loop-head-test.true c.head-item.is c.loop-head.invariant c.in_ok-add_expression.ensures

pub returns : goal.returns
returns c =
    let f = sites_of_head (map (λ name. name.now) c.args.names.now) in
    all_given (λ (k : Head). f (head_of k)) c.args.heads.now c.loop-head.head-index (map site_of c.args.sites.now.items)
    (map site_of c.loop-head.sites.items) (flat_map f (map head_of c.args.heads.now)) c.loop-head-test.false (flat_map-map f head_of c.args.heads.now) c.loop-head.invariant
