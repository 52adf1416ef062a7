use Rattle.std.proofs.Common.{◌≡◌, ◌++◌, map, take}
use Rattle.std.specs.List.{flat_map}
use Rattle.sc_tree.specs.View.{head_of}
use Rattle.sc_warnings.specs.Sites.{sites_of_head}
use Rattle.sc_warnings.specs.Views.{site_of}
use Rattle.sc_warnings.proofs.instructions.add_heads.Given as goal

abbrev pub invariant-loop-head : goal.invariant-loop-head
invariant-loop-head l =
    map site_of l.sites.items
    ≡ map site_of l.initial.sites.items ++ flat_map (λ k. sites_of_head (map (λ name. name.now) l.names) (head_of k)) (take l.head-index l.heads)
