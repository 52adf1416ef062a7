use Rattle.std.proofs.Common.{◌≡◌, ◌++◌, ◌∷◌, ◌∙◌, [], ℕ, List, ap, subst}
use Rattle.sc_world.specs.Views.{world_in}
use Rattle.sc_play.specs.Contents.{contents_at}
use Rattle.sc_search.specs.Numbering.{AddsNumbers}
use Rattle.sc_search.specs.Views.{contents_in}
use Rattle.sc_search.proofs.Stores.{tuple_kept, tuple_numbered}
use Rattle.sc_search.proofs.store.Store.number.Goals as goal

pub returns-clause-kept : goal.returns-clause-kept
returns-clause-kept c =
    let w = world_in c.args.world.now in
    let n = c.used-used.result in
    let before = contents_in c.number_regions.new.self in
    let first = c.number_regions.new.tuple.items in
    let tuple = c.number_parts.new.tuple.items in
    let y = c.number_parts.new.self in
    let begins : c.push.new.self.items ≡ w.center.state.count ∷ [] =
    c.in_ok-push.ensures.items ∙ ap (λ (xs : List ℕ). xs ++ c.handler_count.result ∷ []) c.clear.ensures.items ∙ ap (λ (k : ℕ). k ∷ []) c.handler_count.ensures in
    let regions : AddsNumbers before (contents_at w.regions) n (w.center.state.count ∷ []) first =
    subst (λ (xs : List ℕ). AddsNumbers before (contents_at w.regions) n xs first) begins c.in_ok-number_regions.ensures.adds in
    let stay = c.in_ok-number_parts.ensures.grows.contents in
    record {
      numbered = tuple_numbered w n before c.args.self.now y first tuple tuple regions stay c.in_ok-number_parts.ensures.adds c.used-used.ensures.few c.used-used.ensures.count;
      kept_is = tuple_kept w n before c.args.self.now y first tuple tuple regions stay c.in_ok-number_parts.ensures.adds c.worlds_are_kept_by_numbers.ensures
          c.used-used.ensures.new;
    }
