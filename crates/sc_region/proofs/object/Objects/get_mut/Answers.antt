use Rattle.std.proofs.Common.{◌≡◌, ◌+◌, ◌-◌, ◌%◌, ◌<◌, ◌≤◌, ℕ, MutBor, length, map, ◌∙◌, arith}
use Rattle.std.specs.Option.{ghost_name_of}
use borrow.Follows.Closed.{read_of}
use Rattle.sc_region.specs.declared.object.Object.{Object}
use Rattle.sc_region.specs.Objects.{object_of}
use Rattle.sc_region.proofs.Stacks.{found_at}
use Rattle.sc_region.proofs.Placed.{object_at, object_put}
use Rattle.sc_region.proofs.object.Objects.get_mut.Goals as goal

pub returns : goal.returns
returns c =
    let os = c.self.inside.items.items in
    let k = c.args.number in
    let n : ℕ = (k + 18446744073709551615) % 18446744073709551616 in
    let none : k ≡ 0 → length os ≤ n = λ e. omega (arith, e, c.self.inside.items.ok.0, c.self.inside.items.small) in
    let some : 0 < k → n ≡ k - 1 = λ l. omega (arith, l, c.ranges) in
    rw (← c.self.view_is) (
      λ t. read_of (ghost_name_of c.get_mut.result) (λ (w : Object). object_put os k n w none some t) (map object_of os),
      record {
        writes_back = tt;
        value =
            found_at object_of (λ (o : MutBor Object). o.now) os n c.get_mut.result c.get_mut.ensures.item.0 c.get_mut.ensures.item.1
            ∙ object_at os k n none some;
      },
    )
