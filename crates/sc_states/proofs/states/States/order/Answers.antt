use Rattle.std.proofs.Common.{◌≡◌, ◌<◌, ◌++◌, [], ◌∙◌, ℕ, List, length, get_or, reverse, sym, ap, subst, arith}
use Rattle.std.proofs.lemmas.List.{append-nil, get_or_default}
use Rattle.std.proofs.lemmas.Option.{same_Some, slice_get-get_or}
use Rattle.sc_states.specs.Orders.{orders_in}
use Rattle.sc_states.specs.RowViews.{rows_of}
use Rattle.sc_states.proofs.Walks.{IsWalked, walk_end, walk_next}
use Rattle.sc_states.proofs.states.States.order.Goals as goal

pub loop-at-init : goal.loop-at-init
loop-at-init c =
    let s = c.args.self.now in
    record {
      there = omega (arith, c.requires, s.counted);
      so = ap (λ (xs : List ℕ). get_or (orders_in s.parents.items (rows_of s.steps)) c.args.number [] ++ reverse xs) c.new-turns.ensures.items ∙ append-nil _;
    }

pub loop-at-preserved : goal.loop-at-preserved
loop-at-preserved c =
    let s = c.args.self.now in
    let ts = rows_of s.steps in
    let at = c.loop-at.at in
    let order = get_or (orders_in s.parents.items ts) c.args.number [] in
    let same : length ts ≡ length s.parents.items = omega (arith, s.stepped, s.counted) in
    let below : at < length s.parents.items = c.loop-at.invariant.there in
    let step : c.row.result.now ≡ get_or ts at [] =
    sym (same_Some (get_or ts at []) c.row.result.now (sym (slice_get-get_or ts at [] (omega (arith, below, same))) ∙ c.row.ensures)) in
    let parent : c.index-at.result.now ≡ get_or s.parents.items at 0 = c.index-at.ensures ∙ get_or_default s.parents.items at c.index-at.result.now 0 below in
    subst (λ (p : ℕ). IsWalked s.parents.items ts p c.push_reversed.new.turns.items order) (sym parent)
    (subst (λ (xs : List ℕ). IsWalked s.parents.items ts (get_or s.parents.items at 0) xs order)
    (sym (c.in_ok-push_reversed.ensures ∙ ap (λ (xs : List ℕ). c.loop-at.turns.items ++ reverse xs) step))
    (walk_next s.parents.items ts at c.loop-at.turns.items order s.earlier same (omega arith) c.loop-at.invariant))

pub returns : goal.returns
returns c =
    let s = c.args.self.now in
    let ts = rows_of s.steps in
    let same : length ts ≡ length s.parents.items = omega (arith, s.stepped, s.counted) in
    let e : c.loop-at.at ≡ 0 = omega arith in
    let order = get_or (orders_in s.parents.items ts) c.args.number [] in
    let w : IsWalked s.parents.items ts 0 c.loop-at.turns.items order =
    subst (λ (k : ℕ). IsWalked s.parents.items ts k c.loop-at.turns.items order) e c.loop-at.invariant in
    let step : c.row-2.result.now ≡ get_or ts 0 [] =
    sym (same_Some (get_or ts 0 []) c.row-2.result.now (sym (slice_get-get_or ts 0 [] (omega (arith, w.there, same))) ∙ c.row-2.ensures)) in
    c.reverse.ensures.items ∙ ap reverse (c.in_ok-push_reversed-2.ensures ∙ ap (λ (xs : List ℕ). c.loop-at.turns.items ++ reverse xs) step)
    ∙ walk_end s.parents.items ts c.loop-at.turns.items order same w
