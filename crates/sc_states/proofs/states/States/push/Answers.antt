use Rattle.std.proofs.Common.{◌≡◌, ◌+◌, ◌++◌, ◌∷◌, [], ◌∙◌, ℕ, List, length, map, sym, ap, subst, arith, length-append}
use Rattle.std.proofs.lemmas.List.{map-append}
use Rattle.sc_interning.specs.Views.{hashes_of}
use Rattle.sc_states.specs.Distinct.{AreDistinct}
use Rattle.sc_states.specs.Hashes.{hash_of}
use Rattle.sc_states.specs.Orders.{AreEarlier, orders_in}
use Rattle.sc_states.specs.RowViews.{rows_of}
use Rattle.sc_states.proofs.Distinct.{distinct_more}
use Rattle.sc_states.proofs.Walks.{earlier_more, orders_more}
use Rattle.sc_states.proofs.states.States.push.Goals as goal

pub invariant_of-self-2 : goal.invariant_of-self-2
invariant_of-self-2 c =
    let s = c.args.self.now in
    let tuples : rows_of c.push-2.new.self ≡ rows_of s.tuples ++ c.args.tuple.now ∷ [] =
    c.push-2.ensures ∙ ap (λ (xs : List (List ℕ)). xs ++ c.args.tuple.now ∷ []) c.make_room.ensures.rows in
    let steps : rows_of c.push-3.new.self ≡ rows_of s.steps ++ c.args.step.now ∷ [] =
    c.push-3.ensures ∙ ap (λ (xs : List (List ℕ)). xs ++ c.args.step.now ∷ []) c.make_room-2.ensures.rows in
    let parents : c.push_reserved.new.self.items ≡ s.parents.items ++ c.args.parent ∷ [] =
    c.push_reserved.ensures.items ∙ ap (λ (xs : List ℕ). xs ++ c.args.parent ∷ []) c.reserve.ensures.items in
    let ts = rows_of s.tuples in
    let count : length (rows_of c.push-2.new.self) ≡ length ts + 1 = ap length tuples ∙ length-append ts (c.args.tuple.now ∷ []) in
    let step_count : length (rows_of c.push-3.new.self) ≡ length (rows_of s.steps) + 1 = ap length steps ∙ length-append (rows_of s.steps) (c.args.step.now ∷ []) in
    let parent_count : length c.push_reserved.new.self.items ≡ length s.parents.items + 1 = ap length parents ∙ length-append s.parents.items (c.args.parent ∷ []) in
    record {
      stepped = omega (arith, count, step_count, s.stepped);
      counted = omega (arith, count, parent_count, s.counted);
      earlier = subst (λ (ps : List ℕ). AreEarlier ps) (sym parents)
          (earlier_more s.parents.items c.args.parent s.earlier (λ some. omega (arith, some, s.counted, c.requires.earlier)));
      hashed = ap (map hash_of) tuples ∙ map-append hash_of ts (c.args.tuple.now ∷ [])
          ∙ ap (λ (hs : List ℕ). hs ++ hash_of c.args.tuple.now ∷ []) s.hashed
          ∙ ap (λ (h : ℕ). hashes_of s.index ++ h ∷ []) (sym c.hash_of.ensures) ∙ sym c.in_ok-push.ensures.added;
      distinct = subst (λ (xs : List (List ℕ)). AreDistinct xs) (sym tuples) (distinct_more ts c.args.tuple.now s.distinct c.requires.new);
    }

pub returns-clause-orders : goal.returns-clause-orders
returns-clause-orders c =
    let s = c.args.self.now in
    let steps : rows_of c.push-3.new.self ≡ rows_of s.steps ++ c.args.step.now ∷ [] =
    c.push-3.ensures ∙ ap (λ (xs : List (List ℕ)). xs ++ c.args.step.now ∷ []) c.make_room-2.ensures.rows in
    let parents : c.push_reserved.new.self.items ≡ s.parents.items ++ c.args.parent ∷ [] =
    c.push_reserved.ensures.items ∙ ap (λ (xs : List ℕ). xs ++ c.args.parent ∷ []) c.reserve.ensures.items in
    ap (λ (ps : List ℕ). orders_in ps (rows_of c.push-3.new.self)) parents
    ∙ ap (λ (ts : List (List ℕ)). orders_in (s.parents.items ++ c.args.parent ∷ []) ts) steps
    ∙ orders_more [] s.parents.items (rows_of s.steps) c.args.parent c.args.step.now (omega (arith, s.stepped, s.counted))
