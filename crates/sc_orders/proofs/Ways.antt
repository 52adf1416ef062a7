-- How long edges lead on.
use Rattle.std.proofs.Common.{◌≡◌, ◌≤◌, ◌<◌, ◌+◌, ◌∙◌, inl, inr, ℕ, zero, suc, Bool, IsTrue, true, false, List, Option, Some, None, is_some, get_or, length, slice_get, refl, sym, ap, subst, arith}
use Rattle.std.specs.Prelude.{IfSome}
use Rattle.std.proofs.lemmas.Bool.{cases_lt}
use Rattle.std.proofs.lemmas.List.{get_or_past}
use Rattle.sc_orders.specs.declared.edges.Edge.{Edge}
use Rattle.sc_orders.specs.Marks.{AllGoOn, AreFollowed, AreMet, IsFollowed, IsMet}
use Rattle.sc_orders.specs.Ways.{AreAtMost, Go, IsWay, LeadsFor, Stay}

-- ---- ways that end

-- the edges before this place lead to states with as many turns, none of which has more than the most
pub record AreTold (edges : List Edge) (turns : List ℕ) (most before : ℕ) : Type 0 where
  pub after : (place : ℕ) (edge : Edge) → slice_get edges place ≡ Some edge → place < before →
      (get_or turns edge.from 0 + edge.turns ≤ get_or turns edge.to 0) × (get_or turns edge.to 0 ≤ most) × (1 ≤ edge.turns)

pub told_none : (edges : List Edge) (turns : List ℕ) (most : ℕ) → AreTold edges turns most 0
told_none edges turns most = record { after = λ place edge at below. absurd (omega (arith, below)) }

pub told_next : (edges : List Edge) (turns : List ℕ) (most more before : ℕ) (edge : Edge) → AreTold edges turns most before → most ≤ more →
    slice_get edges before ≡ Some edge → get_or turns edge.from 0 + edge.turns ≤ get_or turns edge.to 0 → get_or turns edge.to 0 ≤ more → 1 ≤ edge.turns →
    AreTold edges turns more (before + 1)
told_next edges turns most more before edge so up at after few some = record {
  after = λ place e at_e below. elim (cases_lt place before) [
    | inl less ↦ let one = so.after place e at_e less in (one.0, omega (arith, one.1, up), one.2)
    | inr last ↦
        let here : place ≡ before = omega (arith, below, last) in
        let both : Some e ≡ Some edge = sym at_e ∙ ap (λ (n : ℕ). slice_get edges n) here ∙ at in
        let same : edge ≡ e = cc in
        subst (λ (x : Edge). (get_or turns x.from 0 + x.turns ≤ get_or turns x.to 0) × (get_or turns x.to 0 ≤ more) × (1 ≤ x.turns)) same (after, few, some)
  ];
}

module _ (edges : List Edge) (turns : List ℕ) (most before : ℕ) (told : AreTold edges turns most before)
    (all : (place : ℕ) (edge : Edge) → slice_get edges place ≡ Some edge → place < before) where
  -- a way leads to a state with as many turns
  along : (to from count sum : ℕ) → IsWay edges to from count sum → (get_or turns from 0 + sum ≤ get_or turns to 0) × (count ≤ sum)
  along to from count sum Stay = (omega arith, omega arith)
  along to from count sum (Go place edge fewer more at rest) =
      let one = told.after place edge at (all place edge at) in
      let others = along to edge.to fewer more rest in
      (omega (arith, one.0, others.0), omega (arith, one.2, others.1))

  -- and to one with no more than the most
  within : (to from count sum : ℕ) → get_or turns from 0 ≤ most → IsWay edges to from count sum → get_or turns to 0 ≤ most
  within to from count sum few Stay = few
  within to from count sum few (Go place edge fewer more at rest) = within to edge.to fewer more (told.after place edge at (all place edge at)).1 rest

  pub at_most : (first : ℕ) → first ≤ get_or turns 0 0 → get_or turns 0 0 ≤ most → AreAtMost first edges most
  at_most first begins few = λ to count sum way.
      let so = along to 0 count sum way in
      let end = within to 0 count sum few way in
      (omega (arith, so.0, end, begins), so.1)

-- ---- ways that go on

-- a way of at least this number of edges
pub record IsLong (edges : List Edge) (to from least : ℕ) : Type 0 where
  pub count : ℕ
  pub turns : ℕ
  pub many : least ≤ count
  pub way : IsWay edges to from count turns

-- a way of at least this number of edges, and of this number of turns
pub record IsLonger (edges : List Edge) (to from least all : ℕ) : Type 0 where
  pub count : ℕ
  pub turns : ℕ
  pub many : least ≤ count
  pub sum : turns ≡ all
  pub way : IsWay edges to from count turns

pub way_more : (edges : List Edge) (to from count turns place : ℕ) (edge : Edge) → slice_get edges place ≡ Some edge → edge.from ≡ to → IsWay edges to from count turns →
    IsLonger edges edge.to from (1 + count) (turns + edge.turns)
way_more edges to from count turns place edge at here Stay = record {
  count = 1;
  turns = edge.turns + 0;
  many = omega arith;
  sum = omega arith;
  way = subst (λ (n : ℕ). IsWay edges edge.to n 1 (edge.turns + 0)) here (Go place edge 0 0 at Stay);
}
way_more edges to from count turns place edge at here (Go first e fewer more at_e rest) =
    let longer = way_more edges to e.to fewer more place edge at here rest in
    record {
      count = 1 + longer.count;
      turns = e.turns + longer.turns;
      many = omega (arith, longer.many);
      sum = omega (arith, longer.sum);
      way = Go first e longer.count longer.turns at_e longer.way;
    }

way_join : (edges : List Edge) (to middle from one two a b : ℕ) → IsWay edges middle from one a → IsWay edges to middle two b → IsLong edges to from two
way_join edges to middle from one two a b Stay second = record { count = two; turns = b; many = omega arith; way = second }
way_join edges to middle from one two a b (Go place e fewer more at rest) second =
    let joined = way_join edges to middle e.to fewer two more b rest second in
    record { count = 1 + joined.count; turns = e.turns + joined.turns; many = omega (arith, joined.many); way = Go place e joined.count joined.turns at joined.way }

module _ (edges : List Edge) (left : List ℕ) (followed met : List Bool) (are_followed : AreFollowed edges left followed) (are_met : AreMet edges met)
    (all : AllGoOn left followed met) where
  -- edges lead to each state
  reach : (bound state : ℕ) → state < bound → state < length left → IsLong edges state 0 0
  reach zero state below there = absurd (omega (arith, below))
  reach (suc bound) zero below there = record { count = 0; turns = 0; many = omega arith; way = Stay }
  reach (suc bound) (suc n) below there =
      let m : IsMet edges (suc n) = are_met (suc n) (all.met_all (suc n) (omega arith) there) in
      let before = reach bound m.edge.from (omega (arith, m.earlier, below)) (omega (arith, m.earlier, there)) in
      let longer = way_more edges m.edge.from 0 before.count before.turns m.place m.edge m.at refl before.way in
      record { count = longer.count; turns = longer.turns; many = omega arith; way = subst (λ (s : ℕ). IsWay edges s 0 longer.count longer.turns) m.to_is longer.way }

  -- edges lead to each state that is left from another such, as many as one likes
  back : (least state : ℕ) → 0 < get_or left state 0 → (from : ℕ) × (0 < get_or left from 0) × IsLong edges state from least
  back zero state is_left = (state, is_left, record { count = 0; turns = 0; many = omega arith; way = Stay })
  back (suc least) state is_left =
      let f : IsFollowed edges left state = are_followed state (all.followed_all state is_left) in
      let rest = back least f.edge.from f.from_left in
      let longer = way_more edges f.edge.from rest.0 rest.2.count rest.2.turns f.place f.edge f.at refl rest.2.way in (
        rest.0,
        rest.1,
        record {
          count = longer.count;
          turns = longer.turns;
          many = omega (arith, longer.many, rest.2.many);
          way = subst (λ (s : ℕ). IsWay edges s rest.0 longer.count longer.turns) f.to_is longer.way;
        },
      )

  there_is : (state : ℕ) → 0 < get_or left state 0 → state < length left
  there_is state is_left = elim (cases_lt state (length left)) [
    | inl less ↦ less
    | inr past ↦ absurd (let none : get_or left state 0 ≡ 0 = get_or_past left state 0 (omega (arith, past)) in omega (arith, none, is_left))
  ]

  pub leads_for : (least : ℕ) → LeadsFor edges least
  leads_for least =
      let last = back least all.state all.is_left in
      let first = reach (length left) last.0 (there_is last.0 last.1) (there_is last.0 last.1) in
      let joined = way_join edges all.state last.0 0 first.count last.2.count first.turns last.2.turns first.way last.2.way in
      record { to = all.state; count = joined.count; turns = joined.turns; many = omega (arith, joined.many, last.2.many); way = joined.way }

-- where all are gone through
pub all_so : (left : List ℕ) (followed met : List Bool) (below : ℕ) (some : Option ℕ) (b : Bool) → b ≡ is_some some → IsTrue b → IfSome some (λ state. 0 < get_or left state 0) →
    length left ≤ below → ((s : ℕ) → s < below → 0 < get_or left s 0 → get_or followed s false ≡ true) →
    ((s : ℕ) → 0 < s → s < below → get_or met s false ≡ true) → AllGoOn left followed met
all_so left followed met below None b e holds one past followed_all met_all = let no : false ≡ true = sym e ∙ holds in cc
all_so left followed met below (Some state) b e holds one past followed_all met_all = record {
  state = state;
  is_left = one;
  followed_all = λ s is_left. elim (cases_lt s (length left)) [
    | inl less ↦ followed_all s (omega (arith, less, past)) is_left
    | inr over ↦ absurd (let none : get_or left s 0 ≡ 0 = get_or_past left s 0 (omega (arith, over)) in omega (arith, none, is_left))
  ];
  met_all = λ s some_ there. met_all s some_ (omega (arith, there, past));
}
