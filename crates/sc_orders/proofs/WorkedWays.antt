-- Two cases worked out: three states in a line, and two states with a loop.
use Rattle.std.proofs.Common.{◌+◌, ◌∷◌, [], ℕ, zero, suc, List, refl, subst, arith}
use Rattle.std.proofs.lemmas.Option.{slice_get_within}
use Rattle.sc_orders.specs.declared.edges.Edge.{Edge}
use Rattle.sc_orders.specs.Ways.{AreAtMost, Go, IsWay, LeadsFor, Stay}
use Rattle.sc_orders.proofs.Ways.{AreTold, at_most, told_next, told_none}

abbrev edge_of : ℕ → ℕ → ℕ → Edge
edge_of m n t = record { from = m; to = n; turns = t }

-- ---- a line: two turns lead from the first state to the second, and three to the third

abbrev line : List Edge
line = edge_of 0 1 2 ∷ edge_of 1 2 3 ∷ []

line_way : IsWay line 2 0 2 5
line_way = Go 0 (edge_of 0 1 2) 1 3 refl (Go 1 (edge_of 1 2 3) 0 0 refl Stay)

abbrev line_turns : List ℕ
line_turns = 0 ∷ 2 ∷ 5 ∷ []

line_told : AreTold line line_turns 5 2
line_told =
    told_next line line_turns 5 5 1 (edge_of 1 2 3)
    (told_next line line_turns 5 5 0 (edge_of 0 1 2) (told_none line line_turns 5) (omega arith) refl (omega arith) (omega arith) (omega arith))
    (omega arith) refl (omega arith) (omega arith) (omega arith)

line_ends : AreAtMost 0 line 5
line_ends = at_most line line_turns 5 2 line_told (λ place edge at. slice_get_within line place edge at) 0 (omega arith) (omega arith)

-- a number smaller by one is none that it ends at
line_no_less : AreAtMost 0 line 4 → ⊥
line_no_less all = let few = all 2 2 5 line_way in absurd (omega (arith, few.0))

-- ---- a loop: a turn leads from the first state to the second, and one from there to itself

abbrev loop : List Edge
loop = edge_of 0 1 1 ∷ edge_of 1 1 1 ∷ []

round : (count : ℕ) → IsWay loop 1 1 count count
round zero = Stay
round (suc n) = subst (λ (m : ℕ). IsWay loop 1 1 m m) (omega arith) (Go 1 (edge_of 1 1 1) n n refl (round n))

loop_goes_on : (least : ℕ) → LeadsFor loop least
loop_goes_on least = record {
  to = 1;
  count = 1 + least;
  turns = 1 + least;
  many = omega arith;
  way = Go 0 (edge_of 0 1 1) least least refl (round least);
}

-- so it ends after no number of turns
loop_no_end : (most : ℕ) → AreAtMost 0 loop most → ⊥
loop_no_end most all =
    let on = loop_goes_on (most + 1) in
    let few = all on.to on.count on.turns on.way in
    absurd (omega (arith, few.0, few.1, on.many))
