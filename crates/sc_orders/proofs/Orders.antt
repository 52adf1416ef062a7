-- What edges tell of orders.
use Rattle.std.proofs.Common.{◌≡◌, ◌⊎◌, ◌∙◌, ◌++◌, inl, inr, ℕ, Bool, true, false, List, [], ◌∷◌, get_or, refl, sym, ap, subst}
use Rattle.sc_orders.specs.declared.edges.Edge.{Edge}
use Rattle.sc_orders.specs.Edges as edge
use Rattle.sc_orders.specs.Edges.{Along, HasEdge, Here}
use Rattle.sc_orders.specs.Orders.{AreBusy, AreEdges, EdgesTell, Leads, MayMove, NeverMoves}

true_or : (b : Bool) → (b ≡ true → ⊥) → b ≡ false
true_or true never = absurd (never refl)
true_or false never = refl

-- further turns
pub leads_join : {W : Type 0} (Turn : ℕ → W → W → Type 0) (hs gs : List ℕ) (x y z : W) → Leads Turn hs x y → Leads Turn gs y z → Leads Turn (hs ++ gs) x z
leads_join Turn [] gs x y z same more = subst (λ w. Leads Turn gs w z) same more
leads_join Turn (h ∷ hs) gs x y z leads more = (leads.0, leads.1, leads_join Turn hs gs leads.0 y z leads.2 more)

-- turns, and then others
pub leads_split : {W : Type 0} (Turn : ℕ → W → W → Type 0) (hs gs : List ℕ) (x z : W) → Leads Turn (hs ++ gs) x z → (y : W) × Leads Turn hs x y × Leads Turn gs y z
leads_split Turn [] gs x z leads = (x, refl, leads)
leads_split Turn (h ∷ hs) gs x z leads =
    let rest = leads_split Turn hs gs leads.0 z leads.2 in
    (rest.0, (leads.0, leads.1, rest.1), rest.2)

module _ {W : Type 0} (Turn : ℕ → W → W → Type 0) (IsIn : ℕ → W → Type 0) (has_turn : ℕ → W → Bool) (edges : List Edge) (are : AreEdges Turn IsIn edges)
    (h : ℕ) (busy : List Bool) (are_busy : AreBusy IsIn has_turn h busy) where
  -- edges are turns
  may : (i : ℕ) → edge.Leads edges busy i → (w : W) → IsIn i w → MayMove Turn has_turn h w
  may i (Here state e) w is_in = record { handlers = []; world = w; leads = refl; turn = sym (are_busy i w is_in) ∙ e }
  may i (Along place e at rest) w is_in =
      let on = are.each place e at w is_in in
      let more = may e.to rest on.world on.is_in in
      record { handlers = on.handler ∷ more.handlers; world = more.world; leads = (on.world, on.turn, more.leads); turn = more.turn }

  -- and turns are edges
  never : (hs : List ℕ) (i : ℕ) (w : W) → IsIn i w → (edge.Leads edges busy i → ⊥) → (v : W) × Leads Turn hs w v × (has_turn h v ≡ false)
  never [] i w is_in none = (w, refl, sym (are_busy i w is_in) ∙ true_or (get_or busy i false) (λ e. none (Here i e)))
  never (g ∷ hs) i w is_in none =
      let on = are.all i w is_in g in
      let still : edge.Leads edges busy on.number → ⊥ = λ leads. none (back i on.number on.edge leads) in
      let more = never hs on.number on.world on.is_in still in
      (more.0, (on.world, on.turn, more.1), more.2)
    where
      back : (i j : ℕ) → (j ≡ i) ⊎ HasEdge edges i j → edge.Leads edges busy j → edge.Leads edges busy i
      back i j (inl same) leads = subst (λ (n : ℕ). edge.Leads edges busy n) same leads
      back i j (inr has) leads =
          subst (λ (n : ℕ). edge.Leads edges busy n) has.from_is
          (Along has.place has.edge has.at (subst (λ (n : ℕ). edge.Leads edges busy n) (sym has.to_is) leads))

  pub edges_tell : (i : ℕ) (w : W) → IsIn i w → EdgesTell Turn has_turn h w (edge.Leads edges busy i)
  edges_tell i w is_in = record { may = λ leads. may i leads w is_in; never = λ none hs. never hs i w is_in none }

-- ---- if each turn leads to one world

module _ {W : Type 0} (Turn : ℕ → W → W → Type 0) (one : (h : ℕ) (x y z : W) → Turn h x y → Turn h x z → y ≡ z) where
  -- so does each order,
  pub one_end : (hs : List ℕ) (x y z : W) → Leads Turn hs x y → Leads Turn hs x z → y ≡ z
  one_end [] x y z e f = e ∙ sym f
  one_end (h ∷ hs) x y z l m =
      let same : m.0 ≡ l.0 = one h x m.0 l.0 m.1 l.1 in
      one_end hs l.0 y z l.2 (subst (λ w. Leads Turn hs w z) same m.2)

  -- so a handler that never moves has no turn after any order,
  pub never_at_all : (has_turn : ℕ → W → Bool) (h : ℕ) (w : W) → NeverMoves Turn has_turn h w → (hs : List ℕ) (v : W) → Leads Turn hs w v → has_turn h v ≡ false
  never_at_all has_turn h w never hs v leads =
      let there = never hs in
      ap (has_turn h) (one_end hs w v there.0 leads there.1) ∙ there.2

  -- and one that may move isn't one that never does.
  pub not_both : (has_turn : ℕ → W → Bool) (h : ℕ) (w : W) → MayMove Turn has_turn h w → NeverMoves Turn has_turn h w → ⊥
  not_both has_turn h w m never = let no : true ≡ false = sym m.turn ∙ never_at_all has_turn h w never m.handlers m.world m.leads in cc
