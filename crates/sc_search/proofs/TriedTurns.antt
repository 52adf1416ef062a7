-- Turns that are tried.
use Rattle.std.proofs.Common.{◌≡◌, ◌⊎◌, ◌+◌, ◌<◌, ◌^◌, ◌≤◌, ◌++◌, ◌∙◌, inl, inr, ℕ, zero, suc, Bool, true, false, List, [], ◌∷◌, Option, Some, None, get_or, is_some, length, slice_get, refl, sym, ap, subst, arith}
use Rattle.std.specs.Prelude.{min, nat_lt, if◌then◌else◌}
use Rattle.std.proofs.lemmas.Bool.{cases_lt, ltb-true}
use Rattle.std.proofs.lemmas.Option.{slice_get-get_or, slice_get_within}
use Rattle.sc_lockpass.specs.declared.version.Version.{Version}
use Rattle.sc_code.specs.declared.program.Image.{Image}
use Rattle.sc_region.specs.declared.job.Job.{Job}
use Rattle.sc_request.specs.Logs.{Center, pick_for}
use Rattle.sc_orders.specs.declared.edges.Edge.{Edge}
use Rattle.sc_world.specs.Kept.{PlainKept, kept}
use Rattle.sc_world.specs.Turning.{IsTurn, Runs, TurnsUnder}
use Rattle.sc_world.specs.Worlds.{PlainWorld, opened}
use Rattle.sc_world.proofs.Runs.{runs-join, runs-more}
use Rattle.sc_search.specs.declared.aims.Aim.{Aim}
use Rattle.sc_search.specs.Closed.{IsAmong, IsClosed, IsUnmet}
use Rattle.sc_search.specs.Aims.{IsMet}
use Rattle.sc_search.specs.Joined.{GoesOn, IsJoinedTurn}
use Rattle.sc_search.specs.Steps.{AddsEdge, AreTurns, AreUnmet, Extends, IsCountedEdge, IsEdge, IsExplored, IsTriedAlong, IsTriedAt, Keeps, Opens, OpensAlone, Stands, Tries, TriesAll}
use Rattle.sc_search.specs.Views.{Met, nothing_met}
use Rattle.sc_search.specs.Waiting.{IsPlayed}
use Rattle.sc_search.proofs.Joins.{goes_runs}
use Rattle.sc_search.proofs.KeptStates.{get_before, get_either, get_last, same_some}

-- an edge that is added
adds_stay : (from : Option ℕ) (to turns : ℕ) (es fs : List Edge) → AddsEdge from to turns es fs → (place : ℕ) (e : Edge) → slice_get es place ≡ Some e → slice_get fs place ≡ Some e
adds_stay None to turns es fs same place e at = subst (λ (xs : List Edge). slice_get xs place ≡ Some e) (sym same) at
adds_stay (Some from) to turns es fs more place e at = subst (λ (xs : List Edge). slice_get xs place ≡ Some e) (sym more.3) (get_before es more.0 place e at)

at_least : (n m e : ℕ) → n ≤ m → e ≡ min m 4294967295 → (n ≤ e) ⊎ (e ≡ 4294967295)
at_least n m e few is = elim (cases_lt m 4294967295) [
  | inl less ↦ inl (omega (arith, few, is, less))
  | inr more ↦ inr (omega (arith, is, more))
]

adds_here : (from to counted turns : ℕ) (es fs : List Edge) → counted ≤ turns → AddsEdge (Some from) to turns es fs → IsCountedEdge fs from to counted
adds_here from to counted turns es fs few more = record {
  has = record {
    place = length es;
    edge = more.0;
    at = subst (λ (xs : List Edge). slice_get xs (length es) ≡ Some more.0) (sym more.3) (get_last es more.0);
    from_is = more.1;
    to_is = more.2;
  };
  counts = at_least counted turns more.0.turns few more.4;
}

module _ (p : Image) (v : Version) (a : Aim) where
  -- there is none from the count on
  pub none_past : (h : ℕ) (c : Center) → c.state.count ≤ h → pick_for h c ≡ None
  none_past h c past = by (is_some (c.out h)) (nat_lt h c.state.count) _ refl
    where
      by : (o b : Bool) (j : Option Job) → nat_lt h c.state.count ≡ b → (if o then None else (if b then j else None)) ≡ None
      by true b j e = refl
      by false false j e = refl
      by false true j e = absurd (omega (arith, past, ltb-true h c.state.count e))

-- ---- joined turns

module _ (p : Image) (v : Version) where
  -- they are turns, one after the other
  pub plays_on : (hs : List ℕ) (x y : PlainWorld) → IsPlayed p v x → GoesOn hs x y → IsPlayed p v y
  plays_on hs x y played on = (played.0 ++ hs, runs-join played.0 hs (opened p v) x y played.1 (goes_runs hs x y on))

  pub plays_joined : (joined h : ℕ) (x y : PlainWorld) → IsPlayed p v x → IsJoinedTurn joined h x y → IsPlayed p v y
  plays_joined joined h x y played t =
      plays_on t.on.handlers t.next y (played.0 ++ h ∷ [], runs-more played.0 h (opened p v) x t.next played.1 t.turn) t.on.goes_on

module _ (p : Image) (v : Version) (a : Aim) (joined : ℕ) where
  -- ---- states behind others

  pub extends_none : (x : Met) → Extends p v a joined x x
  extends_none x = record { stay = λ i k at. at; unmet = λ all. all; edges_stay = λ place e at. at; turns = λ all. all }

  pub extends_all : (x y z : Met) → Extends p v a joined x y → Extends p v a joined y z → Extends p v a joined x z
  extends_all x y z e f = record {
    stay = λ i k at. f.stay i k (e.stay i k at);
    unmet = λ all. f.unmet (e.unmet all);
    edges_stay = λ place g at. f.edges_stay place g (e.edges_stay place g at);
    turns = λ all. f.turns (e.turns all);
  }

  grows_stay : (w : PlainWorld) (ks ls : List PlainKept) → (ls ≡ ks) ⊎ (ls ≡ ks ++ kept w ∷ []) → (i : ℕ) (k : PlainKept) → slice_get ks i ≡ Some k → slice_get ls i ≡ Some k
  grows_stay w ks ls (inl same) i k at = subst (λ (ms : List PlainKept). slice_get ms i ≡ Some k) (sym same) at
  grows_stay w ks ls (inr more) i k at = subst (λ (ms : List PlainKept). slice_get ms i ≡ Some k) (sym more) (get_before ks (kept w) i k at)

  grows_unmet : (hs : List ℕ) (w : PlainWorld) (ks ls : List PlainKept) → Runs hs (opened p v) w → (IsMet a w → ⊥) →
      (ls ≡ ks) ⊎ (ls ≡ ks ++ kept w ∷ []) → AreUnmet p v a ks → AreUnmet p v a ls
  grows_unmet hs w ks ls runs unmet (inl same) all = subst (AreUnmet p v a) (sym same) all
  grows_unmet hs w ks ls runs unmet (inr more) all = subst (AreUnmet p v a) (sym more) (λ i k at. one i k (get_either ks (kept w) i k at))
    where
      one : (i : ℕ) (k : PlainKept) → (slice_get ks i ≡ Some k) ⊎ (k ≡ kept w) → IsUnmet p v a k
      one i k (inl at) = all i k at
      one i k (inr new) = record { world = w; stands_in = record { handlers = hs; runs = runs; kept = sym new }; unmet = unmet }

  edge_still : (ks ls : List PlainKept) (e : Edge) → ((i : ℕ) (k : PlainKept) → slice_get ks i ≡ Some k → slice_get ls i ≡ Some k) → IsEdge p v joined ks e → IsEdge p v joined ls e
  edge_still ks ls e stay is = record {
    handler = is.handler;
    before = is.before;
    after = is.after;
    played = is.played;
    has_job = is.has_job;
    turn = is.turn;
    from = stay e.from (kept is.before) is.from;
    to = stay e.to (kept is.after) is.to;
  }

  -- the first state is kept
  pub extends_opening : (hs : List ℕ) (w : PlainWorld) (turns : ℕ) (x y : Met) → Runs hs (opened p v) w → Keeps a w None turns x y → Extends p v a joined x y
  extends_opening hs w turns x y runs keeps = record {
    stay = grows_stay w x.states y.states keeps.grows;
    unmet = grows_unmet hs w x.states y.states runs keeps.unmet keeps.grows;
    edges_stay = adds_stay None keeps.among.number turns x.edges y.edges keeps.edge;
    turns = λ all place e at. edge_still x.states y.states e (grows_stay w x.states y.states keeps.grows)
        (all place e (subst (λ (xs : List Edge). slice_get xs place ≡ Some e) keeps.edge at));
  }

  -- a world to which the turn of a handler leads is kept
  pub extends_kept : (hs : List ℕ) (number h turns : ℕ) (u w : PlainWorld) (x y : Met) → Runs hs (opened p v) u → slice_get x.states number ≡ Some (kept u) →
      is_some (pick_for h u.center) ≡ true → IsJoinedTurn joined h u w → Keeps a w (Some number) turns x y → Extends p v a joined x y
  extends_kept hs number h turns u w x y runs at has_job turn keeps = record {
    stay = stay;
    unmet = grows_unmet all.0 w x.states y.states all.1 keeps.unmet keeps.grows;
    edges_stay = adds_stay (Some number) keeps.among.number turns x.edges y.edges keeps.edge;
    turns = λ all place e at_e. one all place e
        (get_either x.edges keeps.edge.0 place e (subst (λ (xs : List Edge). slice_get xs place ≡ Some e) keeps.edge.3 at_e));
  }
    where
      all : IsPlayed p v w
      all = plays_joined p v joined h u w (hs, runs) turn

      stay : (i : ℕ) (k : PlainKept) → slice_get x.states i ≡ Some k → slice_get y.states i ≡ Some k
      stay = grows_stay w x.states y.states keeps.grows

      new : IsEdge p v joined y.states keeps.edge.0
      new = record {
        handler = h;
        before = u;
        after = w;
        played = (hs, runs);
        has_job = has_job;
        turn = turn;
        from = subst (λ (n : ℕ). slice_get y.states n ≡ Some (kept u)) (sym keeps.edge.1) (stay number (kept u) at);
        to = subst (λ (n : ℕ). slice_get y.states n ≡ Some (kept w)) (sym keeps.edge.2) keeps.among.stands;
      }

      one : AreTurns p v joined x → (place : ℕ) (e : Edge) → (slice_get x.edges place ≡ Some e) ⊎ (e ≡ keeps.edge.0) → IsEdge p v joined y.states e
      one all place e (inl before) = edge_still x.states y.states e stay (all place e before)
      one all place e (inr last) = subst (IsEdge p v joined y.states) (sym last) new

  tried_still : (y z : Met) (number : ℕ) (k : PlainKept) (h : ℕ) → Extends p v a joined y z → IsTriedAlong p v joined y number k h → IsTriedAlong p v joined z number k h
  tried_still y z number k h e t = record {
    tried = record {
      before = t.tried.before;
      after = t.tried.after;
      stands_in = t.tried.stands_in;
      turn = t.tried.turn;
      among = record { number = t.tried.among.number; stands = e.stay t.tried.among.number (kept t.tried.after) t.tried.among.stands };
    };
    edge = along t.edge;
  }
    where
      along : ((t.tried.among.number ≡ number) × (pick_for h t.tried.before.center ≡ None)) ⊎ IsCountedEdge y.edges number t.tried.among.number (1 + length t.tried.turn.on.handlers) →
          ((t.tried.among.number ≡ number) × (pick_for h t.tried.before.center ≡ None)) ⊎ IsCountedEdge z.edges number t.tried.among.number (1 + length t.tried.turn.on.handlers)
      along (inl none) = inl none
      along (inr is) =
          let has = is.has in
          inr (record {
            has = record { place = has.place; edge = has.edge; at = e.edges_stay has.place has.edge has.at; from_is = has.from_is; to_is = has.to_is };
            counts = is.counts;
          })

  -- ---- one turn

  pub tries : (hs : List ℕ) (number h turns : ℕ) (u w : PlainWorld) (x y : Met) → Runs hs (opened p v) u → slice_get x.states number ≡ Some (kept u) →
      is_some (pick_for h u.center) ≡ true → (turn : IsJoinedTurn joined h u w) → 1 + length turn.on.handlers ≤ turns → Keeps a w (Some number) turns x y → Tries p v a joined x y number h
  tries hs number h turns u w x y runs at has_job turn few keeps = record {
    extends = extends_kept hs number h turns u w x y runs at has_job turn keeps;
    tried = λ k here. record {
      tried = record {
        before = u;
        after = w;
        stands_in = record { handlers = hs; runs = runs; kept = same_some (kept u) k (sym at ∙ here) };
        turn = turn;
        among = keeps.among;
      };
      edge = inr (adds_here number keeps.among.number (1 + length turn.on.handlers) turns x.edges y.edges few keeps.edge);
    };
  }

  -- without anything to do it leads nowhere
  stays : (h : ℕ) (x : PlainWorld) → pick_for h x.center ≡ None → IsTurn h x x
  stays h x e = subst (λ (o : Option Job). TurnsUnder h o x x) (sym e) refl

  stays_tried : (number h : ℕ) (hs : List ℕ) (w : PlainWorld) (x : Met) → Stands p v x.states number hs w → pick_for h w.center ≡ None → IsTriedAt p v joined x x number h
  stays_tried number h hs w x stands e k here = record {
    tried = record {
      before = w;
      after = w;
      stands_in = record { handlers = hs; runs = stands.runs; kept = same_some (kept w) k (sym stands.stands ∙ here) };
      turn = record { next = w; turn = stays h w e; on = record { handlers = []; few = omega arith; goes_on = refl } };
      among = record { number = number; stands = stands.stands };
    };
    edge = inl (refl, e);
  }

  pub tries_none : (number h : ℕ) (hs : List ℕ) (w : PlainWorld) (x : Met) → Stands p v x.states number hs w → pick_for h w.center ≡ None → Tries p v a joined x x number h
  tries_none number h hs w x stands e = record { extends = extends_none x; tried = stays_tried number h hs w x stands e }

  -- ---- the turns of all

  -- the turns of the handlers below are tried
  pub record TriesBelow (x y : Met) (number below : ℕ) : Type 0 where
    pub extends : Extends p v a joined x y
    pub tried : (h : ℕ) → h < below → IsTriedAt p v joined x y number h

  pub tries_first : (x : Met) (number : ℕ) → TriesBelow x x number 0
  tries_first x number = record { extends = extends_none x; tried = λ h few. absurd (omega (arith, few)) }

  pub stands_still : (x y : Met) (number : ℕ) (hs : List ℕ) (w : PlainWorld) → Extends p v a joined x y → Stands p v x.states number hs w → Stands p v y.states number hs w
  stands_still x y number hs w e stands = record { runs = stands.runs; stands = e.stay number (kept w) stands.stands }

  pub tries_next : (x y z : Met) (number below : ℕ) → TriesBelow x y number below → Tries p v a joined y z number below → TriesBelow x z number (below + 1)
  tries_next x y z number below so one = record {
    extends = extends_all x y z so.extends one.extends;
    tried = λ h few k here. elim (cases_lt h below) [
      | inl less ↦ tried_still y z number k h one.extends (so.tried h less k here)
      | inr more ↦
          let same : h ≡ below = omega (arith, few, more) in
          subst (λ (i : ℕ). IsTriedAlong p v joined z number k i) (sym same) (one.tried k (so.extends.stay number k here))
    ];
  }

  pub tries_all : (x y : Met) (number : ℕ) (hs : List ℕ) (w : PlainWorld) (below : ℕ) → TriesBelow x y number below → Stands p v x.states number hs w →
      ((h : ℕ) → below ≤ h → pick_for h w.center ≡ None) → TriesAll p v a joined x y number
  tries_all x y number hs w below so stands all = record {
    extends = so.extends;
    tried = λ h k here. elim (cases_lt h below) [
      | inl less ↦ so.tried h less k here
      | inr more ↦
          stays_tried number h hs w y (stands_still x y number hs w so.extends stands) (all h (omega (arith, more))) k (so.extends.stay number k here)
    ];
  }

  -- ---- all states

  -- the states of the numbers below are done
  pub record ClosesBelow (x : Met) (below : ℕ) : Type 0 where
    pub opens : Opens p v a x.states
    pub turns : AreTurns p v joined x
    pub tried : (i : ℕ) (k : PlainKept) → i < below → slice_get x.states i ≡ Some k → (h : ℕ) → IsTriedAlong p v joined x i k h

  pub closes_first : (x : Met) → OpensAlone p v a x → ClosesBelow x 0
  closes_first x opens = record {
    opens = opens.opens;
    turns = λ place e at. nowhere place e (subst (λ (xs : List Edge). slice_get xs place ≡ Some e) opens.alone at);
    tried = λ i k few at h. absurd (omega (arith, few));
  }
    where
      nowhere : (place : ℕ) (e : Edge) → slice_get [] place ≡ Some e → IsEdge p v joined x.states e
      nowhere place e at = cc

  pub closes_next : (x y : Met) (below : ℕ) → ClosesBelow x below → TriesAll p v a joined x y below → below < length x.states → ClosesBelow y (below + 1)
  closes_next x y below so all there = record {
    opens = record {
      opens = record { number = so.opens.opens.number; stands = all.extends.stay so.opens.opens.number (kept (opened p v)) so.opens.opens.stands };
      unmet = all.extends.unmet so.opens.unmet;
    };
    turns = all.extends.turns so.turns;
    tried = λ i k few at h. one i k few at h;
  }
    where
      one : (i : ℕ) (k : PlainKept) → i < below + 1 → slice_get y.states i ≡ Some k → (h : ℕ) → IsTriedAlong p v joined y i k h
      one i k few at h =
          let was : PlainKept = get_or x.states i k in
          let stood : slice_get x.states i ≡ Some was = slice_get-get_or x.states i k (omega (arith, few, there)) in
          let same : was ≡ k = same_some was k (sym (all.extends.stay i was stood) ∙ at) in
          let here : slice_get x.states i ≡ Some k = stood ∙ ap Some same in
          elim (cases_lt i below) [
            | inl less ↦ tried_still x y i k h all.extends (so.tried i k less here h)
            | inr more ↦
                let last : i ≡ below = omega (arith, few, more) in
                subst (λ (j : ℕ). IsTriedAlong p v joined y j k h) (sym last) (all.tried h k (subst (λ (j : ℕ). slice_get x.states j ≡ Some k) last here))
          ]

  pub closes : (x : Met) (below : ℕ) → ClosesBelow x below → length x.states ≤ below → IsClosed p v a x.states
  closes x below so all = record {
    joined = joined;
    opens = so.opens.opens;
    unmet = so.opens.unmet;
    tried = λ i k at h. let there = slice_get_within x.states i k at in (so.tried i k (omega (arith, all, there)) at h).tried;
  }

  pub explores : (x : Met) (below : ℕ) → ClosesBelow x below → length x.states ≤ below → below < 2 ^ 32 → IsExplored p v joined x
  explores x below so all few = record {
    along = λ i k at h. let there = slice_get_within x.states i k at in so.tried i k (omega (arith, all, there)) at h;
    turns = so.turns;
    few = omega (arith, all, few);
  }

-- ---- the opening

module _ (p : Image) (v : Version) (a : Aim) where
  pub opens_kept : (w : PlainWorld) (turns : ℕ) (x y : Met) → x ≡ nothing_met → Runs [] (opened p v) w → Keeps a w None turns x y → OpensAlone p v a y
  opens_kept w turns x y none runs keeps = record {
    opens = record {
      opens = subst (λ (u : PlainWorld). IsAmong y.states (kept u)) runs keeps.among;
      unmet = (extends_opening p v a 0 [] w turns x y runs keeps).unmet (λ i k at. nowhere i k (subst (λ (m : Met). slice_get m.states i ≡ Some k) none at));
    };
    alone = keeps.edge ∙ ap (λ (m : Met). m.edges) none;
  }
    where
      nowhere : (i : ℕ) (k : PlainKept) → slice_get [] i ≡ Some k → IsUnmet p v a k
      nowhere i k at = cc
