-- Turns of a world beside those of the machine.
use Rattle.std.proofs.Common.{◌≡◌, ◌<◌, ◌≤◌, inl, inr, ℕ, zero, suc, Bool, true, false, List, [], ◌∷◌, Option, Some, None, is_some, length, slice_get, slice_set, refl, sym, ap, subst, ◌∙◌, arith}
use Rattle.std.proofs.lemmas.Bool.{cases_eq, ltb-false, ltb-true}
use Rattle.std.proofs.lemmas.Option.{slice_get-get_or}
use Rattle.std.specs.Prelude.{nat_lt, slice_index_or}
use Rattle.sc_tree.specs.Plain.{System}
use Rattle.sc_class.specs.ClassNames.{Root}
use Rattle.sc_class.specs.Faults.ClassRules.{IsFaultless}
use Rattle.sc_rules.specs.SystemRules.{WellFormed}
use Rattle.sc_model.specs.Handlers as machine
use Rattle.sc_model.specs.Runs.{IsReached, run}
use Rattle.sc_model.specs.Settled.{SettledObjectsMeet}
use Rattle.sc_model.specs.Turns.{turn}
use Rattle.sc_model.proofs.Idle.{idle}
use Rattle.sc_code.specs.declared.program.Image.{Image}
use Rattle.sc_region.specs.declared.job.Job.{Job}
use Rattle.sc_region.specs.declared.job.Outcome.{Outcome}
use Rattle.sc_region.specs.declared.job.Want.{Want}
use Rattle.sc_region.specs.Stores.{PlainStore, new_store}
use Rattle.sc_handler.specs.Handlers as core
use Rattle.sc_handler.specs.Handlers.{State}
use Rattle.sc_handler.specs.Picking.{job_of}
use Rattle.sc_request.specs.Asked.{Numbering, asked}
use Rattle.sc_request.specs.Halves.{IsHalfOf}
use Rattle.sc_request.specs.Logs.{Center}
use Rattle.sc_request.specs.Settling.{settled}
use Rattle.sc_request.specs.Steps.{stepped}
use Rattle.sc_request.specs.Laws.{PicksWhereTurns}
use Rattle.sc_refines_world.specs.regions.RegionHalves.{IsRegionOf, IsRegionHalf}
use Rattle.sc_refines_world.specs.regions.RegionSteps.{AreNamed, first_want, numbering_by, taken_if, task_of}
use Rattle.sc_refines_world.specs.regions.RegionTurns.{Half, new_half, taken_turn}
use Rattle.sc_refines_world.proofs.regions.RegionOpening.{new_region as new_store_stands}
use Rattle.sc_play.specs.Regions.{PlainRegion, Plays, new_region}
use Rattle.sc_play.specs.Turns.{FirstTurn, Turns, first, more}
use Rattle.sc_refines_world.specs.regions.Taking.{IsNamed}
use Rattle.sc_machine_laws.specs.settlements.Reached.{HalvesWhereReached, RemembersAlong, RemembersEntry}
use Rattle.sc_world.specs.Turning.{IsTurn, Makes, Runs, TurnsUnder}
use Rattle.sc_world.specs.Worlds.{PlainWorld, max_handlers}
use Rattle.sc_lockpass.specs.declared.version.Version.{Version}
use Rattle.sc_refines_world.specs.Standing.{IsRegionFor, StandsFor, names_in}
use Rattle.sc_refines_world.proofs.Asked.{AllAsk, WantAsks, settled_asks, settled_counts}
use Rattle.sc_refines_world.proofs.RequestNames.{are_named}
use Rattle.sc_refines_world.proofs.ReachedStates.{one_further}
use Rattle.sc_world.proofs.SettledPicks.{picks_job, settled_out, settled_state}
use Rattle.sc_refines_world.proofs.Picks.{has_job}
use Rattle.sc_refines_world.proofs.Wants.{asks_named}

-- ---- lists of regions

same_region : (a b : PlainRegion) → Some a ≡ Some b → a ≡ b
same_region a b e = cc

get_same : (rs : List PlainRegion) (h : ℕ) (x y z : PlainRegion) → slice_get (slice_set rs h y) h ≡ Some z → z ≡ y
get_same [] h x y z e = cc
get_same (r ∷ rs) zero x y z e = cc
get_same (r ∷ rs) (suc h) x y z e = get_same rs h x y z e

get_other : (rs : List PlainRegion) (h k : ℕ) (y : PlainRegion) → (k ≡ h → ⊥) → slice_get (slice_set rs h y) k ≡ slice_get rs k
get_other [] h k y apart = refl
get_other (r ∷ rs) zero zero y apart = absurd (apart refl)
get_other (r ∷ rs) zero (suc k) y apart = refl
get_other (r ∷ rs) (suc h) zero y apart = refl
get_other (r ∷ rs) (suc h) (suc k) y apart = get_other rs h k y (λ e. apart (ap suc e))

set_length : (rs : List PlainRegion) (h : ℕ) (y : PlainRegion) → length (slice_set rs h y) ≡ length rs
set_length [] h y = refl
set_length (r ∷ rs) zero y = refl
set_length (r ∷ rs) (suc h) y = ap suc (set_length rs h y)

-- ---- one turn is the first

turns_some : (h : ℕ) (b : Bool) (j : Job) (x : PlainStore) (n : ℕ) (y : PlainStore) (w : Want) → Turns h b j x n y w → 0 < n
turns_some h b j x _ _ _ (first {y} {w} t) = omega arith
turns_some h b j x _ _ _ (more {n} {y} {z} {w} ts t) = omega arith

only_first : (h : ℕ) (b : Bool) (j : Job) (x : PlainStore) (n : ℕ) (y : PlainStore) (w : Want) → Turns h b j x n y w → n ≡ 1 → FirstTurn h b j x y w
only_first h b j x _ _ _ (first {y} {w} t) e = t
only_first h b j x _ _ _ (more {n} {y} {z} {w} ts t) e = let some = turns_some h b j x n y _ ts in absurd (omega (arith, some, e))

-- The world stands for the state, beside its core. What its stores keep is so, and requests name what the program has names for.
pub record Beside (s : System) (p : Image) (most : ℕ) (Placed : ℕ → PlainStore → Type 0) (w : machine.World) (x : PlainWorld) : Type 0 where
  pub same_most : x.most ≡ most
  pub none_out : (h : ℕ) → x.center.out h ≡ None
  pub few : x.center.state.count ≤ most
  pub named : AllAsk (IsNamed (names_in p)) x.center.state
  pub many : length x.regions ≡ max_handlers
  pub regions : (h : ℕ) (r : PlainRegion) → slice_get x.regions h ≡ Some r → h < x.center.state.count →
      IsRegionFor s p h (w.handlers h) (x.center.state.handlers h).stage r × Placed h r.store
  pub others : (h : ℕ) (r : PlainRegion) → slice_get x.regions h ≡ Some r → x.center.state.count ≤ h → r ≡ new_region p h

module _ (s : System) (root : Root) (p : Image) (faultless : IsFaultless s root) (well : WellFormed s) (most : ℕ) where
  abbrev names : List (List ℕ)
  names = names_in p

  abbrev n : Numbering
  n = numbering_by names

  -- What a turn under a job makes of a store, and what it asks, is what the definition makes of the half that the store stands for, where the store is placed
  -- so, and the half has what is needed.
  abbrev pub StoresTurn : (ℕ → PlainStore → Type 0) → (ℕ → Job → Half → Type 0) → Type 0
  StoresTurn Placed Needs =
      (h : ℕ) (j : Job) (y z : PlainStore) (w : Want) → FirstTurn h false j y z w → y.program ≡ p → (x : Half) → IsRegionOf s x y → Placed h y → Needs h j x →
      IsRegionOf s (taken_turn s h (task_of names j) x) z × (w ≡ first_want n s h (task_of names j) x) × Placed h z

  -- The half of a handler of a state that is reached has what is needed.
  abbrev pub HalvesMeet : (ℕ → Job → Half → Type 0) → Type 0
  HalvesMeet Needs =
      (h : ℕ) (j : Job) (w : machine.World) (c : State) (x : Half) → IsReached most s root w → h < w.count → IsHalfOf n w c → job_of h c ≡ Some j →
      AllAsk (IsNamed names) c → IsRegionHalf h (w.handlers h) (c.handlers h).stage x → Needs h j x

  -- What the job makes of the region's half is that of the machine's turn,
  abbrev pub RegionsFollow : Type 0
  RegionsFollow =
      (h : ℕ) (w : machine.World) (c : State) (x : Half) → IsReached most s root w → h < w.count → IsHalfOf n w c → RemembersEntry s h w c → AreNamed names (w.handlers h) →
      IsRegionHalf h (w.handlers h) (c.handlers h).stage x → SettledObjectsMeet s (turn most s h w) →
      IsRegionHalf h ((turn most s h w).handlers h) ((stepped most n s h w (job_of h c) c).handlers h).stage (taken_if s h names (job_of h c) x)

  -- and it asks what that asks.
  abbrev pub RegionsAskSo : Type 0
  RegionsAskSo =
      (h : ℕ) (w : machine.World) (c : State) (x : Half) (j : Job) → IsReached most s root w → IsHalfOf n w c → AreNamed names (w.handlers h) →
      IsRegionHalf h (w.handlers h) (c.handlers h).stage x → job_of h c ≡ Some j → SettledObjectsMeet s (turn most s h w) →
      first_want n s h (task_of names j) x ≡ asked n s h j (w.handlers h)

  -- Any other handler keeps its half,
  abbrev pub OthersKeep : Type 0
  OthersKeep =
      (h k : ℕ) (w : machine.World) (c : State) (x : Half) → IsReached most s root w → IsHalfOf n w c → (k ≡ h → ⊥) → k < w.count →
      IsRegionHalf k (w.handlers k) (c.handlers k).stage x →
      IsRegionHalf k ((turn most s h w).handlers k) ((stepped most n s h w (job_of h c) c).handlers k).stage x

  -- and one that is created has a new one.
  abbrev pub CreatedAreNew : Type 0
  CreatedAreNew =
      (h k : ℕ) (w : machine.World) (stage : core.HandlerStage) → w.count ≤ k → k < (turn most s h w).count → IsRegionHalf k ((turn most s h w).handlers k) stage new_half

  -- In each state that is reached settled objects meet their invariants.
  abbrev pub SettledMeet : Type 0
  SettledMeet = (w : machine.World) → IsReached most s root w → SettledObjectsMeet s w

  -- A region that played one turn stands where that left it.
  abbrev pub TurnsEndThere : Type 0
  TurnsEndThere = (j : Job) (x y : PlainRegion) (o : Outcome) (t : Plays 1 j x y o) → o.turns ≡ 1 → y.store ≡ t.last

  module _ (Placed : ℕ → PlainStore → Type 0) (Needs : ℕ → Job → Half → Type 0) (stores_turn : StoresTurn Placed Needs) (halves_meet : HalvesMeet Needs)
      (new_placed : (h : ℕ) → Placed h (new_store p)) (follow : RegionsFollow) (ask : RegionsAskSo) (others_keep : OthersKeep) (created : CreatedAreNew)
      (settled_meet : SettledMeet) (end_there : TurnsEndThere)
      (picks : PicksWhereTurns) (reached_halves : HalvesWhereReached) where
    abbrev Here : machine.World → PlainWorld → Type 0
    Here w x = Beside s p most Placed w x

    module _ (h : ℕ) (w : machine.World) (x z : PlainWorld) (j : Job) (reached : IsReached most s root w) (half : IsHalfOf n w x.center.state)
        (remembers : RemembersEntry s h w x.center.state) (b : Here w x) (is_job : job_of h x.center.state ≡ Some j) (m : Makes 1 h j 1 x z) where
      abbrev c : State
      c = x.center.state

      abbrev v : machine.World
      v = turn most s h w

      abbrev want : Want
      want = m.settles.outcome.want

      here : h < c.count
      here = has_job h c j is_job

      own : IsRegionFor s p h (w.handlers h) (c.handlers h).stage m.before × Placed h m.before.store
      own = b.regions h m.before m.stands here

      all_named : AreNamed names (w.handlers h)
      all_named = are_named names w c half b.named h

      now_settled : SettledObjectsMeet s v
      now_settled = settled_meet v (one_further most s root h w reached)

      ran : FirstTurn h false j m.before.store m.settles.plays.last want
      ran =
          let t : FirstTurn m.before.handler m.before.is_told j m.before.store m.settles.plays.last want =
          only_first m.before.handler m.before.is_told j m.before.store m.settles.outcome.turns m.settles.plays.last want m.settles.plays.turns m.settles.count in
          subst (λ (b : Bool). FirstTurn h b j m.before.store m.settles.plays.last want) own.0.untold
          (subst (λ (k : ℕ). FirstTurn k m.before.is_told j m.before.store m.settles.plays.last want) own.0.handler t)

      turned : IsRegionOf s (taken_turn s h (task_of names j) own.0.half) m.settles.plays.last × (want ≡ first_want n s h (task_of names j) own.0.half)
          × Placed h m.settles.plays.last
      turned =
          stores_turn h j m.before.store m.settles.plays.last want ran own.0.program own.0.half own.0.stands own.1
          (halves_meet h j w c own.0.half reached (omega (arith, here, half.count)) half is_job b.named own.0.is_half)

      want_is : want ≡ asked n s h j (w.handlers h)
      want_is = turned.1 ∙ ask h w c own.0.half j reached half all_named own.0.is_half is_job now_settled

      settled_is : z.center.state ≡ settled most h j 1 want c
      settled_is =
          ap (λ (d : Center). d.state) m.settles.center ∙ settled_state x.most h j 1 want x.center ∙ ap (λ (k : ℕ). settled k h j 1 want c) b.same_most

      stepped_is : z.center.state ≡ stepped most n s h w (job_of h c) c
      stepped_is =
          settled_is ∙ ap (λ (a : Want). settled most h j 1 a c) want_is ∙ sym (ap (λ (o : Option Job). stepped most n s h w o c) is_job)

      more_than : c.count ≤ z.center.state.count
      more_than = subst (λ (t : State). c.count ≤ t.count) (sym settled_is) (settled_counts most h j 1 want c).0

      stage_now : (k : ℕ) (y : Half) → IsRegionHalf k (v.handlers k) ((stepped most n s h w (job_of h c) c).handlers k).stage y →
          IsRegionHalf k (v.handlers k) (z.center.state.handlers k).stage y
      stage_now k y is = subst (λ (t : State). IsRegionHalf k (v.handlers k) (t.handlers k).stage y) (sym stepped_is) is

      own_next : IsRegionFor s p h (v.handlers h) (z.center.state.handlers h).stage m.after × Placed h m.after.store
      own_next =
          let there : m.after.store ≡ m.settles.plays.last = end_there j m.before m.after m.settles.outcome m.settles.plays m.settles.count in
          let y : Half = taken_turn s h (task_of names j) own.0.half in
          let followed : IsRegionHalf h (v.handlers h) ((stepped most n s h w (job_of h c) c).handlers h).stage y =
          subst (λ (o : Option Job). IsRegionHalf h (v.handlers h) ((stepped most n s h w (job_of h c) c).handlers h).stage (taken_if s h names o own.0.half)) is_job
          (follow h w c own.0.half reached (omega (arith, here, half.count)) half remembers all_named own.0.is_half now_settled) in (
            record {
              handler = ap (λ (r : PlainRegion). r.handler) m.settles.plays.same ∙ own.0.handler;
              program = m.settles.plays.program ∙ own.0.program;
              untold = ap (λ (r : PlainRegion). r.is_told) m.settles.plays.same;
              half = y;
              stands = subst (IsRegionOf s y) (sym there) turned.0;
              is_half = stage_now h y followed;
            },
            subst (Placed h) (sym there) turned.2,
          )

      -- that of any other handler
      other_next : (k : ℕ) (r : PlainRegion) → (k ≡ h → ⊥) → slice_get x.regions k ≡ Some r → k < v.count →
          IsRegionFor s p k (v.handlers k) (z.center.state.handlers k).stage r × Placed k r.store
      other_next k r apart is few = by (nat_lt k c.count) refl
        where
          by : (d : Bool) → nat_lt k c.count ≡ d → IsRegionFor s p k (v.handlers k) (z.center.state.handlers k).stage r × Placed k r.store
          by true e =
              let l = ltb-true k c.count e in
              let was = b.regions k r is l in
              let one : k < w.count = omega (arith, l, half.count) in (
                record {
                  handler = was.0.handler;
                  program = was.0.program;
                  untold = was.0.untold;
                  half = was.0.half;
                  stands = was.0.stands;
                  is_half = stage_now k was.0.half (others_keep h k w c was.0.half reached half apart one was.0.is_half);
                },
                was.1,
              )
          by false e =
              let l = ltb-false k c.count e in
              let new = b.others k r is l in
              let past : w.count ≤ k = omega (arith, l, half.count) in
              let fresh : IsRegionFor s p k (v.handlers k) (z.center.state.handlers k).stage (new_region p k) = record {
                handler = refl;
                program = refl;
                untold = refl;
                half = new_half;
                stands = new_store_stands s p;
                is_half = created h k w (z.center.state.handlers k).stage past few;
              } in (
                subst (IsRegionFor s p k (v.handlers k) (z.center.state.handlers k).stage) (sym new) fresh,
                subst (λ (t : PlainRegion). Placed k t.store) (sym new) (new_placed k),
              )

      module _ (next : IsHalfOf n v z.center.state) where
        region_next : (k : ℕ) (r : PlainRegion) → slice_get z.regions k ≡ Some r → k < z.center.state.count →
            IsRegionFor s p k (v.handlers k) (z.center.state.handlers k).stage r × Placed k r.store
        region_next k r is few =
            let at : slice_get (slice_set x.regions h m.after) k ≡ Some r = ap (λ (rs : List PlainRegion). slice_get rs k) (sym m.regions) ∙ is in
            let there : k < v.count = omega (arith, few, next.count) in
            elim (cases_eq k h) [
              | inl same ↦
                  let e : r ≡ m.after = get_same x.regions h m.before m.after r (subst (λ (i : ℕ). slice_get (slice_set x.regions h m.after) i ≡ Some r) same at) in
                  subst (λ (i : ℕ). IsRegionFor s p i (v.handlers i) (z.center.state.handlers i).stage r × Placed i r.store) (sym same)
                  (subst (λ (t : PlainRegion). IsRegionFor s p h (v.handlers h) (z.center.state.handlers h).stage t × Placed h t.store) (sym e) own_next)
              | inr apart ↦ other_next k r apart (sym (get_other x.regions h k m.after apart) ∙ at) there
            ]

        rest_next : (k : ℕ) (r : PlainRegion) → slice_get z.regions k ≡ Some r → z.center.state.count ≤ k → r ≡ new_region p k
        rest_next k r is past =
            let apart : k ≡ h → ⊥ = λ e. omega (arith, e, here, more_than, past) in
            let at : slice_get x.regions k ≡ Some r =
            sym (get_other x.regions h k m.after apart) ∙ ap (λ (rs : List PlainRegion). slice_get rs k) (sym m.regions) ∙ is in
            b.others k r at (omega (arith, more_than, past))

        turn_beside : Here v z
        turn_beside = record {
          same_most = m.most ∙ b.same_most;
          none_out = λ k. ap (λ (d : Center). d.out k) m.settles.center ∙ settled_out x.most h j 1 want x.center k (b.none_out k);
          few = subst (λ (t : State). t.count ≤ most) (sym settled_is) ((settled_counts most h j 1 want c).1 b.few);
          named = subst (AllAsk (IsNamed names)) (sym settled_is) (settled_asks (IsNamed names) most h j 1 want c
              (subst (λ (q : Image). WantAsks (IsNamed (names_in q)) want) own.0.program (asks_named h false j m.before.store m.settles.plays.last want ran)) b.named);
          many = ap length m.regions ∙ set_length x.regions h m.after ∙ b.many;
          regions = region_next;
          others = rest_next;
        }

    -- ---- a handler's turn, if it has one

    -- the world after it stands beside the machine's state after its turn, and its core is what the settlement leaves
    abbrev pub Stepped : ℕ → machine.World → PlainWorld → PlainWorld → Type 0
    Stepped h w x z = Here (turn most s h w) z × (z.center.state ≡ stepped most n s h w (job_of h x.center.state) x.center.state)

    none_job : (o : Option Job) → o ≡ None → is_some o ≡ false
    none_job o e = ap is_some e

    pub turn_steps : (h : ℕ) (w : machine.World) (x z : PlainWorld) → IsReached most s root w → IsHalfOf n w x.center.state → RemembersEntry s h w x.center.state →
        Here w x → IsTurn h x z → Stepped h w x z
    turn_steps h w x z reached half remembers b t =
        by (job_of h x.center.state) refl (subst (λ (o : Option Job). TurnsUnder h o x z) (picks_job h x.center (b.none_out h)) t)
      where
        by : (o : Option Job) → job_of h x.center.state ≡ o → TurnsUnder h o x z → Stepped h w x z
        by None e same =
            let same_state : turn most s h w ≡ w = idle most s h w (sym (picks n w x.center.state h half) ∙ none_job (job_of h x.center.state) e) in (
              subst (λ (u : machine.World). Here u z) (sym same_state) (subst (Here w) (sym same) b),
              ap (λ (y : PlainWorld). y.center.state) same ∙ sym (ap (λ (o : Option Job). stepped most n s h w o x.center.state) e),
            )
        by (Some j) e m =
            let is = stepped_is h w x z j reached half remembers b e m in
            let next : IsHalfOf n (turn most s h w) z.center.state =
            subst (IsHalfOf n (turn most s h w)) (sym is) (reached_halves s root faultless well most n h w x.center.state reached half remembers) in
            (turn_beside h w x z j reached half remembers b e m next, is)

    -- ---- turns one after the other

    pub along : (hs : List ℕ) (w : machine.World) (x y : PlainWorld) → IsReached most s root w → IsHalfOf n w x.center.state →
        RemembersAlong most n s hs w x.center.state → Here w x → Runs hs x y → Here (run most s hs w) y × IsHalfOf n (run most s hs w) y.center.state
    along [] w x y reached half all b same = (subst (Here w) (sym same) b, subst (λ (z : PlainWorld). IsHalfOf n w z.center.state) (sym same) half)
    along (h ∷ hs) w x y reached half all b runs =
        let z = runs.0 in
        let t = turn_steps h w x z reached half all.0 b runs.1 in
        let next = reached_halves s root faultless well most n h w x.center.state reached half all.0 in
        along hs (turn most s h w) z y (one_further most s root h w reached) (subst (IsHalfOf n (turn most s h w)) (sym t.1) next)
        (subst (RemembersAlong most n s hs (turn most s h w)) (sym t.1) all.1) t.0 runs.2

    -- a world that stands so beside the state stands for it
    pub beside_stands : (w : machine.World) (x : PlainWorld) → most ≤ max_handlers → IsHalfOf n w x.center.state → Here w x → StandsFor s p w x
    beside_stands w x room half b = record {
      core = half;
      none_out = b.none_out;
      regions = λ h l. one h l;
      others = λ h r past is. b.others h r is (omega (arith, past, half.count));
    }
      where
        one : (h : ℕ) → h < w.count → (r : PlainRegion) × (slice_get x.regions h ≡ Some r) × IsRegionFor s p h (w.handlers h) (x.center.state.handlers h).stage r
        one h l =
            let there : h < length x.regions = omega (arith, l, half.count, b.few, room, b.many) in
            let at = slice_get-get_or x.regions h (new_region p h) there in
            let few : h < x.center.state.count = omega (arith, l, half.count) in
            (slice_index_or x.regions h (new_region p h), at, (b.regions h (slice_index_or x.regions h (new_region p h)) at few).0)
