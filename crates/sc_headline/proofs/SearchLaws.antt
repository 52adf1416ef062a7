-- What a search finds, or doesn't, beside the machine.
use Rattle.std.proofs.Common.{◌≡◌, ◌≤◌, ◌<◌, ◌*◌, ◌++◌, ◌∙◌, ◌&&◌, inl, inr, ℕ, Bool, true, false, List, [], ◌∷◌, Option, Some, None, get_or, refl, sym, ap, subst, arith}
use Rattle.std.specs.Prelude.{nat_lt}
use Rattle.std.proofs.lemmas.Bool.{cases_lt, ltb-true}
use Rattle.std.proofs.lemmas.List.FromFn.{get_or-map-range_with_len, length-map-range_with_len}
use Rattle.std.proofs.lemmas.List.{get_or_past}
use Rattle.sc_tree.specs.Plain.{System}
use Rattle.sc_class.specs.ClassNames.{Root}
use Rattle.sc_lockpass.specs.Versions.{most_handlers}
use Rattle.sc_lockpass.specs.declared.version.Version.{Version}
use Rattle.sc_model.specs.declared.cause.Cause.{Cause}
use Rattle.sc_model.specs.declared.status.Status.{Status}
use Rattle.sc_model.specs.declared.status.Status.TheVariants.{Busy, Free, Waiting}
use Rattle.sc_model.specs.Handlers.{Frame, World}
use Rattle.sc_model.specs.Reports.{status_of, status_with}
use Rattle.sc_model.specs.Runs.{has_turn, has_turn_with, opening}
use Rattle.sc_model.proofs.Joins.{run_append}
use Rattle.sc_code.specs.declared.program.Image.{Image}
use Rattle.sc_orders.specs.Orders.{Leads}
use Rattle.sc_world.specs.Kept.{KeptAlikeReadAlike, OpeningsAreOf, PlainKept, RunsStayOf, kept}
use Rattle.sc_world.specs.Reports.{statuses}
use Rattle.sc_world.specs.Turning.{Runs}
use Rattle.sc_world.specs.Worlds.{PlainWorld, opened}
use Rattle.sc_world.proofs.Runs.{runs-more}
use Rattle.sc_frontend.specs.Texts.{IsLoaded}
use Rattle.sc_refines_world.specs.Anew.{AnewRunsAsMachine, IsKeptAs, IsPlayed, RunsAnew}
use Rattle.sc_refines_world.specs.Refining.{StandingWorldIsNear, WorldReportsAsMachine}
use Rattle.sc_refines_world.specs.Standing.{StandsFor}
use Rattle.sc_movers.specs.Movers.{Movers, TurnsAreMovers}
use Rattle.sc_search.specs.declared.aims.Aim.{Aim}
use Rattle.sc_search.specs.declared.aims.Aim.TheVariants as aim
use Rattle.sc_search.specs.Aims.{HasFailed, HasRefused, IsMet}
use Rattle.sc_search.specs.Closed.{IsClosed}
use Rattle.sc_search.specs.Found.{turns_of}
use Rattle.sc_search.specs.declared.limits.Limits.{Limits}
use Rattle.sc_search.specs.declared.verdict.GivenUp.{GivenUp}
use Rattle.sc_search.specs.declared.verdict.Reason.{Reason}
use Rattle.sc_search.specs.declared.verdict.Reason.TheVariants as reason
use Rattle.sc_search.specs.Limits.{AreMet, ArePlayed, GivesUp, IsUsedUp, turns_a_state}
use Rattle.sc_search.specs.Waiting.{AreMoving, IsAnewTurn}
use Rattle.sc_search.specs.Waiting as world
use Rattle.sc_headline.specs.Exactly.{OneWorld}
use Rattle.sc_headline.specs.Headline.{machine_after}
use Rattle.sc_headline.specs.Searched.{FoundOrdersAreTheMachines, IsAtLimit, IsSought, SearchesGiveUpAtLimits, SomeHasRefused, SomeWaits, WaitsForGood, WholeSearchesFindAll, statuses_in}
use Rattle.sc_headline.proofs.JoinedTurns as joined
use Rattle.sc_headline.proofs.Statuses.{is_busy, is_waiting}
use Rattle.sc_headline.proofs.Stuck.{busy_with, lives}

-- ---- a handler's status in the list of all

-- it is there if it isn't free
is_there : (P : Status → Bool) (h : ℕ) (w : World) → P Free ≡ false → P (get_or (statuses_in w) h Free) ≡ true → h < w.count
is_there P h w not_free e = elim (cases_lt h w.count) [
  | inl few ↦ few
  | inr past ↦
      let none : get_or (statuses_in w) h Free ≡ Free =
      get_or_past (statuses_in w) h Free (omega (arith, past, length-map-range_with_len (λ (i : ℕ). status_of i w) 0 w.count)) in
      let no : true ≡ false = sym e ∙ ap P none ∙ not_free in
      cc
]

listed : (h : ℕ) (w : World) → h < w.count → get_or (statuses_in w) h Free ≡ status_of h w
listed h w few = get_or-map-range_with_len (λ (i : ℕ). status_of i w) 0 w.count h h Free few (omega arith)

waits_with : (why : Option Cause) (b : Bool) (stack : List Frame) → is_waiting (status_with why b stack) ≡ true → status_with why b stack ≡ Waiting
waits_with (Some why) b stack e = cc
waits_with None true stack e = cc
waits_with None false [] e = cc
waits_with None false (f ∷ below) e = refl

turns_with : (why : Option Cause) (b : Bool) (stack : List Frame) → is_busy (status_with why b stack) ≡ true → b ≡ true
turns_with (Some why) b stack e = cc
turns_with None true stack e = refl
turns_with None false [] e = cc
turns_with None false (f ∷ below) e = cc

waits_in : (h : ℕ) (w : World) → is_waiting (get_or (statuses_in w) h Free) ≡ true → (h < w.count) × (status_of h w ≡ Waiting)
waits_in h w e =
    let few = is_there is_waiting h w refl e in
    (few, waits_with (w.handlers h).failure (has_turn h w) (w.handlers h).stack (sym (ap is_waiting (listed h w few)) ∙ e))

turns_in : (h : ℕ) (w : World) → is_busy (get_or (statuses_in w) h Free) ≡ true → has_turn h w ≡ true
turns_in h w e =
    let few = is_there is_busy h w refl e in
    turns_with (w.handlers h).failure (has_turn h w) (w.handlers h).stack (sym (ap is_busy (listed h w few)) ∙ e)

has_within : (h : ℕ) (w : World) → has_turn h w ≡ true → h < w.count
has_within h w e = ltb-true h w.count (by (nat_lt h w.count) (has_turn_with h (w.handlers h).failure (w.handlers h).stack w) e)
  where
    by : (b c : Bool) → b && c ≡ true → b ≡ true
    by true c e = refl
    by false c e = e

idle_in : (h : ℕ) (w : World) → is_busy (get_or (statuses_in w) h Free) ≡ false → has_turn h w ≡ false
idle_in h w e = by (has_turn h w) refl
  where
    by : (b : Bool) → has_turn h w ≡ b → has_turn h w ≡ false
    by false is = is
    by true is =
        let few = has_within h w is in
        let busy : status_of h w ≡ Busy = busy_with (w.handlers h).failure (has_turn h w) (w.handlers h).stack is (lives h w is) in
        let no : true ≡ false = sym (ap is_busy (listed h w few ∙ busy)) ∙ e in
        cc

not_busy : (h : ℕ) (w : World) → has_turn h w ≡ false → is_busy (get_or (statuses_in w) h Free) ≡ false
not_busy h w none = by (is_busy (get_or (statuses_in w) h Free)) refl
  where
    by : (b : Bool) → is_busy (get_or (statuses_in w) h Free) ≡ b → is_busy (get_or (statuses_in w) h Free) ≡ false
    by false is = is
    by true is = let no : true ≡ false = sym (turns_in h w is) ∙ none in cc

-- ---- refused requests

-- Worlds that are kept alike have refused the same.
refused_alike : (w u : PlainWorld) → kept w ≡ kept u → HasRefused w.center.state → HasRefused u.center.state
refused_alike w u alike refused = subst (λ (k : PlainKept). HasRefused k.state) alike refused

module _ (s : System) (p : Image) (w : World) (x : PlainWorld) (stands : StandsFor s p w x) where
  -- what a world's handlers have refused, the machine's have
  machine_refuses : HasRefused x.center.state → SomeHasRefused w
  machine_refuses one =
      let h : ℕ = one.handler in
      let many = (stands.core.handlers h).refused in
      record { handler = h; there = omega (arith, one.there, stands.core.count); some = omega (arith, one.some, many) }

  world_refuses : SomeHasRefused w → HasRefused x.center.state
  world_refuses one =
      let h : ℕ = one.handler in
      let many = (stands.core.handlers h).refused in
      record { handler = h; there = omega (arith, one.there, stands.core.count); some = omega (arith, one.some, many) }

-- ---- turns that are played anew

module _ (p : Image) (v : Version) where
  anew_from : (hs : List ℕ) (x y z : PlainWorld) → kept y ≡ kept x → RunsAnew p v hs y z → RunsAnew p v hs x z
  anew_from [] x y z same runs = (runs.0, runs.1 ∙ same)
  anew_from (h ∷ hs) x y z same runs = (runs.0, runs.1, runs.2, runs.3 ∙ same, runs.4, runs.5)

  anew_join : (hs gs : List ℕ) (x y z : PlainWorld) → RunsAnew p v hs x y → RunsAnew p v gs y z → RunsAnew p v (hs ++ gs) x z
  anew_join [] gs x y z runs more = anew_from gs x y z runs.1 more
  anew_join (h ∷ hs) gs x y z runs more = (runs.0, runs.1, runs.2, runs.3, runs.4, anew_join hs gs runs.1 y z runs.5 more)

  anew_runs : (hs ks : List ℕ) (x y : PlainWorld) → Runs ks (opened p v) x → Runs hs x y → RunsAnew p v hs x y
  anew_runs [] ks x y played same = ((ks, subst (λ (u : PlainWorld). Runs ks (opened p v) u) (sym same) played), ap kept same)
  anew_runs (h ∷ hs) ks x y played runs =
      (x, runs.0, (ks, played), refl, runs.1, anew_runs hs (ks ++ h ∷ []) runs.0 y (runs-more ks h (opened p v) x runs.0 played runs.1) runs.2)

  anew_leads : (hs : List ℕ) (x y : PlainWorld) → IsPlayed p v x → Leads (IsAnewTurn p v) hs x y → RunsAnew p v hs x y
  anew_leads [] x y played same = (subst (IsPlayed p v) (sym same) played, ap kept same)
  anew_leads (h ∷ hs) x y played leads =
      let t = leads.1 in
      let on : IsPlayed p v leads.0 = (t.played.0 ++ h ∷ [], runs-more t.played.0 h (opened p v) t.before leads.0 t.played.1 t.turn) in
      (t.before, leads.0, t.played, t.alike, t.turn, anew_leads hs leads.0 y on leads.2)

-- ---- an order that was found

module _ (anew : AnewRunsAsMachine) (alike : KeptAlikeReadAlike) (near : StandingWorldIsNear) (tells : WorldReportsAsMachine)
    (text : List ℕ) (root : Root) (p : Image) (v : Version) (loaded : IsLoaded text root p) where
  abbrev s : System
  s = loaded.system

  abbrev most : ℕ
  most = most_handlers v

  kept_as : (hs : List ℕ) (y : PlainWorld) → RunsAnew p v hs (opened p v) y → IsKeptAs s p most (machine_after s root v hs) y
  kept_as hs y runs = anew s root loaded.sound.faultless loaded.sound.well_formed p v hs y loaded.is_program loaded.fits runs

  -- the statuses of a world that is played anew are the machine's
  told : (hs : List ℕ) (y : PlainWorld) → RunsAnew p v hs (opened p v) y → statuses y ≡ statuses_in (machine_after s root v hs)
  told hs y runs =
      let w = machine_after s root v hs in
      let k = kept_as hs y runs in
      sym (alike p most k.world y k.alike).statuses ∙ (tells s p w k.world (near s p w k.world k.stands)).1

  waits_too : (hs : List ℕ) (x : PlainWorld) → Runs hs (opened p v) x → world.SomeWaits p v x → SomeWaits s v (machine_after s root v hs)
  waits_too hs x runs waits =
      let w = machine_after s root v hs in
      let h : ℕ = waits.0 in
      let first : RunsAnew p v hs (opened p v) x = anew_runs p v hs [] (opened p v) x refl runs in
      let now = waits_in h w (subst (λ (ss : List Status). is_waiting (get_or ss h Free) ≡ true) (told hs x first) waits.1.waits_now) in (
        h,
        record {
          there = now.0;
          waits = now.1;
          never = λ gs.
              let there = waits.1.never gs in
              let all = anew_join p v hs gs (opened p v) x there.0 first (anew_leads p v gs x there.0 (hs, runs) there.1) in
              ap (has_turn h) (sym (run_append most s hs gs (opening s root)))
              ∙ idle_in h (machine_after s root v (hs ++ gs))
              (subst (λ (ss : List Status). is_busy (get_or ss h Free) ≡ false) (told (hs ++ gs) there.0 all) there.2);
        },
      )

  failed_too : (hs : List ℕ) (x : PlainWorld) → Runs hs (opened p v) x → HasFailed (statuses x) → HasFailed (statuses_in (machine_after s root v hs))
  failed_too hs x runs failed = subst HasFailed (told hs x (anew_runs p v hs [] (opened p v) x refl runs)) failed

  refused_too : (hs : List ℕ) (x : PlainWorld) → Runs hs (opened p v) x → HasRefused x.center.state → SomeHasRefused (machine_after s root v hs)
  refused_too hs x runs refused =
      let k = kept_as hs x (anew_runs p v hs [] (opened p v) x refl runs) in
      machine_refuses s p (machine_after s root v hs) k.world k.stands (refused_alike x k.world (sym k.alike.same) refused)

  pub sought_too : (a : Aim) (hs : List ℕ) (x : PlainWorld) → Runs hs (opened p v) x → world.IsSought p v a x → IsSought s v a (machine_after s root v hs)
  sought_too aim.Stuck hs x runs waits = waits_too hs x runs waits
  sought_too aim.Fails hs x runs failed = failed_too hs x runs failed
  sought_too aim.Any hs x runs (inl waits) = inl (waits_too hs x runs waits)
  sought_too aim.Refused hs x runs refused = refused_too hs x runs refused
  sought_too aim.Any hs x runs (inr (inl failed)) = inr (inl (failed_too hs x runs failed))
  sought_too aim.Any hs x runs (inr (inr refused)) = inr (inr (refused_too hs x runs refused))

  -- ---- where nothing was found

  waits_anew : (hs : List ℕ) (h : ℕ) → WaitsForGood s v h (machine_after s root v hs) → (y : PlainWorld) → RunsAnew p v hs (opened p v) y →
      is_waiting (get_or (statuses y) h Free) ≡ true
  waits_anew hs h waits y runs =
      ap (λ (ss : List Status). is_waiting (get_or ss h Free)) (told hs y runs)
      ∙ ap is_waiting (listed h (machine_after s root v hs) waits.there ∙ waits.waits)

  idle_anew : (hs : List ℕ) (h : ℕ) → WaitsForGood s v h (machine_after s root v hs) → (gs : List ℕ) (y : PlainWorld) → RunsAnew p v (hs ++ gs) (opened p v) y →
      is_busy (get_or (statuses y) h Free) ≡ false
  idle_anew hs h waits gs y runs =
      let after = machine_after s root v (hs ++ gs) in
      let none : has_turn h after ≡ false = ap (has_turn h) (run_append most s hs gs (opening s root)) ∙ waits.never gs in
      ap (λ (ss : List Status). is_busy (get_or ss h Free)) (told (hs ++ gs) y runs) ∙ not_busy h after none

  module _ (own : Movers p v) (open_of : OpeningsAreOf) (stay : RunsStayOf) (a : Aim) (ks : List PlainKept) (closed : IsClosed p v a ks) where
    none_shows : (hs : List ℕ) → ((y : PlainWorld) → RunsAnew p v hs (opened p v) y → IsMet a y) → ⊥
    none_shows hs shows = joined.none_shows alike open_of stay p v own a ks closed hs shows

    none_waits : (hs : List ℕ) → AreMoving p v a ks → world.seeks_stuck a ≡ true → SomeWaits s v (machine_after s root v hs) → ⊥
    none_waits hs moving seeks waits =
        joined.none_waits alike open_of stay p v own a ks closed moving seeks hs waits.0 (waits_anew hs waits.0 waits.1) (idle_anew hs waits.0 waits.1)

  fails_anew : (hs : List ℕ) (y : PlainWorld) → RunsAnew p v hs (opened p v) y → HasFailed (statuses_in (machine_after s root v hs)) → HasFailed (statuses y)
  fails_anew hs y runs failed = subst HasFailed (sym (told hs y runs)) failed

  refuses_anew : (hs : List ℕ) (y : PlainWorld) → RunsAnew p v hs (opened p v) y → SomeHasRefused (machine_after s root v hs) → HasRefused y.center.state
  refuses_anew hs y runs refused =
      let k = kept_as hs y runs in
      refused_alike k.world y k.alike.same (world_refuses s p (machine_after s root v hs) k.world k.stands refused)

  pub none_sought : Movers p v → OpeningsAreOf → RunsStayOf → (a : Aim) (ks : List PlainKept) → IsClosed p v a ks → AreMoving p v a ks →
      (hs : List ℕ) → IsSought s v a (machine_after s root v hs) → ⊥
  none_sought own open_of stay aim.Stuck ks closed moving hs waits = none_waits own open_of stay aim.Stuck ks closed hs moving refl waits
  none_sought own open_of stay aim.Fails ks closed moving hs failed = none_shows own open_of stay aim.Fails ks closed hs (λ y runs. fails_anew hs y runs failed)
  none_sought own open_of stay aim.Refused ks closed moving hs refused = none_shows own open_of stay aim.Refused ks closed hs (λ y runs. refuses_anew hs y runs refused)
  none_sought own open_of stay aim.Any ks closed moving hs (inl waits) = none_waits own open_of stay aim.Any ks closed hs moving refl waits
  none_sought own open_of stay aim.Any ks closed moving hs (inr (inl failed)) = none_shows own open_of stay aim.Any ks closed hs (λ y runs. inr (inl (fails_anew hs y runs failed)))
  none_sought own open_of stay aim.Any ks closed moving hs (inr (inr refused)) = none_shows own open_of stay aim.Any ks closed hs (λ y runs. inr (inr (refuses_anew hs y runs refused)))

pub found : AnewRunsAsMachine → KeptAlikeReadAlike → StandingWorldIsNear → WorldReportsAsMachine → FoundOrdersAreTheMachines
found anew alike near tells text root program version lines a loaded leads = record {
  system = loaded.system;
  read = loaded.read;
  sound = loaded.sound;
  sought = sought_too anew alike near tells text root program version loaded a (turns_of lines) leads.world leads.runs leads.holds;
}

pub whole : AnewRunsAsMachine → KeptAlikeReadAlike → StandingWorldIsNear → WorldReportsAsMachine → TurnsAreMovers → OpeningsAreOf → RunsStayOf → WholeSearchesFindAll
whole anew alike near tells movers open_of stay text root program version a states loaded closed moving = record {
  system = loaded.system;
  read = loaded.read;
  sound = loaded.sound;
  none = λ handlers sought.
      none_sought anew alike near tells text root program version loaded
      (movers loaded.system root loaded.sound.faultless loaded.sound.well_formed program version loaded.is_program loaded.fits) open_of stay a states closed moving
      handlers sought;
}

-- ---- where a search gives up

module _ (one : OneWorld) (text : List ℕ) (root : Root) (p : Image) (v : Version) (a : Aim) (limits : Limits) (loaded : IsLoaded text root p) where
  -- as many were met, so as many as may be kept
  met_limit : (states : ℕ) → limits.states ≤ states → AreMet p v a states → AreMet p v a limits.states
  met_limit states few met = record { states = met.states; many = omega (arith, few, met.many); unmet = met.unmet }

  played_limit : (turns : ℕ) → turns_a_state * limits.states ≤ turns → ArePlayed p v turns → ArePlayed p v (turns_a_state * limits.states)
  played_limit turns few played = record { orders = played.orders; each = played.each; many = omega (arith, few, played.many) }

  -- turns lead to one world
  by_reason : (g : GivenUp) (r : Reason) (states turns : ℕ) → IsUsedUp p v a limits r states turns g.bytes → IsAtLimit p v a limits g
  by_reason g reason.States states turns up = inl (met_limit states up.0 up.1)
  by_reason g reason.Turns states turns up = inr (inl (played_limit turns up.0 up.1))
  by_reason g reason.Bytes states turns up = inr (inr (inl up.0))
  by_reason g reason.Memory states turns up = absurd up
  by_reason g reason.Worlds states turns two =
      absurd (two.differ (one text root p v two.order two.one two.other loaded two.leads_to_one two.leads_to_other))

  at_limit : (g : GivenUp) → GivesUp p v a limits g → IsAtLimit p v a limits g
  at_limit g (inl up) = by_reason g g.reason g.states g.turns up
  at_limit g (inr memory) = inr (inr (inr memory))

pub gives_up : OneWorld → SearchesGiveUpAtLimits
gives_up one text root p v a limits g loaded up = at_limit one text root p v a limits loaded g up
