-- Where no handler of a world has anything to do, none has a turn in the machine.
use Rattle.std.proofs.Common.{◌≡◌, ◌<◌, ◌≤◌, ◌+◌, ◌-◌, ◌++◌, ◌||◌, inl, inr, ℕ, zero, suc, Bool, true, false, List, [], ◌∷◌, Option, Some, None, is_some, refl, sym, ap, ◌∙◌, arith}
use Rattle.std.proofs.lemmas.Bool.{cases_lt}
use Rattle.std.specs.Prelude.{nat_lt, if◌then◌else◌}
use Rattle.sc_tree.specs.Plain.{System}
use Rattle.sc_model.specs.Handlers.{World}
use Rattle.sc_model.specs.Reports.{some_has_turn}
use Rattle.sc_model.specs.Runs.{has_turn}
use Rattle.sc_code.specs.declared.program.Image.{Image}
use Rattle.sc_region.specs.declared.job.Job.{Job}
use Rattle.sc_request.specs.Laws.{PicksWhereTurns}
use Rattle.sc_request.specs.Logs.{Center, first_from, first_with_job, next, numbers_from, pick_for}
use Rattle.sc_refines_world.specs.regions.RegionSteps.{numbering_by}
use Rattle.sc_world.specs.Worlds.{PlainWorld}
use Rattle.sc_refines_world.specs.Refining.{IdleWorldIsIdle}
use Rattle.sc_refines_world.specs.Standing.{StandsFor, names_in}
use Rattle.sc_world.proofs.SettledPicks.{picks_job}

-- ---- where none is next, each has nothing to do

none_here : (h : ℕ) (o : Option Job) (rest : Option (ℕ × Job)) → first_from h o rest ≡ None → (o ≡ None) × (rest ≡ None)
none_here h None rest e = (refl, e)
none_here h (Some j) rest e = cc

none_among : (n first h : ℕ) (c : Center) → first_with_job (numbers_from first n) c ≡ None → first ≤ h → h < first + n → pick_for h c ≡ None
none_among zero first h c e from below = absurd (omega (arith, from, below))
none_among (suc n) first h c e from below =
    let parts = none_here first (pick_for first c) (first_with_job (numbers_from (suc first) n) c) e in
    elim (cases_lt first h) [
      | inl later ↦ none_among n (suc first) h c parts.1 (omega (arith, later)) (omega (arith, below))
      | inr here ↦ let same : h ≡ first = omega (arith, from, here) in ap (λ (k : ℕ). pick_for k c) same ∙ parts.0
    ]

none_joined : (hs ks : List ℕ) (c : Center) → first_with_job (hs ++ ks) c ≡ None → (first_with_job hs c ≡ None) × (first_with_job ks c ≡ None)
none_joined [] ks c e = (refl, e)
none_joined (h ∷ hs) ks c e =
    let parts = none_here h (pick_for h c) (first_with_job (hs ++ ks) c) e in
    let rest = none_joined hs ks c parts.1 in
    (ap (λ (o : Option Job). first_from h o (first_with_job hs c)) parts.0 ∙ rest.0, rest.1)

pub none_has : (h : ℕ) (c : Center) → next c ≡ None → h < c.state.count → pick_for h c ≡ None
none_has h c e few =
    let parts = none_joined (numbers_from (suc c.last) (c.state.count - suc c.last)) (numbers_from 0 (if nat_lt c.last c.state.count then suc c.last else c.state.count)) c e in
    elim (cases_lt c.last h) [
      | inl later ↦ none_among (c.state.count - suc c.last) (suc c.last) h c parts.0 (omega (arith, later)) (omega (arith, later, few))
      | inr before ↦ by (nat_lt c.last c.state.count) parts.1 before
    ]
  where
    by : (b : Bool) → first_with_job (numbers_from 0 (if b then suc c.last else c.state.count)) c ≡ None → h ≤ c.last → pick_for h c ≡ None
    by true none before = none_among (suc c.last) 0 h c none (omega arith) (omega (arith, before))
    by false none before = none_among c.state.count 0 h c none (omega arith) (omega (arith, few))

-- ---- so none has a turn

module _ (picks : PicksWhereTurns) (s : System) (p : Image) (w : World) (x : PlainWorld) (stands : StandsFor s p w x) (idle : next x.center ≡ None) where
  no_turn : (h : ℕ) → h < w.count → has_turn h w ≡ false
  no_turn h few =
      let there : h < x.center.state.count = omega (arith, few, stands.core.count) in
      sym (picks (numbering_by (names_in p)) w x.center.state h stands.core)
      ∙ ap (λ (o : Option Job). is_some o) (sym (picks_job h x.center (stands.none_out h)) ∙ none_has h x.center idle there)

  none_turns : (n : ℕ) → n ≤ w.count → some_has_turn n w ≡ false
  none_turns zero few = refl
  none_turns (suc n) few = ap (λ (b : Bool). b || some_has_turn n w) (no_turn n (omega (arith, few))) ∙ none_turns n (omega (arith, few))

pub idle_world_is_idle : PicksWhereTurns → IdleWorldIsIdle
idle_world_is_idle picks s p w x stands idle = none_turns picks s p w x stands idle w.count (omega arith)
