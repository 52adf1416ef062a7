-- Answers are taken, and reserve steps: the region's half stays that of the machine.
use Rattle.std.proofs.Common.{◌≡◌, ◌⊎◌, inl, inr, ℕ, true, false, List, [], ◌∷◌, Option, None, refl, sym, subst}
use Rattle.sc_tree.specs.Plain.{System}
use Rattle.sc_rules.specs.declared.entity_types.entity_type.EntityType.{EntityType}
use Rattle.sc_lockpass.specs.declared.wait_conditions.session.Release.TheVariants as release_at
use Rattle.sc_model.specs.Values.{Value}
use Rattle.sc_model.specs.Exits.{handed_as}
use Rattle.sc_model.specs.Handlers as machine
use Rattle.sc_model.specs.Handlers.{Stage, Runs, Reserves, ReservesBlock, InCall, Awaits, Frame, Handler, World}
use Rattle.sc_model.specs.Sessions as sessions
use Rattle.sc_handler.specs.Handlers as core
use Rattle.sc_refines_world.specs.regions.RegionTurns as region
use Rattle.sc_refines_world.specs.regions.RegionTurns.{Half, told}
use Rattle.sc_refines_world.specs.regions.RegionHalves.{IsStageFor, IsToldOf, IsHalfOfFrame, AreHalvesOf, IsRegionHalf}
use Rattle.sc_refines_world.proofs.regions.Halves.{stands_on, stack_half, put_half, released_half, half_at}
use Rattle.sc_refines_world.proofs.regions.VisibleSteps.{handed_half}

module _ (s : System) (h : ℕ) (w : World) (f g : Frame) (below under : List Frame) (stands : (w.handlers h).failure ≡ None)
    (halves : AreHalvesOf h core.Runs below under) where
  abbrev x : Half
  x = half_at (w.handlers h) (g ∷ under)

  -- the handler has taken its answer, and goes on with this frame
  abbrev answered : Frame → World
  answered f' = machine.put h (record (w.handlers h) { stack = f' ∷ below; answer = None }) w

  goes_on : (f' g' : Frame) → IsHalfOfFrame h core.Runs f' g' → IsRegionHalf h ((answered f').handlers h) core.Runs (region.with_stack (g' ∷ under) x)
  goes_on f' g' e =
      put_half h core.Runs (record (w.handlers h) { stack = f' ∷ below; answer = None }) w (region.with_stack (g' ∷ under) x)
      (stands_on h core.Runs (record (w.handlers h) { stack = f' ∷ below; answer = None }) (region.with_stack (g' ∷ under) x) refl refl refl (e, halves))

  -- ---- answers

  pub reply_half : (t : core.HandlerStage) (k : ℕ) (gives : Option EntityType) (v : Option Value) → IsHalfOfFrame h t f g → f.stage ≡ Awaits k gives false →
      IsRegionHalf h ((answered (handed_as gives v f)).handlers h) core.Runs (region.takes_reply g.stage v g under x)
  reply_half t k gives v e is = by (subst (λ (st : Stage). IsStageFor h st g.stage) is e.stands)
    where
      same : f.values ≡ g.values
      same = subst (λ (st : Stage). IsToldOf st t f.values g.values) is e.values

      by : (g.stage ≡ Awaits k gives false) ⊎ ((gives ≡ None) × (g.stage ≡ Runs)) →
          IsRegionHalf h ((answered (handed_as gives v f)).handlers h) core.Runs (region.takes_reply g.stage v g under x)
      by (inl awaits) =
          subst (λ (st : Stage). IsRegionHalf h ((answered (handed_as gives v f)).handlers h) core.Runs (region.takes_reply st v g under x)) (sym awaits)
          (goes_on (handed_as gives v f) (handed_as gives v g) (handed_half h t gives v f g e same))
      by (inr (none, runs)) =
          subst (λ (st : Stage). IsRegionHalf h ((answered (handed_as gives v f)).handlers h) core.Runs (region.takes_reply st v g under x)) (sym runs)
          (subst (λ (o : Option EntityType). IsRegionHalf h ((answered (handed_as o v f)).handlers h) core.Runs x) (sym none)
          (goes_on (record f { stage = Runs }) g
          (record { same = λ i. record (e.same i) { stage = Runs }; origin = e.origin; stands = runs; values = same })))

  -- the answer to a creation, with which the creator is told the handler
  pub creation_half : (t : core.HandlerStage) (k : ℕ) (gives : Option EntityType) (v : Option Value) → IsHalfOfFrame h t f g → f.stage ≡ Awaits k gives true →
      gives ≡ None →
      IsRegionHalf h ((sessions.release release_at.Creation (k ∷ []) (answered (handed_as gives v f))).handlers h) core.Runs
      (region.takes_made s h g.stage (record g { values = told k g.values }) under x)
  creation_half t k gives v e is none =
      let awaits : g.stage ≡ Awaits h gives true = subst (λ (st : Stage). IsStageFor h st g.stage) is e.stands in
      let same : f.values ≡ told k g.values = subst (λ (st : Stage). IsToldOf st t f.values g.values) is e.values in
      released_half h core.Runs release_at.Creation (k ∷ []) (answered (handed_as gives v f)) _
      (subst (λ (st : Stage). IsRegionHalf h ((answered (handed_as gives v f)).handlers h) core.Runs
      (region.takes_made s h st (record g { values = told k g.values }) under x)) (sym awaits)
      (subst (λ (o : Option EntityType). IsRegionHalf h ((answered (handed_as o v f)).handlers h) core.Runs
      (region.with_stack (record g { values = told k g.values; stage = Runs } ∷ under) x)) (sym none)
      (goes_on (record f { stage = Runs }) (record g { values = told k g.values; stage = Runs })
      (record { same = λ i. record (e.same i) { stage = Runs }; origin = e.origin; stands = refl; values = same }))))

  -- ---- reserve steps

  granted_half : (f' g' : Frame) (ks : List ℕ) → IsHalfOfFrame h core.Runs f' g' →
      IsRegionHalf h ((sessions.reserve h ks (machine.with_stack h (f' ∷ below) w)).handlers h) core.Runs (region.with_stack (g' ∷ under) x)
  granted_half f' g' ks e = stack_half h core.Runs (f' ∷ below) w (region.with_stack (g' ∷ under) x) refl refl refl (e, halves)

  pub entry_half : (t : core.HandlerStage) (ks : List ℕ) → IsHalfOfFrame h t f g → f.stage ≡ Reserves →
      IsRegionHalf h ((sessions.reserve h ks (machine.with_stack h (record f { stage = Runs; reserved = ks } ∷ below) w)).handlers h) core.Runs
      (region.takes_grant g.stage ks g under x)
  entry_half t ks e is =
      let reserves : g.stage ≡ Reserves = subst (λ (st : Stage). IsStageFor h st g.stage) is e.stands in
      let same : f.values ≡ g.values = subst (λ (st : Stage). IsToldOf st t f.values g.values) is e.values in
      let v = sessions.reserve h ks (machine.with_stack h (record f { stage = Runs; reserved = ks } ∷ below) w) in
      subst (λ (st : Stage). IsRegionHalf h (v.handlers h) core.Runs (region.takes_grant st ks g under x)) (sym reserves)
      (granted_half (record f { stage = Runs; reserved = ks }) (record g { stage = Runs; reserved = ks }) ks
      (record { same = λ i. record (e.same i) { stage = Runs; reserved = ks }; origin = e.origin; stands = refl; values = same }))

  pub block_half : (t : core.HandlerStage) (ks : List ℕ) → IsHalfOfFrame h t f g → f.stage ≡ ReservesBlock →
      IsRegionHalf h ((sessions.reserve h ks (machine.with_stack h (record f { stage = Runs; blocks = ks ∷ f.blocks } ∷ below) w)).handlers h) core.Runs
      (region.takes_grant g.stage ks g under x)
  block_half t ks e is =
      let reserves : g.stage ≡ ReservesBlock = subst (λ (st : Stage). IsStageFor h st g.stage) is e.stands in
      let same : f.values ≡ g.values = subst (λ (st : Stage). IsToldOf st t f.values g.values) is e.values in
      let v = sessions.reserve h ks (machine.with_stack h (record f { stage = Runs; blocks = ks ∷ f.blocks } ∷ below) w) in
      subst (λ (st : Stage). IsRegionHalf h (v.handlers h) core.Runs (region.takes_grant st ks g under x)) (sym reserves)
      (granted_half (record f { stage = Runs; blocks = ks ∷ f.blocks }) (record g { stage = Runs; blocks = ks ∷ g.blocks }) ks
      (record { same = λ i. record (e.same i) { stage = Runs; blocks = ks ∷ (e.same i).blocks }; origin = e.origin; stands = refl; values = same }))
