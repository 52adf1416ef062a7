-- What turns ask.
use Rattle.std.proofs.Common.{◌≡◌, ℕ, List, ◌∷◌, Option, Some, None, length, refl, sym, ap, ◌∙◌, subst}
use Rattle.sc_tree.specs.Plain.{System}
use Rattle.sc_model.specs.declared.cause.Cause.{Cause}
use Rattle.sc_model.specs.Handlers.{frame_at}
use Rattle.sc_model.specs.Steps as model
use Rattle.sc_model.specs.Steps.{Does}
use Rattle.sc_code.specs.Machine as flat
use Rattle.sc_code.specs.Stands.{Seen}
use Rattle.sc_region.specs.declared.job.Want.{Want}
use Rattle.sc_region.specs.declared.job.Want.TheVariants as want
use Rattle.sc_region.specs.Stores.{PlainStore}
use Rattle.sc_request.specs.Asked.{Numbering, asks_acting, asks_going, asks_moving, asks_on}
use Rattle.sc_acts.specs.declared.act.Act.TheVariants as act
use Rattle.sc_interp.specs.declared.hops.Hop.{Hop}
use Rattle.sc_interp.specs.declared.hops.Hop.TheVariants as hop
use Rattle.sc_refines_world.specs.regions.Laws.{ProgramsServe}
use Rattle.sc_refines_world.specs.regions.RegionHalves.{IsRegionOf}
use Rattle.sc_refines_world.specs.regions.RegionSteps as region_steps
use Rattle.sc_refines_world.specs.regions.RegionSteps.{IsProgramFor, next_want}
use Rattle.sc_refines_world.specs.regions.RegionTurns.{Half, turn}
use Rattle.sc_acts.specs.Turning.{unless_failed}
use Rattle.sc_refines_world.specs.regions.Acting.{FailuresAreTold, Meets, SimpleStepsAskNothing}
use Rattle.sc_refines_world.proofs.regions.SilentOperations.{meets}
use Rattle.sc_refines_world.proofs.regions.PassedOperations.{act_same}
use Rattle.sc_refines_world.proofs.regions.ShownSteps.{prints_is, starts_is, until_is}

pub same_unless : (o : Option Cause) (w : Want) → region_steps.unless_failed o w ≡ unless_failed o w
same_unless None w = refl
same_unless (Some why) w = refl

-- what is asked is what the step asks
pub asked_is : (s : System) (x : Half) (o : Hop) (y z : PlainStore) (m : Meets s x o y z) (n : Numbering) (h : ℕ) (a : model.Act) → m.step ≡ a →
    asks_on n s h x.stack x.objects ≡ asks_acting n s h a (frame_at m.frame m.point) (length (m.frame ∷ m.below)) m.point.objects
asked_is s x o y z m n h a e =
    ap (λ fs. asks_on n s h fs x.objects) m.stack
    ∙ ap (λ st. asks_going n s h st m.frame (length (m.frame ∷ m.below)) x.objects) m.stage
    ∙ ap (λ t. asks_moving n s h t m.frame (length (m.frame ∷ m.below))) (m.moves ∙ ap (λ a. Does a m.point) e)

pub told_by : (n : Numbering) (s : System) (h : ℕ) (x : Half) (w : PlainStore) (asked : Want) → IsRegionOf s (turn s h x) w → asks_on n s h x.stack x.objects ≡ asked →
    next_want n s h x ≡ unless_failed w.failure asked
told_by n s h x w asked r e =
    ap (λ o. region_steps.unless_failed o (asks_on n s h x.stack x.objects)) (sym r.failure)
    ∙ ap (region_steps.unless_failed w.failure) e
    ∙ same_unless w.failure asked

module _ (serve : ProgramsServe) where
  printed : (o : Hop) (text : List ℕ) (y z w : PlainStore) (n : Numbering) (s : System) (h : ℕ) (x : Half) (m : Meets s x o y z) → flat.Prints text ≡ m.shown →
      IsRegionOf s (turn s h x) w → next_want n s h x ≡ unless_failed w.failure want.Continue
  printed o text y z w n s h x m shown r =
      told_by n s h x w want.Continue r
      (asked_is s x o y z m n h (model.Prints text)
      (prints_is m.last.environment m.point.environment m.step text (subst (λ a. Seen m.last.environment m.point.environment m.step a) (sym shown) m.seen)))

  tested : (o : Hop) (y z w : PlainStore) (n : Numbering) (s : System) (h : ℕ) (x : Half) (m : Meets s x o y z) → flat.Until ≡ m.shown →
      IsRegionOf s (turn s h x) w → next_want n s h x ≡ unless_failed w.failure want.Continue
  tested o y z w n s h x m shown r =
      told_by n s h x w want.Continue r
      (asked_is s x o y z m n h model.Until
      (until_is m.last.environment m.point.environment m.step (subst (λ a. Seen m.last.environment m.point.environment m.step a) (sym shown) m.seen)))

  pub simple_steps_ask_nothing : SimpleStepsAskNothing
  simple_steps_ask_nothing (act.PrintInteger v) y z w simple comes turns n s h x is region =
      let m = meets serve s x (hop.Comes (act.PrintInteger v)) y z is region comes in
      printed (hop.Comes (act.PrintInteger v)) _ y z w n s h x m (act_same _ m.shown _ m.state m.does) (turns s h x is region)
  simple_steps_ask_nothing (act.PrintBoolean b) y z w simple comes turns n s h x is region =
      let m = meets serve s x (hop.Comes (act.PrintBoolean b)) y z is region comes in
      printed (hop.Comes (act.PrintBoolean b)) _ y z w n s h x m (act_same _ m.shown _ m.state m.does) (turns s h x is region)
  simple_steps_ask_nothing (act.PrintText k) y z w simple comes turns n s h x is region =
      let m = meets serve s x (hop.Comes (act.PrintText k)) y z is region comes in
      printed (hop.Comes (act.PrintText k)) _ y z w n s h x m (act_same _ m.shown _ m.state m.does) (turns s h x is region)
  simple_steps_ask_nothing (act.Until None) y z w simple comes turns n s h x is region =
      let m = meets serve s x (hop.Comes (act.Until None)) y z is region comes in
      tested (hop.Comes (act.Until None)) y z w n s h x m (act_same flat.Until m.shown _ m.state m.does) (turns s h x is region)
  simple_steps_ask_nothing (act.Until (Some k)) y z w simple comes turns n s h x is region =
      let m = meets serve s x (hop.Comes (act.Until (Some k))) y z is region comes in
      tested (hop.Comes (act.Until (Some k))) y z w n s h x m (act_same flat.Until m.shown _ m.state m.does) (turns s h x is region)
  simple_steps_ask_nothing act.Start y z w simple comes turns n s h x is region =
      let m = meets serve s x (hop.Comes act.Start) y z is region comes in
      told_by n s h x w want.Continue (turns s h x is region)
      (asked_is s x (hop.Comes act.Start) y z m n h model.Starts
      (starts_is m.last.environment m.point.environment m.step
      (subst (λ a. Seen m.last.environment m.point.environment m.step a) (sym (act_same flat.Starts m.shown _ m.state m.does)) m.seen)))
  simple_steps_ask_nothing (act.Enter c r k i gives) y z w simple comes turns n s h x is region = cc
  simple_steps_ask_nothing (act.Request q) y z w simple comes turns n s h x is region = cc
  simple_steps_ask_nothing (act.Create k p i) y z w simple comes turns n s h x is region = cc
  simple_steps_ask_nothing (act.CreateHandler q) y z w simple comes turns n s h x is region = cc
  simple_steps_ask_nothing (act.Refuse k) y z w simple comes turns n s h x is region = cc
  simple_steps_ask_nothing (act.Open first i) y z w simple comes turns n s h x is region = cc
  simple_steps_ask_nothing act.Leave y z w simple comes turns n s h x is region = cc
  simple_steps_ask_nothing act.Exit y z w simple comes turns n s h x is region = cc

pub failures_are_told : FailuresAreTold
failures_are_told why y w turns fails n s h x is region =
    told_by n s h x w (asks_on n s h x.stack x.objects) (turns s h x is region) refl
    ∙ ap (λ o. unless_failed o (asks_on n s h x.stack x.objects)) fails
