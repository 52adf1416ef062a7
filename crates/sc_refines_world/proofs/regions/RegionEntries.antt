-- A routine is entered: the region's half stays that of the machine.
use Rattle.std.proofs.Common.{◌≡◌, ◌∙◌, ℕ, Bool, true, false, List, [], ◌∷◌, Option, Some, None, length, sym, ap}
use Rattle.std.specs.Prelude.{nat_lt, if◌then◌else◌}
use Rattle.sc_tree.specs.Plain.{System}
use Rattle.sc_model.specs.declared.cause.Cause.{Cause}
use Rattle.sc_model.specs.declared.cause.Cause.TheVariants as cause
use Rattle.sc_model.specs.Limits.{max_frames}
use Rattle.sc_model.specs.Values.{Reference, Value}
use Rattle.sc_model.specs.Environments.{Binding, formals_bound, separate_formals}
use Rattle.sc_model.specs.Routines.{Routine}
use Rattle.sc_model.specs.Entries as entries
use Rattle.sc_model.specs.Entries.{stage_with, entry}
use Rattle.sc_model.specs.Failures.{fails_with}
use Rattle.sc_model.specs.Handlers as machine
use Rattle.sc_model.specs.Handlers.{Request, Origin, Frame, World}
use Rattle.sc_handler.specs.Handlers as core
use Rattle.sc_refines_world.specs.regions.RegionTurns as region
use Rattle.sc_refines_world.specs.regions.RegionTurns.{Half, failed}
use Rattle.sc_refines_world.specs.regions.RegionHalves.{unpassed, IsHalfOfFrame, AreHalvesOf, IsRegionHalf}
use Rattle.sc_refines_world.proofs.regions.Alike.{own, fails_alike}
use Rattle.sc_refines_world.proofs.regions.Halves.{IsOwn, view_half, same_length, stack_half, fail_both}

own_entry : (vs : List Value) → IsOwn (stage_with vs)
own_entry [] = tt
own_entry (v ∷ vs) = tt

entry_half : (h : ℕ) (me : Reference) (r : Routine) (o : Origin) (bs : List Binding) → IsHalfOfFrame h core.Runs (entry me r o bs) (entry me r (unpassed o) bs)
entry_half h me r o bs = view_half h (entry me r o bs) [] (own_entry (separate_formals bs))

-- The half is the region's, and fails where the handler does.
abbrev pub IsFull : ℕ → World → Half → Type 0
IsFull h w x = IsRegionHalf h (w.handlers h) core.Runs x × (x.failure ≡ (w.handlers h).failure)

pub fail_full : (h : ℕ) (why : Cause) (taken : List Request) (w : World) (x : Half) → x.objects ≡ (w.handlers h).objects →
    x.output ≡ (w.handlers h).output → IsFull h (fails_with h why taken w) (failed why x)
fail_full h why taken w x objects output = (fail_both h core.Runs why taken w x objects output, sym (fails_alike h why taken w).failure)

pub stack_full : (h : ℕ) (fs : List Frame) (w : World) (x : Half) → x.objects ≡ (w.handlers h).objects → x.output ≡ (w.handlers h).output →
    x.failure ≡ None → (w.handlers h).failure ≡ None → AreHalvesOf h core.Runs fs x.stack → IsFull h (machine.with_stack h fs w) x
stack_full h fs w x objects output lives stands halves = (
  stack_half h core.Runs fs w x objects output lives halves,
  lives ∙ sym stands ∙ sym (ap (λ (y : machine.Handler). y.failure) (own h (record (w.handlers h) { stack = fs }) w)),
)

bound_full : (h : ℕ) (me : Reference) (r : Routine) (o : Origin) (fs gs : List Frame) (taken : List Request) (bound : Option (List Binding)) (w : World) (x : Half) →
    AreHalvesOf h core.Runs fs gs → x.objects ≡ (w.handlers h).objects → x.output ≡ (w.handlers h).output → x.failure ≡ None → (w.handlers h).failure ≡ None →
    IsFull h (entries.enters_bound h me r o fs taken bound w) (region.enters_bound me r (unpassed o) gs bound x)
bound_full h me r o fs gs taken None w x halves objects output lives stands = fail_full h cause.BadCode taken w x objects output
bound_full h me r o fs gs taken (Some bs) w x halves objects output lives stands =
    by (nat_lt (length fs) max_frames) (nat_lt (length gs) max_frames) (ap (λ (n : ℕ). nat_lt n max_frames) (same_length h core.Runs fs gs halves))
  where
    by : (b c : Bool) → b ≡ c →
        IsFull h (if b then machine.with_stack h (entry me r o bs ∷ fs) w else fails_with h cause.StackFull taken w)
        (if c then region.with_stack (entry me r (unpassed o) bs ∷ gs) x else failed cause.StackFull x)
    by true true e = stack_full h (entry me r o bs ∷ fs) w (region.with_stack (entry me r (unpassed o) bs ∷ gs) x) objects output lives stands (entry_half h me r o bs, halves)
    by false false e = fail_full h cause.StackFull taken w x objects output
    by true false e = cc
    by false true e = cc

pub enters_full : (s : System) (h : ℕ) (me : Reference) (r : Option Routine) (o : Origin) (fs gs : List Frame) (taken : List Request) (vs : List Value) (w : World) (x : Half) →
    AreHalvesOf h core.Runs fs gs → x.objects ≡ (w.handlers h).objects → x.output ≡ (w.handlers h).output → x.failure ≡ None → (w.handlers h).failure ≡ None →
    IsFull h (entries.enters s h me r o fs taken vs w) (region.enters s me r (unpassed o) gs vs x)
enters_full s h me None o fs gs taken vs w x halves objects output lives stands = fail_full h cause.BadCode taken w x objects output
enters_full s h me (Some r) o fs gs taken vs w x halves objects output lives stands =
    bound_full h me r o fs gs taken (formals_bound s r.text.formals 0 r.text.formals vs) w x halves objects output lives stands
