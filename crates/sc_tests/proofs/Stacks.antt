-- How many frames a handler has at most.
use Rattle.std.proofs.Common.{ℕ, ◌≡◌, Bool, false, List, ◌∷◌, Option, Some, ap, ◌∙◌}
use Rattle.std.specs.Prelude.{length, nat_lt, if◌then◌else◌}
use Rattle.sc_tree.specs.Plain.{System}
use Rattle.sc_model.specs.declared.cause.Cause.TheVariants as cause
use Rattle.sc_model.specs.Values.{Reference, Value}
use Rattle.sc_model.specs.Environments.{Binding, formals_bound}
use Rattle.sc_model.specs.Routines.{Routine}
use Rattle.sc_model.specs.Limits.{max_frames}
use Rattle.sc_model.specs.Handlers.{Request, Requested, Frame, World, with_stack}
use Rattle.sc_model.specs.Failures.{fails_with}
use Rattle.sc_model.specs.Entries.{entry, enters, enters_bound}

-- A request that is taken on a full stack, as a callback is, fails its handler.
pub requests_want_room : (s : System) (h : ℕ) (me : Reference) (r : Routine) (request : Request) (below : List Frame) (taken : List Request)
    (vs : List Value) (bs : List Binding) (w : World) → formals_bound s r.text.formals 0 r.text.formals vs ≡ Some bs →
    nat_lt (length below) max_frames ≡ false → enters s h me (Some r) (Requested request) below taken vs w ≡ fails_with h cause.StackFull taken w
requests_want_room s h me r request below taken vs bs w bound full =
    ap (λ (o : Option (List Binding)). enters_bound h me r (Requested request) below taken o w) bound
    ∙ ap (λ (b : Bool). if b then with_stack h (entry me r (Requested request) bs ∷ below) w else fails_with h cause.StackFull taken w) full
