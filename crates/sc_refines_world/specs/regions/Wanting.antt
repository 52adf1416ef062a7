-- What turns of a handler ask of the core.
use Rattle.std.specs.Prelude.{◌≡◌, ℕ, Bool, true, List, Option, Some, None, slice_get}
use Rattle.sc_tree.specs.Plain.{System}
use Rattle.sc_code.specs.RequestRoom.{AreDistinct}
use Rattle.sc_region.specs.declared.job.Want.{Want}
use Rattle.sc_region.specs.declared.value.Reference.{Reference}
use Rattle.sc_region.specs.Frames.{PlainActivation, top_activation}
use Rattle.sc_region.specs.Stores.{PlainStore}
use Rattle.sc_acts.specs.declared.act.Act.TheVariants as act
use Rattle.sc_interp.specs.declared.hops.Hop.TheVariants as hop
use Rattle.sc_acts.specs.Exiting.{asks_exiting, exited}
use Rattle.sc_acts.specs.Refusing.{asks_refusing, refused}
use Rattle.sc_refines_world.specs.regions.RegionHalves.{IsRegionOf}
use Rattle.sc_refines_world.specs.regions.RegionSteps.{IsProgramFor, names_of, next_want, number_among, numbering_by}
use Rattle.sc_refines_world.specs.regions.RegionTurns.{Half, turn}
use Rattle.sc_acts.specs.Tables.{formals_at, name_at}
use Rattle.sc_acts.specs.Turning.{unless_failed}
use Rattle.sc_acts.specs.Leaving.{asks_leaving}
use Rattle.sc_acts.specs.CreatingHandlers.{asks_creating, creation_with, may_create}
use Rattle.sc_acts.specs.Operands.{has_call}
use Rattle.sc_acts.specs.Requesting.{asks_requesting, call_of}
use Rattle.sc_refines_world.specs.regions.Acting.{AreWhole, Comes}

-- Whatever half `y` stands for: a turn of handler `h` to a half that `w` stands for asks `v`, unless `w` has failed.
-- Names have the numbers of the program.
abbrev pub TurnAsks : ℕ → PlainStore → PlainStore → Want → Type 0
TurnAsks h y w v = (s : System) (x : Half) → IsProgramFor s y.program → IsRegionOf s x y → IsRegionOf s (turn s h x) w →
    next_want (numbering_by (names_of y)) s h x ≡ unless_failed w.failure v

-- ---- names

-- If the names are distinct, each has the number of its place in the list.
abbrev pub DistinctNamesHaveNumbers : Type 0
DistinctNamesHaveNumbers = (names : List (List ℕ)) (k : ℕ) (name : List ℕ) → AreDistinct names →
    slice_get names k ≡ Some name → number_among name names ≡ k

-- The name at `k` has the number `k`.
abbrev pub IsNumbered : PlainStore → ℕ → Type 0
IsNumbered z k = number_among (name_at z.program k) (names_of z) ≡ k

-- The procedure has a name with its number, if there is a procedure.
abbrev pub IsProcedure : PlainStore → Option ℕ → Type 0
IsProcedure z None = Unit {0}
IsProcedure z (Some k) = IsNumbered z k

-- ---- ends

-- The end of a routine asks to release what its entry newly reserved, and to end its request with the Result.
abbrev pub RoutineEndsAsk : Type 0
RoutineEndsAsk = (h : ℕ) (y z : PlainStore) → Comes (hop.Comes act.Exit) y z → AreWhole z →
    TurnAsks h y (exited z) (asks_exiting (top_activation z.frames))

-- If a clause of a precondition is false, the turn asks that the entry waits, or that its request is refused.
abbrev pub RefusalsAsk : Type 0
RefusalsAsk =
    (h k : ℕ) (y z : PlainStore) → Comes (hop.Comes (act.Refuse k)) y z → AreWhole z →
    TurnAsks h y (refused k z) (asks_refusing (formals_at z.program k) (top_activation z.frames))

-- The end of a separate block asks to release what the block newly reserved.
abbrev pub BlockEndsAsk : Type 0
BlockEndsAsk = (h : ℕ) (y z w : PlainStore) → Comes (hop.Comes act.Leave) y z →
    TurnAsks h y w (asks_leaving (top_activation z.frames))

-- ---- requests and handlers

-- The operands of a call with `n` actuals are there.
abbrev pub MayRequest : ℕ → Option PlainActivation → Type 0
MayRequest n None = ⊥
MayRequest n (Some a) = has_call n a ≡ true

-- A call on an object of another handler asks the core to post its request.
abbrev pub RequestsAsk : Type 0
RequestsAsk =
    (h : ℕ) (r : Reference) (k n : ℕ) (gives passes : Bool) (y z w : PlainStore) →
    Comes (hop.Comes (act.Request (call_of r k n gives passes))) y z → IsNumbered z k →
    MayRequest n (top_activation z.frames) →
    TurnAsks h y w (asks_requesting h (call_of r k n gives passes) (top_activation z.frames))

-- The `n` operands are there, with room for the reference.
abbrev pub MayCreate : ℕ → Option PlainActivation → Type 0
MayCreate n None = ⊥
MayCreate n (Some a) = may_create n a ≡ true

-- The creation of a handler asks the core to create it.
abbrev pub CreationsAsk : Type 0
CreationsAsk =
    (h class : ℕ) (k : Option ℕ) (n : ℕ) (passes : Bool) (y z w : PlainStore) →
    Comes (hop.Comes (act.CreateHandler (creation_with class k n passes))) y z → IsProcedure z k →
    MayCreate n (top_activation z.frames) →
    TurnAsks h y w (asks_creating (creation_with class k n passes) (top_activation z.frames))
