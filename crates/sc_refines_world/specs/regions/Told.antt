-- What a turn does to a store and what it asks, if the topmost routine is ready for the visible operation.
use Rattle.std.specs.Prelude.{◌≡◌, ℕ, Bool, true, Option, Some, None}
use Rattle.sc_tree.specs.Plain.{System}
use Rattle.sc_code.specs.RequestRoom.{FitsRequests}
use Rattle.sc_region.specs.declared.value.Reference.{Reference}
use Rattle.sc_region.specs.Frames.{top_activation}
use Rattle.sc_region.specs.Stores.{PlainStore}
use Rattle.sc_acts.specs.declared.act.Act.{Act}
use Rattle.sc_acts.specs.declared.act.Act.TheVariants as act
use Rattle.sc_acts.specs.declared.act.Calling.{Calling}
use Rattle.sc_interp.specs.declared.hops.Hop.TheVariants as hop
use Rattle.sc_acts.specs.Creating.{has_room_in}
use Rattle.sc_acts.specs.Entering.{routine_in}
use Rattle.sc_refines_world.specs.regions.RegionHalves.{IsRegionOf}
use Rattle.sc_refines_world.specs.regions.RegionSteps.{IsProgramFor, names_of, next_want, numbering_by}
use Rattle.sc_refines_world.specs.regions.RegionTurns.{Half, turn}
use Rattle.sc_acts.specs.Tables.{version_in}
use Rattle.sc_interp.specs.Told.{IsTold}
use Rattle.sc_acts.specs.Acting.{acted, asks_acting}
use Rattle.sc_refines_world.specs.regions.Acting.{Comes, IsCreator, RunsOn}
use Rattle.sc_acts.specs.CreatingHandlers.{creation_with}
use Rattle.sc_acts.specs.Requesting.{call_of}

-- Silent operations lead from the store `y` to `z`. The operation `a` comes next in `z`, and the topmost
-- routine is ready for it.
pub record ComesTold (a : Act) (y z : PlainStore) : Type 0 where
  pub comes : Comes (hop.Comes a) y z
  pub told : IsTold (hop.Comes a) z
  pub fits : FitsRequests z.program

-- The operation `a` does what its definition says: whatever half `y` stands for, the store after `a` is done in `z`
-- stands for that half after a turn of handler `h`.
abbrev pub Turns : ℕ → Act → PlainStore → PlainStore → Type 0
Turns h a y z = (s : System) (x : Half) → IsProgramFor s y.program → IsRegionOf s x y →
    IsRegionOf s (turn s h x) (acted h a z)

-- The operation does what its definition says, and asks what that turn asks.
abbrev pub TurnsAsking : ℕ → Act → PlainStore → PlainStore → Type 0
TurnsAsking h a y z =
    Turns h a y z × ((s : System) (x : Half) → IsProgramFor s y.program → IsRegionOf s x y →
    next_want (numbering_by (names_of y)) s h x ≡ asks_acting h a z (acted h a z))

-- A call of a routine of the same handler does what its definition says.
abbrev pub ToldCallsAreMade : Type 0
ToldCallsAreMade = (h : ℕ) (c : Calling) (r : Reference) (k n : ℕ) (gives : Bool) (y z : PlainStore) →
    ComesTold (act.Enter c r k n gives) y z → Turns h (act.Enter c r k n gives) y z

-- A request to another handler does and asks what its definition says.
abbrev pub ToldRequestsAreMade : Type 0
ToldRequestsAreMade =
    (h : ℕ) (r : Reference) (k n : ℕ) (gives passes : Bool) (y z : PlainStore) →
    ComesTold (act.Request (call_of r k n gives passes)) y z →
    TurnsAsking h (act.Request (call_of r k n gives passes)) y z

-- The creation of a handler does and asks what its definition says.
abbrev pub ToldHandlersAreCreated : Type 0
ToldHandlersAreCreated =
    (h class : ℕ) (k : Option ℕ) (n : ℕ) (passes : Bool) (y z : PlainStore) →
    ComesTold (act.CreateHandler (creation_with class k n passes)) y z →
    TurnsAsking h (act.CreateHandler (creation_with class k n passes)) y z

-- The beginning of a separate block does what its definition says.
abbrev pub ToldBlocksBegin : Type 0
ToldBlocksBegin = (h first n : ℕ) (y z : PlainStore) → ComesTold (act.Open first n) y z → Turns h (act.Open first n) y z

-- The creation of an object of this handler without a procedure does what its definition says.
abbrev pub ToldObjectsAreCreated : Type 0
ToldObjectsAreCreated = (h class n : ℕ) (y z : PlainStore) → ComesTold (act.Create class None n) y z → IsCreator h z →
    Turns h (act.Create class None n) y z

-- So does its creation by a procedure whose name has the number `k`, if that is a routine and the reference has room.
abbrev pub ToldObjectsAreCreatedBy : Type 0
ToldObjectsAreCreatedBy =
    (h class k n routine : ℕ) (y z : PlainStore) → ComesTold (act.Create class (Some k) n) y z → RunsOn h z →
    has_room_in n (top_activation z.frames) ≡ true →
    routine_in (version_in z.program class k) ≡ Some routine → Turns h (act.Create class (Some k) n) y z
