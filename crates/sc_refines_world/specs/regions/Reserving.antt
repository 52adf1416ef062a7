-- What a turn asks if a reserve step may come next: calls and creations on the same handler, and separate blocks.
use Rattle.std.specs.Prelude.{◌≡◌, ℕ, Bool, true, Option, Some, None}
use Rattle.sc_region.specs.declared.value.Reference.{Reference}
use Rattle.sc_region.specs.Frames.{PlainActivation, top_activation}
use Rattle.sc_region.specs.Stores.{PlainStore}
use Rattle.sc_acts.specs.declared.act.Act.TheVariants as act
use Rattle.sc_acts.specs.declared.act.Calling.{Calling}
use Rattle.sc_interp.specs.declared.hops.Hop.TheVariants as hop
use Rattle.sc_acts.specs.Entering.{asks_beginning}
use Rattle.sc_acts.specs.Blocks.{asks_opening, may_open}
use Rattle.sc_acts.specs.CreatingObjects.{asks_created}
use Rattle.sc_refines_world.specs.regions.Acting.{Comes}
use Rattle.sc_refines_world.specs.regions.Wanting.{TurnAsks}

-- A call of a routine of the same handler asks for the reserve step of the routine that begins, if that has
-- attached separate formals.
abbrev pub CallsAsk : Type 0
CallsAsk =
    (h : ℕ) (c : Calling) (r : Reference) (k n : ℕ) (gives : Bool) (y z w : PlainStore) →
    Comes (hop.Comes (act.Enter c r k n gives)) y z → w.program ≡ y.program →
    TurnAsks h y w (asks_beginning w.program (top_activation w.frames))

-- The creation of an object asks for the reserve step of its procedure, and for nothing if it has none.
abbrev pub ObjectCreationsAsk : Type 0
ObjectCreationsAsk =
    (h class : ℕ) (k : Option ℕ) (n : ℕ) (y z w : PlainStore) → Comes (hop.Comes (act.Create class k n)) y z →
    w.program ≡ y.program → TurnAsks h y w (asks_created k w)

-- The heads of the block are there, and there are slots for them.
abbrev pub MayOpen : ℕ → ℕ → Option PlainActivation → Type 0
MayOpen first n None = ⊥
MayOpen first n (Some a) = may_open first n a ≡ true

-- The beginning of a separate block asks for its reserve step.
abbrev pub BlocksAsk : Type 0
BlocksAsk =
    (h first n : ℕ) (y z w : PlainStore) → Comes (hop.Comes (act.Open first n)) y z →
    MayOpen first n (top_activation z.frames) →
    TurnAsks h y w (asks_opening first n (top_activation z.frames))
