-- Which request began a frame, which handler waits for which, and the chain of a request that is waited for.
use Rattle.std.specs.Prelude.{ℕ, ◌≡◌, Bool, Option, None, Contains}
use Rattle.sc_rules.specs.declared.entity_types.entity_type.EntityType.{EntityType}
use Rattle.sc_model.specs.Handlers.{Origin, Called, Requested, Awaits, Frame, World}

-- the poster of the request that began a frame, if one did
abbrev pub asked_by : Origin → Option ℕ
asked_by (Called c) = None
asked_by (Requested r) = r.poster

-- The first handler waits for the second: one of its frames awaits its answer, the topmost or one below it.
pub data WaitsFor (w : World) (h k : ℕ) : Type 0 where
  waits : {f : Frame} {gives : Option EntityType} {is_creation : Bool} → Contains (w.handlers h).stack f →
      f.stage ≡ Awaits k gives is_creation → WaitsFor w h k

-- The chain of a request that the first handler posted and waits for: the first handler, and whoever one of the chain
-- waits for.
pub data InChain (w : World) (h : ℕ) : ℕ → Type 0 where
  poster : InChain w h h
  further : {j k : ℕ} → InChain w h j → WaitsFor w j k → InChain w h k
