-- Which requests the frames of a store serve, and which the core says that its handler serves.
use Rattle.std.specs.Prelude.{◌≡◌, ◌<◌, ◌-◌, ℕ, true, List, [], ◌∷◌, None, length}
use Rattle.sc_region.specs.declared.frame.Origin.{Origin}
use Rattle.sc_region.specs.declared.frame.Origin.TheVariants as origin
use Rattle.sc_region.specs.Frames.{PlainFrame}
use Rattle.sc_region.specs.Stores.{PlainStore}
use Rattle.sc_handler.specs.Handlers.{HandlerStage, Service, Handler, has_frames}

-- ---- stores

-- how many requests a routine serves itself that began so
abbrev pub served : Origin → ℕ
served origin.Unqualified = 0
served origin.Qualified = 0
served origin.Creation = 0
served origin.Requested = 1
served origin.RequestedCreation = 1

-- The frames serve this number of requests: one that a request began serves that, and any other one of those below
-- it.
abbrev pub Serve : List PlainFrame → ℕ → Type 0
Serve [] n = n ≡ 0
Serve (f ∷ below) n = (0 < n) × Serve below (n - served f.activation.origin)

-- The store hasn't failed, and its frames serve this number of requests.
pub record Serves (n : ℕ) (x : PlainStore) : Type 0 where
  pub stands : x.failure ≡ None
  pub serve : Serve x.frames n

-- ---- handlers

-- Where a handler serves requests it has frames, and so it had as each was taken while it served others.
abbrev pub HasFrames : HandlerStage → List Service → Type 0
HasFrames stage [] = Unit {0}
HasFrames stage (v ∷ vs) = (has_frames stage ≡ true) × HasFrames v.over vs

-- The handler serves this number of requests, if it hasn't failed.
pub record HasServices (n : ℕ) (x : Handler) : Type 0 where
  pub count : length x.services ≡ n
  pub frames : HasFrames x.stage x.services

-- Unless the handler has failed in the core, it serves what its store does, which hasn't failed.
abbrev pub Agrees : Handler → PlainStore → Type 0
Agrees x y = x.failure ≡ None → Serves (length x.services) y × HasFrames x.stage x.services
