-- The objects of handlers that are free.
use Rattle.std.specs.Prelude.{◌≡◌, ℕ, List, Some, slice_get}
use Rattle.sc_lockpass.specs.declared.version.Version.{Version}
use Rattle.sc_model.specs.declared.status.Status.TheVariants.{Free}
use Rattle.sc_code.specs.declared.program.Image.{Image}
use Rattle.sc_region.specs.Classes.{MeetsInvariant}
use Rattle.sc_region.specs.Objects.{PlainObject, object_numbered}
use Rattle.sc_request.specs.Logs.{status_for}
use Rattle.sc_play.specs.Regions.{PlainRegion}
use Rattle.sc_world.specs.Requests.Links.{AreLinked}
use Rattle.sc_world.specs.Turning.{Runs, StopsBehind}
use Rattle.sc_world.specs.Worlds.{PlainWorld, opened}

-- Each handler serves in the core what its region serves.
abbrev pub IsLinked : PlainWorld → Type 0
IsLinked w = AreLinked w.center w.regions

-- If the handler is free, so it hasn't failed, each of its objects meets its class invariant (ECMA-367, 8.9.16).
abbrev pub FreeObjectsMeet : ℕ → PlainWorld → Type 0
FreeObjectsMeet h w =
    (number : ℕ) (x : PlainRegion) (o : PlainObject) → status_for h w.center ≡ Some Free →
    slice_get w.regions h ≡ Some x → object_numbered number x.store.objects ≡ Some o → MeetsInvariant x.store.program o

-- ---- laws

-- So is the world at its opening,
abbrev pub OpeningsAreLinked : Type 0
OpeningsAreLinked = (p : Image) (v : Version) → IsLinked (opened p v)

-- after the turns of any handlers, one after the other,
abbrev pub RunsStayLinked : Type 0
RunsStayLinked = (hs : List ℕ) (x y : PlainWorld) → IsLinked x → Runs hs x y → IsLinked y

-- and where memory was refused to one of them.
abbrev pub StoppedRunsStayLinked : Type 0
StoppedRunsStayLinked = (n : ℕ) (hs : List ℕ) (x y : PlainWorld) → IsLinked x → StopsBehind n hs x y → IsLinked y
