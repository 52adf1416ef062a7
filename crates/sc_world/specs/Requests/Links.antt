-- What links the core and the regions, and the objects of handlers that are free.
use Rattle.std.specs.Prelude.{◌≡◌, ℕ, List, [], Some, None, slice_get, slice_set}
use Rattle.sc_model.specs.declared.status.Status.TheVariants.{Free}
use Rattle.sc_region.specs.declared.job.Job.{Job}
use Rattle.sc_region.specs.declared.job.Outcome.{Outcome}
use Rattle.sc_region.specs.Classes.{MeetsInvariant}
use Rattle.sc_region.specs.Objects.{PlainObject, object_numbered}
use Rattle.sc_region.specs.Stores.{SettledObjectsMeet, new_store}
use Rattle.sc_code.specs.declared.program.Image.{Image}
use Rattle.sc_request.specs.Logs.{Center, opened, pick_for, picked, put_back, root_of, settles, status_for}
use Rattle.sc_play.specs.Regions.{PlainRegion, Plays, IsRefused}
use Rattle.sc_world.specs.Requests.Serving.{Agrees}
use Rattle.sc_world.specs.Requests.Settlements.{known}

-- Each handler serves in the core what its region serves. These are the regions of the handlers.
unfoldable pub AreLinked : Center → List PlainRegion → Type 0
AreLinked c rs = (h : ℕ) (x : PlainRegion) → slice_get rs h ≡ Some x → Agrees (known h c.state) x.store

-- Every object of a handler that is free, and so has not failed, meets its class invariant (ECMA-367, 8.9.16).
abbrev pub FreeObjectsMeet : Center → List PlainRegion → Type 0
FreeObjectsMeet c rs =
    (h number : ℕ) (x : PlainRegion) (o : PlainObject) → status_for h c ≡ Some Free → slice_get rs h ≡ Some x →
    object_numbered number x.store.objects ≡ Some o → MeetsInvariant x.store.program o

-- ---- laws

-- The region of a handler that is free has no frames, and hasn't failed.
abbrev pub FreeRegionsRest : Type 0
FreeRegionsRest =
    (h : ℕ) (c : Center) (rs : List PlainRegion) (x : PlainRegion) →
    AreLinked c rs → status_for h c ≡ Some Free → slice_get rs h ≡ Some x →
    (x.store.frames ≡ []) × (x.store.failure ≡ None)

-- So each of its objects meets its invariant, as all settled ones do.
abbrev pub LinkedObjectsMeet : Type 0
LinkedObjectsMeet =
    (c : Center) (rs : List PlainRegion) → AreLinked c rs →
    ((h : ℕ) (x : PlainRegion) → slice_get rs h ≡ Some x → SettledObjectsMeet x.store) →
    FreeObjectsMeet c rs

-- It is so at the opening, where the regions are new,
abbrev pub OpeningsAreLinked : Type 0
OpeningsAreLinked =
    (p : Image) (most class procedure : ℕ) (rs : List PlainRegion) →
    ((h : ℕ) (x : PlainRegion) → slice_get rs h ≡ Some x → x.store ≡ new_store p) →
    AreLinked (opened most (root_of class procedure)) rs

-- after each turn of a handler that has something to do,
abbrev pub TurnsStayLinked : Type 0
TurnsStayLinked =
    (limit most h : ℕ) (j : Job) (c : Center) (rs : List PlainRegion) (x y : PlainRegion) (o : Outcome) →
    AreLinked c rs → pick_for h c ≡ Some j → slice_get rs h ≡ Some x → Plays limit j x y o →
    AreLinked (settles most h j o.turns o.want (picked h j c)) (slice_set rs h y)

-- and where memory was refused to it.
abbrev pub RefusedTurnsStayLinked : Type 0
RefusedTurnsStayLinked =
    (h : ℕ) (j : Job) (c : Center) (rs : List PlainRegion) (x y : PlainRegion) →
    AreLinked c rs → slice_get rs h ≡ Some x → IsRefused j x y →
    AreLinked (put_back h (picked h j c)) (slice_set rs h y)
