-- That each handler serves in the core what its region serves is a fact: it has one proof at most.
use Rattle.std.specs.Prelude.{◌-◌, ℕ, List, [], ◌∷◌}
use Rattle.std.specs.Coded.{Unit-prop, le_prop, Π_prop, →_prop, ×_prop}
use Rattle.std.proofs.Props.{props}
use Rattle.sc_region.specs.Frames.{PlainFrame}
use Rattle.sc_region.specs.Stores.{PlainStore}
use Rattle.sc_handler.specs.Handlers.{Handler, Service, HandlerStage}
use Rattle.sc_request.specs.Logs.{Center}
use Rattle.sc_play.specs.Regions.{PlainRegion}
use Rattle.sc_world.specs.Requests.Links.{AreLinked}
use Rattle.sc_world.specs.Requests.Serving.{Agrees, HasFrames, Serve, Serves, served}
use Rattle.sc_world.specs.Requests.Settlements.{known}

serve_prop : (fs : List PlainFrame) (n : ℕ) → IsProp (Serve fs n)
serve_prop [] n = Prim.hlevel props
serve_prop (f ∷ below) n = ×_prop le_prop (serve_prop below (n - served f.activation.origin))

serves_prop : (n : ℕ) (x : PlainStore) → IsProp (Serves n x)
serves_prop n x = Prim.hlevel (props, serve_prop x.frames n)

frames_prop : (stage : HandlerStage) (vs : List Service) → IsProp (HasFrames stage vs)
frames_prop stage [] = Unit-prop
frames_prop stage (v ∷ vs) = Prim.hlevel (props, frames_prop v.over vs)

agrees_prop : (x : Handler) (y : PlainStore) → IsProp (Agrees x y)
agrees_prop x y = Prim.hlevel (serves_prop, frames_prop x.stage x.services)

pub linked_prop : (c : Center) (rs : List PlainRegion) → IsProp (AreLinked c rs)
unfolding AreLinked
linked_prop c rs = Π_prop (λ h. Π_prop (λ x. →_prop (agrees_prop (known h c.state) x.store)))
