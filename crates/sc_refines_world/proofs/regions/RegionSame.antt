-- What the calls of a store make of the half that it stands for.
use Rattle.std.proofs.Common.{ℕ, suc, ◌≡◌, List, [], ◌∷◌, ◌++◌, refl, ap, ◌∙◌}
use Rattle.std.specs.Prelude.{◌==◌, ◌||◌, length}
use Rattle.sc_tree.specs.Plain.{System}
use Rattle.sc_model.specs.declared.cause.Cause.{Cause}
use Rattle.sc_model.specs.Objects.{Object}
use Rattle.sc_model.specs.Values as model
use Rattle.sc_model.specs.Handlers.{Frame}
use Rattle.sc_region.specs.Frames as stored
use Rattle.sc_region.specs.Frames.{PlainFrame}
use Rattle.sc_region.specs.Stores as store
use Rattle.sc_region.specs.Stores.{PlainStore}
use Rattle.sc_refines_world.specs.regions.RegionTurns.{Half, failed, is_current}
use Rattle.sc_refines_world.specs.regions.RegionHalves.{IsRegionOf, AreFrames}

pub still_fails : (s : System) (x : Half) (y : PlainStore) (why : Cause) → IsRegionOf s x y → IsRegionOf s (failed why x) (store.failed why y)
still_fails s x y why r = record { objects = r.objects; frames = tt; output = r.output; failure = refl }

pub still_prints : (s : System) (x : Half) (y : PlainStore) (text : List ℕ) → IsRegionOf s x y →
    IsRegionOf s (record x { output = x.output ++ text }) (store.printed text y)
still_prints s x y text r = record { objects = r.objects; frames = r.frames; output = ap (λ o. o ++ text) r.output; failure = r.failure }

-- the same objects are Current
pub same_current : (s : System) (number : ℕ) (os : List Object) (fs : List Frame) (gs : List PlainFrame) → AreFrames s os fs gs →
    stored.is_current number gs ≡ is_current number fs
same_current s number os [] [] r = refl
same_current s number os (f ∷ fs) (g ∷ gs) r =
    ap (λ (a : model.Reference). a.number == number || stored.is_current number gs) r.0.current
    ∙ ap (λ rest. f.current.number == number || rest) (same_current s number os fs gs r.1)
same_current s number os [] (g ∷ gs) r = absurd r
same_current s number os (f ∷ fs) [] r = absurd r

-- there are as many frames
pub same_height : (s : System) (os : List Object) (fs : List Frame) (gs : List PlainFrame) → AreFrames s os fs gs → length gs ≡ length fs
same_height s os [] [] r = refl
same_height s os (f ∷ fs) (g ∷ gs) r = ap suc (same_height s os fs gs r.1)
same_height s os [] (g ∷ gs) r = absurd r
same_height s os (f ∷ fs) [] r = absurd r
