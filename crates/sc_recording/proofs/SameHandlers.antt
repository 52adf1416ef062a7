-- Handlers of which worlds have the same.
use Rattle.std.proofs.Common.{◌≡◌, ◌<◌, ◌+◌, ℕ, Bool, true, false, Option, None, Some, inl, inr, slice_get, refl, sym, subst, arith}
use Rattle.std.specs.Prelude.{IsTrue}
use Rattle.std.proofs.lemmas.Bool.{cases_eq}
use Rattle.sc_region.specs.Stores.{AreSame}
use Rattle.sc_request.specs.Logs.{Center}
use Rattle.sc_request.specs.Same.{AreSameAt}
use Rattle.sc_play.specs.Regions.{PlainRegion}
use Rattle.sc_world.specs.Worlds.{PlainWorld}
use Rattle.sc_recording.specs.Same.{AreSameRegions, IsSameAt}

-- one more handler
pub same-more : (h : ℕ) (w v : PlainWorld) → ((k : ℕ) → k < h → IsSameAt k w v) → IsSameAt h w v → (k : ℕ) → k < h + 1 → IsSameAt k w v
same-more h w v before same k below = elim (cases_eq k h) [
  | inl e ↦ subst (λ (n : ℕ). IsSameAt n w v) (sym e) same
  | inr apart ↦ before k (less k h apart below)
]
  where
    less : (a b : ℕ) → (a ≡ b → ⊥) → a < b + 1 → a < b
    less a b apart below = grind (arith)

-- the regions are the same of a handler, and a test tells whether the cores are, which are those of the worlds
pub told-same : (h : ℕ) (w v : PlainWorld) (c d : Center) (told : Bool) → c ≡ w.center → d ≡ v.center →
    AreSameRegions (slice_get w.regions h) (slice_get v.regions h) → (IsTrue told → AreSameAt h c d) → (AreSameAt h c d → IsTrue told) →
    (IsTrue told → IsSameAt h w v) × (IsSameAt h w v → IsTrue told)
told-same h w v c d told first second region there back = (
  λ yes. record {
    region = region;
    center = subst (λ (x : Center). AreSameAt h x v.center) first (subst (λ (x : Center). AreSameAt h c x) second (there yes));
  },
  λ same. back (subst (λ (x : Center). AreSameAt h x d) (sym first) (subst (λ (x : Center). AreSameAt h w.center x) (sym second) same.center)),
)

-- A test tells whether the regions are the same, if there are any.
abbrev Tells : Bool → Option PlainRegion → Option PlainRegion → Type 0
Tells told x y = (IsTrue told → AreSameRegions x y) × (AreSameRegions x y → IsTrue told)

pub told-both : (x y : Option PlainRegion) (r s : PlainRegion) (told : Bool) → x ≡ Some r → y ≡ Some s →
    (IsTrue told → AreSame r.store s.store) × (AreSame r.store s.store → IsTrue told) → Tells told x y
told-both x y r s told first second tells =
    subst (λ (o : Option PlainRegion). Tells told o y) (sym first) (subst (λ (o : Option PlainRegion). Tells told (Some r) o) (sym second) tells)

pub told-neither : (x y : Option PlainRegion) → x ≡ None → y ≡ None → Tells true x y
told-neither x y first second =
    subst (λ (o : Option PlainRegion). Tells true o y) (sym first)
    (subst (λ (o : Option PlainRegion). Tells true None o) (sym second) (λ yes. tt, λ same. refl))

pub told-first : (x y : Option PlainRegion) (r : PlainRegion) → x ≡ Some r → y ≡ None → Tells false x y
told-first x y r first second =
    subst (λ (o : Option PlainRegion). Tells false o y) (sym first)
    (subst (λ (o : Option PlainRegion). Tells false (Some r) o) (sym second) (λ yes. cc, λ same. absurd same))
