-- What a handler's turn under its job makes of the region's half is the half of the machine's turn.
use Rattle.std.proofs.Common.{◌≡◌, ◌⊎◌, inl, inr, ◌<◌, ℕ, Bool, true, false, List, Option, Some, None, refl, sym, ap, subst}
use Rattle.std.proofs.lemmas.Bool.{cases_Bool, ltb-true}
use Rattle.std.specs.Prelude.{nat_lt, if◌then◌else◌}
use Rattle.sc_tree.specs.Plain.{System}
use Rattle.sc_model.specs.declared.cause.Cause.{Cause}
use Rattle.sc_model.specs.Settled.{SettledObjectsMeet}
use Rattle.sc_model.specs.Turns as turns
use Rattle.sc_model.specs.Turns.{turn}
use Rattle.sc_model.specs.Handlers.{World}
use Rattle.sc_region.specs.declared.job.Job.{Job}
use Rattle.sc_handler.specs.Handlers as core
use Rattle.sc_handler.specs.Picking.{job_of, job_at, job_with}
use Rattle.sc_request.specs.Halves.{IsHalfOf}
use Rattle.sc_request.specs.Steps.{stepped}
use Rattle.sc_refines_world.specs.regions.RegionTurns.{Half}
use Rattle.sc_refines_world.specs.regions.RegionHalves.{IsRegionHalf}
use Rattle.sc_refines_world.specs.regions.RegionSteps.{numbering_by, taken_if, AreNamed}
use Rattle.sc_refines_world.specs.regions.Order.{AreInOrder}
use Rattle.sc_refines_world.specs.regions.Joined.{RegionsFollow}
use Rattle.sc_refines_world.proofs.regions.Halves.{half_at, half_is}
use Rattle.sc_refines_world.proofs.regions.SettledObjects.{Meets}
use Rattle.sc_refines_world.proofs.regions.CalmStages.{EndsCalm, job_rested, services_calm}
use Rattle.sc_refines_world.proofs.regions.HalfTurns.{stands_comes, own_meet}

-- ---- each handler

module _ (most : ℕ) (names : List (List ℕ)) (s : System) (h : ℕ) (w : World) (c : core.State) (x : Half) (half : IsHalfOf (numbering_by names) w c)
    (given : IsRegionHalf h (w.handlers h) (c.handlers h).stage x) (order : AreInOrder (w.handlers h).stack) (named : AreNamed names (w.handlers h)) where
  -- what comes of the turn under this job
  abbrev ComesTo : Option Job → World → Type 0
  ComesTo j v =
      Meets s (v.handlers h) →
      IsRegionHalf h (v.handlers h) ((stepped most (numbering_by names) s h w j c).handlers h).stage (taken_if s h names j x)

  ends_calm : EndsCalm (c.handlers h).services
  ends_calm = services_calm (numbering_by names) (w.handlers h).stack (c.handlers h).services (half.handlers h).services order

  living : (why : Option Cause) → h < w.count → (w.handlers h).failure ≡ why →
      ComesTo (job_with h why (c.handlers h) c) (turns.turn_with most s h why (w.handlers h).stack w)
  living (Some why) counted fell meets = given
  living None counted lives meets =
      let y = w.handlers h in
      let same : x ≡ half_at y x.stack = half_is h (c.handlers h).stage y x lives given in
      let v = turns.turn_with most s h None y.stack w in
      let j = job_at h (c.handlers h).stage (c.handlers h) c in
      subst (λ (z : Half). IsRegionHalf h (v.handlers h) ((stepped most (numbering_by names) s h w j c).handlers h).stage (taken_if s h names j z)) (sym same)
      (stands_comes most names s h w c counted half lives y.stack x.stack refl (given.stands lives).1 order (half.handlers h).stage named
      (subst (λ (z : Half). IsRegionHalf h y (c.handlers h).stage z) same given) (job_rested h c ends_calm None) meets)

  numbered : (a b : Bool) → a ≡ b → nat_lt h w.count ≡ b →
      ComesTo (if a then job_with h (c.handlers h).failure (c.handlers h) c else None)
      (if b then turns.turn_with most s h (w.handlers h).failure (w.handlers h).stack w else w)
  numbered false false same is meets = given
  numbered true true same is meets =
      let y = w.handlers h in
      let v = turns.turn_with most s h y.failure y.stack w in
      subst (λ (why : Option Cause). ComesTo (job_with h why (c.handlers h) c) v) (sym (half.handlers h).failure)
      (living y.failure (ltb-true h w.count is) refl) meets
  numbered true false same is meets = cc
  numbered false true same is meets = cc

  -- there is no such handler
  beyond : (a b : Bool) → a ≡ b → b ≡ false →
      IsRegionHalf h ((if b then turns.turn_with most s h (w.handlers h).failure (w.handlers h).stack w else w).handlers h)
      ((stepped most (numbering_by names) s h w (if a then job_with h (c.handlers h).failure (c.handlers h) c else None) c).handlers h).stage
      (taken_if s h names (if a then job_with h (c.handlers h).failure (c.handlers h) c else None) x)
  beyond false false same none = given
  beyond true b same none = cc
  beyond false true same none = cc

  follows : SettledObjectsMeet s (turn most s h w) →
      IsRegionHalf h ((turn most s h w).handlers h) ((stepped most (numbering_by names) s h w (job_of h c) c).handlers h).stage (taken_if s h names (job_of h c) x)
  follows meets = by (cases_Bool (nat_lt h w.count))
    where
      at : Meets s ((turn most s h w).handlers h) →
          IsRegionHalf h ((turn most s h w).handlers h) ((stepped most (numbering_by names) s h w (job_of h c) c).handlers h).stage (taken_if s h names (job_of h c) x)
      at m = numbered (nat_lt h c.count) (nat_lt h w.count) (ap (λ (k : ℕ). nat_lt h k) half.count) refl m

      by : (nat_lt h w.count ≡ true) ⊎ (nat_lt h w.count ≡ false) →
          IsRegionHalf h ((turn most s h w).handlers h) ((stepped most (numbering_by names) s h w (job_of h c) c).handlers h).stage (taken_if s h names (job_of h c) x)
      by (inl is) = at (own_meet most s h w meets is)
      by (inr none) = beyond (nat_lt h c.count) (nat_lt h w.count) (ap (λ (k : ℕ). nat_lt h k) half.count) none

-- What the handler's turn makes of the region's half is that of the machine's turn.
pub regions_follow : RegionsFollow
regions_follow most names s h w c x half given order named meets = follows most names s h w c x half given order named meets
