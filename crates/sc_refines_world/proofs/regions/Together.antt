-- The halves of all regions, at the opening and after each turn.
use Rattle.std.proofs.Common.{◌≡◌, ◌⊎◌, inl, inr, ◌<◌, ◌≤◌, ℕ, Bool, List, None, refl, sym, ap, subst, ◌∙◌, arith}
use Rattle.std.proofs.lemmas.Bool.{cases_eq, cases_lt, eq-eqb, ne_eqb, le-ltb}
use Rattle.std.specs.Prelude.{if◌then◌else◌}
use Rattle.sc_tree.specs.Plain.{System}
use Rattle.sc_model.specs.Handlers.{World}
use Rattle.sc_model.specs.Settled.{SettledObjectsMeet}
use Rattle.sc_model.specs.Turns.{turn}
use Rattle.sc_handler.specs.Handlers as core
use Rattle.sc_handler.specs.Picking.{job_of, job_with}
use Rattle.sc_request.specs.Halves.{IsHalfOf}
use Rattle.sc_request.specs.Steps.{stepped}
use Rattle.sc_refines_world.specs.regions.RegionTurns.{Half, new_half}
use Rattle.sc_refines_world.specs.regions.RegionHalves.{IsRegionHalf}
use Rattle.sc_refines_world.specs.regions.RegionSteps.{numbering_by, taken_if, AreNamed}
use Rattle.sc_refines_world.specs.regions.Order.{EachInOrder}
use Rattle.sc_refines_world.specs.regions.Joined.{AreRegionHalves, OpensAsHalves, TurnsKeepHalves, halves_after}
use Rattle.sc_refines_world.proofs.regions.Others.{created_are_new, idle_turn, openings_are_new, turn_counts}
use Rattle.sc_refines_world.proofs.regions.OtherHandlers.{others_keep_halves}
use Rattle.sc_refines_world.proofs.regions.TurnHalves.{regions_follow}

-- At the opening all halves are new.
pub openings_are_halves : OpensAsHalves
openings_are_halves s root c = record { halves = λ k less. openings_are_new s root k (c.handlers k).stage; rest = λ k few. refl }

module _ (most : ℕ) (names : List (List ℕ)) (s : System) (h : ℕ) (w : World) (c : core.State) (xs : ℕ → Half) (half : IsHalfOf (numbering_by names) w c)
    (given : AreRegionHalves w c xs) (order : EachInOrder w) (named : AreNamed names (w.handlers h)) (meets : SettledObjectsMeet s (turn most s h w)) where
  abbrev after : core.State
  after = stepped most (numbering_by names) s h w (job_of h c) c

  abbrev IsHalf : ℕ → Half → Type 0
  IsHalf k x = IsRegionHalf k ((turn most s h w).handlers k) (after.handlers k).stage x

  mine : h < w.count → IsHalf h (halves_after s h names (job_of h c) xs h)
  mine there =
      subst (λ (b : Bool). IsHalf h (if b then taken_if s h names (job_of h c) (xs h) else xs h)) (sym (eq-eqb h h refl))
      (regions_follow most names s h w c (xs h) half (given.halves h there) (order h there) named meets)

  others : (k : ℕ) → (k ≡ h → ⊥) → k < (turn most s h w).count → IsHalf k (halves_after s h names (job_of h c) xs k)
  others k apart less =
      subst (λ (b : Bool). IsHalf k (if b then taken_if s h names (job_of h c) (xs h) else xs k)) (sym (ne_eqb k h apart)) (by (cases_lt k w.count))
    where
      by : (k < w.count) ⊎ (w.count ≤ k) → IsHalf k (xs k)
      by (inl old) = others_keep_halves most (numbering_by names) s h k w c (xs k) half apart old (given.halves k old)
      by (inr few) = subst (IsHalf k) (sym (given.rest k few)) (created_are_new most s h k w (after.handlers k).stage few less)

  each : (k : ℕ) → k < (turn most s h w).count → IsHalf k (halves_after s h names (job_of h c) xs k)
  each k less = by (cases_eq k h) (cases_lt h w.count)
    where
      by : (k ≡ h) ⊎ (k ≡ h → ⊥) → (h < w.count) ⊎ (w.count ≤ h) → IsHalf k (halves_after s h names (job_of h c) xs k)
      by (inl is) (inl there) = subst (λ (j : ℕ). IsHalf j (halves_after s h names (job_of h c) xs j)) (sym is) (mine there)
      by (inl is) (inr beyond) = absurd (omega (arith, is, beyond, subst (λ (v : World). k < v.count) (idle_turn most s h w beyond) less))
      by (inr apart) there = others k apart less

  -- a handler that has no number has no job
  no_job : w.count ≤ h → taken_if s h names (job_of h c) (xs h) ≡ xs h
  no_job beyond =
      ap (λ (b : Bool). taken_if s h names (if b then job_with h (c.handlers h).failure (c.handlers h) c else None) (xs h))
      (le-ltb h c.count (subst (λ (m : ℕ). m ≤ h) (sym half.count) beyond))

  new : (k : ℕ) → (turn most s h w).count ≤ k → halves_after s h names (job_of h c) xs k ≡ new_half
  new k few = by (cases_eq k h)
    where
      more : w.count ≤ k
      more = let counts = turn_counts most s h w in omega (arith, counts, few)

      by : (k ≡ h) ⊎ (k ≡ h → ⊥) → halves_after s h names (job_of h c) xs k ≡ new_half
      by (inl is) =
          ap (λ (b : Bool). if b then taken_if s h names (job_of h c) (xs h) else xs k) (eq-eqb k h is)
          ∙ no_job (subst (λ (j : ℕ). w.count ≤ j) is more) ∙ given.rest h (subst (λ (j : ℕ). w.count ≤ j) is more)
      by (inr apart) = ap (λ (b : Bool). if b then taken_if s h names (job_of h c) (xs h) else xs k) (ne_eqb k h apart) ∙ given.rest k more

-- After each turn all halves are the regions'.
pub turns_keep_halves : TurnsKeepHalves
turns_keep_halves most names s h w c xs half given order named meets = record {
  halves = each most names s h w c xs half given order named meets;
  rest = new most names s h w c xs half given order named meets;
}
