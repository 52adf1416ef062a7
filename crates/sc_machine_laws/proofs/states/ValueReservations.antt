-- A turn that reserves handlers keeps each value fitting.
use Rattle.std.specs.Prelude.{if◌then◌else◌}
use Rattle.std.proofs.Common.{Bool, List, Option, [], ap, false, refl, subst, sym, true, ℕ, ◌∙◌, ◌∷◌, ◌≡◌}
use Rattle.sc_tree.specs.Plain.{System}
use Rattle.sc_rules.specs.declared.entity_types.entity_type.EntityType.{EntityType}
use Rattle.sc_rules.specs.Names.{RoutineName}
use Rattle.sc_lockpass.specs.Rights as rights
use Rattle.sc_lockpass.specs.wait_conditions.Reservations.{reserve_fails}
use Rattle.sc_model.specs.Entries.{may_reserve, reserves_block, reserves_entry, reserves_if}
use Rattle.sc_model.specs.Failures.{fail}
use Rattle.sc_model.specs.Handlers.{Awaits, Frame, Reserves, ReservesBlock, Runs, Stage, World, with_stack}
use Rattle.sc_model.specs.Sessions.{reserve, standing_in}
use Rattle.sc_model.specs.declared.cause.Cause.TheVariants as cause
use Rattle.sc_machine_laws.specs.states.Fitting.{WorldFits, coming_to}
use Rattle.sc_machine_laws.specs.states.Values.{ReservationsKeepIt}
use Rattle.sc_machine_laws.proofs.states.Remains.{rights_keep_it}
use Rattle.sc_machine_laws.proofs.states.Settled.{Settled, settled_fails, settled_now, settled_top}

module _ (s : System) (pure : RoutineName → Bool) (w : World) (h : ℕ) (f : Frame) (below : List Frame) (z : Settled s pure w h [] f below) (fits : WorldFits s pure w) where
  -- the step fails, or is made, or isn't enabled
  reserves_fit : (ks : List ℕ) (g : Frame) → WorldFits s pure (with_stack h (g ∷ below) w) → (b : Bool) → WorldFits s pure (reserves_if b h ks g below w)
  reserves_fit ks g e false = fits
  reserves_fit ks g e true = by (reserve_fails (standing_in w) w.rights ks)
    where
      by : (b : Bool) → WorldFits s pure (if b then fail h cause.SupplierFailed w else reserve h ks (with_stack h (g ∷ below) w))
      by true = settled_fails s pure w h [] f below z cause.SupplierFailed []
      by false = rights_keep_it s pure (with_stack h (g ∷ below) w) (rights.reserve h ks w.rights) e

  entry_kept : (ks : List ℕ) → WorldFits s pure (reserves_entry h ks f below w)
  entry_kept ks = reserves_fit ks (record f { stage = Runs; reserved = ks }) (settled_top s pure w h [] f below z Runs ks f.blocks f.mark refl) (may_reserve ks f.mark w)

  block_kept : (ks : List ℕ) → WorldFits s pure (reserves_block h ks f below w)
  block_kept ks = reserves_fit ks (record f { stage = Runs; blocks = ks ∷ f.blocks }) (settled_top s pure w h [] f below z Runs f.reserved (ks ∷ f.blocks) f.mark refl) (may_reserve ks [] w)

pub reservations_keep_it : ReservationsKeepIt
reservations_keep_it s pure w h f below ks fits l is = (
  λ e. entry_kept s pure w h f below (at_stage Reserves e (λ k t c i. cc) refl) fits ks,
  λ e. block_kept s pure w h f below (at_stage ReservesBlock e (λ k t c i. cc) refl) fits ks,
)
  where
    at_stage : (x : Stage) → f.stage ≡ x → ((k : ℕ) (t : Option EntityType) (c : Bool) → x ≡ Awaits k t c → ⊥) → coming_to x ≡ [] → Settled s pure w h [] f below
    at_stage x e unmet none = subst (λ ts. Settled s pure w h ts f below) (ap coming_to e ∙ none)
        (settled_now s pure w h f below fits l is (λ k t c i. unmet k t c (sym e ∙ i)))
