-- The opening of a program's world stands for the opening of its system.
use Rattle.std.proofs.Common.{◌≡◌, ◌+◌, ℕ, zero, suc, Bool, true, false, List, [], ◌∷◌, Option, Some, None, length, slice_get, refl, sym, ap, subst, ◌∙◌, arith}
use Rattle.std.specs.Option.{option_map_or}
use Rattle.std.specs.Prelude.{nat_lt, if◌then◌else◌}
use Rattle.sc_tree.specs.Plain.{System}
use Rattle.sc_class.specs.ClassNames.{Root, number_of}
use Rattle.sc_model.specs.Handlers as machine
use Rattle.sc_model.specs.Runs as runs
use Rattle.sc_model.specs.Runs.{root_request}
use Rattle.sc_code.specs.declared.program.Image.{Image}
use Rattle.sc_code.specs.Programs.{IsProgramOf}
use Rattle.sc_handler.specs.Handlers as core
use Rattle.sc_handler.specs.Handlers.{new_handler, posted}
use Rattle.sc_request.specs.Logs as logs
use Rattle.sc_request.specs.Logs.{root_of}
use Rattle.sc_refines_world.specs.regions.RegionHalves.{AreHalvesOf, IsRegionHalf}
use Rattle.sc_refines_world.specs.regions.RegionSteps.{number_among, numbering_by}
use Rattle.sc_refines_world.specs.regions.RegionTurns.{new_half}
use Rattle.sc_play.specs.Regions.{PlainRegion, new_region}
use Rattle.sc_refines_world.specs.regions.Taking.{IsNamed, IsNameOf}
use Rattle.sc_code.specs.RequestRoom.{FitsRequests}
use Rattle.sc_refines_world.proofs.regions.TurnWants.{distinct_names_have_numbers}
use Rattle.sc_machine_laws.specs.settlements.Reached as halves
use Rattle.sc_world.specs.Worlds.{max_handlers, new_regions}
use Rattle.sc_refines_world.specs.Standing.{names_in}
use Rattle.sc_refines_world.proofs.Asked.{AllAsk, Asks}

-- ---- regions

new_at : (p : Image) (h n k : ℕ) (x : PlainRegion) → slice_get (new_regions p h n) k ≡ Some x → x ≡ new_region p (h + k)
unfolding new_regions
new_at p h zero k x e = cc
new_at p h (suc n) zero x e = some_new e ∙ ap (new_region p) same
  where
    some_new : Some (new_region p h) ≡ Some x → x ≡ new_region p h
    some_new e = cc

    same : h ≡ h + zero
    same = omega arith
new_at p h (suc n) (suc k) x e = new_at p (suc h) n k x e ∙ ap (new_region p) same
  where
    same : suc h + k ≡ h + suc k
    same = omega arith

-- the region of a number is the new one of that number
pub opened_at : (p : Image) (k : ℕ) (x : PlainRegion) → slice_get (new_regions p 0 max_handlers) k ≡ Some x → x ≡ new_region p k
opened_at p k x e = let same : 0 + k ≡ k = omega arith in new_at p 0 max_handlers k x e ∙ ap (new_region p) same

new_length : (p : Image) (h n : ℕ) → length (new_regions p h n) ≡ n
unfolding new_regions
new_length p h zero = refl
new_length p h (suc n) = ap suc (new_length p (suc h) n)

pub opened_length : (p : Image) → length (new_regions p 0 max_handlers) ≡ max_handlers
opened_length p = new_length p 0 max_handlers

-- ---- the root request

module _ (s : System) (root : Root) (p : Image) (program : IsProgramOf s root p) (fits : FitsRequests p) where
  abbrev names : List (List ℕ)
  names = names_in p

  class_is : option_map_or (λ k. k) (number_of s root.class) 0 ≡ p.root_class
  class_is = ap (λ (o : Option ℕ). option_map_or (λ k. k) o 0) program.root_class

  number_is : number_among root.procedure names ≡ p.root_procedure
  number_is = distinct_names_have_numbers names p.root_procedure root.procedure fits.distinct program.root_procedure

  -- the core of the program's opening is that of the system's
  pub opened_state : logs.opening (root_of p.root_class p.root_procedure) ≡ halves.opened (numbering_by names) s root
  opened_state =
      ap (λ (k : ℕ). logs.opening (root_of k p.root_procedure)) (sym class_is)
      ∙ ap (λ (k : ℕ). logs.opening (root_of (option_map_or (λ k. k) (number_of s root.class) 0) k)) (sym number_is)

  -- it asks for what the program has a name for
  pub opened_named : AllAsk (IsNamed names) (logs.opening (root_of p.root_class p.root_procedure))
  opened_named k = by (nat_lt k 1)
    where
      named : IsNameOf names p.root_procedure
      named = (root.procedure, program.root_procedure)

      by : (b : Bool) → Asks (IsNamed names)
          (if b then record new_handler { queue = posted (root_of p.root_class p.root_procedure) None ∷ [] } else new_handler)
      by true = ((named, tt), tt)
      by false = (tt, tt)

-- ---- halves

-- the half of each handler is new
pub opens_new : (s : System) (root : Root) (h : ℕ) (stage : core.HandlerStage) → IsRegionHalf h ((runs.opening s root).handlers h) stage new_half
opens_new s root h stage = by (nat_lt h 1)
  where
    fresh : (x : machine.Handler) → x.objects ≡ [] → x.output ≡ [] → x.stack ≡ [] → IsRegionHalf h x stage new_half
    fresh x objects output stack = record {
      objects = sym objects;
      output = sym output;
      stands = λ stands. (refl, subst (λ (fs : List machine.Frame). AreHalvesOf h stage fs []) (sym stack) tt);
      failure = λ why e. cc;
    }

    by : (b : Bool) → IsRegionHalf h (if b
        then record machine.new_handler { queue = root_request (option_map_or (λ k. k) (number_of s root.class) 0) root.procedure ∷ [] }
        else machine.new_handler) stage new_half
    by true = fresh (record machine.new_handler { queue = root_request (option_map_or (λ k. k) (number_of s root.class) 0) root.procedure ∷ [] }) refl refl refl
    by false = fresh machine.new_handler refl refl refl
