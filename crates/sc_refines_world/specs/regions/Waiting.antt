-- A routine waits for a clause of its precondition that is false.
use Rattle.std.specs.Prelude.{◌≡◌, ℕ, true, List, [], ◌∷◌, Option, Some, None}
use Rattle.sc_tree.specs.Plain.{System, Clause}
use Rattle.sc_model.specs.Environments.{scope_of}
use Rattle.sc_model.specs.Handlers.{Frame, Runs, point_of}
use Rattle.sc_model.specs.Moves.{moves}
use Rattle.sc_model.specs.Objects.{Object}
use Rattle.sc_model.specs.Routines.{Routine, routine_named}
use Rattle.sc_model.specs.Steps.{Point, Refuses, Does}
use Rattle.sc_code.specs.Emitted.{formals_of}
use Rattle.sc_region.specs.Frames.{PlainActivation, top_activation}
use Rattle.sc_region.specs.Stores.{PlainStore}
use Rattle.sc_acts.specs.declared.act.Act.TheVariants as act
use Rattle.sc_interp.specs.declared.hops.Hop.TheVariants as hop
use Rattle.sc_acts.specs.Refusing.{is_waited_for, refused}
use Rattle.sc_refines_world.specs.regions.RegionHalves.{IsRegionOf}
use Rattle.sc_refines_world.specs.regions.RegionSteps.{IsProgramFor}
use Rattle.sc_refines_world.specs.regions.RegionTurns.{Half, turn}
use Rattle.sc_acts.specs.Tables.{formals_at}
use Rattle.sc_refines_world.specs.regions.Acting.{Comes}

-- The routine is what a name means in a class.
pub record IsVersion (s : System) (r : Routine) : Type 0 where
  pub class : ℕ
  pub name : List ℕ
  pub found : routine_named s class name ≡ Some r

-- At the point the routine is in its contract: the names are its formals, and no value is kept for `old`.
pub record IsInContract (s : System) (r : Routine) (p : Point) : Type 0 where
  pub text : p.text ≡ r.contract
  pub names : scope_of p.environment ≡ formals_of s r
  pub olds : p.olds ≡ []

-- If the topmost frame goes on, its routine is a class's version, and is in its contract if a clause is false.
abbrev pub RefusesInContract : System → List Object → List Frame → Type 0
RefusesInContract s objects [] = Unit {0}
RefusesInContract s objects (f ∷ below) =
    f.stage ≡ Runs →
    IsVersion s f.routine × ((k : Clause) (p : Point) → moves s f.current (point_of f objects) ≡ Does (Refuses k) p →
    IsInContract s f.routine p)

-- A clause on the formals in these slots is waited for.
abbrev pub IsWaitedFor : List ℕ → Option PlainActivation → Type 0
IsWaitedFor slots None = Unit {0}
IsWaitedFor slots (Some a) = is_waited_for a slots ≡ true

-- If a clause that is waited for is false, the routine begins anew with its reserve step, as defined.
abbrev pub RoutinesWait : Type 0
RoutinesWait = (k : ℕ) (y z : PlainStore) → Comes (hop.Comes (act.Refuse k)) y z →
    IsWaitedFor (formals_at z.program k) (top_activation z.frames) →
    (s : System) (h : ℕ) (x : Half) → IsProgramFor s y.program → IsRegionOf s x y →
    RefusesInContract s x.objects x.stack → IsRegionOf s (turn s h x) (refused k z)
