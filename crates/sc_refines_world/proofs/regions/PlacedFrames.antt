-- Objects, frames and stages of the store in which a turn may be made.
use Rattle.std.proofs.Common.{◌≡◌, ◌<◌, ◌≤◌, ℕ, Bool, true, false, List, [], ◌∷◌, Option, Some, None, is_some, length, refl, ap, ◌∙◌, arith}
use Rattle.std.proofs.lemmas.Bool.Decides.{nat_tests}
use Rattle.std.proofs.lemmas.List.{length-map}
use Rattle.std.specs.Prelude.{◌==◌, ◌||◌}
use Rattle.std.specs.Option.{option_map}
use Rattle.sc_tree.specs.Plain.{System}
use Rattle.sc_class.specs.Tables.Features.{features}
use Rattle.sc_rules.specs.declared.entity_types.entity_type.EntityType.{EntityType}
use Rattle.sc_model.specs.Environments.{Binding}
use Rattle.sc_model.specs.Handlers as machine
use Rattle.sc_model.specs.Handlers.{Called, Requested, Origin, Frame, Runs, Reserves, ReservesBlock, InCall, Awaits}
use Rattle.sc_model.specs.Objects.{fresh_attributes}
use Rattle.sc_model.specs.Preconditions.{is_creation}
use Rattle.sc_model.specs.Steps.{Calling}
use Rattle.sc_model.specs.Values as values
use Rattle.sc_code.specs.declared.program.FeatureCode.{FeatureCode}
use Rattle.sc_code.specs.declared.program.FeatureCode.TheVariants as version
use Rattle.sc_region.specs.declared.frame.Stage.TheVariants as stage
use Rattle.sc_region.specs.Stores.{PlainStore}
use Rattle.sc_acts.specs.Entering.{routine_in}
use Rattle.sc_interp.specs.Objects.{object_in, objects_in, valued}
use Rattle.sc_refines_world.specs.regions.RegionHalves.{origin_of, requested, stage_of}
use Rattle.sc_refines_world.specs.regions.RegionSteps.{IsProgramFor}
use Rattle.sc_refines_world.specs.regions.RegionTurns as half
use Rattle.sc_interp.specs.Serving.{is_routine_in}
use Rattle.sc_interp.specs.Values.{value_of, values_of}
use Rattle.sc_refines_world.specs.regions.Acting.{AreWhole, is_called}
use Rattle.sc_refines_world.specs.regions.Halves.{AreComplete, AreWithin}
use Rattle.sc_refines_world.proofs.regions.KeptMoves.{complete_numbered}
use Rattle.sc_refines_world.proofs.regions.MetInvariants.{fresh_many, numbered_same}

-- ---- objects

valued_few : (bs : List Binding) (vs : List values.Value) → length (valued bs vs) ≤ length vs
valued_few [] vs = omega arith
valued_few (b ∷ bs) [] = omega arith
valued_few (b ∷ bs) (v ∷ vs) = let few = valued_few bs vs in omega (arith, few)

-- Where the objects that a store stands for are complete those of the store are whole.
pub whole_of : (s : System) (z : PlainStore) → IsProgramFor s z.program → AreComplete s (objects_in s z.objects) → AreWhole z
whole_of s z is complete number o e =
    let bs = fresh_attributes s (features s o.class) in
    let there = numbered_same s number z.objects ∙ ap (option_map (object_in s)) e in
    let many = complete_numbered s number (objects_in s z.objects) (object_in s o) there complete in
    let few = valued_few bs (values_of o.attributes) in
    let same = length-map o.attributes value_of in
    let fresh = fresh_many s is.root z.program is.program o.class in
    omega (arith, many, few, same, fresh)

-- ---- frames that run on objects that are there

apart : (m n : ℕ) → m < n → (m == n) ≡ false
apart m n l = grind (arith, nat_tests, l)

or_false : (a b : Bool) → a ≡ false → b ≡ false → a || b ≡ false
or_false false b e f = f
or_false true b e f = cc

pub none_next : (count n : ℕ) (fs : List Frame) → AreWithin count fs → count < n → half.is_current n fs ≡ false
none_next count n [] a l = refl
none_next count n (f ∷ below) a l =
    let within = a.0 in
    or_false (f.current.number == n) (half.is_current n below) (apart f.current.number n (omega (arith, within, l))) (none_next count n below a.1 l)

-- ---- stages and origins

pub in_call_is : (st : machine.Stage) → stage_of st ≡ stage.InCall true → (t : EntityType) × (st ≡ InCall (Some t))
in_call_is (InCall (Some t)) e = (t, refl)
in_call_is (InCall None) e = cc
in_call_is Runs e = cc
in_call_is Reserves e = cc
in_call_is ReservesBlock e = cc
in_call_is (Awaits k gives c) e = cc

pub awaits_is : (k : ℕ) (c : Bool) (st : machine.Stage) → stage_of st ≡ stage.Awaits k true c → (t : EntityType) × (st ≡ Awaits k (Some t) c)
awaits_is k c (Awaits j (Some t) d) e =
    let number : j ≡ k = cc in
    let creation : d ≡ c = cc in
    (t, ap (λ n. Awaits n (Some t) d) number ∙ ap (λ b. Awaits k (Some t) b) creation)
awaits_is k c (Awaits j None d) e = cc
awaits_is k c Runs e = cc
awaits_is k c Reserves e = cc
awaits_is k c ReservesBlock e = cc
awaits_is k c (InCall gives) e = cc

pub called_is : (o : Origin) → is_called (origin_of o) ≡ true → (c : Calling) × (o ≡ Called c)
called_is (Called c) e = (c, refl)
called_is (Requested r) e = by (is_creation r.errand) e
  where
    by : (b : Bool) → is_called (requested b) ≡ true → (c : Calling) × (Requested r ≡ Called c)
    by true e = cc
    by false e = cc

pub some_mapped : {A B : Type 0} (f : A → B) (o : Option A) → is_some (option_map f o) ≡ is_some o
some_mapped f None = refl
some_mapped f (Some a) = refl

-- a version that is a routine has the number of one
pub routine_some : (v : Option FeatureCode) → is_routine_in v ≡ Some true → (routine : ℕ) × (routine_in v ≡ Some routine)
routine_some (Some (version.Routine n)) e = (n, refl)
routine_some (Some (version.Attribute n)) e = cc
routine_some None e = cc
