-- Routines of a program are those of its system, and frames stand whatever the objects are.
use Rattle.std.proofs.Common.{◌≡◌, ℕ, zero, suc, ◌<◌, ◌^◌, List, [], ◌∷◌, Option, Some, None, length, map, refl, sym, ap, ◌∙◌, arith}
use Rattle.std.proofs.lemmas.List.{length-map}
use Rattle.std.specs.Prelude.{slice_get}
use Rattle.std.specs.Option.{option_map, option_and_then}
use Rattle.sc_tree.specs.Plain.{System}
use Rattle.sc_class.specs.ClassNames.{Root}
use Rattle.sc_class.specs.Tables.Features.{DeclaredFeature}
use Rattle.sc_rules.specs.declared.entity_types.entity_type.EntityType.{EntityType}
use Rattle.sc_typing.specs.FeatureNumbers.{all_features}
use Rattle.sc_model.specs.Values.{Value, operand}
use Rattle.sc_model.specs.Objects.{Object}
use Rattle.sc_model.specs.Routines.{Routine, routine_of}
use Rattle.sc_model.specs.Steps.{Point}
use Rattle.sc_model.specs.Handlers.{Stage, Runs, Reserves, ReservesBlock, InCall, Awaits, Frame, point_of}
use Rattle.sc_code.specs.declared.program.Image.{Image}
use Rattle.sc_code.specs.declared.program.RoutineCode.{RoutineCode}
use Rattle.sc_code.specs.Emitted.{routine_code}
use Rattle.sc_code.specs.Lowered.{run_of}
use Rattle.sc_code.specs.Machine.{State}
use Rattle.sc_code.specs.Programs.{IsProgramOf, PlainRoutine, code_of, pool_of, routine_in}
use Rattle.sc_code.specs.Stands.{Run, StandsWith}
use Rattle.sc_code.specs.View.{operation_of}
use Rattle.sc_code.proofs.TypingEntries.{objects_may_change}
use Rattle.sc_region.specs.Classes.{routine_at}
use Rattle.sc_region.specs.Frames.{PlainFrame}
use Rattle.sc_refines_world.specs.regions.RegionHalves.{IsFrame, AreFrames, StandsIn}
use Rattle.sc_acts.proofs.Options.{none_some, some_same}

-- ---- routines

pub mapped_get : {A B : Type 0} (f : A → B) (xs : List A) (n : ℕ) → slice_get (map f xs) n ≡ option_map f (slice_get xs n)
mapped_get f [] n = refl
mapped_get f (x ∷ xs) zero = refl
mapped_get f (x ∷ xs) (suc n) = mapped_get f xs n

-- the routine of a feature, in flat code
abbrev coded_feature : System → DeclaredFeature → Option PlainRoutine
coded_feature s f = option_map (code_of s) (routine_of s f)

flat_left : (p : Image) (o : Option (Option RoutineCode)) →
    option_map (routine_in (pool_of p.pool)) (option_and_then (λ (r : Option RoutineCode). r) o)
    ≡ option_and_then (λ (r : Option PlainRoutine). r) (option_map (option_map (routine_in (pool_of p.pool))) o)
flat_left p None = refl
flat_left p (Some None) = refl
flat_left p (Some (Some r)) = refl

flat_right : (s : System) (o : Option DeclaredFeature) →
    option_and_then (λ (r : Option PlainRoutine). r) (option_map (coded_feature s) o) ≡ option_map (code_of s) (option_and_then (routine_of s) o)
flat_right s None = refl
flat_right s (Some f) = refl

-- the routine at a number is that of the feature of the number
pub routine_is : (s : System) (root : Root) (p : Image) (n : ℕ) → IsProgramOf s root p →
    option_map (routine_in (pool_of p.pool)) (routine_at p n) ≡ option_map (code_of s) (option_and_then (routine_of s) (slice_get (all_features s) n))
routine_is s root p n is =
    flat_left p (slice_get p.routines.items n)
    ∙ ap (option_and_then (λ (r : Option PlainRoutine). r))
    (sym (mapped_get (option_map (routine_in (pool_of p.pool))) p.routines.items n)
    ∙ ap (λ rs. slice_get rs n) is.routines
    ∙ mapped_get (coded_feature s) (all_features s) n)
    ∙ flat_right s (slice_get (all_features s) n)

-- there is code at the number, and it is that of the routine
pub record CodeAt (s : System) (r : Routine) (p : Image) (n : ℕ) : Type 0 where
  pub code : RoutineCode
  pub found : routine_at p n ≡ Some code
  pub same : routine_in (pool_of p.pool) code ≡ code_of s r

found_code : (s : System) (r : Routine) (p : Image) (n : ℕ) (o : Option RoutineCode) → routine_at p n ≡ o → option_map (routine_in (pool_of p.pool)) o ≡ Some (code_of s r) → CodeAt s r p n
found_code s r p n None is e = none_some (code_of s r) e
found_code s r p n (Some code) is e = record { code = code; found = is; same = some_same (routine_in (pool_of p.pool) code) (code_of s r) e }

pub code_at : (s : System) (root : Root) (p : Image) (n : ℕ) (r : Routine) → IsProgramOf s root p → option_and_then (routine_of s) (slice_get (all_features s) n) ≡ Some r →
    CodeAt s r p n
code_at s root p n r is e = found_code s r p n (routine_at p n) refl (routine_is s root p n is ∙ ap (option_map (code_of s)) e)

pub operations_are : (s : System) (r : Routine) (p : Image) (n : ℕ) → CodeAt s r p n →
    option_map (λ (q : RoutineCode). map (operation_of (pool_of p.pool)) q.operations.items) (routine_at p n) ≡ Some (map (λ o. Some o) (routine_code s r))
operations_are s r p n at =
    ap (option_map (λ (q : RoutineCode). map (operation_of (pool_of p.pool)) q.operations.items)) at.found
    ∙ ap (λ (q : PlainRoutine). Some q.operations) at.same

-- a number can say each place
pub few_operations : (s : System) (r : Routine) (p : Image) (n : ℕ) → CodeAt s r p n → length (routine_code s r) < 2 ^ 63
few_operations s r p n at =
    let items = at.code.operations in
    let many = sym (length-map (routine_code s r) (λ o. Some o)) ∙ ap (λ (q : PlainRoutine). length q.operations) (sym at.same)
    ∙ length-map items.items (operation_of (pool_of p.pool)) in
    omega (arith, many, items.ok.0, items.ok.1, items.small)

-- ---- objects may change

stands_still : (g : Run) (place : ℕ) (tail : List Value) (p : Point) (os : List Object) (gives : Option EntityType) → StandsWith g place tail gives p →
    StandsWith g place tail gives (record p { objects = os })
stands_still g place tail p os None st = objects_may_change g place tail p os st
stands_still g place tail p os (Some t) st = λ v. objects_may_change g place tail (record p { values = operand v t ∷ p.values }) os (st v)

pub stands_in_still : (stage : Stage) (g : Run) (place : ℕ) (tail : List Value) (p : Point) (os : List Object) → StandsIn stage g place tail p →
    StandsIn stage g place tail (record p { objects = os })
stands_in_still Runs g place tail p os st = objects_may_change g place tail p os st
stands_in_still Reserves g place tail p os st = objects_may_change g place tail p os st
stands_in_still ReservesBlock g place tail p os st = objects_may_change g place tail p os st
stands_in_still (InCall gives) g place tail p os st = stands_still g place tail p os gives st
stands_in_still (Awaits k gives is_creation) g place tail p os st = stands_still g place tail p os gives st

pub frame_still : (s : System) (before after : List Object) (f : Frame) (g : PlainFrame) → IsFrame s before f g → IsFrame s after f g
frame_still s before after f g r = record {
  current = r.current;
  routine = r.routine;
  origin = r.origin;
  stage = r.stage;
  tail = r.tail;
  state = ap (λ (st : State). record st { objects = after }) r.state;
  stands = stands_in_still f.stage (run_of s f.routine) g.activation.place r.tail (point_of f before) after r.stands;
  depth = r.depth;
  reserved = r.reserved;
  blocks = r.blocks;
}

pub frames_still : (s : System) (before after : List Object) (fs : List Frame) (gs : List PlainFrame) → AreFrames s before fs gs → AreFrames s after fs gs
frames_still s before after [] [] r = tt
frames_still s before after (f ∷ fs) (g ∷ gs) r = (frame_still s before after f g r.0, frames_still s before after fs gs r.1)
frames_still s before after [] (g ∷ gs) r = absurd r
frames_still s before after (f ∷ fs) [] r = absurd r
