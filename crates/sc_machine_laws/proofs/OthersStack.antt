-- The routine of a clause's request on a stack, under pure functions that it has called.
use Rattle.std.proofs.Common.{ℕ, ◌≡◌, Bool, true, List, [], ◌∷◌, ◌++◌, Option, Some, None, refl, sym, ap, subst, ◌∙◌}
use Rattle.std.specs.Option.{option_and_then}
use Rattle.sc_tree.specs.Plain as tree
use Rattle.sc_tree.specs.Plain.{System, FeatureKind}
use Rattle.sc_class.specs.Tables.Features.{DeclaredFeature}
use Rattle.sc_rules.specs.Names.{RoutineName}
use Rattle.sc_rules.specs.Names as rules
use Rattle.sc_model.specs.Exits.{handed, handed_at}
use Rattle.sc_model.specs.Handlers.{Request, Called, Requested, Stage, Runs, Reserves, ReservesBlock, InCall, Awaits, Frame}
use Rattle.sc_model.specs.Routines.{Routine, routine_from, routine_named, routine_of, routine_with, origin_of, version_of}
use Rattle.sc_model.specs.Steps.{Calling}
use Rattle.sc_model.specs.Values.{Reference, Value, Operand, values_of}
use Rattle.sc_machine_laws.specs.states.Points.{Each}
use Rattle.sc_machine_laws.specs.settlements.Calm.{name_of}
use Rattle.sc_machine_laws.specs.Following.{IsCalledPure, IsFor, is_called}
use Rattle.sc_machine_laws.proofs.Lists.{first_of, rest_of, false_is_true}
use Rattle.sc_machine_laws.proofs.OwnKept.{IsAlike, alike_for, alike_pure}

same_request : {q r : Request} → Requested q ≡ Requested r → q ≡ r
same_request e = cc

module _ (s : System) (pure : RoutineName → Bool) (q : Request) (o : Reference) (x : List ℕ) (us : List Operand) where
  -- The frame is that of the request, and runs what it asks for.
  pub record IsOf (c : Frame) : Type 0 where
    pub is_pure : pure (name_of c.routine) ≡ true
    pub origin_is : c.origin ≡ Requested q
    pub is_for : IsFor s o x (values_of us) c

  -- It stands so on the stack, on these.
  pub data OnStack (below : List Frame) : List Frame → Type 0 where
    is_it : {c : Frame} → IsOf c → OnStack below (c ∷ below)
    above : {f : Frame} {fs : List Frame} → IsCalledPure pure f → OnStack below fs → OnStack below (f ∷ fs)

  pub on_stack : (fs : List Frame) (c : Frame) (below : List Frame) → Each (IsCalledPure pure) fs → IsOf c →
      OnStack below (fs ++ c ∷ below)
  on_stack [] c below e i = is_it i
  on_stack (f ∷ fs) c below e i = above e.0 (on_stack fs c below e.1 i)

  pub record Parts (below st : List Frame) : Type 0 where
    pub fs : List Frame
    pub frame : Frame
    pub stack_is : st ≡ fs ++ frame ∷ below
    pub are_called : Each (IsCalledPure pure) fs
    pub is_of : IsOf frame

  pub parts : (below st : List Frame) → OnStack below st → Parts below st
  parts below _ (is_it {c} i) = record { fs = []; frame = c; stack_is = refl; are_called = tt; is_of = i }
  parts below _ (above {f} {fs} i more) =
      let z : Parts below fs = parts below fs more in
      record {
        fs = f ∷ z.fs;
        frame = z.frame;
        stack_is = ap (λ (st : List Frame). f ∷ st) z.stack_is;
        are_called = (i, z.are_called);
        is_of = z.is_of;
      }

  -- ---- its topmost frame

  replaced : (f g : Frame) → IsAlike f g → IsOf f → IsOf g
  replaced f g r i = record {
    is_pure = ap (λ (z : Routine). pure (name_of z)) r.routine_is ∙ i.is_pure;
    origin_is = r.origin_is ∙ i.origin_is;
    is_for = alike_for s o x (values_of us) f g r i.is_for;
  }

  pub top_replaced : (below : List Frame) (f g : Frame) (fs : List Frame) → IsAlike f g → OnStack below (f ∷ fs) →
      OnStack below (g ∷ fs)
  top_replaced below f g fs r z = by (f ∷ fs) z refl
    where
      by : (st : List Frame) → OnStack below st → st ≡ f ∷ fs → OnStack below (g ∷ fs)
      by _ (is_it {c = u} i) e = subst (λ (us : List Frame). OnStack below (g ∷ us)) (rest_of e)
          (is_it (replaced f g r (subst IsOf (first_of e) i)))
      by _ (above {f = u} {fs = us} i more) e = above (alike_pure pure f g r (subst (IsCalledPure pure) (first_of e) i))
          (subst (OnStack below) (rest_of e) more)

  -- it is pure
  pub top_is_pure : (below : List Frame) (f : Frame) (fs : List Frame) → OnStack below (f ∷ fs) →
      pure (name_of f.routine) ≡ true
  top_is_pure below f fs z = by (f ∷ fs) z refl
    where
      by : (st : List Frame) → OnStack below st → st ≡ f ∷ fs → pure (name_of f.routine) ≡ true
      by _ (is_it {c = u} i) e = subst (λ (g : Frame). pure (name_of g.routine) ≡ true) (first_of e) i.is_pure
      by _ (above {f = u} {fs = us} i more) e = subst (λ (g : Frame). pure (name_of g.routine) ≡ true) (first_of e) i.1

  pub not_empty : (below : List Frame) → OnStack below [] → ⊥
  not_empty below z = by [] z refl
    where
      by : (st : List Frame) → OnStack below st → st ≡ [] → ⊥
      by _ (is_it {c = u} i) e = cc
      by _ (above {f = u} {fs = us} i more) e = cc

  -- where it was called, the rest stands so
  pub called_leaves : (below : List Frame) (f : Frame) (fs : List Frame) (c : Calling) → f.origin ≡ Called c →
      OnStack below (f ∷ fs) → OnStack below fs
  called_leaves below f fs c o_is z = by (f ∷ fs) z refl
    where
      not_requested : {A : Type 0} → Called c ≡ Requested q → A
      not_requested e = cc

      by : (st : List Frame) → OnStack below st → st ≡ f ∷ fs → OnStack below fs
      by _ (is_it {c = u} i) e =
          not_requested (sym o_is ∙ sym (ap (λ (g : Frame). g.origin) (first_of e)) ∙ i.origin_is)
      by _ (above {f = u} {fs = us} i more) e = subst (OnStack below) (rest_of e) more

  -- where a request began it, it is that of the request, on the others
  pub record Ended (below : List Frame) (f : Frame) (fs : List Frame) (r : Request) : Type 0 where
    pub is_of : IsOf f
    pub rest_is : fs ≡ below
    pub request_is : r ≡ q

  pub requested_ends : (below : List Frame) (f : Frame) (fs : List Frame) (r : Request) → f.origin ≡ Requested r →
      OnStack below (f ∷ fs) → Ended below f fs r
  requested_ends below f fs r o_is z = by (f ∷ fs) z refl
    where
      by : (st : List Frame) → OnStack below st → st ≡ f ∷ fs → Ended below f fs r
      by _ (is_it {c = u} i) e =
          let j : IsOf f = subst IsOf (first_of e) i in
          record { is_of = j; rest_is = sym (rest_of e); request_is = same_request (sym o_is ∙ j.origin_is) }
      by _ (above {f = u} {fs = us} i more) e =
          false_is_true (sym (ap is_called (ap (λ (g : Frame). g.origin) (first_of e) ∙ o_is)) ∙ i.0)

  -- a value that is handed to the topmost leaves it in its place
  handed_replaces : (v : Option Value) (f : Frame) (st : Stage) → IsAlike f (handed_at st v f)
  handed_replaces (Some v) f (InCall (Some t)) =
      record { current_is = refl; routine_is = refl; origin_is = refl; bound_is = refl }
  handed_replaces None f (InCall (Some t)) =
      record { current_is = refl; routine_is = refl; origin_is = refl; bound_is = refl }
  handed_replaces v f (InCall None) = record { current_is = refl; routine_is = refl; origin_is = refl; bound_is = refl }
  handed_replaces v f Runs = record { current_is = refl; routine_is = refl; origin_is = refl; bound_is = refl }
  handed_replaces v f Reserves = record { current_is = refl; routine_is = refl; origin_is = refl; bound_is = refl }
  handed_replaces v f ReservesBlock = record { current_is = refl; routine_is = refl; origin_is = refl; bound_is = refl }
  handed_replaces v f (Awaits k t c) =
      record { current_is = refl; routine_is = refl; origin_is = refl; bound_is = refl }

  pub handed_stands : (below : List Frame) (v : Option Value) (st : List Frame) → OnStack below st →
      OnStack below (handed v st)
  handed_stands below v [] z = absurd (not_empty below z)
  handed_stands below v (f ∷ fs) z = top_replaced below f (handed_at f.stage v f) fs (handed_replaces v f f.stage) z

-- ---- what is entered

-- the routine of a feature has its name
pub routine_name : (s : System) (f : DeclaredFeature) (r : Routine) → routine_of s f ≡ Some r →
    name_of r ≡ rules.routine_of f
routine_name s f r e = of_origin (origin_of s f) e
  where
    of_kinds : (k : ℕ) (m u : FeatureKind) → routine_with s f.feature.name.text f.class m k u ≡ Some r →
        name_of r ≡ rules.routine_of f
    of_kinds k (tree.Routine own) (tree.Routine original) e = cc
    of_kinds k (tree.Attribute d) u e = cc
    of_kinds k (tree.Routine own) (tree.Attribute d) e = cc

    of_origin : (c : Option DeclaredFeature) → routine_from s f c ≡ Some r → name_of r ≡ rules.routine_of f
    of_origin None e = cc
    of_origin (Some c) e = of_kinds c.class f.feature.kind c.feature.kind e

-- each routine of a name that runs only what contracts may call is such a one
pub named_is_pure : (s : System) (pure : RoutineName → Bool) (k : ℕ) (x : List ℕ) →
    ((f : DeclaredFeature) → version_of s k x ≡ Some f → pure (rules.routine_of f) ≡ true) → (r : Routine) →
    routine_named s k x ≡ Some r →
    pure (name_of r) ≡ true
named_is_pure s pure k x runs r e = by (version_of s k x) refl e
  where
    by : (v : Option DeclaredFeature) → version_of s k x ≡ v → option_and_then (routine_of s) v ≡ Some r →
        pure (name_of r) ≡ true
    by None i e = cc
    by (Some f) i e = ap pure (routine_name s f r e) ∙ runs f i
