-- A routine that is entered follows.
use Rattle.std.proofs.Common.{ℕ, ◌≡◌, ◌⊎◌, Bool, true, List, [], ◌∷◌, ◌++◌, Option, Some, None, refl, sym, ap, subst, ◌∙◌, inl, inr}
use Rattle.std.specs.Option.{option_and_then}
use Rattle.sc_tree.specs.Plain as tree
use Rattle.sc_tree.specs.Plain.{System, Clause, FeatureKind}
use Rattle.sc_class.specs.ClassNames.{Root}
use Rattle.sc_class.specs.Faults.ClassRules.{IsFaultless}
use Rattle.sc_class.specs.Tables.Features.{DeclaredFeature, named_among, declared_features}
use Rattle.sc_class.proofs.Declarers.{found_stands}
use Rattle.sc_rules.specs.Names.{RoutineName}
use Rattle.sc_rules.specs.Names as rules
use Rattle.sc_rules.specs.Purity.{IsPurity}
use Rattle.sc_rules.specs.Purity as purity
use Rattle.sc_rules.specs.SystemRules.{WellFormed}
use Rattle.sc_model.specs.Values.{Reference, Value}
use Rattle.sc_model.specs.Environments.{Binding, separate_formals}
use Rattle.sc_model.specs.Olds.{olds_of_clauses}
use Rattle.sc_model.specs.Routines.{Routine, version_of, routine_named, routine_of, routine_from, routine_with, origin_of}
use Rattle.sc_model.specs.Tasks.{requires, keeps_olds, tasks_of}
use Rattle.sc_model.specs.Entries.{entry, stage_with}
use Rattle.sc_model.specs.Handlers.{Origin, Frame, World, point_of}
use Rattle.sc_machine_laws.specs.states.Fitting.{FrameFits}
use Rattle.sc_machine_laws.specs.states.Points.{Each}
use Rattle.sc_machine_laws.proofs.states.Lists.{none_in, same_some}
use Rattle.sc_machine_laws.specs.settlements.Calm.{name_of}
use Rattle.sc_machine_laws.specs.settlements.Clauses.{RunsPure}
use Rattle.sc_machine_laws.specs.settlements.Entries.{HasStarted}
use Rattle.sc_machine_laws.proofs.settlements.Clausal.{rest_of, rest_started}
use Rattle.sc_machine_laws.proofs.settlements.Quiet.{pure_reserve_nothing}
use Rattle.sc_machine_laws.specs.ClauseLaws.{TextsAreWithoutTests}
use Rattle.sc_machine_laws.specs.Following.{objects_of, bound_in, AreBound, between_point, PureAt, FollowsPure, IsLost, AboveIsPure, StandsByStage, InPrecondition, FrameFollows, StackFollows}
use Rattle.sc_machine_laws.specs.Following as following
use Rattle.sc_machine_laws.proofs.PointsEntries.{entry_follows, entry_is_between, takes_bound}
use Rattle.sc_machine_laws.proofs.OwnKept.{plain_follows}
use Rattle.sc_machine_laws.proofs.OwnCalm.{IsCalm, IsEntry, plain, entered}

-- ---- a function that contracts may call reserves nothing as it is entered

abbrev ReservesNothing : System → (RoutineName → Bool) → Routine → Type 0
ReservesNothing s pure r = pure (name_of r) ≡ true → (bs : List Binding) → AreBound s r bs → separate_formals bs ≡ []

module _ (s : System) (pure : RoutineName → Bool) (tells : IsPurity s pure) where
  of_kinds : (f : DeclaredFeature) (k : ℕ) (m o : FeatureKind) (r : Routine) → f.feature.kind ≡ m →
      purity.routine_named s (rules.routine_of f) ≡ Some f →
      routine_with s f.feature.name.text f.class m k o ≡ Some r → ReservesNothing s pure r
  of_kinds f k (tree.Routine own) (tree.Routine original) r kind there e = subst (ReservesNothing s pure) (same_some e)
      (λ is bs b. pure_reserve_nothing s pure tells (rules.routine_of f) is f own there kind b.0 bs b.1)
  of_kinds f k (tree.Attribute d) o r kind there e = cc
  of_kinds f k (tree.Routine own) (tree.Attribute d) r kind there e = cc

  pub pure_reserves_nothing : (k : ℕ) (x : List ℕ) (r : Routine) → routine_named s k x ≡ Some r →
      ReservesNothing s pure r
  pure_reserves_nothing k x r e = by (version_of s k x) refl e
    where
      of_origin : (f : DeclaredFeature) → version_of s k x ≡ Some f → (c : Option DeclaredFeature) →
          routine_from s f c ≡ Some r → ReservesNothing s pure r
      of_origin f i None e = cc
      of_origin f i (Some c) e =
          let stands = found_stands s k x f i in
          of_kinds f c.class f.feature.kind c.feature.kind r refl
          (subst (λ (y : List ℕ). named_among y (declared_features s f.class) ≡ Some f)
          (sym stands.is_named) stands.is_declared) e

      by : (v : Option DeclaredFeature) → version_of s k x ≡ v → option_and_then (routine_of s) v ≡ Some r →
          ReservesNothing s pure r
      by None i e = cc
      by (Some f) i e = of_origin f i (origin_of s f) e

-- ---- what contracts may call is entered

module _ (s : System) (pure : RoutineName → Bool) where
  named_so : (f : DeclaredFeature) (k : ℕ) (m o : FeatureKind) (r : Routine) → pure (rules.routine_of f) ≡ true →
      routine_with s f.feature.name.text f.class m k o ≡ Some r → pure (name_of r) ≡ true
  named_so f k (tree.Routine own) (tree.Routine original) r is e = subst (λ (q : Routine). pure (name_of q) ≡ true)
      (same_some e) is
  named_so f k (tree.Attribute d) o r is e = cc
  named_so f k (tree.Routine own) (tree.Attribute d) r is e = cc

  pub runs_pure : (o : Reference) (x : List ℕ) (r : Routine) → RunsPure s pure o x →
      routine_named s o.class x ≡ Some r → pure (name_of r) ≡ true
  runs_pure o x r runs e = by (version_of s o.class x) refl e
    where
      of_origin : (f : DeclaredFeature) → version_of s o.class x ≡ Some f → (c : Option DeclaredFeature) →
          routine_from s f c ≡ Some r → pure (name_of r) ≡ true
      of_origin f i None e = cc
      of_origin f i (Some c) e = named_so f c.class f.feature.kind c.feature.kind r (runs f i) e

      by : (v : Option DeclaredFeature) → version_of s o.class x ≡ v → option_and_then (routine_of s) v ≡ Some r →
          pure (name_of r) ≡ true
      by None i e = cc
      by (Some f) i e = of_origin f i (origin_of s f) e

-- ---- entries

-- all of a routine is left: it has started, or has a precondition
pub begins_or_starts : (r : Routine) → HasStarted (tasks_of r) ⊎ (r.require ≡ [] → ⊥)
begins_or_starts r = by r.require refl
  where
    by : (ks : List Clause) → r.require ≡ ks → HasStarted (tasks_of r) ⊎ (r.require ≡ [] → ⊥)
    by [] e = inl (subst HasStarted
        (sym (ap (λ (ks : List Clause). (requires ks ++ keeps_olds (olds_of_clauses r.ensure)) ++ rest_of r) e))
        (rest_started r))
    by (k ∷ ks) e = inr (λ i. let both : k ∷ ks ≡ [] = sym e ∙ i in cc)

module _ (without_tests : TextsAreWithoutTests) (s : System) (root : Root) (pure : RoutineName → Bool)
    (faultless : IsFaultless s root) (well : WellFormed s) (tells : IsPurity s pure)
    (v : World) (h : ℕ) where
  module _ (me : Reference) (x : List ℕ) (r : Routine) (o : Origin) (bs : List Binding) (here : me.handler ≡ h)
      (named : routine_named s me.class x ≡ Some r)
      (bound : AreBound s r bs) where
    abbrev C : Frame
    C = entry me r o bs

    bound_is : bound_in C ≡ bs
    bound_is = takes_bound s r bs bound

    stands_between : (r.require ≡ [] → ⊥) →
        point_of C (v.handlers h).objects ≡ between_point (objects_of v) me r (bound_in C) r.require
    stands_between some = ap (λ (j : ℕ). point_of C (v.handlers j).objects) (sym here)
        ∙ entry_is_between (objects_of v) me r bs o some
        ∙ ap (λ (cs : List Binding). between_point (objects_of v) me r cs r.require) (sym bound_is)

    by_stage : (r.require ≡ [] → ⊥) → (vs : List Value) → StandsByStage s pure v h [] None C (stage_with vs)
    by_stage some [] = following.between [] r.require refl tt (stands_between some)
    by_stage some (u ∷ us) = (refl, stands_between some)

    in_precondition : HasStarted (tasks_of r) ⊎ (r.require ≡ [] → ⊥) →
        HasStarted (tasks_of r) ⊎ (IsLost v h C ⊎ (AboveIsPure pure None × InPrecondition s pure v h None C))
    in_precondition (inl i) = inl i
    in_precondition (inr some) = inr (inr (
      tt,
      record {
        asked = [];
        quiet = λ k c. absurd (none_in k c);
        environment_is = sym bound_is;
        stands = by_stage some (separate_formals bs);
      },
    ))

    pure_begins : pure (name_of r) ≡ true → FollowsPure s (objects_of v) None C (stage_with (separate_formals bs))
    pure_begins is = subst (λ (us : List Value). FollowsPure s (objects_of v) None C (stage_with us))
        (sym (pure_reserves_nothing s pure tells me.class x r named is bs bound))
        (subst (λ (cs : List Binding). PureAt s (objects_of v) me r cs (point_of C (objects_of v me.handler)))
        (sym bound_is)
        (entry_follows without_tests s root faultless well (objects_of v) me x r named bs bound o).0)

    entry_frame : FrameFollows s pure v h None C
    entry_frame = record {
      in_precondition = in_precondition (begins_or_starts r);
      in_pure = λ is. (tt, pure_begins is);
      is_bound = λ is. subst (AreBound s r) (sym bound_is) bound;
      reserves_nothing = λ is. refl;
    }

  pub entry_follows_there : (f : Frame) → f.current.handler ≡ h → IsEntry s f → FrameFollows s pure v h None f
  entry_follows_there f here e = subst (λ (g : Frame). FrameFollows s pure v h None g) (sym e.frame_is)
      (entry_frame e.current e.name e.routine e.origin e.bindings
      (subst (λ (g : Frame). g.current.handler ≡ h) e.frame_is here) e.is_named e.are_bound)

  -- No frame evaluates, but the one that is entered.
  pub calm_follows : (st : List Frame) → Each (FrameFits s pure v h) st → IsCalm s pure (v.handlers h).answer st →
      StackFollows s pure v h None st
  calm_follows st fits (plain z) = plain_follows s pure v h None st z
  calm_follows _ fits (entered {f} {below} e z) =
      (entry_follows_there f fits.0.is_own e, plain_follows s pure v h (Some f) below z)
