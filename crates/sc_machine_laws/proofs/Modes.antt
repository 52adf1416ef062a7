-- How a routine stands in its run: it runs a pure function, or has started, or stands in its precondition; and how it begins.
use Rattle.std.proofs.Common.{◌≡◌, ◌⊎◌, inl, inr, ℕ, ◌+◌, Bool, true, false, List, [], ◌∷◌, ◌++◌, Option, Some, None, refl, sym, ap, subst, ◌∙◌}
use Rattle.std.specs.Prelude.{length}
use Rattle.std.specs.Option.{option_and_then}
use Rattle.sc_tree.specs.declared.expression.UnaryOperator.TheVariants as unary
use Rattle.sc_tree.specs.Plain as tree
use Rattle.sc_tree.specs.Plain.{System, Clause, CreationCall, DeclaredType, FeatureKind, Head, Variable, Named, ResultVariable, Expr, Exprs, no_exprs, expr_then, Instr, Instrs, no_instrs, instr_then, Branches, no_branches, branch_then}
use Rattle.sc_class.specs.ClassNames.{Root}
use Rattle.sc_class.specs.Faults.ClassRules.{IsFaultless}
use Rattle.sc_class.specs.Tables.Features.{DeclaredFeature, declared_features, named_among}
use Rattle.sc_class.specs.Tables.Heirs.{HasOrigin, StandsInText}
use Rattle.sc_class.proofs.Declarers.{found_stands}
use Rattle.sc_rules.specs.Names.{RoutineName}
use Rattle.sc_rules.specs.Names as rules
use Rattle.sc_rules.specs.Purity.{IsPurity}
use Rattle.sc_rules.specs.SystemRules.{WellFormed}
use Rattle.sc_rules.proofs.TypeLaws.{declared}
use Rattle.sc_rules.proofs.Versions.{contracts_are_kept}
use Rattle.sc_model.specs.Olds.{olds_in, olds_of, olds_of_each, olds_of_clauses}
use Rattle.sc_model.specs.Routines.{Routine, origin_of, routine_from, routine_named, routine_of, routine_with, version_of}
use Rattle.sc_model.specs.Tasks.{Task, Do, In, Declare, Forget, Require, keeps_olds, requires, ensures, tasks_of}
use Rattle.sc_machine_laws.proofs.states.Origins.{origin_is}
use Rattle.sc_machine_laws.proofs.FreeNames.{AssignsNone, CallsPure, is_routine}
use Rattle.sc_machine_laws.proofs.Purely.{body_pure, precondition_pure, postcondition_pure}
use Rattle.sc_machine_laws.proofs.Tasks.{OfTasks, class_behind}
use Rattle.sc_machine_laws.proofs.Texts.{OfExpr, OfExprs, OfCall, OfClauses, OfHeads, OfVariable, OfInstr, OfInstrs, OfBranches}

-- ---- three ways

abbrev pub Any : List ℕ → Type 0
Any x = Unit {0}

-- No clause of the precondition is left.
abbrev pub Started : ℕ → List Task → Type 0
Started k ts = OfTasks (λ k. Any) (λ k. Any) (Unit {0}) ⊥ (Unit {0}) (λ ts. ⊥) k ts

-- All that is left calls pure functions alone without a target, and assigns no attribute.
abbrev pub RunsPure : System → (RoutineName → Bool) → ℕ → List Task → Type 0
RunsPure s pure k ts = OfTasks (CallsPure s pure) (AssignsNone s) ⊥ (Unit {0}) (Unit {0}) (λ ts. ⊥) k ts

-- whatever the text
abbrev pub AfterStart : List Task → Type 0
AfterStart ts = (k : ℕ) → Started k ts

-- So does what is left of the precondition, and the routine has not started.
abbrev pub Unstarted : System → (RoutineName → Bool) → ℕ → List Task → Type 0
Unstarted s pure k ts = OfTasks (CallsPure s pure) (AssignsNone s) ⊥ (Unit {0}) ⊥ AfterStart k ts

-- the routine, as the rules name it
abbrev pub name_of : Routine → RoutineName
name_of r = record { class = r.text.class; name = r.name }

-- no pure function, and it has started
abbrev pub IsWildAs : (RoutineName → Bool) → Routine → ℕ → List Task → Type 0
IsWildAs pure r k ts = (pure (name_of r) ≡ false) × Started k ts

-- It runs a pure function, or has started, or stands in its precondition.
abbrev pub StandsAs : System → (RoutineName → Bool) → Routine → ℕ → List Task → Type 0
StandsAs s pure r k ts = ((pure (name_of r) ≡ true) × RunsPure s pure k ts) ⊎ ((pure (name_of r) ≡ false) × (Started k ts ⊎ Unstarted s pure k ts))

-- What has not started has not.
pub not_both : (s : System) (pure : RoutineName → Bool) (k j : ℕ) (ts : List Task) → Unstarted s pure k ts → Started j ts → ⊥
not_both s pure k j [] u v = u
not_both s pure k j (Require ks ∷ ts) u v = v.0.0
not_both s pure k j (t ∷ ts) u v = not_both s pure (class_behind k t) (class_behind j t) ts u.1 v.1

-- ---- any text

mutual
  pub any_expr : (e : Expr) → OfExpr Any e
  any_expr (tree.Call q tree.no_target x es) = (tt, any_exprs es)
  any_expr (tree.Call q (tree.target a) x es) = (any_expr a, any_exprs es)
  any_expr (tree.Unary q op a) = any_expr a
  any_expr (tree.Binary q op a b) = (any_expr a, any_expr b)
  any_expr (tree.ObjectTest q d a x) = any_expr a
  any_expr (tree.Integer q z) = tt
  any_expr (tree.Boolean q b) = tt
  any_expr (tree.Void q) = tt
  any_expr (tree.Current q) = tt
  any_expr (tree.Result q) = tt

  pub any_exprs : (es : Exprs) → OfExprs Any es
  any_exprs no_exprs = tt
  any_exprs (expr_then e es) = (any_expr e, any_exprs es)

pub any_clauses : (ks : List Clause) → OfClauses Any ks
any_clauses [] = tt
any_clauses (k ∷ ks) = (any_expr k.condition, any_clauses ks)

pub any_heads : (ds : List Head) → OfHeads Any ds
any_heads [] = tt
any_heads (d ∷ ds) = (any_expr d.value, any_heads ds)

pub any_call : (k : Option CreationCall) → OfCall Any k
any_call None = tt
any_call (Some k) = any_exprs k.actuals

pub any_variable : (v : Variable) → OfVariable Any v
any_variable (Named x) = tt
any_variable (ResultVariable q) = tt

mutual
  pub any_instr : (i : Instr) → OfInstr Any Any (Unit {0}) i
  any_instr (tree.Assign q v e) = (any_variable v, any_expr e)
  any_instr (tree.PrintText q text) = tt
  any_instr (tree.CallRoutine q tree.no_target x es) = (tt, (tt, any_exprs es))
  any_instr (tree.CallRoutine q (tree.target a) x es) = (tt, (any_expr a, any_exprs es))
  any_instr (tree.Create q c) = (tt, (any_variable c.variable, any_call c.call))
  any_instr (tree.If q e body bs other) = (any_expr e, (any_instrs body, (any_branches bs, any_instrs other)))
  any_instr (tree.Loop q initial e body) = (any_instrs initial, (any_expr e, any_instrs body))
  any_instr (tree.Check q ks) = any_clauses ks
  any_instr (tree.Block q ds body) = (tt, (any_heads ds, any_instrs body))

  pub any_instrs : (is : Instrs) → OfInstrs Any Any (Unit {0}) is
  any_instrs no_instrs = tt
  any_instrs (instr_then i is) = (any_instr i, any_instrs is)

  pub any_branches : (bs : Branches) → OfBranches Any Any (Unit {0}) bs
  any_branches no_branches = tt
  any_branches (branch_then e body bs) = (any_expr e, (any_instrs body, any_branches bs))

-- ---- the operands of `old`

abbrev OfOlds : (List ℕ → Type 0) → List Expr → Type 0
OfOlds C [] = Unit {0}
OfOlds C (e ∷ es) = OfExpr C e × OfOlds C es

module _ (C : List ℕ → Type 0) where
  olds_append : (es fs : List Expr) → OfOlds C es → OfOlds C fs → OfOlds C (es ++ fs)
  olds_append [] fs a b = b
  olds_append (e ∷ es) fs a b = (a.0, olds_append es fs a.1 b)

  mutual
    olds_such : (e : Expr) → OfExpr C e → OfOlds C (olds_of e)
    olds_such (tree.Call q tree.no_target x es) o = each_such es o.1
    olds_such (tree.Call q (tree.target a) x es) o = olds_append (olds_of a) (olds_of_each es) (olds_such a o.0) (each_such es o.1)
    olds_such (tree.Unary q unary.Old a) o = (o, tt)
    olds_such (tree.Unary q unary.Not a) o = olds_such a o
    olds_such (tree.Unary q unary.Plus a) o = olds_such a o
    olds_such (tree.Unary q unary.Minus a) o = olds_such a o
    olds_such (tree.Binary q op a b) o = olds_append (olds_of a) (olds_of b) (olds_such a o.0) (olds_such b o.1)
    olds_such (tree.ObjectTest q d a x) o = olds_such a o
    olds_such (tree.Integer q z) o = tt
    olds_such (tree.Boolean q b) o = tt
    olds_such (tree.Void q) o = tt
    olds_such (tree.Current q) o = tt
    olds_such (tree.Result q) o = tt

    each_such : (es : Exprs) → OfExprs C es → OfOlds C (olds_of_each es)
    each_such no_exprs o = tt
    each_such (expr_then e es) o = olds_append (olds_of e) (olds_of_each es) (olds_such e o.0) (each_such es o.1)

  clauses_such : (ks : List Clause) → OfClauses C ks → OfOlds C (olds_of_clauses ks)
  clauses_such [] o = tt
  clauses_such (k ∷ ks) o = olds_append (olds_of k.condition) (olds_of_clauses ks) (olds_such k.condition o.0) (clauses_such ks o.1)

-- ---- all of a routine

-- what is left after the precondition and the `old`s
abbrev rest_of : Routine → List Task
rest_of r = In r.text ∷ Declare r.locals ∷ Do r.body ∷ Forget (length r.text.formals) ∷ In r.contract ∷ ensures 0 r.ensure

module _ (C A : ℕ → List ℕ → Type 0) (E K End : Type 0) (F : List Task → Type 0) (ends : End) where
  olds_left : (k : ℕ) (es : List Expr) (ts : List Task) → OfOlds (C k) es → OfTasks C A E K End F k ts → OfTasks C A E K End F k (keeps_olds es ++ ts)
  olds_left k [] ts o l = l
  olds_left k (e ∷ es) ts o l = (o.0, (tt, olds_left k es ts o.1 l))

  ensures_left : (k i : ℕ) (ks : List Clause) → OfClauses (C k) ks → OfTasks C A E K End F k (ensures i ks)
  ensures_left k i [] o = ends
  ensures_left k i (q ∷ ks) o = (o.0, (tt, ensures_left k (i + olds_in q.condition) ks o.1))

  -- after the precondition
  behind_left : (k : ℕ) (r : Routine) → OfClauses (C k) r.ensure → OfClauses (C r.contract.class) r.ensure → OfInstrs (C r.text.class) (A r.text.class) E r.body →
      OfTasks C A E K End F k (keeps_olds (olds_of_clauses r.ensure) ++ rest_of r)
  behind_left k r o e b = olds_left k (olds_of_clauses r.ensure) (rest_of r) (clauses_such (C k) r.ensure o)
      (tt, (tt, (b, (tt, (tt, ensures_left r.contract.class 0 r.ensure e)))))

started_behind : (r : Routine) (k : ℕ) → Started k (keeps_olds (olds_of_clauses r.ensure) ++ rest_of r)
started_behind r k = behind_left (λ k. Any) (λ k. Any) (Unit {0}) ⊥ (Unit {0}) (λ ts. ⊥) tt k r (any_clauses r.ensure) (any_clauses r.ensure) (any_instrs r.body)

-- What a routine calls and assigns without a target: its contract, and its body if it is pure.
record IsSuch (s : System) (pure : RoutineName → Bool) (r : Routine) : Type 0 where
  require : OfClauses (CallsPure s pure r.contract.class) r.require
  ensure : OfClauses (CallsPure s pure r.contract.class) r.ensure
  body : pure (name_of r) ≡ true → OfInstrs (CallsPure s pure r.text.class) (AssignsNone s r.text.class) ⊥ r.body

module _ (s : System) (pure : RoutineName → Bool) (r : Routine) (such : IsSuch s pure r) where
  pure_all : (ks : List Clause) → OfClauses (CallsPure s pure r.contract.class) ks → pure (name_of r) ≡ true →
      RunsPure s pure r.contract.class ((requires ks ++ keeps_olds (olds_of_clauses r.ensure)) ++ rest_of r)
  pure_all [] o e = behind_left (CallsPure s pure) (AssignsNone s) ⊥ (Unit {0}) (Unit {0}) (λ ts. ⊥) tt r.contract.class r such.ensure such.ensure (such.body e)
  pure_all (k ∷ ks) o e =
      ((tt, o), inl (behind_left (CallsPure s pure) (AssignsNone s) ⊥ (Unit {0}) (Unit {0}) (λ ts. ⊥) tt r.contract.class r such.ensure such.ensure (such.body e)))

  other_all : (ks : List Clause) → OfClauses (CallsPure s pure r.contract.class) ks →
      Started r.contract.class ((requires ks ++ keeps_olds (olds_of_clauses r.ensure)) ++ rest_of r)
      ⊎ Unstarted s pure r.contract.class ((requires ks ++ keeps_olds (olds_of_clauses r.ensure)) ++ rest_of r)
  other_all [] o = inl (started_behind r r.contract.class)
  other_all (k ∷ ks) o = inr ((tt, o), inr (started_behind r))

  -- So it begins.
  begins : StandsAs s pure r r.contract.class (tasks_of r)
  begins = by (pure (name_of r)) refl
    where
      by : (b : Bool) → pure (name_of r) ≡ b → StandsAs s pure r r.contract.class (tasks_of r)
      by true e = inl (e, pure_all r.require such.require e)
      by false e = inr (e, other_all r.require such.require)

-- ---- routines of accepted systems

same_some : {A : Type 0} {x y : A} → Some x ≡ Some y → x ≡ y
same_some e = cc

-- the routine of a version that an object has of a name
pub record IsVersionOf (s : System) (k : ℕ) (x : List ℕ) (r : Routine) : Type 0 where
  pub feature : DeclaredFeature
  pub is_version : version_of s k x ≡ Some feature
  pub is_routine_of : routine_of s feature ≡ Some r
  pub has_name : name_of r ≡ rules.routine_of feature
  pub is_one : is_routine feature.feature.kind ≡ true

module _ (s : System) (k : ℕ) (x : List ℕ) where
  of_origin : (f : DeclaredFeature) (o : Option DeclaredFeature) (r : Routine) → version_of s k x ≡ Some f → routine_of s f ≡ Some r → routine_from s f o ≡ Some r → IsVersionOf s k x r
  of_origin f None r e i j = cc
  of_origin f (Some o) r e i j = by f.feature.kind o.feature.kind refl j
    where
      by : (m n : FeatureKind) → f.feature.kind ≡ m → routine_with s f.feature.name.text f.class m o.class n ≡ Some r → IsVersionOf s k x r
      by (tree.Attribute d) n a j = cc
      by (tree.Routine own) (tree.Attribute d) a j = cc
      by (tree.Routine own) (tree.Routine original) a j = record {
        feature = f;
        is_version = e;
        is_routine_of = i;
        has_name = ap name_of (same_some (sym j));
        is_one = ap is_routine a;
      }

  pub version_found : (f : DeclaredFeature) (r : Routine) → version_of s k x ≡ Some f → routine_of s f ≡ Some r → IsVersionOf s k x r
  version_found f r e i = of_origin f (origin_of s f) r e i i

  pub routine_found : (r : Routine) → routine_named s k x ≡ Some r → IsVersionOf s k x r
  routine_found r i = by (version_of s k x) refl i
    where
      by : (o : Option DeclaredFeature) → version_of s k x ≡ o → option_and_then (routine_of s) o ≡ Some r → IsVersionOf s k x r
      by None e i = cc
      by (Some f) e i = version_found f r e i

module _ (s : System) (root : Root) (pure : RoutineName → Bool) (faultless : IsFaultless s root) (well : WellFormed s) (tells : IsPurity s pure) where
  of_texts : (k l : ℕ) (x : List ℕ) (f o : DeclaredFeature) (r : Routine) (own original : tree.RoutineDeclaration) → StandsInText s k x f → StandsInText s l x o →
      f.feature.kind ≡ tree.Routine own → o.feature.kind ≡ tree.Routine original →
      routine_with s f.feature.name.text f.class (tree.Routine own) o.class (tree.Routine original) ≡ Some r → IsSuch s pure r
  of_texts k l x f o r own original a b m n e = subst (IsSuch s pure) (same_some e) (record {
    require = precondition_pure s root pure faultless well tells o b.class b.is_class b.declares original n;
    ensure = postcondition_pure s root pure faultless well tells o b.class b.is_class b.declares original n;
    body = λ i. body_pure s root pure faultless well tells f a.class a.is_class a.declares own m
        (subst (λ (y : List ℕ). named_among y (declared_features s f.class) ≡ Some f) (sym a.is_named) a.is_declared) i;
  })

  of_feature : (k : ℕ) (x : List ℕ) (f : DeclaredFeature) (r : Routine) → version_of s k x ≡ Some f → routine_of s f ≡ Some r → IsSuch s pure r
  of_feature k x f r e i = by_kind f.feature.kind refl
    where
      by_origin : (own : tree.RoutineDeclaration) → f.feature.kind ≡ tree.Routine own → HasOrigin s k x f → IsSuch s pure r
      by_origin own m h = by h.origin.feature.kind refl
          (ap (λ n. routine_with s f.feature.name.text f.class n h.origin.class h.origin.feature.kind) (sym m)
          ∙ sym (ap (routine_from s f) (origin_is s root faultless f ∙ h.is_origin)) ∙ i)
        where
          by : (n : FeatureKind) → h.origin.feature.kind ≡ n →
              routine_with s f.feature.name.text f.class (tree.Routine own) h.origin.class h.origin.feature.kind ≡ Some r → IsSuch s pure r
          by (tree.Attribute d) n j =
              let no : None ≡ Some r = sym (ap (λ n. routine_with s f.feature.name.text f.class (tree.Routine own) h.origin.class n) n) ∙ j in cc
          by (tree.Routine original) n j = of_texts k h.origin.class x f h.origin r own original (found_stands s k x f e)
              (found_stands s h.origin.class x h.origin h.is_feature_there) m n
              (sym (ap (λ n. routine_with s f.feature.name.text f.class (tree.Routine own) h.origin.class n) n) ∙ j)

      none_made : (d : DeclaredType) (o : Option DeclaredFeature) → f.feature.kind ≡ tree.Attribute d → routine_from s f o ≡ Some r → ⊥
      none_made d None is i = cc
      none_made d (Some o) is i =
          let no : None ≡ Some r = sym (ap (λ m. routine_with s f.feature.name.text f.class m o.class o.feature.kind) is) ∙ i in cc

      by_kind : (m : FeatureKind) → f.feature.kind ≡ m → IsSuch s pure r
      by_kind (tree.Attribute d) is = absurd (none_made d (origin_of s f) is i)
      by_kind (tree.Routine own) is = by_origin own is (contracts_are_kept s root faultless (declared s pure tells well) k x f e own is).0

  -- So does each routine begin that an object of the class has of a name.
  pub routine_begins : (k : ℕ) (x : List ℕ) (r : Routine) → IsVersionOf s k x r → StandsAs s pure r r.contract.class (tasks_of r)
  routine_begins k x r v = begins s pure r (of_feature k x v.feature r v.is_version v.is_routine_of)
