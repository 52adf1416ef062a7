-- The faults that are listed of a system: each is one of it, and there is one at each place at which a rule fails.
use Rattle.std.proofs.Common.{◌≡◌, ◌+◌, ℕ, zero, suc, Bool, List, [], ◌∷◌, ◌++◌, Option, Some, None, refl, sym, subst, arith}
use Rattle.std.specs.Prelude.{All, Any, Contains, slice_get}
use Rattle.std.proofs.lemmas.List.Elements.{All-nil, All-append}
use Rattle.sc_text.specs.declared.token.Span.{Span}
use Rattle.sc_tree.specs.Plain.{System, Class, Feature, FeatureKind, RoutineDeclaration, Attribute, Routine, Declaration, DeclaredType, Clause}
use Rattle.sc_class.proofs.Anys.{any_first, any_later, any_left, any_right}
use Rattle.sc_rules.specs.declared.rule.Rule.{Rule}
use Rattle.sc_rules.specs.declared.fault.Fault.{Fault}
use Rattle.sc_rules.specs.declared.position.Context.{Context}
use Rattle.sc_rules.specs.declared.position.Context.TheVariants as context
use Rattle.sc_rules.specs.Types.{TypeFails}
use Rattle.sc_rules.specs.Names.{RoutineName, RoutineContext, Entities, context_of, formals_known, known_in_body}
use Rattle.sc_rules.specs.Sites.{instructions}
use Rattle.sc_rules.specs.Purity.{IsPurity}
use Rattle.sc_rules.specs.TextRules.{Fails, ClauseFails}
use Rattle.sc_rules.specs.SystemRules.{FeatureFails, attribute_type, formal_type, result_type, precondition, local_type, in_body, postcondition, InvariantFails, CreatorFails, ClassFails, in_creators, in_features, in_invariant, SystemFails, in_class}
use Rattle.sc_rules.proofs.PurityLaws.{purity_is_one}
use Rattle.sc_faults.specs.FaultLists.{IsFaultList}
use Rattle.sc_faults.specs.Internal.Listing.{faults_of_each, faults_of_clause, faults_of_instrs, faults_of_type, faults_of_types, faults_of_type_if_any, faults_of_text, faults_of_kind, faults_of_features, faults_of_creator, faults_of_invariant, faults_of_class, faults_of_classes, faults_of_system}
use Rattle.sc_faults.proofs.ReportedFaults.{Holds, all_more, joined, each_all, each_any}
use Rattle.sc_faults.proofs.Places.{At}
use Rattle.sc_faults.proofs.TypeFaults.{type_all, type_place}
use Rattle.sc_faults.proofs.InstructionFaults.{instrs_all}
use Rattle.sc_faults.proofs.FirstFaults.{first_listed}
use Rattle.sc_faults.proofs.SiteFaults.{fails_place}
use Rattle.sc_faults.proofs.PartFaults.{creator_all, creator_place, clause_all, clause_place, invariant_all, invariant_place}

-- ---- each fault is one of the system

module _ (s : System) (pure : RoutineName → Bool) (k : ℕ) where
  found : {A : Type 0} {P : A → Type 0} (xs : List A) (x : A) → Contains xs x → P x → Any P xs
  found xs x (j, l, e) p = (j, x, l, e, p)

  types_all : (formals ds : List Declaration) (P : Rule → Span → Type 0) →
      ((r : Rule) (p : Span) → Any (λ (d : Declaration). TypeFails s formals d.declared_type r p) ds → P r p) →
      All (Holds P) (faults_of_types s formals ds)
  types_all formals ds P f =
      each_all P (λ (d : Declaration). faults_of_type s formals d.declared_type) ds
      (λ d i. type_all s formals d.declared_type P (λ r p g. f r p (found ds d i g)))

  clauses_all : (h : RoutineContext) (c : Context) (n : Entities) (is : List Clause) (P : Rule → Span → Type 0) →
      ((r : Rule) (p : Span) → Any (λ i. ClauseFails h c n i r p) is → P r p) →
      All (Holds P) (faults_of_each (faults_of_clause h c n) is)
  clauses_all h c n is P f =
      each_all P (faults_of_clause h c n) is (λ i m. clause_all h c n i P (λ r p g. f r p (found is i m g)))

  result_all : (routine : RoutineDeclaration) (o : Option DeclaredType) → routine.result_type ≡ o →
      All (Holds (FeatureFails s pure k (Routine routine))) (faults_of_type_if_any s [] o)
  result_all routine None e = All-nil (Holds (FeatureFails s pure k (Routine routine)))
  result_all routine (Some d) e =
      type_all s [] d (FeatureFails s pure k (Routine routine)) (λ r p f. result_type {routine = routine} {d = d} e f)

  kind_all : (f : FeatureKind) → All (Holds (FeatureFails s pure k f)) (faults_of_kind s pure k f)
  kind_all (Attribute d) = type_all s [] d (FeatureFails s pure k (Attribute d)) (λ r p f. attribute_type f)
  kind_all (Routine routine) =
      let h : RoutineContext = context_of s pure k routine in
      let P : Rule → Span → Type 0 = FeatureFails s pure k (Routine routine) in
      let types : List Fault = faults_of_types s routine.formals routine.formals in
      let result : List Fault = faults_of_type_if_any s [] routine.result_type in
      let before : List Fault = faults_of_each (faults_of_clause h context.Require (formals_known s routine.formals)) routine.precondition in
      let locals : List Fault = faults_of_types s routine.formals routine.locals in
      let inner : List Fault = faults_of_instrs h (known_in_body s routine) routine.body in
      let after : List Fault = faults_of_each (faults_of_clause h context.Ensure (formals_known s routine.formals)) routine.postcondition in
      joined P types (result ++ (before ++ (locals ++ (inner ++ after))))
      (types_all routine.formals routine.formals P (λ r p f. formal_type {routine = routine} f))
      (joined P result (before ++ (locals ++ (inner ++ after))) (result_all routine routine.result_type refl)
      (joined P before (locals ++ (inner ++ after))
      (clauses_all h context.Require (formals_known s routine.formals) routine.precondition P (λ r p f. precondition {routine = routine} f))
      (joined P locals (inner ++ after) (types_all routine.formals routine.locals P (λ r p f. local_type {routine = routine} f))
      (joined P inner after
      (all_more (Fails h (instructions (known_in_body s routine) routine.body)) P inner (λ r p f. in_body {routine = routine} f)
      (instrs_all h (known_in_body s routine) routine.body))
      (clauses_all h context.Ensure (formals_known s routine.formals) routine.postcondition P (λ r p f. postcondition {routine = routine} f))))))

  features_all : (fs : List Feature) (P : Rule → Span → Type 0) →
      ((r : Rule) (p : Span) → Any (λ (f : Feature). FeatureFails s pure k f.kind r p) fs → P r p) →
      All (Holds P) (faults_of_features s pure k fs)
  features_all [] P f = All-nil (Holds P)
  features_all (x ∷ xs) P f =
      joined P (faults_of_kind s pure k x.kind) (faults_of_features s pure k xs)
      (all_more (FeatureFails s pure k x.kind) P (faults_of_kind s pure k x.kind) (λ r p g. f r p (any_first x xs g)) (kind_all x.kind))
      (features_all xs P (λ r p g. f r p (any_later x xs g)))

  class_all : (c : Class) → All (Holds (ClassFails s pure k c)) (faults_of_class s pure k c)
  class_all c =
      let P : Rule → Span → Type 0 = ClassFails s pure k c in
      let creators : List Fault = faults_of_each (faults_of_creator s k) c.creators in
      let invariant : List Fault = faults_of_each (faults_of_invariant s pure k) c.invariant in
      joined P creators (faults_of_features s pure k c.features ++ invariant)
      (each_all P (faults_of_creator s k) c.creators (λ x i. creator_all s k x P (λ r p f. in_creators (found c.creators x i f))))
      (joined P (faults_of_features s pure k c.features) invariant
      (features_all c.features P (λ r p f. in_features f))
      (each_all P (faults_of_invariant s pure k) c.invariant
      (λ x i. invariant_all s pure k x P (λ r p f. in_invariant (found c.invariant x i f)))))

-- the class at an index of these, of which the first is at the number
record OneFails (s : System) (pure : RoutineName → Bool) (k : ℕ) (cs : List Class) (r : Rule) (p : Span) : Type 0 where
  index : ℕ
  class : Class
  is_there : slice_get cs index ≡ Some class
  fails : ClassFails s pure (k + index) class r p

first_number : (k : ℕ) → k ≡ k + zero
first_number k = omega arith

next_number : (k j : ℕ) → (k + 1) + j ≡ k + suc j
next_number k j = omega arith

classes_all : (s : System) (pure : RoutineName → Bool) (k : ℕ) (cs : List Class) →
    All (Holds (OneFails s pure k cs)) (faults_of_classes s pure k cs)
classes_all s pure k [] = All-nil (Holds (OneFails s pure k []))
classes_all s pure k (c ∷ cs) =
    All-append (Holds (OneFails s pure k (c ∷ cs))) (faults_of_class s pure k c) (faults_of_classes s pure (k + 1) cs)
    (all_more (ClassFails s pure k c) (OneFails s pure k (c ∷ cs)) (faults_of_class s pure k c)
    (λ r p f. record { index = zero; class = c; is_there = refl; fails = subst (λ k. ClassFails s pure k c r p) (first_number k) f })
    (class_all s pure k c))
    (all_more (OneFails s pure (k + 1) cs) (OneFails s pure k (c ∷ cs)) (faults_of_classes s pure (k + 1) cs)
    (λ r p f. record {
      index = suc f.index;
      class = f.class;
      is_there = f.is_there;
      fails = subst (λ k. ClassFails s pure k f.class r p)
          (next_number k f.index) f.fails;
    })
    (classes_all s pure (k + 1) cs))

zero_first : (k : ℕ) → 0 + k ≡ k
zero_first k = omega arith

system_all : (s : System) (pure : RoutineName → Bool) → IsPurity s pure →
    All (Holds (SystemFails s)) (faults_of_system s pure)
system_all s pure i =
    all_more (OneFails s pure 0 s.classes) (SystemFails s) (faults_of_system s pure)
    (λ r p f. in_class i f.is_there (subst (λ k. ClassFails s pure k f.class r p) (zero_first f.index) f.fails))
    (classes_all s pure 0 s.classes)

-- ---- each place at which a rule fails has one of them

-- one of these has a fault there
each_place : {A : Type 0} (Q : A → Type 0) (p : Span) (list : A → List Fault) (xs : List A) →
    ((x : A) → Q x → Any (Holds (At p)) (list x)) → Any Q xs → Any (Holds (At p)) (faults_of_each list xs)
each_place Q p list xs g (k, x, l, e, q) = each_any (At p) list xs x (k, l, e) (g x q)

module _ (s : System) (pure : RoutineName → Bool) (k : ℕ) (r : Rule) (p : Span) where
  abbrev h : RoutineDeclaration → RoutineContext
  h routine = context_of s pure k routine

  abbrev before : RoutineDeclaration → List Fault
  before routine = faults_of_each (faults_of_clause (h routine) context.Require (formals_known s routine.formals)) routine.precondition

  abbrev locals : RoutineDeclaration → List Fault
  locals routine = faults_of_types s routine.formals routine.locals

  abbrev inner : RoutineDeclaration → List Fault
  inner routine = faults_of_instrs (h routine) (known_in_body s routine) routine.body

  -- in the text of a routine, after its types
  in_text : (routine : RoutineDeclaration) →
      Any (Holds (At p)) (faults_of_text (h routine) routine.precondition routine.locals routine.body routine.postcondition) →
      Any (Holds (At p)) (faults_of_kind s pure k (Routine routine))
  in_text routine a =
      any_right (faults_of_types s routine.formals routine.formals) _ (any_right (faults_of_type_if_any s [] routine.result_type) _ a)

  types_place : (formals ds : List Declaration) → Any (λ (d : Declaration). TypeFails s formals d.declared_type r p) ds →
      Any (Holds (At p)) (faults_of_types s formals ds)
  types_place formals ds a =
      each_place (λ (d : Declaration). TypeFails s formals d.declared_type r p) p
      (λ (d : Declaration). faults_of_type s formals d.declared_type) ds (λ d f. type_place f) a

  clauses_place : (h : RoutineContext) (c : Context) (n : Entities) (is : List Clause) → Any (λ i. ClauseFails h c n i r p) is →
      Any (Holds (At p)) (faults_of_each (faults_of_clause h c n) is)
  clauses_place h c n is a = each_place (λ i. ClauseFails h c n i r p) p (faults_of_clause h c n) is (λ i f. clause_place h c n i r p f) a

  kind_place : (f : FeatureKind) → FeatureFails s pure k f r p → Any (Holds (At p)) (faults_of_kind s pure k f)
  kind_place (Attribute d) (attribute_type f) = type_place f
  kind_place (Routine routine) (formal_type f) =
      any_left (faults_of_types s routine.formals routine.formals) _ (types_place routine.formals routine.formals f)
  kind_place (Routine routine) (result_type {d = d} e f) =
      any_right (faults_of_types s routine.formals routine.formals) _
      (any_left (faults_of_type_if_any s [] routine.result_type) _
      (subst (λ o. Any (Holds (At p)) (faults_of_type_if_any s [] o)) (sym e) (type_place f)))
  kind_place (Routine routine) (precondition f) =
      in_text routine
      (any_left (before routine) _ (clauses_place (h routine) context.Require (formals_known s routine.formals) routine.precondition f))
  kind_place (Routine routine) (local_type f) =
      in_text routine (any_right (before routine) _ (any_left (locals routine) _ (types_place routine.formals routine.locals f)))
  kind_place (Routine routine) (in_body f) =
      in_text routine (any_right (before routine) _ (any_right (locals routine) _ (any_left (inner routine) _ (fails_place f))))
  kind_place (Routine routine) (postcondition f) =
      in_text routine
      (any_right (before routine) _ (any_right (locals routine) _ (any_right (inner routine) _
      (clauses_place (h routine) context.Ensure (formals_known s routine.formals) routine.postcondition f))))

  class_place : (c : Class) → ClassFails s pure k c r p → Any (Holds (At p)) (faults_of_class s pure k c)
  class_place c (in_creators a) =
      any_left (faults_of_each (faults_of_creator s k) c.creators) _
      (each_place (λ x. CreatorFails s k x r p) p (faults_of_creator s k) c.creators (λ x f. creator_place s k x r p f) a)
  class_place c (in_features a) =
      any_right (faults_of_each (faults_of_creator s k) c.creators) _
      (any_left (faults_of_features s pure k c.features) _
      (each_place (λ (f : Feature). FeatureFails s pure k f.kind r p) p (λ (f : Feature). faults_of_kind s pure k f.kind) c.features
      (λ f g. kind_place f.kind g) a))
  class_place c (in_invariant a) =
      any_right (faults_of_each (faults_of_creator s k) c.creators) _
      (any_right (faults_of_features s pure k c.features) _
      (each_place (λ i. InvariantFails s pure k i r p) p (faults_of_invariant s pure k) c.invariant (λ i f. invariant_place s pure k i r p f) a))

-- the class at an index of these, of which the first is at the number
first_there : (k : ℕ) → k + zero ≡ k
first_there k = omega arith

next_there : (k j : ℕ) → k + suc j ≡ (k + 1) + j
next_there k j = omega arith

classes_place : (s : System) (pure : RoutineName → Bool) (p : Span) (k : ℕ) (cs : List Class) (j : ℕ) (c : Class) →
    slice_get cs j ≡ Some c → Any (Holds (At p)) (faults_of_class s pure (k + j) c) → Any (Holds (At p)) (faults_of_classes s pure k cs)
classes_place s pure p k [] j c e a = cc
classes_place s pure p k (d ∷ ds) zero c e a =
    any_left (faults_of_class s pure k d) (faults_of_classes s pure (k + 1) ds)
    (subst (λ c. Any (Holds (At p)) (faults_of_class s pure k c)) (same_class e)
    (subst (λ k. Any (Holds (At p)) (faults_of_class s pure k c)) (first_there k) a))
  where
    same_class : Some d ≡ Some c → c ≡ d
    same_class e = cc
classes_place s pure p k (d ∷ ds) (suc j) c e a =
    any_right (faults_of_class s pure k d) (faults_of_classes s pure (k + 1) ds)
    (classes_place s pure p (k + 1) ds j c e (subst (λ k. Any (Holds (At p)) (faults_of_class s pure k c)) (next_there k j) a))

zero_there : (k : ℕ) → k ≡ 0 + k
zero_there k = omega arith

system_place : (s : System) (pure : RoutineName → Bool) → IsPurity s pure → (r : Rule) (p : Span) → SystemFails s r p →
    Any (Holds (At p)) (faults_of_system s pure)
system_place s pure i r p (in_class {pure = other} {k} {c} j e f) =
    classes_place s pure p 0 s.classes k c e
    (subst (λ k. Any (Holds (At p)) (faults_of_class s pure k c)) (zero_there k)
    (class_place s pure k r p c (subst (λ test. ClassFails s test k c r p) (purity_is_one s other pure j i) f)))

pub system_listed : (s : System) (pure : RoutineName → Bool) (faults : List Fault) → IsPurity s pure →
    faults ≡ faults_of_system s pure → IsFaultList s faults
system_listed s pure faults i e = record {
  pure = pure;
  separates = i;
  each_fails = subst (All (Holds (SystemFails s))) (sym e) (system_all s pure i);
  each_place = λ r p f. subst (Any (Holds (At p))) (sym e) (system_place s pure i r p f);
  first = λ f j. first_listed s pure faults f e j;
}
