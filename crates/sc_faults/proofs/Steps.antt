-- What the walk has added after each of its steps.
use Rattle.std.proofs.Common.{◌≡◌, ℕ, ◌+◌, ◌<◌, ◌≤◌, List, [], ◌++◌, length, drop, get_or, map, Result, Ok, Err, refl, ap, sym, subst, ◌∙◌, append_assoc}
use Rattle.std.specs.Prelude.{Bool, true, false, if◌then◌else◌, OnOk}
use Rattle.std.specs.declared.alloc.AllocError.{AllocError}
use Rattle.sc_text.specs.declared.token.Span.{Span}
use Rattle.sc_tree.specs.declared.declaration.DeclaredType.{DeclaredType}
use Rattle.sc_tree.specs.declared.declaration.Declaration.{Declaration}
use Rattle.sc_tree.specs.declared.instruction.Clause.{Clause}
use Rattle.sc_tree.specs.declared.expression.Name.{Name}
use Rattle.sc_tree.specs.declared.system.Feature.{Feature}
use Rattle.sc_tree.specs.declared.system.FeatureKind.{FeatureKind}
use Rattle.sc_tree.specs.declared.system.FeatureKind.TheVariants as kind
use Rattle.sc_tree.specs.declared.system.Routine.{Routine}
use Rattle.sc_tree.specs.declared.system.Class.{Class}
use Rattle.sc_tree.specs.Plain as plain
use Rattle.sc_tree.specs.Plain.{System}
use Rattle.sc_tree.specs.View.{class_of, clause_of, declaration_of, feature_of, instrs_of, kind_of, name_of, routine_of, type_if_any, type_of}
use Rattle.sc_class.proofs.Anys.{at, drop_end}
use Rattle.sc_rules.specs.declared.fault.Fault.{Fault}
use Rattle.sc_rules.specs.declared.position.Context.TheVariants as context
use Rattle.sc_rules.specs.Names.{RoutineName, RoutineContext, Entities, routine_context, formals_known, locals_known}
use Rattle.sc_rules.specs.declared.rule.Rule.TheVariants.{InvariantForm}
use Rattle.sc_rules.specs.Judging.{Judged, required}
use Rattle.sc_rules.specs.JudgingSystem.{is_same_span}
use Rattle.sc_typing.specs.declared.fault.CheckFault.{CheckFault}
use Rattle.sc_typing.specs.declared.fault.CheckFault.TheVariants.{Refused}
use Rattle.sc_typing.specs.Judges.{Faults, Knows, Passes}
use Rattle.sc_faults.specs.Internal.Adding.{AddsFaults, AddsForm, AddsUnder}
use Rattle.sc_faults.specs.Internal.Listing.{with_first, faults_at, faults_of_each, faults_of_clause, faults_of_instrs, faults_under, faults_of_type, faults_of_types, faults_of_type_if_any, faults_of_body, faults_of_text, faults_of_kind, faults_of_features, faults_of_creator, faults_of_form, faults_of_invariant, faults_of_class, faults_of_classes}
use Rattle.sc_faults.proofs.Adding.{both_if_ok, named_if_ok, nothing_added, next, end}

-- ---- a site

module _ (judged : Result Unit CheckFault) (j : Judged (Unit {0})) (operands : List Fault) (r : Result Unit AllocError)
    (old new : List Fault) where
  pub passed_added : (u : Unit) → judged ≡ Ok u → Passes j judged → OnOk r (new ≡ old ++ operands) →
      OnOk r (new ≡ old ++ faults_at j operands)
  passed_added u q p a =
      named_if_ok r old new operands (faults_at j operands) (sym (ap (λ j. faults_at j operands) (subst (Passes j) q p))) a

  pub refused_added : (e : CheckFault) (f : Fault) → judged ≡ Err e → e ≡ Refused f → Passes j judged →
      OnOk r (new ≡ old ++ with_first f operands) → OnOk r (new ≡ old ++ faults_at j operands)
  refused_added e f q w p a =
      named_if_ok r old new (with_first f operands) (faults_at j operands)
      (sym (ap (λ j. faults_at j operands) (subst (Faults j) w (subst (Passes j) q p)))) a

-- what was found of the operands first
pub site_added : (j : Judged (Unit {0})) (listed : List Fault) (judged : Result Unit CheckFault) (r : Result Unit AllocError)
    (operands old new : List Fault) → operands ≡ listed → Passes j judged → AddsFaults judged operands r old new →
    OnOk r (new ≡ old ++ faults_at j listed)
site_added j listed judged r operands old new e p a =
    named_if_ok r old new (faults_at j operands) (faults_at j listed) (ap (faults_at j) e) (a j p)

-- the form of a clause, whether its own judging passed it, reported it at the place, or reported another place
module _ (judged : Result Unit CheckFault) (j : Judged (Unit {0})) (b : Bool) (p : Span) (r : Result Unit AllocError) (old new : List Fault) where
  pub passed_form : (u : Unit) → judged ≡ Ok u → Passes j judged → old ≡ old ++ faults_of_form j b p
  passed_form u q k =
      nothing_added old old refl ∙ ap (λ j. old ++ faults_of_form j b p) (sym (subst (Passes j) q k))

  listed : (e : CheckFault) (f : Fault) (c : Bool) → judged ≡ Err e → e ≡ Refused f → is_same_span f.span p ≡ c → Passes j judged →
      faults_of_form j b p ≡ (if c then [] else faults_at (required b InvariantForm p) [])
  listed e f c q w s k =
      ap (λ j. faults_of_form j b p) (subst (Faults j) w (subst (Passes j) q k))
      ∙ ap (λ c. if c then [] else faults_at (required b InvariantForm p) []) s

  pub form_there : (e : CheckFault) (f : Fault) → judged ≡ Err e → e ≡ Refused f → is_same_span f.span p ≡ true → Passes j judged →
      old ≡ old ++ faults_of_form j b p
  form_there e f q w s k = nothing_added old old refl ∙ ap (λ fs. old ++ fs) (sym (listed e f true q w s k))

  pub form_missing : (e : CheckFault) (f : Fault) → judged ≡ Err e → e ≡ Refused f → is_same_span f.span p ≡ false → Passes j judged →
      OnOk r (new ≡ old ++ faults_at (required b InvariantForm p) []) → OnOk r (new ≡ old ++ faults_of_form j b p)
  form_missing e f q w s k a =
      named_if_ok r old new (faults_at (required b InvariantForm p) []) (faults_of_form j b p) (sym (listed e f false q w s k)) a

-- then the form of a clause
pub form_added : (j : Judged (Unit {0})) (operands : List Fault) (b c : Bool) (p q : Span) (judged : Result Unit CheckFault)
    (r : Result Unit AllocError) (old mid new : List Fault) → b ≡ c → p ≡ q → Passes j judged → AddsFaults judged operands (Ok tt) old mid →
    AddsForm judged b p r mid new → OnOk r (new ≡ old ++ (faults_at j operands ++ faults_of_form j c q))
form_added j operands b c p q judged r old mid new bq pq k a f =
    both_if_ok r old mid new (faults_at j operands) (faults_of_form j c q) (a j k)
    (named_if_ok r mid new (faults_of_form j b p) (faults_of_form j c q)
    (ap (λ b. faults_of_form j b p) bq ∙ ap (λ p. faults_of_form j c p) pq) (f j k))

-- ---- names

pub knows_at : (names : Entities → Judged Entities) (given : Result Unit CheckFault) (n before m after : Entities) → before ≡ n → after ≡ m →
    Knows (names before) given m → Knows (names n) given after
knows_at names given n before m after p q k =
    subst (λ m. Knows (names n) given m) (sym q) (subst (λ n. Knows (names n) given m) p k)

-- ---- under what gives names

module _ (h : RoutineContext) (is : plain.Instrs) (given : Result Unit CheckFault) (known : Entities) where
  pub under_added : (j : Judged Entities) (r : Result Unit AllocError) (old mid new first : List Fault) → mid ≡ old ++ first →
      Knows j given known → AddsUnder h given known is r mid new → OnOk r (new ≡ old ++ (first ++ faults_under h j is))
  under_added j r old mid new first p k f = both_if_ok r old mid new first (faults_under h j is) p (f j k)

  pub under_known : (u : Unit) (j : Judged Entities) (r : Result Unit AllocError) (old new : List Fault) → given ≡ Ok u → Knows j given known →
      OnOk r (new ≡ old ++ faults_of_instrs h known is) → OnOk r (new ≡ old ++ faults_under h j is)
  under_known u j r old new q k p =
      named_if_ok r old new (faults_of_instrs h known is) (faults_under h j is)
      (sym (ap (λ j. faults_under h j is) (subst (λ g. Knows j g known) q k))) p

  pub under_unknown : (e : CheckFault) (f : Fault) (j : Judged Entities) (old : List Fault) → given ≡ Err e → e ≡ Refused f → Knows j given known →
      old ≡ old ++ faults_under h j is
  under_unknown e f j old q w k =
      nothing_added old old refl
      ∙ ap (λ j. old ++ faults_under h j is) (sym (subst (Faults j) w (subst (λ g. Knows j g known) q k)))

-- ---- features

pub body_added : (h : RoutineContext) (n known : Entities) (locals : List plain.Declaration) (is : plain.Instrs)
    (r : Result Unit AllocError) (old mid new : List Fault) → known ≡ n ++ locals_known h.system h.formals locals →
    mid ≡ old ++ faults_of_types h.system h.formals locals → OnOk r (new ≡ mid ++ faults_of_instrs h known is) →
    OnOk r (new ≡ old ++ faults_of_body h n locals is)
body_added h n known locals is r old mid new kq p1 p2 =
    let types : List Fault = faults_of_types h.system h.formals locals in
    named_if_ok r old new (types ++ faults_of_instrs h known is) (faults_of_body h n locals is)
    (ap (λ m. types ++ faults_of_instrs h m is) kq)
    (both_if_ok r old mid new types (faults_of_instrs h known is) p1 p2)

pub text_added : (h : RoutineContext) (pre post : List plain.Clause) (locals : List plain.Declaration) (is : plain.Instrs)
    (r : Result Unit AllocError) (old first second new : List Fault) (known : Entities) →
    known ≡ formals_known h.system h.formals → first ≡ old ++ faults_of_each (faults_of_clause h context.Require known) pre →
    second ≡ first ++ faults_of_body h known locals is →
    OnOk r (new ≡ second ++ faults_of_each (faults_of_clause h context.Ensure known) post) → OnOk r (new ≡ old ++ faults_of_text h pre locals is post)
text_added h pre post locals is r old first second new known kq p1 p2 p3 =
    let requires : Entities → List Fault = λ n. faults_of_each (faults_of_clause h context.Require n) pre in
    let types : List Fault = faults_of_types h.system h.formals locals in
    let body : Entities → List Fault = λ n. faults_of_instrs h (n ++ locals_known h.system h.formals locals) is in
    let ensures : Entities → List Fault = λ n. faults_of_each (faults_of_clause h context.Ensure n) post in
    named_if_ok r old new (requires known ++ ((types ++ body known) ++ ensures known)) (faults_of_text h pre locals is post)
    (ap (λ fs. requires known ++ fs) (append_assoc types (body known) (ensures known))
    ∙ ap (λ n. requires n ++ (types ++ (body n ++ ensures n))) kq)
    (both_if_ok r old first new (requires known) ((types ++ body known) ++ ensures known) p1
    (both_if_ok r first second new (types ++ body known) (ensures known) p2 p3))

module _ (s : System) (pure : RoutineName → Bool) (k : ℕ) (r : Routine) (h : RoutineContext) (formals : List Declaration) (q : formals ≡ r.formals.items)
    (hq : h ≡ routine_context s pure k (map declaration_of formals) (type_if_any r.result_type)) where
  abbrev types_of : List Declaration → List Fault
  types_of ds = faults_of_types s (map declaration_of ds) (map declaration_of ds)

  abbrev text_of : RoutineContext → List Fault
  text_of h =
      faults_of_text h (map clause_of r.precondition.items) (map declaration_of r.locals.items) (instrs_of r.body.items)
      (map clause_of r.postcondition.items)

  abbrev result : List Fault
  result = faults_of_type_if_any s [] (type_if_any r.result_type)

  all_named : types_of formals ++ (result ++ text_of h) ≡ faults_of_kind s pure k (plain.Routine (routine_of r))
  all_named =
      ap (λ h. types_of formals ++ (result ++ text_of h)) hq
      ∙ ap (λ (ds : List Declaration). types_of ds ++ (result ++ text_of (routine_context s pure k (map declaration_of ds) (type_if_any r.result_type)))) q

  pub routine_added : (o : Result Unit AllocError) (old mid later new : List Fault) → mid ≡ old ++ types_of formals → later ≡ mid ++ result →
      OnOk o (new ≡ later ++ text_of h) → OnOk o (new ≡ old ++ faults_of_kind s pure k (plain.Routine (routine_of r)))
  routine_added o old mid later new p1 p2 p3 =
      named_if_ok o old new (types_of formals ++ (result ++ text_of h)) (faults_of_kind s pure k (plain.Routine (routine_of r))) all_named
      (both_if_ok o old mid new (types_of formals) (result ++ text_of h) p1 (both_if_ok o mid later new result (text_of h) p2 p3))

module _ (s : System) (pure : RoutineName → Bool) (k : ℕ) (x : FeatureKind) (r : Result Unit AllocError) (old new : List Fault) where
  pub attribute_added : (d : DeclaredType) → x ≡ kind.Attribute d → OnOk r (new ≡ old ++ faults_of_type s [] (type_of d)) →
      OnOk r (new ≡ old ++ faults_of_kind s pure k (kind_of x))
  unfolding kind_of
  attribute_added d q p =
      named_if_ok r old new (faults_of_type s [] (type_of d)) (faults_of_kind s pure k (kind_of x))
      (sym (ap (λ (x : FeatureKind). faults_of_kind s pure k (kind_of x)) q)) p

  pub of_routine_added : (d : Routine) → x ≡ kind.Routine d → OnOk r (new ≡ old ++ faults_of_kind s pure k (plain.Routine (routine_of d))) →
      OnOk r (new ≡ old ++ faults_of_kind s pure k (kind_of x))
  unfolding kind_of
  of_routine_added d q p =
      named_if_ok r old new (faults_of_kind s pure k (plain.Routine (routine_of d))) (faults_of_kind s pure k (kind_of x))
      (sym (ap (λ (x : FeatureKind). faults_of_kind s pure k (kind_of x)) q)) p

-- ---- classes

module _ (s : System) (pure : RoutineName → Bool) (k : ℕ) where
  pub features_next : (xs : List Feature) (i : ℕ) (x : Feature) (total now new : List Fault) → i < length xs → x ≡ get_or xs i x →
      total ≡ now ++ faults_of_features s pure k (map feature_of (drop i xs)) → new ≡ now ++ faults_of_kind s pure k (kind_of x.kind) →
      total ≡ new ++ faults_of_features s pure k (map feature_of (drop (i + 1) xs))
  unfolding feature_of
  features_next xs i x total now new l g inv q =
      next total now new (faults_of_kind s pure k (kind_of x.kind)) (faults_of_features s pure k (map feature_of (drop i xs)))
      (faults_of_features s pure k (map feature_of (drop (i + 1) xs)))
      (ap (λ (ys : List Feature). faults_of_features s pure k (map feature_of ys)) (at xs i x l g)) inv q

  pub features_end : (xs : List Feature) (i : ℕ) (total now : List Fault) → length xs ≤ i →
      total ≡ now ++ faults_of_features s pure k (map feature_of (drop i xs)) → now ≡ total
  features_end xs i total now l inv =
      end total now (faults_of_features s pure k (map feature_of (drop i xs)))
      (ap (λ (ys : List Feature). faults_of_features s pure k (map feature_of ys)) (drop_end xs i l)) inv

  pub class_added : (c : Class) (names : List Name) (features : List Feature) (clauses : List Clause) (r : Result Unit AllocError)
      (old first second new : List Fault) → names ≡ c.creators.items → features ≡ c.features.items → clauses ≡ c.invariant.items →
      first ≡ old ++ faults_of_each (faults_of_creator s k) (map name_of names) →
      second ≡ first ++ faults_of_features s pure k (map feature_of features) →
      OnOk r (new ≡ second ++ faults_of_each (faults_of_invariant s pure k) (map clause_of clauses)) →
      OnOk r (new ≡ old ++ faults_of_class s pure k (class_of c))
  unfolding class_of
  class_added c names features clauses r old first second new nq fq cq p1 p2 p3 =
      let creators : List Name → List Fault = λ names. faults_of_each (faults_of_creator s k) (map name_of names) in
      let listed : List Feature → List Fault = λ fs. faults_of_features s pure k (map feature_of fs) in
      let invariant : List Clause → List Fault = λ cs. faults_of_each (faults_of_invariant s pure k) (map clause_of cs) in
      named_if_ok r old new (creators names ++ (listed features ++ invariant clauses)) (faults_of_class s pure k (class_of c))
      (ap (λ (names : List Name). creators names ++ (listed features ++ invariant clauses)) nq
      ∙ ap (λ (fs : List Feature). creators c.creators.items ++ (listed fs ++ invariant clauses)) fq
      ∙ ap (λ (cs : List Clause). creators c.creators.items ++ (listed c.features.items ++ invariant cs)) cq)
      (both_if_ok r old first new (creators names) (listed features ++ invariant clauses) p1
      (both_if_ok r first second new (listed features) (invariant clauses) p2 p3))

pub classes_next : (s : System) (pure : RoutineName → Bool) (xs : List Class) (i : ℕ) (x : Class) (total now new : List Fault) → i < length xs →
    x ≡ get_or xs i x → total ≡ now ++ faults_of_classes s pure i (map class_of (drop i xs)) → new ≡ now ++ faults_of_class s pure i (class_of x) →
    total ≡ new ++ faults_of_classes s pure (i + 1) (map class_of (drop (i + 1) xs))
classes_next s pure xs i x total now new l g inv q =
    next total now new (faults_of_class s pure i (class_of x)) (faults_of_classes s pure i (map class_of (drop i xs)))
    (faults_of_classes s pure (i + 1) (map class_of (drop (i + 1) xs)))
    (ap (λ (ys : List Class). faults_of_classes s pure i (map class_of ys)) (at xs i x l g)) inv q

pub classes_end : (s : System) (pure : RoutineName → Bool) (xs : List Class) (i : ℕ) (total now : List Fault) → length xs ≤ i →
    total ≡ now ++ faults_of_classes s pure i (map class_of (drop i xs)) → now ≡ total
classes_end s pure xs i total now l inv =
    end total now (faults_of_classes s pure i (map class_of (drop i xs)))
    (ap (λ (ys : List Class). faults_of_classes s pure i (map class_of ys)) (drop_end xs i l)) inv
