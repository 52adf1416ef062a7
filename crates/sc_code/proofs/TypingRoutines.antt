-- The routines that a well-formed system may run have their types in flat code.
use Rattle.std.proofs.Common.{◌≡◌, ℕ, zero, suc, ◌+◌, Bool, true, false, List, [], ◌∷◌, ◌++◌, Option, Some, None, refl, sym, ap, ◌∙◌, subst, arith}
use Rattle.std.specs.Prelude.{Contains, ◌&&◌, is_some, slice_get}
use Rattle.std.specs.Option.{option_map, option_and_then}
use Rattle.std.specs.List.{list_all, cons_option}
use Rattle.sc_tree.specs.Plain as tree
use Rattle.sc_tree.specs.Plain.{System, Declaration, DeclaredType, FeatureKind, RoutineDeclaration, Clause, Expr}
use Rattle.sc_class.specs.declared.identity.ClassId.TheVariants as class
use Rattle.sc_class.specs.ClassNames.{Root}
use Rattle.sc_class.specs.Faults.ClassRules.{IsFaultless}
use Rattle.sc_class.specs.Tables.Features.{DeclaredFeature, feature_named}
use Rattle.sc_class.specs.Tables.Heirs.{HasOrigin}
use Rattle.sc_class.proofs.Items.{some_is}
use Rattle.sc_rules.specs.declared.entity_types.entity_type.EntityType.{EntityType}
use Rattle.sc_rules.specs.declared.position.Context.{Context}
use Rattle.sc_rules.specs.declared.position.Context.TheVariants as context
use Rattle.sc_rules.specs.declared.position.Position.TheVariants as spot
use Rattle.sc_rules.specs.declared.position.Role.TheVariants as role
use Rattle.sc_rules.specs.Types.{declared_type}
use Rattle.sc_rules.specs.Names.{RoutineName, RoutineContext, context_of, Entity, Entities, entity, formal_entities, formals_known, locals_known, known_in_body}
use Rattle.sc_rules.specs.Typing.{typing, HasType}
use Rattle.sc_rules.specs.Sites.{expression, instructions}
use Rattle.sc_rules.specs.Purity.{IsPurity}
use Rattle.sc_rules.specs.SystemRules.{WellFormed}
use Rattle.sc_rules.specs.SystemLaws.{Stands}
use Rattle.sc_rules.specs.Laws.{AllDeclared, HasResult, are_typed}
use Rattle.sc_rules.specs.Versions.{ResultConforms, Keeps, keeps, TextStands, texts}
use Rattle.sc_rules.proofs.TypeLaws.{declared}
use Rattle.sc_rules.proofs.Typings.{all_append}
use Rattle.sc_rules.proofs.EachTyped.{stands_typed, each_is_typed_lem}
use Rattle.sc_rules.proofs.Versions.{declared_types_stand, contracts_are_kept}
use Rattle.sc_rules.proofs.TextsStand.{texts_stand}
use Rattle.sc_rules.proofs.PurityStands.{purity_stands}
use Rattle.sc_model.specs.Values.{default_of}
use Rattle.sc_model.specs.Environments.{bind, scope_of, locals_bound}
use Rattle.sc_model.specs.Routines.{Routine, text_of, routine_with, routine_from, origin_of, routine_of, version_of}
use Rattle.sc_model.specs.Olds.{olds_of, olds_in, olds_of_clauses}
use Rattle.sc_code.specs.Places.{Setting, known_type, with_type, with_old, old_types}
use Rattle.sc_code.specs.Emitted.{setting, olds_of_routine}
use Rattle.sc_code.specs.Typed as typed
use Rattle.sc_code.specs.Typed.{AreClauses, AreOlds, AreEnsured}
use Rattle.sc_code.specs.Lowered.{IsTypedRoutine, RoutinesAreTyped, RoutinesStand, RoutinesFollow, run_of}
use Rattle.sc_code.proofs.Codes.{type_is}
use Rattle.sc_code.proofs.Beginning.{lowered_stands}
use Rattle.sc_code.proofs.Steps.{moves_follow}
use Rattle.sc_code.proofs.TypedOperands.{Each, each_both, OldTyped, SomeType, OldsKept, ResultKept, olds_typed, kept_left, kept_right}
use Rattle.sc_code.proofs.TypingExpressions.{expression_typed, without_olds}
use Rattle.sc_code.proofs.LyingTypes.{is_somewhere, somewhere, lies_if_local, lies_somewhere, locals_lie, first_of, later_of}
use Rattle.sc_code.proofs.TypingInstructions.{instructions_typed}
use Rattle.sc_code.proofs.TypingOrigins.{origin_is}

both : (a b : Bool) → (a && b) ≡ true → (a ≡ true) × (b ≡ true)
both true b e = (refl, e)
both false b e = cc

halves : {A : Type 0} (q : A → Bool) (xs ys : List A) → list_all q (xs ++ ys) ≡ true → (list_all q xs ≡ true) × (list_all q ys ≡ true)
halves q [] ys e = (refl, e)
halves q (x ∷ xs) ys e =
    let parts = both (q x) (list_all q (xs ++ ys)) e in
    let rest = halves q xs ys parts.1 in
    (ap (λ b. b && list_all q xs) parts.0 ∙ rest.0, rest.1)

-- ---- names

locals_are : (s : System) (formals ls : List Declaration) → are_typed (locals_known s formals ls) ≡ true →
    scope_of (locals_bound s formals ls) ≡ locals_known s formals ls
locals_are s formals [] e = refl
locals_are s formals (d ∷ ls) e = by (declared_type s formals d.declared_type) e (locals_are s formals ls)
  where
    by : (o : Option EntityType) → (is_some o && are_typed (locals_known s formals ls)) ≡ true →
        (are_typed (locals_known s formals ls) ≡ true → scope_of (locals_bound s formals ls) ≡ locals_known s formals ls) →
        scope_of (cons_option (option_map (λ (t : EntityType). bind d.name.text t role.Local (default_of t.class)) o) (locals_bound s formals ls))
        ≡ entity d.name.text o role.Local ∷ locals_known s formals ls
    by None e f = cc
    by (Some t) e f = ap (λ n. entity d.name.text (Some t) role.Local ∷ n) (f e)

formals_lie : (s : System) (all : List Declaration) (i : ℕ) (ds : List Declaration) → locals_lie (formal_entities s all i ds) ≡ true
formals_lie s all i [] = refl
formals_lie s all i (d ∷ ds) = formals_lie s all (i + 1) ds

own_locals_lie : (s : System) (formals ls : List Declaration) → locals_lie (locals_known s formals ls) ≡ true
own_locals_lie s formals [] = refl
own_locals_lie s formals (d ∷ ls) = by (declared_type s formals d.declared_type) refl (own_locals_lie s formals ls)
  where
    by : (o : Option EntityType) → declared_type s formals d.declared_type ≡ o → locals_lie (locals_known s formals ls) ≡ true →
        (lies_somewhere o && locals_lie (locals_known s formals ls)) ≡ true
    by None e f = f
    by (Some t) e f =
        let here = somewhere t.tag (declared_types_stand s formals d.declared_type t e).1 in
        ap (λ b. b && locals_lie (locals_known s formals ls)) here ∙ f

-- ---- results

result_there : (s : System) (d : DeclaredType) (g : EntityType) (t : Option EntityType) → declared_type s [] d ≡ Some g →
    Some (declared_type s [] d) ≡ Some t → is_some t ≡ true
result_there s d g t i e = ap is_some (sym (some_is (declared_type s [] d) t e) ∙ i)

own_has : (s : System) (d e : Option DeclaredType) → ResultConforms s d e → (t : Option EntityType) → option_map (declared_type s []) d ≡ Some t →
    is_some t ≡ true
own_has s None None r t i = cc
own_has s None (Some e) r t i = absurd r
own_has s (Some d) None r t i = absurd r
own_has s (Some d) (Some e) r t i = result_there s d r.0 t r.2 i

original_has : (s : System) (d e : Option DeclaredType) → ResultConforms s d e → (t : Option EntityType) →
    option_map (declared_type s []) e ≡ Some t → is_some t ≡ true
original_has s None None r t i = cc
original_has s None (Some e) r t i = absurd r
original_has s (Some d) None r t i = absurd r
original_has s (Some d) (Some e) r t i = result_there s e r.1 t r.3 i

result_kept : (s : System) (d e : Option DeclaredType) → ResultConforms s d e → (t : Option EntityType) → option_map (declared_type s []) e ≡ Some t →
    (u : EntityType) × (known_type (option_map (declared_type s []) d) ≡ Some u)
result_kept s None None r t i = cc
result_kept s None (Some e) r t i = absurd r
result_kept s (Some d) None r t i = absurd r
result_kept s (Some d) (Some e) r t i = (r.0, r.2)

result_lies : (s : System) (d : Option DeclaredType) (t : EntityType) → option_map (declared_type s []) d ≡ Some (Some t) → is_somewhere t.tag ≡ true
result_lies s None t i = cc
result_lies s (Some d) t i = somewhere t.tag (declared_types_stand s [] d t (some_is (declared_type s [] d) (Some t) i)).1

-- ---- a routine with the contract that it keeps

abbrev made : System → List ℕ → ℕ → RoutineDeclaration → ℕ → RoutineDeclaration → Routine
made s x k own k' original = record {
  name = x;
  text = text_of s k own.formals own.result_type;
  locals = own.locals;
  body = own.body;
  contract = text_of s k' original.formals original.result_type;
  require = original.precondition;
  ensure = original.postcondition;
}

module _ (s : System) (pure : RoutineName → Bool) (well : WellFormed s) (tells : IsPurity s pure)
    (x : List ℕ) (k : ℕ) (own : RoutineDeclaration) (k' : ℕ) (original : RoutineDeclaration)
    (results : ResultConforms s own.result_type original.result_type)
    (same : formals_known s own.formals ≡ formals_known s original.formals)
    (body : Stands s pure (context_of s pure k own) (instructions (known_in_body s own) own.body)) where
  all : AllDeclared s
  all = declared s pure tells well

  abbrev judge : RoutineContext
  judge = context_of s pure k' original

  abbrev names : Entities
  names = formals_known s own.formals

  -- the contract where these `old`s are kept
  abbrev place : List EntityType → Setting
  place o = setting s (made s x k own k' original) (text_of s k' original.formals original.result_type) o

  known : are_typed (known_in_body s own) ≡ true
  known = (stands_typed well tells body).1

  formals_typed : are_typed names ≡ true
  formals_typed = (halves (λ (e : Entity). is_some e.type) names (locals_known s own.formals own.locals) known).0

  has : HasResult judge
  has = original_has s own.result_type original.result_type results

  kept : (o : List EntityType) → ResultKept (place o)
  kept o = result_kept s own.result_type original.result_type results

  abbrev ClausesTyped : Context → List Clause → Type 0
  ClausesTyped c qs = (q : Clause) → Contains qs q → SomeType judge c spot.Plain names q.condition

  clause_typed : (c : Context) (q : Clause) → Stands s pure judge (expression c spot.Plain (formals_known s original.formals) q.condition) →
      SomeType judge c spot.Plain names q.condition
  clause_typed c q v =
      let type = each_is_typed_lem s pure well tells judge c spot.Plain (formals_known s original.formals) q.condition v in
      subst (λ n. SomeType judge c spot.Plain n q.condition) (sym same) type

  requires_typed : (qs : List Clause) → ClausesTyped context.Require qs → AreClauses (place []) names qs
  requires_typed [] v = typed.no_clause
  requires_typed (q ∷ qs) v =
      let type = v q (first_of q qs) in
      typed.more_clauses (without_olds (place []) pure all has (kept []) type.2 refl refl formals_typed 0).2
      (requires_typed qs (λ r a. v r (later_of q qs r a)))

  -- ---- `old`s

  -- the type of the operand of `old` at this number
  abbrev TypedAt : List EntityType → Expr → ℕ → Type 0
  TypedAt us a j = (t : EntityType) × (b : Bool) × (slice_get us j ≡ Some t) × HasType judge context.Old spot.Plain names a (typing (Some t) b)

  typed_at : (e : Expr) (es : List Expr) (u : EntityType) (us : List EntityType) (b : Bool) →
      HasType judge context.Old spot.Plain names e (typing (Some u) b) →
      ((j : ℕ) (a : Expr) → slice_get es j ≡ Some a → TypedAt us a j) → (j : ℕ) (a : Expr) → slice_get (e ∷ es) j ≡ Some a → TypedAt (u ∷ us) a j
  typed_at e es u us b d f zero a i = subst (λ a. TypedAt (u ∷ us) a 0) (some_is e a i) (u, b, refl, d)
  typed_at e es u us b d f (suc j) a i = f j a i

  record Olds (o : List EntityType) (es : List Expr) : Type 0 where
    are_typed : AreOlds (place o) names es (old_types (place o) names es)
    each : (j : ℕ) (a : Expr) → slice_get es j ≡ Some a → TypedAt (old_types (place o) names es) a j

  olds : (es : List Expr) (o : List EntityType) → Each (OldTyped judge names) es → Olds o es
  olds [] o f = record { are_typed = typed.no_old; each = λ j a e. cc }
  olds (e ∷ es) o f =
      let here = f 0 e refl in
      let is = without_olds (place o) pure all has (kept o) here.2 refl refl formals_typed 0 in
      let u = is.0 in
      let rest = olds es (o ++ u ∷ []) (λ j. f (suc j)) in
      let us = old_types (place (o ++ u ∷ [])) names es in
      let types : old_types (place o) names (e ∷ es) ≡ u ∷ us =
      ap (λ w. with_type w (old_types (with_old (place o) w) names es)) (type_is (place o) names 0 e u is.2) in
      let type = subst (λ o. HasType judge context.Old spot.Plain names e (typing o here.1)) is.1 here.2 in
      record {
        are_typed = subst (AreOlds (place o) names (e ∷ es)) (sym types) (typed.more_olds is.2 rest.are_typed);
        each = subst (λ us. (j : ℕ) (a : Expr) → slice_get (e ∷ es) j ≡ Some a → TypedAt us a j) (sym types)
            (typed_at e es u us here.1 type rest.each);
      }

  clauses_olds : (qs : List Clause) → ClausesTyped context.Ensure qs → Each (OldTyped judge names) (olds_of_clauses qs)
  clauses_olds [] v j a e = cc
  clauses_olds (q ∷ qs) v j a e =
      each_both (OldTyped judge names) (olds_of q.condition) (olds_of_clauses qs) (olds_typed all has formals_typed (v q (first_of q qs)).2 refl)
      (clauses_olds qs (λ r a. v r (later_of q qs r a))) j a e

  ensures_typed : (o : List EntityType) (i : ℕ) (qs : List Clause) → ClausesTyped context.Ensure qs →
      OldsKept pure (place o) names i (olds_of_clauses qs) →
      AreEnsured (place o) names i qs
  ensures_typed o i [] v f = typed.no_ensured
  ensures_typed o i (q ∷ qs) v f =
      let type = v q (first_of q qs) in
      typed.more_ensured
      (expression_typed (place o) pure all has (kept o) type.2 refl formals_typed i
      (λ z. kept_left pure (place o) names i (olds_of q.condition) (olds_of_clauses qs) f)).2
      (ensures_typed o (i + olds_in q.condition) qs (λ r a. v r (later_of q qs r a))
      (kept_right pure (place o) names i (olds_of q.condition) (olds_of_clauses qs) f))

  routine_typed : ClausesTyped context.Require original.precondition → ClausesTyped context.Ensure original.postcondition →
      IsTypedRoutine s (made s x k own k' original)
  routine_typed requires ensures =
      let r = made s x k own k' original in
      let kept_olds = olds (olds_of_clauses original.postcondition) [] (clauses_olds original.postcondition ensures) in
      let os = olds_of_routine s r in
      let bs = locals_are s own.formals own.locals (halves (λ (e : Entity). is_some e.type) names (locals_known s own.formals own.locals) known).1 in
      let lie = all_append lies_if_local names (locals_known s own.formals own.locals) (formals_lie s own.formals 0 own.formals)
      (own_locals_lie s own.formals own.locals) in
      let has_own = own_has s own.result_type original.result_type results in
      let inner = instructions_typed (setting s r r.text os) pure well tells has_own refl (result_lies s own.result_type)
      (known_in_body s own) own.body lie body in
      record {
        precondition = requires_typed original.precondition requires;
        olds = kept_olds.are_typed;
        body = subst (λ n. typed.AreInstrs (setting s r r.text os) (names ++ n) own.body) (sym bs) inner;
        postcondition = ensures_typed os 0 original.postcondition ensures
            (λ j a e. let number : 0 + j ≡ j = omega arith in subst (TypedAt os a) (sym number) (kept_olds.each j a e));
      }

-- ---- systems

module _ (s : System) (root : Root) (pure : RoutineName → Bool) (faultless : IsFaultless s root) (well : WellFormed s) (tells : IsPurity s pure)
    (r : Routine) where
  by_texts : (x : List ℕ) (j k : ℕ) (m o : FeatureKind) → Keeps s m o → TextStands s pure j m → TextStands s pure k o →
      routine_with s x j m k o ≡ Some r → IsTypedRoutine s r
  by_texts x j k _ _ (keeps {version = own} {routine = original} a same results) (texts body before after) (texts other requires ensures) e =
      subst (IsTypedRoutine s) (some_is (made s x j own k original) r e)
      (routine_typed s pure well tells x j own k original results same body
      (λ q i. clause_typed s pure well tells x j own k original results same body context.Require q (requires q i))
      (λ q i. clause_typed s pure well tells x j own k original results same body context.Ensure q (ensures q i)))

  of_feature : (k : ℕ) (x : List ℕ) (f : DeclaredFeature) → feature_named s (class.Declared k) x ≡ Some f → routine_of s f ≡ Some r →
      IsTypedRoutine s r
  of_feature k x f e i = by_kind f.feature.kind refl
    where
      by_origin : (h : HasOrigin s k x f) → Keeps s f.feature.kind h.origin.feature.kind → IsTypedRoutine s r
      by_origin h keep =
          by_texts f.feature.name.text f.class h.origin.class f.feature.kind h.origin.feature.kind keep (texts_stand s pure k x f e)
          (texts_stand s pure h.origin.class x h.origin h.is_feature_there)
          (sym (ap (routine_from s f) (origin_is s root faultless f ∙ h.is_origin)) ∙ i)

      none_made : (d : DeclaredType) (o : Option DeclaredFeature) → f.feature.kind ≡ tree.Attribute d → routine_from s f o ≡ Some r → ⊥
      none_made d None is i = cc
      none_made d (Some o) is i =
          let no : None ≡ Some r = sym (ap (λ m. routine_with s f.feature.name.text f.class m o.class o.feature.kind) is) ∙ i in cc

      by_kind : (m : FeatureKind) → f.feature.kind ≡ m → IsTypedRoutine s r
      by_kind (tree.Attribute d) is = absurd (none_made d (origin_of s f) is i)
      by_kind (tree.Routine own) is =
          let kept = contracts_are_kept s root faultless (declared s pure tells well) k x f e own is in
          by_origin kept.0 kept.1

pub routines_are_typed : RoutinesAreTyped
routines_are_typed s root faultless well k x r i = by (version_of s k x) refl i
  where
    by : (o : Option DeclaredFeature) → version_of s k x ≡ o → option_and_then (routine_of s) o ≡ Some r → IsTypedRoutine s r
    by None e i = cc
    by (Some f) e i =
        let purity = purity_stands s in
        of_feature s root purity.0 faultless well purity.1 r k x f e i

pub routines_stand : RoutinesStand
routines_stand s root faultless well k x r i p tail b = lowered_stands s r p tail (routines_are_typed s root faultless well k x r i) b

pub routines_follow : RoutinesFollow
routines_follow s root faultless well k x r i me p tail b =
    moves_follow (run_of s r) me 0 tail p (routines_stand s root faultless well k x r i p tail b)
