-- A function that contracts may call begins with what contracts may call.
use Rattle.std.proofs.lemmas.Bool.{ltb-true}
use Rattle.std.proofs.Common.{ℕ, zero, suc, ◌≡◌, ◌&&◌, ◌+◌, not, Bool, true, false, List, [], ◌∷◌, ◌++◌, Option, Some, None, refl, sym, ap, subst, ◌∙◌, inr, append_assoc, arith}
use Rattle.std.specs.Prelude.{is_some, length, nat_lt, slice_get, Contains}
use Rattle.std.specs.List.{list_all}
use Rattle.std.specs.Option.{option_and_then}
use Rattle.sc_text.proofs.Classes.{and_true}
use Rattle.sc_tree.specs.declared.expression.UnaryOperator.TheVariants as unary
use Rattle.sc_tree.specs.declared.expression.BinaryOperator.{BinaryOperator}
use Rattle.sc_tree.specs.Plain as tree
use Rattle.sc_tree.specs.Plain.{System, Clause, Declaration, DeclaredType, Expr, Exprs, FeatureKind, HandlerTag, HandlerOf, Own, RoutineDeclaration, Separate}
use Rattle.sc_class.specs.ClassNames.{Root}
use Rattle.sc_class.specs.Faults.ClassRules.{IsFaultless}
use Rattle.sc_class.specs.Faults.Redefinition.{is_same_formal, is_same_formals}
use Rattle.sc_class.specs.declared.identity.ClassId.TheVariants as class
use Rattle.sc_class.specs.Tables.Conformance.{is_same_mark, is_same_tag, is_same_type}
use Rattle.sc_class.specs.Tables.Features.{DeclaredFeature, declared_features, named_among}
use Rattle.sc_class.specs.Tables.Heirs.{HasOrigin, StandsInText}
use Rattle.sc_class.proofs.Declarers.{found_stands}
use Rattle.sc_rules.specs.declared.entity_types.entity_type.EntityType.{EntityType}
use Rattle.sc_rules.specs.declared.entity_types.tag.Reserved.TheVariants.{BlockName, Formal}
use Rattle.sc_rules.specs.declared.entity_types.tag.Tag.{Tag}
use Rattle.sc_rules.specs.declared.entity_types.tag.Tag.TheVariants as tag
use Rattle.sc_rules.specs.declared.position.Context.{Context}
use Rattle.sc_rules.specs.declared.position.Context.TheVariants as context
use Rattle.sc_rules.specs.declared.position.Position.{Position}
use Rattle.sc_rules.specs.declared.position.Position.TheVariants.{Condition, Plain, Source}
use Rattle.sc_rules.specs.Laws.{AllDeclared, are_declared, are_typed, is_declared, is_result_declared}
use Rattle.sc_rules.specs.Names.{Entities, RoutineName, blocks, context_of, formal_entities, formals_known, known_in_body, locals_known}
use Rattle.sc_rules.specs.Names as rules
use Rattle.sc_rules.specs.Positions.{is_condition, shares_names, wants_pure}
use Rattle.sc_rules.specs.Purity.{IsClosed, IsPurity, is_pure_candidate, is_pure_candidate_if_any, no_candidate, reserves}
use Rattle.sc_rules.specs.Purity as purity
use Rattle.sc_rules.specs.PurityLaws as pure_laws
use Rattle.sc_rules.specs.ScopeLaws.{is_nameable_if_any, names_known}
use Rattle.sc_rules.specs.Sites as site
use Rattle.sc_rules.specs.Sites.{IsActual, Site, Within, expression, first_actual, instructions, later_actual}
use Rattle.sc_rules.specs.SystemLaws as laws
use Rattle.sc_rules.specs.SystemLaws.{Stands, stands_in}
use Rattle.sc_rules.specs.SystemRules.{WellFormed}
use Rattle.sc_rules.specs.Types.{is_controlled, is_controlled_tag, is_foreign, is_nameable, is_own, is_separate}
use Rattle.sc_rules.specs.Typing as typing
use Rattle.sc_rules.specs.Typing.{HasType, HasTypes, Typing, typing}
use Rattle.sc_rules.specs.Versions.{Keeps, TextStands, keeps, texts}
use Rattle.sc_rules.proofs.EachTyped.{each_is_typed_lem}
use Rattle.sc_rules.proofs.OldOperands.{below_is_old, below_wants_pure, operand_of_old}
use Rattle.sc_rules.proofs.PureBodies.{pure_bodies_call_pure, pure_bodies_have_no_effect}
use Rattle.sc_rules.proofs.PurityLaws.{pure_is_closed}
use Rattle.sc_rules.proofs.ScopedSites.{tags_name_known}
use Rattle.sc_rules.proofs.TextsStand.{texts_stand}
use Rattle.sc_rules.proofs.TypeLaws.{declared, names_typed}
use Rattle.sc_rules.proofs.Typings.{named_declared}
use Rattle.sc_rules.proofs.Versions.{contracts_are_kept}
use Rattle.sc_rules.proofs.WellFormed.{further}
use Rattle.sc_model.specs.Environments.{is_formal}
use Rattle.sc_model.specs.Olds.{olds_in, olds_of, olds_of_clauses, olds_of_each}
use Rattle.sc_model.specs.Routines.{Routine, Text, origin_of, routine_from, routine_named, routine_of, routine_with, text_of, version_of}
use Rattle.sc_model.specs.Tasks.{Task, Declare, Do, Forget, In, ensures, keeps_olds, requires, tasks_of}
use Rattle.sc_model.specs.Values.{Reference}
use Rattle.sc_machine_laws.specs.states.Points.{Each}
use Rattle.sc_machine_laws.specs.states.Typed.{context_in}
use Rattle.sc_machine_laws.proofs.states.Applications.{plain_operand}
use Rattle.sc_machine_laws.proofs.states.Lists.{both, each_append}
use Rattle.sc_machine_laws.proofs.states.Origins.{origin_is}
use Rattle.sc_machine_laws.proofs.states.Routines.{is_run}
use Rattle.sc_machine_laws.proofs.states.RoutinePoints.{IsRun}
use Rattle.sc_machine_laws.proofs.states.MachineFrames.{contains_first, contains_later}
use Rattle.sc_machine_laws.specs.settlements.Calm.{InBody, IsCalm, in_contract, InPure, PureBeginPure, PureCallPure, name_of}
use Rattle.sc_machine_laws.specs.settlements.Calm as calm
use Rattle.sc_machine_laws.proofs.settlements.PureRuns.{PureRun, has_type, part_calm}
use Rattle.sc_machine_laws.proofs.settlements.Clausal.{pure_versions, same_kind}
use Rattle.sc_machine_laws.proofs.settlements.PurePoints.{pure_moves}

no : {A : Type 0} → false ≡ true → A
no e = cc

-- ---- no formal is another handler's

same_bits : (a b c d : Bool) → (a && b && c) ≡ true → (b ≡ true) × (c ≡ true)
same_bits true true true d e = (refl, refl)
same_bits true true false d e = no e
same_bits true false c d e = no e
same_bits false b c d e = no e

unnamed_mark : (m n : Bool) (g h : HandlerTag) → (not n && is_separate h) ≡ true → is_same_mark m n ≡ true → is_same_tag g h ≡ true → (not m && not (is_own g)) ≡ true
unnamed_mark m true g h e i j = no e
unnamed_mark true false g h e i j = no i
unnamed_mark false false g Own e i j = no e
unnamed_mark false false g (HandlerOf x) e i j = no e
unnamed_mark false false Own Separate e i j = no j
unnamed_mark false false Separate Separate e i j = refl
unnamed_mark false false (HandlerOf x) Separate e i j = no j

unnamed : (d e : Declaration) → is_same_formal d e ≡ true → not (reserves d) ≡ true → is_nameable e ≡ false
unnamed d e same none = by (is_nameable e) refl
  where
    types : is_same_type d.declared_type e.declared_type ≡ true
    types = (and_true _ (is_same_type d.declared_type e.declared_type) same).1

    by : (b : Bool) → is_nameable e ≡ b → is_nameable e ≡ false
    by false i = i
    by true i =
        let bits = same_bits _ (is_same_mark d.declared_type.is_detachable e.declared_type.is_detachable) (is_same_tag d.declared_type.tag e.declared_type.tag) true types in
        let r : reserves d ≡ true = unnamed_mark d.declared_type.is_detachable e.declared_type.is_detachable d.declared_type.tag e.declared_type.tag i bits.0 bits.1 in
        no (sym (ap not r) ∙ none)

-- where the formals are the same as these, none of which is reserved, a tag may name none of them
none_named : (ds es : List Declaration) → is_same_formals ds es ≡ true → list_all (λ (d : Declaration). not (reserves d)) ds ≡ true → (i : ℕ) → is_nameable_if_any (slice_get es i) ≡ false
none_named [] [] e f i = refl
none_named [] (c ∷ es) e f i = no e
none_named (d ∷ ds) [] e f i = no e
none_named (d ∷ ds) (c ∷ es) e f zero = unnamed d c (and_true (is_same_formal d c) (is_same_formals ds es) e).0 (and_true (not (reserves d)) (list_all (λ (d : Declaration). not (reserves d)) ds) f).0
none_named (d ∷ ds) (c ∷ es) e f (suc i) =
    none_named ds es (and_true (is_same_formal d c) (is_same_formals ds es) e).1 (and_true (not (reserves d)) (list_all (λ (d : Declaration). not (reserves d)) ds) f).1 i

-- ---- names

no_blocks : (s : System) (all : List Declaration) (i : ℕ) (ds : List Declaration) → blocks (formal_entities s all i ds) ≡ 0
no_blocks s all i [] = refl
no_blocks s all i (d ∷ ds) = no_blocks s all (i + 1) ds

formals_length : (s : System) (all : List Declaration) (i : ℕ) (ds : List Declaration) → length ds ≡ length (formal_entities s all i ds)
formals_length s all i [] = refl
formals_length s all i (d ∷ ds) = ap suc (formals_length s all (i + 1) ds)

no_formals_known : (s : System) (formals ds : List Declaration) → list_all (λ (e : rules.Entity). not (is_formal e.role)) (locals_known s formals ds) ≡ true
no_formals_known s formals [] = refl
no_formals_known s formals (d ∷ ds) = no_formals_known s formals ds

within_stands : {s : System} {pure : RoutineName → Bool} {h : rules.RoutineContext} {a b : Site} → Stands s pure h a → Within h a b → Stands s pure h b
within_stands (stands_in i w) v = stands_in i (further w v)

-- ---- what is left to do of a routine that begins

module _ (s : System) (pure : RoutineName → Bool) (r : Routine) (me : Reference) (z : PureRun s pure r me) (n : Entities) (typed_n : are_typed n ≡ true) where
  -- what a contract evaluates
  abbrev Evaluated : Context → Expr → Type 0
  Evaluated c e = IsCalm s pure r r.contract c Plain n e × ((a : EntityType) × (b : Bool) × HasType (context_in s pure r.contract) c Plain n e (typing (Some a) b))

  not_joined : (q : Position) (op : BinaryOperator) → is_condition q ≡ false → shares_names q op ≡ true → ⊥
  not_joined Plain op e f = no f
  not_joined Source op e f = no f
  not_joined Condition op e f = no (sym e)

  mutual
    olds_calm : {c : Context} {q : Position} {e : Expr} {y : Typing} → is_condition q ≡ false → HasType (context_in s pure r.contract) c q n e y → IsCalm s pure r r.contract c q n e →
        Each (Evaluated context.Old) (olds_of e)
    olds_calm i typing.number w = tt
    olds_calm i typing.truth w = tt
    olds_calm i (typing.void e) w = tt
    olds_calm i typing.current_object w = tt
    olds_calm i (typing.result e) w = tt
    olds_calm i (typing.call typing.implicit m v ds f p l u y x) w = each_calm ds (λ e a. part_calm s pure r me z r.contract (site.actual_part a) (λ k. k) refl w)
    olds_calm i (typing.call {a = tree.target a} {es} (typing.explicit d) m v ds f p l u y x) w =
        each_append (Evaluated context.Old) (olds_of a) (olds_of_each es) (olds_calm refl d (part_calm s pure r me z r.contract site.target_part (λ k. k) refl w))
        (each_calm ds (λ e a. part_calm s pure r me z r.contract (site.actual_part a) (λ k. k) refl w))
    olds_calm i (typing.untyped_target_call {a} {es} (typing.explicit d) e ds) w =
        each_append (Evaluated context.Old) (olds_of a) (olds_of_each es) (olds_calm refl d (part_calm s pure r me z r.contract site.target_part (λ k. k) refl w))
        (each_calm ds (λ e a. part_calm s pure r me z r.contract (site.actual_part a) (λ k. k) refl w))
    olds_calm {c} i (typing.unary {op = unary.Old} {a} {t = y} d o e) w = (by (has_type s pure r me z r.contract (inr refl) n typed_n context.Old Plain a y (operand_of_old c d o)), tt)
      where
        by : (u : EntityType) × (y.type ≡ Some u) → Evaluated context.Old a
        by (u, j) = (
          subst (λ c. IsCalm s pure r r.contract c Plain n a) (below_is_old c y o) (part_calm s pure r me z r.contract site.operand_part (λ k. below_wants_pure c) refl w),
          (u, y.is_separate, subst (λ o. HasType (context_in s pure r.contract) context.Old Plain n a (typing o y.is_separate)) j (operand_of_old c d o)),
        )
    olds_calm i (typing.unary {op = unary.Not} d o e) w = olds_calm refl d (part_calm s pure r me z r.contract site.operand_part (λ k. k) refl w)
    olds_calm i (typing.unary {op = unary.Plus} d o e) w = olds_calm refl d (part_calm s pure r me z r.contract site.operand_part (λ k. k) refl w)
    olds_calm i (typing.unary {op = unary.Minus} d o e) w = olds_calm refl d (part_calm s pure r me z r.contract site.operand_part (λ k. k) refl w)
    olds_calm i (typing.binary {op} {a} {b} j d d' e) w = each_append (Evaluated context.Old) (olds_of a) (olds_of b)
        (olds_calm (plain_operand op) d (part_calm s pure r me z r.contract (site.left_part j) (λ k. k) (plain_operand op) w))
        (olds_calm (plain_operand op) d' (part_calm s pure r me z r.contract (site.right_part j) (λ k. k) (plain_operand op) w))
    olds_calm {q} i (typing.and_then {op} j d g d' e) w = absurd (not_joined q op i j)
    olds_calm i (typing.test e d) w = no (sym i)

    each_calm : {c : Context} {es : Exprs} {ts : List Typing} → HasTypes (context_in s pure r.contract) c n es ts → ((e : Expr) → IsActual e es → IsCalm s pure r r.contract c Source n e) →
        Each (Evaluated context.Old) (olds_of_each es)
    each_calm typing.none w = tt
    each_calm (typing.more {e} {es} d ds) w =
        each_append (Evaluated context.Old) (olds_of e) (olds_of_each es) (olds_calm refl d (w e first_actual)) (each_calm ds (λ f a. w f (later_actual a)))

  clauses_calm : (ks : List Clause) → ((q : Clause) → Contains ks q → Evaluated context.Ensure q.condition) → Each (Evaluated context.Old) (olds_of_clauses ks)
  clauses_calm [] f = tt
  clauses_calm (k ∷ ks) f = each_append (Evaluated context.Old) (olds_of k.condition) (olds_of_clauses ks)
      (let c = f k (contains_first k ks) in olds_calm refl c.1.2 c.0) (clauses_calm ks (λ q i. f q (contains_later k ks q i)))

  abbrev Left : List Task → Type 0
  Left k = InPure s pure r k (calm.at r.contract n [])

  ensures_left : (i : ℕ) (ks : List Clause) → ((q : Clause) → Contains ks q → Evaluated context.Ensure q.condition) → Left (ensures i ks)
  ensures_left i [] f = calm.done
  ensures_left i (k ∷ ks) f =
      let c = f k (contains_first k ks) in
      calm.eval context.Ensure Plain refl c.0 c.1.2 (calm.ensured (ensures_left (i + olds_in k.condition) ks (λ q j. f q (contains_later k ks q j))))

  olds_left : (es : List Expr) → Each (Evaluated context.Old) es → (k : List Task) → Left k → Left (keeps_olds es ++ k)
  olds_left [] f k d = d
  olds_left (e ∷ es) f k d = calm.eval context.Old Plain refl f.0.0 f.0.1.2 (calm.keep_old (olds_left es f.1 k d))

  requires_left : (ks : List Clause) → ((q : Clause) → Contains ks q → Evaluated context.Require q.condition) → (k : List Task) → Left k → Left (requires ks ++ k)
  requires_left [] f k d = d
  requires_left (q ∷ ks) f k d = calm.require f d

module _ (s : System) (pure : RoutineName → Bool) (r : Routine) (me : Reference) (z : PureRun s pure r me) (typed_n : are_typed (formals_known s r.text.formals) ≡ true)
    (requires_stand : (q : Clause) → Contains r.require q → Evaluated s pure r me z (formals_known s r.text.formals) typed_n context.Require q.condition)
    (ensures_stand : (q : Clause) → Contains r.ensure q → Evaluated s pure r me z (formals_known s r.text.formals) typed_n context.Ensure q.condition)
    (locals_are : are_declared s r.text.formals r.locals ≡ true) where
  body_left : InPure s pure r (In r.text ∷ Declare r.locals ∷ Do r.body ∷ Forget (length r.text.formals) ∷ In r.contract ∷ ensures 0 r.ensure)
      (calm.at r.contract (formals_known s r.text.formals) [])
  body_left = calm.in_text (calm.declare locals_are (calm.body refl site.itself (calm.forget (formals_length s r.text.formals 0 r.text.formals)
      (record { more = locals_known s r.text.formals r.locals; is_longer = refl; no_formals = no_formals_known s r.text.formals r.locals })
      (calm.in_text (ensures_left s pure r me z (formals_known s r.text.formals) typed_n 0 r.ensure ensures_stand)))))

  -- all of it, as it begins
  entry_left : InPure s pure r (tasks_of r) (calm.at r.contract (formals_known s r.text.formals) [])
  entry_left =
      subst (λ k. InPure s pure r k (calm.at r.contract (formals_known s r.text.formals) []))
      (sym (append_assoc (requires r.require) (keeps_olds (olds_of_clauses r.ensure)) (In r.text ∷ Declare r.locals ∷ Do r.body ∷ Forget (length r.text.formals) ∷ In r.contract ∷ ensures 0 r.ensure)))
      (requires_left s pure r me z (formals_known s r.text.formals) typed_n r.require requires_stand
      (keeps_olds (olds_of_clauses r.ensure) ++ In r.text ∷ Declare r.locals ∷ Do r.body ∷ Forget (length r.text.formals) ∷ In r.contract ∷ ensures 0 r.ensure)
      (olds_left s pure r me z (formals_known s r.text.formals) typed_n (olds_of_clauses r.ensure)
      (clauses_calm s pure r me z (formals_known s r.text.formals) typed_n r.ensure ensures_stand)
      (In r.text ∷ Declare r.locals ∷ Do r.body ∷ Forget (length r.text.formals) ∷ In r.contract ∷ ensures 0 r.ensure) body_left))

-- ---- functions that contracts may call

same_routine : (q r : Routine) → Some q ≡ Some r → q ≡ r
same_routine q r e = cc

-- the routine of the first declaration with the contract of the second
abbrev made : System → List ℕ → ℕ → RoutineDeclaration → ℕ → RoutineDeclaration → Routine
made s x j own k original = record {
  name = x;
  text = text_of s j own.formals own.result_type;
  locals = own.locals;
  body = own.body;
  contract = text_of s k original.formals original.result_type;
  require = original.precondition;
  ensure = original.postcondition;
}

abbrev ClauseTexts : System → (RoutineName → Bool) → ℕ → FeatureKind → Type 0
ClauseTexts s pure k kind = (routine : RoutineDeclaration) → kind ≡ tree.Routine routine →
    ((q : Clause) → Contains routine.precondition q → laws.IsText s pure (context_of s pure k routine) (expression context.Require Plain (formals_known s routine.formals) q.condition))
    × ((q : Clause) → Contains routine.postcondition q → laws.IsText s pure (context_of s pure k routine) (expression context.Ensure Plain (formals_known s routine.formals) q.condition))

-- What is known of the routine, and how it begins.
abbrev pub Begins : System → (RoutineName → Bool) → Routine → Reference → Type 0
Begins s pure r me = PureRun s pure r me × InPure s pure r (tasks_of r) (calm.at r.contract (formals_known s r.text.formals) [])

module _ (s : System) (root : Root) (pure : RoutineName → Bool) (faultless : IsFaultless s root) (well : WellFormed s) (tells : IsPurity s pure) where
  all_declared : AllDeclared s
  all_declared = declared s pure tells well

  closed : IsClosed s pure
  closed = pure_is_closed s pure tells

  module _ (f : DeclaredFeature) (own : RoutineDeclaration) (kind : f.feature.kind ≡ tree.Routine own) (there : purity.routine_named s (rules.routine_of f) ≡ Some f)
      (is : pure (rules.routine_of f) ≡ true) where
    candidate : list_all (λ (d : Declaration). not (reserves d)) own.formals ≡ true
    candidate = (and_true (is_some own.result_type) (list_all (λ (d : Declaration). not (reserves d)) own.formals) (by (is_pure_candidate (tree.Routine own)) refl)).1
      where
        same : is_pure_candidate_if_any (purity.routine_named s (rules.routine_of f)) ≡ is_pure_candidate (tree.Routine own)
        same = ap is_pure_candidate_if_any there ∙ ap is_pure_candidate kind

        by : (b : Bool) → is_pure_candidate (tree.Routine own) ≡ b → b ≡ true
        by true e = refl
        by false e = absurd ((closed (rules.routine_of f) is).0 (no_candidate (same ∙ e)))

    module _ (k : ℕ) (original : RoutineDeclaration) (a : is_same_formals own.formals original.formals ≡ true)
        (body : Stands s pure (context_of s pure f.class own) (instructions (known_in_body s own) own.body)) where
      abbrev R : Routine
      R = made s f.feature.name.text f.class own k original

      near : (c : Context) (q : Position) (n : Entities) (e : Expr) → Stands s pure (context_of s pure k original) (expression c q n e) → blocks n ≡ 0 →
          (u : EntityType) (w : Bool) → HasType (context_of s pure k original) c q n e (typing (Some u) w) → is_controlled u ≡ true → is_foreign u.tag ≡ false
      near c q n e st none u w d controlled = by u.tag refl
        where
          known : names_known original.formals (blocks n) u.tag ≡ true
          known = tags_name_known s pure (context_of s pure k original) (expression c q n e) st c q n e u w refl d

          below_none : (i j : ℕ) → j ≡ 0 → nat_lt i j ≡ true → ⊥
          below_none i j e l = let m = ltb-true i j l in absurd (omega (arith, m, e))

          uncontrolled : (b : Bool) → (b && false) ≡ true → ⊥
          uncontrolled true e = no e
          uncontrolled false e = no e

          by : (g : Tag) → u.tag ≡ g → is_foreign u.tag ≡ false
          by tag.Own i = ap is_foreign i
          by (tag.With (Formal j)) i = no (sym (none_named own.formals original.formals a candidate j) ∙ (sym (ap (names_known original.formals (blocks n)) i) ∙ known))
          by (tag.With (BlockName j)) i = absurd (below_none j (blocks n) none (sym (ap (names_known original.formals (blocks n)) i) ∙ known))
          by tag.Any i = absurd (uncontrolled u.attached (sym (ap (λ (g : Tag). u.attached && is_controlled_tag g) i) ∙ controlled))
          by tag.None i = absurd (uncontrolled u.attached (sym (ap (λ (g : Tag). u.attached && is_controlled_tag g) i) ∙ controlled))

      runs : (me : Reference) → IsRun s pure (made s f.feature.name.text f.class own k original) me → PureRun s pure (made s f.feature.name.text f.class own k original) me
      runs me run = record {
        run = run;
        quiet = λ t e b. subst (λ (t : Text). InBody s pure (made s f.feature.name.text f.class own k original) t b → purity.HasSideEffect (context_in s pure t) b → ⊥) (sym e)
            (λ w h. pure_bodies_have_no_effect s pure (rules.routine_of f) (context_of s pure f.class own) b closed is (pure_laws.in_body there kind w) h);
        calls = λ t e b. subst (λ (t : Text). InBody s pure (made s f.feature.name.text f.class own k original) t b → (g : rules.Signature) → purity.Calls (context_in s pure t) b g →
            (h : RoutineName) → g.routine ≡ Some h → pure h ≡ true) (sym e)
            (λ w g c h i. pure_bodies_call_pure s pure (rules.routine_of f) h (context_of s pure f.class own) b g closed is (pure_laws.in_body there kind w) c i);
        stands = λ t e b. subst (λ (t : Text). InBody s pure (made s f.feature.name.text f.class own k original) t b → Stands s pure (context_in s pure t) b) (sym e) (λ w. within_stands body w);
        near = λ t e. subst (λ (t : Text). (c : Context) (q : Position) (n : Entities) (e : Expr) → Stands s pure (context_in s pure t) (expression c q n e) → blocks n ≡ 0 →
            (u : EntityType) (w : Bool) → HasType (context_in s pure t) c q n e (typing (Some u) w) → is_controlled u ≡ true → is_foreign u.tag ≡ false) (sym e) near;
        versions = pure_versions s pure tells (made s f.feature.name.text f.class own k original) me run [];
        kinds = same_kind s pure tells (made s f.feature.name.text f.class own k original) me run [];
      }

      module _ (same : formals_known s own.formals ≡ formals_known s original.formals) (clauses : ClauseTexts s pure k (tree.Routine original))
          (is_there : is_declared s (tree.Routine own) ≡ true) (me : Reference) (run : IsRun s pure (made s f.feature.name.text f.class own k original) me) where
        formals_are : are_declared s own.formals own.formals ≡ true
        formals_are = (both (are_declared s own.formals own.formals) (is_result_declared s own.result_type && are_declared s own.formals own.locals) is_there).0

        locals_are : are_declared s own.formals own.locals ≡ true
        locals_are = (both (is_result_declared s own.result_type) (are_declared s own.formals own.locals)
            (both (are_declared s own.formals own.formals) (is_result_declared s own.result_type && are_declared s own.formals own.locals) is_there).1).1

        typed_n : are_typed (formals_known s own.formals) ≡ true
        typed_n = (names_typed s own.formals own.locals formals_are locals_are).0

        clause_left : (c : Context) → wants_pure c ≡ true → (q : Clause) → laws.IsText s pure (context_of s pure k original) (expression c Plain (formals_known s original.formals) q.condition) →
            Evaluated s pure (made s f.feature.name.text f.class own k original) me (runs me run) (formals_known s own.formals) typed_n c q.condition
        clause_left c wants q i = subst (λ (ns : Entities). IsCalm s pure (made s f.feature.name.text f.class own k original) (text_of s k original.formals original.result_type) c Plain ns q.condition
            × ((a : EntityType) × (b : Bool) × HasType (context_of s pure k original) c Plain ns q.condition (typing (Some a) b))) (sym same) (
              in_contract refl wants refl (no_blocks s original.formals 0 original.formals) (stands_in i site.itself),
              each_is_typed_lem s pure well tells (context_of s pure k original) c Plain (formals_known s original.formals) q.condition (stands_in i site.itself),
            )

        begins : Begins s pure (made s f.feature.name.text f.class own k original) me
        begins = (
          runs me run,
          entry_left s pure (made s f.feature.name.text f.class own k original) me (runs me run) typed_n
              (λ q i. clause_left context.Require refl q ((clauses original refl).0 q i)) (λ q i. clause_left context.Ensure refl q ((clauses original refl).1 q i)) locals_are,
        )

  of_kinds : (f : DeclaredFeature) (k : ℕ) (m o : FeatureKind) (r : Routine) (me : Reference) → Keeps s m o → f.feature.kind ≡ m → TextStands s pure f.class m → ClauseTexts s pure k o →
      is_declared s m ≡ true → purity.routine_named s (rules.routine_of f) ≡ Some f → pure (rules.routine_of f) ≡ true → routine_with s f.feature.name.text f.class m k o ≡ Some r →
      IsRun s pure r me → Begins s pure r me
  of_kinds f k _ _ r me (keeps {version = own} {routine = original} a same results) kind (texts body pre post) clauses is_there there is e =
      subst (λ (r : Routine). IsRun s pure r me → Begins s pure r me) (same_routine (made s f.feature.name.text f.class own k original) r e)
      (λ run. begins f own kind there is k original a body same clauses is_there me run)

  of_feature : (me : Reference) (x : List ℕ) (f : DeclaredFeature) (r : Routine) → version_of s me.class x ≡ Some f → routine_of s f ≡ Some r → pure (name_of r) ≡ true → IsRun s pure r me →
      Begins s pure r me
  of_feature me x f r e i p run = by_kind f.feature.kind refl
    where
      clause_texts : (g : DeclaredFeature) (k : ℕ) → StandsInText s k x g → ClauseTexts s pure g.class g.feature.kind
      clause_texts g k a routine i = (λ q l. laws.precondition a.is_class a.declares i l, λ q l. laws.postcondition a.is_class a.declares i l)

      stands : StandsInText s me.class x f
      stands = found_stands s me.class x f e

      there : purity.routine_named s (rules.routine_of f) ≡ Some f
      there = subst (λ (y : List ℕ). named_among y (declared_features s f.class) ≡ Some f) (sym stands.is_named) stands.is_declared

      -- the routine's name is that of the feature
      named_so : (m o : FeatureKind) (k : ℕ) → routine_with s f.feature.name.text f.class m k o ≡ Some r → pure (rules.routine_of f) ≡ true
      named_so (tree.Routine own) (tree.Routine original) k j =
          subst (λ (q : Routine). pure (name_of q) ≡ true) (sym (same_routine (made s f.feature.name.text f.class own k original) r j)) p
      named_so (tree.Attribute d) o k j = cc
      named_so (tree.Routine own) (tree.Attribute d) k j = cc

      by_origin : (h : HasOrigin s me.class x f) → Keeps s f.feature.kind h.origin.feature.kind → Begins s pure r me
      by_origin h keep =
          let made_so = sym (ap (routine_from s f) (origin_is s root faultless f ∙ h.is_origin)) ∙ i in
          of_kinds f h.origin.class f.feature.kind h.origin.feature.kind r me keep refl (texts_stand s pure me.class x f e)
          (clause_texts h.origin h.origin.class (found_stands s h.origin.class x h.origin h.is_feature_there)) (named_declared s all_declared (class.Declared me.class) x f e) there
          (named_so f.feature.kind h.origin.feature.kind h.origin.class made_so) made_so run

      none_made : (d : DeclaredType) (o : Option DeclaredFeature) → f.feature.kind ≡ tree.Attribute d → routine_from s f o ≡ Some r → ⊥
      none_made d None is i = cc
      none_made d (Some o) is i =
          let none : None ≡ Some r = sym (ap (λ m. routine_with s f.feature.name.text f.class m o.class o.feature.kind) is) ∙ i in cc

      by_kind : (m : FeatureKind) → f.feature.kind ≡ m → Begins s pure r me
      by_kind (tree.Attribute d) is = absurd (none_made d (origin_of s f) is i)
      by_kind (tree.Routine own) is = let kept = contracts_are_kept s root faultless all_declared me.class x f e own is in by_origin kept.0 kept.1

  -- So it is of each function that contracts may call, on each object that runs it.
  pub pure_begins : (r : Routine) (me : Reference) → routine_named s me.class r.name ≡ Some r → pure (name_of r) ≡ true → Begins s pure r me
  pure_begins r me i p = by (version_of s me.class r.name) refl i
    where
      by : (o : Option DeclaredFeature) → version_of s me.class r.name ≡ o → option_and_then (routine_of s) o ≡ Some r → Begins s pure r me
      by None e j = cc
      by (Some f) e j = of_feature me r.name f r e j p (is_run s root pure faultless well tells r me i)

pub pure_begin_pure : PureBeginPure
pure_begin_pure s root pure faultless well tells r me i p = (pure_begins s root pure faultless well tells r me i p).1

pub pure_call_pure : PureCallPure
pure_call_pure s root pure faultless well tells r me i is p f h z = pure_moves s pure r me (pure_begins s root pure faultless well tells r me i is).0 p f h z
