-- In the text of a well-formed system what is assigned, created or tested is as the rules ask.
use Rattle.std.proofs.Common.{◌≡◌, ℕ, Bool, true, false, List, [], Option, Some, None, refl, sym, subst}
use Rattle.std.specs.Prelude.{is_some, bytes_eq, if◌then◌else◌}
use Rattle.sc_text.specs.declared.token.Span.{Span}
use Rattle.sc_tree.specs.Plain.{FeatureKind, Attribute, Routine, Variable, Named, ResultVariable, CreationCall, Expr, no_target, Instr, Create}
use Rattle.sc_class.specs.declared.identity.ClassId.TheVariants as class
use Rattle.sc_tree.specs.Properties.{is_print}
use Rattle.sc_class.specs.Tables.Features.{DeclaredFeature, feature_named}
use Rattle.sc_rules.specs.declared.entity_types.entity_type.EntityType.{EntityType}
use Rattle.sc_rules.specs.entity_types.Combiners.{combined_result}
use Rattle.sc_rules.specs.declared.rule.Rule.{Rule}
use Rattle.sc_rules.specs.declared.rule.Rule.TheVariants.{UnknownName, NotCreation}
use Rattle.sc_rules.specs.declared.position.Context.{Context}
use Rattle.sc_rules.specs.declared.position.Context.TheVariants as context
use Rattle.sc_rules.specs.declared.position.Position.{Position}
use Rattle.sc_rules.specs.declared.position.Use.TheVariants.{Instruction}
use Rattle.sc_rules.specs.Types.{declared_type, is_boolean}
use Rattle.sc_rules.specs.Names.{RoutineContext, Entity, Entities, entity_named, Meaning, unknown, target_untyped, named, qualified_meaning, current, is_local, Assignee, unknown_assignee, unassignable, to_local, to_attribute, assignee_of_kind, assignee_of_feature, assignee_of_entity, assignee_or, assignee_of_result, assignee, assignee_type, variable_span}
use Rattle.sc_rules.specs.Sites.{Site, instruction}
use Rattle.sc_rules.specs.CallRules.{count, AtName, unknown_name}
use Rattle.sc_rules.specs.TextRules.{VariableFails, no_entity, not_assignable, is_tagged, is_made_without_procedure, is_made_by, CreationFails, tagged, without_procedure, at_procedure, not_listed, NoCondition, not_boolean, left_side, created_entity, creation, if_condition, until_condition, check_clause, FailsAt, at_instruction, at_branch}
use Rattle.sc_rules.specs.Laws.{is_declared, AllDeclared, are_typed, HasResult}
use Rattle.sc_rules.specs.InstructionLaws as laws
use Rattle.sc_rules.specs.InstructionLaws.{IsOfType, is_attribute, Changes, assigns, creates, VariablesStand, MayBeCreated, made_without_procedure, made_by, CreationsStand, IsCondition, of_if, of_branch, of_loop, of_check, ConditionsAreBoolean}
use Rattle.sc_rules.proofs.Sound.{resolved_feature}
use Rattle.sc_rules.proofs.Typings.{found_holds, named_declared, some_map}
use Rattle.sc_rules.proofs.WellFormed.{none_at}
use Rattle.sc_rules.proofs.EachTyped.{stands_typed}
use Rattle.sc_rules.proofs.CallLaws.{may_be_called}

-- ---- what is assigned or created

-- what may be assigned has a type
abbrev AssigneeTyped : Assignee → Type 0
AssigneeTyped unknown_assignee = Unit {0}
AssigneeTyped unassignable = Unit {0}
AssigneeTyped (to_local t) = is_some t ≡ true
AssigneeTyped (to_attribute t) = is_some t ≡ true

entity_typed : (e : Entity) → is_some e.type ≡ true → AssigneeTyped (assignee_of_entity e)
entity_typed e t = by_role (is_local e.role)
  where
    by_role : (b : Bool) → AssigneeTyped (if b then to_local e.type else unassignable)
    by_role true = t
    by_role false = tt

kind_typed : (h : RoutineContext) (k : FeatureKind) → is_declared h.system k ≡ true →
    AssigneeTyped (assignee_of_kind h k)
kind_typed h (Attribute d) e = some_map (combined_result (current h)) (declared_type h.system [] d) e
kind_typed h (Routine routine) e = tt

name_typed : (h : RoutineContext) → AllDeclared h.system → (x : List ℕ) (o : Option Entity) →
    ((e : Entity) → o ≡ Some e → is_some e.type ≡ true) →
    AssigneeTyped (assignee_or h x o)
name_typed h d x (Some e) f = entity_typed e (f e refl)
name_typed h d x None f = by_print (is_print x)
  where
    of_feature : (o : Option DeclaredFeature) → feature_named h.system (class.Declared h.class) x ≡ o →
        AssigneeTyped (assignee_of_feature h o)
    of_feature None e = tt
    of_feature (Some g) e = kind_typed h g.feature.kind (named_declared h.system d (class.Declared h.class) x g e)

    by_print : (b : Bool) → AssigneeTyped (if b then unassignable else assignee_of_feature h (feature_named h.system (class.Declared h.class) x))
    by_print true = tt
    by_print false = of_feature (feature_named h.system (class.Declared h.class) x) refl

result_typed : (o : Option (Option EntityType)) → ((t : Option EntityType) → o ≡ Some t → is_some t ≡ true) →
    AssigneeTyped (assignee_of_result o)
result_typed None f = tt
result_typed (Some t) f = f t refl

assignee_typed : (h : RoutineContext) (n : Entities) (v : Variable) → AllDeclared h.system → HasResult h →
    are_typed n ≡ true → AssigneeTyped (assignee h n v)
assignee_typed h n (Named x) d f t =
    name_typed h d x.text (entity_named x.text n)
    (λ e i. found_holds (λ (e : Entity). is_some e.type) (λ e. bytes_eq e.name x.text) n e t i)
assignee_typed h n (ResultVariable s) d f t = result_typed h.result f

result_known : (o : Option (Option EntityType)) → assignee_of_result o ≡ unknown_assignee → ⊥
result_known None e = cc
result_known (Some t) e = cc

-- what stands for nothing fails
none_such : (h : RoutineContext) (n : Entities) (v : Variable) → assignee h n v ≡ unknown_assignee →
    ((r : Rule) (p : Span) → VariableFails h n v r p → ⊥) → ⊥
none_such h n (Named x) e f = f _ _ (no_entity e)
none_such h n (ResultVariable s) e f = result_known h.result e

of_type : (h : RoutineContext) (n : Entities) (v : Variable) → ((r : Rule) (p : Span) → VariableFails h n v r p → ⊥) →
    (a : Assignee) → assignee h n v ≡ a →
    AssigneeTyped a →
    (t : EntityType) × IsOfType t a
of_type h n v f unknown_assignee e t = absurd (none_such h n v e f)
of_type h n v f unassignable e t = absurd (f _ _ (not_assignable e))
of_type h n v f (to_local None) e t = cc
of_type h n v f (to_local (Some t)) e d = (t, laws.is_local)
of_type h n v f (to_attribute None) e t = cc
of_type h n v f (to_attribute (Some t)) e d = (t, is_attribute)

variable_fails : {h : RoutineContext} {n : Entities} {i : Instr} {v : Variable} → Changes i v → (r : Rule) (p : Span) →
    VariableFails h n v r p →
    FailsAt h (instruction n i) r p
variable_fails assigns r p f = at_instruction (left_side f)
variable_fails creates r p f = at_instruction (created_entity f)

pub variables_stand_lem : VariablesStand
variables_stand_lem s pure w i h n j v u k = of_names (stands_typed w i u)
  where
    of_names : (AllDeclared h.system × HasResult h) × (are_typed n ≡ true) → (t : EntityType) ×
        IsOfType t (assignee h n v)
    of_names d = of_type h n v (λ r p f. none_at w i u r p (variable_fails k r p f))
        (assignee h n v) refl (assignee_typed h n v d.0.0 d.0.1 d.1)

-- ---- creations

type_is : {t : EntityType} {a : Assignee} → IsOfType t a → assignee_type a ≡ Some t
type_is laws.is_local = refl
type_is is_attribute = refl

untagged : (b : Bool) → (b ≡ true → ⊥) → b ≡ false
untagged true f = absurd (f refl)
untagged false f = refl

holds : (b : Bool) → (b ≡ false → ⊥) → b ≡ true
holds true f = refl
holds false f = absurd (f refl)

pub creations_stand_lem : CreationsStand
creations_stand_lem s pure w i h n p v u =
    of_variable (variables_stand_lem s pure w i h n (Create p v) v.variable u creates)
  where
    -- what fails in a creation with this call fails in the creation
    fails_so : (t : EntityType) → assignee_type (assignee h n v.variable) ≡ Some t → (o : Option CreationCall) →
        v.call ≡ o → (q : Rule) (z : Span) →
        CreationFails h n v.variable t o q z → FailsAt h (instruction n (Create p v)) q z
    fails_so t e o j q z f = at_instruction (creation e (subst (λ o. CreationFails h n v.variable t o q z) (sym j) f))

    created : (t : EntityType) → assignee_type (assignee h n v.variable) ≡ Some t → (o : Option CreationCall) →
        v.call ≡ o → MayBeCreated h t o
    created t e None j = made_without_procedure (holds (is_made_without_procedure h.system t.class)
        (λ f. none_at w i u NotCreation (variable_span v.variable) (fails_so t e None j NotCreation (variable_span v.variable) (without_procedure f))))
    created t e (Some c) j = by_meaning (qualified_meaning h t c.name.text) refl
      where
        none_there : (q : Rule) → AtName h context.Body no_target Instruction (qualified_meaning h t c.name.text)
            (count c.actuals) q → ⊥
        none_there q f = none_at w i u q c.name.span (fails_so t e (Some c) j q c.name.span (at_procedure f))

        by_meaning : (m : Meaning) → qualified_meaning h t c.name.text ≡ m → MayBeCreated h t (Some c)
        by_meaning unknown d = absurd (none_there UnknownName (subst (λ m. AtName h context.Body no_target Instruction m (count c.actuals) UnknownName) (sym d) unknown_name))
        by_meaning target_untyped d = absurd (resolved_feature h.system t (feature_named h.system t.class c.name.text) d)
        by_meaning (named g) d = made_by
            (holds (is_made_by h.system t.class c.name) (λ f. none_at w i u NotCreation c.name.span
            (fails_so t e (Some c) j NotCreation c.name.span (not_listed f)))) d
            (may_be_called h context.Body no_target Instruction g c.actuals (λ q f. none_there q (subst (λ m. AtName h context.Body no_target Instruction m (count c.actuals) q) (sym d) f)))

    of_variable : ((t : EntityType) × IsOfType t (assignee h n v.variable)) →
        (t : EntityType) × IsOfType t (assignee h n v.variable) × (is_tagged t.tag ≡ false) × MayBeCreated h t v.call
    of_variable (t, d) = (t, d, untagged (is_tagged t.tag) (λ e. none_at w i u _ _ (at_instruction (creation (type_is d) (tagged e)))), created t (type_is d) v.call refl)

-- ---- conditions

condition_fails : {h : RoutineContext} {b : Site} {c : Context} {k : Position} {n : Entities} {e : Expr} →
    IsCondition b c k n e → (r : Rule) (p : Span) →
    NoCondition h c k n e r p → FailsAt h b r p
condition_fails of_if r p f = at_instruction (if_condition f)
condition_fails of_branch r p f = at_branch f
condition_fails of_loop r p f = at_instruction (until_condition f)
condition_fails (of_check i) r p f = at_instruction (check_clause i f)

pub conditions_are_boolean_lem : ConditionsAreBoolean
conditions_are_boolean_lem s pure w i h b c k n e v j t m d = holds (is_boolean t.class)
    (λ f. none_at w i v _ _ (condition_fails j _ _ (not_boolean d f)))
