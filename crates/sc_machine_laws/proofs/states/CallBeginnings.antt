-- Calls begin: of `print`, of a routine of Current, and of one of another object.
use Rattle.std.specs.Prelude.{if◌then◌else◌, is_some, length, slice_get}
use Rattle.std.proofs.Common.{◌+◌, ◌++◌, Bool, None, Option, Some, [], ap, ap₂, arith, false, refl, subst, suc, sym, true, zero, ◌||◌, ℕ, ◌∙◌, ◌∷◌, ◌≡◌}
use Rattle.sc_text.specs.declared.token.Span.{Span}
use Rattle.sc_tree.specs.Plain as tree
use Rattle.sc_tree.specs.Plain.{Expr, Exprs, FeatureKind, Name, System, Target, expr_then, no_exprs}
use Rattle.sc_tree.specs.Properties.{is_print}
use Rattle.sc_class.specs.Tables.Features.{DeclaredFeature, feature_named}
use Rattle.sc_class.specs.declared.identity.ClassId.TheVariants as class
use Rattle.sc_rules.specs.declared.entity_types.entity_type.EntityType.{EntityType}
use Rattle.sc_rules.specs.CallRules.{actual_here, count}
use Rattle.sc_rules.specs.Names.{Entity, RoutineName, Signature, current, entity_named, entity_or, meaning_of, meaning_of_feature, named, print_signature, signature_of_kind}
use Rattle.sc_rules.specs.Purity as purity
use Rattle.sc_rules.specs.Sites as site
use Rattle.sc_rules.specs.Sites.{first_actual, instruction}
use Rattle.sc_rules.specs.SystemLaws as laws
use Rattle.sc_rules.specs.SystemLaws.{MayBeCalled, Stands}
use Rattle.sc_rules.specs.Typing as typing
use Rattle.sc_rules.specs.Typing.{HasReceiver, HasType, Typing, formals_take, is_foreign_type, simple_typing, types, typing}
use Rattle.sc_rules.specs.declared.position.Context.TheVariants as context
use Rattle.sc_rules.specs.declared.position.Position.TheVariants.{Plain, Source}
use Rattle.sc_rules.specs.declared.position.Use.TheVariants.{Instruction}
use Rattle.sc_rules.proofs.CallLaws.{calls_stand_lem}
use Rattle.sc_rules.proofs.TextLaws.{print_takes_values}
use Rattle.sc_rules.proofs.TypeLaws.{one_type}
use Rattle.sc_rules.proofs.WellFormed.{actuals_conform_lem, targets_are_controlled_lem}
use Rattle.sc_model.specs.Environments.{scope_of}
use Rattle.sc_model.specs.Instructions.{begins, begins_routine}
use Rattle.sc_model.specs.Olds.{olds_in, olds_of, olds_of_each}
use Rattle.sc_model.specs.Routines.{Routine, place_in}
use Rattle.sc_model.specs.Runs.{run}
use Rattle.sc_model.specs.Steps.{Point}
use Rattle.sc_model.specs.Tasks.{CallQualified, CallUnqualified, Eval, Print, evals}
use Rattle.sc_model.specs.Values.{Reference}
use Rattle.sc_machine_laws.specs.states.Places.{is_routine}
use Rattle.sc_machine_laws.specs.states.Points.{types_of}
use Rattle.sc_machine_laws.specs.states.ValueSteps.{StandsSo, StepFits}
use Rattle.sc_machine_laws.specs.states.Typed as typed
use Rattle.sc_machine_laws.specs.states.Typed.{AreKept, Leaves, context_in, nothing}
use Rattle.sc_machine_laws.proofs.states.Evaluations.{routine_begins, target_begins}
use Rattle.sc_machine_laws.proofs.states.Free.{freely, freely_all}
use Rattle.sc_machine_laws.proofs.states.Names.{FeatureMeant, feature_meant, same_meaning}
use Rattle.sc_machine_laws.proofs.states.Olds.{none_kept, none_old, none_old_each}
use Rattle.sc_machine_laws.proofs.states.RoutinePoints.{BaseOf, IsRun, TasksTyped}
use Rattle.sc_machine_laws.proofs.states.ActualLists.{SourcesTyped, sources_typed, taken_together}
use Rattle.sc_machine_laws.proofs.states.BlockBeginnings.{comes_to, outside, source_typed}

module _ (s : System) (pure : RoutineName → Bool) (r : Routine) (me : Reference) (run : IsRun s pure r me) (p : Point) (b : BaseOf s r me p) where
  -- ---- calls and creations

  pub none_given : (g : Option (Option EntityType)) → is_some g ≡ false → g ≡ None
  none_given None e = refl
  none_given (Some t) e = cc

  -- the actuals of a call may be passed
  taken_at : (q : Span) (a : Target) (x : Name) (es : Exprs) (st : Stands s pure (context_in s pure p.text) (instruction (scope_of p.environment) (tree.CallRoutine q a x es))) (y : Typing) (g : Signature) →
      HasReceiver (context_in s pure p.text) context.Body (scope_of p.environment) a y → meaning_of (context_in s pure p.text) (scope_of p.environment) a y.type x ≡ named g →
      (z : SourcesTyped (context_in s pure p.text) context.Body (scope_of p.environment) es) → formals_take s g.target (types z.typings) g.formals (types z.typings) ≡ true
  taken_at q a x es st y g d m z = taken_together (context_in s pure p.text) context.Body (scope_of p.environment) es z.typings z.typed g
      (actuals_conform_lem s pure run.well_formed run.purity (context_in s pure p.text) (instruction (scope_of p.environment) (tree.CallRoutine q a x es)) Instruction context.Body (scope_of p.environment) a x es st laws.as_instruction y g d m)
      (λ i e u w z' l f. print_takes_values s pure run.well_formed run.purity (context_in s pure p.text) (instruction (scope_of p.environment) (tree.CallRoutine q a x es)) Instruction context.Body (scope_of p.environment) a x es st
      laws.as_instruction y g d m i e u w z' l f)

  call_sources : (q : Span) (a : Target) (x : Name) (es : Exprs) → Stands s pure (context_in s pure p.text) (instruction (scope_of p.environment) (tree.CallRoutine q a x es)) →
      SourcesTyped (context_in s pure p.text) context.Body (scope_of p.environment) es
  call_sources q a x es st = sources_typed (context_in s pure p.text) context.Body (scope_of p.environment) es (λ e i.
      source_typed s pure r me run p b st context.Body Source e (site.call_actual_part i))

  pub kept_actuals : (es : Exprs) → SourcesTyped (context_in s pure p.text) context.Body (scope_of p.environment) es → AreKept s p.text (scope_of p.environment) 0 (olds_of_each es) (types_of p.olds)
  kept_actuals es z = none_kept s p.text (scope_of p.environment) (types_of p.olds) 0 (olds_of_each es) (none_old_each refl z.typed)

  -- a feature that gives nothing is a routine
  routine_meant : (u : EntityType) (f : DeclaredFeature) (kind : FeatureKind) → (signature_of_kind s u f kind).gives ≡ None → is_routine kind ≡ true
  routine_meant u f (tree.Attribute d) e = cc
  routine_meant u f (tree.Routine c) e = refl

  -- a routine of Current is called
  own_routine : (q : Span) (x : Name) (es : Exprs) (st : Stands s pure (context_in s pure p.text) (instruction (scope_of p.environment) (tree.CallRoutine q tree.no_target x es))) (g : Signature) →
      HasReceiver (context_in s pure p.text) context.Body (scope_of p.environment) tree.no_target (simple_typing (current (context_in s pure p.text))) →
      meaning_of (context_in s pure p.text) (scope_of p.environment) tree.no_target (Some (current (context_in s pure p.text))) x ≡ named g → count es ≡ length g.formals → g.gives ≡ None →
      FeatureMeant s (current (place_in s p.text)) (feature_named s (class.Declared p.text.class) x.text) g → TasksTyped s pure r p p.tasks [] →
      StandsSo s pure r me [] (record p { tasks = (evals 0 es ++ CallUnqualified x.text (count es) ∷ []) ++ p.tasks; values = [] })
  own_routine q x es st g d m many none f k = of_sources (call_sources q tree.no_target x es st)
    where
      of_sources : SourcesTyped (context_in s pure p.text) context.Body (scope_of p.environment) es →
          StandsSo s pure r me [] (record p { tasks = (evals 0 es ++ CallUnqualified x.text (count es) ∷ []) ++ p.tasks; values = [] })
      of_sources z = routine_begins s pure r me run (record p { values = [] }) b tt 0 x.text f.feature None [] f.is_there
          (routine_meant (current (place_in s p.text)) f.feature f.feature.feature.kind (ap (λ (g : Signature). g.gives) f.signature_is ∙ none)) (freely_all z.typed)
          (subst (λ (g : Signature). formals_take s g.target (types z.typings) g.formals (types z.typings) ≡ true) (sym f.signature_is) (taken_at q tree.no_target x es st _ g d m z))
          (sym z.as_many ∙ many ∙ ap (λ (g : Signature). length g.formals) (sym f.signature_is)) (ap (λ (g : Signature). g.gives) f.signature_is ∙ none) nothing (kept_actuals es z) k

  -- `print` takes one value
  print_begins : (q : Span) (x : Name) (es : Exprs) (st : Stands s pure (context_in s pure p.text) (instruction (scope_of p.environment) (tree.CallRoutine q tree.no_target x es))) (g : Signature) →
      HasReceiver (context_in s pure p.text) context.Body (scope_of p.environment) tree.no_target (simple_typing (current (context_in s pure p.text))) →
      meaning_of (context_in s pure p.text) (scope_of p.environment) tree.no_target (Some (current (context_in s pure p.text))) x ≡ named g → count es ≡ length g.formals →
      print_signature (context_in s pure p.text) ≡ g → TasksTyped s pure r p p.tasks [] → StepFits s pure r me (begins_routine true x.text es (record p { values = [] }))
  print_begins q x no_exprs st g d m many is k = absurd (none_or_one (many ∙ ap (λ (g : Signature). length g.formals) (sym is)))
    where
      none_or_one : zero ≡ suc zero → ⊥
      none_or_one e = absurd (omega (arith, e))
  print_begins q x (expr_then e (expr_then e' es)) st g d m many is k = absurd (two_or_one (count es) (many ∙ ap (λ (g : Signature). length g.formals) (sym is)))
    where
      two_or_one : (n : ℕ) → suc (suc n) ≡ suc zero → ⊥
      two_or_one n e = absurd (omega (arith, e))
  print_begins q x (expr_then e no_exprs) st g d m many is k = of_type (source_typed s pure r me run p b st context.Body Source e (site.call_actual_part first_actual))
    where
      of_type : (a : EntityType) × (w : Bool) × HasType (context_in s pure p.text) context.Body Source (scope_of p.environment) e (typing (Some a) w) →
          StandsSo s pure r me [] (record p { tasks = Eval 0 e ∷ Print ∷ p.tasks; values = [] })
      of_type (a, w, f) = comes_to s pure r me run p b (Eval 0 e ∷ Print ∷ p.tasks)
          (typed.eval context.Body Source refl (w, freely f) (outside s pure r me run p b 0 refl (freely f)) (typed.print
          (print_takes_values s pure run.well_formed run.purity (context_in s pure p.text) (instruction (scope_of p.environment) (tree.CallRoutine q tree.no_target x (expr_then e no_exprs))) Instruction context.Body
          (scope_of p.environment) tree.no_target x (expr_then e no_exprs) st laws.as_instruction _ g d m 0 e a w actual_here (ap (λ (g : Signature). slice_get g.formals 0) (sym is)) f) k))

  -- a name without a target: `print`, or a routine of Current
  own_call : (q : Span) (x : Name) (es : Exprs) (st : Stands s pure (context_in s pure p.text) (instruction (scope_of p.environment) (tree.CallRoutine q tree.no_target x es))) (g : Signature) →
      HasReceiver (context_in s pure p.text) context.Body (scope_of p.environment) tree.no_target (simple_typing (current (context_in s pure p.text))) →
      meaning_of (context_in s pure p.text) (scope_of p.environment) tree.no_target (Some (current (context_in s pure p.text))) x ≡ named g → count es ≡ length g.formals → g.gives ≡ None →
      TasksTyped s pure r p p.tasks [] → StepFits s pure r me (begins_routine (is_print x.text) x.text es (record p { values = [] }))
  own_call q x es st g d m many none k = by (entity_named x.text (scope_of p.environment)) m
    where
      no_value : {t : Option EntityType} → Some t ≡ None → ⊥
      no_value e = cc

      by_print : (c : Bool) →
          (if c then named (print_signature (context_in s pure p.text)) else meaning_of_feature s (current (context_in s pure p.text)) (feature_named s (class.Declared p.text.class) x.text)) ≡ named g →
          StepFits s pure r me (begins_routine c x.text es (record p { values = [] }))
      by_print true e = print_begins q x es st g d m many (same_meaning e) k
      by_print false e = own_routine q x es st g d m many none (feature_meant s (current (place_in s p.text)) (feature_named s (class.Declared p.text.class) x.text) g e) k

      by : (o : Option Entity) → entity_or (context_in s pure p.text) x.text o ≡ named g → StepFits s pure r me (begins_routine (is_print x.text) x.text es (record p { values = [] }))
      by (Some y) e = absurd (no_value (ap (λ (g : Signature). g.gives) (same_meaning e) ∙ none))
      by None e = by_print (is_print x.text) e

  -- a routine of another object is called
  far_call : (q : Span) (a : Expr) (x : Name) (es : Exprs) (st : Stands s pure (context_in s pure p.text) (instruction (scope_of p.environment) (tree.CallRoutine q (tree.target a) x es))) (y : Typing) (g : Signature) →
      HasReceiver (context_in s pure p.text) context.Body (scope_of p.environment) (tree.target a) y →
      meaning_of (context_in s pure p.text) (scope_of p.environment) (tree.target a) y.type x ≡ named g → count es ≡ length g.formals → g.gives ≡ None →
      TasksTyped s pure r p p.tasks [] → StandsSo s pure r me [] (record p { tasks = (Eval 0 a ∷ evals 0 es ++ CallQualified x.text (count es) ∷ []) ++ p.tasks; values = [] })
  far_call q a x es st y g d m many none k = of_receiver d m
    where
      of_receiver : {y : Typing} → HasReceiver (context_in s pure p.text) context.Body (scope_of p.environment) (tree.target a) y →
          meaning_of (context_in s pure p.text) (scope_of p.environment) (tree.target a) y.type x ≡ named g →
          StandsSo s pure r me [] (record p { tasks = (Eval 0 a ∷ evals 0 es ++ CallQualified x.text (count es) ∷ []) ++ p.tasks; values = [] })
      of_receiver (typing.explicit {t = v} f) m = of_type (source_typed s pure r me run p b st context.Body Plain a site.call_target_part)
        where
          of_type : (u : EntityType) × (w : Bool) × HasType (context_in s pure p.text) context.Body Plain (scope_of p.environment) a (typing (Some u) w) →
              StandsSo s pure r me [] (record p { tasks = (Eval 0 a ∷ evals 0 es ++ CallQualified x.text (count es) ∷ []) ++ p.tasks; values = [] })
          of_type (u, w, f') = of_sources (call_sources q (tree.target a) x es st)
            where
              type_is : v.type ≡ Some u
              type_is = ap (λ (t : Typing). t.type) (one_type (context_in s pure p.text) context.Body Plain (scope_of p.environment) a v (typing (Some u) w) f f')

              meant : FeatureMeant s u (feature_named s u.class x.text) g
              meant = feature_meant s u (feature_named s u.class x.text) g (subst (λ t. meaning_of (context_in s pure p.text) (scope_of p.environment) (tree.target a) t x ≡ named g) type_is m)

              no_olds : 0 + olds_in a ≡ 0
              no_olds = ap (λ es. 0 + length es) (none_old refl f)

              of_sources : SourcesTyped (context_in s pure p.text) context.Body (scope_of p.environment) es →
                  StandsSo s pure r me [] (record p { tasks = (Eval 0 a ∷ evals 0 es ++ CallQualified x.text (count es) ∷ []) ++ p.tasks; values = [] })
              of_sources z = subst (λ j. StandsSo s pure r me [] (record p { tasks = (Eval 0 a ∷ evals j es ++ CallQualified x.text (count es) ∷ []) ++ p.tasks; values = [] })) no_olds
                  (target_begins s pure r me run (record p { values = [] }) b tt 0 x.text a u g [] (freely f') refl
                  (targets_are_controlled_lem s pure run.well_formed run.purity (context_in s pure p.text) (instruction (scope_of p.environment) (tree.CallRoutine q (tree.target a) x es)) context.Body (scope_of p.environment) a x st
                  purity.as_instruction u w f') meant (freely_all z.typed)
                  (taken_at q (tree.target a) x es st (typing v.type (v.is_separate || is_foreign_type v.type)) g (typing.explicit f) m z) (sym z.as_many ∙ many)
                  (subst (λ o. Leaves o [] []) (sym none) nothing)
                  (none_kept s p.text (scope_of p.environment) (types_of p.olds) 0 (olds_of a ++ olds_of_each es) (ap₂ (λ xs ys. xs ++ ys) (none_old refl f) (none_old_each refl z.typed))) k)

  pub call_begins : (q : Span) (a : Target) (x : Name) (es : Exprs) → Stands s pure (context_in s pure p.text) (instruction (scope_of p.environment) (tree.CallRoutine q a x es)) →
      TasksTyped s pure r p p.tasks [] → StepFits s pure r me (begins (tree.CallRoutine q a x es) (record p { values = [] }))
  call_begins q a x es st k = of_law (calls_stand_lem s pure run.well_formed run.purity (context_in s pure p.text) (instruction (scope_of p.environment) (tree.CallRoutine q a x es)) Instruction context.Body
      (scope_of p.environment) a x es st laws.as_instruction)
    where
      by : (a : Target) (st : Stands s pure (context_in s pure p.text) (instruction (scope_of p.environment) (tree.CallRoutine q a x es))) (y : Typing) (g : Signature) →
          HasReceiver (context_in s pure p.text) context.Body (scope_of p.environment) a y → meaning_of (context_in s pure p.text) (scope_of p.environment) a y.type x ≡ named g →
          count es ≡ length g.formals → g.gives ≡ None → StepFits s pure r me (begins (tree.CallRoutine q a x es) (record p { values = [] }))
      by tree.no_target st _ g typing.implicit m many none = own_call q x es st g typing.implicit m many none k
      by (tree.target a) st y g d m many none = far_call q a x es st y g d m many none k

      of_law : (y : Typing) × (g : Signature) × HasReceiver (context_in s pure p.text) context.Body (scope_of p.environment) a y ×
          (meaning_of (context_in s pure p.text) (scope_of p.environment) a y.type x ≡ named g) × MayBeCalled (context_in s pure p.text) context.Body Instruction a es g →
          StepFits s pure r me (begins (tree.CallRoutine q a x es) (record p { values = [] }))
      of_law (y, g, d, m, may) = by a st y g d m may.as_many_actuals (none_given g.gives may.used_as_it_is)
