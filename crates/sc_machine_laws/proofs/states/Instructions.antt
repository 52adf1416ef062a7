-- Creations begin, and so does each instruction.
use Rattle.std.specs.Option.{option_map}
use Rattle.std.specs.Prelude.{if◌then◌else◌, length, map, slice_get}
use Rattle.std.proofs.Common.{◌++◌, ◌<◌, Bool, List, None, Option, Some, [], ap, append_assoc, ap₂, false, inl, inr, refl, subst, suc, sym, true, zero, ℕ, ◌∙◌, ◌∷◌, ◌≡◌, ◌⊎◌}
use Rattle.sc_text.specs.declared.token.Span.{Span}
use Rattle.sc_tree.specs.Plain as tree
use Rattle.sc_tree.specs.Plain.{Creation, CreationCall, Declaration, DeclaredType, Exprs, FeatureKind, Instr, Instrs, System, Variable, instr_then, no_exprs, no_instrs}
use Rattle.sc_tree.specs.Properties.{is_print}
use Rattle.sc_class.specs.Tables.Conformance.{is_expanded}
use Rattle.sc_class.specs.Tables.Features.{DeclaredFeature, feature_named}
use Rattle.sc_class.specs.declared.identity.ClassId.{ClassId}
use Rattle.sc_class.specs.declared.identity.ClassId.TheVariants as class
use Rattle.sc_rules.specs.entity_types.Laws.{IsClassOf}
use Rattle.sc_rules.specs.declared.entity_types.entity_type.EntityType.{EntityType}
use Rattle.sc_rules.specs.declared.entity_types.tag.Tag.{Tag}
use Rattle.sc_rules.specs.declared.entity_types.tag.Tag.TheVariants as tag
use Rattle.sc_rules.specs.entity_types.Combiners.{combined_result}
use Rattle.sc_rules.specs.CallRules.{count}
use Rattle.sc_rules.specs.InstructionLaws as rules
use Rattle.sc_rules.specs.InstructionLaws.{IsOfType, MayBeCreated, of_check}
use Rattle.sc_rules.specs.Names.{Assignee, RoutineName, Signature, assignee, assignee_of_feature, assignee_of_kind, assignee_of_result, assignee_or, assignee_type, current, formal_type, is_local, of_expanded, signature_of_kind, to_local, unassignable}
use Rattle.sc_rules.specs.Sites as site
use Rattle.sc_rules.specs.Sites.{instruction, instructions}
use Rattle.sc_rules.specs.SystemLaws.{Stands}
use Rattle.sc_rules.specs.TextRules.{is_made_by, is_made_without_procedure, is_tagged}
use Rattle.sc_rules.specs.Types.{declared_type}
use Rattle.sc_rules.specs.Typing as typing
use Rattle.sc_rules.specs.Typing.{typing}
use Rattle.sc_rules.specs.declared.position.Context.TheVariants as context
use Rattle.sc_rules.specs.declared.position.Position.TheVariants.{Plain, Source}
use Rattle.sc_rules.proofs.InstructionLaws.{creations_stand_lem}
use Rattle.sc_rules.proofs.Versions.{declared_types_stand}
use Rattle.sc_rules.proofs.WellFormed.{creation_actuals_conform_lem}
use Rattle.sc_model.specs.Environments.{Binding, binding_named, known_of, scope_of}
use Rattle.sc_model.specs.Instructions.{actuals_of, begins, procedure_of}
use Rattle.sc_model.specs.Moves.{performs}
use Rattle.sc_model.specs.Routines.{Routine, Text, place_in}
use Rattle.sc_model.specs.Runs.{run}
use Rattle.sc_model.specs.Steps.{Point}
use Rattle.sc_model.specs.Tasks.{CreateBy, Do, checks, evals}
use Rattle.sc_model.specs.Values.{Reference}
use Rattle.sc_machine_laws.specs.states.Points.{LocalIsDeclared, types_of}
use Rattle.sc_machine_laws.specs.states.ValueSteps.{StandsSo, StepFits}
use Rattle.sc_machine_laws.specs.states.Typed as typed
use Rattle.sc_machine_laws.specs.states.Typed.{IsMade, context_in}
use Rattle.sc_machine_laws.proofs.states.Actuals.{somes}
use Rattle.sc_machine_laws.proofs.states.Attributes.{found_each}
use Rattle.sc_machine_laws.proofs.states.Choices.{part_stands, truthful}
use Rattle.sc_machine_laws.proofs.states.Free.{assignee_same, freely_all}
use Rattle.sc_machine_laws.proofs.states.Lists.{same_some}
use Rattle.sc_machine_laws.proofs.states.Names.{ActualsTyped, FeatureMeant, actuals_typed, feature_meant, named_alike, take_of}
use Rattle.sc_machine_laws.proofs.states.RoutinePoints.{BaseOf, IsRun, TasksTyped, goes}
use Rattle.sc_machine_laws.proofs.states.ActualLists.{SourcesTyped, sources_typed, taken_together}
use Rattle.sc_machine_laws.proofs.states.BlockBeginnings.{assign_begins, block_begins, checks_typed, comes_to, if_begins, loop_begins, n_typed, source_typed}
use Rattle.sc_machine_laws.proofs.states.CallBeginnings.{call_begins, kept_actuals, none_given}

module _ (s : System) (pure : RoutineName → Bool) (r : Routine) (me : Reference) (run : IsRun s pure r me) (p : Point) (b : BaseOf s r me p) where
  -- ---- creations

  untagged : (t : EntityType) → is_tagged t.tag ≡ false → (t.tag ≡ tag.None → ⊥) → (t.tag ≡ tag.Own) ⊎ (t.tag ≡ tag.Any)
  untagged t e f = by t.tag refl e f
    where
      by : (g : Tag) → t.tag ≡ g → is_tagged g ≡ false → (g ≡ tag.None → ⊥) → (t.tag ≡ tag.Own) ⊎ (t.tag ≡ tag.Any)
      by tag.Own i e f = inl i
      by tag.Any i e f = inr i
      by tag.None i e f = absurd (f refl)
      by (tag.With y) i e f = cc

  -- what is assigned is of a class of the system, and its objects lie somewhere
  abbrev IsSomeType : EntityType → Type 0
  IsSomeType t = IsClassOf s t.class × (t.tag ≡ tag.None → ⊥)

  attribute_type : (d : DeclaredType) (o : Option EntityType) → declared_type s [] d ≡ o → (t : EntityType) → option_map (combined_result (current (context_in s pure p.text))) o ≡ Some t → IsSomeType t
  attribute_type d None i t e = cc
  attribute_type d (Some g) i t e = subst IsSomeType (same_some e) (by (is_expanded g.class) (declared_types_stand s [] d g i))
    where
      by : (c : Bool) → IsSomeType g → IsSomeType (if c then record { attached = true; tag = tag.Own; class = g.class } else record { attached = g.attached; tag = g.tag; class = g.class })
      by true (c, f) = (c, λ e. cc)
      by false (c, f) = (c, f)

  assigned_type : (v : Variable) (t : EntityType) → assignee_type (assignee (context_in s pure p.text) (scope_of p.environment) v) ≡ Some t → p.text ≡ r.text → IsSomeType t
  assigned_type (tree.ResultVariable q) t e own = by p.text.result refl e
    where
      by : (o : Option (Option EntityType)) → p.text.result ≡ o → assignee_type (assignee_of_result o) ≡ Some t → IsSomeType t
      by None i e = cc
      by (Some o) i e = run.result_type t (ap (λ (t : Text). t.result) (sym own) ∙ i ∙ ap (λ o. Some o) e)
  assigned_type (tree.Named x) t e own = by (binding_named x.text p.environment) refl
      (subst (λ o. assignee_type (assignee_or (context_in s pure p.text) x.text o) ≡ Some t) (named_alike x.text p.environment) e)
    where
      of_kind : (k : FeatureKind) → assignee_type (assignee_of_kind (context_in s pure p.text) k) ≡ Some t → IsSomeType t
      of_kind (tree.Attribute d) e = attribute_type d (declared_type s [] d) refl t e
      of_kind (tree.Routine c) e = cc

      of_feature : (o : Option DeclaredFeature) → assignee_type (assignee_of_feature (context_in s pure p.text) o) ≡ Some t → IsSomeType t
      of_feature None e = cc
      of_feature (Some f) e = of_kind f.feature.kind e

      of_print : (c : Bool) → assignee_type (if c then unassignable else assignee_of_feature (context_in s pure p.text) (feature_named s (class.Declared p.text.class) x.text)) ≡ Some t → IsSomeType t
      of_print true e = cc
      of_print false e = of_feature (feature_named s (class.Declared p.text.class) x.text) e

      of_local : (y : Binding) → LocalIsDeclared s y → (c : Bool) → is_local y.role ≡ c → assignee_type (if c then to_local (Some y.type) else unassignable) ≡ Some t → IsSomeType t
      of_local y f false i e = cc
      of_local y f true i e = let d = f i in subst IsSomeType (same_some e) (declared_types_stand s d.0 d.1 y.type d.2)

      by : (o : Option Binding) → binding_named x.text p.environment ≡ o → assignee_type (assignee_or (context_in s pure p.text) x.text (option_map known_of o)) ≡ Some t → IsSomeType t
      by None i e = of_print (is_print x.text) e
      by (Some y) i e = of_local y (found_each (LocalIsDeclared s) x.text p.environment y b.names_fit.locals_are_declared i) (is_local y.role) refl e

  -- a class whose objects are made is declared
  record IsDeclared (t : EntityType) : Type 0 where
    pub number : ℕ
    pub is : t.class ≡ class.Declared number
    pub is_class : number < length s.classes

  declared_class : (t : EntityType) → IsSomeType t → (k : ℕ) → t.class ≡ class.Declared k → IsDeclared t
  declared_class t f k e = record { number = k; is = e; is_class = subst (IsClassOf s) e f.0 }

  made_declared : (t : EntityType) (call : Option CreationCall) → IsSomeType t → MayBeCreated (context_in s pure p.text) t call → IsDeclared t
  made_declared t _ f (rules.made_without_procedure e) = by t.class refl e
    where
      by : (c : ClassId) → t.class ≡ c → is_made_without_procedure s c ≡ true → IsDeclared t
      by (class.Declared k) i e = declared_class t f k i
      by class.Any i e = cc
      by class.None i e = cc
      by class.Integer i e = cc
      by class.Boolean i e = cc
  made_declared t _ f (rules.made_by {k} e m may) = by t.class refl e
    where
      by : (c : ClassId) → t.class ≡ c → is_made_by s c k.name ≡ true → IsDeclared t
      by (class.Declared k) i e = declared_class t f k i
      by class.Any i e = cc
      by class.None i e = cc
      by class.Integer i e = cc
      by class.Boolean i e = cc

  create_begins : (q : Span) (c : Creation) → p.text ≡ r.text → Stands s pure (context_in s pure p.text) (instruction (scope_of p.environment) (tree.Create q c)) → TasksTyped s pure r p p.tasks [] →
      StandsSo s pure r me [] (record p { tasks = (evals 0 (actuals_of c.call) ++ CreateBy c.variable (procedure_of c.call) (count (actuals_of c.call)) ∷ []) ++ p.tasks; values = [] })
  create_begins q c own st k = of_law (creations_stand_lem s pure run.well_formed run.purity (context_in s pure p.text) (scope_of p.environment) q c st)
    where
      type_is : {t : EntityType} {a : Assignee} → IsOfType t a → assignee_type a ≡ Some t
      type_is rules.is_local = refl
      type_is rules.is_attribute = refl

      -- the actuals are evaluated, and the creation takes them
      evaluated : (call : Option (List ℕ)) (es : Exprs) (t : EntityType) (z : SourcesTyped (context_in s pure p.text) context.Body (scope_of p.environment) es) →
          assignee_type (assignee (context_in s pure p.text) (scope_of p.environment) c.variable) ≡ Some t → IsMade s (place_in s p.text) t z.all call →
          StandsSo s pure r me [] (record p { tasks = (evals 0 es ++ CreateBy c.variable call (count es) ∷ []) ++ p.tasks; values = [] })
      evaluated call es t z e made = of_actuals (actuals_typed s pure r me run p.text b.text_is (scope_of p.environment) (n_typed s pure r me run p b) (types_of p.olds) (freely_all z.typed))
        where
          same_types : (xs ys : List EntityType) → somes xs ≡ somes ys → xs ≡ ys
          same_types [] [] e = refl
          same_types [] (y ∷ ys) e = cc
          same_types (x ∷ xs) [] e = cc
          same_types (x ∷ xs) (y ∷ ys) e = let i : x ≡ y = cc in let j : somes xs ≡ somes ys = cc in ap₂ (λ x xs. x ∷ xs) i (same_types xs ys j)

          of_actuals : ActualsTyped s pure r me run p.text b.text_is (scope_of p.environment) (n_typed s pure r me run p b) es z.typings (types_of p.olds) →
              StandsSo s pure r me [] (record p { tasks = (evals 0 es ++ CreateBy c.variable call (count es) ∷ []) ++ p.tasks; values = [] })
          of_actuals y = comes_to s pure r me run p b ((evals 0 es ++ CreateBy c.variable call (count es) ∷ []) ++ p.tasks)
              (subst (λ k. TasksTyped s pure r p k []) (sym (append_assoc (evals 0 es) (CreateBy c.variable call (count es) ∷ []) p.tasks))
              (y.typed 0 (CreateBy c.variable call (count es) ∷ p.tasks) [] (kept_actuals s pure r me run p b es z)
              (typed.create y.all own (ap assignee_type (sym (assignee_same (context_in s pure p.text) (scope_of p.environment) c.variable)) ∙ e)
              (subst (λ ts. IsMade s (place_in s p.text) t ts call) (same_types z.all y.all (sym z.are ∙ y.are)) made) y.as_many refl k)))

      of_call : (call : Option CreationCall) → c.call ≡ call → (t : EntityType) → assignee_type (assignee (context_in s pure p.text) (scope_of p.environment) c.variable) ≡ Some t →
          is_tagged t.tag ≡ false → IsSomeType t → MayBeCreated (context_in s pure p.text) t call →
          StandsSo s pure r me [] (record p { tasks = (evals 0 (actuals_of call) ++ CreateBy c.variable (procedure_of call) (count (actuals_of call)) ∷ []) ++ p.tasks; values = [] })
      of_call None i t e g f may = let d = made_declared t None f may in
          evaluated None no_exprs t (record { typings = []; all = []; typed = typing.none; are = refl; as_many = refl }) e (typed.without d.is_class d.is (untagged t g f.1) refl)
      of_call (Some y) i t e g f (rules.made_by {g = m} l meant may) =
          evaluated (Some y.name.text) y.actuals t z e (typed.by d.is_class d.is (untagged t g f.1) meant (none_given s pure r me run p b m.gives may.used_as_it_is)
          (take_of s z.typings z.all m z.are (taken_together (context_in s pure p.text) context.Body (scope_of p.environment) y.actuals z.typings z.typed m
          (creation_actuals_conform_lem s pure run.well_formed run.purity (context_in s pure p.text) (scope_of p.environment) q c y st i t m e meant)
          (λ i e u w z' l f. absurd (no_expanded (feature_meant s t (feature_named s t.class y.name.text) m meant) i l)))
          (sym z.as_many ∙ may.as_many_actuals)))
        where
          d : IsDeclared t
          d = made_declared t (Some y) f (rules.made_by {g = m} l meant may)

          z : SourcesTyped (context_in s pure p.text) context.Body (scope_of p.environment) y.actuals
          z = sources_typed (context_in s pure p.text) context.Body (scope_of p.environment) y.actuals (λ e j.
              source_typed s pure r me run p b st context.Body Source e (site.creation_actual_part i j))

          -- a routine takes references
          of_declarations : (all ds : List Declaration) (i : ℕ) → slice_get (map (λ (d : Declaration). formal_type (declared_type s all d.declared_type)) ds) i ≡ Some of_expanded → ⊥
          of_declarations all [] i l = cc
          of_declarations all (d ∷ ds) (suc i) l = of_declarations all ds i l
          of_declarations all (d ∷ ds) zero l = by (declared_type s all d.declared_type) l
            where
              by : (o : Option EntityType) → Some (formal_type o) ≡ Some of_expanded → ⊥
              by None e = cc
              by (Some t) e = cc

          of_kind : (f : DeclaredFeature) (k : FeatureKind) (i : ℕ) → slice_get (signature_of_kind s t f k).formals i ≡ Some of_expanded → ⊥
          of_kind f (tree.Attribute d) i l = cc
          of_kind f (tree.Routine c) i l = of_declarations c.formals c.formals i l

          no_expanded : FeatureMeant s t (feature_named s t.class y.name.text) m → (i : ℕ) → slice_get m.formals i ≡ Some of_expanded → ⊥
          no_expanded w i l = of_kind w.feature w.feature.feature.kind i (ap (λ (g : Signature). slice_get g.formals i) w.signature_is ∙ l)

      of_law : (t : EntityType) × IsOfType t (assignee (context_in s pure p.text) (scope_of p.environment) c.variable) × (is_tagged t.tag ≡ false) × MayBeCreated (context_in s pure p.text) t c.call →
          StandsSo s pure r me [] (record p { tasks = (evals 0 (actuals_of c.call) ++ CreateBy c.variable (procedure_of c.call) (count (actuals_of c.call)) ∷ []) ++ p.tasks; values = [] })
      of_law (t, is_of, g, may) = of_call c.call refl t (type_is is_of) g (assigned_type c.variable t (type_is is_of) own) may

  -- An instruction begins.
  begins_step : (i : Instr) → p.text ≡ r.text → Stands s pure (context_in s pure p.text) (instruction (scope_of p.environment) i) → TasksTyped s pure r p p.tasks [] →
      StepFits s pure r me (begins i (record p { values = [] }))
  begins_step (tree.Assign q x e) own st k = assign_begins s pure r me run p b q x e own st k
  begins_step (tree.PrintText q text) own st k = comes_to s pure r me run p b p.tasks k
  begins_step (tree.CallRoutine q a x es) own st k = call_begins s pure r me run p b q a x es st k
  begins_step (tree.Create q c) own st k = create_begins q c own st k
  begins_step (tree.If q e body bs other) own st k = if_begins s pure r me run p b q e body bs other own st k
  begins_step (tree.Loop q initial e body) own st k = loop_begins s pure r me run p b q initial e body own st k
  begins_step (tree.Check q ks) own st k = comes_to s pure r me run p b (checks ks ++ p.tasks)
      (checks_typed s pure r me run p b ks (λ c i. truthful s pure r me run p.text context.Check Plain (scope_of p.environment) c.condition st (site.check_part i) (of_check i)) p.tasks k)
  begins_step (tree.Block q ds body) own st k = block_begins s pure r me run p b q ds body own st k

-- A body's first instruction begins, or the body ends.
pub body_step : (s : System) (pure : RoutineName → Bool) (r : Routine) (me : Reference) (run : IsRun s pure r me) (p : Point) (b : BaseOf s r me p) (is : Instrs) → p.text ≡ r.text →
    Stands s pure (context_in s pure p.text) (instructions (scope_of p.environment) is) → TasksTyped s pure r p p.tasks [] → StepFits s pure r me (performs s me (Do is) [] (record p { values = [] }))
body_step s pure r me run p b no_instrs own st k = goes s pure r me p b [] p.tasks [] k tt
body_step s pure r me run p b (instr_then i js) own st k =
    begins_step s pure r me run (record p { tasks = Do js ∷ p.tasks }) b i own (part_stands st site.first_part) (typed.body own (part_stands st site.others_part) k)
