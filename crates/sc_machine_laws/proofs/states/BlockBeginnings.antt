-- Assignments, conditionals, loops, checks and separate blocks begin.
use Rattle.std.specs.List.{list_all}
use Rattle.std.specs.Prelude.{Contains, length, map}
use Rattle.std.proofs.Common.{◌&&◌, ◌++◌, Bool, List, Some, [], ap, append_assoc, arith, false, refl, subst, suc, sym, true, zero, ℕ, ◌∙◌, ◌∷◌, ◌≡◌}
use Rattle.sc_text.specs.declared.token.Span.{Span}
use Rattle.sc_tree.specs.Plain as tree
use Rattle.sc_tree.specs.Plain.{Branches, Clause, Expr, Head, Instrs, System, Variable}
use Rattle.sc_class.specs.Tables.Conformance.{class_conforms}
use Rattle.sc_class.specs.declared.identity.ClassId.TheVariants as class
use Rattle.sc_rules.specs.entity_types.Conformance.{mark_conforms}
use Rattle.sc_rules.specs.entity_types.Tags.{tag_conforms}
use Rattle.sc_rules.specs.declared.entity_types.entity_type.EntityType.{EntityType}
use Rattle.sc_rules.specs.declared.entity_types.tag.Tag.TheVariants as tag
use Rattle.sc_rules.specs.InstructionLaws as rules
use Rattle.sc_rules.specs.InstructionLaws.{IsOfType, of_if, of_loop}
use Rattle.sc_rules.specs.Laws.{are_typed}
use Rattle.sc_rules.specs.Names.{Assignee, Entities, RoutineName, assignee, assignee_type, block_type, blocks, entity}
use Rattle.sc_rules.specs.Positions.{is_ensure}
use Rattle.sc_rules.specs.Sites as site
use Rattle.sc_rules.specs.Sites.{Part, Site, expression, instruction}
use Rattle.sc_rules.specs.SystemLaws.{Stands}
use Rattle.sc_rules.specs.Typing as typing
use Rattle.sc_rules.specs.Typing.{Gives, HasType, Typing, types, typing}
use Rattle.sc_rules.specs.declared.position.Context.{Context}
use Rattle.sc_rules.specs.declared.position.Context.TheVariants as context
use Rattle.sc_rules.specs.declared.position.Position.{Position}
use Rattle.sc_rules.specs.declared.position.Position.TheVariants.{Condition, Plain, Source}
use Rattle.sc_rules.specs.declared.position.Role.TheVariants as role
use Rattle.sc_rules.proofs.EachTyped.{each_is_typed_lem}
use Rattle.sc_rules.proofs.InstructionLaws.{variables_stand_lem}
use Rattle.sc_rules.proofs.TextLaws.{heads_conform}
use Rattle.sc_rules.proofs.WellFormed.{right_sides_conform_lem}
use Rattle.sc_model.specs.Environments.{scope_of}
use Rattle.sc_model.specs.Routines.{Routine, place_in}
use Rattle.sc_model.specs.Runs.{run}
use Rattle.sc_model.specs.Steps.{Point}
use Rattle.sc_model.specs.Tasks.{AssignTo, Choose, Do, Eval, Open, Repeat, Task, checks, head_evals}
use Rattle.sc_model.specs.Values.{Reference}
use Rattle.sc_machine_laws.specs.states.Points.{types_of}
use Rattle.sc_machine_laws.specs.states.ValueSteps.{StandsSo}
use Rattle.sc_machine_laws.specs.states.Typed as typed
use Rattle.sc_machine_laws.specs.states.Typed.{OldsKept, Opens, context_in, stacked}
use Rattle.sc_machine_laws.proofs.states.Blocks.{scope_length}
use Rattle.sc_machine_laws.proofs.states.Choices.{IsTruthful, given_there, part_stands, truthful}
use Rattle.sc_machine_laws.proofs.states.Free.{assignee_same, freely, freely_given, gives_extend}
use Rattle.sc_machine_laws.proofs.states.Names.{all_typed}
use Rattle.sc_machine_laws.proofs.states.Olds.{kept_outside}
use Rattle.sc_machine_laws.proofs.states.RoutinePoints.{BaseOf, IsRun, TasksTyped, goes}

module _ (s : System) (pure : RoutineName → Bool) (r : Routine) (me : Reference) (run : IsRun s pure r me) (p : Point) (b : BaseOf s r me p) where
  pub comes_to : (k : List Task) → TasksTyped s pure r p k [] → StandsSo s pure r me [] (record p { tasks = k; values = [] })
  comes_to k d = goes s pure r me p b [] k [] d tt

  -- nothing is kept for what stands outside of postconditions
  pub outside : (i : ℕ) {c : Context} {q : Position} {e : Expr} {y : Typing} → is_ensure c ≡ false → HasType (place_in s p.text) c q (scope_of p.environment) e y →
      OldsKept s p.text (scope_of p.environment) i e (types_of p.olds)
  outside i w d = kept_outside s p.text (scope_of p.environment) (types_of p.olds) i w d

  pub n_typed : are_typed (scope_of p.environment) ≡ true
  n_typed = all_typed p.environment

  -- each expression that stands there has a type
  pub source_typed : {a : Site} → Stands s pure (context_in s pure p.text) a → (c : Context) (q : Position) (e : Expr) → Part (context_in s pure p.text) a (expression c q (scope_of p.environment) e) →
      (u : EntityType) × (w : Bool) × HasType (context_in s pure p.text) c q (scope_of p.environment) e (typing (Some u) w)
  source_typed st c q e w = each_is_typed_lem s pure run.well_formed run.purity (context_in s pure p.text) c q (scope_of p.environment) e (part_stands st w)

  -- ---- assignment, print of a text, conditional, loop and check

  pub assign_begins : (q : Span) (x : Variable) (e : Expr) → p.text ≡ r.text → Stands s pure (context_in s pure p.text) (instruction (scope_of p.environment) (tree.Assign q x e)) →
      TasksTyped s pure r p p.tasks [] → StandsSo s pure r me [] (record p { tasks = Eval 0 e ∷ AssignTo x ∷ p.tasks; values = [] })
  assign_begins q x e own st k = of_type (source_typed st context.Body Source e site.source_part)
      (variables_stand_lem s pure run.well_formed run.purity (context_in s pure p.text) (scope_of p.environment) (tree.Assign q x e) x st rules.assigns)
    where
      type_is : {t : EntityType} {a : Assignee} → IsOfType t a → assignee_type a ≡ Some t
      type_is rules.is_local = refl
      type_is rules.is_attribute = refl

      of_type : (a : EntityType) × (w : Bool) × HasType (context_in s pure p.text) context.Body Source (scope_of p.environment) e (typing (Some a) w) →
          (t : EntityType) × IsOfType t (assignee (context_in s pure p.text) (scope_of p.environment) x) → StandsSo s pure r me [] (record p { tasks = Eval 0 e ∷ AssignTo x ∷ p.tasks; values = [] })
      of_type (a, w, d) (t, is_of) = comes_to (Eval 0 e ∷ AssignTo x ∷ p.tasks)
          (typed.eval context.Body Source refl (w, freely d) (outside 0 refl (freely d))
          (typed.assign own (ap assignee_type (sym (assignee_same (context_in s pure p.text) (scope_of p.environment) x)) ∙ type_is is_of)
          (right_sides_conform_lem s pure run.well_formed run.purity (context_in s pure p.text) (scope_of p.environment) q x e st t a w (type_is is_of) d) k))

  pub if_begins : (q : Span) (e : Expr) (body : Instrs) (bs : Branches) (other : Instrs) → p.text ≡ r.text →
      Stands s pure (context_in s pure p.text) (instruction (scope_of p.environment) (tree.If q e body bs other)) → TasksTyped s pure r p p.tasks [] →
      StandsSo s pure r me [] (record p { tasks = Eval 0 e ∷ Choose (length p.environment) body bs other ∷ p.tasks; values = [] })
  if_begins q e body bs other own st k = of_names (given_there s pure r me run p.text context.Body (scope_of p.environment) e st site.condition_part)
    where
      c : IsTruthful s p.text context.Body Condition (scope_of p.environment) e
      c = truthful s pure r me run p.text context.Body Condition (scope_of p.environment) e st site.condition_part of_if

      of_names : (m : Entities) × Gives (context_in s pure p.text) context.Body (scope_of p.environment) e m →
          StandsSo s pure r me [] (record p { tasks = Eval 0 e ∷ Choose (length p.environment) body bs other ∷ p.tasks; values = [] })
      of_names (m, g) = comes_to (Eval 0 e ∷ Choose (length p.environment) body bs other ∷ p.tasks)
          (typed.condition context.Body refl c.typed c.is_boolean (freely_given g)
          (typed.choose own (scope_length p.environment) (gives_extend g) (part_stands st (site.then_part g)) (part_stands st site.elseif_part) (part_stands st site.else_part) k))

  pub loop_begins : (q : Span) (initial : Instrs) (e : Expr) (body : Instrs) → p.text ≡ r.text →
      Stands s pure (context_in s pure p.text) (instruction (scope_of p.environment) (tree.Loop q initial e body)) → TasksTyped s pure r p p.tasks [] →
      StandsSo s pure r me [] (record p { tasks = Do initial ∷ Repeat e body ∷ p.tasks; values = [] })
  loop_begins q initial e body own st k =
      let c = truthful s pure r me run p.text context.Body Plain (scope_of p.environment) e st site.until_part of_loop in
      comes_to (Do initial ∷ Repeat e body ∷ p.tasks) (typed.body own (part_stands st site.from_part) (typed.repeat own c.typed c.is_boolean (part_stands st site.loop_part) k))

  pub checks_typed : (ks : List Clause) → ((k : Clause) → Contains ks k → IsTruthful s p.text context.Check Plain (scope_of p.environment) k.condition) → (rest : List Task) → TasksTyped s pure r p rest [] →
      TasksTyped s pure r p (checks ks ++ rest) []
  checks_typed [] c rest d = d
  checks_typed (k ∷ ks) c rest d =
      let t = c k (zero, omega arith, refl) in
      typed.eval context.Check Plain refl t.typed (outside 0 refl t.typed.1) (typed.checked t.is_boolean (checks_typed ks (λ k i. c k (suc i.0, omega (arith, i.1), i.2)) rest d))

  -- ---- separate blocks

  record HeadTyped (d : Head) : Type 0 where
    pub type : EntityType
    pub is_separate : Bool
    pub typed : HasType (context_in s pure p.text) context.Body Plain (scope_of p.environment) d.value (typing (Some type) is_separate)
    pub attached : type.attached ≡ true

  record HeadsTyped (m : Entities) (ds : List Head) : Type 0 where
    pub types : List EntityType
    pub last : Entities
    pub opened : Opens m (map (λ (d : Head). d.name) ds) types last
    pub reserved : site.Reserves (context_in s pure p.text) (scope_of p.environment) m ds last
    pub attached : list_all (λ (t : EntityType). t.attached) types ≡ true
    pub typed : (k : List Task) (ts : List EntityType) → TasksTyped s pure r p k (stacked types ts) → TasksTyped s pure r p (head_evals ds ++ k) ts

  heads_typed : (m : Entities) (ds : List Head) → ((d : Head) → Contains ds d → HeadTyped d) → HeadsTyped m ds
  heads_typed m [] c = record { types = []; last = m; opened = typed.no_more; reserved = site.no_more; attached = refl; typed = λ k ts d. d }
  heads_typed m (d ∷ ds) c = by (c d (zero, omega arith, refl)) (λ m. heads_typed m ds (λ d i. c d (suc i.0, omega (arith, i.1), i.2)))
    where
      by : HeadTyped d → ((m : Entities) → HeadsTyped m ds) → HeadsTyped m (d ∷ ds)
      by t go = let z = go (m ++ entity d.name.text (block_type (blocks m) (Some t.type)) role.Block ∷ []) in record {
        types = t.type ∷ z.types;
        last = z.last;
        opened = typed.one_more z.opened;
        reserved = site.one_more t.typed z.reserved;
        attached = ap (λ b. b && list_all (λ (t : EntityType). t.attached) z.types) t.attached ∙ z.attached;
        typed = λ k ts l. typed.eval context.Body Plain refl (t.is_separate, freely t.typed) (outside 0 refl (freely t.typed)) (z.typed k (t.type ∷ ts) l);
      }

  pub block_begins : (q : Span) (ds : List Head) (body : Instrs) → p.text ≡ r.text → Stands s pure (context_in s pure p.text) (instruction (scope_of p.environment) (tree.Block q ds body)) →
      TasksTyped s pure r p p.tasks [] → StandsSo s pure r me [] (record p { tasks = (head_evals ds ++ Open (map (λ (d : Head). d.name) ds) body ∷ []) ++ p.tasks; values = [] })
  block_begins q ds body own st k = comes_to ((head_evals ds ++ Open (map (λ (d : Head). d.name) ds) body ∷ []) ++ p.tasks)
      (subst (λ k. TasksTyped s pure r p k []) (sym (append_assoc (head_evals ds) (Open (map (λ (d : Head). d.name) ds) body ∷ []) p.tasks))
      (z.typed (Open (map (λ (d : Head). d.name) ds) body ∷ p.tasks) [] (typed.open_block z.types own z.opened z.attached (part_stands st (site.block_part z.reserved)) refl k)))
    where
      marks : (a c : Bool) (t : EntityType) → (a && mark_conforms t.attached true && c) ≡ true → t.attached ≡ true
      marks true c t e = by t.attached c e
        where
          by : (b c : Bool) → (mark_conforms b true && c) ≡ true → b ≡ true
          by true c e = refl
          by false c e = cc
      marks false c t e = cc

      head_typed : (d : Head) → Contains ds d → HeadTyped d
      head_typed d i = of_type (source_typed st context.Body Plain d.value (site.head_part i))
        where
          of_type : (a : EntityType) × (w : Bool) × HasType (context_in s pure p.text) context.Body Plain (scope_of p.environment) d.value (typing (Some a) w) → HeadTyped d
          of_type (a, w, f) = record {
            type = a;
            is_separate = w;
            typed = f;
            attached = marks (class_conforms s a.class class.Any) (tag_conforms a.tag tag.Any) a
                (heads_conform s pure run.well_formed run.purity (context_in s pure p.text) (scope_of p.environment) q (record { heads = ds; body = body }) st d i a w f);
          }

      z : HeadsTyped (scope_of p.environment) ds
      z = heads_typed (scope_of p.environment) ds head_typed
