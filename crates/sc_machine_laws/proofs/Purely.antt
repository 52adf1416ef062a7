-- What contracts, and the bodies of pure functions, call and assign without a target: they call pure functions alone, and such a body assigns no attribute.
use Rattle.std.proofs.Common.{◌≡◌, ℕ, Bool, true, false, List, ◌++◌, Option, Some, None, refl, sym, ap, subst, ◌∙◌}
use Rattle.std.specs.Prelude.{if◌then◌else◌, is_some, Contains, slice_get}
use Rattle.sc_text.specs.declared.token.Span.{Span}
use Rattle.sc_tree.specs.Plain as tree
use Rattle.sc_tree.specs.Plain.{System, Class, RoutineDeclaration, Clause, Name, Target, Variable, Named, ResultVariable, Expr, Exprs, Instr, Instrs, no_instrs, instr_then, Branches, no_branches, branch_then}
use Rattle.sc_tree.specs.Properties.{is_print}
use Rattle.sc_class.specs.ClassNames.{Root}
use Rattle.sc_class.specs.declared.identity.ClassId.TheVariants as class
use Rattle.sc_class.specs.Faults.ClassRules.{IsFaultless, duplicate_feature}
use Rattle.sc_class.specs.Faults.Scopes.{tests_of, ExprClashes, InstrClashes, in_source, in_if, in_then, in_elseif, in_else, in_from, in_until, in_loop, in_check, InstrsClash, in_first_instr, in_other_instrs, BranchesClash, in_branch_condition, in_branch, in_later_branch, entity_names, feature_names, RoutineClashes, in_precondition, in_body, in_postcondition, in_routine}
use Rattle.sc_class.specs.Faults.Scopes as scopes
use Rattle.sc_class.specs.declared.fault.ClassFault.TheVariants as fault
use Rattle.sc_class.specs.Tables.Features.{DeclaredFeature, declared_features, features, feature_named, named_among}
use Rattle.sc_rules.specs.declared.entity_types.entity_type.EntityType.{EntityType}
use Rattle.sc_rules.specs.declared.position.Context.{Context}
use Rattle.sc_rules.specs.declared.position.Context.TheVariants as context
use Rattle.sc_rules.specs.declared.position.Position.{Position}
use Rattle.sc_rules.specs.declared.position.Position.TheVariants.{Plain, Source, Condition}
use Rattle.sc_rules.specs.declared.position.Use.TheVariants.{Instruction}
use Rattle.sc_rules.specs.InstructionLaws as changed
use Rattle.sc_rules.specs.InstructionLaws.{IsOfType}
use Rattle.sc_rules.specs.Names.{RoutineName, RoutineContext, Entity, Entities, entity_named, context_of, current, formals_known, locals_known, known_in_body, unassignable, assignee, assignee_of_feature, assignee_of_kind, assignee_or, given_type, Signature, named, meaning_of, routine_of}
use Rattle.sc_rules.specs.Positions.{is_condition, wants_pure}
use Rattle.sc_rules.specs.Purity.{IsPurity, IsClosed, calls, HasSideEffect, assigns, creates, prints, opens, calls_procedure}
use Rattle.sc_rules.specs.Purity as purity
use Rattle.sc_rules.specs.PurityLaws as body
use Rattle.sc_rules.specs.Sites.{Site, expression, instruction, instructions, branches, Part, source_part, condition_part, then_part, elseif_part, else_part, from_part, until_part, loop_part, check_part, first_part, others_part, branch_condition_part, branch_part, later_branches_part, Within, itself}
use Rattle.sc_rules.specs.SystemLaws as laws
use Rattle.sc_rules.specs.SystemLaws.{Stands, stands_in}
use Rattle.sc_rules.specs.SystemRules.{WellFormed}
use Rattle.sc_rules.specs.Typing.{may_call, implicit}
use Rattle.sc_rules.proofs.CallLaws.{calls_stand_lem}
use Rattle.sc_rules.proofs.EachTyped.{each_is_typed_lem}
use Rattle.sc_rules.proofs.InstructionLaws.{variables_stand_lem}
use Rattle.sc_rules.proofs.PureBodies.{pure_bodies_have_no_effect, pure_bodies_call_pure}
use Rattle.sc_rules.proofs.PurityLaws.{pure_is_closed}
use Rattle.sc_rules.proofs.TextLaws.{conditions_give}
use Rattle.sc_machine_laws.proofs.Texts.{OfExpr, OfClauses, OfVariable, OfInstr, OfInstrs, OfBranches}
use Rattle.sc_machine_laws.proofs.FreeNames.{Apart, AreFree, AssignsNone, CallsPure, Covers, all_free, apart_more, covers_more, features_cover, formals_apart, found_free, free_before, free_behind, locals_apart}
use Rattle.sc_machine_laws.proofs.PureCalls.{Unclashing, Wants, all_clauses, gives_apart, typed_pure, wanted, wants_part, within_then}

module _ (s : System) (root : Root) (pure : RoutineName → Bool) (faultless : IsFaultless s root) (well : WellFormed s) (tells : IsPurity s pure)
    (d : DeclaredFeature) (c : Class) (is_class : slice_get s.classes d.class ≡ Some c) (declares : Contains c.features d.feature)
    (routine : RoutineDeclaration) (kind : d.feature.kind ≡ tree.Routine routine) where
  abbrev judged : RoutineContext
  judged = context_of s pure d.class routine

  abbrev pub C : List ℕ → Type 0
  C = CallsPure s pure d.class

  abbrev own : List Name
  own = feature_names (features s d.class)

  covers : Covers s d.class own
  covers = features_cover s d.class

  no_clash : (p : Span) → RoutineClashes own (tree.Routine routine) p → ⊥
  no_clash p z = faultless (fault.DuplicateFeature p) (duplicate_feature is_class
      (in_routine (declares.0, d.feature, declares.1, declares.2, subst (λ m. RoutineClashes own m p) (sym kind) z)))

  names_free : AreFree s d.class (entity_names routine.formals ++ entity_names routine.locals)
  names_free = all_free s d.class own (entity_names routine.formals ++ entity_names routine.locals) covers (λ p z. no_clash p (scopes.entity z))

  contract_apart : Apart s d.class (formals_known s routine.formals)
  contract_apart = formals_apart s d.class routine.formals 0 routine.formals
      (free_before s d.class (entity_names routine.formals) (entity_names routine.locals) names_free)

  body_apart : Apart s d.class (known_in_body s routine)
  body_apart = apart_more s d.class (formals_known s routine.formals) (locals_known s routine.formals routine.locals) contract_apart
      (locals_apart s d.class routine.formals routine.locals (free_behind s d.class (entity_names routine.formals) (entity_names routine.locals) names_free))

  -- ---- contracts

  clause_pure : (x : Context) (q : Clause) → wants_pure x ≡ true → Stands s pure judged (expression x Plain (formals_known s routine.formals) q.condition) →
      ((p : Span) → ExprClashes (own ++ entity_names routine.formals) q.condition p → ⊥) → OfExpr C q.condition
  clause_pure x q w v f =
      let z = each_is_typed_lem s pure well tells judged x Plain (formals_known s routine.formals) q.condition v in
      typed_pure s pure d.class routine Wants (wants_part judged) (λ c q n z x es g i m may r e. wanted judged c g.routine r i.wants may e) z.2 (record { wants = w })
      (own ++ entity_names routine.formals) (covers_more s d.class own (entity_names routine.formals) covers) f contract_apart

  -- The precondition calls pure functions alone without a target.
  pub precondition_pure : OfClauses C routine.precondition
  precondition_pure = all_clauses C routine.precondition
      (λ q l. clause_pure context.Require q refl (stands_in (laws.precondition is_class declares kind l) itself)
      (λ p z. no_clash p (in_precondition (l.0, q, l.1, l.2, z))))

  -- So does the postcondition.
  pub postcondition_pure : OfClauses C routine.postcondition
  postcondition_pure = all_clauses C routine.postcondition
      (λ q l. clause_pure context.Ensure q refl (stands_in (laws.postcondition is_class declares kind l) itself)
      (λ p z. no_clash p (in_postcondition (l.0, q, l.1, l.2, z))))

  -- ---- bodies

  module _ (there : named_among d.feature.name.text (declared_features s d.class) ≡ Some d) (is_pure : pure (routine_of d) ≡ true) where
    abbrev top : Site
    top = instructions (known_in_body s routine) routine.body

    abbrev A : List ℕ → Type 0
    A = AssignsNone s d.class

    closed : IsClosed s pure
    closed = pure_is_closed s pure tells

    stands : {b : Site} → Within judged top b → Stands s pure judged b
    stands w = stands_in (laws.body is_class declares kind) w

    no_effect : (b : Site) → Within judged top b → HasSideEffect judged b → ⊥
    no_effect b w e = pure_bodies_have_no_effect s pure (routine_of d) judged b closed is_pure (body.in_body there kind w) e

    abbrev Inside : Context → Position → Entities → Expr → Type 0
    Inside x q n e = Within judged top (expression x q n e)

    inside_part : (x y : Context) (q r : Position) (n m : Entities) (e a : Expr) → Inside x q n e → Part judged (expression x q n e) (expression y r m a) → Inside y r m a
    inside_part x y q r n m e a w p = within_then w p

    inside_pure : (x : Context) (q : Position) (n : Entities) (z : Span) (y : Name) (es : Exprs) (g : Signature) → Inside x q n (tree.Call z tree.no_target y es) →
        meaning_of judged n tree.no_target (Some (current judged)) y ≡ named g → may_call judged x g.routine ≡ true → (r : RoutineName) → g.routine ≡ Some r → pure r ≡ true
    inside_pure x q n z y es g w m may r e =
        pure_bodies_call_pure s pure (routine_of d) r judged (expression x q n (tree.Call z tree.no_target y es)) g closed is_pure (body.in_body there kind w)
        (calls purity.as_value implicit m) e

    expr_pure : (x : Context) (q : Position) (n : Entities) (e : Expr) → Inside x q n e → (known : List Name) → Covers s d.class known →
        Unclashing (is_condition q) known e → Apart s d.class n → OfExpr C e
    expr_pure x q n e w known c f a =
        let z = each_is_typed_lem s pure well tells judged x q n e (stands w) in
        typed_pure s pure d.class routine Inside inside_part inside_pure z.2 w known c f a

    gives_none : (o : Option (Option EntityType)) → is_some o ≡ false → o ≡ None
    gives_none None e = refl
    gives_none (Some t) e = cc

    no_call : (n : Entities) (q : Span) (a : Target) (x : Name) (es : Exprs) → Within judged top (instruction n (tree.CallRoutine q a x es)) → ⊥
    no_call n q a x es w =
        let z = calls_stand_lem s pure well tells judged (instruction n (tree.CallRoutine q a x es)) Instruction context.Body n a x es (stands w) laws.as_instruction in
        no_effect (instruction n (tree.CallRoutine q a x es)) w (calls_procedure (calls purity.as_instruction z.2 z.3) (gives_none z.1.gives z.4.used_as_it_is))

    attribute_free : (n : Entities) (q : Span) (x : Name) (e : Expr) → Within judged top (instruction n (tree.Assign q (Named x) e)) → Apart s d.class n → A x.text
    attribute_free n q x e w a f t there i = by (entity_named x.text n) refl
      where
        assigned : (b : Bool) → assignee judged n (Named x) ≡ (if b then unassignable else assignee_of_feature judged (feature_named s (class.Declared d.class) x.text)) → ⊥
        assigned true j =
            let z = variables_stand_lem s pure well tells judged n (tree.Assign q (Named x) e) (Named x) (stands w) changed.assigns in
            elim (subst (IsOfType z.0) j z.1) [ ]
        assigned false j =
            no_effect (instruction n (tree.Assign q (Named x) e)) w
            (assigns {t = given_type s (current judged) t} (j ∙ ap (assignee_of_feature judged) there ∙ ap (assignee_of_kind judged) i))

        by : (o : Option Entity) → entity_named x.text n ≡ o → ⊥
        by (Some y) j = found_free s d.class x.text n y j a f there
        by None j = assigned (is_print x.text) (ap (assignee_or judged x.text) j)

    variable_local : (n : Entities) (q : Span) (v : Variable) (e : Expr) → Within judged top (instruction n (tree.Assign q v e)) → Apart s d.class n → OfVariable A v
    variable_local n q (ResultVariable p) e w a = tt
    variable_local n q (Named x) e w a = attribute_free n q x e w a

    mutual
      instr_pure : (i : Instr) (n : Entities) → Within judged top (instruction n i) → (known : List Name) → Covers s d.class known →
          ((p : Span) → InstrClashes known i p → ⊥) → Apart s d.class n → OfInstr C A ⊥ i
      instr_pure (tree.Assign q v e) n w known c f a = (
        variable_local n q v e w a,
        expr_pure context.Body Source n e (within_then w source_part) known c (λ p z. f p (in_source z)) a,
      )
      instr_pure (tree.PrintText q text) n w known c f a = no_effect (instruction n (tree.PrintText q text)) w prints
      instr_pure (tree.CallRoutine q tree.no_target x es) n w known c f a = absurd (no_call n q tree.no_target x es w)
      instr_pure (tree.CallRoutine q (tree.target b) x es) n w known c f a = absurd (no_call n q (tree.target b) x es w)
      instr_pure (tree.Create q k) n w known c f a = absurd (no_effect (instruction n (tree.Create q k)) w creates)
      instr_pure (tree.If q e is bs other) n w known c f a =
          let z = conditions_give s pure well tells judged context.Body n e (stands (within_then w (condition_part {choice = choice}))) in (
            expr_pure context.Body Condition n e (within_then w (condition_part {choice = choice})) known c (λ p z. f p (in_if {c = choice} z)) a,
            (
              instrs_pure is z.0 (within_then w (then_part {choice = choice} z.1)) (known ++ tests_of e) (covers_more s d.class known (tests_of e) c)
                  (λ p z. f p (in_then {c = choice} z)) (gives_apart s pure d.class routine z.1 known c (λ p z. f p (in_if {c = choice} z)) a),
              (
                branches_pure bs n (within_then w (elseif_part {choice = choice})) known c (λ p z. f p (in_elseif {c = choice} z)) a,
                instrs_pure other n (within_then w (else_part {choice = choice})) known c (λ p z. f p (in_else {c = choice} z)) a,
              ),
            ),
          )
        where
          choice : tree.Conditional
          choice = record { condition = e; body = is; branches = bs; other = other }
      instr_pure (tree.Loop q initial e is) n w known c f a = (
        instrs_pure initial n (within_then w (from_part {loop = loop})) known c (λ p z. f p (in_from {l = loop} z)) a,
        (
          expr_pure context.Body Plain n e (within_then w (until_part {loop = loop})) known c (λ p z. f p (in_until {l = loop} z)) a,
          instrs_pure is n (within_then w (loop_part {loop = loop})) known c (λ p z. f p (in_loop {l = loop} z)) a,
        ),
      )
        where
          loop : tree.Iteration
          loop = record { initial = initial; until = e; body = is }
      instr_pure (tree.Check q ks) n w known c f a = all_clauses C ks
          (λ k l. expr_pure context.Check Plain n k.condition (within_then w (check_part l)) known c (λ p z. f p (in_check (l.0, k, l.1, l.2, z))) a)
      instr_pure (tree.Block q ds is) n w known c f a =
          absurd (no_effect (instruction n (tree.Block q ds is)) w (opens {block = record { heads = ds; body = is }}))

      instrs_pure : (is : Instrs) (n : Entities) → Within judged top (instructions n is) → (known : List Name) → Covers s d.class known →
          ((p : Span) → InstrsClash known is p → ⊥) → Apart s d.class n → OfInstrs C A ⊥ is
      instrs_pure no_instrs n w known c f a = tt
      instrs_pure (instr_then i is) n w known c f a = (
        instr_pure i n (within_then w first_part) known c (λ p z. f p (in_first_instr z)) a,
        instrs_pure is n (within_then w others_part) known c (λ p z. f p (in_other_instrs z)) a,
      )

      branches_pure : (bs : Branches) (n : Entities) → Within judged top (branches n bs) → (known : List Name) → Covers s d.class known →
          ((p : Span) → BranchesClash known bs p → ⊥) → Apart s d.class n → OfBranches C A ⊥ bs
      branches_pure no_branches n w known c f a = tt
      branches_pure (branch_then e is bs) n w known c f a =
          let z = conditions_give s pure well tells judged context.Body n e (stands (within_then w branch_condition_part)) in (
            expr_pure context.Body Condition n e (within_then w branch_condition_part) known c (λ p z. f p (in_branch_condition z)) a,
            (
              instrs_pure is z.0 (within_then w (branch_part z.1)) (known ++ tests_of e) (covers_more s d.class known (tests_of e) c)
                  (λ p z. f p (in_branch z)) (gives_apart s pure d.class routine z.1 known c (λ p z. f p (in_branch_condition z)) a),
              branches_pure bs n (within_then w later_branches_part) known c (λ p z. f p (in_later_branch z)) a,
            ),
          )

    -- The body of a pure function calls pure functions alone without a target, and assigns no attribute.
    pub body_pure : OfInstrs C (AssignsNone s d.class) ⊥ routine.body
    body_pure = instrs_pure routine.body (known_in_body s routine) itself ((own ++ entity_names routine.formals) ++ entity_names routine.locals)
        (covers_more s d.class (own ++ entity_names routine.formals) (entity_names routine.locals) (covers_more s d.class own (entity_names routine.formals) covers))
        (λ p z. no_clash p (in_body z)) body_apart
