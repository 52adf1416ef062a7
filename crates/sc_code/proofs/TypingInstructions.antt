-- The instructions of a well-formed text have their types in flat code.
use Rattle.std.proofs.Common.{◌≡◌, ℕ, suc, ◌+◌, Bool, true, false, List, [], ◌∷◌, ◌++◌, length, Option, Some, None, refl, sym, ap, ◌∙◌, subst, arith}
use Rattle.std.specs.Prelude.{Contains, ◌||◌, not, is_some, bytes_eq, if◌then◌else◌}
use Rattle.sc_text.specs.declared.token.Span.{Span}
use Rattle.sc_tree.specs.Plain as tree
use Rattle.sc_tree.specs.Plain.{FeatureKind, Name, Variable, Named, ResultVariable, CreationCall, Creation, Expr, Exprs, no_exprs, expr_then, Target, Head, Clause, Conditional, Iteration, SeparateBlock, Instr, Instrs, no_instrs, instr_then, Branches, no_branches, branch_then}
use Rattle.sc_class.specs.declared.identity.ClassId.TheVariants as class
use Rattle.sc_tree.specs.Properties.{is_print}
use Rattle.sc_class.specs.Tables.Features.{DeclaredFeature, feature_named}
use Rattle.sc_rules.specs.declared.entity_types.tag.Tag.{Tag}
use Rattle.sc_rules.specs.declared.entity_types.tag.Tag.TheVariants as tag
use Rattle.sc_rules.specs.declared.entity_types.entity_type.EntityType.{EntityType}
use Rattle.sc_rules.specs.declared.position.Context.{Context}
use Rattle.sc_rules.specs.declared.position.Context.TheVariants as context
use Rattle.sc_rules.specs.declared.position.Position.{Position}
use Rattle.sc_rules.specs.declared.position.Position.TheVariants as spot
use Rattle.sc_rules.specs.declared.position.Role.TheVariants as role
use Rattle.sc_rules.specs.declared.position.Use.TheVariants.{Instruction}
use Rattle.sc_rules.specs.Types.{declared_type}
use Rattle.sc_rules.specs.Positions.{is_ensure, is_condition}
use Rattle.sc_rules.specs.Names.{RoutineName, Entity, Entities, entity, entity_named, Signature, named, current, signature_of, entity_signature, print_signature, meaning_of_feature, entity_or, meaning_of, is_local, blocks, block_type, unassignable, to_local, to_attribute, assignee_of_kind, assignee_of_feature, assignee_of_result, assignee_or, assignee}
use Rattle.sc_rules.specs.Typing.{Typing, HasReceiver, explicit, Gives}
use Rattle.sc_rules.specs.Sites.{Site, expression, instruction, instructions, branches, IsActual, first_actual, later_actual, Reserves, no_more, one_more, Part, source_part, call_target_part, call_actual_part, creation_actual_part, condition_part, then_part, elseif_part, else_part, from_part, until_part, loop_part, check_part, block_part, first_part, others_part, branch_condition_part, branch_part, later_branches_part, itself, inside}
use Rattle.sc_rules.specs.CallRules.{count}
use Rattle.sc_rules.specs.Purity.{IsPurity}
use Rattle.sc_rules.specs.TextRules.{is_tagged}
use Rattle.sc_rules.specs.SystemRules.{WellFormed}
use Rattle.sc_rules.specs.SystemLaws.{Stands, stands_in, as_instruction}
use Rattle.sc_rules.specs.InstructionLaws.{IsOfType, assigns}
use Rattle.sc_rules.specs.Laws.{AllDeclared, HasResult, are_typed}
use Rattle.sc_rules.proofs.WellFormed.{further}
use Rattle.sc_rules.proofs.TypeLaws.{declared}
use Rattle.sc_rules.proofs.Typings.{found_holds}
use Rattle.sc_rules.proofs.EachTyped.{stands_typed, each_is_typed_lem}
use Rattle.sc_rules.proofs.CallLaws.{calls_stand_lem}
use Rattle.sc_rules.proofs.InstructionLaws.{variables_stand_lem, creations_stand_lem}
use Rattle.sc_rules.proofs.TextLaws.{conditions_give, blocks_reserve}
use Rattle.sc_rules.proofs.Versions.{declared_types_stand}
use Rattle.sc_model.specs.Olds.{olds_in}
use Rattle.sc_model.specs.Instructions.{actuals_of}
use Rattle.sc_code.specs.Places.{Setting, here, known_type, with_type, head_types, with_heads, names_given}
use Rattle.sc_code.specs.Emitted.{names_of}
use Rattle.sc_code.specs.Typed as typed
use Rattle.sc_code.specs.Typed.{IsTyped, AreTyped, AreHeads, AreClauses, IsVariable, IsInstr, AreInstrs, AreBranches}
use Rattle.sc_code.proofs.Codes.{type_is}
use Rattle.sc_code.proofs.TypedOperands.{slot_there, some_there, same_signature, judged, ResultKept}
use Rattle.sc_code.proofs.TypingExpressions.{without_olds, condition_typed, gives_is_given}
use Rattle.sc_code.proofs.LyingTypes.{class_made, first_of, given_lie, gives_none, is_somewhere, later_of, lies_if_local, lies_somewhere, locals_lie, of_attribute, of_local, of_nothing, of_unknown, own_attribute_lies, reserved_lie}

module _ (h : Setting) (pure : RoutineName → Bool) (well : WellFormed h.system) (tells : IsPurity h.system pure) (has : HasResult (judged pure h))
    (own : h.result ≡ known_type h.text.result) (lies : (t : EntityType) → h.text.result ≡ Some (Some t) → is_somewhere t.tag ≡ true) where
  all : AllDeclared h.system
  all = declared h.system pure tells well

  kept : ResultKept h
  kept t e = let type = some_there t (has t e) in (type.0, own ∙ ap known_type (e ∙ ap (λ t. Some t) type.1))

  abbrev pub There : Site → Type 0
  There b = Stands h.system pure (judged pure h) b

  part_there : {a b : Site} → There a → Part (judged pure h) a b → There b
  part_there (stands_in t w) p = stands_in t (further w (inside p itself))

  -- ---- expressions

  plain : (c : Context) (k : Position) (n : Entities) (i : ℕ) (e : Expr) → is_ensure c ≡ false → is_condition k ≡ false → There (expression c k n e) →
      (t : EntityType) × IsTyped h n i e t
  plain c k n i e j q v =
      let type = each_is_typed_lem h.system pure well tells (judged pure h) c k n e v in
      let is = without_olds h pure all has kept type.2 q j (stands_typed well tells v).1 i in
      (is.0, is.2)

  actuals : (n : Entities) (i : ℕ) (es : Exprs) → ((e : Expr) → IsActual e es → There (expression context.Body spot.Source n e)) →
      (ts : List EntityType) × AreTyped h n i es ts
  actuals n i no_exprs v = ([], typed.none)
  actuals n i (expr_then e es) v =
      let first = plain context.Body spot.Source n i e refl refl (v e first_actual) in
      let others = actuals n (i + olds_in e) es (λ d a. v d (later_actual a)) in
      (first.0 ∷ others.0, typed.more first.1 others.1)

  clauses : (n : Entities) (ks : List Clause) → ((k : Clause) → Contains ks k → There (expression context.Check spot.Plain n k.condition)) →
      AreClauses h n ks
  clauses n [] v = typed.no_clause
  clauses n (k ∷ ks) v =
      typed.more_clauses (plain context.Check spot.Plain n 0 k.condition refl refl (v k (first_of k ks))).1
      (clauses n ks (λ d a. v d (later_of k ks d a)))

  -- a condition, and the names that are known where it holds
  record Condition (n : Entities) (e : Expr) : Type 0 where
    names : Entities
    is_typed : typed.IsCondition h n 0 e
    gives : Gives (judged pure h) context.Body n e names
    are_given : names ≡ names_given h n 0 e

  condition : (n : Entities) (e : Expr) → There (expression context.Body spot.Condition n e) → Condition n e
  condition n e v =
      let type = each_is_typed_lem h.system pure well tells (judged pure h) context.Body spot.Condition n e v in
      let names = conditions_give h.system pure well tells (judged pure h) context.Body n e v in
      let known = (stands_typed well tells v).1 in
      record {
        names = names.0;
        is_typed = condition_typed h pure all has kept type.2 refl known 0;
        gives = names.1;
        are_given = gives_is_given h pure all has kept type.2 names.1 refl known 0;
      }

  -- ---- variables

  -- a variable of the type, which says where objects are
  abbrev Holds : Entities → Variable → EntityType → Type 0
  Holds n v t = IsVariable h n v t × (is_somewhere t.tag ≡ true)

  variable_typed : (n : Entities) (v : Variable) (t : EntityType) → locals_lie n ≡ true → IsOfType t (assignee (judged pure h) n v) →
      Holds n v t
  variable_typed n (ResultVariable q) t l e = by h.text.result refl e
    where
      by : (o : Option (Option EntityType)) → h.text.result ≡ o → IsOfType t (assignee_of_result o) → Holds n (ResultVariable q) t
      by None is e = absurd (of_nothing e)
      by (Some u) is e =
          let there = is ∙ ap (λ u. Some u) (of_local e) in
          (typed.own_result there (own ∙ ap known_type there), lies t there)
  variable_typed n (Named x) t l e = by_name (entity_named x.text n) refl e
    where
      by_role : (d : Entity) → entity_named x.text n ≡ Some d → (b : Bool) → is_local d.role ≡ b → (not b || lies_somewhere d.type) ≡ true →
          IsOfType t (if b then to_local d.type else unassignable) → Holds n (Named x) t
      by_role d is true j f e =
          let slot = slot_there x.text n d is in
          let type = of_local e in
          let named_so : assignee (here h) n (Named x) ≡ to_local (Some t) =
          ap (assignee_or (here h) x.text) is ∙ ap (λ b. if b then to_local d.type else unassignable) j ∙ ap to_local type in
          (typed.local named_so slot.1, ap lies_somewhere (sym type) ∙ f)
      by_role d is false j f e = absurd (of_nothing e)

      by_kind : (f : DeclaredFeature) (k : FeatureKind) → f.feature.kind ≡ k →
          assignee (here h) n (Named x) ≡ assignee_of_kind (here h) f.feature.kind →
          IsOfType t (assignee_of_kind (judged pure h) k) → Holds n (Named x) t
      by_kind f (tree.Attribute d) k is e =
          let type = of_attribute e in (
            typed.own_attribute (is ∙ ap (assignee_of_kind (here h)) k ∙ ap to_attribute type),
            own_attribute_lies h.text.class (declared_type h.system [] d) t (λ u i. (declared_types_stand h.system [] d u i).1) type,
          )
      by_kind f (tree.Routine r) k is e = absurd (of_nothing e)

      by_feature : (f : Option DeclaredFeature) → assignee (here h) n (Named x) ≡ assignee_of_feature (here h) f →
          IsOfType t (assignee_of_feature (judged pure h) f) → Holds n (Named x) t
      by_feature None is e = absurd (of_unknown e)
      by_feature (Some f) is e = by_kind f f.feature.kind refl is e

      by_print : (b : Bool) → is_print x.text ≡ b → entity_named x.text n ≡ None →
          IsOfType t (if b then unassignable else assignee_of_feature (judged pure h) (feature_named h.system (class.Declared h.text.class) x.text)) →
          Holds n (Named x) t
      by_print true j is e = absurd (of_nothing e)
      by_print false j is e =
          let found = feature_named h.system (class.Declared h.text.class) x.text in
          by_feature found (ap (assignee_or (here h) x.text) is ∙ ap (λ b. if b then unassignable else assignee_of_feature (here h) found) j) e

      by_name : (o : Option Entity) → entity_named x.text n ≡ o → IsOfType t (assignee_or (judged pure h) x.text o) →
          Holds n (Named x) t
      by_name (Some d) is e = by_role d is (is_local d.role) refl (found_holds lies_if_local (λ e. bytes_eq e.name x.text) n d l is) e
      by_name None is e = by_print (is_print x.text) refl is e

  -- ---- calls and creations

  abbrev IsCall : Entities → Span → Target → Name → Exprs → Type 0
  IsCall n q a x es = IsInstr h n (tree.CallRoutine q a x es)

  -- the feature of Current of the name
  abbrev own_feature : Name → Option DeclaredFeature
  own_feature x = feature_named h.system (class.Declared h.text.class) x.text

  routine_called : (n : Entities) (q : Span) (x : Name) (es : Exprs) → There (instruction n (tree.CallRoutine q tree.no_target x es)) →
      IsCall n q tree.no_target x es
  routine_called n q x es v =
      let stands = calls_stand_lem h.system pure well tells (judged pure h) _ Instruction context.Body n tree.no_target x es v as_instruction in
      let types = actuals n 0 es (λ e a. part_there v (call_actual_part a)) in
      by_name stands.1 (entity_named x.text n) stands.3 stands.4.used_as_it_is stands.4.as_many_actuals types.0 types.1
    where
      by_count : (es : Exprs) (ts : List EntityType) → is_print x.text ≡ true → count es ≡ 1 → AreTyped h n 0 es ts → IsCall n q tree.no_target x es
      by_count no_exprs ts p c as' = let no : 0 ≡ 1 = c in absurd (omega (arith, no))
      by_count (expr_then e no_exprs) ts p c (typed.more a typed.none) = typed.print p a
      by_count (expr_then e (expr_then d es)) ts p c as' = let no : suc (suc (count es)) ≡ 1 = c in absurd (omega (arith, no))

      by_feature : (g : Signature) (f : Option DeclaredFeature) → is_print x.text ≡ false → own_feature x ≡ f →
          meaning_of_feature h.system (current (here h)) f ≡ named g → is_some g.gives ≡ false → (ts : List EntityType) → AreTyped h n 0 es ts →
          IsCall n q tree.no_target x es
      by_feature g None p is m e ts as' = cc
      by_feature g (Some f) p is m e ts as' = typed.call p is (gives_none (signature_of h.system (current (here h)) f) g m e) as'

      by_print : (g : Signature) (b : Bool) → is_print x.text ≡ b →
          (if b then named (print_signature (judged pure h)) else meaning_of_feature h.system (current (here h)) (own_feature x)) ≡ named g →
          is_some g.gives ≡ false → count es ≡ length g.formals → (ts : List EntityType) → AreTyped h n 0 es ts → IsCall n q tree.no_target x es
      by_print g true p m e c ts as' =
          by_count es ts p (c ∙ ap (λ (g : Signature). length g.formals) (sym (same_signature (print_signature (judged pure h)) g m))) as'
      by_print g false p m e c ts as' = by_feature g (own_feature x) p refl m e ts as'

      by_name : (g : Signature) (o : Option Entity) → entity_or (judged pure h) x.text o ≡ named g → is_some g.gives ≡ false →
          count es ≡ length g.formals →
          (ts : List EntityType) → AreTyped h n 0 es ts → IsCall n q tree.no_target x es
      by_name g (Some d) m e c ts as' = let no : Some d.type ≡ None = gives_none (entity_signature (judged pure h) d) g m e in cc
      by_name g None m e c ts as' = by_print g (is_print x.text) refl m e c ts as'

  feature_called : (n : Entities) (q : Span) (a : Expr) (x : Name) (es : Exprs) → There (instruction n (tree.CallRoutine q (tree.target a) x es)) →
      IsCall n q (tree.target a) x es
  feature_called n q a x es v =
      let stands = calls_stand_lem h.system pure well tells (judged pure h) _ Instruction context.Body n (tree.target a) x es v as_instruction in
      by_receiver stands.0 stands.1 stands.2 stands.3 stands.4.used_as_it_is
    where
      by_feature : (g : Signature) (u : EntityType) → IsTyped h n 0 a u → (f : Option DeclaredFeature) → feature_named h.system u.class x.text ≡ f →
          meaning_of_feature h.system u f ≡ named g → is_some g.gives ≡ false → IsCall n q (tree.target a) x es
      by_feature g u p None is m e = cc
      by_feature g u p (Some f) is m e =
          let types = actuals n 0 es (λ e a. part_there v (call_actual_part a)) in
          typed.call_on p is (gives_none (signature_of h.system u f) g m e) types.1

      by_receiver : (r : Typing) (g : Signature) → HasReceiver (judged pure h) context.Body n (tree.target a) r →
          meaning_of (judged pure h) n (tree.target a) r.type x ≡ named g →
          is_some g.gives ≡ false → IsCall n q (tree.target a) x es
      by_receiver r g (explicit {t = t} d) m e =
          let known = (stands_typed well tells (part_there v call_target_part)).1 in
          let target = without_olds h pure all has kept d refl refl known 0 in
          by_feature g target.0 target.2 (feature_named h.system target.0.class x.text) refl
          (subst (λ o. meaning_of (judged pure h) n (tree.target a) o x ≡ named g) target.1 m) e

  created : (n : Entities) (q : Span) (c : Creation) → locals_lie n ≡ true → There (instruction n (tree.Create q c)) → IsInstr h n (tree.Create q c)
  created n q c l v =
      let stands = creations_stand_lem h.system pure well tells (judged pure h) n q c v in
      let made = class_made stands.3 in
      let variable = variable_typed n c.variable stands.0 l stands.1 in
      let types = by_call c.call refl in
      by_tag stands.0 made.0 made.1 stands.2 variable.0 variable.1 types.0 types.1 stands.0.tag refl
    where
      by_call : (o : Option CreationCall) → c.call ≡ o → (ts : List EntityType) × AreTyped h n 0 (actuals_of o) ts
      by_call None is = ([], typed.none)
      by_call (Some k) is = actuals n 0 k.actuals (λ e a. part_there v (creation_actual_part is a))

      by_tag : (t : EntityType) (k : ℕ) → t.class ≡ class.Declared k → is_tagged t.tag ≡ false → IsVariable h n c.variable t →
          is_somewhere t.tag ≡ true →
          (ts : List EntityType) → AreTyped h n 0 (actuals_of c.call) ts → (g : Tag) → t.tag ≡ g → IsInstr h n (tree.Create q c)
      by_tag t k d f w e ts as' tag.Own is = typed.create as' w is d
      by_tag t k d f w e ts as' tag.Any is = typed.create_handler as' w is d
      by_tag t k d f w e ts as' (tag.With y) is = let no : true ≡ false = ap is_tagged (sym is) ∙ f in cc
      by_tag t k d f w e ts as' tag.None is = let no : false ≡ true = ap is_somewhere (sym is) ∙ e in cc

  -- ---- separate blocks

  -- the heads of a block, and the names that are known in its body
  record Opened (n m o : Entities) (ds : List Head) : Type 0 where
    heads : AreHeads h n ds (head_types h n ds)
    are_known : o ≡ with_heads (names_of ds) (head_types h n ds) m

  opened : (n m o : Entities) (ds : List Head) → are_typed n ≡ true → Reserves (judged pure h) n m ds o → Opened n m o ds
  opened n m o [] w no_more = record { heads = typed.no_head; are_known = refl }
  opened n m o (d ∷ ds) w (one_more {t = t} v r) =
      let value = without_olds h pure all has kept v refl refl w 0 in
      let is = type_is h n 0 d.value value.0 value.2 in
      let after = m ++ entity d.name.text (block_type (blocks m) t.type) role.Block ∷ [] in
      let rest = opened n after o ds w r in
      let types : head_types h n (d ∷ ds) ≡ value.0 ∷ head_types h n ds = ap (λ o. with_type o (head_types h n ds)) is in
      record {
        heads = subst (AreHeads h n (d ∷ ds)) (sym types) (typed.more_heads value.2 rest.heads);
        are_known = rest.are_known
            ∙ ap (λ o. with_heads (names_of ds) (head_types h n ds) (m ++ entity d.name.text (block_type (blocks m) o) role.Block ∷ [])) value.1
            ∙ ap (λ ts. with_heads (names_of (d ∷ ds)) ts m) (sym types);
      }

  -- ---- instructions

  mutual
    pub instruction_typed : (n : Entities) (i : Instr) → locals_lie n ≡ true → There (instruction n i) → IsInstr h n i
    instruction_typed n (tree.Assign q v e) l w =
        let value = plain context.Body spot.Source n 0 e refl refl (part_there w source_part) in
        let variable = variables_stand_lem h.system pure well tells (judged pure h) n (tree.Assign q v e) v w assigns in
        typed.assign value.1 (variable_typed n v variable.0 l variable.1).0
    instruction_typed n (tree.PrintText q text) l w = typed.print_text
    instruction_typed n (tree.CallRoutine q tree.no_target x es) l w = routine_called n q x es w
    instruction_typed n (tree.CallRoutine q (tree.target a) x es) l w = feature_called n q a x es w
    instruction_typed n (tree.Create q c) l w = created n q c l w
    instruction_typed n (tree.If q e body bs other) l w =
        let choice : Conditional = record { condition = e; body = body; branches = bs; other = other } in
        let holds = condition n e (part_there w (condition_part {choice = choice})) in
        let inner = instructions_typed holds.names body (given_lie holds.gives l) (part_there w (then_part {choice = choice} holds.gives)) in
        typed.conditional holds.is_typed (subst (λ m. AreInstrs h m body) holds.are_given inner)
        (branches_typed n bs l (part_there w (elseif_part {choice = choice})))
        (instructions_typed n other l (part_there w (else_part {choice = choice})))
    instruction_typed n (tree.Loop q initial e body) l w =
        let loop : Iteration = record { initial = initial; until = e; body = body } in
        typed.loop (instructions_typed n initial l (part_there w (from_part {loop = loop})))
        (plain context.Body spot.Plain n 0 e refl refl (part_there w (until_part {loop = loop}))).1
        (instructions_typed n body l (part_there w (loop_part {loop = loop})))
    instruction_typed n (tree.Check q ks) l w = typed.check (clauses n ks (λ k a. part_there w (check_part a)))
    instruction_typed n (tree.Block q ds body) l w =
        let block : SeparateBlock = record { heads = ds; body = body } in
        let names = blocks_reserve h.system pure well tells (judged pure h) n q block w in
        let head = opened n n names.0 ds (stands_typed well tells w).1 names.1 in
        let inner = instructions_typed names.0 body (reserved_lie names.1 l) (part_there w (block_part {block = block} names.1)) in
        typed.block head.heads (subst (λ m. AreInstrs h m body) head.are_known inner)

    pub instructions_typed : (n : Entities) (is : Instrs) → locals_lie n ≡ true → There (instructions n is) → AreInstrs h n is
    instructions_typed n no_instrs l w = typed.no_instr
    instructions_typed n (instr_then i is) l w =
        typed.more_instrs (instruction_typed n i l (part_there w first_part)) (instructions_typed n is l (part_there w others_part))

    branches_typed : (n : Entities) (bs : Branches) → locals_lie n ≡ true → There (branches n bs) → AreBranches h n bs
    branches_typed n no_branches l w = typed.no_branch
    branches_typed n (branch_then e body bs) l w =
        let holds = condition n e (part_there w branch_condition_part) in
        let inner = instructions_typed holds.names body (given_lie holds.gives l) (part_there w (branch_part holds.gives)) in
        typed.more_branches holds.is_typed (subst (λ m. AreInstrs h m body) holds.are_given inner)
        (branches_typed n bs l (part_there w later_branches_part))
