-- The places that the functions of `specs/Internal/ScopeSearch` give are those at which names clash.
use Rattle.std.proofs.Common.{◌≡◌, ℕ, Bool, true, false, List, [], ◌∷◌, ◌++◌, Option, Some, None, map, refl, ap, sym, subst, ◌∙◌, ◌⊎◌, inl, inr}
use Rattle.std.specs.Prelude.{Any, slice_get, if◌then◌else◌}
use Rattle.std.specs.Option.{option_map_or}
use Rattle.std.proofs.lemmas.List.{append_assoc, append-nil}
use Rattle.sc_text.specs.declared.token.Span.{Span}
use Rattle.sc_tree.specs.declared.expression.UnaryOperator.{UnaryOperator}
use Rattle.sc_tree.specs.declared.expression.BinaryOperator.{BinaryOperator}
use Rattle.sc_tree.specs.declared.expression.BinaryOperator.TheVariants.{AndThen}
use Rattle.sc_tree.specs.Plain.{System, Class, Feature, FeatureKind, Attribute, Routine, RoutineDeclaration, DeclaredType, Clause, Head, Name, Variable, Creation, CreationCall, Expr, Integer, Boolean, Void, Current, Result, Call, Unary, Binary, ObjectTest, Target, no_target, target, Exprs, no_exprs, expr_then, Instr, Assign, PrintText, CallRoutine, Create, If, Loop, Check, Block, Instrs, no_instrs, instr_then, Branches, no_branches, branch_then}
use Rattle.sc_class.specs.Internal.Places.{Lists}
use Rattle.sc_class.specs.Names.{Clashes, OneClashes}
use Rattle.sc_class.specs.Faults.Scopes.{tests_of, head_names, entity_names, ExprClashes, in_target, in_actuals, in_operand, in_left, in_right, in_tested, test_name, TargetClashes, in_target_value, ExprsClash, in_first, in_others, ConditionClashes, in_whole, in_left_test, in_right_test, ClausesClash, InstrClashes, in_source, in_call_target, in_call_actuals, in_creation, in_if, in_then, in_elseif, in_else, in_from, in_until, in_loop, in_check, in_heads, head_name, in_block, InstrsClash, in_first_instr, in_other_instrs, BranchesClash, in_branch_condition, in_branch, in_later_branch, RoutineClashes, entity, in_precondition, in_body, in_postcondition, ClassClashes, in_features, in_routine, in_invariant, feature_names, inherited_names}
use Rattle.sc_class.specs.Tables.Features.{redefined_by, not_redefined, inherited_features, features}
use Rattle.sc_class.specs.declared.faults.scopes.features.Part.TheVariants.{Inherited}
use Rattle.sc_tree.specs.Properties.{is_and_then}
use Rattle.sc_class.specs.Internal.ScopeSearch.{name_clash, names_clash, expr_clash, target_clash, exprs_clash, condition_clash, clauses_clash, values_clash, creation_clash, instr_clash, instrs_clash, branches_clash, kind_clash, kinds_clash, texts_clash, class_clash, names_of_part}
use Rattle.sc_class.proofs.Anys.{any_none, any_first, any_later, any_split}
use Rattle.sc_class.proofs.Items.{some_is}
use Rattle.sc_class.proofs.NamesFound.{name_found, names_found, one_left, one_parts, one_right, wider_name}
use Rattle.sc_class.proofs.PlaceLists.{nothing, both, same, either_of}

-- ---- expressions

call_parts : {known : List Name} {s : Span} {t : Target} {n : Name} {es : Exprs} {p : Span} → ExprClashes known (Call s t n es) p → TargetClashes known t p ⊎ ExprsClash known es p
call_parts (in_target c) = inl c
call_parts (in_actuals c) = inr c

unary_part : {known : List Name} {s : Span} {op : UnaryOperator} {a : Expr} {p : Span} → ExprClashes known (Unary s op a) p → ExprClashes known a p
unary_part (in_operand c) = c

binary_parts : {known : List Name} {s : Span} {op : BinaryOperator} {a b : Expr} {p : Span} → ExprClashes known (Binary s op a b) p → ExprClashes known a p ⊎ ExprClashes known b p
binary_parts (in_left c) = inl c
binary_parts (in_right c) = inr c

test_parts : {known : List Name} {s : Span} {t : Option DeclaredType} {e : Expr} {n : Name} {p : Span} → ExprClashes known (ObjectTest s t e n) p → ExprClashes known e p ⊎ Clashes known n p
test_parts (in_tested c) = inl c
test_parts (test_name c) = inr c

target_part : {known : List Name} {e : Expr} {p : Span} → TargetClashes known (target e) p → ExprClashes known e p
target_part (in_target_value c) = c

exprs_parts : {known : List Name} {e : Expr} {es : Exprs} {p : Span} → ExprsClash known (expr_then e es) p → ExprClashes known e p ⊎ ExprsClash known es p
exprs_parts (in_first c) = inl c
exprs_parts (in_others c) = inr c

mutual
  unfolding expr_clash

  pub expr_found : (fs ns : List Name) (e : Expr) → Lists (ExprClashes (fs ++ ns) e) (expr_clash fs ns e)
  expr_found fs ns (Integer s i) = nothing (ExprClashes (fs ++ ns) (Integer s i)) (λ p x. elim x [ ])
  expr_found fs ns (Boolean s b) = nothing (ExprClashes (fs ++ ns) (Boolean s b)) (λ p x. elim x [ ])
  expr_found fs ns (Void s) = nothing (ExprClashes (fs ++ ns) (Void s)) (λ p x. elim x [ ])
  expr_found fs ns (Current s) = nothing (ExprClashes (fs ++ ns) (Current s)) (λ p x. elim x [ ])
  expr_found fs ns (Result s) = nothing (ExprClashes (fs ++ ns) (Result s)) (λ p x. elim x [ ])
  expr_found fs ns (Call s t n es) =
      both (TargetClashes (fs ++ ns) t) (ExprsClash (fs ++ ns) es) (ExprClashes (fs ++ ns) (Call s t n es)) (target_clash fs ns t) (exprs_clash fs ns es)
      (λ p c. in_target c) (λ p c. in_actuals c) (λ p c. call_parts c) (target_found fs ns t) (exprs_found fs ns es)
  expr_found fs ns (Unary s op a) =
      same (ExprClashes (fs ++ ns) a) (ExprClashes (fs ++ ns) (Unary s op a)) (expr_clash fs ns a) (λ p c. in_operand c) (λ p c. unary_part c) (expr_found fs ns a)
  expr_found fs ns (Binary s op a b) =
      both (ExprClashes (fs ++ ns) a) (ExprClashes (fs ++ ns) b) (ExprClashes (fs ++ ns) (Binary s op a b)) (expr_clash fs ns a) (expr_clash fs ns b)
      (λ p c. in_left c) (λ p c. in_right c) (λ p c. binary_parts c) (expr_found fs ns a) (expr_found fs ns b)
  expr_found fs ns (ObjectTest s t e n) =
      both (ExprClashes (fs ++ ns) e) (Clashes (fs ++ ns) n) (ExprClashes (fs ++ ns) (ObjectTest s t e n)) (expr_clash fs ns e) (name_clash fs ns n)
      (λ p c. in_tested c) (λ p c. test_name c) (λ p c. test_parts c) (expr_found fs ns e) (name_found fs ns n)

  pub target_found : (fs ns : List Name) (t : Target) → Lists (TargetClashes (fs ++ ns) t) (target_clash fs ns t)
  target_found fs ns no_target = nothing (TargetClashes (fs ++ ns) no_target) (λ p x. elim x [ ])
  target_found fs ns (target e) =
      same (ExprClashes (fs ++ ns) e) (TargetClashes (fs ++ ns) (target e)) (expr_clash fs ns e) (λ p c. in_target_value c) (λ p c. target_part c) (expr_found fs ns e)

  pub exprs_found : (fs ns : List Name) (es : Exprs) → Lists (ExprsClash (fs ++ ns) es) (exprs_clash fs ns es)
  exprs_found fs ns no_exprs = nothing (ExprsClash (fs ++ ns) no_exprs) (λ p x. elim x [ ])
  exprs_found fs ns (expr_then e es) =
      both (ExprClashes (fs ++ ns) e) (ExprsClash (fs ++ ns) es) (ExprsClash (fs ++ ns) (expr_then e es)) (expr_clash fs ns e) (exprs_clash fs ns es)
      (λ p c. in_first c) (λ p c. in_others c) (λ p c. exprs_parts c) (expr_found fs ns e) (exprs_found fs ns es)

mutual
  wider_expr : {known : List Name} (more : List Name) {e : Expr} {p : Span} → ExprClashes known e p → ExprClashes (known ++ more) e p
  wider_expr more (in_target c) = in_target (wider_target more c)
  wider_expr more (in_actuals c) = in_actuals (wider_exprs more c)
  wider_expr more (in_operand c) = in_operand (wider_expr more c)
  wider_expr more (in_left c) = in_left (wider_expr more c)
  wider_expr more (in_right c) = in_right (wider_expr more c)
  wider_expr more (in_tested c) = in_tested (wider_expr more c)
  wider_expr more (test_name c) = test_name (wider_name more c)

  wider_target : {known : List Name} (more : List Name) {t : Target} {p : Span} → TargetClashes known t p → TargetClashes (known ++ more) t p
  wider_target more (in_target_value c) = in_target_value (wider_expr more c)

  wider_exprs : {known : List Name} (more : List Name) {es : Exprs} {p : Span} → ExprsClash known es p → ExprsClash (known ++ more) es p
  wider_exprs more (in_first c) = in_first (wider_expr more c)
  wider_exprs more (in_others c) = in_others (wider_exprs more c)

-- ---- conditions

and_then_only : (op : BinaryOperator) → is_and_then op ≡ true → op ≡ AndThen
and_then_only AndThen e = refl
and_then_only op e = cc

-- whether two conditions are joined so that the names of the left one are known in the right one
abbrev joins : Expr → Bool
joins (Binary s op a b) = is_and_then op
joins _ = false

whole_only : {known : List Name} {e : Expr} {p : Span} → joins e ≡ false → ConditionClashes known e p → ExprClashes known e p
whole_only i (in_whole c) = c
whole_only i (in_left_test c) = cc
whole_only i (in_right_test c) = cc

condition_parts : {known : List Name} {s : Span} {op : BinaryOperator} {a b : Expr} {p : Span} → ConditionClashes known (Binary s op a b) p → ConditionClashes known a p ⊎ ConditionClashes (known ++ tests_of a) b p
condition_parts (in_whole (in_left c)) = inl (in_whole c)
condition_parts {a} (in_whole (in_right c)) = inr (in_whole (wider_expr (tests_of a) c))
condition_parts (in_left_test c) = inl c
condition_parts (in_right_test c) = inr c

module _ {known : List Name} (s : Span) (op : BinaryOperator) (a b : Expr) (e : is_and_then op ≡ true) where
  in_left_condition : (p : Span) → ConditionClashes known a p → ConditionClashes known (Binary s op a b) p
  in_left_condition p c = subst (λ op. ConditionClashes known (Binary s op a b) p) (sym (and_then_only op e)) (in_left_test c)

  in_right_condition : (p : Span) → ConditionClashes (known ++ tests_of a) b p → ConditionClashes known (Binary s op a b) p
  in_right_condition p c = subst (λ op. ConditionClashes known (Binary s op a b) p) (sym (and_then_only op e)) (in_right_test c)

module _ (fs ns : List Name) where
  whole_found : (e : Expr) → joins e ≡ false → Lists (ConditionClashes (fs ++ ns) e) (expr_clash fs ns e)
  whole_found e i = same (ExprClashes (fs ++ ns) e) (ConditionClashes (fs ++ ns) e) (expr_clash fs ns e) (λ p c. in_whole c) (λ p c. whole_only i c) (expr_found fs ns e)

  joined_found : (s : Span) (op : BinaryOperator) (a b : Expr) → Lists (ConditionClashes (fs ++ ns) a) (condition_clash fs ns a) → Lists (ConditionClashes (fs ++ (ns ++ tests_of a)) b) (condition_clash fs (ns ++ tests_of a) b) →
      (c : Bool) → is_and_then op ≡ c →
      Lists (ConditionClashes (fs ++ ns) (Binary s op a b)) (if c then condition_clash fs ns a ++ condition_clash fs (ns ++ tests_of a) b else expr_clash fs ns (Binary s op a b))
  joined_found s op a b x y true e =
      both (ConditionClashes (fs ++ ns) a) (ConditionClashes ((fs ++ ns) ++ tests_of a) b) (ConditionClashes (fs ++ ns) (Binary s op a b)) (condition_clash fs ns a) (condition_clash fs (ns ++ tests_of a) b)
      (in_left_condition s op a b e) (in_right_condition s op a b e) (λ p c. condition_parts c) x
      (subst (λ k. Lists (ConditionClashes k b) (condition_clash fs (ns ++ tests_of a) b)) (sym (append_assoc fs ns (tests_of a))) y)
  joined_found s op a b x y false e = whole_found (Binary s op a b) e

pub condition_found : (fs ns : List Name) (e : Expr) → Lists (ConditionClashes (fs ++ ns) e) (condition_clash fs ns e)
unfolding condition_clash expr_clash
condition_found fs ns (Binary s op a b) = joined_found fs ns s op a b (condition_found fs ns a) (condition_found fs (ns ++ tests_of a) b) (is_and_then op) refl
condition_found fs ns (ObjectTest s t e n) = whole_found fs ns (ObjectTest s t e n) refl
condition_found fs ns (Integer s i) = whole_found fs ns (Integer s i) refl
condition_found fs ns (Boolean s b) = whole_found fs ns (Boolean s b) refl
condition_found fs ns (Void s) = whole_found fs ns (Void s) refl
condition_found fs ns (Current s) = whole_found fs ns (Current s) refl
condition_found fs ns (Result s) = whole_found fs ns (Result s) refl
condition_found fs ns (Call s t n es) = whole_found fs ns (Call s t n es) refl
condition_found fs ns (Unary s op a) = whole_found fs ns (Unary s op a) refl

-- ---- clauses and heads

pub clauses_found : (fs ns : List Name) (ks : List Clause) → Lists (ClausesClash (fs ++ ns) ks) (clauses_clash fs ns ks)
unfolding clauses_clash
clauses_found fs ns [] = nothing (ClausesClash (fs ++ ns) []) (λ p a. any_none a)
clauses_found fs ns (k ∷ ks) =
    both (ExprClashes (fs ++ ns) k.condition) (ClausesClash (fs ++ ns) ks) (ClausesClash (fs ++ ns) (k ∷ ks)) (expr_clash fs ns k.condition) (clauses_clash fs ns ks)
    (λ p c. any_first k ks c) (λ p c. any_later k ks c) (λ p c. any_split k ks c) (expr_found fs ns k.condition) (clauses_found fs ns ks)

abbrev ValuesClash : List Name → List Head → Span → Type 0
ValuesClash known hs p = Any (λ h. ExprClashes known h.value p) hs

values_found : (fs ns : List Name) (hs : List Head) → Lists (ValuesClash (fs ++ ns) hs) (values_clash fs ns hs)
unfolding values_clash
values_found fs ns [] = nothing (ValuesClash (fs ++ ns) []) (λ p a. any_none a)
values_found fs ns (h ∷ hs) =
    both (ExprClashes (fs ++ ns) h.value) (ValuesClash (fs ++ ns) hs) (ValuesClash (fs ++ ns) (h ∷ hs)) (expr_clash fs ns h.value) (values_clash fs ns hs)
    (λ p c. any_first h hs c) (λ p c. any_later h hs c) (λ p c. any_split h hs c) (expr_found fs ns h.value) (values_found fs ns hs)

-- ---- instructions

-- in a condition, or in what stands under it
abbrev UnderClashes : List Name → Expr → Instrs → Span → Type 0
UnderClashes known e body p = ConditionClashes known e p ⊎ InstrsClash (known ++ tests_of e) body p

module _ {known : List Name} {p : Span} where
  source_part : {s : Span} {v : Variable} {e : Expr} → InstrClashes known (Assign s v e) p → ExprClashes known e p
  source_part (in_source c) = c

  routine_call_parts : {s : Span} {t : Target} {n : Name} {es : Exprs} → InstrClashes known (CallRoutine s t n es) p → TargetClashes known t p ⊎ ExprsClash known es p
  routine_call_parts (in_call_target c) = inl c
  routine_call_parts (in_call_actuals c) = inr c

  creation_part : {s : Span} {c : Creation} {k : CreationCall} → c.call ≡ Some k → InstrClashes known (Create s c) p → ExprsClash known k.actuals p
  creation_part {k = k} e (in_creation {k = j} f x) = subst (λ (k : CreationCall). ExprsClash known k.actuals p) (some_is j k (sym f ∙ e)) x

  no_creation_part : {s : Span} {c : Creation} → c.call ≡ None → InstrClashes known (Create s c) p → ⊥
  no_creation_part e (in_creation f x) = cc

  if_parts : {s : Span} {e : Expr} {body other : Instrs} {branches : Branches} →
      InstrClashes known (If s e body branches other) p → UnderClashes known e body p ⊎ (BranchesClash known branches p ⊎ InstrsClash known other p)
  if_parts (in_if c) = inl (inl c)
  if_parts (in_then c) = inl (inr c)
  if_parts (in_elseif c) = inr (inl c)
  if_parts (in_else c) = inr (inr c)

  if_under : {s : Span} {e : Expr} {body other : Instrs} {branches : Branches} → UnderClashes known e body p → InstrClashes known (If s e body branches other) p
  if_under (inl c) = in_if c
  if_under (inr c) = in_then c

  if_behind : {s : Span} {e : Expr} {body other : Instrs} {branches : Branches} → BranchesClash known branches p ⊎ InstrsClash known other p → InstrClashes known (If s e body branches other) p
  if_behind (inl c) = in_elseif c
  if_behind (inr c) = in_else c

  branches_parts : {e : Expr} {body : Instrs} {bs : Branches} → BranchesClash known (branch_then e body bs) p → UnderClashes known e body p ⊎ BranchesClash known bs p
  branches_parts (in_branch_condition c) = inl (inl c)
  branches_parts (in_branch c) = inl (inr c)
  branches_parts (in_later_branch c) = inr c

  branch_under : {e : Expr} {body : Instrs} {bs : Branches} → UnderClashes known e body p → BranchesClash known (branch_then e body bs) p
  branch_under (inl c) = in_branch_condition c
  branch_under (inr c) = in_branch c

  loop_parts : {s : Span} {e : Expr} {initial body : Instrs} → InstrClashes known (Loop s initial e body) p → InstrsClash known initial p ⊎ (ExprClashes known e p ⊎ InstrsClash known body p)
  loop_parts (in_from c) = inl c
  loop_parts (in_until c) = inr (inl c)
  loop_parts (in_loop c) = inr (inr c)

  loop_behind : {s : Span} {e : Expr} {initial body : Instrs} → ExprClashes known e p ⊎ InstrsClash known body p → InstrClashes known (Loop s initial e body) p
  loop_behind (inl c) = in_until c
  loop_behind (inr c) = in_loop c

  check_part : {s : Span} {ks : List Clause} → InstrClashes known (Check s ks) p → ClausesClash known ks p
  check_part (in_check c) = c

  block_parts : {s : Span} {hs : List Head} {body : Instrs} → InstrClashes known (Block s hs body) p → ValuesClash known hs p ⊎ (OneClashes known (head_names hs) p ⊎ InstrsClash (known ++ head_names hs) body p)
  block_parts (in_heads c) = inl c
  block_parts (head_name c) = inr (inl c)
  block_parts (in_block c) = inr (inr c)

  block_behind : {s : Span} {hs : List Head} {body : Instrs} → OneClashes known (head_names hs) p ⊎ InstrsClash (known ++ head_names hs) body p → InstrClashes known (Block s hs body) p
  block_behind (inl c) = head_name c
  block_behind (inr c) = in_block c

  instrs_parts : {i : Instr} {is : Instrs} → InstrsClash known (instr_then i is) p → InstrClashes known i p ⊎ InstrsClash known is p
  instrs_parts (in_first_instr c) = inl c
  instrs_parts (in_other_instrs c) = inr c

-- where more names are known
grown : (fs ns more : List Name) (is : Instrs) → Lists (InstrsClash (fs ++ (ns ++ more)) is) (instrs_clash fs (ns ++ more) is) → Lists (InstrsClash ((fs ++ ns) ++ more) is) (instrs_clash fs (ns ++ more) is)
grown fs ns more is x = subst (λ k. Lists (InstrsClash k is) (instrs_clash fs (ns ++ more) is)) (sym (append_assoc fs ns more)) x

under_found : (fs ns : List Name) (e : Expr) (body : Instrs) → Lists (InstrsClash (fs ++ (ns ++ tests_of e)) body) (instrs_clash fs (ns ++ tests_of e) body) →
    Lists (UnderClashes (fs ++ ns) e body) (condition_clash fs ns e ++ instrs_clash fs (ns ++ tests_of e) body)
under_found fs ns e body x =
    either_of (ConditionClashes (fs ++ ns) e) (InstrsClash ((fs ++ ns) ++ tests_of e) body) (condition_clash fs ns e) (instrs_clash fs (ns ++ tests_of e) body)
    (condition_found fs ns e) (grown fs ns (tests_of e) body x)

creation_found : (fs ns : List Name) (s : Span) (c : Creation) → Lists (InstrClashes (fs ++ ns) (Create s c)) (creation_clash fs ns c.call)
creation_found fs ns s c = by c.call refl
  where
    by : (o : Option CreationCall) → c.call ≡ o → Lists (InstrClashes (fs ++ ns) (Create s c)) (creation_clash fs ns o)
    by None e = nothing (InstrClashes (fs ++ ns) (Create s c)) (λ p x. no_creation_part e x)
    by (Some k) e =
        same (ExprsClash (fs ++ ns) k.actuals) (InstrClashes (fs ++ ns) (Create s c)) (exprs_clash fs ns k.actuals) (λ p x. in_creation e x) (λ p x. creation_part e x) (exprs_found fs ns k.actuals)

mutual
  unfolding instr_clash

  pub instr_found : (fs ns : List Name) (i : Instr) → Lists (InstrClashes (fs ++ ns) i) (instr_clash fs ns i)
  instr_found fs ns (Assign s v e) = same (ExprClashes (fs ++ ns) e) (InstrClashes (fs ++ ns) (Assign s v e)) (expr_clash fs ns e) (λ p c. in_source c) (λ p c. source_part c) (expr_found fs ns e)
  instr_found fs ns (PrintText s t) = nothing (InstrClashes (fs ++ ns) (PrintText s t)) (λ p x. elim x [ ])
  instr_found fs ns (CallRoutine s t n es) =
      both (TargetClashes (fs ++ ns) t) (ExprsClash (fs ++ ns) es) (InstrClashes (fs ++ ns) (CallRoutine s t n es)) (target_clash fs ns t) (exprs_clash fs ns es)
      (λ p c. in_call_target c) (λ p c. in_call_actuals c) (λ p c. routine_call_parts c) (target_found fs ns t) (exprs_found fs ns es)
  instr_found fs ns (Create s c) = creation_found fs ns s c
  instr_found fs ns (If s e body branches other) =
      both (UnderClashes (fs ++ ns) e body) (λ p. BranchesClash (fs ++ ns) branches p ⊎ InstrsClash (fs ++ ns) other p) (InstrClashes (fs ++ ns) (If s e body branches other))
      (condition_clash fs ns e ++ instrs_clash fs (ns ++ tests_of e) body) (branches_clash fs ns branches ++ instrs_clash fs ns other)
      (λ p c. if_under c) (λ p c. if_behind c) (λ p c. if_parts c) (under_found fs ns e body (instrs_found fs (ns ++ tests_of e) body))
      (either_of (BranchesClash (fs ++ ns) branches) (InstrsClash (fs ++ ns) other) (branches_clash fs ns branches) (instrs_clash fs ns other) (branches_found fs ns branches) (instrs_found fs ns other))
  instr_found fs ns (Loop s initial e body) =
      both (InstrsClash (fs ++ ns) initial) (λ p. ExprClashes (fs ++ ns) e p ⊎ InstrsClash (fs ++ ns) body p) (InstrClashes (fs ++ ns) (Loop s initial e body))
      (instrs_clash fs ns initial) (expr_clash fs ns e ++ instrs_clash fs ns body) (λ p c. in_from c) (λ p c. loop_behind c) (λ p c. loop_parts c) (instrs_found fs ns initial)
      (either_of (ExprClashes (fs ++ ns) e) (InstrsClash (fs ++ ns) body) (expr_clash fs ns e) (instrs_clash fs ns body) (expr_found fs ns e) (instrs_found fs ns body))
  instr_found fs ns (Check s ks) = same (ClausesClash (fs ++ ns) ks) (InstrClashes (fs ++ ns) (Check s ks)) (clauses_clash fs ns ks) (λ p c. in_check c) (λ p c. check_part c) (clauses_found fs ns ks)
  instr_found fs ns (Block s hs body) =
      both (ValuesClash (fs ++ ns) hs) (λ p. OneClashes (fs ++ ns) (head_names hs) p ⊎ InstrsClash ((fs ++ ns) ++ head_names hs) body p) (InstrClashes (fs ++ ns) (Block s hs body))
      (values_clash fs ns hs) (names_clash fs ns (head_names hs) ++ instrs_clash fs (ns ++ head_names hs) body) (λ p c. in_heads c) (λ p c. block_behind c) (λ p c. block_parts c) (values_found fs ns hs)
      (either_of (OneClashes (fs ++ ns) (head_names hs)) (InstrsClash ((fs ++ ns) ++ head_names hs) body) (names_clash fs ns (head_names hs)) (instrs_clash fs (ns ++ head_names hs) body)
      (names_found fs ns (head_names hs)) (grown fs ns (head_names hs) body (instrs_found fs (ns ++ head_names hs) body)))

  pub instrs_found : (fs ns : List Name) (is : Instrs) → Lists (InstrsClash (fs ++ ns) is) (instrs_clash fs ns is)
  instrs_found fs ns no_instrs = nothing (InstrsClash (fs ++ ns) no_instrs) (λ p x. elim x [ ])
  instrs_found fs ns (instr_then i is) =
      both (InstrClashes (fs ++ ns) i) (InstrsClash (fs ++ ns) is) (InstrsClash (fs ++ ns) (instr_then i is)) (instr_clash fs ns i) (instrs_clash fs ns is)
      (λ p c. in_first_instr c) (λ p c. in_other_instrs c) (λ p c. instrs_parts c) (instr_found fs ns i) (instrs_found fs ns is)

  pub branches_found : (fs ns : List Name) (bs : Branches) → Lists (BranchesClash (fs ++ ns) bs) (branches_clash fs ns bs)
  branches_found fs ns no_branches = nothing (BranchesClash (fs ++ ns) no_branches) (λ p x. elim x [ ])
  branches_found fs ns (branch_then e body bs) =
      both (UnderClashes (fs ++ ns) e body) (BranchesClash (fs ++ ns) bs) (BranchesClash (fs ++ ns) (branch_then e body bs))
      (condition_clash fs ns e ++ instrs_clash fs (ns ++ tests_of e) body) (branches_clash fs ns bs) (λ p c. branch_under c) (λ p c. in_later_branch c) (λ p c. branches_parts c)
      (under_found fs ns e body (instrs_found fs (ns ++ tests_of e) body)) (branches_found fs ns bs)

-- ---- routines

module _ (fs : List Name) (r : RoutineDeclaration) where
  abbrev formals : List Name
  formals = entity_names r.formals

  abbrev locals : List Name
  locals = entity_names r.locals

  -- in a routine's assertions, in its locals, or in its body
  abbrev InParts : Span → Type 0
  InParts p = ClausesClash (fs ++ formals) r.precondition p ⊎ (ClausesClash (fs ++ formals) r.postcondition p ⊎ (OneClashes (fs ++ formals) locals p ⊎ InstrsClash (fs ++ (formals ++ locals)) r.body p))

  inner : fs ++ formals ++ locals ≡ fs ++ (formals ++ locals)
  inner = append_assoc fs formals locals

  entity_parts : {p : Span} → OneClashes fs formals p ⊎ OneClashes (fs ++ formals) locals p → OneClashes fs formals p ⊎ InParts p
  entity_parts (inl c) = inl c
  entity_parts (inr c) = inr (inr (inr (inl c)))

  routine_parts : {p : Span} → RoutineClashes fs (Routine r) p → OneClashes fs formals p ⊎ InParts p
  routine_parts (entity c) = entity_parts (one_parts fs formals locals c)
  routine_parts (in_precondition c) = inr (inl c)
  routine_parts {p} (in_body c) = inr (inr (inr (inr (subst (λ k. InstrsClash k r.body p) inner c))))
  routine_parts (in_postcondition c) = inr (inr (inl c))

  routine_behind : {p : Span} → InParts p → RoutineClashes fs (Routine r) p
  routine_behind (inl c) = in_precondition c
  routine_behind (inr (inl c)) = in_postcondition c
  routine_behind (inr (inr (inl c))) = entity (one_right fs formals locals c)
  routine_behind {p} (inr (inr (inr c))) = in_body (subst (λ k. InstrsClash k r.body p) (sym inner) c)

  formals_found : Lists (OneClashes fs formals) (names_clash fs [] formals)
  formals_found = subst (λ k. Lists (OneClashes k formals) (names_clash fs [] formals)) (append-nil fs) (names_found fs [] formals)

  inside_found : Lists (λ p. OneClashes (fs ++ formals) locals p ⊎ InstrsClash (fs ++ (formals ++ locals)) r.body p) (names_clash fs formals locals ++ instrs_clash fs (formals ++ locals) r.body)
  inside_found =
      either_of (OneClashes (fs ++ formals) locals) (InstrsClash (fs ++ (formals ++ locals)) r.body) (names_clash fs formals locals) (instrs_clash fs (formals ++ locals) r.body)
      (names_found fs formals locals) (instrs_found fs (formals ++ locals) r.body)

  parts_found : Lists InParts (clauses_clash fs formals r.precondition ++ (clauses_clash fs formals r.postcondition ++ (names_clash fs formals locals ++ instrs_clash fs (formals ++ locals) r.body)))
  parts_found =
      either_of (ClausesClash (fs ++ formals) r.precondition) (λ p. ClausesClash (fs ++ formals) r.postcondition p ⊎ (OneClashes (fs ++ formals) locals p ⊎ InstrsClash (fs ++ (formals ++ locals)) r.body p))
      (clauses_clash fs formals r.precondition) (clauses_clash fs formals r.postcondition ++ (names_clash fs formals locals ++ instrs_clash fs (formals ++ locals) r.body))
      (clauses_found fs formals r.precondition)
      (either_of (ClausesClash (fs ++ formals) r.postcondition) (λ p. OneClashes (fs ++ formals) locals p ⊎ InstrsClash (fs ++ (formals ++ locals)) r.body p)
      (clauses_clash fs formals r.postcondition) (names_clash fs formals locals ++ instrs_clash fs (formals ++ locals) r.body) (clauses_found fs formals r.postcondition) inside_found)

  routine_found : Lists (RoutineClashes fs (Routine r)) (names_clash fs [] formals ++ (clauses_clash fs formals r.precondition ++ (clauses_clash fs formals r.postcondition ++ (names_clash fs formals locals ++ instrs_clash fs (formals ++ locals) r.body))))
  routine_found =
      both (OneClashes fs formals) InParts (RoutineClashes fs (Routine r)) (names_clash fs [] formals)
      (clauses_clash fs formals r.precondition ++ (clauses_clash fs formals r.postcondition ++ (names_clash fs formals locals ++ instrs_clash fs (formals ++ locals) r.body)))
      (λ p c. entity (one_left locals c)) (λ p c. routine_behind c) (λ p c. routine_parts c) formals_found parts_found

kind_found : (fs : List Name) (k : FeatureKind) → Lists (RoutineClashes fs k) (kind_clash fs k)
unfolding kind_clash
kind_found fs (Attribute t) = nothing (RoutineClashes fs (Attribute t)) (λ p x. elim x [ ])
kind_found fs (Routine r) = routine_found fs r

-- ---- classes

abbrev FeaturesClash : List Name → List Feature → Span → Type 0
FeaturesClash fs features p = Any (λ f. RoutineClashes fs f.kind p) features

kinds_found : (fs : List Name) (features : List Feature) → Lists (FeaturesClash fs features) (kinds_clash fs features)
unfolding kinds_clash
kinds_found fs [] = nothing (FeaturesClash fs []) (λ p a. any_none a)
kinds_found fs (f ∷ more) =
    both (RoutineClashes fs f.kind) (FeaturesClash fs more) (FeaturesClash fs (f ∷ more)) (kind_clash fs f.kind) (kinds_clash fs more)
    (λ p c. any_first f more c) (λ p c. any_later f more c) (λ p c. any_split f more c) (kind_found fs f.kind) (kinds_found fs more)

module _ (s : System) (k : ℕ) (c : Class) (is_class : slice_get s.classes k ≡ Some c) where
  abbrev all_names : List Name
  all_names = feature_names (features s k)

  abbrev own_names : List Name
  own_names = map (λ (f : Feature). f.name) c.features

  -- in the routines of the class, or in its invariant
  abbrev TextsClash : Span → Type 0
  TextsClash p = FeaturesClash all_names c.features p ⊎ ClausesClash all_names c.invariant p

  class_parts : {p : Span} → ClassClashes s k c p → OneClashes (inherited_names s k c) own_names p ⊎ TextsClash p
  class_parts (in_features y) = inl y
  class_parts (in_routine y) = inr (inl y)
  class_parts (in_invariant y) = inr (inr y)

  class_behind : {p : Span} → TextsClash p → ClassClashes s k c p
  class_behind (inl y) = in_routine y
  class_behind (inr y) = in_invariant y

  inherited_are : names_of_part Inherited s k ++ [] ≡ inherited_names s k c
  inherited_are =
      append-nil (names_of_part Inherited s k)
      ∙ ap (λ (ns : List Name). feature_names (not_redefined ns (inherited_features s k))) (ap (λ (o : Option Class). option_map_or redefined_by o []) is_class)

  own_found : Lists (OneClashes (inherited_names s k c) own_names) (names_clash (names_of_part Inherited s k) [] own_names)
  own_found = subst (λ known. Lists (OneClashes known own_names) (names_clash (names_of_part Inherited s k) [] own_names)) inherited_are (names_found (names_of_part Inherited s k) [] own_names)

  invariant_found : Lists (ClausesClash all_names c.invariant) (clauses_clash all_names [] c.invariant)
  invariant_found = subst (λ known. Lists (ClausesClash known c.invariant) (clauses_clash all_names [] c.invariant)) (append-nil all_names) (clauses_found all_names [] c.invariant)

  pub class_found : Lists (ClassClashes s k c) (class_clash s k c)
  class_found =
      both (OneClashes (inherited_names s k c) own_names) TextsClash (ClassClashes s k c) (names_clash (names_of_part Inherited s k) [] own_names) (texts_clash all_names c)
      (λ p y. in_features y) (λ p y. class_behind y) (λ p y. class_parts y) own_found
      (either_of (FeaturesClash all_names c.features) (ClausesClash all_names c.invariant) (kinds_clash all_names c.features) (clauses_clash all_names [] c.invariant) (kinds_found all_names c.features) invariant_found)
