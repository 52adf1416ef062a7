-- In an accepted system no `old` stands in a body or a precondition.
use Rattle.std.proofs.Common.{◌≡◌, ◌++◌, Bool, false, List, [], ◌∷◌, Option, Some, None, arith, refl, sym, ap, ap₂, subst, suc, zero}
use Rattle.std.specs.Prelude.{Contains, length}
use Rattle.sc_tree.specs.Plain as tree
use Rattle.sc_tree.specs.Plain.{Branches, Clause, Creation, CreationCall, Expr, Exprs, Head, Instr, Instrs, RoutineDeclaration, System, branch_then, expr_then, instr_then, no_branches, no_exprs, no_instrs}
use Rattle.sc_class.specs.Tables.Features.{DeclaredFeature}
use Rattle.sc_rules.specs.Names.{Entities, RoutineContext, RoutineName, context_of, formals_known, known_in_body}
use Rattle.sc_rules.specs.Positions.{is_ensure}
use Rattle.sc_rules.specs.Purity.{IsPurity}
use Rattle.sc_rules.specs.Sites.{IsActual, Part, Site, Within, branch_condition_part, branch_part, branches, call_actual_part, call_target_part, check_part, condition_part, creation_actual_part, block_part, else_part, elseif_part, expression, first_actual, first_part, from_part, head_part, inside, instruction, instructions, itself, later_actual, later_branches_part, loop_part, others_part, source_part, then_part, until_part}
use Rattle.sc_rules.specs.SystemLaws as laws
use Rattle.sc_rules.specs.SystemLaws.{Stands, stands_in}
use Rattle.sc_rules.specs.SystemRules.{WellFormed}
use Rattle.sc_rules.specs.declared.position.Context.{Context}
use Rattle.sc_rules.specs.declared.position.Context.TheVariants as context
use Rattle.sc_rules.specs.declared.position.Position.{Position}
use Rattle.sc_rules.specs.declared.position.Position.TheVariants.{Condition, Plain, Source}
use Rattle.sc_rules.proofs.EachTyped.{each_is_typed_lem}
use Rattle.sc_rules.proofs.PurityStands.{purity_stands}
use Rattle.sc_rules.proofs.TextLaws.{blocks_reserve, conditions_give}
use Rattle.sc_model.specs.Olds.{olds_of, olds_of_each}
use Rattle.sc_model.specs.Routines.{Routine}
use Rattle.sc_machine_laws.specs.states.Points.{Each}
use Rattle.sc_machine_laws.proofs.states.Olds.{none_old}
use Rattle.sc_machine_laws.specs.ClauseLaws.{IsWithoutOld, TextsAreWithoutOld}
use Rattle.sc_machine_laws.specs.Texts.{CallHasNoOld, ClauseHasNoOld, HasNoOld, HaveNoOld, HeadHasNoOld, BranchesHaveNoOld, InstrHasNoOld, InstrsHaveNoOld}
use Rattle.sc_machine_laws.proofs.Stems.{IsDeclared, Stem, body_is, require_is, stem}

within_then : {h : RoutineContext} {a b c : Site} → Within h a b → Part h b c → Within h a c
within_then itself p = inside p itself
within_then (inside q w) p = inside q (within_then w p)

pub each_from : {A : Type 0} (P : A → Type 0) (xs : List A) → ((x : A) → Contains xs x → P x) → Each P xs
each_from P [] f = tt
each_from P (x ∷ xs) f = (f x (zero, omega arith, refl), each_from P xs (λ y i. f y (suc i.0, omega (arith, i.1), i.2)))

no_olds_each : (es : Exprs) → ((e : Expr) → IsActual e es → olds_of e ≡ []) → olds_of_each es ≡ []
no_olds_each no_exprs f = refl
no_olds_each (expr_then e es) f = ap₂ (λ xs ys. xs ++ ys) (f e first_actual)
    (no_olds_each es (λ d i. f d (later_actual i)))

none_long : {A : Type 0} {xs : List A} → xs ≡ [] → length xs ≡ 0
none_long e = ap length e

module _ (s : System) (pure : RoutineName → Bool) (well : WellFormed s) (tells : IsPurity s pure)
    (h : RoutineContext) where
  abbrev Here : Site → Type 0
  Here b = Stands s pure h b

  part_stands : {a b : Site} → Here a → Part h a b → Here b
  part_stands (stands_in t w) p = stands_in t (within_then w p)

  expr_none : (c : Context) (q : Position) (n : Entities) (e : Expr) → is_ensure c ≡ false → Here (expression c q n e) →
      olds_of e ≡ []
  expr_none c q n e i w = none_old i (each_is_typed_lem s pure well tells h c q n e w).2

  expr_without_old : (c : Context) (q : Position) (n : Entities) (e : Expr) → is_ensure c ≡ false →
      Here (expression c q n e) → HasNoOld e
  expr_without_old c q n e i w = none_long (expr_none c q n e i w)

  actuals_without_old : (n : Entities) (es : Exprs) →
      ((e : Expr) → IsActual e es → Here (expression context.Body Source n e)) → HaveNoOld es
  actuals_without_old n es f = none_long (no_olds_each es (λ e i. expr_none context.Body Source n e refl (f e i)))

  mutual
    instr_without_old : (i : Instr) (n : Entities) → Here (instruction n i) → InstrHasNoOld i
    instr_without_old (tree.Assign q v e) n w = expr_without_old context.Body Source n e refl (part_stands w source_part)
    instr_without_old (tree.PrintText q text) n w = tt
    instr_without_old (tree.CallRoutine q tree.no_target x es) n w = actuals_without_old n es
        (λ e j. part_stands w (call_actual_part j))
    instr_without_old (tree.CallRoutine q (tree.target a) x es) n w = (
      expr_without_old context.Body Plain n a refl (part_stands w call_target_part),
      actuals_without_old n es (λ e j. part_stands w (call_actual_part j)),
    )
    instr_without_old (tree.Create q c) n w = by c.call refl
      where
        by : (o : Option CreationCall) → c.call ≡ o → CallHasNoOld o
        by None e = tt
        by (Some k) e = actuals_without_old n k.actuals (λ a j. part_stands w (creation_actual_part e j))
    instr_without_old (tree.If q e is bs other) n w =
        let z = conditions_give s pure well tells h context.Body n e
        (part_stands w (condition_part {choice = choice})) in (
          expr_without_old context.Body Condition n e refl (part_stands w (condition_part {choice = choice})),
          (
            instrs_without_old is z.0 (part_stands w (then_part {choice = choice} z.1)),
            (
              branches_without_old bs n (part_stands w (elseif_part {choice = choice})),
              instrs_without_old other n (part_stands w (else_part {choice = choice})),
            ),
          ),
        )
      where
        choice : tree.Conditional
        choice = record { condition = e; body = is; branches = bs; other = other }
    instr_without_old (tree.Loop q initial e is) n w = (
      instrs_without_old initial n (part_stands w (from_part {loop = loop})),
      (
        expr_without_old context.Body Plain n e refl (part_stands w (until_part {loop = loop})),
        instrs_without_old is n (part_stands w (loop_part {loop = loop})),
      ),
    )
      where
        loop : tree.Iteration
        loop = record { initial = initial; until = e; body = is }
    instr_without_old (tree.Check q ks) n w =
        each_from ClauseHasNoOld ks
        (λ k l. expr_without_old context.Check Plain n k.condition refl (part_stands w (check_part l)))
    instr_without_old (tree.Block q ds is) n w =
        let z = blocks_reserve s pure well tells h n q block w in (
          each_from HeadHasNoOld ds
              (λ d l. expr_without_old context.Body Plain n d.value refl (part_stands w (head_part {block = block} l))),
          instrs_without_old is z.0 (part_stands w (block_part {block = block} z.1)),
        )
      where
        block : tree.SeparateBlock
        block = record { heads = ds; body = is }

    instrs_without_old : (is : Instrs) (n : Entities) → Here (instructions n is) → InstrsHaveNoOld is
    instrs_without_old no_instrs n w = tt
    instrs_without_old (instr_then i is) n w =
        (instr_without_old i n (part_stands w first_part), instrs_without_old is n (part_stands w others_part))

    branches_without_old : (bs : Branches) (n : Entities) → Here (branches n bs) → BranchesHaveNoOld bs
    branches_without_old no_branches n w = tt
    branches_without_old (branch_then e is bs) n w =
        let z = conditions_give s pure well tells h context.Body n e (part_stands w branch_condition_part) in (
          expr_without_old context.Body Condition n e refl (part_stands w branch_condition_part),
          (
            instrs_without_old is z.0 (part_stands w (branch_part z.1)),
            branches_without_old bs n (part_stands w later_branches_part),
          ),
        )

module _ (s : System) (pure : RoutineName → Bool) (well : WellFormed s) (tells : IsPurity s pure) (f : DeclaredFeature)
    (routine : RoutineDeclaration)
    (d : IsDeclared s f routine) where
  abbrev judged : RoutineContext
  judged = context_of s pure f.class routine

  body_without_old : InstrsHaveNoOld routine.body
  body_without_old = instrs_without_old s pure well tells judged routine.body (known_in_body s routine)
      (stands_in (laws.body d.is_class d.declares d.kind) itself)

  clause_keeps_no_old : (k : Clause) → Contains routine.precondition k → HasNoOld k.condition
  clause_keeps_no_old k l = expr_without_old s pure well tells judged context.Require Plain
      (formals_known s routine.formals) k.condition refl
      (stands_in (laws.precondition d.is_class d.declares d.kind l) itself)

without_old : (s : System) (pure : RoutineName → Bool) → WellFormed s → IsPurity s pure → (r : Routine) → Stem s r →
    IsWithoutOld r
without_old s pure well tells r m = record {
  body = subst InstrsHaveNoOld (body_is s r m) (body_without_old s pure well tells m.feature m.own m.has_body);
  require = λ k l. clause_keeps_no_old s pure well tells m.origin m.original m.has_contract k
      (subst (λ (ks : List Clause). Contains ks k) (sym (require_is s r m)) l);
}

pub texts_are_without_old : TextsAreWithoutOld
texts_are_without_old s root faultless well k x r e = by (purity_stands s)
  where
    by : (pure : RoutineName → Bool) × IsPurity s pure → IsWithoutOld r
    by (pure, tells) = without_old s pure well tells r (stem s root pure faultless well tells k x r e)
