-- In an accepted system no object test stands in a contract.
use Rattle.std.proofs.Common.{◌≡◌, ◌+◌, ℕ, Bool, true, false, List, [], ◌∷◌, refl, subst}
use Rattle.sc_tree.specs.declared.expression.UnaryOperator.TheVariants as unary
use Rattle.sc_tree.specs.declared.expression.BinaryOperator.{BinaryOperator}
use Rattle.sc_tree.specs.Plain as tree
use Rattle.sc_tree.specs.Plain.{Clause, Expr, Exprs, RoutineDeclaration, System, expr_then, no_exprs}
use Rattle.sc_class.specs.Tables.Features.{DeclaredFeature}
use Rattle.sc_rules.specs.Names.{Entities, RoutineContext, RoutineName, context_of, formals_known}
use Rattle.sc_rules.specs.Positions.{is_condition, shares_names}
use Rattle.sc_rules.specs.Purity.{IsPurity}
use Rattle.sc_rules.specs.Sites.{expression, itself}
use Rattle.sc_rules.specs.SystemLaws as laws
use Rattle.sc_rules.specs.SystemLaws.{Stands, stands_in}
use Rattle.sc_rules.specs.SystemRules.{WellFormed}
use Rattle.sc_rules.specs.Typing as typing
use Rattle.sc_rules.specs.Typing.{HasType, HasTypes, Typing}
use Rattle.sc_rules.specs.declared.position.Context.{Context}
use Rattle.sc_rules.specs.declared.position.Context.TheVariants as context
use Rattle.sc_rules.specs.declared.position.Position.{Position}
use Rattle.sc_rules.specs.declared.position.Position.TheVariants.{Condition, Plain, Source}
use Rattle.sc_rules.proofs.EachTyped.{each_is_typed_lem}
use Rattle.sc_rules.proofs.PurityStands.{purity_stands}
use Rattle.sc_model.specs.Olds.{olds_in, olds_of, olds_of_each, olds_of_clauses}
use Rattle.sc_model.specs.Routines.{Routine}
use Rattle.sc_model.specs.Tasks.{ensures, keeps_olds, requires}
use Rattle.sc_machine_laws.specs.states.Points.{Each}
use Rattle.sc_machine_laws.proofs.states.Applications.{plain_operand}
use Rattle.sc_machine_laws.proofs.states.Lists.{each_append}
use Rattle.sc_machine_laws.specs.ClauseLaws.{IsWithoutTests, TextsAreWithoutTests}
use Rattle.sc_machine_laws.specs.Texts.{ClauseHasNoTest, HasNoTest, HaveNoTest, IsOfContract}
use Rattle.sc_machine_laws.proofs.Bodies.{each_from}
use Rattle.sc_machine_laws.proofs.Stems.{IsDeclared, Stem, ensure_is, require_is, stem}

-- ---- typed where no condition stands

not_joined : (q : Position) (op : BinaryOperator) → is_condition q ≡ false → shares_names q op ≡ true → ⊥
not_joined Condition op e i = cc
not_joined Plain op e i = cc
not_joined Source op e i = cc

mutual
  no_test : {h : RoutineContext} {c : Context} {q : Position} {n : Entities} {e : Expr} {t : Typing} →
      is_condition q ≡ false → HasType h c q n e t → HasNoTest e
  no_test i typing.number = tt
  no_test i typing.truth = tt
  no_test i (typing.void e) = tt
  no_test i typing.current_object = tt
  no_test i (typing.result e) = tt
  no_test i (typing.call typing.implicit m z ds f p l v y w) = no_tests ds
  no_test i (typing.call (typing.explicit d) m z ds f p l v y w) = (no_test refl d, no_tests ds)
  no_test i (typing.untyped_target_call (typing.explicit d) e ds) = (no_test refl d, no_tests ds)
  no_test i (typing.unary d o e) = no_test refl d
  no_test i (typing.binary {op} j d d' e) = (no_test (plain_operand op) d, no_test (plain_operand op) d')
  no_test {q} i (typing.and_then {op} j d g d' e) = absurd (not_joined q op i j)
  no_test i (typing.test e d) = cc

  no_tests : {h : RoutineContext} {c : Context} {n : Entities} {es : Exprs} {ts : List Typing} →
      HasTypes h c n es ts → HaveNoTest es
  no_tests typing.none = tt
  no_tests (typing.more d ds) = (no_test refl d, no_tests ds)

-- ---- what `old`s keep

mutual
  olds_without_tests : (e : Expr) → HasNoTest e → Each HasNoTest (olds_of e)
  olds_without_tests (tree.Integer q z) o = tt
  olds_without_tests (tree.Boolean q b) o = tt
  olds_without_tests (tree.Void q) o = tt
  olds_without_tests (tree.Current q) o = tt
  olds_without_tests (tree.Result q) o = tt
  olds_without_tests (tree.Call q tree.no_target x es) o = each_without_tests es o
  olds_without_tests (tree.Call q (tree.target a) x es) o = each_append HasNoTest (olds_of a) (olds_of_each es)
      (olds_without_tests a o.0) (each_without_tests es o.1)
  olds_without_tests (tree.Unary q unary.Old a) o = (o, tt)
  olds_without_tests (tree.Unary q unary.Not a) o = olds_without_tests a o
  olds_without_tests (tree.Unary q unary.Plus a) o = olds_without_tests a o
  olds_without_tests (tree.Unary q unary.Minus a) o = olds_without_tests a o
  olds_without_tests (tree.Binary q op a b) o = each_append HasNoTest (olds_of a) (olds_of b) (olds_without_tests a o.0)
      (olds_without_tests b o.1)
  olds_without_tests (tree.ObjectTest q d a x) o = absurd o

  each_without_tests : (es : Exprs) → HaveNoTest es → Each HasNoTest (olds_of_each es)
  each_without_tests no_exprs o = tt
  each_without_tests (expr_then e es) o = each_append HasNoTest (olds_of e) (olds_of_each es) (olds_without_tests e o.0)
      (each_without_tests es o.1)

clauses_without_tests : (ks : List Clause) → Each ClauseHasNoTest ks → Each HasNoTest (olds_of_clauses ks)
clauses_without_tests [] o = tt
clauses_without_tests (k ∷ ks) o = each_append HasNoTest (olds_of k.condition) (olds_of_clauses ks)
    (olds_without_tests k.condition o.0) (clauses_without_tests ks o.1)

-- ---- tasks of contracts

requires_of_contract : (ks : List Clause) → Each ClauseHasNoTest ks → Each IsOfContract (requires ks)
requires_of_contract [] o = tt
requires_of_contract (k ∷ ks) o = (o, tt)

keeps_of_contract : (es : List Expr) → Each HasNoTest es → Each IsOfContract (keeps_olds es)
keeps_of_contract [] o = tt
keeps_of_contract (e ∷ es) o = (o.0, (tt, keeps_of_contract es o.1))

ensures_of_contract : (i : ℕ) (ks : List Clause) → Each ClauseHasNoTest ks → Each IsOfContract (ensures i ks)
ensures_of_contract i [] o = tt
ensures_of_contract i (k ∷ ks) o = (o.0, (tt, ensures_of_contract (i + olds_in k.condition) ks o.1))

without_tests : (r : Routine) → Each ClauseHasNoTest r.require → Each ClauseHasNoTest r.ensure → IsWithoutTests r
without_tests r o e = record {
  require = o;
  olds = clauses_without_tests r.ensure e;
  ensure = e;
  before = each_append IsOfContract (requires r.require) (keeps_olds (olds_of_clauses r.ensure))
      (requires_of_contract r.require o)
      (keeps_of_contract (olds_of_clauses r.ensure) (clauses_without_tests r.ensure e));
  behind = ensures_of_contract 0 r.ensure e;
}

-- ---- routines of accepted systems

module _ (s : System) (pure : RoutineName → Bool) (well : WellFormed s) (tells : IsPurity s pure) (f : DeclaredFeature)
    (routine : RoutineDeclaration)
    (d : IsDeclared s f routine) where
  abbrev judged : RoutineContext
  judged = context_of s pure f.class routine

  clause_without_tests : (c : Context) (k : Clause) →
      Stands s pure judged (expression c Plain (formals_known s routine.formals) k.condition) → HasNoTest k.condition
  clause_without_tests c k w = no_test refl
      (each_is_typed_lem s pure well tells judged c Plain (formals_known s routine.formals) k.condition w).2

  require_without_tests : Each ClauseHasNoTest routine.precondition
  require_without_tests = each_from ClauseHasNoTest routine.precondition
      (λ k l. clause_without_tests context.Require k (stands_in (laws.precondition d.is_class d.declares d.kind l) itself))

  ensure_without_tests : Each ClauseHasNoTest routine.postcondition
  ensure_without_tests = each_from ClauseHasNoTest routine.postcondition
      (λ k l. clause_without_tests context.Ensure k (stands_in (laws.postcondition d.is_class d.declares d.kind l) itself))

texts_without_tests : (s : System) (pure : RoutineName → Bool) → WellFormed s → IsPurity s pure → (r : Routine) → Stem s r →
    IsWithoutTests r
texts_without_tests s pure well tells r m = without_tests r
    (subst (Each ClauseHasNoTest) (require_is s r m)
    (require_without_tests s pure well tells m.origin m.original m.has_contract))
    (subst (Each ClauseHasNoTest) (ensure_is s r m)
    (ensure_without_tests s pure well tells m.origin m.original m.has_contract))

pub texts_are_without_tests : TextsAreWithoutTests
texts_are_without_tests s root faultless well k x r e = by (purity_stands s)
  where
    by : (pure : RoutineName → Bool) × IsPurity s pure → IsWithoutTests r
    by (pure, tells) = texts_without_tests s pure well tells r (stem s root pure faultless well tells k x r e)
