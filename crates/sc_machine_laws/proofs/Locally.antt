-- An evaluation depends on the objects of those alone that it may ask, and stays one where more may be asked.
use Rattle.std.proofs.Common.{◌≡◌, ℕ, List, Some, refl, subst}
use Rattle.sc_tree.specs.Plain.{System}
use Rattle.sc_model.specs.Clauses.{body_point}
use Rattle.sc_model.specs.Objects.{Object, object_numbered}
use Rattle.sc_model.specs.Steps.{Point}
use Rattle.sc_model.specs.Values.{Operand, Reference, Value}
use Rattle.sc_machine_laws.specs.Evaluating.{Answers, attribute, routine, Reaches, begins, goes, tests, enters, requests, EndsTrue}
use Rattle.sc_machine_laws.specs.ClauseLaws.{AnswersAreLocal, AnswersLocally, AnswersMore, EndsTrueLocally, EndsTrueMore, EvaluationsAreLocal, EvaluationsMayAskMore, ReachesLocally, ReachesMore, Told}

module _ (s : System) (M N : ℕ → Type 0) (O P : ℕ → List Object) (same : (k : ℕ) → M k → O k ≡ P k)
    (more : (k : ℕ) → M k → N k) where
  mutual
    answers_over : {r : Reference} {x : List ℕ} {us : List Operand} {v : Value} → Answers s M O r x us v →
        Answers s N P r x us v
    answers_over (attribute {r} {o} m is_there f k b u) =
        attribute (more r.handler m)
        (subst (λ (os : List Object). object_numbered r.number os ≡ Some o) (same r.handler m) is_there) f k b u
    answers_over (routine {r} {o} {q} {bs} {p} m is_there f k of bound a e is u) =
        routine (more r.handler m)
        (subst (λ (os : List Object). object_numbered r.number os ≡ Some o) (same r.handler m) is_there) f k of bound
        (subst (λ (os : List Object). Reaches s N P r (body_point s q os bs) p) (same r.handler m)
        (reaches_over a)) e is u

    reaches_over : {me : Reference} {p q : Point} → Reaches s M O me p q → Reaches s N P me p q
    reaches_over begins = begins
    reaches_over (goes a e) = goes (reaches_over a) e
    reaches_over (tests a e) = tests (reaches_over a) e
    reaches_over (enters a e b) = enters (reaches_over a) e (answers_over b)
    reaches_over (requests a e b) = requests (reaches_over a) e (answers_over b)

  ends_true_over : (me : Reference) (p : Point) → EndsTrue s M O me p → EndsTrue s N P me p
  ends_true_over me p e = record {
    end = e.end;
    type = e.type;
    others = e.others;
    reaches = reaches_over e.reaches;
    tasks_are = e.tasks_are;
    values_are = e.values_are;
  }

pub answers_locally : AnswersLocally
answers_locally s M O P same r x us v a = answers_over s M M O P same (λ k m. m) a

pub reaches_locally : ReachesLocally
reaches_locally s M O P same me p q a = reaches_over s M M O P same (λ k m. m) a

pub ends_true_locally : EndsTrueLocally
ends_true_locally s M O P same me p e = ends_true_over s M M O P same (λ k m. m) me p e

pub answers_more : AnswersMore
answers_more s M N O more r x us v a = answers_over s M N O O (λ k m. refl) more a

pub reaches_more : ReachesMore
reaches_more s M N O more me p q a = reaches_over s M N O O (λ k m. refl) more a

pub ends_true_more : EndsTrueMore
ends_true_more s M N O more me p e = ends_true_over s M N O O (λ k m. refl) more me p e

-- ---- those for whom a test is true

pub answers_are_local : AnswersAreLocal
answers_are_local s may O P same r x us v a = answers_locally s (Told may) O P same r x us v a

pub evaluations_are_local : EvaluationsAreLocal
evaluations_are_local s may O P same me p e = ends_true_locally s (Told may) O P same me p e

pub evaluations_may_ask_more : EvaluationsMayAskMore
evaluations_may_ask_more s may more O f me p e = ends_true_more s (Told may) (Told more) O f me p e
