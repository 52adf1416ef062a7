-- Operators that need both sides, and silent steps that lead from one point to another.
use Rattle.std.proofs.Common.{◌≡◌, ℕ, zero, suc, Bool, true, false, List, [], ◌∷◌, Option, Some, None, Ok, Err, refl, sym, ap, subst, ◌∙◌}
use Rattle.std.specs.Option.{option_map, option_and_then}
use Rattle.std.specs.Result.{result_ok}
use Rattle.sc_formula.specs.declared.arithmetic.ArithmeticFault.TheVariants as fault
use Rattle.sc_formula.specs.declared.arithmetic.ArithmeticOperator.{ArithmeticOperator}
use Rattle.sc_formula.specs.declared.comparison.Comparison.{Comparison}
use Rattle.sc_formula.specs.declared.connective.Connective.{Connective}
use Rattle.sc_formula.specs.Arithmetic.{ArithmeticResult}
use Rattle.sc_formula.specs.Connective.{decision_of, truth_table}
use Rattle.sc_tree.specs.declared.expression.BinaryOperator.{BinaryOperator}
use Rattle.sc_tree.specs.declared.expression.BinaryOperator.TheVariants as binary
use Rattle.sc_tree.specs.Plain.{System}
use Rattle.sc_rules.specs.entity_types.Conformance.{integer}
use Rattle.sc_rules.specs.declared.entity_types.entity_type.EntityType.{EntityType}
use Rattle.sc_model.specs.declared.cause.Cause.{Cause}
use Rattle.sc_model.specs.declared.cause.Cause.TheVariants as cause
use Rattle.sc_model.specs.Values.{Reference, Value, Integer, Boolean, Operand, operand}
use Rattle.sc_model.specs.Operators.{arithmetic_of, comparison_of, connective_of, is_short}
use Rattle.sc_model.specs.Tasks.{Task}
use Rattle.sc_model.specs.Steps.{Point, Act, Fails, Step, Goes, Does}
use Rattle.sc_model.specs.Expressions.{gives_outcome}
use Rattle.sc_model.specs.Moves.{step, then_go, first_visible}
use Rattle.sc_machine_laws.specs.Formulas.{IsFault}

-- ---- operators

-- a comparison is no arithmetic
pub compares_alone : (op : BinaryOperator) (c : Comparison) → comparison_of op ≡ Some c → arithmetic_of op ≡ None
compares_alone binary.Equal c e = refl
compares_alone binary.NotEqual c e = refl
compares_alone binary.Less c e = refl
compares_alone binary.Greater c e = refl
compares_alone binary.LessEqual c e = refl
compares_alone binary.GreaterEqual c e = refl
compares_alone _ c e = cc

-- operators on integers need both sides
pub compares_long : (op : BinaryOperator) (c : Comparison) → comparison_of op ≡ Some c → is_short op ≡ false
compares_long binary.AndThen c e = cc
compares_long binary.OrElse c e = cc
compares_long binary.Implies c e = cc
compares_long _ c e = refl

pub computes_long : (op : BinaryOperator) (c : ArithmeticOperator) → arithmetic_of op ≡ Some c → is_short op ≡ false
computes_long binary.AndThen c e = cc
computes_long binary.OrElse c e = cc
computes_long binary.Implies c e = cc
computes_long _ c e = refl

-- Where a left side could have decided and didn't, the right side is the truth.
right_side_is : (op : BinaryOperator) (l r : Bool) → is_short op ≡ true →
    option_and_then (λ c. decision_of c l) (connective_of op) ≡ None →
    option_map (λ c. truth_table c l r) (connective_of op) ≡ Some r
right_side_is binary.AndThen true r s d = refl
right_side_is binary.AndThen false r s d = cc
right_side_is binary.OrElse true r s d = cc
right_side_is binary.OrElse false r s d = refl
right_side_is binary.Implies true r s d = refl
right_side_is binary.Implies false r s d = cc
right_side_is _ l r s d = cc

pub truth_is_right : (op : BinaryOperator) (c : Connective) (l r : Bool) → connective_of op ≡ Some c →
    is_short op ≡ true → decision_of c l ≡ None → truth_table c l r ≡ r
truth_is_right op c l r e s d =
    let f : Some (truth_table c l r) ≡ Some r =
    sym (ap (option_map (λ c. truth_table c l r)) e)
    ∙ right_side_is op l r s (ap (option_and_then (λ c. decision_of c l)) e ∙ d) in
    cc

-- ---- silent steps

-- the truth value that comes last
abbrev pub as_truth : Value → Option Bool
as_truth (Boolean b) = Some b
as_truth v = None

abbrev pub truth_in : List Operand → Option Bool
truth_in [] = None
truth_in (u ∷ us) = as_truth u.value

abbrev pub last_truth : Step → Option Bool
last_truth (Goes p) = truth_in p.values
last_truth (Does a p) = truth_in p.values

module _ (s : System) (me : Reference) where
  -- the steps from the point come to this one
  pub record Leads (p : Point) (st : Step) : Type 0 where
    pub steps : ℕ
    pub leads : first_visible steps s me p ≡ st

  pub leads_next : {p q : Point} {st : Step} → step s me p ≡ Goes q → Leads q st → Leads p st
  leads_next e l = record {
    steps = suc l.steps;
    leads = ap (λ st. then_go st (first_visible l.steps s me)) e ∙ l.leads;
  }

  once : (st : Step) → then_go st (first_visible zero s me) ≡ st
  once (Goes p) = refl
  once (Does a p) = refl

  pub leads_once : {p : Point} {st : Step} → step s me p ≡ st → Leads p st
  leads_once {p} {st} e = record {
    steps = suc zero;
    leads = ap (λ st. then_go st (first_visible zero s me)) e ∙ once st;
  }

  leads_on : (n : ℕ) (p q : Point) (st : Step) → first_visible n s me p ≡ Goes q → Leads q st → Leads p st
  leads_on zero p q st e l = subst (λ p. Leads p st) (same e) l
    where
      same : Goes p ≡ Goes q → q ≡ p
      same e = cc
  leads_on (suc n) p q st e l = by (step s me p) refl (λ r e. leads_on n r q st e l) e
    where
      by : (x : Step) → step s me p ≡ x → ((r : Point) → first_visible n s me r ≡ Goes q → Leads r st) →
          then_go x (first_visible n s me) ≡ Goes q → Leads p st
      by (Goes r) i later e = leads_next i (later r e)
      by (Does a r) i later e = cc

  pub leads_then : {p q : Point} {st : Step} → Leads p (Goes q) → Leads q st → Leads p st
  leads_then {p} {q} {st} l m = leads_on l.steps p q st l.leads m

  -- the first visible step is one
  pub visible_alone : (n m : ℕ) (p q r : Point) (a b : Act) → first_visible n s me p ≡ Does a q →
      first_visible m s me p ≡ Does b r → Does a q ≡ Does b r
  visible_alone zero m p q r a b e f = cc
  visible_alone (suc n) zero p q r a b e f = cc
  visible_alone (suc n) (suc m) p q r a b e f =
      by (step s me p) (λ t e f. visible_alone n m t q r a b e f) e f
    where
      by : (x : Step) → ((t : Point) → first_visible n s me t ≡ Does a q → first_visible m s me t ≡ Does b r →
          Does a q ≡ Does b r) → then_go x (first_visible n s me) ≡ Does a q →
          then_go x (first_visible m s me) ≡ Does b r → Does a q ≡ Does b r
      by (Goes t) later e f = later t e f
      by (Does c t) later e f = sym e ∙ f

  module _ (p : Point) where
    -- the point with these tasks and values
    abbrev at : List Task → List Operand → Point
    at ts vs = record p { tasks = ts; values = vs }

    -- from there the value comes onto the values, and the tasks are left
    pub record Given (q : Point) (ts : List Task) (vs : List Operand) (v : Value) : Type 0 where
      pub type : EntityType
      pub leads : Leads q (Goes (at ts (operand v type ∷ vs)))

    -- from there a step is a fault
    pub record Faults (q : Point) : Type 0 where
      pub why : Cause
      pub end : Point
      pub leads : Leads q (Does (Fails why) end)
      pub is_fault : IsFault why

    abbrev pub Comes : Point → List Task → List Operand → Option Value → Type 0
    Comes q ts vs None = Faults q
    Comes q ts vs (Some v) = Given q ts vs v

    pub comes_after : {q r : Point} (ts : List Task) (vs : List Operand) (v : Option Value) → Leads q (Goes r) →
        Comes r ts vs v → Comes q ts vs v
    comes_after ts vs None l c = record {
      why = c.why;
      end = c.end;
      leads = leads_then l c.leads;
      is_fault = c.is_fault;
    }
    comes_after ts vs (Some v) l c = record { type = c.type; leads = leads_then l c.leads }

    pub outcome_comes : (q : Point) (ts : List Task) (vs : List Operand) (o : ArithmeticResult) →
        step s me q ≡ gives_outcome o (at ts vs) → Comes q ts vs (option_map Integer (result_ok o))
    outcome_comes q ts vs (Ok z) e = record { type = integer; leads = leads_once e }
    outcome_comes q ts vs (Err fault.Overflow) e = record {
      why = cause.Overflow;
      end = _;
      leads = leads_once e;
      is_fault = _;
    }
    outcome_comes q ts vs (Err fault.DivideByZero) e = record {
      why = cause.DivideByZero;
      end = _;
      leads = leads_once e;
      is_fault = _;
    }
