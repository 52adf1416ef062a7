-- The code of assignments and creations, from those of their parts.
use Rattle.std.proofs.Common.{◌≡◌, ℕ, List, ◌++◌, Option, length, sym, ap, ◌∙◌, append_assoc}
use Rattle.sc_tree.specs.declared.expression.Expr as coded
use Rattle.sc_tree.specs.Plain.{Expr, Exprs, Variable}
use Rattle.sc_tree.specs.View.{exprs_of}
use Rattle.sc_rules.specs.declared.entity_types.entity_type.EntityType.{EntityType}
use Rattle.sc_rules.specs.CallRules.{count}
use Rattle.sc_rules.specs.Names.{Entities, Assignee, assignee, assignee_type}
use Rattle.sc_code.specs.Operations.{Operation}
use Rattle.sc_code.specs.Places.{Setting, here, exprs_types}
use Rattle.sc_code.specs.Emitted.{expr_code, exprs_code, assign_code, create_code}
use Rattle.sc_routines.proofs.ExpressionParts.{count_is}

module _ (h : Setting) (n m : Entities) (v : Variable) (base c1 c2 c3 : List Operation) (em : m ≡ n) where
  pub assigned : (e : Expr) → c1 ≡ base ++ expr_code h n 0 e → c2 ≡ c1 ++ assign_code h m v → c2 ≡ base ++ (expr_code h n 0 e ++ assign_code h n v)
  assigned e e1 e2 =
      e2 ∙ ap (λ m. c1 ++ assign_code h m v) em ∙ ap (λ (l : List Operation). l ++ assign_code h n v) e1 ∙ append_assoc base (expr_code h n 0 e) (assign_code h n v)

  pub created : (es : List coded.Expr) (fs : Exprs) (k : ℕ) (ts us : List EntityType) (p q : Option (List ℕ)) (a : Assignee) (t : Option EntityType) →
      exprs_of es ≡ fs → k ≡ length es → ts ≡ exprs_types h n 0 (exprs_of es) → us ≡ ts → p ≡ q → a ≡ assignee (here h) m v → t ≡ assignee_type a →
      c1 ≡ base ++ exprs_code h n 0 (exprs_of es) → c2 ≡ c1 ++ create_code h p k us t → c3 ≡ c2 ++ assign_code h m v →
      c3 ≡ base ++ (exprs_code h n 0 fs ++ (create_code h q (count fs) (exprs_types h n 0 fs) (assignee_type (assignee (here h) n v)) ++ assign_code h n v))
  created es fs k ts us p q a t ees ek ets eus ep ea et e1 e2 e3 =
      let actuals = exprs_code h n 0 fs in
      let types : us ≡ exprs_types h n 0 fs = eus ∙ ets ∙ ap (exprs_types h n 0) ees in
      let number : k ≡ count fs = ek ∙ sym (count_is es) ∙ ap count ees in
      let made : t ≡ assignee_type (assignee (here h) n v) = et ∙ ap assignee_type ea ∙ ap (λ m. assignee_type (assignee (here h) m v)) em in
      let make = create_code h q (count fs) (exprs_types h n 0 fs) (assignee_type (assignee (here h) n v)) in
      let second : c2 ≡ c1 ++ make =
      e2 ∙ ap (λ p. c1 ++ create_code h p k us t) ep ∙ ap (λ k. c1 ++ create_code h q k us t) number
      ∙ ap (λ (us : List EntityType). c1 ++ create_code h q (count fs) us t) types ∙ ap (λ t. c1 ++ create_code h q (count fs) (exprs_types h n 0 fs) t) made in
      let first : c1 ≡ base ++ actuals = e1 ∙ ap (λ (es : Exprs). base ++ exprs_code h n 0 es) ees in
      e3 ∙ ap (λ m. c2 ++ assign_code h m v) em ∙ ap (λ (l : List Operation). l ++ assign_code h n v) (second ∙ ap (λ (l : List Operation). l ++ make) first)
      ∙ append_assoc (base ++ actuals) make (assign_code h n v) ∙ append_assoc base actuals (make ++ assign_code h n v)
