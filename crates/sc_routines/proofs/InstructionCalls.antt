-- The code of calls that are instructions, from those of their parts.
use Rattle.std.proofs.Common.{◌≡◌, ℕ, Bool, true, false, List, [], ◌∷◌, ◌++◌, Option, length, sym, ap, ◌∙◌, append_assoc}
use Rattle.sc_tree.specs.declared.expression.Expr as coded
use Rattle.sc_tree.specs.Plain.{Expr}
use Rattle.sc_tree.specs.View.{exprs_of}
use Rattle.sc_rules.specs.declared.entity_types.entity_type.EntityType.{EntityType}
use Rattle.sc_rules.specs.CallRules.{count}
use Rattle.sc_rules.specs.Names.{Entities}
use Rattle.sc_code.specs.Operations.{Operation, Print}
use Rattle.sc_code.specs.Places.{Setting, expr_type, exprs_types}
use Rattle.sc_code.specs.Emitted.{expr_code, exprs_code, instruction_call, routine_call, feature_call}
use Rattle.sc_routines.proofs.ExpressionParts.{count_is}

behind_actuals : (b : Bool) (base actuals call : List Operation) → (base ++ actuals) ++ instruction_call b [] call ≡ base ++ instruction_call b actuals call
behind_actuals true base actuals call = append_assoc base actuals (Print ∷ [])
behind_actuals false base actuals call = append_assoc base actuals call

module _ (h : Setting) (n : Entities) (x : List ℕ) (es : List coded.Expr) (k : ℕ) (ts us : List EntityType) (base c1 c2 c3 : List Operation)
    (ek : k ≡ length es) (ets : ts ≡ exprs_types h n 0 (exprs_of es)) (eus : us ≡ ts) where
  pub own_call : (b : Bool) → c1 ≡ base ++ exprs_code h n 0 (exprs_of es) → c2 ≡ c1 ++ instruction_call b [] (routine_call h x k us) →
      c2 ≡ base ++ instruction_call b (exprs_code h n 0 (exprs_of es)) (routine_call h x (count (exprs_of es)) (exprs_types h n 0 (exprs_of es)))
  own_call b e1 e2 =
      e2 ∙ ap (λ k. c1 ++ instruction_call b [] (routine_call h x k us)) (ek ∙ sym (count_is es))
      ∙ ap (λ (ts : List EntityType). c1 ++ instruction_call b [] (routine_call h x (count (exprs_of es)) ts)) (eus ∙ ets)
      ∙ ap (λ (l : List Operation). l ++ instruction_call b [] (routine_call h x (count (exprs_of es)) (exprs_types h n 0 (exprs_of es)))) e1
      ∙ behind_actuals b base (exprs_code h n 0 (exprs_of es)) (routine_call h x (count (exprs_of es)) (exprs_types h n 0 (exprs_of es)))

  pub qualified_call : (a : Expr) (t : Option EntityType) → t ≡ expr_type h n 0 a → c1 ≡ base ++ expr_code h n 0 a → c2 ≡ c1 ++ exprs_code h n 0 (exprs_of es) → c3 ≡ c2 ++ feature_call h x k t us →
      c3 ≡ base ++ (expr_code h n 0 a ++ (exprs_code h n 0 (exprs_of es) ++ feature_call h x (count (exprs_of es)) (expr_type h n 0 a) (exprs_types h n 0 (exprs_of es))))
  qualified_call a t et e1 e2 e3 =
      let call = feature_call h x (count (exprs_of es)) (expr_type h n 0 a) (exprs_types h n 0 (exprs_of es)) in
      e3 ∙ ap (λ k. c2 ++ feature_call h x k t us) (ek ∙ sym (count_is es))
      ∙ ap (λ (ts : List EntityType). c2 ++ feature_call h x (count (exprs_of es)) t ts) (eus ∙ ets)
      ∙ ap (λ t. c2 ++ feature_call h x (count (exprs_of es)) t (exprs_types h n 0 (exprs_of es))) et
      ∙ ap (λ (l : List Operation). l ++ call) (e2 ∙ ap (λ (l : List Operation). l ++ exprs_code h n 0 (exprs_of es)) e1)
      ∙ append_assoc (base ++ expr_code h n 0 a) (exprs_code h n 0 (exprs_of es)) call
      ∙ append_assoc base (expr_code h n 0 a) (exprs_code h n 0 (exprs_of es) ++ call)
