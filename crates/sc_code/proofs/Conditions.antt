-- How the condition of an `if` begins.
use Rattle.std.proofs.Common.{◌≡◌, ◌≤◌, ℕ, ◌+◌, List, [], ◌∷◌, ◌++◌, Some, length, refl, sym, ap, ◌∙◌, subst, arith, length-append, append_assoc}
use Rattle.std.specs.Option.{option_map}
use Rattle.sc_tree.specs.declared.expression.BinaryOperator.TheVariants as binary
use Rattle.sc_tree.specs.Plain as tree
use Rattle.sc_tree.specs.Plain.{Expr}
use Rattle.sc_rules.specs.declared.position.Role.TheVariants as role
use Rattle.sc_rules.specs.Names.{Entities, entity, test_type}
use Rattle.sc_model.specs.Values.{Reference, Value, Operand}
use Rattle.sc_model.specs.Environments.{scope_of}
use Rattle.sc_model.specs.Olds.{olds_in}
use Rattle.sc_model.specs.Steps.{Point}
use Rattle.sc_model.specs.Expressions.{evaluate}
use Rattle.sc_model.specs.Tasks as task
use Rattle.sc_model.specs.Tasks.{Task}
use Rattle.sc_code.specs.Operations.{Test, Conclude}
use Rattle.sc_code.specs.Places.{Setting, here, expr_type, names_given, with_test}
use Rattle.sc_code.specs.Emitted.{expr_code, expr_depth, expr_slots, right_code, tested}
use Rattle.sc_code.specs.Typed.{IsCondition, test, both, plain}
use Rattle.sc_code.specs.Stands.{Run, Judged, Has, Room, Begins, StandsFor, settles, evaluates, judges, tests, judges_right, setting_in, types_of, Follows}
use Rattle.sc_code.proofs.Hops.{has_front, has_back, stands, stays}
use Rattle.sc_code.proofs.Codes.{type_is, no_names}
use Rattle.sc_code.proofs.Expressions.{evaluate_follows}

-- a condition only makes more names known
pub begins_given : (h : Setting) (low n : Entities) (i : ℕ) (e : Expr) → IsCondition h n i e → Begins low n → Begins low (names_given h n i e)
begins_given h low n i (tree.ObjectTest q d a x) (test t u) b =
    let w = entity x.text (test_type (here h) d (expr_type h n i a)) role.Test in
    (b.0 ++ w ∷ [], ap (λ l. l ++ w ∷ []) b.1 ∙ append_assoc low b.0 (w ∷ []))
begins_given h low n i (tree.Binary q binary.AndThen a b) (both x y) c =
    begins_given h low (names_given h n i a) (i + olds_in a) b y (begins_given h low n i a x c)
begins_given h low n i e (plain {t = t} ty) b = subst (Begins low) (sym (no_names h n i e t ty)) b

module _ (g : Run) (me : Reference) where
  pub judge_follows : (pc : ℕ) (tail : List Value) (p : Point) (i : ℕ) (e : Expr) (low : Entities)
      → Has g pc (expr_code (setting_in g p.text (types_of p.olds)) (scope_of p.environment) i e)
      → IsCondition (setting_in g p.text (types_of p.olds)) (scope_of p.environment) i e
      → Room g (types_of p.values) (expr_depth (setting_in g p.text (types_of p.olds)) (scope_of p.environment) i e)
      → expr_slots (setting_in g p.text (types_of p.olds)) (scope_of p.environment) i e ≤ g.slots → Begins low (scope_of p.environment)
      → StandsFor g (pc + length (expr_code (setting_in g p.text (types_of p.olds)) (scope_of p.environment) i e))
      (Judged p.text low (names_given (setting_in g p.text (types_of p.olds)) (scope_of p.environment) i e) (types_of p.olds) (types_of p.values)) p.tasks
      → length p.environment + length tail ≡ g.slots → option_map (λ (u : Operand). u.type) p.result ≡ g.result
      → Follows g me pc tail p (evaluate g.system me i e p)
  judge_follows pc tail p i (tree.ObjectTest q d a x) low has (test {t = t} {u = u} ty tt') room slots b st l r =
      let h = setting_in g p.text (types_of p.olds) in
      let n = scope_of p.environment in
      let code = expr_code h n i a in
      let op = Test (tested h n d) (length n) in
      let next = record p { tasks = task.Eval i a ∷ task.Bind d x.text ∷ p.tasks } in
      let e1 : pc + length (code ++ op ∷ []) ≡ pc + length code + 1 = omega (arith, length-append code (op ∷ [])) in
      let same : test_type (here h) d (expr_type h n i a) ≡ Some u = ap (test_type (here h) d) (type_is h n i a t ty) ∙ tt' in
      let st' = subst (λ o. StandsFor g (pc + length (code ++ op ∷ [])) (Judged p.text low (with_test x.text o n) (types_of p.olds) (types_of p.values)) p.tasks) same st in
      stays g me pc tail tail p next refl
      (stands g me pc tail next
      (evaluates (has_front g.code.operations pc code (op ∷ []) has) ty room
      (tests (has_back g.code.operations pc code (op ∷ []) has).0 tt' (omega (arith, slots)) b
      (subst (λ m. StandsFor g m (Judged p.text low (with_test x.text (Some u) n) (types_of p.olds) (types_of p.values)) p.tasks) e1 st'))) l r)
  judge_follows pc tail p i (tree.Binary q binary.AndThen a b) low has (both x y) room slots begins st l r =
      let h = setting_in g p.text (types_of p.olds) in
      let n = scope_of p.environment in
      let j = i + olds_in a in
      let high = names_given h n i a in
      let left = expr_code h n i a in
      let operand = expr_code h high j b in
      let right = right_code binary.AndThen operand in
      let next = record p { tasks = task.Eval i a ∷ task.EvalRight binary.AndThen j b ∷ p.tasks } in
      let e1 : pc + length (left ++ right) ≡ pc + length left + 1 + (length operand + 1) = omega (arith, length-append left right, length-append operand (Conclude ∷ [])) in
      stays g me pc tail tail p next refl
      (stands g me pc tail next
      (judges (has_front g.code.operations pc left right has) x (omega (arith, room)) (omega (arith, slots)) begins
      (judges_right (has_back g.code.operations pc left right has) y (omega (arith, room)) (omega (arith, slots)) (begins_given h low n i a x begins)
      (subst (λ m. StandsFor g m (Judged p.text low (names_given h high j b) (types_of p.olds) (types_of p.values)) p.tasks) e1 st))) l r)
  judge_follows pc tail p i e low has (plain {t = t} ty) room slots b st l r =
      let h = setting_in g p.text (types_of p.olds) in
      let n = scope_of p.environment in
      let st' = subst (λ m. StandsFor g (pc + length (expr_code h n i e)) (Judged p.text low m (types_of p.olds) (types_of p.values)) p.tasks) (no_names h n i e t ty) st in
      evaluate_follows g me pc tail p i e t has ty room (settles refl b st') l r
