-- Tasks on operands: operators, object tests, and the values of conditions.
use Rattle.std.proofs.Common.{◌≡◌, ◌≤◌, ℕ, ◌+◌, List, [], ◌∷◌, ◌++◌, Option, Some, None, true, false, length, refl, sym, ap, ◌∙◌, subst, arith}
use Rattle.std.specs.Prelude.{if◌then◌else◌}
use Rattle.std.specs.Option.{option_map}
use Rattle.sc_tree.specs.declared.expression.UnaryOperator.{UnaryOperator}
use Rattle.sc_tree.specs.declared.expression.BinaryOperator.{BinaryOperator}
use Rattle.sc_tree.specs.declared.expression.BinaryOperator.TheVariants as binary
use Rattle.sc_tree.specs.Plain.{Expr}
use Rattle.sc_rules.specs.declared.entity_types.entity_type.EntityType.{EntityType}
use Rattle.sc_rules.specs.entity_types.Conformance.{boolean}
use Rattle.sc_rules.specs.Names.{Entities}
use Rattle.sc_model.specs.declared.cause.Cause.TheVariants as cause
use Rattle.sc_model.specs.Values.{Reference, Value, Integer, Boolean, Void, Attached, Operand, operand}
use Rattle.sc_model.specs.Environments.{scope_of}
use Rattle.sc_model.specs.Operators.{is_short}
use Rattle.sc_model.specs.Steps as model
use Rattle.sc_model.specs.Steps.{Point}
use Rattle.sc_model.specs.Expressions.{apply_unary, applies, decided_by, evals_right, concludes}
use Rattle.sc_model.specs.Tasks as task
use Rattle.sc_model.specs.Tasks.{Task}
use Rattle.sc_code.specs.Operations.{Operation, ApplyUnary, ApplyBinary, Decide, Conclude}
use Rattle.sc_code.specs.Places.{unary_type, binary_type, names_given}
use Rattle.sc_code.specs.Emitted.{expr_code, expr_depth, expr_slots, right_code}
use Rattle.sc_code.specs.Machine as machine
use Rattle.sc_code.specs.Machine.{State, into, stuck, unary_value, binary_value}
use Rattle.sc_code.specs.Typed.{IsTyped, IsCondition}
use Rattle.sc_code.specs.Stands as stand
use Rattle.sc_code.specs.Stands.{Run, Known, Judged, Has, Is, Room, Begins, IsJudged, StandsFor, setting_in, types_of, values_in, state_at, Stands, told, judged, Follows}
use Rattle.sc_code.proofs.Hops.{has_front, has_back, stands, on, goes, failed, stays, replaced}
use Rattle.sc_code.proofs.Operators.{unary_is, binary_is, undecided}

abbrev type_at : Option Operand → Option EntityType
type_at o = option_map (λ (u : Operand). u.type) o

-- the point with one more operand
abbrev pub under : Operand → Point → Point
under u p = record p { values = u ∷ p.values }

module _ (g : Run) (me : Reference) (pc : ℕ) (tail : List Value) where
  pub unary_follows : (p : Point) (u : Operand) (op : UnaryOperator) → Is g pc (ApplyUnary op)
      → StandsFor g (pc + 1) (Known p.text (scope_of p.environment) (types_of p.olds) (unary_type op ∷ types_of p.values)) p.tasks
      → length p.environment + length tail ≡ g.slots → type_at p.result ≡ g.result → Follows g me pc tail (under u p) (apply_unary op u.value p)
  unary_follows p u op is st l r =
      subst (Follows g me pc tail (under u p)) (sym (unary_is op u.value p))
      (replaced g me (unary_value op u.value) (unary_type op) pc (ApplyUnary op) tail (under u p) p is refl st l r)

  pub binary_follows : (p : Point) (vs : List Operand) (u : Operand) (op : BinaryOperator) → Is g pc (ApplyBinary op)
      → StandsFor g (pc + 1) (Known p.text (scope_of p.environment) (types_of p.olds) (binary_type op ∷ stand.others (types_of vs))) p.tasks
      → length p.environment + length tail ≡ g.slots → type_at p.result ≡ g.result
      → Follows g me pc tail (record p { values = u ∷ vs }) (applies op u.value vs (record p { values = vs }))
  binary_follows p [] u op is st l r = failed g me pc (ApplyBinary op) cause.BadCode tail (record p { values = u ∷ [] }) (record p { values = [] }) (state_at pc tail (record p { values = u ∷ [] })) is refl refl
  binary_follows p (v ∷ vs) u op is st l r =
      let q = record p { values = vs } in
      subst (Follows g me pc tail (record p { values = u ∷ v ∷ vs })) (sym (binary_is op v.value u.value q))
      (replaced g me (binary_value op v.value u.value) (binary_type op) pc (ApplyBinary op) tail (record p { values = u ∷ v ∷ vs }) q is refl st l r)

  -- the right operand of an operator that always evaluates it
  pub right_follows : (p : Point) (u : Operand) (op : BinaryOperator) (i : ℕ) (e : Expr) (w : EntityType) → is_short op ≡ false
      → Has g pc (expr_code (setting_in g p.text (types_of p.olds)) (scope_of p.environment) i e ++ ApplyBinary op ∷ [])
      → IsTyped (setting_in g p.text (types_of p.olds)) (scope_of p.environment) i e w
      → Room g (u.type ∷ types_of p.values) (expr_depth (setting_in g p.text (types_of p.olds)) (scope_of p.environment) i e)
      → StandsFor g (pc + length (expr_code (setting_in g p.text (types_of p.olds)) (scope_of p.environment) i e) + 1)
      (Known p.text (scope_of p.environment) (types_of p.olds) (binary_type op ∷ types_of p.values)) p.tasks
      → length p.environment + length tail ≡ g.slots → type_at p.result ≡ g.result
      → Follows g me pc tail (under u p) (evals_right (decided_by op u.value) (is_short op) op i e u p)
  right_follows p u op i e w short has typed room st l r =
      let code = expr_code (setting_in g p.text (types_of p.olds)) (scope_of p.environment) i e in
      let next = record p { tasks = task.Eval i e ∷ task.ApplyBinary op ∷ p.tasks; values = u ∷ p.values } in
      let is = ap (λ d. evals_right d (is_short op) op i e u p) (undecided op u.value short) ∙ ap (λ b. evals_right None b op i e u p) short in
      subst (Follows g me pc tail (under u p)) (sym is)
      (stays g me pc tail tail (under u p) next refl
      (stands g me pc tail next
      (stand.evaluates (has_front g.code.operations pc code (ApplyBinary op ∷ []) has) typed room
      (stand.applies_binary (has_back g.code.operations pc code (ApplyBinary op ∷ []) has).0 st)) l r))

  short_code : (op : BinaryOperator) (code : List Operation) → is_short op ≡ true → Has g pc (right_code op code) → Has g pc (Decide op (length code + 1) ∷ (code ++ Conclude ∷ []))
  short_code op code short has = subst (λ b. Has g pc (if b then Decide op (length code + 1) ∷ (code ++ Conclude ∷ []) else code ++ ApplyBinary op ∷ [])) short has

  -- a semistrict operator
  pub short_follows : (p : Point) (u : Operand) (op : BinaryOperator) (i : ℕ) (e : Expr) (w : EntityType) → is_short op ≡ true
      → Has g pc (right_code op (expr_code (setting_in g p.text (types_of p.olds)) (scope_of p.environment) i e))
      → IsTyped (setting_in g p.text (types_of p.olds)) (scope_of p.environment) i e w
      → Room g (types_of p.values) (expr_depth (setting_in g p.text (types_of p.olds)) (scope_of p.environment) i e)
      → StandsFor g (pc + 1 + (length (expr_code (setting_in g p.text (types_of p.olds)) (scope_of p.environment) i e) + 1))
      (Known p.text (scope_of p.environment) (types_of p.olds) (boolean ∷ types_of p.values)) p.tasks
      → length p.environment + length tail ≡ g.slots → type_at p.result ≡ g.result
      → Follows g me pc tail (under u p) (evals_right (decided_by op u.value) (is_short op) op i e u p)
  short_follows p u op i e w short has typed room st l r =
      let code = expr_code (setting_in g p.text (types_of p.olds)) (scope_of p.environment) i e in
      let n = length code + 1 in
      let has' = short_code op code short has in
      elim (decided_by op u.value) as (λ d. decided_by op u.value ≡ d → Follows g me pc tail (under u p) (evals_right d (is_short op) op i e u p)) [
        | Some b ↦ λ is.
            goes g me pc (pc + 1 + n) (Decide op n) tail tail (under u p) (record p { values = operand (Boolean b) boolean ∷ p.values }) has'.0
            (ap (λ d. machine.decides g.code d n (state_at pc tail p)) is) (stands g me (pc + 1 + n) tail (record p { values = operand (Boolean b) boolean ∷ p.values }) st l r)
        | None ↦ λ is.
            let next = record p { tasks = task.Eval i e ∷ task.Conclude ∷ p.tasks } in
            let back = has_back g.code.operations (pc + 1) code (Conclude ∷ []) has'.1 in
            let e1 : pc + 1 + n ≡ pc + 1 + length code + 1 = omega arith in
            subst (Follows g me pc tail (under u p)) (sym (ap (λ b. evals_right None b op i e u p) short))
            (goes g me pc (pc + 1 + 0) (Decide op n) tail tail (under u p) next has'.0 (ap (λ d. machine.decides g.code d n (state_at pc tail p)) is)
            (stands g me (pc + 1 + 0) tail next
            (on g me (pc + 1 + 0) (pc + 1) (Known p.text (scope_of p.environment) (types_of p.olds) (types_of p.values)) next.tasks (omega arith)
            (stand.evaluates (has_front g.code.operations (pc + 1) code (Conclude ∷ []) has'.1) typed room
            (stand.concludes back.0 (subst (λ m. StandsFor g m (Known p.text (scope_of p.environment) (types_of p.olds) (boolean ∷ types_of p.values)) p.tasks) e1 st)))) l r))
      ] refl

  -- an `and then` of a condition, where its left operand is a truth value
  judges_on : (p : Point) (u : Operand) (i : ℕ) (e : Expr) (low high : Entities) → decided_by binary.AndThen u.value ≡ None → scope_of p.environment ≡ high
      → Has g pc (right_code binary.AndThen (expr_code (setting_in g p.text (types_of p.olds)) high i e))
      → IsCondition (setting_in g p.text (types_of p.olds)) high i e
      → Room g (types_of p.values) (expr_depth (setting_in g p.text (types_of p.olds)) high i e)
      → expr_slots (setting_in g p.text (types_of p.olds)) high i e ≤ g.slots → Begins low high
      → StandsFor g (pc + 1 + (length (expr_code (setting_in g p.text (types_of p.olds)) high i e) + 1))
      (Judged p.text low (names_given (setting_in g p.text (types_of p.olds)) high i e) (types_of p.olds) (types_of p.values)) p.tasks
      → length p.environment + length tail ≡ g.slots → type_at p.result ≡ g.result
      → Follows g me pc tail (under u p) (model.comes (task.Eval i e ∷ task.Conclude ∷ []) p)
  judges_on p u i e low high is names has c room slots b st l r =
      let h = setting_in g p.text (types_of p.olds) in
      let code = expr_code h high i e in
      let n = length code + 1 in
      let next = record p { tasks = task.Eval i e ∷ task.Conclude ∷ p.tasks } in
      let back = has_back g.code.operations (pc + 1) code (Conclude ∷ []) has.1 in
      let e1 : pc + 1 + n ≡ pc + 1 + length code + 1 = omega arith in
      let given = names_given h high i e in
      let there : StandsFor g (pc + 1) (Known p.text high (types_of p.olds) (types_of p.values)) next.tasks =
      stand.judges (has_front g.code.operations (pc + 1) code (Conclude ∷ []) has.1) c room slots b
      (stand.concludes_judgement back.0 (subst (λ m. StandsFor g m (Judged p.text low given (types_of p.olds) (types_of p.values)) p.tasks) e1 st)) in
      goes g me pc (pc + 1 + 0) (Decide binary.AndThen n) tail tail (under u p) next has.0 (ap (λ d. machine.decides g.code d n (state_at pc tail p)) is)
      (stands g me (pc + 1 + 0) tail next
      (on g me (pc + 1 + 0) (pc + 1) (Known p.text (scope_of p.environment) (types_of p.olds) (types_of p.values)) next.tasks (omega arith)
      (subst (λ m. StandsFor g (pc + 1) (Known p.text m (types_of p.olds) (types_of p.values)) next.tasks) (sym names) there)) l r)

  pub judges_right_follows : (p : Point) (v : Value) (t : EntityType) (i : ℕ) (e : Expr) (low high : Entities) → IsJudged low high v (scope_of p.environment)
      → Has g pc (right_code binary.AndThen (expr_code (setting_in g p.text (types_of p.olds)) high i e))
      → IsCondition (setting_in g p.text (types_of p.olds)) high i e
      → Room g (types_of p.values) (expr_depth (setting_in g p.text (types_of p.olds)) high i e)
      → expr_slots (setting_in g p.text (types_of p.olds)) high i e ≤ g.slots → Begins low high
      → StandsFor g (pc + 1 + (length (expr_code (setting_in g p.text (types_of p.olds)) high i e) + 1))
      (Judged p.text low (names_given (setting_in g p.text (types_of p.olds)) high i e) (types_of p.olds) (types_of p.values)) p.tasks
      → length p.environment + length tail ≡ g.slots → type_at p.result ≡ g.result
      → Follows g me pc tail (under (operand v t) p) (evals_right (decided_by binary.AndThen v) (is_short binary.AndThen) binary.AndThen i e (operand v t) p)
  judges_right_follows p (Boolean false) t i e low high j has c room slots b st l r =
      let n = length (expr_code (setting_in g p.text (types_of p.olds)) high i e) + 1 in
      let u = operand (Boolean false) boolean in
      goes g me pc (pc + 1 + n) (Decide binary.AndThen n) tail tail (under (operand (Boolean false) t) p) (under u p) has.0 refl
      (record { tells = judged u p.values low (names_given (setting_in g p.text (types_of p.olds)) high i e) refl j st; has_slots = l; has_result = r })
  judges_right_follows p (Boolean true) t i e low high j has c room slots b st l r = judges_on p (operand (Boolean true) t) i e low high refl j has c room slots b st l r
  judges_right_follows p (Integer z) t i e low high j has c room slots b st l r = judges_on p (operand (Integer z) t) i e low high refl j has c room slots b st l r
  judges_right_follows p Void t i e low high j has c room slots b st l r = judges_on p (operand Void t) i e low high refl j has c room slots b st l r
  judges_right_follows p (Attached q) t i e low high j has c room slots b st l r = judges_on p (operand (Attached q) t) i e low high refl j has c room slots b st l r

  pub concludes_follows : (p : Point) (v : Value) (t : EntityType) → Is g pc Conclude
      → StandsFor g (pc + 1) (Known p.text (scope_of p.environment) (types_of p.olds) (boolean ∷ types_of p.values)) p.tasks
      → length p.environment + length tail ≡ g.slots → type_at p.result ≡ g.result → Follows g me pc tail (under (operand v t) p) (concludes v p)
  concludes_follows p (Boolean b) t is st l r =
      goes g me pc (pc + 1 + 0) Conclude tail tail (under (operand (Boolean b) t) p) (under (operand (Boolean b) boolean) p) is refl
      (stands g me (pc + 1 + 0) tail (under (operand (Boolean b) boolean) p) (on g me (pc + 1 + 0) (pc + 1) _ p.tasks (omega arith) st) l r)
  concludes_follows p (Integer z) t is st l r = failed g me pc Conclude cause.BadCode tail (under (operand (Integer z) t) p) p (state_at pc tail p) is refl refl
  concludes_follows p Void t is st l r = failed g me pc Conclude cause.BadCode tail (under (operand Void t) p) p (state_at pc tail p) is refl refl
  concludes_follows p (Attached q) t is st l r = failed g me pc Conclude cause.BadCode tail (under (operand (Attached q) t) p) p (state_at pc tail p) is refl refl

  pub judgement_follows : (p : Point) (v : Value) (t : EntityType) (low high : Entities) → Is g pc Conclude → IsJudged low high v (scope_of p.environment)
      → StandsFor g (pc + 1) (Judged p.text low high (types_of p.olds) (types_of p.values)) p.tasks
      → length p.environment + length tail ≡ g.slots → type_at p.result ≡ g.result → Follows g me pc tail (under (operand v t) p) (concludes v p)
  judgement_follows p (Boolean b) t low high is j st l r =
      let st' = subst (λ m. StandsFor g m (Judged p.text low high (types_of p.olds) (types_of p.values)) p.tasks) (let e : pc + 1 ≡ pc + 1 + 0 = omega arith in e) st in
      goes g me pc (pc + 1 + 0) Conclude tail tail (under (operand (Boolean b) t) p) (under (operand (Boolean b) boolean) p) is refl
      (record { tells = judged (operand (Boolean b) boolean) p.values low high refl j st'; has_slots = l; has_result = r })
  judgement_follows p (Integer z) t low high is j st l r = failed g me pc Conclude cause.BadCode tail (under (operand (Integer z) t) p) p (state_at pc tail p) is refl refl
  judgement_follows p Void t low high is j st l r = failed g me pc Conclude cause.BadCode tail (under (operand Void t) p) p (state_at pc tail p) is refl refl
  judgement_follows p (Attached q) t low high is j st l r = failed g me pc Conclude cause.BadCode tail (under (operand (Attached q) t) p) p (state_at pc tail p) is refl refl
