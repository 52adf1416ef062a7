-- Each step of the model is some operations of the code, and so are its moves.
use Rattle.std.proofs.Common.{◌≡◌, ◌<◌, ℕ, zero, suc, ◌+◌, List, [], ◌∷◌, ◌++◌, Option, true, false, length, refl, sym, ap, ◌∙◌, subst, arith}
use Rattle.std.specs.Option.{option_map}
use Rattle.sc_tree.specs.Plain.{System}
use Rattle.sc_rules.specs.declared.entity_types.entity_type.EntityType.{EntityType}
use Rattle.sc_rules.specs.Names.{Entities}
use Rattle.sc_model.specs.declared.cause.Cause.TheVariants as cause
use Rattle.sc_model.specs.Values.{Reference, Value, Integer, Boolean, Void, Attached, Operand}
use Rattle.sc_model.specs.Operators.{is_short}
use Rattle.sc_tree.specs.declared.expression.BinaryOperator.{BinaryOperator}
use Rattle.std.specs.Prelude.{if◌then◌else◌}
use Rattle.sc_code.specs.Emitted.{expr_code, instrs_code, right_code, loop_code, formals_in, tested}
use Rattle.sc_model.specs.Environments.{scope_of}
use Rattle.sc_model.specs.Steps as model
use Rattle.sc_model.specs.Steps.{Point}
use Rattle.sc_model.specs.Moves.{step_at, step, then_go, first_visible, moves}
use Rattle.sc_model.specs.Sizes.{size}
use Rattle.sc_model.specs.Tasks.{Task}
use Rattle.sc_model.proofs.Silent.{falls}
use Rattle.sc_code.specs.Operations as op
use Rattle.sc_code.specs.Operations.{Operation}
use Rattle.sc_code.specs.Machine as machine
use Rattle.sc_code.specs.Machine.{State, Goes, Does, hop, hops, then_hop}
use Rattle.sc_code.specs.Stands.{Run, Knowledge, Known, Judged, Begins, IsJudged, Has, Is, setting_in, StandsFor, jumps, settles, exits, does, enters_text, declares, forgets, evaluates, judges, applies_unary, evaluates_right, decides, judges_right, applies_binary, concludes, concludes_judgement, tests, calls_routine, calls_feature, assigns_slot, assigns_attribute, assigns_result, creates, creates_handler, prints, chooses, repeats, ends_loop, checks, opens, leaves, requires, required, keeps_old, ensures, types_of, state_at, Tells, told, judged, known_at, Stands, Follows, Moves}
use Rattle.sc_code.proofs.Hops.{has_back, stands, stays, shows, failed, one, comes, hops_on, after, within}
use Rattle.sc_code.proofs.Expressions.{evaluate_follows}
use Rattle.sc_code.proofs.Conditions.{judge_follows}
use Rattle.sc_code.proofs.Operands.{unary_follows, binary_follows, right_follows, short_follows, judges_right_follows, concludes_follows, judgement_follows}
use Rattle.sc_code.proofs.ObjectTests.{bind_follows}
use Rattle.sc_code.proofs.Calls.{calls_routine_follows, calls_feature_follows}
use Rattle.sc_code.proofs.Assignments.{assigns_slot_follows, assigns_attribute_follows, assigns_result_follows, creates_follows, creates_handler_follows}
use Rattle.sc_code.proofs.Control.{does_follow, forgets_follow, leaves_follow, prints_follow, tests_follow, chooses_follow, repeats_follow, ends_follow, opens_follow}
use Rattle.sc_code.proofs.Contracts.{requires_follow, required_follows, keeps_follow, declares_follow}

abbrev type_at : Option Operand → Option EntityType
type_at o = option_map (λ (u : Operand). u.type) o

-- the point with these tasks and operands
abbrev at : Point → List Task → List Operand → Point
at p k vs = record p { tasks = k; values = vs }

settled : (low n : Entities) (v : Value) → Begins low n → IsJudged low n v n
settled low n (Boolean true) b = refl
settled low n (Boolean false) b = b
settled low n (Integer z) b = refl
settled low n Void b = refl
settled low n (Attached r) b = refl

-- the tasks begin at the place itself
abbrev IsDirect : (g : Run) (pc : ℕ) (x : Knowledge) (k : List Task) → StandsFor g pc x k → Type 0
IsDirect g pc x k (jumps is st) = ⊥
IsDirect g pc x k st = Unit {0}

-- where the jumps at a place lead
record Landing (g : Run) (me : Reference) (tail : List Value) (pc : ℕ) (x : Knowledge) (k : List Task) : Type 0 where
  place : ℕ
  steps : ℕ
  run : (p : Point) → hops steps g.system g.code me (state_at pc tail p) ≡ Goes (state_at place tail p)
  stands_for : StandsFor g place x k
  direct : IsDirect g place x k stands_for

landing : (g : Run) (me : Reference) (tail : List Value) (pc : ℕ) (x : Knowledge) (k : List Task) → StandsFor g pc x k → Landing g me tail pc x k
landing g me tail pc x k (jumps {m = m} is st) =
    let more = landing g me tail (pc + 1 + m) x k st in
    record {
      place = more.place;
      steps = suc more.steps;
      run = λ p. ap (λ y. then_hop y (hops more.steps g.system g.code me))
          (one g me pc tail (op.Jump m) p (machine.into g.code (pc + 1 + m) (state_at pc tail p)) is refl ∙ comes g me (pc + 1 + m) (state_at pc tail p) (within g (pc + 1 + m) x k st)) ∙ more.run p;
      stands_for = more.stands_for;
      direct = more.direct;
    }
landing g me tail pc x k st = record { place = pc; steps = 0; run = λ p. refl; stands_for = st; direct = tt }

module _ (g : Run) (me : Reference) (tail : List Value) where
  -- where nothing is popped the operation fails too
  empty : (pc : ℕ) (o : Operation) (p : Point) (k : List Task) → Is g pc o → machine.hop_at g.system g.code me o (state_at pc tail (at p k [])) ≡ machine.stuck (state_at pc tail (at p k []))
      → Follows g me pc tail (at p k []) (model.stuck (at p k []))
  empty pc o p k is e = failed g me pc o cause.BadCode tail (at p k []) (at p k []) (state_at pc tail (at p k [])) is e refl

  judged_follows : (pc : ℕ) (p : Point) (k : List Task) (u : Operand) (us : List Operand) (low high : Entities) → IsJudged low high u.value (scope_of p.environment)
      → (st : StandsFor g pc (Judged p.text low high (types_of p.olds) (types_of us)) k) → IsDirect g pc (Judged p.text low high (types_of p.olds) (types_of us)) k st → length p.environment + length tail ≡ g.slots → type_at p.result ≡ g.result
      → Follows g me pc tail (at p k (u ∷ us)) (step_at g.system me k (at p k (u ∷ us)))
  judged_follows pc p k u us low high j (jumps is st) direct l r = absurd direct
  judged_follows pc p (_ ∷ k) u us low high j (judges_right {i = i} {e = e} has c room slots b st) direct l r =
      judges_right_follows g me pc tail (at p k us) u.value u.type i e low high j has c room slots b st l r
  judged_follows pc p (_ ∷ k) u us low high j (concludes_judgement is st) direct l r = judgement_follows g me pc tail (at p k us) u.value u.type low high is j st l r
  judged_follows pc p (_ ∷ k) u us low high j (chooses {body = body} {other = other} {bs = bs} own has a b c ra rb rc sa sb sc begins st) direct l r =
      chooses_follow g me pc tail (at p k us) u.value u.type low high body other bs own j has a b c ra rb rc sa sb sc begins st l r

  -- a semistrict operator's first operation
  first_of_short : (pc : ℕ) (o : BinaryOperator) (code : List Operation) → is_short o ≡ true → Has g pc (right_code o code) → Is g pc (op.Decide o (length code + 1))
  first_of_short pc o code short has =
      (subst (λ b. Has g pc (if b then op.Decide o (length code + 1) ∷ (code ++ op.Conclude ∷ []) else code ++ op.ApplyBinary o ∷ [])) short has).0

  -- a loop's last operation
  last_of_loop : (pc q : ℕ) (inner until : List Operation) → Has g q (loop_code inner until) → pc ≡ q + length inner + length until → Is g pc (op.EndLoop (length inner + length until))
  last_of_loop pc q inner until has e =
      let x = op.EndLoop (length inner + length until) in
      let behind = has_back g.code.operations q inner (until ++ x ∷ []) has in
      let last = has_back g.code.operations (q + length inner) until (x ∷ []) behind in
      subst (λ m. Is g m x) (sym e) last.0

  known_follows : (pc : ℕ) (p : Point) (k : List Task) (vs : List Operand)
      → (st : StandsFor g pc (Known p.text (scope_of p.environment) (types_of p.olds) (types_of vs)) k)
      → IsDirect g pc (Known p.text (scope_of p.environment) (types_of p.olds) (types_of vs)) k st → length p.environment + length tail ≡ g.slots → type_at p.result ≡ g.result
      → Follows g me pc tail (at p k vs) (step_at g.system me k (at p k vs))
  known_follows pc p k vs (jumps is st) direct l r = absurd direct
  known_follows pc p k [] (settles f b st) direct l r = absurd (cc)
  known_follows pc p k (u ∷ us) (settles {low = low} f b st) direct l r =
      let there = landing g me tail pc (Judged p.text low (scope_of p.environment) (types_of p.olds) (types_of us)) k st in
      after g me there.steps pc there.place tail (at p k (u ∷ us)) (step_at g.system me k (at p k (u ∷ us))) (there.run (at p k (u ∷ us)))
      (judged_follows there.place p k u us low (scope_of p.environment) (settled low (scope_of p.environment) u.value b) there.stands_for there.direct l r)
  known_follows pc p [] vs (exits is) direct l r =
      shows g me pc op.Exit machine.Exits tail (at p [] vs) (state_at pc tail (at p [] vs)) model.Exits (at p [] vs) is refl refl (pc, tail, refl, tt)
  known_follows pc p (_ ∷ k) vs (does {is = is} own has a room slots st) direct l r = does_follow g me pc tail (at p k vs) is own has a room slots st l r
  known_follows pc p (_ ∷ k) vs (enters_text {u = u} st) direct l r =
      stays g me pc tail tail (at p k vs) (record p { tasks = k; values = vs; text = u }) refl (stands g me pc tail (record p { tasks = k; values = vs; text = u }) st l r)
  known_follows pc p (_ ∷ k) vs (declares {locals = locals} has fits st) direct l r = declares_follow g me pc tail (at p k vs) locals has fits st l r
  known_follows pc p (_ ∷ k) vs (forgets {d = d} st) direct l r = forgets_follow g me pc tail (at p k vs) d st l r
  known_follows pc p (_ ∷ k) vs (evaluates {i = i} {e = e} {u = u} has t room st) direct l r = evaluate_follows g me pc tail (at p k vs) i e u has t room st l r
  known_follows pc p (_ ∷ k) vs (judges {i = i} {low = low} {e = e} has c room slots b st) direct l r = judge_follows g me pc tail (at p k vs) i e low has c room slots b st l r
  known_follows pc p (t ∷ k) [] (applies_unary {op = o} is st) direct l r = empty pc (op.ApplyUnary o) p k is refl
  known_follows pc p (_ ∷ k) (u ∷ us) (applies_unary {op = o} is st) direct l r = unary_follows g me pc tail (at p k us) u o is st l r
  known_follows pc p (_ ∷ k) [] (evaluates_right f s has t room st) direct l r = absurd (cc)
  known_follows pc p (_ ∷ k) (u ∷ us) (evaluates_right {i = i} {op = o} {e = e} {u = w} f s has t room st) direct l r = right_follows g me pc tail (at p k us) u o i e w s has t room st l r
  known_follows pc p (_ ∷ k) [] (decides {i = i} {op = o} {e = e} s has t room st) direct l r = empty pc (op.Decide o (length (expr_code (setting_in g p.text (types_of p.olds)) (scope_of p.environment) i e) + 1)) p k
      (first_of_short pc o (expr_code (setting_in g p.text (types_of p.olds)) (scope_of p.environment) i e) s has) refl
  known_follows pc p (_ ∷ k) (u ∷ us) (decides {i = i} {op = o} {e = e} {u = w} s has t room st) direct l r = short_follows g me pc tail (at p k us) u o i e w s has t room st l r
  known_follows pc p (_ ∷ k) [] (applies_binary {op = o} is st) direct l r = empty pc (op.ApplyBinary o) p k is refl
  known_follows pc p (_ ∷ k) (u ∷ us) (applies_binary {op = o} is st) direct l r = binary_follows g me pc tail (at p k us) us u o is st l r
  known_follows pc p (_ ∷ k) [] (concludes is st) direct l r = empty pc op.Conclude p k is refl
  known_follows pc p (_ ∷ k) (u ∷ us) (concludes is st) direct l r = concludes_follows g me pc tail (at p k us) u.value u.type is st l r
  known_follows pc p (_ ∷ k) [] (tests {d = d} is t below b st) direct l r =
      empty pc (op.Test (tested (setting_in g p.text (types_of p.olds)) (scope_of p.environment) d) (length (scope_of p.environment))) p k is refl
  known_follows pc p (_ ∷ k) (u ∷ us) (tests {low = low} {d = d} {x = x} {u = w} is t below b st) direct l r = bind_follows g me pc tail (at p k us) u d x w low is t below b st l r
  known_follows pc p (_ ∷ k) vs (calls_routine {c = c} {us = us} {vs = ws} {x = x} {f = f} {r = t} a b d is room st) direct l r =
      calls_routine_follows g me pc tail (at p k vs) vs x c us ws f t a b d is room st l r
  known_follows pc p (_ ∷ k) vs (calls_feature {c = c} {us = us} {vs = ws} {x = x} {u = u} {f = f} {r = t} a b d is room st) direct l r =
      calls_feature_follows g me pc tail (at p k vs) vs x c us ws u f t a b d is room st l r
  known_follows pc p (_ ∷ k) [] (assigns_slot {i = i} a b is st) direct l r = empty pc (op.StoreSlot i) p k is refl
  known_follows pc p (_ ∷ k) (u ∷ us) (assigns_slot {i = i} {x = x} {u = w} {w = o} a b is st) direct l r = assigns_slot_follows g me pc tail (at p k us) u x i w o a b is st l r
  known_follows pc p (_ ∷ k) [] (assigns_attribute {x = x} a is st) direct l r = empty pc (op.StoreAttribute x.text) p k is refl
  known_follows pc p (_ ∷ k) (u ∷ us) (assigns_attribute {x = x} {u = w} a is st) direct l r = assigns_attribute_follows g me pc tail (at p k us) u x w a is st l r
  known_follows pc p (_ ∷ k) [] (assigns_result a b is st) direct l r = empty pc op.StoreResult p k is refl
  known_follows pc p (_ ∷ k) (u ∷ us) (assigns_result {q = q} {u = w} a b is st) direct l r = assigns_result_follows g me pc tail (at p k us) u q w a b is st l r
  known_follows pc p (_ ∷ k) vs (creates {c = c} {m = m} {us = us} {vs = ws} {v = v} {x = x} {u = u} a b d e is room st) direct l r =
      creates_follows g me pc tail (at p k vs) vs v x c m us ws u a b d e is room st l r
  known_follows pc p (_ ∷ k) vs (creates_handler {c = c} {m = m} {us = us} {vs = ws} {v = v} {x = x} {u = u} a b d e is room st) direct l r =
      creates_handler_follows g me pc tail (at p k vs) vs v x c m us ws u a b d e is room st l r
  known_follows pc p (_ ∷ k) [] (prints is st) direct l r = empty pc op.Print p k is refl
  known_follows pc p (_ ∷ k) (u ∷ us) (prints is st) direct l r = prints_follow g me pc tail (at p k us) u.value u.type is st l r
  known_follows pc p (_ ∷ k) vs (repeats q {e = e} {u = u} {body = body} own has i a b ra rb s st) direct l r = repeats_follow g me pc tail (at p k vs) q e u body own has i a b ra rb s st l r
  known_follows pc p (_ ∷ k) [] (ends_loop q {e = e} {body = body} own has i a b ra rb s st) direct l r =
      let h = setting_in g p.text (types_of p.olds) in
      let inner = instrs_code h (scope_of p.environment) body in
      let until = expr_code h (scope_of p.environment) 0 e in
      empty pc (op.EndLoop (length inner + length until)) p k (last_of_loop pc q inner until has i) refl
  known_follows pc p (_ ∷ k) (v ∷ us) (ends_loop q {e = e} {u = u} {body = body} own has i a b ra rb s st) direct l r =
      ends_follow g me pc tail (at p k us) v.value v.type q e u body own has i a b ra rb s st l r
  known_follows pc p (_ ∷ k) [] (checks is st) direct l r = empty pc (op.Expect cause.Check) p k is refl
  known_follows pc p (_ ∷ k) (u ∷ us) (checks is st) direct l r = tests_follow g me pc tail (at p k us) u.value u.type cause.Check is st l r
  known_follows pc p (_ ∷ k) vs (opens {c = c} {us = us} {vs = ws} {xs = xs} {body = body} own many pop is l' has a room s lv st) direct l r =
      opens_follow g me pc tail (at p k vs) vs xs body c us ws own many pop is l' has a room s lv st l r
  known_follows pc p (_ ∷ k) vs (leaves {d = d} is st) direct l r = leaves_follow g me pc tail (at p k vs) d is st l r
  known_follows pc p (_ ∷ k) vs (requires {ks = ks} has a room st) direct l r = requires_follow g me pc tail (at p k vs) ks has a room st l r
  known_follows pc p (_ ∷ k) [] (required {c = c} is st) direct l r = empty pc (op.Demand (formals_in (scope_of p.environment) c)) p k is refl
  known_follows pc p (_ ∷ k) (u ∷ us) (required {c = c} is st) direct l r = required_follows g me pc tail (at p k us) u.value u.type c is st l r
  known_follows pc p (_ ∷ k) [] (keeps_old is u st) direct l r = empty pc op.KeepOld p k is refl
  known_follows pc p (_ ∷ k) (u ∷ us) (keeps_old {u = w} is e st) direct l r =
      let same : u.type ≡ w = cc in
      keeps_follow g me pc tail (at p k us) u is (subst (λ t. StandsFor g (pc + 1) (Known p.text (scope_of p.environment) (types_of p.olds ++ t ∷ []) (types_of us)) k) (sym same) st) l r
  known_follows pc p (_ ∷ k) [] (ensures is st) direct l r = empty pc (op.Expect cause.Postcondition) p k is refl
  known_follows pc p (_ ∷ k) (u ∷ us) (ensures is st) direct l r = tests_follow g me pc tail (at p k us) u.value u.type cause.Postcondition is st l r

  told_follows : (pc : ℕ) (p : Point) → Tells g pc p → length p.environment + length tail ≡ g.slots → type_at p.result ≡ g.result → Follows g me pc tail p (step g.system me p)
  told_follows pc p (told st) l r =
      let there = landing g me tail pc (known_at p) p.tasks st in
      after g me there.steps pc there.place tail p (step g.system me p) (there.run p) (known_follows there.place p p.tasks p.values there.stands_for there.direct l r)
  told_follows pc p (judged u us low high e j st) l r =
      let there = landing g me tail pc (Judged p.text low high (types_of p.olds) (types_of us)) p.tasks st in
      let q = at p p.tasks (u ∷ us) in
      subst (λ vs. Follows g me pc tail (at p p.tasks vs) (step g.system me (at p p.tasks vs))) (sym e)
      (after g me there.steps pc there.place tail q (step g.system me q) (there.run q) (judged_follows there.place p p.tasks u us low high j there.stands_for there.direct l r))

  pub step_follows : (pc : ℕ) (p : Point) → Stands g pc tail p → Follows g me pc tail p (step g.system me p)
  step_follows pc p st = told_follows pc p st.tells st.has_slots st.has_result

-- ---- moves

then_same : (s : model.Step) (f h : Point → model.Step) → ((q : Point) → s ≡ model.Goes q → f q ≡ h q) → then_go s f ≡ then_go s h
then_same (model.Goes q) f h e = e q refl
then_same (model.Does a q) f h e = refl

-- any bound above the size serves
enough : (m n : ℕ) (s : System) (me : Reference) (p : Point) → size p.tasks < m → size p.tasks < n → first_visible m s me p ≡ first_visible n s me p
enough zero n s me p h k = absurd (omega arith)
enough (suc m) zero s me p h k = absurd (omega arith)
enough (suc m) (suc n) s me p h k =
    then_same (step s me p) (first_visible m s me) (first_visible n s me)
    (λ q e. let lt = falls s me p q e in enough m n s me q (omega arith) (omega arith))

moves_goes : (s : System) (me : Reference) (p q : Point) → step s me p ≡ model.Goes q → moves s me p ≡ moves s me q
moves_goes s me p q e =
    let lt = falls s me p q e in
    ap (λ x. then_go x (first_visible (size p.tasks) s me)) e ∙ enough (size p.tasks) (suc (size q.tasks)) s me q lt (omega arith)

module _ (g : Run) (me : Reference) where
  step_moves : (p q : Point) (a : model.Act) → step g.system me p ≡ model.Does a q → moves g.system me p ≡ model.Does a q
  step_moves p q a e = ap (λ x. then_go x (first_visible (size p.tasks) g.system me)) e

  later : (pc : ℕ) (tail : List Value) (p q : Point) (s : model.Step) (n to : ℕ) (rest : List Value) → hops n g.system g.code me (state_at pc tail p) ≡ Goes (state_at to rest q)
      → moves g.system me p ≡ moves g.system me q → Moves g me to rest q s → Moves g me pc tail p s
  later pc tail p q (model.Goes t) n to rest h same f = f
  later pc tail p q (model.Does a t) n to rest h same f =
      let j = hops_on g me n (state_at pc tail p) (state_at to rest q) (Goes (state_at f.2 f.3 f.0)) h f.1 f.6 in
      (f.0, j.0, f.2, f.3, f.4, f.5, j.1, f.7 ∙ sym same, f.8, f.9, f.10)

  moves_within : (n pc : ℕ) (tail : List Value) (p : Point) → size p.tasks < n → Stands g pc tail p → Moves g me pc tail p (moves g.system me p)
  moves_within zero pc tail p l st = absurd (omega arith)
  moves_within (suc n) pc tail p l st =
      elim (step g.system me p) as (λ s. step g.system me p ≡ s → Follows g me pc tail p s → Moves g me pc tail p (moves g.system me p)) [
        | model.Goes q ↦ λ is f.
            let same = moves_goes g.system me p q is in
            let smaller = falls g.system me p q is in
            subst (Moves g me pc tail p) (sym same) (later pc tail p q (moves g.system me q) f.0 f.1 f.2 f.3 same (moves_within n f.1 f.2 q (omega (arith, l, smaller)) f.4))
        | model.Does a q ↦ λ is f.
            subst (Moves g me pc tail p) (sym (step_moves p q a is)) (p, f.0, f.1, tail, f.2, f.3, f.4, refl, f.5, f.6, f.7)
      ] refl (step_follows g me tail pc p st)

  -- The silent steps up to a visible one are silent operations, and the same visible operation is met.
  pub moves_follow : (pc : ℕ) (tail : List Value) (p : Point) → Stands g pc tail p → Moves g me pc tail p (moves g.system me p)
  moves_follow pc tail p st = moves_within (suc (size p.tasks)) pc tail p (omega arith) st
