-- How an instruction begins.
use Rattle.std.proofs.Common.{◌≡◌, ◌≤◌, ℕ, suc, ◌+◌, List, [], ◌∷◌, ◌++◌, Option, Some, None, false, length, max, refl, sym, ap, ◌∙◌, subst, arith, length-append, append_assoc}
use Rattle.std.specs.Option.{option_map}
use Rattle.sc_tree.specs.Plain as tree
use Rattle.sc_tree.specs.Plain.{Name, Variable, Named, ResultVariable, Expr, Exprs, no_exprs, expr_then, Head, Clause, Instr, Instrs, Branches}
use Rattle.sc_rules.specs.declared.entity_types.tag.Tag.TheVariants as tag
use Rattle.sc_rules.specs.declared.entity_types.entity_type.EntityType.{EntityType}
use Rattle.sc_rules.specs.CallRules.{count}
use Rattle.sc_rules.specs.Names.{Entities, to_local, assignee_type, assignee_of_result, attached}
use Rattle.sc_model.specs.declared.cause.Cause.TheVariants as cause
use Rattle.sc_model.specs.Values.{Reference, Value, Operand}
use Rattle.sc_model.specs.Environments.{scope_of}
use Rattle.sc_model.specs.Routines.{Text}
use Rattle.sc_model.specs.Calls.{given_by}
use Rattle.sc_model.specs.Steps as model
use Rattle.sc_model.specs.Steps.{Point}
use Rattle.sc_model.specs.Instructions.{actuals_of, procedure_of, begins, begins_routine}
use Rattle.sc_model.specs.Tasks as task
use Rattle.sc_model.specs.Tasks.{Task, evals, head_evals, checks}
use Rattle.sc_code.specs.Operations as op
use Rattle.sc_code.specs.Operations.{Operation}
use Rattle.sc_code.specs.Places.{Setting, slot_named, expr_type, exprs_types, head_types, names_given, with_type, with_heads}
use Rattle.sc_code.specs.Emitted.{expr_code, exprs_code, expr_depth, exprs_depth, expr_slots, heads_code, heads_depth, checks_code, checks_depth, assign_code, store_code, variable_slot, create_code, creation_code, instr_code, instrs_code, instr_depth, instrs_depth, instr_slots, instrs_slots, other_code, branches_depth, branches_slots, branch_code, loop_code, instruction_call, routine_call, feature_call, names_of}
use Rattle.sc_code.specs.Emitted as emitted
use Rattle.sc_code.specs.Machine as machine
use Rattle.sc_code.specs.Typed as typed
use Rattle.sc_code.specs.Typed.{IsTyped, AreTyped, IsVariable, local, own_attribute, own_result, AreClauses, no_clause, more_clauses, AreHeads, no_head, more_heads, IsInstr, AreInstrs, AreBranches}
use Rattle.sc_code.specs.Stands as stand
use Rattle.sc_code.specs.Stands.{Run, Knowledge, Known, Judged, Has, Is, Room, Begins, StandsFor, types_of, state_at, setting_in, assigned_type_of, Follows}
use Rattle.sc_code.proofs.Hops.{has_front, has_back, has_on, stands, shows, stays}
use Rattle.sc_code.proofs.Codes.{type_is, types_are, stacked, count_is, popped_actuals, routine_site, routine_length, feature_site, feature_length, evals_stand}
use Rattle.sc_code.proofs.Slots.{scope_length}
use Rattle.sc_code.proofs.Conditions.{begins_given}

abbrev type_at : Option Operand → Option EntityType
type_at o = option_map (λ (u : Operand). u.type) o

-- a row of tasks with one more, and those behind
pub joined : (g : Run) (pc : ℕ) (x : Knowledge) (ts : List Task) (last : Task) (k : List Task) → StandsFor g pc x (ts ++ (last ∷ k)) → StandsFor g pc x ((ts ++ last ∷ []) ++ k)
joined g pc x ts last k st = subst (StandsFor g pc x) (sym (append_assoc ts (last ∷ []) k)) st

-- ---- assignments

variable_type : (g : Run) (t : Text) (o : List EntityType) (n : Entities) (v : Variable) (u : EntityType) → IsVariable (setting_in g t o) n v u → assigned_type_of g t n v ≡ Some u
variable_type g t o n v u (local a b) = ap assignee_type a
variable_type g t o n v u (own_attribute a) = ap assignee_type a
variable_type g t o n v u (own_result a b) = ap (λ r. assignee_type (assignee_of_result r)) a

-- the last value becomes the variable's
pub assign_stands : (g : Run) (t : Text) (o : List EntityType) (n : Entities) (q : ℕ) (v : Variable) (u w : EntityType) (ts : List EntityType) (k : List Task)
    → IsVariable (setting_in g t o) n v u → Has g q (assign_code (setting_in g t o) n v)
    → StandsFor g (q + length (assign_code (setting_in g t o) n v)) (Known t n o ts) k → StandsFor g q (Known t n o (w ∷ ts)) (task.AssignTo v ∷ k)
assign_stands g t o n q (Named x) u w ts k (local {k = i} {u = y} a b) has st =
    let h = setting_in g t o in
    let code = ap (λ z. store_code (Named x) z (slot_named x.text n)) a ∙ ap (store_code (Named x) (to_local (Some u))) b in
    let has' = subst (Has g q) code has in
    let st' = subst (λ c. StandsFor g (q + length c) (Known t n o ts) k) code st in
    stand.assigns_slot {u = u} a b has'.0 st'
assign_stands g t o n q (Named x) u w ts k (own_attribute a) has st =
    let code = ap (λ z. store_code (Named x) z (slot_named x.text n)) a in
    let has' = subst (Has g q) code has in
    let st' = subst (λ c. StandsFor g (q + length c) (Known t n o ts) k) code st in
    stand.assigns_attribute {u = u} a has'.0 st'
assign_stands g t o n q (ResultVariable s) u w ts k (own_result a b) has st =
    let code = ap (λ z. store_code (ResultVariable s) (assignee_of_result z) None) a in
    let has' = subst (Has g q) code has in
    let st' = subst (λ c. StandsFor g (q + length c) (Known t n o ts) k) code st in
    stand.assigns_result {u = u} a b has'.0 st'

-- ---- rows of clauses and heads

checks_stand : (g : Run) (t : Text) (n : Entities) (o ts : List EntityType) (p : ℕ) (ks : List Clause) (k : List Task) → Has g p (checks_code (setting_in g t o) n ks)
    → AreClauses (setting_in g t o) n ks → Room g ts (checks_depth (setting_in g t o) n ks)
    → StandsFor g (p + length (checks_code (setting_in g t o) n ks)) (Known t n o ts) k → StandsFor g p (Known t n o ts) (checks ks ++ k)
checks_stand g t n o ts p [] k has no_clause room st = subst (λ q. StandsFor g q (Known t n o ts) k) (let e : p + 0 ≡ p = omega arith in e) st
checks_stand g t n o ts p (c ∷ ks) k has (more_clauses a as') room st =
    let h = setting_in g t o in
    let first = expr_code h n 0 c.condition in
    let rest = checks_code h n ks in
    let x = op.Expect cause.Check in
    let back = has_back g.code.operations p first (x ∷ rest) has in
    let q : p + length (first ++ x ∷ rest) ≡ p + length first + 1 + length rest = omega (arith, length-append first (x ∷ rest)) in
    stand.evaluates (has_front g.code.operations p first (x ∷ rest) has) a (omega (arith, room))
    (stand.checks back.0
    (checks_stand g t n o ts (p + length first + 1) ks k back.1 as' (omega (arith, room)) (subst (λ q. StandsFor g q (Known t n o ts) k) q st)))

heads_stand : (g : Run) (t : Text) (n : Entities) (o ts us : List EntityType) (p : ℕ) (ds : List Head) (k : List Task)
    → Has g p (heads_code (setting_in g t o) n ds) → AreHeads (setting_in g t o) n ds us → Room g ts (heads_depth (setting_in g t o) n ds)
    → StandsFor g (p + length (heads_code (setting_in g t o) n ds)) (Known t n o (stacked us ts)) k → StandsFor g p (Known t n o ts) (head_evals ds ++ k)
heads_stand g t n o ts us p [] k has no_head room st = subst (λ q. StandsFor g q (Known t n o ts) k) (let e : p + 0 ≡ p = omega arith in e) st
heads_stand g t n o ts us p (d ∷ ds) k has (more_heads {t = u} {ts = vs} a as') room st =
    let h = setting_in g t o in
    let first = expr_code h n 0 d.value in
    let rest = heads_code h n ds in
    let q : p + length (first ++ rest) ≡ p + length first + length rest = omega (arith, length-append first rest) in
    stand.evaluates (has_front g.code.operations p first rest has) a (omega (arith, room))
    (heads_stand g t n o (u ∷ ts) vs (p + length first) ds k (has_back g.code.operations p first rest has) as' (omega (arith, room))
    (subst (λ q. StandsFor g q (Known t n o (stacked vs (u ∷ ts))) k) q st))

head_types_are : (h : Setting) (n : Entities) (ds : List Head) (ts : List EntityType) → AreHeads h n ds ts → head_types h n ds ≡ ts
head_types_are h n [] ts no_head = refl
head_types_are h n (d ∷ ds) ts (more_heads {t = t} {ts = us} a as') =
    ap (λ o. with_type o (head_types h n ds)) (type_is h n 0 d.value t a) ∙ ap (λ l. t ∷ l) (head_types_are h n ds us as')

heads_count : (h : Setting) (n : Entities) (ds : List Head) (ts : List EntityType) → AreHeads h n ds ts → length ds ≡ length ts
heads_count h n [] ts no_head = refl
heads_count h n (d ∷ ds) ts (more_heads {ts = us} a as') = ap (λ k. suc k) (heads_count h n ds us as')

names_count : (ds : List Head) → length (names_of ds) ≡ length ds
names_count [] = refl
names_count (d ∷ ds) = ap (λ k. suc k) (names_count ds)

append_none : (n : Entities) → n ++ [] ≡ n
append_none [] = refl
append_none (e ∷ n) = ap (λ l. e ∷ l) (append_none n)

-- ---- instructions

module _ (g : Run) (me : Reference) (pc : ℕ) (tail : List Value) where
  pub begins_follow : (p : Point) (i : Instr) → p.text ≡ g.own → IsInstr (setting_in g p.text (types_of p.olds)) (scope_of p.environment) i
      → Has g pc (instr_code (setting_in g p.text (types_of p.olds)) (scope_of p.environment) i)
      → Room g (types_of p.values) (instr_depth (setting_in g p.text (types_of p.olds)) (scope_of p.environment) i)
      → instr_slots (setting_in g p.text (types_of p.olds)) (scope_of p.environment) i ≤ g.slots
      → StandsFor g (pc + length (instr_code (setting_in g p.text (types_of p.olds)) (scope_of p.environment) i))
      (Known p.text (scope_of p.environment) (types_of p.olds) (types_of p.values)) p.tasks
      → length p.environment + length tail ≡ g.slots → type_at p.result ≡ g.result → Follows g me pc tail p (begins i p)
  begins_follow p (tree.Assign q v e) own (typed.assign {t = t} {u = u} ty var) has room slots st l r =
      let h = setting_in g p.text (types_of p.olds) in
      let n = scope_of p.environment in
      let first = expr_code h n 0 e in
      let rest = assign_code h n v in
      let next = record p { tasks = task.Eval 0 e ∷ task.AssignTo v ∷ p.tasks } in
      let e1 : pc + length (first ++ rest) ≡ pc + length first + length rest = omega (arith, length-append first rest) in
      stays g me pc tail tail p next refl
      (stands g me pc tail next
      (stand.evaluates (has_front g.code.operations pc first rest has) ty room
      (assign_stands g p.text (types_of p.olds) n (pc + length first) v u t (types_of p.values) p.tasks var (has_back g.code.operations pc first rest has)
      (subst (λ m. StandsFor g m (Known p.text n (types_of p.olds) (types_of p.values)) p.tasks) e1 st))) l r)
  begins_follow p (tree.PrintText q text) own typed.print_text has room slots st l r =
      shows g me pc (op.PrintText text) (machine.Prints text) tail p (state_at (pc + 1) tail p) (model.Prints text) p has.0 refl refl
      (pc + 1, tail, refl, stands g me (pc + 1) tail p st l r)
  begins_follow p (tree.CallRoutine q tree.no_target x (expr_then e no_exprs)) own (typed.print {t = t} is ty) has room slots st l r =
      let h = setting_in g p.text (types_of p.olds) in
      let n = scope_of p.environment in
      let first = expr_code h n 0 e in
      let call = routine_call h x.text (count (expr_then e no_exprs)) (exprs_types h n 0 (expr_then e no_exprs)) in
      let has' = subst (λ b. Has g pc (instruction_call b (first ++ []) call)) is has in
      let st' = subst (λ b. StandsFor g (pc + length (instruction_call b (first ++ []) call)) (Known p.text n (types_of p.olds) (types_of p.values)) p.tasks) is st in
      let next = record p { tasks = task.Eval 0 e ∷ task.Print ∷ p.tasks } in
      let e0 : pc + length (first ++ []) ≡ pc + length first = omega (arith, length-append first []) in
      let e1 : pc + length ((first ++ []) ++ op.Print ∷ []) ≡ pc + length first + 1 = omega (arith, length-append first [], length-append (first ++ []) (op.Print ∷ [])) in
      let back = has_on g.code.operations (pc + length (first ++ [])) (pc + length first) (op.Print ∷ []) e0 (has_back g.code.operations pc (first ++ []) (op.Print ∷ []) has') in
      subst (Follows g me pc tail p) (sym (ap (λ b. begins_routine b x.text (expr_then e no_exprs) p) is))
      (stays g me pc tail tail p next refl
      (stands g me pc tail next
      (stand.evaluates (has_front g.code.operations pc first [] (has_front g.code.operations pc (first ++ []) (op.Print ∷ []) has')) ty (omega (arith, room))
      (stand.prints back.0 (subst (λ m. StandsFor g m (Known p.text n (types_of p.olds) (types_of p.values)) p.tasks) e1 st'))) l r))
  begins_follow p (tree.CallRoutine q tree.no_target x es) own (typed.call {f = f} {ts = us} is b c as') has room slots st l r =
      let h = setting_in g p.text (types_of p.olds) in
      let n = scope_of p.environment in
      let vs = types_of p.values in
      let actuals = exprs_code h n 0 es in
      let call = routine_call h x.text (count es) (exprs_types h n 0 es) in
      let has' = subst (λ b. Has g pc (instruction_call b actuals call)) is has in
      let st' = subst (λ b. StandsFor g (pc + length (instruction_call b actuals call)) (Known p.text n (types_of p.olds) vs) p.tasks) is st in
      let q1 = pc + length actuals in
      let e1 : pc + length (actuals ++ call) ≡ q1 + 1 = omega (arith, length-append actuals call, routine_length h x.text (count es) (exprs_types h n 0 es) f b) in
      let last : Task = task.CallUnqualified x.text (count es) in
      let next = record p { tasks = (evals 0 es ++ last ∷ []) ++ p.tasks } in
      subst (Follows g me pc tail p) (sym (ap (λ b. begins_routine b x.text es p) is))
      (stays g me pc tail tail p next refl
      (stands g me pc tail next
      (joined g pc (Known p.text n (types_of p.olds) vs) (evals 0 es) last p.tasks
      (evals_stand g p.text n (types_of p.olds) vs us 0 pc es (last ∷ p.tasks) (has_front g.code.operations pc actuals call has') as' room
      (stand.calls_routine b (ap given_by c) (popped_actuals us vs (count es) (count_is h n 0 es us as'))
      (routine_site g h q1 x.text (count es) (exprs_types h n 0 es) us f (has_back g.code.operations pc actuals call has') (types_are h n 0 es us as') b)
      (omega (arith, room))
      (subst (λ m. StandsFor g m (Known p.text n (types_of p.olds) vs) p.tasks) e1 st')))) l r))
  begins_follow p (tree.CallRoutine q (tree.target a) x es) own (typed.call_on {f = f} {u = u} {ts = us} ta b c as') has room slots st l r =
      let h = setting_in g p.text (types_of p.olds) in
      let n = scope_of p.environment in
      let vs = types_of p.values in
      let target = expr_code h n 0 a in
      let actuals = exprs_code h n 0 es in
      let call = feature_call h x.text (count es) (expr_type h n 0 a) (exprs_types h n 0 es) in
      let back = has_back g.code.operations pc target (actuals ++ call) has in
      let q1 = pc + length target in
      let q2 = q1 + length actuals in
      let one = feature_length h x.text (count es) (expr_type h n 0 a) u (exprs_types h n 0 es) f (type_is h n 0 a u ta) b in
      let e1 : pc + length (target ++ (actuals ++ call)) ≡ q2 + 1 = omega (arith, length-append target (actuals ++ call), length-append actuals call, one) in
      let last : Task = task.CallQualified x.text (count es) in
      let next = record p { tasks = task.Eval 0 a ∷ ((evals 0 es ++ last ∷ []) ++ p.tasks) } in
      stays g me pc tail tail p next refl
      (stands g me pc tail next
      (stand.evaluates (has_front g.code.operations pc target (actuals ++ call) has) ta (omega (arith, room))
      (joined g q1 (Known p.text n (types_of p.olds) (u ∷ vs)) (evals 0 es) last p.tasks
      (evals_stand g p.text n (types_of p.olds) (u ∷ vs) us 0 q1 es (last ∷ p.tasks) (has_front g.code.operations q1 actuals call back) as' (omega (arith, room))
      (stand.calls_feature (popped_actuals us (u ∷ vs) (count es) (count_is h n 0 es us as')) b (ap given_by c)
      (feature_site g h q2 x.text (count es) (expr_type h n 0 a) u (exprs_types h n 0 es) us f (has_back g.code.operations q1 actuals call back) (type_is h n 0 a u ta) (types_are h n 0 es us as') b)
      (omega (arith, room))
      (subst (λ m. StandsFor g m (Known p.text n (types_of p.olds) vs) p.tasks) e1 st))))) l r)
  begins_follow p (tree.Create q c) own (typed.create {t = u} {k = k} {ts = us} as' var ta tc) has room slots st l r =
      let h = setting_in g p.text (types_of p.olds) in
      let n = scope_of p.environment in
      let vs = types_of p.values in
      let es = actuals_of c.call in
      let x = procedure_of c.call in
      let actuals = exprs_code h n 0 es in
      let making = create_code h x (count es) (exprs_types h n 0 es) (assigned_type_of g p.text n c.variable) in
      let storing = assign_code h n c.variable in
      let made = variable_type g p.text (types_of p.olds) n c.variable u var in
      let site : Operation = op.Create (record { class = k; procedure = x; count = count es; passes = false }) in
      let code : making ≡ site ∷ [] = ap (create_code h x (count es) (exprs_types h n 0 es)) made ∙ ap (λ t. creation_code h x (count es) (exprs_types h n 0 es) u t u.class) ta
      ∙ ap (λ k. creation_code h x (count es) (exprs_types h n 0 es) u tag.Own k) tc in
      let has' = subst (λ m. Has g pc (actuals ++ (m ++ storing))) code has in
      let st' = subst (λ m. StandsFor g (pc + length (actuals ++ (m ++ storing))) (Known p.text n (types_of p.olds) vs) p.tasks) code st in
      let q1 = pc + length actuals in
      let back = has_back g.code.operations pc actuals (site ∷ storing) has' in
      let e1 : pc + length (actuals ++ (site ∷ storing)) ≡ q1 + 1 + length storing = omega (arith, length-append actuals (site ∷ storing)) in
      let last : Task = task.CreateBy c.variable x (count es) in
      let next = record p { tasks = (evals 0 es ++ last ∷ []) ++ p.tasks } in
      stays g me pc tail tail p next refl
      (stands g me pc tail next
      (joined g pc (Known p.text n (types_of p.olds) vs) (evals 0 es) last p.tasks
      (evals_stand g p.text n (types_of p.olds) vs us 0 pc es (last ∷ p.tasks) (has_front g.code.operations pc actuals (site ∷ storing) has') as' (omega (arith, room))
      (stand.creates made ta tc (popped_actuals us vs (count es) (count_is h n 0 es us as')) back.0 (omega (arith, room))
      (assign_stands g p.text (types_of p.olds) n (q1 + 1) c.variable u (attached u) vs p.tasks var back.1
      (subst (λ m. StandsFor g m (Known p.text n (types_of p.olds) vs) p.tasks) e1 st'))))) l r)
  begins_follow p (tree.Create q c) own (typed.create_handler {t = u} {k = k} {ts = us} as' var ta tc) has room slots st l r =
      let h = setting_in g p.text (types_of p.olds) in
      let n = scope_of p.environment in
      let vs = types_of p.values in
      let es = actuals_of c.call in
      let x = procedure_of c.call in
      let actuals = exprs_code h n 0 es in
      let making = create_code h x (count es) (exprs_types h n 0 es) (assigned_type_of g p.text n c.variable) in
      let storing = assign_code h n c.variable in
      let made = variable_type g p.text (types_of p.olds) n c.variable u var in
      let site : Operation = op.CreateHandler (record { class = k; procedure = x; count = count es; passes = emitted.creation_passes h u x us }) in
      let code : making ≡ site ∷ [] = ap (create_code h x (count es) (exprs_types h n 0 es)) made ∙ ap (λ t. creation_code h x (count es) (exprs_types h n 0 es) u t u.class) ta
      ∙ ap (λ k. creation_code h x (count es) (exprs_types h n 0 es) u tag.Any k) tc
      ∙ ap (λ ts. op.CreateHandler (record { class = k; procedure = x; count = count es; passes = emitted.creation_passes h u x ts }) ∷ []) (types_are h n 0 es us as') in
      let has' = subst (λ m. Has g pc (actuals ++ (m ++ storing))) code has in
      let st' = subst (λ m. StandsFor g (pc + length (actuals ++ (m ++ storing))) (Known p.text n (types_of p.olds) vs) p.tasks) code st in
      let q1 = pc + length actuals in
      let back = has_back g.code.operations pc actuals (site ∷ storing) has' in
      let e1 : pc + length (actuals ++ (site ∷ storing)) ≡ q1 + 1 + length storing = omega (arith, length-append actuals (site ∷ storing)) in
      let last : Task = task.CreateBy c.variable x (count es) in
      let next = record p { tasks = (evals 0 es ++ last ∷ []) ++ p.tasks } in
      stays g me pc tail tail p next refl
      (stands g me pc tail next
      (joined g pc (Known p.text n (types_of p.olds) vs) (evals 0 es) last p.tasks
      (evals_stand g p.text n (types_of p.olds) vs us 0 pc es (last ∷ p.tasks) (has_front g.code.operations pc actuals (site ∷ storing) has') as' (omega (arith, room))
      (stand.creates_handler made ta tc (popped_actuals us vs (count es) (count_is h n 0 es us as')) back.0 (omega (arith, room))
      (assign_stands g p.text (types_of p.olds) n (q1 + 1) c.variable u (attached u) vs p.tasks var back.1
      (subst (λ m. StandsFor g m (Known p.text n (types_of p.olds) vs) p.tasks) e1 st'))))) l r)
  begins_follow p (tree.If q e body bs other) own (typed.conditional c a b d) has room slots st l r =
      let h = setting_in g p.text (types_of p.olds) in
      let n = scope_of p.environment in
      let high = names_given h n 0 e in
      let first = expr_code h n 0 e in
      let rest = branch_code (instrs_code h high body) (other_code h n bs (instrs_code h n other)) in
      let next = record p { tasks = task.Eval 0 e ∷ task.Choose (length p.environment) body bs other ∷ p.tasks } in
      let e1 : pc + length (first ++ rest) ≡ pc + length first + length rest = omega (arith, length-append first rest) in
      let none : Begins n n = ([], sym (append_none n)) in
      let chosen = stand.chooses own (has_back g.code.operations pc first rest has) a b d (omega (arith, room)) (omega (arith, room)) (omega (arith, room))
      (omega (arith, slots)) (omega (arith, slots)) (omega (arith, slots)) (begins_given h n n 0 e c none)
      (subst (λ m. StandsFor g m (Known p.text n (types_of p.olds) (types_of p.values)) p.tasks) e1 st) in
      stays g me pc tail tail p next refl
      (stands g me pc tail next
      (stand.judges (has_front g.code.operations pc first rest has) c (omega (arith, room)) (omega (arith, slots)) none
      (subst (λ d. StandsFor g (pc + length first) (Judged p.text n high (types_of p.olds) (types_of p.values)) (task.Choose d body bs other ∷ p.tasks)) (scope_length p.environment) chosen)) l r)
  begins_follow p (tree.Loop q initial e body) own (typed.loop {t = t} a ty b) has room slots st l r =
      let h = setting_in g p.text (types_of p.olds) in
      let n = scope_of p.environment in
      let first = instrs_code h n initial in
      let inner = instrs_code h n body in
      let until = expr_code h n 0 e in
      let rest = loop_code inner until in
      let back = has_back g.code.operations pc first (op.Jump (length inner) ∷ rest) has in
      let q0 = pc + length first + 1 in
      let q1 = q0 + length inner in
      let next = record p { tasks = task.Do initial ∷ task.Repeat e body ∷ p.tasks } in
      let e1 : pc + length (first ++ op.Jump (length inner) ∷ rest) ≡ q1 + length until + 1 =
      omega (arith, length-append first (op.Jump (length inner) ∷ rest), length-append inner (until ++ op.EndLoop (length inner + length until) ∷ []), length-append until (op.EndLoop (length inner + length until) ∷ [])) in
      stays g me pc tail tail p next refl
      (stands g me pc tail next
      (stand.does own (has_front g.code.operations pc first (op.Jump (length inner) ∷ rest) has) a (omega (arith, room)) (omega (arith, slots))
      (stand.jumps back.0
      (stand.repeats q0 own back.1 refl ty b (omega (arith, room)) (omega (arith, room)) (omega (arith, slots))
      (subst (λ m. StandsFor g m (Known p.text n (types_of p.olds) (types_of p.values)) p.tasks) e1 st)))) l r)
  begins_follow p (tree.Check q ks) own (typed.check a) has room slots st l r =
      let next = record p { tasks = checks ks ++ p.tasks } in
      stays g me pc tail tail p next refl
      (stands g me pc tail next (checks_stand g p.text (scope_of p.environment) (types_of p.olds) (types_of p.values) pc ks p.tasks has a room st) l r)
  begins_follow p (tree.Block q ds body) own (typed.block {ts = us} a b) has room slots st l r =
      let h = setting_in g p.text (types_of p.olds) in
      let n = scope_of p.environment in
      let vs = types_of p.values in
      let heads = heads_code h n ds in
      let xs = names_of ds in
      let same = head_types_are h n ds us a in
      let c = length ds in
      let has' = subst (λ ts. Has g pc (heads ++ op.Open (length n) c ∷ (instrs_code h (with_heads xs ts n) body ++ op.Leave ∷ []))) same has in
      let room' = subst (λ ts. Room g vs (max (heads_depth h n ds) (instrs_depth h (with_heads xs ts n) body))) same room in
      let slots' = subst (λ ts. max (length n + c) (instrs_slots h (with_heads xs ts n) body) ≤ g.slots) same slots in
      let b' = subst (λ ts. AreInstrs h (with_heads xs ts n) body) same b in
      let st' = subst (λ ts. StandsFor g (pc + length (heads ++ op.Open (length n) c ∷ (instrs_code h (with_heads xs ts n) body ++ op.Leave ∷ []))) (Known p.text n (types_of p.olds) vs) p.tasks) same st in
      let inner = instrs_code h (with_heads xs us n) body in
      let rest = op.Open (length n) c ∷ (inner ++ op.Leave ∷ []) in
      let q1 = pc + length heads in
      let back = has_back g.code.operations pc heads rest has' in
      let lv = has_back g.code.operations (q1 + 1) inner (op.Leave ∷ []) back.1 in
      let e1 : pc + length (heads ++ rest) ≡ q1 + 1 + length inner + 1 = omega (arith, length-append heads rest, length-append inner (op.Leave ∷ [])) in
      let last : Task = task.Open xs body in
      let next = record p { tasks = (head_evals ds ++ last ∷ []) ++ p.tasks } in
      let many : c ≡ length xs = sym (names_count ds) in
      stays g me pc tail tail p next refl
      (stands g me pc tail next
      (joined g pc (Known p.text n (types_of p.olds) vs) (head_evals ds) last p.tasks
      (heads_stand g p.text n (types_of p.olds) vs us pc ds (last ∷ p.tasks) (has_front g.code.operations pc heads rest has') a (omega (arith, room'))
      (stand.opens own many (popped_actuals us vs c (heads_count h n ds us a)) back.0 (omega (arith, slots')) (has_front g.code.operations (q1 + 1) inner (op.Leave ∷ []) back.1) b'
      (omega (arith, room')) (omega (arith, slots')) lv.0
      (subst (λ m. StandsFor g m (Known p.text n (types_of p.olds) vs) p.tasks) e1 st')))) l r)
