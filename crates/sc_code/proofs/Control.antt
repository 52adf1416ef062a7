-- Control: instructions one after the other, conditionals, loops and separate blocks.
use Rattle.std.proofs.Common.{◌≡◌, ◌≤◌, ℕ, zero, suc, ◌+◌, ◌-◌, List, [], ◌∷◌, ◌++◌, Option, Some, None, true, false, length, take, drop, refl, sym, ap, ◌∙◌, subst, arith, length-append, append_assoc}
use Rattle.std.specs.Prelude.{if◌then◌else◌}
use Rattle.std.specs.Option.{option_map}
use Rattle.std.proofs.lemmas.Bool.{le-ltb}
use Rattle.sc_tree.specs.Plain.{Name, Expr, Instrs, no_instrs, instr_then, Branches, no_branches, branch_then}
use Rattle.sc_rules.specs.declared.entity_types.entity_type.EntityType.{EntityType}
use Rattle.sc_rules.specs.Names.{Entities, block_type, blocks}
use Rattle.sc_model.specs.declared.cause.Cause.{Cause}
use Rattle.sc_model.specs.declared.cause.Cause.TheVariants as cause
use Rattle.sc_model.specs.Values.{Reference, Value, Integer, Boolean, Void, Attached, Operand, operand, values_of}
use Rattle.sc_model.specs.Environments.{Binding, scope_of, name_bound, block_bound}
use Rattle.sc_model.specs.Steps as model
use Rattle.sc_model.specs.Steps.{Point, forgets}
use Rattle.sc_model.specs.Instructions.{begins, prints, chooses_other, chooses, ends_loop, tests, opens, boolean_text}
use Rattle.sc_model.specs.Moves.{performs}
use Rattle.sc_model.specs.Tasks as task
use Rattle.sc_model.specs.Tasks.{Task}
use Rattle.std.specs.Fmt.{signed_decimal}
use Rattle.sc_code.specs.Operations as op
use Rattle.sc_code.specs.Operations.{Operation}
use Rattle.sc_code.specs.Places.{names_given, with_heads}
use Rattle.sc_code.specs.Emitted.{expr_code, expr_depth, instr_code, instrs_code, instrs_depth, instrs_slots, other_code, branches_depth, branches_slots, branch_code, loop_code}
use Rattle.sc_code.specs.Machine as machine
use Rattle.sc_code.specs.Machine.{State, Goes, Hop, into, stuck, does, fails, then_hop, hops}
use Rattle.sc_code.specs.Typed.{IsTyped, AreInstrs, no_instr, more_instrs, AreBranches, no_branch, more_branches}
use Rattle.sc_code.specs.Stands as stand
use Rattle.sc_code.specs.Stands.{Run, Known, Judged, Has, Is, Room, Begins, IsJudged, StandsFor, types_popped, types_of, values_in, state_at, setting_in, Stands, Follows}
use Rattle.sc_code.proofs.Hops.{has_front, has_back, has_on, stands, on, goes, shows, failed, stays}
use Rattle.sc_code.proofs.Codes.{types_both, values_both, types_of_popped, values_of_popped}
use Rattle.sc_code.proofs.Slots.{scope_length, values_length, scope_take, forgotten, forgotten_length, first_names, opened}
use Rattle.sc_code.proofs.Conditions.{begins_given}
use Rattle.sc_code.proofs.Operands.{under}
use Rattle.sc_code.proofs.Calls.{first_of, second_of}
use Rattle.sc_code.proofs.Instructions.{begins_follow}

abbrev type_at : Option Operand → Option EntityType
type_at o = option_map (λ (u : Operand). u.type) o

-- what is left over where names are forgotten
abbrev leaving : ℕ → List Binding → List Value → List Value
leaving d bs tail = values_in (drop d bs) ++ tail

append_none : (n : Entities) → n ++ [] ≡ n
append_none [] = refl
append_none (e ∷ n) = ap (λ l. e ∷ l) (append_none n)

bindings_none : (bs : List Binding) → bs ++ [] ≡ bs
bindings_none [] = refl
bindings_none (b ∷ bs) = ap (λ l. b ∷ l) (bindings_none bs)

abbrev operands_of : Option (List Operand × List Operand) → List Operand
operands_of None = []
operands_of (Some r) = r.0

popped_length : (n : ℕ) (us vs a b : List Operand) → model.popped n us vs ≡ Some (a, b) → length a ≡ n + length us
popped_length zero us vs a b e = omega (arith, ap (λ o. length (operands_of o)) e)
popped_length (suc n) us [] a b e = absurd (cc)
popped_length (suc n) us (v ∷ vs) a b e = omega (arith, popped_length n (v ∷ us) vs a b e)

first_bindings : (bs more : List Binding) → take (length bs) (bs ++ more) ≡ bs
first_bindings [] more = refl
first_bindings (b ∷ bs) more = ap (λ l. b ∷ l) (first_bindings bs more)

block_appends : (xs : List Name) (us : List Operand) (bs : List Binding) → (more : List Binding) × (block_bound xs us bs ≡ bs ++ more)
block_appends [] us bs = ([], sym (bindings_none bs))
block_appends (x ∷ xs) [] bs = ([], sym (bindings_none bs))
block_appends (x ∷ xs) (u ∷ us) bs =
    let new = name_bound x (block_type (blocks (scope_of bs)) (Some u.type)) u.value in
    let e = block_appends xs us (bs ++ new) in (new ++ e.0, e.1 ∙ append_assoc bs new e.0)

-- the names before a block are those that its end keeps
block_keeps : (xs : List Name) (us : List Operand) (bs : List Binding) → take (length bs) (block_bound xs us bs) ≡ bs
block_keeps xs us bs = let e = block_appends xs us bs in ap (take (length bs)) e.1 ∙ first_bindings bs e.0

module _ (g : Run) (me : Reference) (pc : ℕ) (tail : List Value) where
  pub does_follow : (p : Point) (is : Instrs) → p.text ≡ g.own → Has g pc (instrs_code (setting_in g p.text (types_of p.olds)) (scope_of p.environment) is)
      → AreInstrs (setting_in g p.text (types_of p.olds)) (scope_of p.environment) is
      → Room g (types_of p.values) (instrs_depth (setting_in g p.text (types_of p.olds)) (scope_of p.environment) is)
      → instrs_slots (setting_in g p.text (types_of p.olds)) (scope_of p.environment) is ≤ g.slots
      → StandsFor g (pc + length (instrs_code (setting_in g p.text (types_of p.olds)) (scope_of p.environment) is))
      (Known p.text (scope_of p.environment) (types_of p.olds) (types_of p.values)) p.tasks
      → length p.environment + length tail ≡ g.slots → type_at p.result ≡ g.result → Follows g me pc tail p (performs g.system me (task.Do is) p.values p)
  does_follow p no_instrs own has no_instr room slots st l r =
      stays g me pc tail tail p p refl (stands g me pc tail p (on g me pc (pc + 0) _ p.tasks (let e : pc + 0 ≡ pc = omega arith in e) st) l r)
  does_follow p (instr_then i is) own has (more_instrs a b) room slots st l r =
      let h = setting_in g p.text (types_of p.olds) in
      let n = scope_of p.environment in
      let first = instr_code h n i in
      let rest = instrs_code h n is in
      let next = record p { tasks = task.Do is ∷ p.tasks } in
      let e1 : pc + length (first ++ rest) ≡ pc + length first + length rest = omega (arith, length-append first rest) in
      begins_follow g me pc tail next i own a (has_front g.code.operations pc first rest has) (omega (arith, room)) (omega (arith, slots))
      (stand.does own (has_back g.code.operations pc first rest has) b (omega (arith, room)) (omega (arith, slots))
      (subst (λ m. StandsFor g m (Known p.text n (types_of p.olds) (types_of p.values)) p.tasks) e1 st)) l r

  pub forgets_follow : (p : Point) (d : ℕ) → StandsFor g pc (Known p.text (take d (scope_of p.environment)) (types_of p.olds) (types_of p.values)) p.tasks
      → length p.environment + length tail ≡ g.slots → type_at p.result ≡ g.result → Follows g me pc tail p (model.Goes (forgets d p))
  forgets_follow p d st l r =
      let bs = p.environment in
      let rest = leaving d bs tail in
      let st' = subst (λ n. StandsFor g pc (Known p.text n (types_of p.olds) (types_of p.values)) p.tasks) (sym (scope_take d bs)) st in
      stays g me pc tail rest p (forgets d p) (ap (λ (s : List Value). record (state_at pc tail p) { slots = s }) (forgotten d bs tail))
      (stands g me pc rest (forgets d p) st' (forgotten_length d bs tail ∙ l) r)

  pub leaves_follow : (p : Point) (d : ℕ) → Is g pc op.Leave → StandsFor g (pc + 1) (Known p.text (take d (scope_of p.environment)) (types_of p.olds) (types_of p.values)) p.tasks
      → length p.environment + length tail ≡ g.slots → type_at p.result ≡ g.result → Follows g me pc tail p (model.Does model.Leaves (forgets d p))
  leaves_follow p d is st l r =
      let bs = p.environment in
      let rest = leaving d bs tail in
      let st' = subst (λ n. StandsFor g (pc + 1) (Known p.text n (types_of p.olds) (types_of p.values)) p.tasks) (sym (scope_take d bs)) st in
      shows g me pc op.Leave machine.Leaves tail p (state_at (pc + 1) tail p) model.Leaves (forgets d p) is refl refl
      (pc + 1, rest, ap (λ (s : List Value). record (state_at (pc + 1) tail p) { slots = s }) (forgotten d bs tail), stands g me (pc + 1) rest (forgets d p) st' (forgotten_length d bs tail ∙ l) r)

  pub prints_follow : (p : Point) (v : Value) (t : EntityType) → Is g pc op.Print
      → StandsFor g (pc + 1) (Known p.text (scope_of p.environment) (types_of p.olds) (types_of p.values)) p.tasks
      → length p.environment + length tail ≡ g.slots → type_at p.result ≡ g.result → Follows g me pc tail (under (operand v t) p) (prints v p)
  prints_follow p (Integer z) t is st l r =
      shows g me pc op.Print (machine.Prints (signed_decimal z)) tail (under (operand (Integer z) t) p) (state_at (pc + 1) tail p) (model.Prints (signed_decimal z)) p is refl refl
      (pc + 1, tail, refl, stands g me (pc + 1) tail p st l r)
  prints_follow p (Boolean b) t is st l r =
      shows g me pc op.Print (machine.Prints (boolean_text b)) tail (under (operand (Boolean b) t) p) (state_at (pc + 1) tail p) (model.Prints (boolean_text b)) p is refl refl
      (pc + 1, tail, refl, stands g me (pc + 1) tail p st l r)
  prints_follow p Void t is st l r = failed g me pc op.Print cause.BadCode tail (under (operand Void t) p) p (state_at pc tail p) is refl refl
  prints_follow p (Attached q) t is st l r = failed g me pc op.Print cause.BadCode tail (under (operand (Attached q) t) p) p (state_at pc tail p) is refl refl

  pub tests_follow : (p : Point) (v : Value) (t : EntityType) (why : Cause) → Is g pc (op.Expect why)
      → StandsFor g (pc + 1) (Known p.text (scope_of p.environment) (types_of p.olds) (types_of p.values)) p.tasks
      → length p.environment + length tail ≡ g.slots → type_at p.result ≡ g.result → Follows g me pc tail (under (operand v t) p) (tests why v p)
  tests_follow p (Boolean true) t why is st l r =
      goes g me pc (pc + 1 + 0) (op.Expect why) tail tail (under (operand (Boolean true) t) p) p is refl (stands g me (pc + 1 + 0) tail p (on g me (pc + 1 + 0) (pc + 1) _ p.tasks (omega arith) st) l r)
  tests_follow p (Boolean false) t why is st l r = failed g me pc (op.Expect why) why tail (under (operand (Boolean false) t) p) p (state_at pc tail p) is refl refl
  tests_follow p (Integer z) t why is st l r = failed g me pc (op.Expect why) cause.BadCode tail (under (operand (Integer z) t) p) p (state_at pc tail p) is refl refl
  tests_follow p Void t why is st l r = failed g me pc (op.Expect why) cause.BadCode tail (under (operand Void t) p) p (state_at pc tail p) is refl refl
  tests_follow p (Attached q) t why is st l r = failed g me pc (op.Expect why) cause.BadCode tail (under (operand (Attached q) t) p) p (state_at pc tail p) is refl refl

  -- ---- conditionals

  -- where none of the conditions before holds
  other_follows : (p q : Point) (rest : List Value) (o : Operation) (to : ℕ) (low : Entities) (bs : Branches) (other : Instrs) (d : ℕ) → d ≡ length low → q.text ≡ g.own
      → scope_of q.environment ≡ low → Is g pc o → machine.hop_at g.system g.code me o (state_at pc tail p) ≡ into g.code to (state_at pc rest q)
      → Has g to (other_code (setting_in g q.text (types_of q.olds)) low bs (instrs_code (setting_in g q.text (types_of q.olds)) low other))
      → AreBranches (setting_in g q.text (types_of q.olds)) low bs → AreInstrs (setting_in g q.text (types_of q.olds)) low other
      → Room g (types_of q.values) (branches_depth (setting_in g q.text (types_of q.olds)) low bs) → Room g (types_of q.values) (instrs_depth (setting_in g q.text (types_of q.olds)) low other)
      → branches_slots (setting_in g q.text (types_of q.olds)) low bs ≤ g.slots → instrs_slots (setting_in g q.text (types_of q.olds)) low other ≤ g.slots
      → StandsFor g (to + length (other_code (setting_in g q.text (types_of q.olds)) low bs (instrs_code (setting_in g q.text (types_of q.olds)) low other)))
      (Known q.text low (types_of q.olds) (types_of q.values)) q.tasks
      → length q.environment + length rest ≡ g.slots → type_at q.result ≡ g.result → Follows g me pc tail p (chooses_other d bs other q)
  other_follows p q rest o to low no_branches other d e own names is hop has no_branch b ra rb sa sb st l r =
      let next = record q { tasks = task.Do other ∷ q.tasks } in
      goes g me pc to o tail rest p next is hop
      (stands g me to rest next
      (subst (λ n. StandsFor g to (Known q.text n (types_of q.olds) (types_of q.values)) next.tasks) (sym names)
      (stand.does own has b rb sb st)) l r)
  other_follows p q rest o to low (branch_then c body bs) other d e own names is hop has (more_branches x y z) b ra rb sa sb st l r =
      let h = setting_in g q.text (types_of q.olds) in
      let high = names_given h low 0 c in
      let first = expr_code h low 0 c in
      let behind = branch_code (instrs_code h high body) (other_code h low bs (instrs_code h low other)) in
      let next = record q { tasks = task.Eval 0 c ∷ task.Choose d body bs other ∷ q.tasks } in
      let e1 : to + length (first ++ behind) ≡ to + length first + length behind = omega (arith, length-append first behind) in
      let none : Begins low low = ([], sym (append_none low)) in
      let chosen = stand.chooses own (has_back g.code.operations to first behind has) y z b (omega (arith, ra)) (omega (arith, ra)) rb
      (omega (arith, sa)) (omega (arith, sa)) sb (begins_given h low low 0 c x none)
      (subst (λ m. StandsFor g m (Known q.text low (types_of q.olds) (types_of q.values)) q.tasks) e1 st) in
      goes g me pc to o tail rest p next is hop
      (stands g me to rest next
      (subst (λ n. StandsFor g to (Known q.text n (types_of q.olds) (types_of q.values)) next.tasks) (sym names)
      (stand.judges (has_front g.code.operations to first behind has) x (omega (arith, ra)) (omega (arith, sa)) none
      (subst (λ d. StandsFor g (to + length first) (Judged q.text low high (types_of q.olds) (types_of q.values)) (task.Choose d body bs other ∷ q.tasks)) (sym e) chosen))) l r)

  pub chooses_follow : (p : Point) (v : Value) (t : EntityType) (low high : Entities) (body other : Instrs) (bs : Branches) → p.text ≡ g.own
      → IsJudged low high v (scope_of p.environment)
      → Has g pc (branch_code (instrs_code (setting_in g p.text (types_of p.olds)) high body) (other_code (setting_in g p.text (types_of p.olds)) low bs (instrs_code (setting_in g p.text (types_of p.olds)) low other)))
      → AreInstrs (setting_in g p.text (types_of p.olds)) high body → AreBranches (setting_in g p.text (types_of p.olds)) low bs → AreInstrs (setting_in g p.text (types_of p.olds)) low other
      → Room g (types_of p.values) (instrs_depth (setting_in g p.text (types_of p.olds)) high body) → Room g (types_of p.values) (branches_depth (setting_in g p.text (types_of p.olds)) low bs)
      → Room g (types_of p.values) (instrs_depth (setting_in g p.text (types_of p.olds)) low other) → instrs_slots (setting_in g p.text (types_of p.olds)) high body ≤ g.slots
      → branches_slots (setting_in g p.text (types_of p.olds)) low bs ≤ g.slots → instrs_slots (setting_in g p.text (types_of p.olds)) low other ≤ g.slots → Begins low high
      → StandsFor g (pc + length (branch_code (instrs_code (setting_in g p.text (types_of p.olds)) high body) (other_code (setting_in g p.text (types_of p.olds)) low bs (instrs_code (setting_in g p.text (types_of p.olds)) low other))))
      (Known p.text low (types_of p.olds) (types_of p.values)) p.tasks
      → length p.environment + length tail ≡ g.slots → type_at p.result ≡ g.result
      → Follows g me pc tail (under (operand v t) p) (chooses (length low) v body bs other p)
  chooses_follow p (Boolean true) t low high body other bs own j has a b c ra rb rc sa sb sc begins st l r =
      let h = setting_in g p.text (types_of p.olds) in
      let inner = instrs_code h high body in
      let outer = other_code h low bs (instrs_code h low other) in
      let n = length inner + 1 in
      let next = record p { tasks = task.Do body ∷ task.Forget (length low) ∷ p.tasks } in
      let back = has_back g.code.operations (pc + 1) inner (op.Jump (length outer) ∷ outer) has.1 in
      let e1 : pc + length (branch_code inner outer) ≡ pc + 1 + length inner + 1 + length outer = omega (arith, length-append inner (op.Jump (length outer) ∷ outer)) in
      let kept : take (length low) high ≡ low = ap (take (length low)) begins.1 ∙ first_names low begins.0 in
      let st1 = subst (λ m. StandsFor g m (Known p.text low (types_of p.olds) (types_of p.values)) p.tasks) e1 st in
      let st2 = subst (λ m. StandsFor g (pc + 1 + length inner + 1 + length outer) (Known p.text m (types_of p.olds) (types_of p.values)) p.tasks) (sym kept) st1 in
      let there : StandsFor g (pc + 1) (Known p.text high (types_of p.olds) (types_of p.values)) next.tasks =
      stand.does own (has_front g.code.operations (pc + 1) inner (op.Jump (length outer) ∷ outer) has.1) a ra sa (stand.jumps back.0 (stand.forgets st2)) in
      let here = subst (λ m. StandsFor g (pc + 1) (Known p.text m (types_of p.olds) (types_of p.values)) next.tasks) (sym j) there in
      goes g me pc (pc + 1 + 0) (op.SkipIfFalse n) tail tail (under (operand (Boolean true) t) p) next has.0 refl
      (stands g me (pc + 1 + 0) tail next (on g me (pc + 1 + 0) (pc + 1) _ next.tasks (omega arith) here) l r)
  chooses_follow p (Boolean false) t low high body other bs own j has a b c ra rb rc sa sb sc begins st l r =
      let h = setting_in g p.text (types_of p.olds) in
      let inner = instrs_code h high body in
      let outer = other_code h low bs (instrs_code h low other) in
      let n = length inner + 1 in
      let d = length low in
      let rest = leaving d p.environment tail in
      let to = pc + 1 + n in
      let back = has_back g.code.operations (pc + 1) inner (op.Jump (length outer) ∷ outer) has.1 in
      let e0 : pc + 1 + length inner + 1 ≡ to = omega arith in
      let e1 : pc + length (branch_code inner outer) ≡ to + length outer = omega (arith, length-append inner (op.Jump (length outer) ∷ outer)) in
      let names : scope_of (take d p.environment) ≡ low = scope_take d p.environment ∙ ap (take d) j.1 ∙ first_names low j.0 in
      other_follows (under (operand (Boolean false) t) p) (forgets d p) rest (op.SkipIfFalse n) to low bs other d refl own names has.0
      (ap (λ (s : List Value). into g.code to (record (state_at pc tail p) { slots = s })) (forgotten d p.environment tail))
      (has_on g.code.operations _ _ outer e0 back.1) b c rb rc sb sc (subst (λ m. StandsFor g m (Known p.text low (types_of p.olds) (types_of p.values)) p.tasks) e1 st)
      (forgotten_length d p.environment tail ∙ l) r
  chooses_follow p (Integer z) t low high body other bs own j has a b c ra rb rc sa sb sc begins st l r =
      failed g me pc (op.SkipIfFalse _) cause.BadCode tail (under (operand (Integer z) t) p) p (state_at pc tail p) has.0 refl refl
  chooses_follow p Void t low high body other bs own j has a b c ra rb rc sa sb sc begins st l r =
      failed g me pc (op.SkipIfFalse _) cause.BadCode tail (under (operand Void t) p) p (state_at pc tail p) has.0 refl refl
  chooses_follow p (Attached q) t low high body other bs own j has a b c ra rb rc sa sb sc begins st l r =
      failed g me pc (op.SkipIfFalse _) cause.BadCode tail (under (operand (Attached q) t) p) p (state_at pc tail p) has.0 refl refl

  -- ---- loops

  pub repeats_follow : (p : Point) (q : ℕ) (e : Expr) (u : EntityType) (body : Instrs) → p.text ≡ g.own
      → Has g q (loop_code (instrs_code (setting_in g p.text (types_of p.olds)) (scope_of p.environment) body) (expr_code (setting_in g p.text (types_of p.olds)) (scope_of p.environment) 0 e))
      → pc ≡ q + length (instrs_code (setting_in g p.text (types_of p.olds)) (scope_of p.environment) body)
      → IsTyped (setting_in g p.text (types_of p.olds)) (scope_of p.environment) 0 e u → AreInstrs (setting_in g p.text (types_of p.olds)) (scope_of p.environment) body
      → Room g (types_of p.values) (expr_depth (setting_in g p.text (types_of p.olds)) (scope_of p.environment) 0 e)
      → Room g (types_of p.values) (instrs_depth (setting_in g p.text (types_of p.olds)) (scope_of p.environment) body)
      → instrs_slots (setting_in g p.text (types_of p.olds)) (scope_of p.environment) body ≤ g.slots
      → StandsFor g (pc + length (expr_code (setting_in g p.text (types_of p.olds)) (scope_of p.environment) 0 e) + 1) (Known p.text (scope_of p.environment) (types_of p.olds) (types_of p.values)) p.tasks
      → length p.environment + length tail ≡ g.slots → type_at p.result ≡ g.result
      → Follows g me pc tail p (model.comes (task.Eval 0 e ∷ task.EndLoop e body ∷ []) p)
  repeats_follow p q e u body own has at a b ra rb sb st l r =
      let h = setting_in g p.text (types_of p.olds) in
      let n = scope_of p.environment in
      let inner = instrs_code h n body in
      let until = expr_code h n 0 e in
      let x = op.EndLoop (length inner + length until) in
      let next = record p { tasks = task.Eval 0 e ∷ task.EndLoop e body ∷ p.tasks } in
      let back = has_on g.code.operations (q + length inner) pc (until ++ x ∷ []) (sym at) (has_back g.code.operations q inner (until ++ x ∷ []) has) in
      stays g me pc tail tail p next refl
      (stands g me pc tail next
      (stand.evaluates (has_front g.code.operations pc until (x ∷ []) back) a ra
      (stand.ends_loop q own has (ap (λ m. m + length until) at) a b ra rb sb st)) l r)

  pub ends_follow : (p : Point) (v : Value) (t : EntityType) (q : ℕ) (e : Expr) (u : EntityType) (body : Instrs) → p.text ≡ g.own
      → Has g q (loop_code (instrs_code (setting_in g p.text (types_of p.olds)) (scope_of p.environment) body) (expr_code (setting_in g p.text (types_of p.olds)) (scope_of p.environment) 0 e))
      → pc ≡ q + length (instrs_code (setting_in g p.text (types_of p.olds)) (scope_of p.environment) body) + length (expr_code (setting_in g p.text (types_of p.olds)) (scope_of p.environment) 0 e)
      → IsTyped (setting_in g p.text (types_of p.olds)) (scope_of p.environment) 0 e u → AreInstrs (setting_in g p.text (types_of p.olds)) (scope_of p.environment) body
      → Room g (types_of p.values) (expr_depth (setting_in g p.text (types_of p.olds)) (scope_of p.environment) 0 e)
      → Room g (types_of p.values) (instrs_depth (setting_in g p.text (types_of p.olds)) (scope_of p.environment) body)
      → instrs_slots (setting_in g p.text (types_of p.olds)) (scope_of p.environment) body ≤ g.slots
      → StandsFor g (pc + 1) (Known p.text (scope_of p.environment) (types_of p.olds) (types_of p.values)) p.tasks
      → length p.environment + length tail ≡ g.slots → type_at p.result ≡ g.result
      → Follows g me pc tail (under (operand v t) p) (ends_loop v e body p)
  ends_follow p v t q e u body own has at a b ra rb sb st l r =
      let h = setting_in g p.text (types_of p.olds) in
      let n = scope_of p.environment in
      let inner = instrs_code h n body in
      let until = expr_code h n 0 e in
      let m = length inner + length until in
      let x = op.EndLoop m in
      let behind = has_back g.code.operations q inner (until ++ x ∷ []) has in
      let last = has_back g.code.operations (q + length inner) until (x ∷ []) behind in
      let is : Is g pc x = subst (λ k. Is g k x) (sym at) last.0 in
      let start : pc - m ≡ q = omega (arith, at) in
      let next = record p { tasks = task.Do body ∷ task.Repeat e body ∷ p.tasks } in
      let e1 : pc + 1 ≡ q + length inner + length until + 1 = omega (arith, at) in
      let again : StandsFor g q (Known p.text n (types_of p.olds) (types_of p.values)) next.tasks =
      stand.does own (has_front g.code.operations q inner (until ++ x ∷ []) has) b rb sb
      (stand.repeats q own has refl a b ra rb sb (subst (λ k. StandsFor g k (Known p.text n (types_of p.olds) (types_of p.values)) p.tasks) e1 st)) in
      let here = subst (λ k. StandsFor g k (Known p.text n (types_of p.olds) (types_of p.values)) next.tasks) (sym start) again in
      elim v as (λ v. Follows g me pc tail (under (operand v t) p) (ends_loop v e body p)) [
        | Boolean true ↦ shows g me pc x machine.Until tail (under (operand (Boolean true) t) p) (state_at (pc + 1) tail p) model.Until p is refl refl
            (pc + 1, tail, refl, stands g me (pc + 1) tail p st l r)
        | Boolean false ↦ shows g me pc x machine.Until tail (under (operand (Boolean false) t) p) (state_at (pc - m) tail p) model.Until next is refl refl
            (pc - m, tail, refl, stands g me (pc - m) tail next here l r)
        | Integer z ↦ failed g me pc x cause.BadCode tail (under (operand (Integer z) t) p) p (state_at pc tail p) is refl refl
        | Void ↦ failed g me pc x cause.BadCode tail (under (operand Void t) p) p (state_at pc tail p) is refl refl
        | Attached w ↦ failed g me pc x cause.BadCode tail (under (operand (Attached w) t) p) p (state_at pc tail p) is refl refl
      ]

  -- ---- separate blocks

  pub opens_follow : (p : Point) (vs : List Operand) (xs : List Name) (body : Instrs) (c : ℕ) (us ws : List EntityType) → p.text ≡ g.own → c ≡ length xs
      → types_popped c [] (types_of vs) ≡ Some (us, ws) → Is g pc (op.Open (length (scope_of p.environment)) c) → length (scope_of p.environment) + c ≤ g.slots
      → Has g (pc + 1) (instrs_code (setting_in g p.text (types_of p.olds)) (with_heads xs us (scope_of p.environment)) body)
      → AreInstrs (setting_in g p.text (types_of p.olds)) (with_heads xs us (scope_of p.environment)) body
      → Room g ws (instrs_depth (setting_in g p.text (types_of p.olds)) (with_heads xs us (scope_of p.environment)) body)
      → instrs_slots (setting_in g p.text (types_of p.olds)) (with_heads xs us (scope_of p.environment)) body ≤ g.slots
      → Is g (pc + 1 + length (instrs_code (setting_in g p.text (types_of p.olds)) (with_heads xs us (scope_of p.environment)) body)) op.Leave
      → StandsFor g (pc + 1 + length (instrs_code (setting_in g p.text (types_of p.olds)) (with_heads xs us (scope_of p.environment)) body) + 1)
      (Known p.text (scope_of p.environment) (types_of p.olds) ws) p.tasks
      → length p.environment + length tail ≡ g.slots → type_at p.result ≡ g.result
      → Follows g me pc tail (record p { values = vs }) (opens xs body (model.popped (length xs) [] vs) (record p { values = vs }))
  opens_follow p vs xs body c us ws own many pop is fits has a room slots lv st l r =
      let bs = p.environment in
      let k = length (scope_of bs) in
      let popped_types : types_popped (length xs) [] (types_of vs) ≡ Some (us, ws) = ap (λ c. types_popped c [] (types_of vs)) (sym many) ∙ pop in
      elim (model.popped (length xs) [] vs) as (λ o. model.popped (length xs) [] vs ≡ o → Follows g me pc tail (record p { values = vs }) (opens xs body o (record p { values = vs }))) [
        | None ↦ λ here. absurd (let h : types_both None ≡ Some (us, ws) = sym (ap types_both here) ∙ sym (types_of_popped (length xs) [] vs) ∙ popped_types in cc)
        | Some ab ↦ λ here.
            let both : Some (types_of ab.0, types_of ab.1) ≡ Some (us, ws) = sym (ap types_both here) ∙ sym (types_of_popped (length xs) [] vs) ∙ popped_types in
            let first : us ≡ types_of ab.0 = ap first_of (sym both) in
            let second : ws ≡ types_of ab.1 = ap second_of (sym both) in
            let values : machine.popped c [] (values_of vs) ≡ Some (values_of ab.0, values_of ab.1) =
            ap (λ c. machine.popped c [] (values_of vs)) many ∙ values_of_popped (length xs) [] vs ∙ ap values_both here in
            let all = popped_length (length xs) [] vs ab.0 ab.1 here in
            let new = opened xs ab.0 bs tail (omega (arith, all)) (omega (arith, scope_length bs, l, fits, many)) in
            let n = with_heads xs us (scope_of bs) in
            let names : n ≡ scope_of (block_bound xs ab.0 bs) = ap (λ ts. with_heads xs ts (scope_of bs)) first ∙ sym new.names in
            let h = setting_in g p.text (types_of p.olds) in
            let inner = instrs_code h n body in
            let next = record p { environment = block_bound xs ab.0 bs; tasks = task.Do body ∷ task.Leave (length bs) ∷ p.tasks; values = ab.1 } in
            let kept : take (length bs) n ≡ scope_of bs = ap (take (length bs)) names ∙ sym (scope_take (length bs) (block_bound xs ab.0 bs)) ∙ ap scope_of (block_keeps xs ab.0 bs) in
            let st1 = subst (λ m. StandsFor g (pc + 1 + length inner + 1) (Known p.text m (types_of p.olds) ws) p.tasks) (sym kept) st in
            let there : StandsFor g (pc + 1) (Known p.text n (types_of p.olds) ws) next.tasks = stand.does own has a room slots (stand.leaves lv st1) in
            let there' = subst (λ w. StandsFor g (pc + 1) (Known p.text n (types_of p.olds) w) next.tasks) second there in
            let there2 = subst (λ m. StandsFor g (pc + 1) (Known p.text m (types_of p.olds) (types_of ab.1)) next.tasks) names there' in
            let enough : k + c ≤ length (values_in bs ++ tail) = omega (arith, length-append (values_in bs) tail, values_length bs, scope_length bs, l, fits) in
            let reaches : k + c ≡ length (block_bound xs ab.0 bs) = omega (arith, new.many, scope_length bs, many) in
            shows g me pc (op.Open k c) (machine.Opens k c) tail (record p { values = vs }) (state_at (pc + 1) new.rest next) model.Opens next is
            (ap (λ o. machine.opens k c o (state_at pc tail (record p { values = vs }))) values
            ∙ ap (λ b. if b then stuck (state_at pc tail (record p { values = vs })) else does (machine.Opens k c) (record (state_at pc tail (record p { values = ab.1 })) { slots = machine.written k (values_of ab.0) (values_in bs ++ tail) })) (le-ltb (length (values_in bs ++ tail)) (k + c) enough)
            ∙ ap (λ (s : List Value). does (machine.Opens k c) (record (state_at pc tail (record p { values = ab.1 })) { slots = s })) new.slots)
            (k, c, refl, scope_length bs, reaches)
            (pc + 1, new.rest, refl, stands g me (pc + 1) new.rest next there2 (new.all ∙ l) r)
      ] refl
