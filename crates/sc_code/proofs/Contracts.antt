-- Contracts: preconditions and `old`s; and the locals' defaults.
use Rattle.std.proofs.Common.{◌≡◌, ◌≤◌, ◌<◌, ℕ, suc, ◌+◌, List, [], ◌∷◌, ◌++◌, Option, true, false, length, refl, sym, ap, ◌∙◌, subst, arith, length-append, append_assoc}
use Rattle.std.specs.Prelude.{if◌then◌else◌, slice_set}
use Rattle.std.specs.Option.{option_map}
use Rattle.std.proofs.lemmas.Bool.{lt-ltb}
use Rattle.sc_tree.specs.Plain.{Clause, Declaration}
use Rattle.sc_rules.specs.declared.entity_types.entity_type.EntityType.{EntityType}
use Rattle.sc_model.specs.declared.cause.Cause.TheVariants as cause
use Rattle.sc_model.specs.Values.{Reference, Value, Integer, Boolean, Void, Attached, Operand, operand, values_of}
use Rattle.sc_model.specs.Environments.{Binding, scope_of, locals_bound}
use Rattle.sc_model.specs.Steps as model
use Rattle.sc_model.specs.Steps.{Point}
use Rattle.sc_model.specs.Instructions.{required}
use Rattle.sc_model.specs.Moves.{performs}
use Rattle.sc_model.specs.Tasks as task
use Rattle.sc_model.specs.Tasks.{Task}
use Rattle.sc_code.specs.Operations as op
use Rattle.sc_code.specs.Emitted.{expr_code, clauses_code, checks_depth, formals_in, declare_code}
use Rattle.sc_code.specs.Machine as machine
use Rattle.sc_code.specs.Machine.{State, Goes, into, stuck, then_hop, hops}
use Rattle.sc_code.specs.Typed.{AreClauses, no_clause, more_clauses}
use Rattle.sc_code.specs.Stands as stand
use Rattle.sc_code.specs.Stands.{Run, Known, Has, Is, Room, StandsFor, types_of, values_in, state_at, setting_in, Follows}
use Rattle.sc_code.proofs.Hops.{has_front, has_back, stands, on, goes, shows, failed, stays, one, comes, within}
use Rattle.sc_code.proofs.Slots.{scope_length, values_length, scope_append, written_next}
use Rattle.sc_code.proofs.Operands.{under}

abbrev type_at : Option Operand → Option EntityType
type_at o = option_map (λ (u : Operand). u.type) o

values_append : (us vs : List Operand) → values_of (us ++ vs) ≡ values_of us ++ values_of vs
values_append [] vs = refl
values_append (u ∷ us) vs = ap (λ l. u.value ∷ l) (values_append us vs)

types_append : (us vs : List Operand) → types_of (us ++ vs) ≡ types_of us ++ types_of vs
types_append [] vs = refl
types_append (u ∷ us) vs = ap (λ l. u.type ∷ l) (types_append us vs)

bindings_none : (bs : List Binding) → bs ++ [] ≡ bs
bindings_none [] = refl
bindings_none (b ∷ bs) = ap (λ l. b ∷ l) (bindings_none bs)

module _ (g : Run) (me : Reference) (pc : ℕ) (tail : List Value) where
  pub requires_follow : (p : Point) (ks : List Clause) → Has g pc (clauses_code (setting_in g p.text (types_of p.olds)) (scope_of p.environment) ks)
      → AreClauses (setting_in g p.text (types_of p.olds)) (scope_of p.environment) ks
      → Room g (types_of p.values) (checks_depth (setting_in g p.text (types_of p.olds)) (scope_of p.environment) ks)
      → StandsFor g (pc + length (clauses_code (setting_in g p.text (types_of p.olds)) (scope_of p.environment) ks))
      (Known p.text (scope_of p.environment) (types_of p.olds) (types_of p.values)) p.tasks
      → length p.environment + length tail ≡ g.slots → type_at p.result ≡ g.result → Follows g me pc tail p (performs g.system me (task.Require ks) p.values p)
  requires_follow p [] has no_clause room st l r =
      shows g me pc op.Start machine.Starts tail p (state_at (pc + 1) tail p) model.Starts p has.0 refl refl (pc + 1, tail, refl, stands g me (pc + 1) tail p st l r)
  requires_follow p (c ∷ ks) has (more_clauses a b) room st l r =
      let h = setting_in g p.text (types_of p.olds) in
      let n = scope_of p.environment in
      let first = expr_code h n 0 c.condition in
      let x = op.Demand (formals_in n c) in
      let rest = clauses_code h n ks in
      let back = has_back g.code.operations pc first (x ∷ rest) has in
      let next = record p { tasks = task.Eval 0 c.condition ∷ task.Required c ∷ task.Require ks ∷ p.tasks } in
      let e1 : pc + length (first ++ x ∷ rest) ≡ pc + length first + 1 + length rest = omega (arith, length-append first (x ∷ rest)) in
      stays g me pc tail tail p next refl
      (stands g me pc tail next
      (stand.evaluates (has_front g.code.operations pc first (x ∷ rest) has) a (omega (arith, room))
      (stand.required back.0
      (stand.requires back.1 b (omega (arith, room)) (subst (λ m. StandsFor g m (Known p.text n (types_of p.olds) (types_of p.values)) p.tasks) e1 st)))) l r)

  pub required_follows : (p : Point) (v : Value) (t : EntityType) (c : Clause) → Is g pc (op.Demand (formals_in (scope_of p.environment) c))
      → StandsFor g (pc + 1) (Known p.text (scope_of p.environment) (types_of p.olds) (types_of p.values)) p.tasks
      → length p.environment + length tail ≡ g.slots → type_at p.result ≡ g.result → Follows g me pc tail (under (operand v t) p) (required c v p)
  required_follows p (Boolean true) t c is st l r =
      goes g me pc (pc + 1 + 0) (op.Demand (formals_in (scope_of p.environment) c)) tail tail (under (operand (Boolean true) t) p) p is refl
      (stands g me (pc + 1 + 0) tail p (on g me (pc + 1 + 0) (pc + 1) _ p.tasks (omega arith) st) l r)
  required_follows p (Boolean false) t c is st l r =
      shows g me pc (op.Demand (formals_in (scope_of p.environment) c)) (machine.Refuses (formals_in (scope_of p.environment) c)) tail (under (operand (Boolean false) t) p)
      (state_at (pc + 1) tail p) (model.Refuses c) p is refl refl (pc + 1, tail, refl, tt)
  required_follows p (Integer z) t c is st l r =
      failed g me pc (op.Demand (formals_in (scope_of p.environment) c)) cause.BadCode tail (under (operand (Integer z) t) p) p (state_at pc tail p) is refl refl
  required_follows p Void t c is st l r =
      failed g me pc (op.Demand (formals_in (scope_of p.environment) c)) cause.BadCode tail (under (operand Void t) p) p (state_at pc tail p) is refl refl
  required_follows p (Attached q) t c is st l r =
      failed g me pc (op.Demand (formals_in (scope_of p.environment) c)) cause.BadCode tail (under (operand (Attached q) t) p) p (state_at pc tail p) is refl refl

  pub keeps_follow : (p : Point) (u : Operand) → Is g pc op.KeepOld
      → StandsFor g (pc + 1) (Known p.text (scope_of p.environment) (types_of p.olds ++ u.type ∷ []) (types_of p.values)) p.tasks
      → length p.environment + length tail ≡ g.slots → type_at p.result ≡ g.result → Follows g me pc tail (under u p) (model.Goes (record p { olds = p.olds ++ u ∷ [] }))
  keeps_follow p u is st l r =
      let next = record p { olds = p.olds ++ u ∷ [] } in
      let st' = subst (λ o. StandsFor g (pc + 1) (Known p.text (scope_of p.environment) o (types_of p.values)) p.tasks) (sym (types_append p.olds (u ∷ []))) st in
      goes g me pc (pc + 1 + 0) op.KeepOld tail tail (under u p) next is
      (ap (λ (o : List Value). into g.code (pc + 1 + 0) (record (state_at pc tail p) { olds = o })) (sym (values_append p.olds (u ∷ []))))
      (stands g me (pc + 1 + 0) tail next (on g me (pc + 1 + 0) (pc + 1) _ p.tasks (omega arith) st') l r)

-- ---- locals

-- the locals' defaults are written one after the other
pub record Declared (g : Run) (me : Reference) (pc : ℕ) (tail : List Value) (p : Point) (bs : List Binding) : Type 0 where
  pub steps : ℕ
  pub rest : List Value
  pub run : hops steps g.system g.code me (state_at pc tail p) ≡ Goes (state_at (pc + length bs) rest (record p { environment = p.environment ++ bs }))
  pub all : length (p.environment ++ bs) + length rest ≡ length p.environment + length tail

declared : (g : Run) (me : Reference) (bs : List Binding) (pc : ℕ) (tail : List Value) (p : Point) → Has g pc (declare_code (length (scope_of p.environment)) bs)
    → length bs ≤ length tail → pc + length bs < length g.code.operations → Declared g me pc tail p bs
declared g me [] pc tail p has fits below = record {
  steps = 0;
  rest = tail;
  run = ap (λ n. Goes (state_at n tail p)) (let e : pc ≡ pc + 0 = omega arith in e) ∙ ap (λ (e : List Binding). Goes (state_at (pc + 0) tail (record p { environment = e }))) (sym (bindings_none p.environment));
  all = ap (λ (e : List Binding). length e + length tail) (bindings_none p.environment);
}
declared g me (b ∷ bs) pc [] p has fits below = absurd (omega (arith, fits))
declared g me (b ∷ bs) pc (y ∷ tail) p has fits below =
    let env = p.environment in
    let k = length (scope_of env) in
    let slots = values_in env ++ y ∷ tail in
    let next = record p { environment = env ++ b ∷ [] } in
    let k' : suc k ≡ length (scope_of (env ++ b ∷ [])) = omega (arith, scope_length (env ++ b ∷ []), scope_length env, length-append env (b ∷ [])) in
    let has' = subst (λ n. Has g (pc + 1) (declare_code n bs)) k' has.1 in
    let more = declared g me bs (pc + 1) tail next has' (omega (arith, fits)) (omega (arith, below)) in
    let within_slots : k < length slots = omega (arith, length-append (values_in env) (y ∷ tail), values_length env, scope_length env) in
    let to : pc + 1 + 0 < length g.code.operations = omega (arith, below) in
    let first = one g me pc (y ∷ tail) (op.Initialize k b.value) p (Goes (state_at (pc + 1 + 0) tail next)) has.0
    (ap (λ c. if c then into g.code (pc + 1 + 0) (record (state_at pc (y ∷ tail) p) { slots = slice_set slots k b.value }) else stuck (state_at pc (y ∷ tail) p)) (lt-ltb k (length slots) within_slots)
    ∙ ap (λ (s : List Value). into g.code (pc + 1 + 0) (record (state_at pc (y ∷ tail) p) { slots = s })) (written_next env b y tail)
    ∙ comes g me (pc + 1 + 0) (state_at pc tail next) to) in
    let place : pc + 1 + 0 ≡ pc + 1 = omega arith in
    let ends : pc + 1 + length bs ≡ pc + length (b ∷ bs) = omega arith in
    let begun = ap (λ x. then_hop x (hops more.steps g.system g.code me)) first
    ∙ ap (λ n. hops more.steps g.system g.code me (state_at n tail next)) place ∙ more.run in
    record {
      steps = suc more.steps;
      rest = more.rest;
      run = begun ∙ ap (λ (e : List Binding). Goes (state_at (pc + 1 + length bs) more.rest (record p { environment = e }))) (append_assoc env (b ∷ []) bs)
          ∙ ap (λ n. Goes (state_at n more.rest (record p { environment = env ++ b ∷ bs }))) ends;
      all = ap (λ (e : List Binding). length e + length more.rest) (sym (append_assoc env (b ∷ []) bs)) ∙ (let e : length ((env ++ b ∷ []) ++ bs) + length more.rest ≡ length env + length (y ∷ tail) = omega (arith, more.all, length-append env (b ∷ [])) in e);
    }

pub declares_follow : (g : Run) (me : Reference) (pc : ℕ) (tail : List Value) (p : Point) (locals : List Declaration)
    → Has g pc (declare_code (length (scope_of p.environment)) (locals_bound g.system p.text.formals locals))
    → length (scope_of p.environment) + length (locals_bound g.system p.text.formals locals) ≤ g.slots
    → StandsFor g (pc + length (locals_bound g.system p.text.formals locals))
    (Known p.text (scope_of p.environment ++ scope_of (locals_bound g.system p.text.formals locals)) (types_of p.olds) (types_of p.values)) p.tasks
    → length p.environment + length tail ≡ g.slots → type_at p.result ≡ g.result
    → Follows g me pc tail p (model.Goes (record p { environment = p.environment ++ locals_bound g.system p.text.formals locals }))
declares_follow g me pc tail p locals has fits st l r =
    let bs = locals_bound g.system p.text.formals locals in
    let next = record p { environment = p.environment ++ bs } in
    let done = declared g me bs pc tail p has (omega (arith, fits, l, scope_length p.environment)) (within g (pc + length bs) _ p.tasks st) in
    let st' = subst (λ n. StandsFor g (pc + length bs) (Known p.text n (types_of p.olds) (types_of p.values)) p.tasks) (sym (scope_append p.environment bs)) st in
    (done.steps, pc + length bs, done.rest, done.run, stands g me (pc + length bs) done.rest next st' (done.all ∙ l) r)
