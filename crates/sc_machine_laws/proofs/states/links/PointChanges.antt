-- How a routine's point changes and stays well.
use Rattle.std.proofs.Common.{◌≤◌, ◌≡◌, ℕ, true, false, List, [], ◌∷◌, ◌++◌, take, drop, refl, ◌∙◌}
use Rattle.sc_tree.specs.Plain.{Name, Instrs}
use Rattle.sc_model.specs.Values.{Operand}
use Rattle.sc_model.specs.Environments.{block_values, Binding}
use Rattle.sc_model.specs.Objects.{Object}
use Rattle.sc_model.specs.Tasks.{Task, Open}
use Rattle.sc_model.specs.Steps.{Point, forgets}
use Rattle.sc_machine_laws.specs.states.Stands.{names_in}
use Rattle.sc_machine_laws.proofs.states.links.BlockNames.{IsTidy}
use Rattle.sc_machine_laws.proofs.states.links.Points.{Formals, AreKept, IsDeep, Every, OperandKnown, BindingKnown, ObjectKnown, leaves, IsCalm, IsPhased, IsWell}
use Rattle.sc_machine_laws.proofs.states.links.KnownValues.{every_append, every_take}
use Rattle.sc_machine_laws.proofs.states.links.LightTasks.{plain_names, plain_tidy, light_names, light_tidy, AreLight, AreQuiet, not_leave, light_leaves, light_phased, quiet_leaves, quiet_phased}
use Rattle.sc_machine_laws.proofs.states.links.KeptFormals.{light_deep, kept_take}

pub with_value : (K : ℕ → Type 0) (fm : Formals) (n : ℕ) (p : Point) (u : Operand) → IsWell K fm n p → OperandKnown K u
    → IsWell K fm n (record p { values = u ∷ p.values })
with_value K fm n p u w is = record {
  objects = w.objects;
  environment = w.environment;
  result = w.result;
  olds = w.olds;
  values = (is, w.values);
  tasks = w.tasks;
  left = w.left;
  formals = w.formals;
}

pub with_values : (K : ℕ → Type 0) (fm : Formals) (n : ℕ) (p : Point) (vs : List Operand) → IsWell K fm n p → Every (OperandKnown K) vs
    → IsWell K fm n (record p { values = vs })
with_values K fm n p vs w is = record {
  objects = w.objects;
  environment = w.environment;
  result = w.result;
  olds = w.olds;
  values = is;
  tasks = w.tasks;
  left = w.left;
  formals = w.formals;
}

pub with_tasks : (K : ℕ → Type 0) (fm : Formals) (n m : ℕ) (p : Point) (ts : List Task) → IsWell K fm n p → IsPhased ts → leaves ts ≡ m
    → Every (IsDeep fm.count) ts → ((i : ℕ) → names_in ts p.environment i ≡ fm.names i) → IsTidy ts p.environment
    → IsWell K fm m (record p { tasks = ts })
with_tasks K fm n m p ts w phased left deep named tidy = record {
  objects = w.objects;
  environment = w.environment;
  result = w.result;
  olds = w.olds;
  values = w.values;
  tasks = phased;
  left = left;
  formals = record { same = w.formals.same; room = w.formals.room; rest = w.formals.rest; deep = deep; named = named; tidy = tidy };
}

pub with_environment : (K : ℕ → Type 0) (fm : Formals) (n : ℕ) (p : Point) (bs : List Binding) → IsWell K fm n p → Every (BindingKnown K) bs
    → AreKept fm bs p.tasks → IsWell K fm n (record p { environment = bs })
with_environment K fm n p bs w is kept = record {
  objects = w.objects;
  environment = is;
  result = w.result;
  olds = w.olds;
  values = w.values;
  tasks = w.tasks;
  left = w.left;
  formals = kept;
}

pub with_objects : (K : ℕ → Type 0) (fm : Formals) (n : ℕ) (p : Point) (os : List Object) → IsWell K fm n p → Every (ObjectKnown K) os
    → IsWell K fm n (record p { objects = os })
with_objects K fm n p os w is = record {
  objects = is;
  environment = w.environment;
  result = w.result;
  olds = w.olds;
  values = w.values;
  tasks = w.tasks;
  left = w.left;
  formals = w.formals;
}

pub forgotten : (K : ℕ → Type 0) (fm : Formals) (n depth : ℕ) (p : Point) → IsWell K fm n p → fm.count ≤ depth
    → block_values (drop depth p.environment) ≡ [] → IsWell K fm n (forgets depth p)
forgotten K fm n depth p w le none =
    with_environment K fm n p (take depth p.environment) w (every_take (BindingKnown K) depth p.environment w.environment)
    (kept_take fm depth p.environment p.tasks le none w.formals)

-- tasks of expressions come first
pub light : (K : ℕ → Type 0) (fm : Formals) (n : ℕ) (ts : List Task) (p : Point) → AreLight ts → IsWell K fm n p
    → IsWell K fm n (record p { tasks = ts ++ p.tasks })
light K fm n ts p is w = with_tasks K fm n n p (ts ++ p.tasks) w (light_phased ts p.tasks is w.tasks) (light_leaves ts p.tasks is ∙ w.left)
    (every_append (IsDeep fm.count) ts p.tasks (light_deep fm.count ts is) w.formals.deep)
    (λ i. light_names ts p.tasks p.environment i is ∙ w.formals.named i) (light_tidy ts p.tasks p.environment is w.formals.tidy)

-- or parts of a body, where no precondition is left
pub quiet : (K : ℕ → Type 0) (fm : Formals) (n : ℕ) (ts : List Task) (p : Point) → AreQuiet ts → IsCalm p.tasks → Every (IsDeep fm.count) ts
    → ((i : ℕ) → names_in (ts ++ p.tasks) p.environment i ≡ names_in p.tasks p.environment i) → IsTidy (ts ++ p.tasks) p.environment
    → IsWell K fm n p → IsWell K fm n (record p { tasks = ts ++ p.tasks })
quiet K fm n ts p is calm deep names tidy w = with_tasks K fm n n p (ts ++ p.tasks) w (quiet_phased ts p.tasks is calm w.tasks)
    (quiet_leaves ts p.tasks is ∙ w.left) (every_append (IsDeep fm.count) ts p.tasks deep w.formals.deep)
    (λ i. names i ∙ w.formals.named i) tidy

pub no_require : {A : Type 0} → false ≡ true → A
no_require e = cc

-- the heads of a block, and then the block
pub open_well : (K : ℕ → Type 0) (fm : Formals) (n : ℕ) (ts : List Task) (xs : List Name) (body : Instrs) (p : Point) → AreLight ts → IsWell K fm n p
    → IsCalm p.tasks → IsWell K fm n (record p { tasks = (ts ++ Open xs body ∷ []) ++ p.tasks })
open_well K fm n ts xs body p is w calm = quiet K fm n (ts ++ Open xs body ∷ []) p (by ts is) calm
    (every_append (IsDeep fm.count) ts (Open xs body ∷ []) (light_deep fm.count ts is) (tt, tt)) (named ts is) (tidied ts is) w
  where
    named : (ts : List Task) → AreLight ts → (i : ℕ)
        → names_in ((ts ++ Open xs body ∷ []) ++ p.tasks) p.environment i ≡ names_in p.tasks p.environment i
    named [] is i = refl
    named (t ∷ ts) is i = plain_names t ((ts ++ Open xs body ∷ []) ++ p.tasks) p.environment i is.0 ∙ named ts is.2 i

    tidied : (ts : List Task) → AreLight ts → IsTidy ((ts ++ Open xs body ∷ []) ++ p.tasks) p.environment
    tidied [] is = (tt, w.formals.tidy)
    tidied (t ∷ ts) is = plain_tidy t ((ts ++ Open xs body ∷ []) ++ p.tasks) p.environment is.0 (tidied ts is.2)

    by : (ts : List Task) → AreLight ts → AreQuiet (ts ++ Open xs body ∷ [])
    by [] is = (refl, (λ j. refl), tt)
    by (t ∷ ts) is = (is.1, (λ j. not_leave t j is.0), by ts is.2)
