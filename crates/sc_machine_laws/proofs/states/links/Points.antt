-- What silent steps keep of a routine's point: the handlers of its values exist, and its tasks are in order.
use Rattle.std.proofs.Common.{◌≡◌, ◌≢◌, ℕ, suc, Bool, true, false, List, [], ◌∷◌, Option, Some, None, ◌≤◌, drop, length}
use Rattle.sc_tree.specs.Plain.{Instrs}
use Rattle.sc_model.specs.Values.{Value, Integer, Boolean, Void, Attached, Operand}
use Rattle.sc_model.specs.Environments.{Binding, is_formal, separate_formals}
use Rattle.sc_machine_laws.specs.states.Stands.{names_in}
use Rattle.sc_machine_laws.proofs.states.links.BlockNames.{IsTidy}
use Rattle.sc_model.specs.Objects.{Object}
use Rattle.sc_model.specs.Tasks.{Forget, Task, Do, Choose, Repeat, EndLoop, Require, Required, Open, Leave}
use Rattle.sc_model.specs.Steps.{Point, Act, CreatesHandler, Enters, Requests, Refuses, Opens, Leaves, Exits, Fails, Step, Goes, Does}

-- ---- values

-- the handler of the value is one of these
abbrev pub Known : (ℕ → Type 0) → Value → Type 0
Known K (Attached r) = K r.handler
Known K (Integer z) = Unit {0}
Known K (Boolean b) = Unit {0}
Known K Void = Unit {0}

abbrev pub Every : {X : Type 0} → (X → Type 0) → List X → Type 0
Every P [] = Unit {0}
Every P (x ∷ xs) = P x × Every P xs

abbrev pub OperandKnown : (ℕ → Type 0) → Operand → Type 0
OperandKnown K u = Known K u.value

abbrev pub BindingKnown : (ℕ → Type 0) → Binding → Type 0
BindingKnown K b = Known K b.value

abbrev pub ObjectKnown : (ℕ → Type 0) → Object → Type 0
ObjectKnown K o = Every (BindingKnown K) o.attributes

abbrev pub IfSome : {X : Type 0} → (X → Type 0) → Option X → Type 0
IfSome P None = Unit {0}
IfSome P (Some x) = P x

-- ---- tasks

abbrev pub is_body : Task → Bool
is_body (Do body) = true
is_body (Choose depth body bs other) = true
is_body (Repeat e body) = true
is_body (EndLoop e body) = true
is_body (Open xs body) = true
is_body (Leave depth) = true
is_body (Forget depth) = true
is_body task = false

abbrev pub is_require : Task → Bool
is_require (Require ks) = true
is_require (Required k) = true
is_require task = false

abbrev pub with_leave : Task → ℕ → ℕ
with_leave (Leave depth) n = suc n
with_leave task n = n

abbrev pub is_leave : Task → Bool
is_leave (Leave depth) = true
is_leave task = false

-- how many blocks are to be left
abbrev pub leaves : List Task → ℕ
leaves [] = 0
leaves (t ∷ ts) = with_leave t (leaves ts)

-- no clause of a precondition is left
abbrev pub IsCalm : List Task → Type 0
IsCalm [] = Unit {0}
IsCalm (t ∷ ts) = (is_require t ≡ false) × IsCalm ts

-- the precondition comes before the body, and before any block
abbrev pub IsPhased : List Task → Type 0
IsPhased [] = Unit {0}
IsPhased (t ∷ ts) = (is_body t ≡ true → IsCalm ts) × (is_require t ≡ true → leaves ts ≡ 0) × IsPhased ts

-- ---- formals

-- how many formals a routine has, the values of the separate ones, and those of the names of its open blocks
pub record Formals : Type 0 where
  pub count : ℕ
  pub values : List Value
  pub names : ℕ → List Value

abbrev pub IsNoFormal : Binding → Type 0
IsNoFormal b = is_formal b.role ≡ false

-- what is forgotten is no formal
abbrev pub IsDeep : ℕ → Task → Type 0
IsDeep n (Forget depth) = n ≤ depth
IsDeep n (Choose depth body bs other) = n ≤ depth
IsDeep n (Leave depth) = n ≤ depth
IsDeep n task = Unit {0}

-- the formals stand first, and stay, and so do the names of blocks
pub record AreKept (c : Formals) (bs : List Binding) (ts : List Task) : Type 0 where
  pub same : separate_formals bs ≡ c.values
  pub room : c.count ≤ length bs
  pub rest : Every IsNoFormal (drop c.count bs)
  pub deep : Every (IsDeep c.count) ts
  pub named : (i : ℕ) → names_in ts bs i ≡ c.names i
  pub tidy : IsTidy ts bs

-- ---- points

-- with so many blocks to leave
pub record IsWell (K : ℕ → Type 0) (c : Formals) (n : ℕ) (p : Point) : Type 0 where
  pub objects : Every (ObjectKnown K) p.objects
  pub environment : Every (BindingKnown K) p.environment
  pub result : IfSome (OperandKnown K) p.result
  pub olds : Every (OperandKnown K) p.olds
  pub values : Every (OperandKnown K) p.values
  pub tasks : IsPhased p.tasks
  pub left : leaves p.tasks ≡ n
  pub formals : AreKept c p.environment p.tasks

-- the body of a block comes next
pub record IsOpened (ts : List Task) : Type 0 where
  pub body : Instrs
  pub depth : ℕ
  pub rest : List Task
  pub is : ts ≡ Do body ∷ Leave depth ∷ rest

-- what a visible step leaves
abbrev pub DoesWell : (ℕ → Type 0) → Formals → ℕ → ℕ → Act → Point → Type 0
DoesWell K c h n (Fails why) p = Every (ObjectKnown K) p.objects × (p.environment ≡ [])
DoesWell K c h n Opens p =
    IsWell K (record c { names = names_in p.tasks p.environment }) (suc n) p × IsOpened p.tasks
    × ((i : ℕ) → names_in p.tasks p.environment (suc i) ≡ c.names i)
DoesWell K c h n Leaves p = (j : ℕ) × (n ≡ suc j) × IsWell K (record c { names = λ i. c.names (suc i) }) j p
DoesWell K c h n Exits p = (n ≡ 0) × IsWell K c n p
DoesWell K c h n (Refuses k) p = (n ≡ 0) × IsWell K c n p
DoesWell K c h n (Enters call r x us gives) p = (r.handler ≡ h) × Every (OperandKnown K) us × IsWell K c n p
DoesWell K c h n (Requests r x us gives passes) p = (r.handler ≢ h) × Every (OperandKnown K) us × IsWell K c n p
DoesWell K c h n (CreatesHandler class procedure us type passes) p = Every (OperandKnown K) us × IsWell K c n p
DoesWell K c h n act p = IsWell K c n p

abbrev pub StepsWell : (ℕ → Type 0) → Formals → ℕ → ℕ → Step → Type 0
StepsWell K c h n (Goes p) = IsWell K c n p
StepsWell K c h n (Does a p) = DoesWell K c h n a p
