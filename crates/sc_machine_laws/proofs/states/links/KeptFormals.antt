-- The formals of a routine stand first, and stay, and so do the names of blocks.
use Rattle.std.proofs.Common.{◌≡◌, inl, inr, subst, ℕ, zero, suc, ◌+◌, Bool, true, false, cond, List, [], ◌∷◌, ◌++◌, Option, Some, None, take, refl, sym, ◌∙◌, ◌≤◌, ◌&&◌, not, drop, length, filter, arith, ap, map}
use Rattle.std.specs.Prelude.{bytes_eq, if◌then◌else◌}
use Rattle.std.specs.List.{cons_option}
use Rattle.std.specs.Option.{option_map}
use Rattle.sc_tree.specs.Plain.{System, Declaration, Name, Instrs}
use Rattle.sc_rules.specs.declared.entity_types.entity_type.EntityType.{EntityType}
use Rattle.sc_rules.specs.declared.position.Role.TheVariants as role
use Rattle.sc_class.specs.Tables.Conformance.{is_expanded}
use Rattle.sc_rules.specs.Names.{unassignable, to_local, is_local, is_block, entity_named, assignee_or, assignee, block_type, blocks}
use Rattle.sc_tree.specs.Plain.{Named}
use Rattle.sc_model.specs.Routines.{place_in}
use Rattle.sc_rules.specs.Types.{is_foreign, declared_type}
use Rattle.sc_model.specs.Values.{Value, Operand, default_of}
use Rattle.sc_model.specs.Environments.{Binding, bind, assigned_to, known_of, is_formal, is_separate_formal, separate_formals, with_binding, formals_bound, local_bound, locals_bound, name_bound, block_bound, block_values, scope_of}
use Rattle.sc_machine_laws.specs.states.Stands.{names_in}
use Rattle.sc_machine_laws.proofs.states.links.BlockNames.{IsTidy, AreAlike, alike_same, alike_names, alike_tidy, alike_end, alike_forget, take_end}
use Rattle.sc_rules.specs.declared.position.Role.{Role}
use Rattle.sc_model.specs.Routines as routines
use Rattle.sc_model.specs.Tasks.{Forget, Task, Do, Choose, Leave}
use Rattle.sc_machine_laws.proofs.states.links.Points.{AreKept, Every, Formals, IfSome, IsDeep, IsNoFormal, is_body, is_leave, with_leave}
use Rattle.sc_machine_laws.proofs.states.links.KnownValues.{every_append, every_kept, every_take}
use Rattle.sc_machine_laws.proofs.states.links.LightTasks.{AreLight, no_require}

-- ---- formals stay

is_deep_too : (n : ℕ) (t : Task) → is_body t ≡ false → IsDeep n t
is_deep_too n (Forget depth) e = no_require (sym e)
is_deep_too n (Choose depth body bs other) e = no_require (sym e)
is_deep_too n (Leave depth) e = no_require (sym e)
is_deep_too n t e = tt

pub light_deep : (n : ℕ) (ts : List Task) → AreLight ts → Every (IsDeep n) ts
light_deep n [] is = tt
light_deep n (t ∷ ts) is = (is_deep_too n t is.0, light_deep n ts is.2)

-- who is no formal is no separate formal
not_separate : (b : Binding) → IsNoFormal b → is_separate_formal b ≡ false
not_separate b e = ap (λ (c : Bool). c && b.type.attached && is_foreign b.type.tag && not (is_expanded b.type.class)) e

separate_none : (bs : List Binding) → Every IsNoFormal bs → separate_formals bs ≡ []
separate_none [] is = refl
separate_none (b ∷ bs) is = ap (λ (c : Bool). map (λ (x : Binding). x.value)
    (cond c (b ∷ filter is_separate_formal bs) (filter is_separate_formal bs))) (not_separate b is.0) ∙ separate_none bs is.1

separate_cons : (b : Binding) (xs ys : List Binding) → separate_formals xs ≡ separate_formals ys
    → separate_formals (b ∷ xs) ≡ separate_formals (b ∷ ys)
separate_cons b xs ys e = by (is_separate_formal b)
  where
    by : (c : Bool) → map (λ (x : Binding). x.value) (cond c (b ∷ filter is_separate_formal xs) (filter is_separate_formal xs)) ≡ map
        (λ (x : Binding). x.value) (cond c (b ∷ filter is_separate_formal ys) (filter is_separate_formal ys))
    by true = ap (λ vs. b.value ∷ vs) e
    by false = e

separate_end : (bs cs : List Binding) → Every IsNoFormal cs → separate_formals (bs ++ cs) ≡ separate_formals bs
separate_end [] cs is = separate_none cs is
separate_end (b ∷ bs) cs is = separate_cons b (bs ++ cs) bs (separate_end bs cs is)

every_drop : {X : Type 0} (P : X → Type 0) (n : ℕ) (xs : List X) → Every P xs → Every P (drop n xs)
every_drop P zero xs is = is
every_drop P (suc n) [] is = tt
every_drop P (suc n) (x ∷ xs) is = every_drop P n xs is.1

rest_end : (n : ℕ) (bs cs : List Binding) → Every IsNoFormal (drop n bs) → Every IsNoFormal cs → Every IsNoFormal (drop n (bs ++ cs))
rest_end zero bs cs a b = every_append IsNoFormal bs cs a b
rest_end (suc n) [] cs a b = every_drop IsNoFormal (suc n) cs b
rest_end (suc n) (x ∷ bs) cs a b = rest_end n bs cs a b

length_end : (bs cs : List Binding) → length bs ≤ length (bs ++ cs)
length_end [] cs = omega arith
length_end (b ∷ bs) cs = let le = length_end bs cs in omega (arith, le)

pub kept_end : (c : Formals) (bs cs : List Binding) (ts : List Task) → AreKept c bs ts → Every IsNoFormal cs → AreAlike [] cs
    → AreKept c (bs ++ cs) ts
kept_end c bs cs ts k is none = record {
  same = separate_end bs cs is ∙ k.same;
  room = let le = length_end bs cs in let room = k.room in omega (arith, le, room);
  rest = rest_end c.count bs cs k.rest is;
  deep = k.deep;
  named = λ i. sym (alike_names ts bs (bs ++ cs) i (alike_end bs cs none)) ∙ k.named i;
  tidy = alike_tidy ts bs (bs ++ cs) (alike_end bs cs none) k.tidy;
}

pub separate_take : (n d : ℕ) (bs : List Binding) → n ≤ d → Every IsNoFormal (drop n bs) → separate_formals (take d bs) ≡ separate_formals bs
separate_take zero d bs le is = separate_none (take d bs) (every_take IsNoFormal d bs is) ∙ sym (separate_none bs is)
separate_take (suc n) zero bs le is = absurd (omega (arith, le))
separate_take (suc n) (suc d) [] le is = refl
separate_take (suc n) (suc d) (b ∷ bs) le is = separate_cons b (take d bs) bs (separate_take n d bs (omega (arith, le)) is)

pub room_take : (n d : ℕ) (bs : List Binding) → n ≤ d → n ≤ length bs → n ≤ length (take d bs)
room_take zero d bs le room = omega arith
room_take (suc n) zero bs le room = absurd (omega (arith, le))
room_take (suc n) (suc d) [] le room = room
room_take (suc n) (suc d) (b ∷ bs) le room = let r = room_take n d bs (omega (arith, le)) (omega (arith, room)) in omega (arith, r)

pub rest_take : (n d : ℕ) (bs : List Binding) → Every IsNoFormal (drop n bs) → Every IsNoFormal (drop n (take d bs))
rest_take zero d bs is = every_take IsNoFormal d bs is
rest_take (suc n) zero bs is = tt
rest_take (suc n) (suc d) [] is = tt
rest_take (suc n) (suc d) (b ∷ bs) is = rest_take n d bs is

pub kept_take : (c : Formals) (d : ℕ) (bs : List Binding) (ts : List Task) → c.count ≤ d → block_values (drop d bs) ≡ [] → AreKept c bs ts
    → AreKept c (take d bs) ts
kept_take c d bs ts le none k = record {
  same = separate_take c.count d bs le k.rest ∙ k.same;
  room = room_take c.count d bs le k.room;
  rest = rest_take c.count d bs k.rest;
  deep = k.deep;
  named = λ i. sym (alike_names ts bs (take d bs) i (alike_forget d bs none)) ∙ k.named i;
  tidy = alike_tidy ts bs (take d bs) (alike_forget d bs none) k.tidy;
}

pub plain_leaves : (t : Task) (n : ℕ) → is_leave t ≡ false → with_leave t n ≡ n
plain_leaves (Leave depth) n e = no_require (sym e)
plain_leaves t n e = refl

-- after a task that ends no block
pub kept_rest : (c : Formals) (bs : List Binding) (t : Task) (ts : List Task) → is_leave t ≡ false → AreKept c bs (t ∷ ts) → AreKept c bs ts
kept_rest c bs (Leave depth) ts e k = no_require (sym e)
kept_rest c bs t ts e k = record {
  same = k.same;
  room = k.room;
  rest = k.rest;
  deep = k.deep.1;
  named = k.named;
  tidy = k.tidy.1;
}

-- the first of the name is a local
abbrev pub first_is_local : List ℕ → List Binding → Bool
first_is_local x [] = true
first_is_local x (b ∷ bs) = if bytes_eq b.name x then is_local b.role else first_is_local x bs

local_no_formal : (r : Role) → is_local r ≡ true → is_formal r ≡ false
local_no_formal role.Local e = refl
local_no_formal role.Formal e = no_require e
local_no_formal role.Test e = refl
local_no_formal role.Block e = refl

separate_assigned : (x : List ℕ) (v : Value) (bs : List Binding) → first_is_local x bs ≡ true
    → separate_formals (assigned_to x v bs) ≡ separate_formals bs
separate_assigned x v [] is = refl
separate_assigned x v (b ∷ bs) is = by (bytes_eq b.name x) is (λ i. separate_assigned x v bs i)
  where
    by : (c : Bool) → (if c then is_local b.role else first_is_local x bs) ≡ true
        → (first_is_local x bs ≡ true → separate_formals (assigned_to x v bs) ≡ separate_formals bs)
        → separate_formals (if c then record b { value = v } ∷ bs else b ∷ assigned_to x v bs) ≡ separate_formals (b ∷ bs)
    by true i more =
        ap (λ (c : Bool). map (λ (y : Binding). y.value) (cond c (record b { value = v } ∷ filter is_separate_formal bs)
        (filter is_separate_formal bs))) (not_separate (record b { value = v }) (local_no_formal b.role i))
        ∙ sym (ap (λ (c : Bool). map (λ (y : Binding). y.value) (cond c (b ∷ filter is_separate_formal bs) (filter is_separate_formal bs)))
        (not_separate b (local_no_formal b.role i)))
    by false i more = separate_cons b (assigned_to x v bs) bs (more i)

length_assigned : (x : List ℕ) (v : Value) (bs : List Binding) → length (assigned_to x v bs) ≡ length bs
length_assigned x v [] = refl
length_assigned x v (b ∷ bs) = by (bytes_eq b.name x) (length_assigned x v bs)
  where
    by : (c : Bool) → length (assigned_to x v bs) ≡ length bs
        → length (if c then record b { value = v } ∷ bs else b ∷ assigned_to x v bs) ≡ length (b ∷ bs)
    by true e = refl
    by false e = ap suc e

rest_assigned : (n : ℕ) (x : List ℕ) (v : Value) (bs : List Binding) → Every IsNoFormal (drop n bs) → Every IsNoFormal (drop n (assigned_to x v bs))
rest_assigned n x v [] is = is
rest_assigned zero x v (b ∷ bs) is = by (bytes_eq b.name x) (rest_assigned zero x v bs is.1)
  where
    by : (c : Bool) → Every IsNoFormal (assigned_to x v bs) → Every IsNoFormal (if c then record b { value = v } ∷ bs else b ∷ assigned_to x v bs)
    by true e = (is.0, is.1)
    by false e = (is.0, e)
rest_assigned (suc n) x v (b ∷ bs) is = by (bytes_eq b.name x) (rest_assigned n x v bs is)
  where
    by : (c : Bool) → Every IsNoFormal (drop n (assigned_to x v bs))
        → Every IsNoFormal (drop (suc n) (if c then record b { value = v } ∷ bs else b ∷ assigned_to x v bs))
    by true e = is
    by false e = e

local_no_name : (r : Role) → is_local r ≡ true → is_block r ≡ false
local_no_name role.Local e = refl
local_no_name role.Formal e = no_require e
local_no_name role.Test e = refl
local_no_name role.Block e = no_require e

alike_assigned : (x : List ℕ) (v : Value) (bs : List Binding) → first_is_local x bs ≡ true → AreAlike bs (assigned_to x v bs)
alike_assigned x v [] is = tt
alike_assigned x v (b ∷ bs) is = by (bytes_eq b.name x) is (λ i. alike_assigned x v bs i)
  where
    by : (c : Bool) → (if c then is_local b.role else first_is_local x bs) ≡ true
        → (first_is_local x bs ≡ true → AreAlike bs (assigned_to x v bs))
        → AreAlike (b ∷ bs) (if c then record b { value = v } ∷ bs else b ∷ assigned_to x v bs)
    by true i more = (inr (local_no_name b.role i, local_no_name b.role i), alike_same bs)
    by false i more = (inl refl, more i)

pub kept_assigned : (c : Formals) (x : List ℕ) (v : Value) (bs : List Binding) (ts : List Task) → first_is_local x bs ≡ true → AreKept c bs ts
    → AreKept c (assigned_to x v bs) ts
kept_assigned c x v bs ts is k = record {
  same = separate_assigned x v bs is ∙ k.same;
  room = let e = length_assigned x v bs in let room = k.room in omega (arith, e, room);
  rest = rest_assigned c.count x v bs k.rest;
  deep = k.deep;
  named = λ i. sym (alike_names ts bs (assigned_to x v bs) i (alike_assigned x v bs is)) ∙ k.named i;
  tidy = alike_tidy ts bs (assigned_to x v bs) (alike_assigned x v bs is) k.tidy;
}

-- only a local of the routine is assigned, where an entity is
pub first_local : (s : System) (t : routines.Text) (x : Name) (bs : List Binding) (ty : Option EntityType)
    → assignee (place_in s t) (scope_of bs) (Named x) ≡ to_local ty → first_is_local x.text bs ≡ true
first_local s t x [] ty e = refl
first_local s t x (b ∷ bs) ty e = by (bytes_eq b.name x.text) e (λ i. first_local s t x bs ty i)
  where
    by : (c : Bool) → assignee_or (place_in s t) x.text (cond c (Some (known_of b)) (entity_named x.text (scope_of bs))) ≡ to_local ty
        → (assignee (place_in s t) (scope_of bs) (Named x) ≡ to_local ty → first_is_local x.text bs ≡ true)
        → (if c then is_local b.role else first_is_local x.text bs) ≡ true
    by true i more = local (is_local b.role) refl i
      where
        local : (d : Bool) → is_local b.role ≡ d → (if d then to_local (Some b.type) else unassignable) ≡ to_local ty → is_local b.role ≡ true
        local true f i = f
        local false f i = absurd (differ i)
          where
            differ : unassignable ≡ to_local ty → ⊥
            differ i = cc
    by false i more = more i

pub locals_no_formals : (s : System) (formals locals : List Declaration) → Every IsNoFormal (locals_bound s formals locals)
locals_no_formals s formals locals = every_kept IsNoFormal (local_bound s formals) locals (λ d. by d (declared_type s formals d.declared_type))
  where
    by : (d : Declaration) (o : Option EntityType) → IfSome IsNoFormal
        (option_map (λ (t : EntityType). bind d.name.text t role.Local (default_of t.class)) o)
    by d None = tt
    by d (Some t) = refl

pub locals_no_names : (s : System) (formals locals : List Declaration) → AreAlike [] (locals_bound s formals locals)
locals_no_names s formals [] = tt
locals_no_names s formals (d ∷ ds) = by (declared_type s formals d.declared_type) (locals_no_names s formals ds)
  where
    by : (o : Option EntityType) → AreAlike [] (locals_bound s formals ds)
        → AreAlike [] (cons_option (option_map (λ (t : EntityType). bind d.name.text t role.Local (default_of t.class)) o)
        (locals_bound s formals ds))
    by None rest = rest
    by (Some t) rest = (refl, rest)

-- what a block binds
pub record Added (bs cs : List Binding) : Type 0 where
  pub more : List Binding
  pub is : cs ≡ bs ++ more
  pub none : Every IsNoFormal more

append_nil : (bs : List Binding) → bs ≡ bs ++ []
append_nil [] = refl
append_nil (b ∷ bs) = ap (λ l. b ∷ l) (append_nil bs)

append_again : (bs cs ds : List Binding) → (bs ++ cs) ++ ds ≡ bs ++ (cs ++ ds)
append_again [] cs ds = refl
append_again (b ∷ bs) cs ds = ap (λ l. b ∷ l) (append_again bs cs ds)

block_adds : (xs : List Name) (us : List Operand) (bs : List Binding) → Added bs (block_bound xs us bs)
block_adds [] us bs = record { more = []; is = append_nil bs; none = tt }
block_adds (x ∷ xs) [] bs = record { more = []; is = append_nil bs; none = tt }
block_adds (x ∷ xs) (u ∷ us) bs =
    let one : List Binding = name_bound x (block_type (blocks (scope_of bs)) (Some u.type)) u.value in
    let rest = block_adds xs us (bs ++ one) in
    record {
      more = one ++ rest.more;
      is = rest.is ∙ append_again bs one rest.more;
      none = every_append IsNoFormal (name_bound x (block_type (blocks (scope_of bs)) (Some u.type)) u.value) rest.more
          (by (block_type (blocks (scope_of bs)) (Some u.type))) rest.none;
    }
  where
    by : (o : Option EntityType) → Every IsNoFormal (name_bound x o u.value)
    by None = tt
    by (Some t) = (refl, tt)

-- a block that opens, with its names
pub record Opening (c : Formals) (bs cs : List Binding) (ts : List Task) : Type 0 where
  pub kept : AreKept (record c { names = names_in ts cs }) cs ts
  pub names : (i : ℕ) → names_in ts cs (suc i) ≡ c.names i

pub kept_block : (c : Formals) (xs : List Name) (us : List Operand) (body : Instrs) (bs : List Binding) (ts : List Task) → AreKept c bs ts
    → Opening c bs (block_bound xs us bs) (Do body ∷ Leave (length bs) ∷ ts)
kept_block c xs us body bs ts k =
    let a = block_adds xs us bs in
    subst (λ cs. Opening c bs cs (Do body ∷ Leave (length bs) ∷ ts)) (sym a.is) (record {
      kept = record {
        same = separate_end bs a.more a.none ∙ k.same;
        room = let le = length_end bs a.more in let room = k.room in omega (arith, le, room);
        rest = rest_end c.count bs a.more k.rest a.none;
        deep = (tt, (k.room, k.deep));
        named = λ i. refl;
        tidy = (tt, (tt, subst (IsTidy ts) (sym (take_end bs a.more)) k.tidy));
      };
      names = λ i. ap (λ l. names_in ts l i) (take_end bs a.more) ∙ k.named i;
    })

-- the formals that a routine begins with
pub formals_kept : (s : System) (all : List Declaration) (i : ℕ) (ds : List Declaration) (vs : List Value)
    → IfSome (λ bs. (length bs ≡ length ds) × (block_values bs ≡ [])) (formals_bound s all i ds vs)
formals_kept s all i [] [] = (refl, refl)
formals_kept s all i [] (v ∷ vs) = tt
formals_kept s all i (d ∷ ds) [] = tt
formals_kept s all i (d ∷ ds) (v ∷ vs) = by (declared_type s all d.declared_type) (formals_bound s all (i + 1) ds vs)
    (formals_kept s all (i + 1) ds vs)
  where
    by : (o : Option EntityType) (b : Option (List Binding)) → IfSome (λ bs. (length bs ≡ length ds) × (block_values bs ≡ [])) b
        → IfSome (λ bs. (length bs ≡ length (d ∷ ds)) × (block_values bs ≡ [])) (with_binding o d.name.text i v b)
    by (Some t) (Some bs) rest = (ap suc rest.0, rest.1)
    by (Some t) None rest = tt
    by None (Some bs) rest = tt
    by None None rest = tt

pub drop_all : (bs : List Binding) → drop (length bs) bs ≡ []
drop_all [] = refl
drop_all (b ∷ bs) = drop_all bs
