-- The formals of a routine stay the first of the names that are known: with more names, and with fewer.
use Rattle.std.proofs.Common.{arith, ◌≡◌, ◌≤◌, ◌+◌, ◌∙◌, ℕ, zero, suc, List, [], ◌∷◌, ◌++◌, Option, Some, None, Bool, true, false, take, refl, subst, sym, ap}
use Rattle.std.specs.Prelude.{Contains, length}
use Rattle.std.specs.List.{cons_option}
use Rattle.std.specs.Option.{option_map}
use Rattle.sc_tree.specs.Plain.{System, Declaration, Name}
use Rattle.sc_rules.specs.declared.entity_types.entity_type.EntityType.{EntityType}
use Rattle.sc_rules.specs.declared.position.Role.{Role}
use Rattle.sc_rules.specs.declared.position.Role.TheVariants as role
use Rattle.sc_rules.specs.Types.{declared_type}
use Rattle.sc_rules.specs.Names.{Entities, Entity, entity, block_type, blocks, formal_entities, formals_known, is_local, locals_known, reserved}
use Rattle.sc_model.specs.Values.{Value, Operand, default_of}
use Rattle.sc_model.specs.Environments.{Binding, bind, block_bound, formals_bound, is_formal, known_of, locals_bound, name_bound, scope_of, with_binding}
use Rattle.sc_model.specs.Routines.{Routine}
use Rattle.sc_machine_laws.specs.states.Points.{Each}
use Rattle.sc_machine_laws.proofs.states.Lists.{each_append}
use Rattle.sc_refines_world.specs.Texts.{IsBehindFormals}

-- ---- names

abbrev All : System → Routine → Entities → Type 0
All s r n = Each (IsBehindFormals s r) n

-- the formals of the routine, and others after them
pub record Knows (s : System) (r : Routine) (bs : List Binding) : Type 0 where
  pub others : Entities
  pub names_are : scope_of bs ≡ formals_known s r.text.formals ++ others
  pub others_are : All s r others

-- what is neither a formal nor a local
pub neither : (s : System) (r : Routine) (x : List ℕ) (t : Option EntityType) (as' : Role) → is_formal as' ≡ false → is_local as' ≡ false → IsBehindFormals s r (entity x t as')
neither s r x t as' e i = record { is_no_formal = e; local_is_declared = λ l. absurd (no_both i l) }
  where
    no_both : {b : Bool} → b ≡ false → b ≡ true → ⊥
    no_both e i = cc

append_more : {A : Type 0} (xs ys zs : List A) → (xs ++ ys) ++ zs ≡ xs ++ (ys ++ zs)
append_more [] ys zs = refl
append_more (x ∷ xs) ys zs = ap (λ l. x ∷ l) (append_more xs ys zs)

scope_more : (bs cs : List Binding) → scope_of (bs ++ cs) ≡ scope_of bs ++ scope_of cs
scope_more [] cs = refl
scope_more (b ∷ bs) cs = ap (λ n. known_of b ∷ n) (scope_more bs cs)

pub known_more : (s : System) (r : Routine) (bs cs : List Binding) → Knows s r bs → All s r (scope_of cs) → Knows s r (bs ++ cs)
known_more s r bs cs k more = record {
  others = k.others ++ scope_of cs;
  names_are = scope_more bs cs ∙ ap (λ n. n ++ scope_of cs) k.names_are ∙ append_more (formals_known s r.text.formals) k.others (scope_of cs);
  others_are = each_append (IsBehindFormals s r) k.others (scope_of cs) k.others_are more;
}

-- ---- fewer names

each_take : {A : Type 0} (P : A → Type 0) (d : ℕ) (xs : List A) → Each P xs → Each P (take d xs)
each_take P zero xs all = tt
each_take P (suc d) [] all = tt
each_take P (suc d) (x ∷ xs) all = (all.0, each_take P d xs all.1)

record Taken (A : Type 0) (P : A → Type 0) (d : ℕ) (xs ys : List A) : Type 0 where
  rest : List A
  is : take d (xs ++ ys) ≡ xs ++ rest
  all : Each P rest

taken : {A : Type 0} (P : A → Type 0) (d : ℕ) (xs ys : List A) → length xs ≤ d → Each P ys → Taken A P d xs ys
taken P d [] ys l all = record { rest = take d ys; is = refl; all = each_take P d ys all }
taken P zero (x ∷ xs) ys l all = absurd (omega (arith, l))
taken P (suc d) (x ∷ xs) ys l all = let t = taken P d xs ys (omega (arith, l)) all in record { rest = t.rest; is = ap (λ n. x ∷ n) t.is; all = t.all }

scope_take : (d : ℕ) (bs : List Binding) → scope_of (take d bs) ≡ take d (scope_of bs)
scope_take zero bs = refl
scope_take (suc d) [] = refl
scope_take (suc d) (b ∷ bs) = ap (λ n. known_of b ∷ n) (scope_take d bs)

formals_many : (s : System) (all : List Declaration) (i : ℕ) (ds : List Declaration) → length (formal_entities s all i ds) ≡ length ds
formals_many s all i [] = refl
formals_many s all i (d ∷ ds) = ap suc (formals_many s all (i + 1) ds)

pub known_less : (s : System) (r : Routine) (d : ℕ) (bs : List Binding) → length r.text.formals ≤ d → Knows s r bs → Knows s r (take d bs)
known_less s r d bs l k =
    let many = formals_many s r.text.formals 0 r.text.formals in
    let t = taken (IsBehindFormals s r) d (formals_known s r.text.formals) k.others (omega (arith, l, many)) k.others_are in
    record { others = t.rest; names_are = scope_take d bs ∙ ap (take d) k.names_are ∙ t.is; others_are = t.all }

length_more : {A : Type 0} (xs ys : List A) → length xs ≤ length (xs ++ ys)
length_more [] ys = omega arith
length_more (x ∷ xs) ys = let l = length_more xs ys in omega (arith, l)

scope_many : (bs : List Binding) → length (scope_of bs) ≡ length bs
scope_many [] = refl
scope_many (b ∷ bs) = ap suc (scope_many bs)

-- there are as many names as formals, or more
pub known_many : (s : System) (r : Routine) (bs : List Binding) → Knows s r bs → length r.text.formals ≤ length bs
known_many s r bs k =
    let all = scope_many bs in
    let these = ap length k.names_are in
    let formals = formals_many s r.text.formals 0 r.text.formals in
    let more = length_more (formals_known s r.text.formals) k.others in
    omega (arith, all, these, formals, more)

-- ---- more names

pub locals_others : (s : System) (r : Routine) (ds : List Declaration) →
    ((e : Entity) → Contains (locals_known s r.text.formals ds) e → Contains (locals_known s r.text.formals r.locals) e) → All s r (scope_of (locals_bound s r.text.formals ds))
locals_others s r [] within = tt
locals_others s r (d ∷ ds) within = by (declared_type s r.text.formals d.declared_type) refl (locals_others s r ds (λ e i. within e (later e i)))
  where
    first : Entity
    first = entity d.name.text (declared_type s r.text.formals d.declared_type) role.Local

    later : (e : Entity) → Contains (locals_known s r.text.formals ds) e → Contains (first ∷ locals_known s r.text.formals ds) e
    later e (i, l, is) = (suc i, omega (arith, l), is)

    by : (o : Option EntityType) → declared_type s r.text.formals d.declared_type ≡ o → All s r (scope_of (locals_bound s r.text.formals ds)) →
        All s r (scope_of (cons_option (option_map (λ (t : EntityType). bind d.name.text t role.Local (default_of t.class)) o) (locals_bound s r.text.formals ds)))
    by None is rest = rest
    by (Some t) is rest = (
      record {
        is_no_formal = refl;
        local_is_declared = λ l. subst (λ o. Contains (locals_known s r.text.formals r.locals) (entity d.name.text o role.Local)) is (within first (zero, omega arith, refl));
      },
      rest,
    )

pub block_known : (s : System) (r : Routine) (xs : List Name) (us : List Operand) (bs : List Binding) → Knows s r bs → Knows s r (block_bound xs us bs)
block_known s r [] us bs k = k
block_known s r (x ∷ xs) [] bs k = k
block_known s r (x ∷ xs) (u ∷ us) bs k =
    block_known s r xs us (bs ++ name_bound x (block_type (blocks (scope_of bs)) (Some u.type)) u.value)
    (known_more s r bs (name_bound x (block_type (blocks (scope_of bs)) (Some u.type)) u.value) k (by (block_type (blocks (scope_of bs)) (Some u.type))))
  where
    by : (o : Option EntityType) → All s r (scope_of (name_bound x o u.value))
    by None = tt
    by (Some t) = (neither s r x.text (Some t) role.Block refl refl, tt)

-- an entry knows its formals
formals_there : (s : System) (all : List Declaration) (i : ℕ) (ds : List Declaration) (vs : List Value) (bs : List Binding) → formals_bound s all i ds vs ≡ Some bs →
    scope_of bs ≡ formal_entities s all i ds
formals_there s all i [] [] bs e = let is : [] ≡ bs = cc in ap scope_of (sym is)
formals_there s all i [] (v ∷ vs) bs e = cc
formals_there s all i (d ∷ ds) [] bs e = cc
formals_there s all i (d ∷ ds) (v ∷ vs) bs e =
    by (declared_type s all d.declared_type) (formals_bound s all (i + 1) ds vs) refl (λ cs. formals_there s all (i + 1) ds vs cs) e
  where
    by : (o : Option EntityType) (b : Option (List Binding)) → declared_type s all d.declared_type ≡ o → ((cs : List Binding) → b ≡ Some cs → scope_of cs ≡ formal_entities s all (i + 1) ds) →
        with_binding o d.name.text i v b ≡ Some bs → scope_of bs ≡ formal_entities s all i (d ∷ ds)
    by (Some t) (Some cs) is rest e =
        let these : bind d.name.text (reserved i t) role.Formal v ∷ cs ≡ bs = cc in
        ap scope_of (sym these) ∙ ap (λ n. entity d.name.text (Some (reserved i t)) role.Formal ∷ n) (rest cs refl)
        ∙ ap (λ o. entity d.name.text (option_map (reserved i) o) role.Formal ∷ formal_entities s all (i + 1) ds) (sym is)
    by (Some t) None is rest e = cc
    by None (Some cs) is rest e = cc
    by None None is rest e = cc

nil_more : {A : Type 0} (xs : List A) → xs ≡ xs ++ []
nil_more [] = refl
nil_more (x ∷ xs) = ap (λ l. x ∷ l) (nil_more xs)

pub entry_knows : (s : System) (r : Routine) (vs : List Value) (bs : List Binding) → formals_bound s r.text.formals 0 r.text.formals vs ≡ Some bs → Knows s r bs
entry_knows s r vs bs e =
    record { others = []; names_are = formals_there s r.text.formals 0 r.text.formals vs bs e ∙ nil_more (formals_known s r.text.formals); others_are = tt }
