-- The actuals of a routine are its formals, and stay the first names where a local is assigned.
use Rattle.std.proofs.Common.{ℕ, suc, ◌+◌, ◌≡◌, Bool, true, false, List, [], ◌∷◌, ◌++◌, Option, Some, None, refl, ap, subst, ◌∙◌, arith}
use Rattle.std.specs.Prelude.{length, take, bytes_eq, cond}
use Rattle.sc_tree.specs.Plain.{System, Declaration}
use Rattle.sc_rules.specs.declared.entity_types.entity_type.EntityType.{EntityType}
use Rattle.sc_rules.specs.declared.position.Role.{Role}
use Rattle.sc_rules.specs.declared.position.Role.TheVariants as role
use Rattle.sc_rules.specs.Names.{Entity, entity_named, is_local, reserved}
use Rattle.sc_rules.specs.Types.{declared_type}
use Rattle.sc_model.specs.Environments.{Binding, assigned_to, bind, formals_bound, is_formal, known_of, scope_of, with_binding}
use Rattle.sc_model.specs.Routines.{Routine}
use Rattle.sc_model.specs.Values.{Value}
use Rattle.sc_machine_laws.specs.states.Points.{Each}
use Rattle.sc_machine_laws.specs.Following.{AreBound}

-- ---- the actuals are formals

abbrev pub AreFormals : List Binding → Type 0
AreFormals bs = Each (λ (b : Binding). is_formal b.role ≡ true) bs

formals_are : (s : System) (all : List Declaration) (i : ℕ) (ds : List Declaration) (vs : List Value)
    (bs : List Binding) → formals_bound s all i ds vs ≡ Some bs → AreFormals bs
formals_are s all i [] [] bs e = let none : [] ≡ bs = cc in subst AreFormals none tt
formals_are s all i [] (v ∷ vs) bs e = cc
formals_are s all i (d ∷ ds) [] bs e = cc
formals_are s all i (d ∷ ds) (v ∷ vs) bs e =
    by (declared_type s all d.declared_type) (formals_bound s all (i + 1) ds vs)
    (λ cs j. formals_are s all (i + 1) ds vs cs j) e
  where
    by : (o : Option EntityType) (rest : Option (List Binding)) →
        ((cs : List Binding) → rest ≡ Some cs → AreFormals cs) →
        with_binding o d.name.text i v rest ≡ Some bs → AreFormals bs
    by None rest others e = cc
    by (Some t) None others e = cc
    by (Some t) (Some cs) others e =
        let same : bind d.name.text (reserved i t) role.Formal v ∷ cs ≡ bs = cc in
        subst AreFormals same (refl, others cs refl)

pub bound_formals : (s : System) (r : Routine) (bs : List Binding) → AreBound s r bs → AreFormals bs
bound_formals s r bs (vs, e) = formals_are s r.text.formals 0 r.text.formals vs bs e

-- so many, and more, are taken of two lists
pub take_past : {A : Type 0} (xs ys : List A) (m : ℕ) → take (length xs + m) (xs ++ ys) ≡ xs ++ take m ys
take_past [] ys m = ap (λ (n : ℕ). take n ys) (let e : 0 + m ≡ m = omega arith in e)
take_past (x ∷ xs) ys m =
    ap (λ (n : ℕ). take n (x ∷ xs ++ ys)) (let e : suc (length xs) + m ≡ suc (length xs + m) = omega arith in e)
    ∙ ap (λ zs. x ∷ zs) (take_past xs ys m)

pub take_these : {A : Type 0} (xs ys : List A) → take (length xs) (xs ++ ys) ≡ xs
take_these [] ys = refl
take_these (x ∷ xs) ys = ap (λ zs. x ∷ zs) (take_these xs ys)

pub length_past : {A : Type 0} (xs ys : List A) → length (xs ++ ys) ≡ length xs + length ys
length_past [] ys = let e : length ys ≡ 0 + length ys = omega arith in e
length_past (x ∷ xs) ys = ap suc (length_past xs ys)
    ∙ (let e : suc (length xs + length ys) ≡ suc (length xs) + length ys = omega arith in e)

-- a formal is no local
formal_not_local : (r : Role) → is_formal r ≡ true → is_local r ≡ true → ⊥
formal_not_local role.Formal e i = cc
formal_not_local role.Local e i = cc
formal_not_local role.Test e i = cc
formal_not_local role.Block e i = cc

-- Where a local is assigned, the formals before it stay.
pub assigned_behind : (x : List ℕ) (v : Value) (e : Entity) (cs more : List Binding) → AreFormals cs →
    entity_named x (scope_of (cs ++ more)) ≡ Some e → is_local e.role ≡ true →
    (ms : List Binding) × (assigned_to x v (cs ++ more) ≡ cs ++ ms)
assigned_behind x v e [] more f i l = (assigned_to x v more, refl)
assigned_behind x v e (b ∷ cs) more f i l = by (bytes_eq b.name x) refl (λ i. assigned_behind x v e cs more f.1 i l) i
  where
    by : (c : Bool) → bytes_eq b.name x ≡ c →
        (entity_named x (scope_of (cs ++ more)) ≡ Some e → (ms : List Binding)
        × (assigned_to x v (cs ++ more) ≡ cs ++ ms)) →
        cond c (Some (known_of b)) (entity_named x (scope_of (cs ++ more))) ≡ Some e →
        (ms : List Binding) × (cond c (record b { value = v } ∷ cs ++ more) (b ∷ assigned_to x v (cs ++ more))
        ≡ b ∷ cs ++ ms)
    by true j others i =
        let same : known_of b ≡ e = cc in
        absurd (formal_not_local b.role f.0 (ap (λ (e : Entity). is_local e.role) same ∙ l))
    by false j others i = let z = others i in (z.0, ap (λ ms. b ∷ ms) z.1)
