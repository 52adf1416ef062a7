-- The last values are taken from those under them.
use Rattle.std.specs.Prelude.{length}
use Rattle.std.proofs.Common.{◌++◌, List, Option, Some, [], ap, append-nil, refl, subst, suc, zero, ℕ, ◌∙◌, ◌∷◌, ◌≡◌, ◌≡◌}
use Rattle.sc_rules.specs.declared.entity_types.entity_type.EntityType.{EntityType}
use Rattle.sc_model.specs.Steps.{popped}
use Rattle.sc_model.specs.Values.{Operand}
use Rattle.sc_machine_laws.specs.states.Points.{Each, types_of}
use Rattle.sc_machine_laws.specs.states.Typed.{stacked}
use Rattle.sc_machine_laws.proofs.states.Applications.{first_of_types}

put_on : List Operand → List Operand → List Operand
put_on [] vs = vs
put_on (u ∷ us) vs = put_on us (u ∷ vs)

same_pair : {A B : Type 0} (a c : A) (b d : B) → ◌≡◌ {A = Option (A × B)} (Some (a, b)) (Some (c, d)) → (a ≡ c) × (b ≡ d)
same_pair {A} {B} a c b d e = let q : ◌≡◌ {A = A × B} (a, b) (c, d) = cc in (ap (λ p. p.0) q, ap (λ p. p.1) q)

popped_more : (n : ℕ) (acc vs ws : List Operand) (u : Operand) (rest : List Operand) → popped n acc vs ≡ Some (ws, u ∷ rest) → popped (suc n) acc vs ≡ Some (u ∷ ws, rest)
popped_more zero acc [] ws u rest e = let q : [] ≡ u ∷ rest = (same_pair acc ws [] (u ∷ rest) e).1 in cc
popped_more zero acc (v ∷ vs) ws u rest e =
    let p = same_pair acc ws (v ∷ vs) (u ∷ rest) e in
    let q : acc ≡ ws = p.0 in let z : v ∷ vs ≡ u ∷ rest = p.1 in let r : v ≡ u = cc in let t : vs ≡ rest = cc in
    ap (λ (v : Operand). Some (v ∷ acc, vs)) r ∙ ap (λ (ws : List Operand). Some (u ∷ ws, vs)) q ∙ ap (λ (vs : List Operand). Some (u ∷ ws, vs)) t
popped_more (suc n) acc [] ws u rest e = cc
popped_more (suc n) acc (v ∷ vs) ws u rest e = popped_more n (v ∷ acc) vs ws u rest e

popped_on : (us acc rest : List Operand) → popped (length us) acc (put_on us rest) ≡ Some (us ++ acc, rest)
unfolding put_on
popped_on [] acc rest = refl
popped_on (u ∷ us) acc rest = popped_more (length us) acc (put_on us (u ∷ rest)) (us ++ acc) u rest (popped_on us acc (u ∷ rest))

each_on : (P : Operand → Type 0) (us rest : List Operand) → Each P (put_on us rest) → Each P us × Each P rest
unfolding put_on
each_on P [] rest e = (tt, e)
each_on P (u ∷ us) rest e = let f = each_on P us (u ∷ rest) e in ((f.1.0, f.0), f.1.1)

-- values of these types: the actuals in the order of the text, and what lies under them
record Stack (as' ts : List EntityType) (vs : List Operand) : Type 0 where
  pub actuals : List Operand
  pub below : List Operand
  pub are : vs ≡ put_on actuals below
  pub actual_types : types_of actuals ≡ as'
  pub below_types : types_of below ≡ ts

stack_of : (as' ts : List EntityType) (vs : List Operand) → types_of vs ≡ stacked as' ts → Stack as' ts vs
unfolding put_on
stack_of [] ts vs e = record { actuals = []; below = vs; are = refl; actual_types = refl; below_types = e }
stack_of (a ∷ as') ts vs e = of_rest (stack_of as' (a ∷ ts) vs e)
  where
    of_first : (s : Stack as' (a ∷ ts) vs) → (u : Operand) × (us : List Operand) × (s.below ≡ u ∷ us) × (u.type ≡ a) × (types_of us ≡ ts) → Stack (a ∷ as') ts vs
    of_first s (u, us, b, t, r) = record {
      actuals = u ∷ s.actuals;
      below = us;
      are = s.are ∙ ap (put_on s.actuals) b;
      actual_types = ap (λ a. a ∷ types_of s.actuals) t ∙ ap (λ as'. a ∷ as') s.actual_types;
      below_types = r;
    }

    of_rest : Stack as' (a ∷ ts) vs → Stack (a ∷ as') ts vs
    of_rest s = of_first s (first_of_types a ts s.below s.below_types)

pub record Popped (P : Operand → Type 0) (as' ts : List EntityType) (n : ℕ) (vs : List Operand) : Type 0 where
  pub actuals : List Operand
  pub below : List Operand
  pub popped_is : popped n [] vs ≡ Some (actuals, below)
  pub actual_types : types_of actuals ≡ as'
  pub below_types : types_of below ≡ ts
  pub each : Each P vs → Each P actuals × Each P below

pub types_length : (us : List Operand) (as' : List EntityType) → types_of us ≡ as' → length as' ≡ length us
types_length [] [] e = refl
types_length [] (a ∷ as') e = cc
types_length (u ∷ us) [] e = cc
types_length (u ∷ us) (a ∷ as') e = let q : types_of us ≡ as' = cc in ap suc (types_length us as' q)

pub popped_by : (P : Operand → Type 0) (as' ts : List EntityType) (n : ℕ) (vs : List Operand) → n ≡ length as' → types_of vs ≡ stacked as' ts → Popped P as' ts n vs
popped_by P as' ts n vs e f = of_stack (stack_of as' ts vs f)
  where
    of_stack : Stack as' ts vs → Popped P as' ts n vs
    of_stack s = record {
      actuals = s.actuals;
      below = s.below;
      popped_is = ap (λ n. popped n [] vs) (e ∙ types_length s.actuals as' s.actual_types) ∙ ap (popped (length s.actuals) []) s.are ∙ popped_on s.actuals [] s.below
          ∙ ap (λ (us : List Operand). Some (us, s.below)) (append-nil s.actuals);
      actual_types = s.actual_types;
      below_types = s.below_types;
      each = λ e. each_on P s.actuals s.below (subst (Each P) s.are e);
    }

pub no_operands : (us : List Operand) → types_of us ≡ [] → us ≡ []
no_operands [] e = refl
no_operands (u ∷ us) e = cc
