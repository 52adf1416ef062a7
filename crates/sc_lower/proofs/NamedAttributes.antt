-- The attribute of a name, by where it stands.
use Rattle.std.proofs.Common.{◌≡◌, ℕ, zero, suc, ◌+◌, ◌<◌, length, List, [], ◌∷◌, Some, None, Bool, true, false, map, get_or, refl, sym, ap, ◌∙◌, subst, arith}
use Rattle.std.specs.Prelude.{cond, position, if◌then◌else◌}
use Rattle.std.specs.List.{position_from}
use Rattle.std.proofs.lemmas.Iterator.Adapters.{position_from-zero}
use Rattle.std.specs.Option.{option_map}
use Rattle.sc_model.specs.Values.{default_of}
use Rattle.sc_model.specs.Invariants.{attribute_named}
use Rattle.sc_lower.specs.declared.program.attributes.Attribute.{Attribute}
use Rattle.sc_lower.specs.AttributeBindings.{binding_of, is_named}

-- the element at this place is the first that passes
IsFirstAt : {X : Type 0} → (X → Bool) → List X → ℕ → Type 0
IsFirstAt p [] i = ⊥
IsFirstAt p (x ∷ xs) zero = p x ≡ true
IsFirstAt p (x ∷ xs) (suc i) = (p x ≡ false) × IsFirstAt p xs i

NonePass : {X : Type 0} → (X → Bool) → List X → Type 0
NonePass p [] = Unit {0}
NonePass p (x ∷ xs) = (p x ≡ false) × NonePass p xs

none_some : {A B : Type 0} (x : A) → None ≡ Some x → B
none_some x e = cc

from_some : {X : Type 0} (p : X → Bool) (xs : List X) (k i : ℕ) → position_from p k xs ≡ Some i → (j : ℕ) × (i ≡ j + k) × IsFirstAt p xs j
unfolding IsFirstAt
from_some p [] k i e = none_some i e
from_some p (x ∷ xs) k i e =
    elim (p x) as (λ b. p x ≡ b → cond b (Some k) (position_from p (k + 1) xs) ≡ Some i → (j : ℕ) × (i ≡ j + k) × IsFirstAt p (x ∷ xs) j) [
      | true ↦ λ t g. let same : k ≡ i = cc in (zero, omega arith, t)
      | false ↦ λ t g. let more = from_some p xs (k + 1) i g in let there : i ≡ suc more.0 + k = omega arith in (suc more.0, there, (t, more.2))
    ] refl e

from_none : {X : Type 0} (p : X → Bool) (xs : List X) (k : ℕ) → position_from p k xs ≡ None → NonePass p xs
unfolding NonePass
from_none p [] k e = tt
from_none p (x ∷ xs) k e =
    elim (p x) as (λ b. p x ≡ b → cond b (Some k) (position_from p (k + 1) xs) ≡ None → NonePass p (x ∷ xs)) [
      | true ↦ λ t g. none_some k (sym g)
      | false ↦ λ t g. (t, from_none p xs (k + 1) g)
    ] refl e

first_at : {X : Type 0} (p : X → Bool) (xs : List X) (i : ℕ) → position p xs ≡ Some i → IsFirstAt p xs i
first_at p xs i e =
    let found = from_some p xs 0 i (sym (position_from-zero p xs) ∙ e) in
    let same : found.0 ≡ i = omega arith in
    subst (IsFirstAt p xs) same found.2

none_pass : {X : Type 0} (p : X → Bool) (xs : List X) → position p xs ≡ None → NonePass p xs
none_pass p xs e = from_none p xs 0 (sym (position_from-zero p xs) ∙ e)

attribute_at : (name : List ℕ) (xs : List Attribute) (i : ℕ) (d : Attribute) → IsFirstAt (is_named name) xs i → attribute_named name (map binding_of xs) ≡ Some (i, default_of (get_or xs i d).entity_type.class)
unfolding IsFirstAt
attribute_at name [] i d h = absurd h
attribute_at name (x ∷ xs) zero d h = ap (λ b. if b then Some (zero, default_of x.entity_type.class) else option_map (λ found. (suc found.0, found.1)) (attribute_named name (map binding_of xs))) h
attribute_at name (x ∷ xs) (suc i) d h =
    ap (λ b. if b then Some (zero, default_of x.entity_type.class) else option_map (λ found. (suc found.0, found.1)) (attribute_named name (map binding_of xs))) h.0
    ∙ ap (option_map (λ found. (suc found.0, found.1))) (attribute_at name xs i d h.1)

attribute_none : (name : List ℕ) (xs : List Attribute) → NonePass (is_named name) xs → attribute_named name (map binding_of xs) ≡ None
unfolding NonePass
attribute_none name [] h = refl
attribute_none name (x ∷ xs) h =
    ap (λ b. if b then Some (zero, default_of x.entity_type.class) else option_map (λ found. (suc found.0, found.1)) (attribute_named name (map binding_of xs))) h.0
    ∙ ap (option_map (λ found. (suc found.0, found.1))) (attribute_none name xs h.1)

pub attribute_found : (name : List ℕ) (xs : List Attribute) (i : ℕ) (d : Attribute) → position (is_named name) xs ≡ Some i → attribute_named name (map binding_of xs) ≡ Some (i, default_of (get_or xs i d).entity_type.class)
attribute_found name xs i d e = attribute_at name xs i d (first_at (is_named name) xs i e)

pub attribute_missing : (name : List ℕ) (xs : List Attribute) → position (is_named name) xs ≡ None → attribute_named name (map binding_of xs) ≡ None
attribute_missing name xs e = attribute_none name xs (none_pass (is_named name) xs e)

below : {X : Type 0} (p : X → Bool) (xs : List X) (i : ℕ) → IsFirstAt p xs i → i < length xs
unfolding IsFirstAt
below p [] i h = absurd h
below p (x ∷ xs) zero h = omega arith
below p (x ∷ xs) (suc i) h = let l = below p xs i h.1 in omega arith

pub place_below : {X : Type 0} (p : X → Bool) (xs : List X) (i : ℕ) → position p xs ≡ Some i → i < length xs
place_below p xs i e = below p xs i (first_at p xs i e)

-- the same of the attribute that is read there
pub attribute_read : (name : List ℕ) (xs : List Attribute) (i : ℕ) (a : Attribute) → position (is_named name) xs ≡ Some i → a ≡ get_or xs i a → attribute_named name (map binding_of xs) ≡ Some (i, default_of a.entity_type.class)
attribute_read name xs i a e at = attribute_found name xs i a e ∙ ap (λ (b : Attribute). Some (i, default_of b.entity_type.class)) (sym at)

pub ruleset finding = (attribute_read, attribute_found, attribute_missing, place_below)
