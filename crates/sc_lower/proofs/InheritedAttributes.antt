-- The attributes of a class, from those that it and its ancestors declare themselves.
use Rattle.std.proofs.Common.{◌≡◌, ◌+◌, ◌<◌, ◌≤◌, Bool, ℕ, zero, suc, List, [], ◌∷◌, ◌++◌, Option, Some, None, append-nil, get_or, length, map, refl, ap, sym, take, zero-add, ◌∙◌, arith}
use Rattle.std.specs.Prelude.{if◌then◌else◌, nat_lt, slice_get}
use Rattle.std.proofs.lemmas.Bool.{lt-ltb}
use Rattle.std.specs.declared.alloc.Global.{Global}
use Rattle.std.specs.declared.vec.Vec.{Vec}
use Rattle.std.specs.List.{flat_map, range_with_len}
use Rattle.std.proofs.lemmas.Grind.{flat_map-append}
use Rattle.std.proofs.lemmas.List.{get_or-map, length-map, take_more}
use Rattle.std.proofs.lemmas.List.FromFn.{get_or-map-range_with_len, length-map-range_with_len}
use Rattle.std.proofs.lemmas.Option.{slice_get_past}
use Rattle.std.specs.Option.{option_map_or}
use Rattle.sc_tree.specs.Plain.{Class, System}
use Rattle.sc_class.specs.ClassNames.{Root}
use Rattle.sc_class.specs.Faults.ClassRules.{IsFaultless}
use Rattle.sc_class.specs.Tables.Ancestors.{ancestors, ancestors_within, parent_number}
use Rattle.sc_class.specs.Tables.Features.{declared_features, declared_in, features, features_along}
use Rattle.sc_class.proofs.Acyclic.{ancestors_climb}
use Rattle.sc_class.proofs.Ancestry.{parent_within}
use Rattle.sc_class.proofs.Apart.{features_differ}
use Rattle.sc_model.specs.Environments.{Binding}
use Rattle.sc_model.specs.Objects.{fresh_attributes}
use Rattle.sc_code.proofs.InheritedAttributes.{attributes_inherited}
use Rattle.sc_lower.specs.declared.program.attributes.Attribute.{Attribute}
use Rattle.sc_lower.specs.AttributeBindings.{AreOwnAttributes, binding_of, own_attributes}

-- the ancestors of a class without a parent
alone : (s : System) (k n : ℕ) → k < n → parent_number s k ≡ None → ancestors_within n s k ≡ k ∷ []
alone s k zero l e = absurd (omega (arith, l))
alone s k (suc n) l e = ap (λ (o : Option ℕ). k ∷ option_map_or (ancestors_within n s) o []) e

module _ (s : System) (root : Root) (w : IsFaultless s root) where
  abbrev Collects : ℕ → Type 0
  Collects k = fresh_attributes s (features s k) ≡ flat_map (own_attributes s) (ancestors s k)

  collects_below : (m k : ℕ) → length (ancestors s k) ≤ m → k < length s.classes → ((i : ℕ) → suc (length (ancestors s i)) ≤ m → i < length s.classes → Collects i) →
      (o : Option ℕ) → parent_number s k ≡ o → Collects k
  collects_below m k l within above None e =
      ap (λ ks. fresh_attributes s (features_along s ks)) (alone s k (length s.classes) within e)
      ∙ ap (fresh_attributes s) (append-nil (declared_features s k))
      ∙ sym (append-nil (own_attributes s k))
      ∙ ap (flat_map (own_attributes s)) (sym (alone s k (length s.classes) within e))
  collects_below m k l within above (Some i) e =
      let climb = ancestors_climb s root w k i e in
      let many : length (ancestors s k) ≡ suc (length (ancestors s i)) = ap length climb in
      attributes_inherited s root w k i e (features_differ s root w)
      ∙ ap (λ bs. own_attributes s k ++ bs) (above i (omega (arith, l, many)) (parent_within s k i e).1)
      ∙ ap (flat_map (own_attributes s)) (sym climb)

  collects_within : (m k : ℕ) → length (ancestors s k) ≤ m → k < length s.classes → Collects k
  collects_within zero k l within = collects_below zero k l within (λ i more. absurd (omega (arith, more))) (parent_number s k) refl
  collects_within (suc m) k l within = collects_below (suc m) k l within (λ i more. collects_within m i (omega (arith, more))) (parent_number s k) refl

  -- the attributes of a class are those that its ancestors declare, one after another, its own first
  pub collects : (k : ℕ) → k < length s.classes → Collects k
  collects k within = collects_within (length (ancestors s k)) k (omega arith) within

  -- if these are its ancestors
  pub collected : (k : ℕ) → k < length s.classes → (ks : List ℕ) → ks ≡ (if nat_lt k (length s.classes) then ancestors s k else []) →
      flat_map (own_attributes s) ks ≡ fresh_attributes s (features s k)
  collected k within ks is =
      ap (flat_map (own_attributes s)) (is ∙ ap (λ (b : Bool). if b then ancestors s k else []) (lt-ltb k (length s.classes) within))
      ∙ sym (collects k within)

-- ---- the lists of each class

abbrev bindings_of : Vec Attribute Global → List Binding
bindings_of v = map binding_of v.items

as_many_lists : (s : System) (own : List (Vec Attribute Global)) → AreOwnAttributes s own → length own ≡ length s.classes
as_many_lists s own is =
    sym (length-map own bindings_of) ∙ ap length is ∙ length-map-range_with_len (own_attributes s) 0 (length s.classes)

-- the list at the number of a class is its own,
pub own_list : (s : System) (own : List (Vec Attribute Global)) → AreOwnAttributes s own → (k : ℕ) (v : Vec Attribute Global) → k < length own → v ≡ get_or own k v →
    map binding_of v.items ≡ own_attributes s k
own_list s own is k v within at =
    let many = as_many_lists s own is in
    ap bindings_of at
    ∙ sym (get_or-map bindings_of own k v (bindings_of v) within)
    ∙ ap (λ (bs : List (List Binding)). get_or bs k (bindings_of v)) is
    ∙ get_or-map-range_with_len (own_attributes s) 0 (length s.classes) k k (bindings_of v) (omega (arith, within, many)) (zero-add k)

-- and past all classes there is none.
pub no_list : (s : System) (own : List (Vec Attribute Global)) → AreOwnAttributes s own → (k : ℕ) → length own ≤ k → own_attributes s k ≡ []
no_list s own is k past =
    let many = as_many_lists s own is in
    ap (λ (o : Option Class). fresh_attributes s (option_map_or (λ (c : Class). map (declared_in k) c.features) o [])) (slice_get_past s.classes k (omega (arith, past, many)))

pub one_more : (f : ℕ → List Binding) (ks : List ℕ) (i : ℕ) → i < length ks → flat_map f (take (i + 1) ks) ≡ flat_map f (take i ks) ++ f (get_or ks i 0)
one_more f ks i within =
    ap (flat_map f) (take_more ks i 0 within)
    ∙ flat_map-append f (take i ks) (get_or ks i 0 ∷ [])
    ∙ ap (λ bs. flat_map f (take i ks) ++ bs) (append-nil (f (get_or ks i 0)))

pub ruleset own_lists = (own_list, no_list)
