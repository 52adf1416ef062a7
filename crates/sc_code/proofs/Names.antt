-- Names that are known: where they stand among the slots.
use Rattle.std.proofs.Common.{◌≡◌, ℕ, suc, List, [], ◌∷◌, ◌++◌, Option, Some, None, true, false, length, refl, sym, ap, ◌∙◌}
use Rattle.std.specs.Prelude.{if◌then◌else◌, bytes_eq, slice_get, slice_set}
use Rattle.std.specs.Option.{option_map}
use Rattle.sc_rules.specs.declared.entity_types.entity_type.EntityType.{EntityType}
use Rattle.sc_model.specs.Values.{Value}
use Rattle.sc_model.specs.Environments.{Binding, known_of, binding_named, assigned_to, scope_of}
use Rattle.sc_code.specs.Places.{slot_named}
use Rattle.sc_code.specs.Stands.{values_in}

-- what a name with this slot and type is among the bindings
pub record Bound (x : List ℕ) (bs : List Binding) (k : ℕ) (t : Option EntityType) : Type 0 where
  pub binding : Binding
  pub is_named : binding_named x bs ≡ Some binding
  pub has_type : Some binding.type ≡ t
  pub stands : (tail : List Value) → slice_get (values_in bs ++ tail) k ≡ Some binding.value

abbrev shifted : Option (ℕ × Option EntityType) → Option (ℕ × Option EntityType)
shifted found = option_map (λ (found : ℕ × Option EntityType). (suc found.0, found.1)) found

abbrev number : Option (ℕ × Option EntityType) → ℕ
number None = 0
number (Some found) = found.0

abbrev type : Option (ℕ × Option EntityType) → Option EntityType
type None = None
type (Some found) = found.1

pub known_slot : (x : List ℕ) (bs : List Binding) (k : ℕ) (t : Option EntityType) → slot_named x (scope_of bs) ≡ Some (k, t) → Bound x bs k t
known_slot x [] k t e = absurd (cc)
known_slot x (b ∷ bs) k t e =
    elim (bytes_eq b.name x) as (λ c. bytes_eq b.name x ≡ c → (if c then Some (0, Some b.type) else shifted (slot_named x (scope_of bs))) ≡ Some (k, t) → Bound x (b ∷ bs) k t) [
      | true ↦ λ is h.
          let first : k ≡ 0 = sym (ap number h) in
          record {
            binding = b;
            is_named = ap (λ c. if c then Some b else binding_named x bs) is;
            has_type = ap type h;
            stands = λ tail. ap (slice_get (b.value ∷ (values_in bs ++ tail))) first;
          }
      | false ↦ λ is h.
          elim (slot_named x (scope_of bs)) as (λ found. slot_named x (scope_of bs) ≡ found → shifted found ≡ Some (k, t) → Bound x (b ∷ bs) k t) [
            | None ↦ λ here i. absurd (cc)
            | Some found ↦ λ here i.
                let later : k ≡ suc found.0 = sym (ap number i) in
                let rest = known_slot x bs found.0 found.1 here in
                record {
                  binding = rest.binding;
                  is_named = ap (λ c. if c then Some b else binding_named x bs) is ∙ rest.is_named;
                  has_type = rest.has_type ∙ ap type i;
                  stands = λ tail. ap (slice_get (b.value ∷ (values_in bs ++ tail))) later ∙ rest.stands tail;
                }
          ] refl h
    ] refl e

pub unknown_slot : (x : List ℕ) (bs : List Binding) → slot_named x (scope_of bs) ≡ None → binding_named x bs ≡ None
unknown_slot x [] e = refl
unknown_slot x (b ∷ bs) e =
    elim (bytes_eq b.name x) as (λ c. bytes_eq b.name x ≡ c → (if c then Some (0, Some b.type) else shifted (slot_named x (scope_of bs))) ≡ None → binding_named x (b ∷ bs) ≡ None) [
      | true ↦ λ is h. absurd (cc)
      | false ↦ λ is h.
          elim (slot_named x (scope_of bs)) as (λ found. slot_named x (scope_of bs) ≡ found → shifted found ≡ None → binding_named x (b ∷ bs) ≡ None) [
            | None ↦ λ here i. ap (λ c. if c then Some b else binding_named x bs) is ∙ unknown_slot x bs here
            | Some found ↦ λ here i. absurd (cc)
          ] refl h
    ] refl e

-- the bindings, of which the first of the name has the value
pub record Assigns (x : List ℕ) (v : Value) (bs : List Binding) (k : ℕ) : Type 0 where
  pub slots : (tail : List Value) → values_in (assigned_to x v bs) ++ tail ≡ slice_set (values_in bs ++ tail) k v
  pub names : scope_of (assigned_to x v bs) ≡ scope_of bs
  pub count : length (assigned_to x v bs) ≡ length bs

pub assigned_slot : (x : List ℕ) (v : Value) (bs : List Binding) (k : ℕ) (t : Option EntityType) → slot_named x (scope_of bs) ≡ Some (k, t) → Assigns x v bs k
assigned_slot x v [] k t e = absurd (cc)
assigned_slot x v (b ∷ bs) k t e =
    elim (bytes_eq b.name x) as (λ c. bytes_eq b.name x ≡ c → (if c then Some (0, Some b.type) else shifted (slot_named x (scope_of bs))) ≡ Some (k, t) → Assigns x v (b ∷ bs) k) [
      | true ↦ λ is h.
          let first : k ≡ 0 = sym (ap number h) in
          let new : assigned_to x v (b ∷ bs) ≡ record b { value = v } ∷ bs = ap (λ c. if c then record b { value = v } ∷ bs else b ∷ assigned_to x v bs) is in
          record {
            slots = λ tail. ap (λ (l : List Binding). values_in l ++ tail) new ∙ ap (λ n. slice_set (b.value ∷ (values_in bs ++ tail)) n v) (sym first);
            names = ap scope_of new;
            count = ap (λ (l : List Binding). length l) new;
          }
      | false ↦ λ is h.
          elim (slot_named x (scope_of bs)) as (λ found. slot_named x (scope_of bs) ≡ found → shifted found ≡ Some (k, t) → Assigns x v (b ∷ bs) k) [
            | None ↦ λ here i. absurd (cc)
            | Some found ↦ λ here i.
                let later : k ≡ suc found.0 = sym (ap number i) in
                let rest = assigned_slot x v bs found.0 found.1 here in
                let new : assigned_to x v (b ∷ bs) ≡ b ∷ assigned_to x v bs = ap (λ c. if c then record b { value = v } ∷ bs else b ∷ assigned_to x v bs) is in
                record {
                  slots = λ tail. ap (λ (l : List Binding). values_in l ++ tail) new ∙ ap (λ l. b.value ∷ l) (rest.slots tail) ∙ ap (λ n. slice_set (b.value ∷ (values_in bs ++ tail)) n v) (sym later);
                  names = ap scope_of new ∙ ap (λ l. known_of b ∷ l) rest.names;
                  count = ap (λ (l : List Binding). length l) new ∙ ap (λ n. suc n) rest.count;
                }
          ] refl h
    ] refl e
