-- The slots of the names of separate blocks, one name after the other.
use Rattle.std.proofs.Common.{◌≡◌, ℕ, zero, suc, ◌+◌, ◌<◌, List, [], ◌∷◌, Option, Some, None, true, false, length, drop, get_or, map, refl, ap, ◌∙◌, arith}
use Rattle.std.specs.Prelude.{slice_get, if◌then◌else◌}
use Rattle.std.specs.Option.{option_map}
use Rattle.std.proofs.lemmas.List.{drop_more}
use Rattle.sc_rules.specs.Names.{Entities, Entity, is_block}
use Rattle.sc_typing.specs.declared.declarations.names.Entity as coded
use Rattle.sc_typing.specs.Views.{entity_of}
use Rattle.sc_code.specs.Emitted.{block_slots}

later_got : (l : List ℕ) (j : ℕ) → slice_get (map (λ k. suc k) l) j ≡ option_map (λ k. suc k) (slice_get l j)
later_got [] j = refl
later_got (k ∷ l) zero = refl
later_got (k ∷ l) (suc j) = later_got l j

shifted : (slot : ℕ) (o : Option ℕ) → option_map (λ k. slot + k) (option_map (λ k. suc k) o) ≡ option_map (λ k. slot + 1 + k) o
shifted slot None = refl
shifted slot (Some k) = let e : slot + suc k ≡ slot + 1 + k = omega arith in ap (λ (k : ℕ). Some k) e

block_passed : (e : Entity) (n : Entities) (slot left : ℕ) → is_block e.role ≡ true →
    option_map (λ k. slot + k) (slice_get (block_slots (e ∷ n)) (suc left)) ≡ option_map (λ k. slot + 1 + k) (slice_get (block_slots n) left)
block_passed e n slot left b =
    ap (λ t. option_map (λ k. slot + k) (slice_get (if t then 0 ∷ map (λ k. suc k) (block_slots n) else map (λ k. suc k) (block_slots n)) (suc left))) b
    ∙ ap (option_map (λ k. slot + k)) (later_got (block_slots n) left) ∙ shifted slot (slice_get (block_slots n) left)

other_passed : (e : Entity) (n : Entities) (slot left : ℕ) → is_block e.role ≡ false →
    option_map (λ k. slot + k) (slice_get (block_slots (e ∷ n)) left) ≡ option_map (λ k. slot + 1 + k) (slice_get (block_slots n) left)
other_passed e n slot left b =
    ap (λ t. option_map (λ k. slot + k) (slice_get (if t then 0 ∷ map (λ k. suc k) (block_slots n) else map (λ k. suc k) (block_slots n)) left)) b
    ∙ ap (option_map (λ k. slot + k)) (later_got (block_slots n) left) ∙ shifted slot (slice_get (block_slots n) left)

pub passed_block : (names : List coded.Entity) (slot left : ℕ) (d : coded.Entity) → slot < length names → is_block (get_or names slot d).role ≡ true →
    option_map (λ k. slot + k) (slice_get (block_slots (map entity_of (drop slot names))) (suc left))
    ≡ option_map (λ k. slot + 1 + k) (slice_get (block_slots (map entity_of (drop (slot + 1) names))) left)
passed_block names slot left d l b =
    ap (λ (n : List coded.Entity). option_map (λ k. slot + k) (slice_get (block_slots (map entity_of n)) (suc left))) (drop_more names slot d l)
    ∙ block_passed (entity_of (get_or names slot d)) (map entity_of (drop (slot + 1) names)) slot left b

pub passed_other : (names : List coded.Entity) (slot left : ℕ) (d : coded.Entity) → slot < length names → is_block (get_or names slot d).role ≡ false →
    option_map (λ k. slot + k) (slice_get (block_slots (map entity_of (drop slot names))) left)
    ≡ option_map (λ k. slot + 1 + k) (slice_get (block_slots (map entity_of (drop (slot + 1) names))) left)
passed_other names slot left d l b =
    ap (λ (n : List coded.Entity). option_map (λ k. slot + k) (slice_get (block_slots (map entity_of n)) left)) (drop_more names slot d l)
    ∙ other_passed (entity_of (get_or names slot d)) (map entity_of (drop (slot + 1) names)) slot left b
