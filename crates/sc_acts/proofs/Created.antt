-- Creations of objects: where there is no room for one more, it doesn't matter what number the reference has.
use Rattle.std.proofs.Common.{◌≡◌, ℕ, ◌+◌, Bool, true, false, length, refl, sym, ap, ◌∙◌, arith}
use Rattle.std.proofs.lemmas.Bool.{ltb-true}
use Rattle.std.specs.Prelude.{if◌then◌else◌, min, nat_lt}
use Rattle.sc_model.specs.declared.cause.Cause.TheVariants as cause
use Rattle.sc_region.specs.declared.value.Reference.{Reference}
use Rattle.sc_region.specs.Stores.{PlainStore, born, failed, max_objects, next_reference}
use Rattle.sc_acts.specs.Creating.{created, created_by, given}
use Rattle.sc_acts.specs.CreatingObjects.{created_by_name, nearest_reference}

abbrev numbered : ℕ → ℕ → ℕ → Reference
numbered h class k = record { handler = h; number = k; class = class }

-- where there is room, a number can name the next object
same_number : (x : PlainStore) → nat_lt (length x.objects) max_objects ≡ true → min (length x.objects) 4294967294 + 1 ≡ length x.objects + 1
same_number x e = let few = ltb-true (length x.objects) max_objects e in omega (arith, few)

-- ---- without a procedure

no_room : (r : Reference) (n : ℕ) (x : PlainStore) → nat_lt (length x.objects) max_objects ≡ false → created r n x ≡ failed cause.TooManyObjects x
no_room r n x e = ap (λ b. given n r (if b then born r.class x else failed cause.TooManyObjects x)) e

created_case : (b : Bool) (h class n : ℕ) (x : PlainStore) → nat_lt (length x.objects) max_objects ≡ b →
    created (nearest_reference h class x) n x ≡ created (next_reference h class x) n x
created_case true h class n x e = ap (λ k. created (numbered h class k) n x) (same_number x e)
created_case false h class n x e = no_room (nearest_reference h class x) n x e ∙ sym (no_room (next_reference h class x) n x e)

pub created_nearest : (h class n : ℕ) (x : PlainStore) → created (nearest_reference h class x) n x ≡ created (next_reference h class x) n x
created_nearest h class n x = created_case (nat_lt (length x.objects) max_objects) h class n x refl

-- ---- by a procedure

by_case : (b : Bool) (h class name n : ℕ) (x : PlainStore) → nat_lt (length x.objects) max_objects ≡ b →
    (if b then created_by (nearest_reference h class x) name n x else failed cause.TooManyObjects x)
    ≡ (if b then created_by (next_reference h class x) name n x else failed cause.TooManyObjects x)
by_case true h class name n x e = ap (λ k. created_by (numbered h class k) name n x) (same_number x e)
by_case false h class name n x e = refl

pub created_by_name_nearest : (h class name n : ℕ) (x : PlainStore) →
    created_by_name (nearest_reference h class x) name n x ≡ created_by_name (next_reference h class x) name n x
created_by_name_nearest h class name n x = by_case (nat_lt (length x.objects) max_objects) h class name n x refl
