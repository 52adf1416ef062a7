-- Whether the limits on classes and features are passed.
use Rattle.std.proofs.Common.{◌≡◌, ◌<◌, ◌≤◌, ℕ, Bool, true, false, List, length, map, ap, sym, ◌∙◌, arith, ◌↔◌, IsTrue}
use Rattle.std.specs.Prelude.{Any, Result, Ok, Err, IfOk, nat_lt}
use Rattle.std.proofs.lemmas.Bool.{iff_false}
use Rattle.std.specs.declared.alloc.AllocError.{AllocError}
use Rattle.std.proofs.lemmas.List.{length-map}
use Rattle.sc_tree.specs.declared.system.Class as tree_class
use Rattle.sc_tree.specs.Plain.{System}
use Rattle.sc_tree.specs.View.{class_of}
use Rattle.sc_class.specs.declared.class_tables.feature_entry.FeatureEntry.{FeatureEntry}
use Rattle.sc_class.specs.View.{entry_of}
use Rattle.sc_class.specs.Tables.Features.{features}
use Rattle.sc_class.specs.Faults.Limits.{is_large, has_many_features, TellsLargeClass, PassesLimit, many_classes, many_features, large_routine}
use Rattle.sc_class.proofs.Decisions.{holds, holds_not}

pub counted : (s : System) (k : ℕ) (items : List FeatureEntry) → map entry_of items ≡ features s k → nat_lt 256 (length items) ≡ has_many_features s k
counted s k items e = ap (nat_lt 256) (sym (length-map items entry_of) ∙ ap length e)

abbrev pub LargeRoutine : System → Type 0
LargeRoutine s = Any (λ c. Any (λ f. is_large f.kind ≡ true) c.features) s.classes

module _ (s : System) (n : ℕ) (all : n ≡ length s.classes) (few : n ≤ 256) (b : Bool) (tells : IsTrue b ↔ LargeRoutine s) (small : b ≡ false) where
  none_large : LargeRoutine s → ⊥
  none_large = iff_false tells small

  pub size_told : (large : Bool) → TellsLargeClass s n large → IsTrue large ↔ PassesLimit s
  size_told true (k, l, e) = holds (many_features {k = k} (omega (arith, l, all)) (more e))
    where
      more : nat_lt 256 (length (features s k)) ≡ true → 256 < length (features s k)
      more e = grind arith
  size_told false none = holds_not refused
    where
      few_features : (k : ℕ) → nat_lt 256 (length (features s k)) ≡ false → 256 < length (features s k) → ⊥
      few_features k e l = absurd (grind arith)

      refused : PassesLimit s → ⊥
      refused (many_classes l) = absurd (omega (arith, l, all, few))
      refused (many_features {k} l m) = few_features k (none k (omega (arith, l, all))) m
      refused (large_routine y) = none_large y

  pub size_answered : (r : Result Bool AllocError) → IfOk r (λ large. TellsLargeClass s n large) → IfOk r (λ large. IsTrue large ↔ PassesLimit s)
  size_answered (Ok large) t = size_told large t
  size_answered (Err e) t = tt

pub classes_counted : (s : System) (cs : List tree_class.Class) → map class_of cs ≡ s.classes → length cs ≡ length s.classes
classes_counted s cs e = sym (length-map cs class_of) ∙ ap length e
