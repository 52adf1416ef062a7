-- Objects that have as many attributes as their classes.
use Rattle.std.proofs.Common.{◌≡◌, ◌⊎◌, inl, inr, ℕ, List, [], ◌∷◌, ◌++◌, map, length, refl, sym, ap, ◌∙◌, subst}
use Rattle.sc_code.specs.declared.program.Image.{Image}
use Rattle.sc_region.specs.Classes.{class_at, defaults_of, fresh_object}
use Rattle.sc_region.specs.Objects.{PlainObject}
use Rattle.sc_region.specs.Stores.{PlainStore}
use Rattle.sc_interp.specs.Objects.{shape_of}
use Rattle.sc_refines_world.specs.Functional.{AreExact}

first_same : (a b : ℕ × ℕ) (ls rs : List (ℕ × ℕ)) → a ∷ ls ≡ b ∷ rs → a ≡ b
first_same a b ls rs e = cc

others_same : (a b : ℕ × ℕ) (ls rs : List (ℕ × ℕ)) → a ∷ ls ≡ b ∷ rs → ls ≡ rs
others_same a b ls rs e = cc

-- objects of the same shapes are as exact
pub exact_shapes : (p : Image) (os qs : List PlainObject) → map shape_of qs ≡ map shape_of os → AreExact p os → AreExact p qs
exact_shapes p [] [] e all = tt
exact_shapes p [] (q ∷ qs) e all = cc
exact_shapes p (o ∷ os) [] e all = cc
exact_shapes p (o ∷ os) (q ∷ qs) e all =
    let same = first_same (shape_of q) (shape_of o) (map shape_of qs) (map shape_of os) e in (
      ap (λ (t : ℕ × ℕ). t.1) same ∙ all.0 ∙ ap (λ (t : ℕ × ℕ). length (defaults_of (class_at p t.0))) (sym same),
      exact_shapes p os qs (others_same (shape_of q) (shape_of o) (map shape_of qs) (map shape_of os) e) all.1,
    )

exact_push : (p : Image) (k : ℕ) (os : List PlainObject) → AreExact p os → AreExact p (os ++ fresh_object p k ∷ [])
exact_push p k [] all = (refl, tt)
exact_push p k (o ∷ os) all = (all.0, exact_push p k os all.1)

-- The store has these objects of this program, or one new one more.
pub record Grown (p : Image) (os : List PlainObject) (z : PlainStore) : Type 0 where
  pub program : z.program ≡ p
  pub objects : (z.objects ≡ os) ⊎ ((k : ℕ) × (z.objects ≡ os ++ fresh_object p k ∷ []))

pub exact_grown : (p : Image) (os : List PlainObject) (z : PlainStore) → AreExact p os → Grown p os z → AreExact z.program z.objects
exact_grown p os z all g = subst (λ (q : Image). AreExact q z.objects) (sym g.program) (by g.objects)
  where
    by : (z.objects ≡ os) ⊎ ((k : ℕ) × (z.objects ≡ os ++ fresh_object p k ∷ [])) → AreExact p z.objects
    by (inl e) = subst (AreExact p) (sym e) all
    by (inr (k, e)) = subst (AreExact p) (sym e) (exact_push p k os all)
