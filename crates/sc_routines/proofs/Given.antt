-- The names that a condition gives come behind those that are known.
use Rattle.std.proofs.Common.{◌≡◌, ℕ, ◌+◌, List, [], ◌∷◌, ◌++◌, true, false, length, take, map, refl, sym, ap, subst, ◌∙◌, append_assoc}
use Rattle.std.specs.Prelude.{if◌then◌else◌}
use Rattle.std.proofs.lemmas.List.{take-map, length-map}
use Rattle.std.proofs.Math.Seq.{take-append_seam}
use Rattle.sc_text.specs.declared.token.Span.{Span}
use Rattle.sc_tree.specs.declared.expression.BinaryOperator.{BinaryOperator}
use Rattle.sc_tree.specs.declared.expression.BinaryOperator.TheVariants as binary
use Rattle.sc_tree.specs.Properties.{is_and_then}
use Rattle.sc_tree.specs.Plain as tree
use Rattle.sc_tree.specs.Plain.{Expr}
use Rattle.sc_rules.specs.declared.position.Role.TheVariants as role
use Rattle.sc_rules.specs.Names.{Entities, entity, test_type}
use Rattle.sc_model.specs.Olds.{olds_in}
use Rattle.sc_typing.specs.declared.declarations.names.Entity.{Entity}
use Rattle.sc_typing.specs.Views.{entity_of}
use Rattle.sc_code.specs.Places.{Setting, here, expr_type, names_given}

-- what both operands give, where the operator is `and then`
pub given_by_operator : (h : Setting) (n : Entities) (i : ℕ) (q : Span) (op : BinaryOperator) (a b : Expr) →
    names_given h n i (tree.Binary q op a b) ≡ (if is_and_then op then names_given h (names_given h n i a) (i + olds_in a) b else n)
given_by_operator h n i q binary.Times a b = refl
given_by_operator h n i q binary.Quotient a b = refl
given_by_operator h n i q binary.Remainder a b = refl
given_by_operator h n i q binary.Plus a b = refl
given_by_operator h n i q binary.Minus a b = refl
given_by_operator h n i q binary.Equal a b = refl
given_by_operator h n i q binary.NotEqual a b = refl
given_by_operator h n i q binary.Less a b = refl
given_by_operator h n i q binary.Greater a b = refl
given_by_operator h n i q binary.LessEqual a b = refl
given_by_operator h n i q binary.GreaterEqual a b = refl
given_by_operator h n i q binary.And a b = refl
given_by_operator h n i q binary.AndThen a b = refl
given_by_operator h n i q binary.Or a b = refl
given_by_operator h n i q binary.OrElse a b = refl
given_by_operator h n i q binary.Xor a b = refl
given_by_operator h n i q binary.Implies a b = refl

-- more names behind these
pub record Extends (n m : Entities) : Type 0 where
  pub more : Entities
  pub is : m ≡ n ++ more

nothing_more : (n : Entities) → n ≡ n ++ []
nothing_more [] = refl
nothing_more (e ∷ n) = ap (λ (l : Entities). e ∷ l) (nothing_more n)

same : (n : Entities) → Extends n n
same n = record { more = []; is = nothing_more n }

along : (l m n : Entities) → Extends l m → Extends m n → Extends l n
along l m n x y = record { more = x.more ++ y.more; is = y.is ∙ ap (λ (k : Entities). k ++ y.more) x.is ∙ append_assoc l x.more y.more }

pub given_extends : (h : Setting) (n : Entities) (i : ℕ) (e : Expr) → Extends n (names_given h n i e)
given_extends h n i (tree.ObjectTest q d a x) = record { more = entity x.text (test_type (here h) d (expr_type h n i a)) role.Test ∷ []; is = refl }
given_extends h n i (tree.Binary q op a b) =
    let m = names_given h n i a in
    let both = along n m (names_given h m (i + olds_in a) b) (given_extends h n i a) (given_extends h m (i + olds_in a) b) in
    subst (Extends n) (sym (given_by_operator h n i q op a b))
    (elim (is_and_then op) as (λ t. Extends n (if t then names_given h m (i + olds_in a) b else n)) [
      | true ↦ both
      | false ↦ same n
    ])
given_extends h n i (tree.Integer q z) = same n
given_extends h n i (tree.Boolean q b) = same n
given_extends h n i (tree.Void q) = same n
given_extends h n i (tree.Current q) = same n
given_extends h n i (tree.Result q) = same n
given_extends h n i (tree.Call q t x es) = same n
given_extends h n i (tree.Unary q op a) = same n

-- what is left of names behind the first ones
pub first_left : (n : Entities) (old names : List Entity) (count : ℕ) → n ≡ map entity_of old → Extends n (map entity_of names) → count ≡ length old → map entity_of (take count names) ≡ n
first_left n old names count en x ec =
    let lengths : count ≡ length n = ec ∙ sym (length-map old entity_of) ∙ sym (ap (λ (l : Entities). length l) en) in
    sym (take-map entity_of count names) ∙ ap (take count) x.is ∙ ap (λ k. take k (n ++ x.more)) lengths ∙ take-append_seam n x.more

-- behind one condition
pub forgotten : (h : Setting) (i : ℕ) (e : Expr) (old names : List Entity) (count : ℕ) → map entity_of names ≡ names_given h (map entity_of old) i e → count ≡ length old →
    map entity_of (take count names) ≡ map entity_of old
forgotten h i e old names count en ec =
    first_left (map entity_of old) old names count refl (subst (Extends (map entity_of old)) (sym en) (given_extends h (map entity_of old) i e)) ec

-- behind two
pub both_forgotten : (h : Setting) (i j : ℕ) (a b : Expr) (old given names : List Entity) (count : ℕ) → map entity_of given ≡ names_given h (map entity_of old) i a →
    map entity_of names ≡ names_given h (map entity_of given) j b → count ≡ length old → map entity_of (take count names) ≡ map entity_of old
both_forgotten h i j a b old given names count ea eb ec =
    let n = map entity_of old in
    let x : Extends n (map entity_of given) = subst (Extends n) (sym ea) (given_extends h n i a) in
    let y : Extends (map entity_of given) (map entity_of names) = subst (Extends (map entity_of given)) (sym eb) (given_extends h (map entity_of given) j b) in
    first_left n old names count refl (along n (map entity_of given) (map entity_of names) x y) ec

-- behind a condition that is met where what is known is what was known first
pub forgotten_in : (h : Setting) (i : ℕ) (e : Expr) (first old names left : List Entity) (count : ℕ) → map entity_of old ≡ map entity_of first →
    map entity_of names ≡ names_given h (map entity_of old) i e → count ≡ length first → left ≡ take count names → map entity_of left ≡ map entity_of first
forgotten_in h i e first old names left count eo en ec el =
    ap (map entity_of) el
    ∙ first_left (map entity_of first) first names count refl (subst (Extends (map entity_of first)) (sym (en ∙ ap (λ m. names_given h m i e) eo)) (given_extends h (map entity_of first) i e)) ec
