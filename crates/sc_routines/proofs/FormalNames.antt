-- The names in a call, and the formals among them.
use Rattle.std.proofs.Common.{◌≡◌, List, ◌∷◌, ◌++◌, Option, Some, None, Result, OnOk, sym, ap, ◌∙◌, append_assoc}
use Rattle.std.specs.Prelude.{string_bytes, ℕ}
use Rattle.std.specs.List.{filter_map}
use Rattle.std.proofs.lemmas.List.Elements.{filter_map-append}
use Rattle.std.proofs.lemmas.Result.{on_ok_weaker}
use Rattle.std.specs.declared.boxed.Box.{Box}
use Rattle.std.specs.declared.alloc.Global.{Global}
use Rattle.sc_tree.specs.declared.expression.Expr.{Expr}
use Rattle.sc_tree.specs.declared.expression.Expr.TheVariants as expr
use Rattle.sc_tree.specs.declared.expression.Call.{Call}
use Rattle.sc_tree.specs.Plain as plain
use Rattle.sc_tree.specs.View.{expr_of, exprs_of, name_of, target_of}
use Rattle.sc_tree.proofs.ViewLemmas.{expr_of-call}
use Rattle.sc_model.specs.Preconditions.{names_in, names_in_each}

behind_target : (c : Call) (t : Option (Box Expr Global)) → c.target ≡ t →
    names_in (expr_of (expr.Call c)) ≡ names_in (plain.Call c.span (target_of t) (name_of c.name) (exprs_of c.actuals.items))
behind_target c t e =
    ap names_in (expr_of-call c) ∙ ap (λ (t : Option (Box Expr Global)). names_in (plain.Call c.span (target_of t) (name_of c.name) (exprs_of c.actuals.items))) e

pub names_in_own : (c : Call) → c.target ≡ None → names_in (expr_of (expr.Call c)) ≡ string_bytes c.name.text.value ∷ names_in_each (exprs_of c.actuals.items)
names_in_own c e = behind_target c None e

pub names_in_qualified : (c : Call) (a : Box Expr Global) → c.target ≡ Some a → names_in (expr_of (expr.Call c)) ≡ names_in (expr_of a.value) ++ names_in_each (exprs_of c.actuals.items)
names_in_qualified c a e = behind_target c (Some a) e

pub formals_joined : (f : List ℕ → Option ℕ) (xs ys : List (List ℕ)) → filter_map f (xs ++ ys) ≡ filter_map f xs ++ filter_map f ys
formals_joined f xs ys = filter_map-append f xs ys

-- the formals of two lists of names, added one after the other
pub both_added : {T E : Type 0} (r : Result T E) (f : List ℕ → Option ℕ) (s0 s1 s2 : List ℕ) (xs ys zs : List (List ℕ)) → s1 ≡ s0 ++ filter_map f xs → OnOk r (s2 ≡ s1 ++ filter_map f ys) →
    zs ≡ xs ++ ys → OnOk r (s2 ≡ s0 ++ filter_map f zs)
both_added r f s0 s1 s2 xs ys zs e1 e2 e =
    on_ok_weaker r (λ (e2 : s2 ≡ s1 ++ filter_map f ys).
    e2 ∙ ap (λ (l : List ℕ). l ++ filter_map f ys) e1 ∙ append_assoc s0 (filter_map f xs) (filter_map f ys)
    ∙ ap (λ (l : List ℕ). s0 ++ l) (sym (formals_joined f xs ys)) ∙ ap (λ (l : List (List ℕ)). s0 ++ filter_map f l) (sym e)) e2
