-- The setting where one more `old` is kept.
use Rattle.std.proofs.Common.{◌≡◌, List, [], ◌∷◌, ◌++◌, Option, Some, None, refl, sym, ap, ◌∙◌, append_assoc}
use Rattle.sc_tree.specs.Plain.{Expr}
use Rattle.sc_rules.specs.declared.entity_types.entity_type.EntityType.{EntityType}
use Rattle.sc_rules.specs.Names.{Entities}
use Rattle.sc_code.specs.Operations.{Operation, KeepOld}
use Rattle.sc_code.specs.Places.{Setting, expr_type, old_types, with_old, with_type}
use Rattle.sc_code.specs.Emitted.{expr_code, olds_code}
use Rattle.sc_routines.proofs.HeadNames.{typed_rest}

none_behind : (ts : List EntityType) → ts ≡ ts ++ []
none_behind [] = refl
none_behind (t ∷ ts) = ap (λ (l : List EntityType). t ∷ l) (none_behind ts)

pub with_old_is : (h : Setting) (t : Option EntityType) → with_old h t ≡ record h { olds = h.olds ++ with_type t [] }
with_old_is h None = ap (λ (ts : List EntityType). record h { olds = ts }) (none_behind h.olds)
with_old_is h (Some t) = refl

-- the setting behind an `old` whose value is of this type
pub kept : (h k : Setting) (n m : Entities) (e : Expr) (t : Option EntityType) → m ≡ n → t ≡ expr_type h m 0 e → k ≡ record h { olds = h.olds ++ with_type t [] } → k ≡ with_old h (expr_type h n 0 e)
kept h k n m e t em et ek = ek ∙ sym (with_old_is h t) ∙ ap (with_old h) (et ∙ ap (λ m. expr_type h m 0 e) em)

-- one `old` more
pub next_old_code : (h k : Setting) (n m : Entities) (e : Expr) (es : List Expr) (c0 c1 c2 total : List Operation) → m ≡ n → k ≡ with_old h (expr_type h n 0 e) → c1 ≡ c0 ++ expr_code h m 0 e →
    c2 ≡ c1 ++ KeepOld ∷ [] → c0 ++ olds_code h n (e ∷ es) ≡ total → c2 ++ olds_code k n es ≡ total
next_old_code h k n m e es c0 c1 c2 total em ek e1 e2 et =
    let rest = olds_code (with_old h (expr_type h n 0 e)) n es in
    ap (λ k. c2 ++ olds_code k n es) ek
    ∙ ap (λ (l : List Operation). l ++ rest) (e2 ∙ ap (λ (l : List Operation). l ++ KeepOld ∷ []) (e1 ∙ ap (λ m. c0 ++ expr_code h m 0 e) em))
    ∙ append_assoc (c0 ++ expr_code h n 0 e) (KeepOld ∷ []) rest ∙ append_assoc c0 (expr_code h n 0 e) (KeepOld ∷ rest) ∙ et

pub next_old_types : (h k : Setting) (n m : Entities) (e : Expr) (es : List Expr) (t : Option EntityType) (ts us total : List EntityType) → m ≡ n → k ≡ with_old h (expr_type h n 0 e) →
    t ≡ expr_type h m 0 e → us ≡ ts ++ with_type t [] → ts ++ old_types h n (e ∷ es) ≡ total → us ++ old_types k n es ≡ total
next_old_types h k n m e es t ts us total em ek ev eu et =
    let rest = old_types (with_old h (expr_type h n 0 e)) n es in
    ap (λ k. us ++ old_types k n es) ek
    ∙ ap (λ (l : List EntityType). l ++ rest) (eu ∙ ap (λ t. ts ++ with_type t []) (ev ∙ ap (λ m. expr_type h m 0 e) em))
    ∙ append_assoc ts (with_type (expr_type h n 0 e) []) rest
    ∙ ap (λ (l : List EntityType). ts ++ l) (sym (typed_rest (expr_type h n 0 e) rest)) ∙ et
