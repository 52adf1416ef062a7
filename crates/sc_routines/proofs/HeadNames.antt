-- The names of heads come behind those that are known, and each head needs an operand.
use Rattle.std.proofs.Common.{◌≡◌, ◌≤◌, ℕ, zero, suc, List, [], ◌∷◌, ◌++◌, Option, Some, None, length, take, drop, map, min, refl, sym, ap, subst, ◌∙◌, arith, append_assoc}
use Rattle.sc_tree.specs.Plain.{Name, Head, Expr}
use Rattle.sc_tree.specs.declared.instruction.Head as tree_head
use Rattle.sc_tree.specs.View.{head_of}
use Rattle.sc_rules.specs.declared.entity_types.entity_type.EntityType.{EntityType}
use Rattle.sc_rules.specs.declared.position.Role.TheVariants as role
use Rattle.sc_typing.specs.declared.declarations.names.Entity.{Entity}
use Rattle.sc_rules.specs.Names.{Entities, entity, block_type, blocks}
use Rattle.sc_typing.specs.Views.{entity_of}
use Rattle.sc_code.specs.Operations.{Operation}
use Rattle.sc_code.specs.Places.{Setting, expr_type, head_types, names_given, with_heads, with_type}
use Rattle.sc_code.specs.Emitted.{expr_code, heads_code, heads_depth, names_of}
use Rattle.sc_routines.proofs.Given.{Extends, first_left, given_extends}

right : (n : Entities) → n ≡ n ++ []
right [] = refl
right (e ∷ n) = ap (λ (l : Entities). e ∷ l) (right n)

pub heads_extend : (xs : List Name) (ts : List EntityType) (n : Entities) → Extends n (with_heads xs ts n)
heads_extend [] ts n = record { more = []; is = right n }
heads_extend (x ∷ xs) [] n = record { more = []; is = right n }
heads_extend (x ∷ xs) (t ∷ ts) n =
    let new = entity x.text (block_type (blocks n) (Some t)) role.Block ∷ [] in
    let r : Extends (n ++ new) (with_heads xs ts (n ++ new)) = heads_extend xs ts (n ++ new) in
    record { more = new ++ r.more; is = r.is ∙ append_assoc n new r.more }

-- what is left of the names behind a block
pub block_left : (xs : List Name) (ts : List EntityType) (old inner names : List Entity) (count : ℕ) → map entity_of inner ≡ with_heads xs ts (map entity_of old) →
    map entity_of names ≡ map entity_of inner → count ≡ length old → map entity_of (take count names) ≡ map entity_of old
block_left xs ts old inner names count e k c =
    first_left (map entity_of old) old names count refl (subst (Extends (map entity_of old)) (sym (k ∙ e)) (heads_extend xs ts (map entity_of old))) c

pub heads_deep : (h : Setting) (n : Entities) (ds : List Head) → length ds ≤ heads_depth h n ds
heads_deep h n [] = omega arith
heads_deep h n (d ∷ ds) = omega (arith, heads_deep h n ds)

-- behind the shorter of both lists no name is left
pub heads_done : (hs : List tree_head.Head) (ts : List EntityType) (k : ℕ) (n : Entities) → k ≡ min (length hs) (length ts) →
    with_heads (names_of (map head_of (drop k hs))) (drop k ts) n ≡ n
heads_done [] ts zero n e = refl
heads_done [] ts (suc k) n e = absurd (omega (arith, e))
heads_done (x ∷ hs) [] zero n e = refl
heads_done (x ∷ hs) [] (suc k) n e = absurd (omega (arith, e))
heads_done (x ∷ hs) (t ∷ ts) zero n e = absurd (omega (arith, e))
heads_done (x ∷ hs) (t ∷ ts) (suc k) n e = heads_done hs ts k n (omega (arith, e))

-- what is left of the names behind what stands under a condition
pub part_left : (h : Setting) (i : ℕ) (e : Expr) (old given names : List Entity) (count : ℕ) → map entity_of given ≡ names_given h (map entity_of old) i e →
    map entity_of names ≡ map entity_of given → count ≡ length old → map entity_of (take count names) ≡ map entity_of old
part_left h i e old given names count g k c =
    first_left (map entity_of old) old names count refl (subst (Extends (map entity_of old)) (sym (k ∙ g)) (given_extends h (map entity_of old) i e)) c

-- a type, and those behind it
pub typed_rest : (t : Option EntityType) (ts : List EntityType) → with_type t ts ≡ with_type t [] ++ ts
typed_rest None ts = refl
typed_rest (Some t) ts = refl

-- one head more
pub next_head_code : (h : Setting) (n m : Entities) (d : Head) (ds : List Head) (c0 c1 total : List Operation) → m ≡ n → c1 ≡ c0 ++ expr_code h m 0 d.value →
    c0 ++ heads_code h n (d ∷ ds) ≡ total → c1 ++ heads_code h n ds ≡ total
next_head_code h n m d ds c0 c1 total em e1 et =
    ap (λ (l : List Operation). l ++ heads_code h n ds) (e1 ∙ ap (λ m. c0 ++ expr_code h m 0 d.value) em) ∙ append_assoc c0 (expr_code h n 0 d.value) (heads_code h n ds) ∙ et

pub next_head_types : (h : Setting) (n m : Entities) (d : Head) (ds : List Head) (t : Option EntityType) (ts us total : List EntityType) → m ≡ n → t ≡ expr_type h m 0 d.value →
    us ≡ ts ++ with_type t [] → ts ++ head_types h n (d ∷ ds) ≡ total → us ++ head_types h n ds ≡ total
next_head_types h n m d ds t ts us total em ev eu et =
    ap (λ (l : List EntityType). l ++ head_types h n ds) (eu ∙ ap (λ t. ts ++ with_type t []) (ev ∙ ap (λ m. expr_type h m 0 d.value) em))
    ∙ append_assoc ts (with_type (expr_type h n 0 d.value) []) (head_types h n ds)
    ∙ ap (λ (l : List EntityType). ts ++ l) (sym (typed_rest (expr_type h n 0 d.value) (head_types h n ds))) ∙ et
