-- What is known at a site names formals and blocks that are known there.
use Rattle.std.proofs.Common.{◌≡◌, ◌<◌, ◌+◌, ℕ, zero, suc, Bool, true, false, not, ◌&&◌, List, [], ◌∷◌, ◌++◌, Option, Some, None, refl, ap, sym, subst, ◌∙◌, arith}
use Rattle.std.specs.Prelude.{nat_lt, if◌then◌else◌, slice_get}
use Rattle.std.specs.Option.{option_map}
use Rattle.sc_tree.specs.Plain.{System, RoutineDeclaration, Declaration, DeclaredType, HandlerTag, Own, Separate, HandlerOf, Expr, Head}
use Rattle.sc_class.specs.declared.identity.ClassId.{ClassId}
use Rattle.sc_class.specs.Tables.Conformance.{is_expanded, type_class}
use Rattle.sc_rules.specs.declared.entity_types.tag.Reserved.TheVariants.{Formal, BlockName}
use Rattle.sc_rules.specs.declared.entity_types.tag.Tag.{Tag}
use Rattle.sc_rules.specs.declared.entity_types.tag.Tag.TheVariants as tag
use Rattle.sc_rules.specs.entity_types.Tags.{is_any}
use Rattle.sc_rules.specs.declared.entity_types.entity_type.EntityType.{EntityType}
use Rattle.sc_rules.specs.declared.position.Context.{Context}
use Rattle.sc_rules.specs.declared.position.Role.TheVariants as role
use Rattle.sc_rules.specs.Types.{is_separate, is_nameable, number_of_named, declared_tag, is_marked, typed, declared_type}
use Rattle.sc_rules.specs.Names.{RoutineName, RoutineContext, context_of, Entity, Entities, entity, reserved, attached, test_type, is_block, blocks, block_type, formal_entities, formals_known, locals_known, known_in_body}
use Rattle.sc_rules.specs.Typing.{Gives, by_test, by_both, nothing}
use Rattle.sc_rules.specs.Sites.{Site, expression, Reserves, no_more, one_more, Part, target_part, actual_part, operand_part, left_part, right_part, joined_left_part, joined_right_part, tested_part, source_part, call_target_part, call_actual_part, creation_actual_part, condition_part, then_part, elseif_part, else_part, from_part, until_part, loop_part, check_part, head_part, block_part, first_part, others_part, branch_condition_part, branch_part, later_branches_part, Within, itself, inside}
use Rattle.sc_rules.specs.SystemLaws.{IsText, body, precondition, postcondition, invariant, Stands, stands_in}
use Rattle.sc_rules.specs.ScopeLaws.{known_at, is_nameable_if_any, names_known, TagsNameKnown, EntitiesNameKnown}
use Rattle.sc_rules.proofs.Typings.{all_append}
use Rattle.sc_rules.proofs.Scopes.{Scope, in_scope, type_in_scope, all_in_scope, MayName, none_named, named_is_nameable, tag_scope, declared_scope, HasScope, has_scope}

both : (a b : Bool) → (a && b) ≡ true → (a ≡ true) × (b ≡ true)
both true true e = (refl, refl)
both true false e = cc
both false b e = cc

lt_more : (j b : ℕ) → nat_lt j b ≡ true → nat_lt j (b + 1) ≡ true
lt_more j b e = let l : j < b = grind (arith, e) in below (omega (arith, l))
  where
    below : j < b + 1 → nat_lt j (b + 1) ≡ true
    below l = grind (arith, l)

lt_here : (b : ℕ) → nat_lt b (b + 1) ≡ true
lt_here b = below (omega arith)
  where
    below : b < b + 1 → nat_lt b (b + 1) ≡ true
    below l = grind (arith, l)

-- with one more name of a block
abbrev wider : Scope → Scope
wider b = record { formals = b.formals; blocks = b.blocks + 1 }

tag_more : (b : Scope) (t : Tag) → in_scope b t ≡ true → in_scope (wider b) t ≡ true
tag_more b tag.Own e = refl
tag_more b tag.Any e = refl
tag_more b tag.None e = refl
tag_more b (tag.With (Formal i)) e = e
tag_more b (tag.With (BlockName j)) e = lt_more j b.blocks e

type_more : (b : Scope) (o : Option EntityType) → type_in_scope b o ≡ true → type_in_scope (wider b) o ≡ true
type_more b None e = refl
type_more b (Some t) e = tag_more b t.tag e

joined : (a b : Bool) → a ≡ true → b ≡ true → (a && b) ≡ true
joined true b e f = f
joined false b e f = cc

all_more : (b : Scope) (n : Entities) → all_in_scope b n ≡ true → all_in_scope (wider b) n ≡ true
all_more b [] e = refl
all_more b (x ∷ n) e =
    joined (type_in_scope (wider b) x.type) (all_in_scope (wider b) n)
    (type_more b x.type (both (type_in_scope b x.type) (all_in_scope b n) e).0)
    (all_more b n (both (type_in_scope b x.type) (all_in_scope b n) e).1)

-- one name more
count_one : Bool → ℕ → ℕ
count_one true k = k + 1
count_one false k = k

blocks_first : (x : Entity) (n : Entities) → blocks (x ∷ n) ≡ count_one (is_block x.role) (blocks n)
unfolding count_one
blocks_first x n = by (is_block x.role)
  where
    by : (m : Bool) → (if m then blocks n + 1 else blocks n) ≡ count_one m (blocks n)
    by true = refl
    by false = refl

swapped : (a b : Bool) (k : ℕ) → count_one a (count_one b k) ≡ count_one b (count_one a k)
unfolding count_one
swapped true true k = refl
swapped true false k = refl
swapped false true k = refl
swapped false false k = refl

blocks_more : (n : Entities) (e : Entity) → blocks (n ++ e ∷ []) ≡ count_one (is_block e.role) (blocks n)
blocks_more [] e = blocks_first e []
blocks_more (x ∷ n) e =
    blocks_first x (n ++ e ∷ []) ∙ (ap (count_one (is_block x.role)) (blocks_more n e) ∙ (swapped (is_block x.role) (is_block e.role) (blocks n) ∙
    sym (ap (count_one (is_block e.role)) (blocks_first x n))))

-- what a tag may name where these are known
abbrev pub scope : RoutineContext → ℕ → Scope
scope h k = record { formals = h.formals; blocks = k }

abbrev pub Scoped : RoutineContext → Entities → Type 0
Scoped h n = all_in_scope (scope h (blocks n)) n ≡ true

scoped_as : (h : RoutineContext) (n : Entities) (k : ℕ) → blocks n ≡ k → all_in_scope (scope h k) n ≡ true → Scoped h n
scoped_as h n k e f = subst (λ k. all_in_scope (scope h k) n ≡ true) (sym e) f

also : (b : Scope) (n : Entities) (e : Entity) → all_in_scope b n ≡ true → type_in_scope b e.type ≡ true →
    all_in_scope b (n ++ e ∷ []) ≡ true
also b n e f g =
    all_append (λ (e : Entity). type_in_scope b e.type) n (e ∷ []) f (joined (type_in_scope b e.type) true g refl)

attached_scope : (b : Scope) (o : Option EntityType) → type_in_scope b o ≡ true →
    type_in_scope b (option_map attached o) ≡ true
attached_scope b None e = refl
attached_scope b (Some t) e = e

names_own : (h : RoutineContext) (k : ℕ) → MayName (scope h k) h.formals
names_own h k x i e = named_is_nameable x h.formals i e

test_scope : (h : RoutineContext) (k : ℕ) (d : Option DeclaredType) (o : Option EntityType) →
    type_in_scope (scope h k) o ≡ true →
    type_in_scope (scope h k) (test_type h d o) ≡ true
test_scope h k None o e = attached_scope (scope h k) o e
test_scope h k (Some d) o e =
    attached_scope (scope h k) (declared_type h.system h.formals d)
    (declared_scope (scope h k) h.system h.formals (names_own h k) d)

block_scope : (b : Scope) (o : Option EntityType) → type_in_scope (wider b) (block_type b.blocks o) ≡ true
block_scope b None = refl
block_scope b (Some t) = lt_here b.blocks

given : {h : RoutineContext} {c : Context} {n m : Entities} {e : Expr} → Gives h c n e m →
    ((b : Scope) → HasScope b h) → Scoped h n → Scoped h m
unfolding count_one
given {h} {n} (by_test {d} {x} {t} z) r s =
    scoped_as h (n ++ entity x.text (test_type h d t.type) role.Test ∷ []) (blocks n)
    (blocks_more n (entity x.text (test_type h d t.type) role.Test))
    (also (scope h (blocks n)) n (entity x.text (test_type h d t.type) role.Test) s
    (test_scope h (blocks n) d t.type (has_scope (scope h (blocks n)) (r (scope h (blocks n))) s z)))
given (by_both j g k) r s = given k r (given g r s)
given (nothing e) r s = s

kept : {h : RoutineContext} {n m o : Entities} {ds : List Head} → Reserves h n m ds o → Scoped h m → Scoped h o
unfolding count_one
kept no_more s = s
kept {h} (one_more {m} {d} {t} z w) s =
    kept w (scoped_as h (m ++ entity d.name.text (block_type (blocks m) t.type) role.Block ∷ []) (blocks m + 1)
    (blocks_more m (entity d.name.text (block_type (blocks m) t.type) role.Block))
    (also (scope h (blocks m + 1)) m (entity d.name.text (block_type (blocks m) t.type) role.Block) (all_more (scope h (blocks m)) m s)
    (block_scope (scope h (blocks m)) t.type)))

abbrev pub SiteScoped : RoutineContext → Site → Type 0
SiteScoped h a = Scoped h (known_at a)

part_scoped : {h : RoutineContext} {a b : Site} → Part h a b → ((b : Scope) → HasScope b h) → SiteScoped h a →
    SiteScoped h b
part_scoped target_part r s = s
part_scoped (actual_part i) r s = s
part_scoped operand_part r s = s
part_scoped (left_part j) r s = s
part_scoped (right_part j) r s = s
part_scoped (joined_left_part j) r s = s
part_scoped (joined_right_part j g) r s = given g r s
part_scoped tested_part r s = s
part_scoped source_part r s = s
part_scoped call_target_part r s = s
part_scoped (call_actual_part i) r s = s
part_scoped (creation_actual_part c i) r s = s
part_scoped condition_part r s = s
part_scoped (then_part g) r s = given g r s
part_scoped elseif_part r s = s
part_scoped else_part r s = s
part_scoped from_part r s = s
part_scoped until_part r s = s
part_scoped loop_part r s = s
part_scoped (check_part i) r s = s
part_scoped (head_part i) r s = s
part_scoped (block_part w) r s = kept w s
part_scoped first_part r s = s
part_scoped others_part r s = s
part_scoped branch_condition_part r s = s
part_scoped (branch_part g) r s = given g r s
part_scoped later_branches_part r s = s

pub within_scoped : {h : RoutineContext} {a b : Site} → Within h a b → ((b : Scope) → HasScope b h) → SiteScoped h a →
    SiteScoped h b
within_scoped itself r s = s
within_scoped (inside d w) r s = within_scoped w r (part_scoped d r s)

-- ---- texts

result_scope : (s : System) (result : Option DeclaredType) (b : Scope) (t : Option EntityType) →
    option_map (declared_type s []) result ≡ Some t →
    type_in_scope b t ≡ true
result_scope s None b t e = cc
result_scope s (Some d) b t e = subst (λ t. type_in_scope b t ≡ true) (same (declared_type s [] d) t e)
    (declared_scope b s [] (none_named b) d)
  where
    same : (t u : Option EntityType) → Some t ≡ Some u → t ≡ u
    same t u e = cc

-- an attached formal that is declared separate may be named, and so its own tag names it
reserved_scope : (b : Scope) (s : System) (all : List Declaration) → MayName b all → (i : ℕ) (d : Declaration) →
    is_nameable_if_any (slice_get b.formals i) ≡ is_nameable d →
    type_in_scope b (option_map (reserved i) (declared_type s all d.declared_type)) ≡ true
reserved_scope b s all m i d named = by_parts (type_class s d.declared_type.class.text)
    (declared_tag all d.declared_type.tag) refl
  where
    same_tag : (f g : Tag) → Some f ≡ Some g → f ≡ g
    same_tag f g e = cc

    named_there : (o : Option ℕ) (g : Tag) →
        ((k : ℕ) → o ≡ Some k → is_nameable_if_any (slice_get b.formals k) ≡ true) →
        option_map (λ k. tag.With (Formal k)) o ≡ Some g →
        in_scope b (if is_any g then tag.With (Formal i) else g) ≡ true
    named_there None g f e = cc
    named_there (Some k) g f e =
        subst (λ g. in_scope b (if is_any g then tag.With (Formal i) else g) ≡ true)
        (same_tag (tag.With (Formal k)) g e) (f k refl)

    attached_tag : (g : Tag) (h : HandlerTag) → not d.declared_type.is_detachable ≡ true → d.declared_type.tag ≡ h →
        declared_tag all h ≡ Some g →
        in_scope b (if is_any g then tag.With (Formal i) else g) ≡ true
    attached_tag g Own e f k = subst (λ g. in_scope b (if is_any g then tag.With (Formal i) else g) ≡ true)
        (same_tag tag.Own g k) refl
    attached_tag g Separate e f k =
        subst (λ g. in_scope b (if is_any g then tag.With (Formal i) else g) ≡ true) (same_tag tag.Any g k)
        (named ∙ joined (not d.declared_type.is_detachable) (is_separate d.declared_type.tag) e (ap is_separate f))
    attached_tag g (HandlerOf x) e f k = named_there (number_of_named x.text all) g (m x.text) k

    detachable_tag : (g : Tag) (h : HandlerTag) → declared_tag all h ≡ Some g → in_scope b g ≡ true
    detachable_tag g h k = tag_scope b all m h g k

    by_mark : (g : Tag) → declared_tag all d.declared_type.tag ≡ Some g → (a : Bool) →
        not d.declared_type.is_detachable ≡ a →
        in_scope b (if a && is_any g then tag.With (Formal i) else g) ≡ true
    by_mark g k true e = attached_tag g d.declared_type.tag e refl k
    by_mark g k false e = detachable_tag g d.declared_type.tag k

    by_parts : (c : Option ClassId) (g : Option Tag) → declared_tag all d.declared_type.tag ≡ g →
        type_in_scope b (option_map (reserved i) (typed d.declared_type c g)) ≡ true
    by_parts None g k = refl
    by_parts (Some c) None k = refl
    by_parts (Some c) (Some g) k = by_class (is_expanded c && is_marked d.declared_type)
      where
        by_class : (a : Bool) →
            type_in_scope b (option_map (reserved i) (if a then None else Some (record { attached = not d.declared_type.is_detachable; tag = g; class = c }))) ≡ true
        by_class true = refl
        by_class false = by_mark g k (not d.declared_type.is_detachable) refl

-- of the formals, those from this number on
formals_scope : (b : Scope) (s : System) (all : List Declaration) → MayName b all → (i : ℕ) (ds : List Declaration) →
    ((k : ℕ) → slice_get b.formals (i + k) ≡ slice_get ds k) → all_in_scope b (formal_entities s all i ds) ≡ true
formals_scope b s all m i [] f = refl
formals_scope b s all m i (d ∷ ds) f =
    joined (type_in_scope b (option_map (reserved i) (declared_type s all d.declared_type)))
    (all_in_scope b (formal_entities s all (i + 1) ds))
    (reserved_scope b s all m i d (ap is_nameable_if_any (ap (slice_get b.formals) (first i) ∙ f 0)))
    (formals_scope b s all m (i + 1) ds after)
  where
    first : (i : ℕ) → i ≡ i + 0
    first i = grind arith

    next : (i k : ℕ) → (i + 1) + k ≡ i + suc k
    next i k = grind arith

    after : (k : ℕ) → slice_get b.formals ((i + 1) + k) ≡ slice_get ds k
    after k = ap (slice_get b.formals) (next i k) ∙ f (suc k)

locals_scope : (b : Scope) (s : System) (formals ds : List Declaration) → MayName b formals →
    all_in_scope b (locals_known s formals ds) ≡ true
locals_scope b s formals [] m = refl
locals_scope b s formals (d ∷ ds) m =
    joined (type_in_scope b (declared_type s formals d.declared_type)) (all_in_scope b (locals_known s formals ds))
    (declared_scope b s formals m d.declared_type) (locals_scope b s formals ds m)

from_first : (k : ℕ) → 0 + k ≡ k
from_first k = grind arith

contract_scope : (s : System) (pure : RoutineName → Bool) (k : ℕ) (routine : RoutineDeclaration) →
    Scoped (context_of s pure k routine) (formals_known s routine.formals)
contract_scope s pure k routine =
    formals_scope (scope (context_of s pure k routine) (blocks (formals_known s routine.formals))) s routine.formals
    (names_own (context_of s pure k routine) (blocks (formals_known s routine.formals))) 0 routine.formals (λ k. ap (slice_get routine.formals) (from_first k))

body_scope : (s : System) (pure : RoutineName → Bool) (k : ℕ) (routine : RoutineDeclaration) →
    Scoped (context_of s pure k routine) (known_in_body s routine)
body_scope s pure k routine = all_append (λ (e : Entity). type_in_scope b e.type) (formals_known s routine.formals)
    (locals_known s routine.formals routine.locals)
    (formals_scope b s routine.formals (names_own h j) 0 routine.formals (λ k. ap (slice_get routine.formals) (from_first k))) (locals_scope b s routine.formals routine.locals (names_own h j))
  where
    h : RoutineContext
    h = context_of s pure k routine

    j : ℕ
    j = blocks (known_in_body s routine)

    b : Scope
    b = scope h j

text_scoped : {s : System} {pure : RoutineName → Bool} {h : RoutineContext} {a : Site} → IsText s pure h a →
    ((b : Scope) → HasScope b h) × SiteScoped h a
text_scoped {s} {pure} (body {k} {routine} i m e) =
    (λ b. result_scope s routine.result_type b, body_scope s pure k routine)
text_scoped {s} {pure} (precondition {k} {routine} i m e w) =
    (λ b. result_scope s routine.result_type b, contract_scope s pure k routine)
text_scoped {s} {pure} (postcondition {k} {routine} i m e w) =
    (λ b. result_scope s routine.result_type b, contract_scope s pure k routine)
text_scoped {s} (invariant i w) = (λ b t e. result_scope s None b t e, refl)

stands_scoped : {s : System} {pure : RoutineName → Bool} {h : RoutineContext} {b : Site} → Stands s pure h b →
    ((c : Scope) → HasScope c h) × SiteScoped h b
stands_scoped {h} {b = a} (stands_in {a = text} t w) = at (text_scoped t)
  where
    at : ((b : Scope) → HasScope b h) × SiteScoped h text → ((b : Scope) → HasScope b h) × SiteScoped h a
    at (r, s) = (r, within_scoped w r s)

pub tags_name_known : TagsNameKnown
tags_name_known s pure h b v c k n e t is_separate i d = at (stands_scoped (subst (Stands s pure h) i v))
  where
    at : ((b : Scope) → HasScope b h) × SiteScoped h (expression c k n e) →
        names_known h.formals (blocks n) t.tag ≡ true
    at (r, s) = has_scope (scope h (blocks n)) (r (scope h (blocks n))) s d

each_in_scope : (b : Scope) (n : Entities) (i : ℕ) (e : Entity) → all_in_scope b n ≡ true → slice_get n i ≡ Some e →
    type_in_scope b e.type ≡ true
each_in_scope b [] i e a k = cc
each_in_scope b (x ∷ n) zero e a k = subst (λ (e : Entity). type_in_scope b e.type ≡ true) (same x e k)
    (both (type_in_scope b x.type) (all_in_scope b n) a).0
  where
    same : (x e : Entity) → Some x ≡ Some e → x ≡ e
    same x e k = cc
each_in_scope b (x ∷ n) (suc i) e a k = each_in_scope b n i e (both (type_in_scope b x.type) (all_in_scope b n) a).1 k

pub entities_name_known : EntitiesNameKnown
entities_name_known s pure h b v i e t k j = at (stands_scoped v)
  where
    at : ((b : Scope) → HasScope b h) × SiteScoped h b → names_known h.formals (blocks (known_at b)) t.tag ≡ true
    at (r, s) = subst (λ o. type_in_scope (scope h (blocks (known_at b))) o ≡ true) j (each_in_scope (scope h (blocks (known_at b))) (known_at b) i e s k)
