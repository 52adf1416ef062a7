-- The numbers of formals and of the names of separate blocks, as they are known at a place of a routine.
use Rattle.std.proofs.Common.{◌≡◌, ◌≤◌, ◌+◌, ℕ, zero, suc, Bool, true, false, List, [], ◌∷◌, ◌++◌, Option, Some, None, refl, sym, ap, subst, ◌∙◌, arith}
use Rattle.std.specs.Prelude.{slice_get, if◌then◌else◌}
use Rattle.std.specs.Option.{option_map}
use Rattle.sc_tree.specs.Plain.{System, Declaration, Head, Expr}
use Rattle.sc_rules.specs.declared.entity_types.entity_type.EntityType.{EntityType}
use Rattle.sc_rules.specs.declared.entity_types.tag.Reserved.TheVariants.{BlockName}
use Rattle.sc_rules.specs.declared.entity_types.tag.Tag.TheVariants as tag
use Rattle.sc_rules.specs.declared.position.Context.{Context}
use Rattle.sc_rules.specs.declared.position.Role.TheVariants as role
use Rattle.sc_rules.specs.Types.{declared_type}
use Rattle.sc_rules.specs.Names.{RoutineName, RoutineContext, Entity, Entities, entity, reserved, formal_entities, formals_known, locals_known, is_block, blocks, block_type, test_type}
use Rattle.sc_rules.specs.Typing.{Gives, by_test, by_both, nothing}
use Rattle.sc_rules.specs.Sites.{Site, Reserves, no_more, one_more, Part, target_part, actual_part, operand_part, left_part, right_part, joined_left_part, joined_right_part, tested_part, source_part, call_target_part, call_actual_part, creation_actual_part, condition_part, then_part, elseif_part, else_part, from_part, until_part, loop_part, check_part, head_part, block_part, first_part, others_part, branch_condition_part, branch_part, later_branches_part, Within, itself, inside}
use Rattle.sc_rules.specs.SystemLaws.{IsText, body, precondition, postcondition, invariant, stands_in}
use Rattle.sc_rules.specs.ScopeLaws.{known_at, BlocksDiffer, FormalsKnown}

-- ---- blocks

-- The names of blocks in the list are numbered in their order, from this number on.
abbrev AreNumbered : ℕ → Entities → Type 0
AreNumbered j [] = Unit
AreNumbered j (e ∷ n) =
    (is_block e.role ≡ true → (t : EntityType) → e.type ≡ Some t → t.tag ≡ tag.With (BlockName j)) ×
    AreNumbered (if is_block e.role then j + 1 else j) n

-- ---- what more is known in a part

-- The second list is the first with further names, each of which is no block's, or has the next number.
data Extends (n : Entities) : Entities → Type 0 where
  same : Extends n n
  with_other : {m : Entities} (e : Entity) → Extends n m → is_block e.role ≡ false → Extends n (m ++ e ∷ [])
  with_block : {m : Entities} (x : List ℕ) (t : Option EntityType) → Extends n m →
      Extends n (m ++ entity x (block_type (blocks m) t) role.Block ∷ [])

further : {n m o : Entities} → Extends n m → Extends m o → Extends n o
further x same = x
further x (with_other e y i) = with_other e (further x y) i
further x (with_block z t y) = with_block z t (further x y)

given_extends : {h : RoutineContext} {c : Context} {n m : Entities} {e : Expr} → Gives h c n e m → Extends n m
given_extends {h} (by_test {d} {x} {t} w) = with_other (entity x.text (test_type h d t.type) role.Test) same refl
given_extends (by_both i g k) = further (given_extends g) (given_extends k)
given_extends (nothing e) = same

reserved_extends : {h : RoutineContext} {n m o : Entities} {ds : List Head} → Reserves h n m ds o → Extends m o
reserved_extends no_more = same
reserved_extends (one_more {d} {t} w k) = further (with_block d.name.text t.type same) (reserved_extends k)

part_extends : {h : RoutineContext} {a b : Site} → Part h a b → Extends (known_at a) (known_at b)
part_extends target_part = same
part_extends (actual_part i) = same
part_extends operand_part = same
part_extends (left_part j) = same
part_extends (right_part j) = same
part_extends (joined_left_part j) = same
part_extends (joined_right_part j g) = given_extends g
part_extends tested_part = same
part_extends source_part = same
part_extends call_target_part = same
part_extends (call_actual_part i) = same
part_extends (creation_actual_part c i) = same
part_extends condition_part = same
part_extends (then_part g) = given_extends g
part_extends elseif_part = same
part_extends else_part = same
part_extends from_part = same
part_extends until_part = same
part_extends loop_part = same
part_extends (check_part i) = same
part_extends (head_part i) = same
part_extends (block_part w) = reserved_extends w
part_extends first_part = same
part_extends others_part = same
part_extends branch_condition_part = same
part_extends (branch_part g) = given_extends g
part_extends later_branches_part = same

within_extends : {h : RoutineContext} {a b : Site} → Within h a b → Extends (known_at a) (known_at b)
within_extends itself = same
within_extends (inside p w) = further (part_extends p) (within_extends w)

-- ---- numbers along what is known

at_end : (j : ℕ) (n : Entities) (e : Entity) → AreNumbered j n → AreNumbered (j + blocks n) (e ∷ []) →
    AreNumbered j (n ++ e ∷ [])
at_end j [] e a b = subst (λ k. AreNumbered k (e ∷ [])) (plus j) b
  where
    plus : (j : ℕ) → j + 0 ≡ j
    plus j = grind arith
at_end j (d ∷ n) e a b = (a.0, by_role (is_block d.role) (λ k. at_end k n e) a.1 b)
  where
    by_role : (c : Bool) → ((k : ℕ) → AreNumbered k n → AreNumbered (k + blocks n) (e ∷ []) → AreNumbered k (n ++ e ∷ [])) →
        AreNumbered (if c then j + 1 else j) n → AreNumbered (j + (if c then blocks n + 1 else blocks n)) (e ∷ []) →
        AreNumbered (if c then j + 1 else j) (n ++ e ∷ [])
    by_role true f a b = f (j + 1) a (subst (λ k. AreNumbered k (e ∷ [])) (plus j (blocks n)) b)
      where
        plus : (j k : ℕ) → j + (k + 1) ≡ (j + 1) + k
        plus j k = grind arith
    by_role false f a b = f j a b

type_numbered : (j : ℕ) (o : Option EntityType) (t : EntityType) → block_type j o ≡ Some t →
    t.tag ≡ tag.With (BlockName j)
type_numbered j None t e = cc
type_numbered j (Some u) t e = ap (λ (t : EntityType). t.tag) (sym (some_is e))
  where
    some_is : block_type j (Some u) ≡ Some t →
        record { attached = true; tag = tag.With (BlockName j); class = u.class } ≡ t
    some_is e = cc

extended_numbered : {n m : Entities} → Extends n m → AreNumbered 0 n → AreNumbered 0 m
extended_numbered same a = a
extended_numbered (with_other {m} e x i) a = at_end 0 m e (extended_numbered x a)
    ((λ j t k. absurd (differ (sym j ∙ i))), tt)
  where
    differ : true ≡ false → ⊥
    differ e = cc
extended_numbered (with_block {m} name t x) a = at_end 0 m (entity name (block_type (blocks m) t) role.Block)
    (extended_numbered x a) ((λ j u k. type_numbered (blocks m) t u k ∙ ap (λ k. tag.With (BlockName k)) (plus (blocks m))), tt)
  where
    plus : (k : ℕ) → k ≡ 0 + k
    plus k = grind arith

-- names of which none is a block's are numbered from anywhere
formals_numbered : (s : System) (all ds : List Declaration) (i j : ℕ) → AreNumbered j (formal_entities s all i ds)
formals_numbered s all [] i j = tt
formals_numbered s all (d ∷ ds) i j = ((λ e t k. absurd (differ e)), formals_numbered s all ds (i + 1) j)
  where
    differ : is_block role.Formal ≡ true → ⊥
    differ e = cc

locals_after : (s : System) (all ds locals : List Declaration) (i j : ℕ) →
    AreNumbered j (formal_entities s all i ds ++ locals_known s all locals)
locals_after s all (d ∷ ds) locals i j = ((λ e t k. absurd (differ e)), locals_after s all ds locals (i + 1) j)
  where
    differ : is_block role.Formal ≡ true → ⊥
    differ e = cc
locals_after s all [] [] i j = tt
locals_after s all [] (d ∷ ds) i j = ((λ e t k. absurd (differ e)), locals_after s all [] ds i j)
  where
    differ : is_block role.Local ≡ true → ⊥
    differ e = cc

text_numbered : {s : System} {pure : RoutineName → Bool} {h : RoutineContext} {a : Site} → IsText s pure h a →
    AreNumbered 0 (known_at a)
text_numbered {s} (body {routine} i m e) = locals_after s routine.formals routine.formals routine.locals 0 0
text_numbered {s} (precondition {routine} i m e w) = formals_numbered s routine.formals routine.formals 0 0
text_numbered {s} (postcondition {routine} i m e w) = formals_numbered s routine.formals routine.formals 0 0
text_numbered (invariant i w) = tt

-- the number of a block's name in such a list
numbered_from : (j : ℕ) (n : Entities) → AreNumbered j n → (i : ℕ) (e : Entity) (t : EntityType) →
    slice_get n i ≡ Some e → is_block e.role ≡ true → e.type ≡ Some t →
    (k : ℕ) × (t.tag ≡ tag.With (BlockName k)) × (j ≤ k)
numbered_from j [] a i e t g b v = absurd (none g)
  where
    none : None ≡ Some e → ⊥
    none g = cc
numbered_from j (d ∷ n) a zero e t g b v =
    (j, a.0 (subst (λ (e : Entity). is_block e.role ≡ true) (sym (some_is g)) b) t (subst (λ (e : Entity). e.type ≡ Some t) (sym (some_is g)) v), grind arith)
  where
    some_is : Some d ≡ Some e → d ≡ e
    some_is g = cc
numbered_from j (d ∷ n) a (suc i) e t g b v = by_role (is_block d.role) a.1 (λ k a. numbered_from k n a i e t g b v)
  where
    later : (k : ℕ) × (t.tag ≡ tag.With (BlockName k)) × (j + 1 ≤ k) → (k : ℕ) × (t.tag ≡ tag.With (BlockName k)) ×
        (j ≤ k)
    later (k, q, l) = (k, q, grind arith)

    by_role : (c : Bool) → AreNumbered (if c then j + 1 else j) n →
        ((k : ℕ) → AreNumbered k n → (m : ℕ) × (t.tag ≡ tag.With (BlockName m)) × (k ≤ m)) → (k : ℕ) ×
        (t.tag ≡ tag.With (BlockName k)) × (j ≤ k)
    by_role true a f = later (f (j + 1) a)
    by_role false a f = f j a

-- the first name of a list is a block's, and another has the same tag
not_later : (j : ℕ) (d : Entity) (n : Entities) → AreNumbered j (d ∷ n) → is_block d.role ≡ true → (t : EntityType) →
    d.type ≡ Some t →
    (i : ℕ) (e : Entity) (u : EntityType) → slice_get n i ≡ Some e → is_block e.role ≡ true → e.type ≡ Some u →
    t.tag ≡ u.tag → ⊥
not_later j d n a b t v i e u g c w q =
    greater (numbered_from (j + 1) n (subst (λ c. AreNumbered (if c then j + 1 else j) n) b a.1) i e u g c w)
  where
    number_is : (k : ℕ) → tag.With (BlockName j) ≡ tag.With (BlockName k) → j ≡ k
    number_is k e = cc

    less : (k : ℕ) → j ≡ k → j + 1 ≤ k → ⊥
    less k e l = grind arith

    greater : (k : ℕ) × (u.tag ≡ tag.With (BlockName k)) × (j + 1 ≤ k) → ⊥
    greater (k, p, l) = less k (number_is k (sym (a.0 b t v) ∙ q ∙ p)) l

apart : (m : ℕ) (n : Entities) → AreNumbered m n → (i j : ℕ) (d e : Entity) (t u : EntityType) →
    slice_get n i ≡ Some d → slice_get n j ≡ Some e →
    is_block d.role ≡ true → is_block e.role ≡ true → d.type ≡ Some t → e.type ≡ Some u → t.tag ≡ u.tag → i ≡ j
apart m [] a i j d e t u g k b c v w q = cc
apart m (x ∷ n) a zero zero d e t u g k b c v w q = refl
apart m (x ∷ n) a zero (suc j) d e t u g k b c v w q =
    absurd (not_later m x n a (subst (λ (d : Entity). is_block d.role ≡ true) (sym (some_is g)) b) t (subst (λ (d : Entity). d.type ≡ Some t) (sym (some_is g)) v) j e u k c w q)
  where
    some_is : Some x ≡ Some d → x ≡ d
    some_is g = cc
apart m (x ∷ n) a (suc i) zero d e t u g k b c v w q =
    absurd (not_later m x n a (subst (λ (d : Entity). is_block d.role ≡ true) (sym (some_is k)) c) u (subst (λ (d : Entity). d.type ≡ Some u) (sym (some_is k)) w) i d t g b v (sym q))
  where
    some_is : Some x ≡ Some e → x ≡ e
    some_is g = cc
apart m (x ∷ n) a (suc i) (suc j) d e t u g k b c v w q =
    ap suc (apart (if is_block x.role then m + 1 else m) n a.1 i j d e t u g k b c v w q)

pub blocks_differ : BlocksDiffer
blocks_differ s pure h b (stands_in t w) = apart 0 (known_at b) (extended_numbered (within_extends w) (text_numbered t))

-- ---- formals

kept_at_end : (n : Entities) (x d : Entity) (i : ℕ) → slice_get n i ≡ Some d → slice_get (n ++ x ∷ []) i ≡ Some d
kept_at_end [] x d i e = cc
kept_at_end (y ∷ n) x d zero e = e
kept_at_end (y ∷ n) x d (suc i) e = kept_at_end n x d i e

still_known : {n m : Entities} → Extends n m → (d : Entity) (i : ℕ) → slice_get n i ≡ Some d → slice_get m i ≡ Some d
still_known same d i e = e
still_known (with_other {m} x y b) d i e = kept_at_end m x d i (still_known y d i e)
still_known (with_block {m} x t y) d i e =
    kept_at_end m (entity x (block_type (blocks m) t) role.Block) d i (still_known y d i e)

in_left : (n m : Entities) (d : Entity) (i : ℕ) → slice_get n i ≡ Some d → slice_get (n ++ m) i ≡ Some d
in_left [] m d i e = cc
in_left (y ∷ n) m d zero e = e
in_left (y ∷ n) m d (suc i) e = in_left n m d i e

module _ (s : System) (all : List Declaration) where
  abbrev formal_at : ℕ → Declaration → Entity
  formal_at i d = entity d.name.text (option_map (reserved i) (declared_type s all d.declared_type)) role.Formal

  one_known : (ds : List Declaration) (j i : ℕ) (d : Declaration) → slice_get ds i ≡ Some d →
      slice_get (formal_entities s all j ds) i ≡ Some (formal_at (j + i) d)
  one_known [] j i d e = cc
  one_known (x ∷ ds) j zero d e = ap Some (ap (formal_at j) (some_is e) ∙ ap (λ k. formal_at k d) (plus j))
    where
      some_is : Some x ≡ Some d → x ≡ d
      some_is e = cc

      plus : (j : ℕ) → j ≡ j + 0
      plus j = grind arith
  one_known (x ∷ ds) j (suc i) d e = one_known ds (j + 1) i d e ∙ ap (λ k. Some (formal_at k d)) (plus j i)
    where
      plus : (j i : ℕ) → (j + 1) + i ≡ j + suc i
      plus j i = grind arith

first_known : (s : System) (all : List Declaration) (i : ℕ) (d : Declaration) → slice_get all i ≡ Some d →
    slice_get (formals_known s all) i ≡ Some (formal_at s all i d)
first_known s all i d e = one_known s all all 0 i d e ∙ ap (λ k. Some (formal_at s all k d)) plus
  where
    plus : 0 + i ≡ i
    plus = grind arith

text_knows : {s : System} {pure : RoutineName → Bool} {h : RoutineContext} {a : Site} → IsText s pure h a →
    (i : ℕ) (d : Declaration) → slice_get h.formals i ≡ Some d →
    slice_get (known_at a) i ≡ Some (formal_at s h.formals i d)
text_knows {s} (body {routine} g m e) i d k =
    in_left (formals_known s routine.formals) (locals_known s routine.formals routine.locals)
    (formal_at s routine.formals i d) i (first_known s routine.formals i d k)
text_knows {s} (precondition {routine} g m e w) i d k = first_known s routine.formals i d k
text_knows {s} (postcondition {routine} g m e w) i d k = first_known s routine.formals i d k
text_knows (invariant g w) i d k = cc

pub formals_known_all : FormalsKnown
formals_known_all s pure h b (stands_in t w) i d e = still_known (within_extends w)
    (formal_at s h.formals i d) i (text_knows t i d e)
