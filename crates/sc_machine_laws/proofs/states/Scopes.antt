-- The names that are known: each formal that a tag may name stands at its number, and tags name no other.
use Rattle.std.specs.List.{list_all}
use Rattle.std.specs.Option.{option_map}
use Rattle.std.specs.Prelude.{if◌then◌else◌, bytes_eq, nat_lt, not, slice_get}
use Rattle.std.proofs.Common.{◌&&◌, ◌+◌, ◌++◌, ◌<◌, ◌≤◌, Bool, List, None, Option, Some, [], ap, arith, false, refl, subst, suc, sym, true, zero, ℕ, ◌∙◌, ◌∷◌, ◌≡◌}
use Rattle.sc_tree.specs.Plain.{Declaration, DeclaredType, Expr, HandlerOf, HandlerTag, Name, Own, Separate, System}
use Rattle.sc_class.specs.Faults.Redefinition.{is_same_formal, is_same_formals}
use Rattle.sc_class.specs.Tables.Conformance.{is_expanded, is_same_mark, is_same_tag, is_same_type, type_class}
use Rattle.sc_class.specs.declared.identity.ClassId.{ClassId}
use Rattle.sc_rules.specs.entity_types.Tags.{is_any}
use Rattle.sc_rules.specs.declared.entity_types.entity_type.EntityType.{EntityType}
use Rattle.sc_rules.specs.declared.entity_types.tag.Reserved.TheVariants.{BlockName, Formal}
use Rattle.sc_rules.specs.declared.entity_types.tag.Tag.{Tag}
use Rattle.sc_rules.specs.declared.entity_types.tag.Tag.TheVariants as tag
use Rattle.sc_rules.specs.Names.{Entities, Entity, RoutineContext, attached, block_type, blocks, entity, formal_entities, formals_known, locals_known, reserved, test_type}
use Rattle.sc_rules.specs.ScopeLaws.{is_nameable_if_any, names_known}
use Rattle.sc_rules.specs.Types.{declared_tag, declared_type, is_foreign, is_marked, is_nameable, is_separate, number_of_named, typed}
use Rattle.sc_rules.specs.Typing.{HasType, Typing}
use Rattle.sc_rules.specs.declared.position.Context.{Context}
use Rattle.sc_rules.specs.declared.position.Position.{Position}
use Rattle.sc_rules.specs.declared.position.Role.TheVariants as role
use Rattle.sc_rules.proofs.Scopes.{HasScope, MayName, Scope, all_in_scope, declared_scope, has_scope, in_scope, named_is_nameable, none_named, type_in_scope}
use Rattle.sc_model.specs.Environments.{is_formal}
use Rattle.sc_machine_laws.specs.states.Typed.{Extends, Opens, ScopeStands, is_lent, lent_type, names_formal, type_names}
use Rattle.sc_machine_laws.specs.states.Typed as typed
use Rattle.sc_machine_laws.proofs.states.Environments.{behind_listed}
use Rattle.sc_machine_laws.proofs.states.Lists.{both, same_some}
use Rattle.sc_machine_laws.specs.states.Points.{Each}

no : {A : Type 0} → false ≡ true → A
no e = cc

joined : (a b : Bool) → a ≡ true → b ≡ true → (a && b) ≡ true
joined true b e f = f
joined false b e f = cc

-- ---- more names, and fewer

lent_append : (n m : Entities) (i : ℕ) → is_lent (slice_get n i) ≡ true → is_lent (slice_get (n ++ m) i) ≡ true
lent_append [] m i e = no e
lent_append (x ∷ n) m zero e = e
lent_append (x ∷ n) m (suc i) e = lent_append n m i e

not_lent : (m : Entities) (i : ℕ) → Each (λ (e : Entity). is_formal e.role ≡ false) m → is_lent (slice_get m i) ≡ true → ⊥
not_lent [] i u e = no e
not_lent (x ∷ m) zero u e = no (sym u.0 ∙ (both (is_formal x.role) (lent_type x.type) e).0)
not_lent (x ∷ m) (suc i) u e = not_lent m i u.1 e

lent_before : (n m : Entities) (i : ℕ) → Each (λ (e : Entity). is_formal e.role ≡ false) m → is_lent (slice_get (n ++ m) i) ≡ true → is_lent (slice_get n i) ≡ true
lent_before [] m i u e = absurd (not_lent m i u e)
lent_before (x ∷ n) m zero u e = e
lent_before (x ∷ n) m (suc i) u e = lent_before n m i u e

all_append : (f : Entity → Bool) (n m : Entities) → list_all f n ≡ true → list_all f m ≡ true → list_all f (n ++ m) ≡ true
all_append f [] m d e = e
all_append f (x ∷ n) m d e = let p = both (f x) (list_all f n) d in joined (f x) (list_all f (n ++ m)) p.0 (all_append f n m p.1 e)

all_before : (f : Entity → Bool) (n m : Entities) → list_all f (n ++ m) ≡ true → list_all f n ≡ true
all_before f [] m e = refl
all_before f (x ∷ n) m e = let p = both (f x) (list_all f (n ++ m)) e in joined (f x) (list_all f n) p.0 (all_before f n m p.1)

pub scope_more : (formals : List Declaration) (n m : Entities) → ScopeStands formals n → list_all (λ (e : Entity). type_names formals e.type) m ≡ true → ScopeStands formals (n ++ m)
scope_more formals n m z e = record {
  formals_are = λ i k. lent_append n m i (z.formals_are i k);
  tags_name = all_append (λ (e : Entity). type_names formals e.type) n m z.tags_name e;
}

pub scope_one : (formals : List Declaration) (n : Entities) (e : Entity) → ScopeStands formals n → type_names formals e.type ≡ true → ScopeStands formals (n ++ e ∷ [])
scope_one formals n e z k = scope_more formals n (e ∷ []) z (joined (type_names formals e.type) true k refl)

pub scope_before : (formals : List Declaration) (n m : Entities) → Extends n m → ScopeStands formals m → ScopeStands formals n
scope_before formals n m x z = record {
  formals_are = λ i k. lent_before n x.more i (behind_listed x.more x.no_formals) (subst (λ m. is_lent (slice_get m i) ≡ true) x.is_longer (z.formals_are i k));
  tags_name = all_before (λ (e : Entity). type_names formals e.type) n x.more (subst (λ m. list_all (λ (e : Entity). type_names formals e.type) m ≡ true) x.is_longer z.tags_name);
}

-- a block's names are of their own tags
pub scope_opens : (formals : List Declaration) {n m : Entities} {xs : List Name} {ts : List EntityType} → Opens n xs ts m → ScopeStands formals n → ScopeStands formals m
scope_opens formals typed.no_more z = z
scope_opens formals {n} (typed.one_more {x} {t} d) z = scope_opens formals d (scope_one formals n (entity x.text (block_type (blocks n) (Some t)) role.Block) z refl)

-- ---- declared types

-- what is in scope names formals of it
in_names : (b : Scope) (t : Tag) → in_scope b t ≡ true → names_formal b.formals t ≡ true
in_names b tag.Own e = refl
in_names b tag.Any e = refl
in_names b tag.None e = refl
in_names b (tag.With (Formal i)) e = e
in_names b (tag.With (BlockName j)) e = refl

type_in_names : (b : Scope) (o : Option EntityType) → type_in_scope b o ≡ true → type_names b.formals o ≡ true
type_in_names b None e = refl
type_in_names b (Some t) e = in_names b t.tag e

with_formals : List Declaration → Scope
with_formals formals = record { formals = formals; blocks = 0 }

-- a type that is declared where these formals may be named
pub declared_names : (s : System) (formals declared : List Declaration) → ((k : ℕ) → MayName (record { formals = formals; blocks = k }) declared) → (d : DeclaredType) →
    type_names formals (declared_type s declared d) ≡ true
declared_names s formals declared may d = type_in_names (record { formals = formals; blocks = 0 }) (declared_type s declared d) (declared_scope (record { formals = formals; blocks = 0 }) s declared (may 0) d)

pub own_names : (formals : List Declaration) (k : ℕ) → MayName (record { formals = formals; blocks = k }) formals
own_names formals k x i e = named_is_nameable x formals i e

locals_name : (s : System) (formals ds : List Declaration) → list_all (λ (e : Entity). type_names formals e.type) (locals_known s formals ds) ≡ true
locals_name s formals [] = refl
locals_name s formals (d ∷ ds) = joined (type_names formals (declared_type s formals d.declared_type)) (list_all (λ (e : Entity). type_names formals e.type) (locals_known s formals ds))
    (declared_names s formals formals (own_names formals) d.declared_type) (locals_name s formals ds)

pub scope_locals : (s : System) (formals ds : List Declaration) (n : Entities) → ScopeStands formals n → ScopeStands formals (n ++ locals_known s formals ds)
scope_locals s formals ds n z = scope_more formals n (locals_known s formals ds) z (locals_name s formals ds)

attached_names : (formals : List Declaration) (o : Option EntityType) → type_names formals o ≡ true → type_names formals (option_map attached o) ≡ true
attached_names formals None e = refl
attached_names formals (Some t) e = e

pub test_names : (formals : List Declaration) (h : RoutineContext) → ((k : ℕ) → MayName (record { formals = formals; blocks = k }) h.formals) → (d : Option DeclaredType) (a b : EntityType) →
    names_formal formals a.tag ≡ true → test_type h d (Some a) ≡ Some b → names_formal formals b.tag ≡ true
test_names formals h may None a b e i = subst (λ o. type_names formals o ≡ true) i e
test_names formals h may (Some d) a b e i =
    subst (λ o. type_names formals o ≡ true) i (attached_names formals (declared_type h.system h.formals d) (declared_names h.system formals h.formals may d))

-- ---- the formals

-- what a nameable one has is attached and foreign, if it has a type
nameable_lent : (s : System) (all : List Declaration) (i : ℕ) (d : Declaration) → is_nameable d ≡ true → lent_type (option_map (reserved i) (declared_type s all d.declared_type)) ≡ true
nameable_lent s all i d e = by d.declared_type (both (not d.declared_type.is_detachable) (is_separate d.declared_type.tag) e) (type_class s d.declared_type.class.text)
  where
    negated : (b : Bool) → not b ≡ true → b ≡ false
    negated true e = cc
    negated false e = refl

    of_class : (t : DeclaredType) (c : ClassId) → not t.is_detachable ≡ true → (b : Bool) →
        lent_type (option_map (reserved i) (if b then None else Some (record { attached = not t.is_detachable; tag = tag.Any; class = c }))) ≡ true
    of_class t c e true = refl
    of_class t c e false = by_mark (not t.is_detachable) e
      where
        by_mark : (m : Bool) → m ≡ true → lent_type (Some (reserved i (record { attached = m; tag = tag.Any; class = c }))) ≡ true
        by_mark true e = refl
        by_mark false e = no e

    of_tag : (t : DeclaredType) → not t.is_detachable ≡ true → (g : HandlerTag) → is_separate g ≡ true → (o : Option ClassId) →
        lent_type (option_map (reserved i) (typed t o (declared_tag all g))) ≡ true
    of_tag t e Own k o = no k
    of_tag t e (HandlerOf x) k o = no k
    of_tag t e Separate k None = refl
    of_tag t e Separate k (Some c) = of_class t c e (is_expanded c && is_marked t)

    by : (t : DeclaredType) → (not t.is_detachable ≡ true) × (is_separate t.tag ≡ true) → (o : Option ClassId) → lent_type (option_map (reserved i) (typed t o (declared_tag all t.tag))) ≡ true
    by t (e, k) o = of_tag t e t.tag k o

formals_lent : (s : System) (all ds : List Declaration) (k i : ℕ) → is_nameable_if_any (slice_get ds i) ≡ true → is_lent (slice_get (formal_entities s all k ds) i) ≡ true
formals_lent s all [] k i e = no e
formals_lent s all (d ∷ ds) k zero e = nameable_lent s all k d e
formals_lent s all (d ∷ ds) k (suc i) e = formals_lent s all ds (k + 1) i e

-- an attached formal of tag `any` is one that a tag may name
reserved_names : (s : System) (all : List Declaration) (k : ℕ) (d : Declaration) → slice_get all k ≡ Some d → type_names all (option_map (reserved k) (declared_type s all d.declared_type)) ≡ true
reserved_names s all k d at = by (declared_type s all d.declared_type) refl (declared_names s all all (own_names all) d.declared_type)
  where
    -- its tag was written so
    any_separate : (t : DeclaredType) (g : EntityType) → declared_type s all t ≡ Some g → (g.attached && is_any g.tag) ≡ true → (not t.is_detachable && is_separate t.tag) ≡ true
    any_separate t g e k = of_class (type_class s t.class.text) t.tag e
      where
        same : {x y : EntityType} → Some x ≡ Some y → x ≡ y
        same e = cc

        made : (c : ClassId) (w : Tag) (b : Bool) → (if b then None else Some (record { attached = not t.is_detachable; tag = w; class = c })) ≡ Some g → ((not t.is_detachable) && is_any w) ≡ true
        made c w true e = cc
        made c w false e = subst (λ (g : EntityType). (g.attached && is_any g.tag) ≡ true) (sym (same e)) k

        named : (c : ClassId) (o : Option ℕ) → typed t (Some c) (option_map (λ i. tag.With (Formal i)) o) ≡ Some g → (not t.is_detachable && false) ≡ true
        named c None e = cc
        named c (Some i) e = made c (tag.With (Formal i)) (is_expanded c && is_marked t) e

        of_class : (o : Option ClassId) (w : HandlerTag) → typed t o (declared_tag all w) ≡ Some g → (not t.is_detachable && is_separate w) ≡ true
        of_class None w e = cc
        of_class (Some c) Own e = made c tag.Own (is_expanded c && is_marked t) e
        of_class (Some c) Separate e = made c tag.Any (is_expanded c && is_marked t) e
        of_class (Some c) (HandlerOf x) e = named c (number_of_named x.text all) e

    by : (o : Option EntityType) → declared_type s all d.declared_type ≡ o → type_names all o ≡ true → type_names all (option_map (reserved k) o) ≡ true
    by None e i = refl
    by (Some t) e i = of_mark (t.attached && is_any t.tag) refl
      where
        of_mark : (b : Bool) → (t.attached && is_any t.tag) ≡ b → names_formal all (if b then tag.With (Formal k) else t.tag) ≡ true
        of_mark true j = ap is_nameable_if_any at ∙ any_separate d.declared_type t e j
        of_mark false j = i

formals_name : (s : System) (all ds : List Declaration) (k : ℕ) → ((i : ℕ) → slice_get ds i ≡ slice_get all (k + i)) → list_all (λ (e : Entity). type_names all e.type) (formal_entities s all k ds) ≡ true
formals_name s all [] k at = refl
formals_name s all (d ∷ ds) k at = joined (type_names all (option_map (reserved k) (declared_type s all d.declared_type))) (list_all (λ (e : Entity). type_names all e.type) (formal_entities s all (k + 1) ds))
    (reserved_names s all k d (sym (at 0 ∙ ap (slice_get all) here)))
    (formals_name s all ds (k + 1) (λ i. at (suc i) ∙ ap (slice_get all) (next i)))
  where
    here : k + 0 ≡ k
    here = omega arith

    next : (i : ℕ) → k + suc i ≡ k + 1 + i
    next i = omega arith

pub scope_entry : (s : System) (formals : List Declaration) → ScopeStands formals (formals_known s formals)
scope_entry s formals = record {
  formals_are = λ i e. formals_lent s formals formals 0 i e;
  tags_name = formals_name s formals formals 0 (λ i. ap (slice_get formals) (first i));
}
  where
    first : (i : ℕ) → i ≡ 0 + i
    first i = omega arith

-- ---- what expressions have

-- the names of blocks that tags name, with room
numbers_in : Tag → ℕ
numbers_in (tag.With (BlockName j)) = suc j
numbers_in (tag.With (Formal i)) = 0
numbers_in tag.Own = 0
numbers_in tag.Any = 0
numbers_in tag.None = 0

room_of : Option EntityType → ℕ
room_of None = 0
room_of (Some t) = numbers_in t.tag

room : Entities → ℕ
room [] = 0
room (e ∷ n) = room_of e.type + room n

scope_within : (formals : List Declaration) (k : ℕ) (t : Tag) → names_formal formals t ≡ true → numbers_in t ≤ k → in_scope (record { formals = formals; blocks = k }) t ≡ true
unfolding numbers_in
scope_within formals k tag.Own e l = refl
scope_within formals k tag.Any e l = refl
scope_within formals k tag.None e l = refl
scope_within formals k (tag.With (Formal i)) e l = e
scope_within formals k (tag.With (BlockName j)) e l = let m : j < k = omega (arith, l) in grind (arith, m)

type_within : (formals : List Declaration) (k : ℕ) (o : Option EntityType) → type_names formals o ≡ true → room_of o ≤ k → type_in_scope (record { formals = formals; blocks = k }) o ≡ true
unfolding room_of
type_within formals k None e l = refl
type_within formals k (Some t) e l = scope_within formals k t.tag e l

all_within : (formals : List Declaration) (k : ℕ) (n : Entities) → list_all (λ (e : Entity). type_names formals e.type) n ≡ true → room n ≤ k → all_in_scope (record { formals = formals; blocks = k }) n ≡ true
unfolding room
all_within formals k [] e l = refl
all_within formals k (x ∷ n) e l =
    let p = both (type_names formals x.type) (list_all (λ (e : Entity). type_names formals e.type) n) e in
    joined (type_in_scope (record { formals = formals; blocks = k }) x.type) (all_in_scope (record { formals = formals; blocks = k }) n)
    (type_within formals k x.type p.0 (omega (arith, l))) (all_within formals k n p.1 (omega (arith, l)))

-- where the names stand so, the tag of an expression names a formal that a tag may name, if it names one
pub expression_names : (formals : List Declaration) {h : RoutineContext} {c : Context} {q : Position} {n : Entities} {e : Expr} {y : Typing} → ((b : Scope) → HasScope b h) → ScopeStands formals n →
    HasType h c q n e y → (u : EntityType) → y.type ≡ Some u → names_formal formals u.tag ≡ true
expression_names formals {n} {y} results z d u e =
    let b : Scope = record { formals = formals; blocks = room n } in
    in_names b u.tag (subst (λ o. type_in_scope b o ≡ true) e (has_scope b (results b) (all_within formals (room n) n z.tags_name (omega arith)) d))

-- what a routine gives names nothing
pub result_names : (s : System) (b : Scope) (d : Option DeclaredType) (t : Option EntityType) → option_map (declared_type s []) d ≡ Some t → type_in_scope b t ≡ true
result_names s b None t e = cc
result_names s b (Some d) t e = subst (λ t. type_in_scope b t ≡ true) (same_some e) (declared_scope b s [] (none_named b) d)

-- ---- formals of what is redefined

nameable_same : (d e : Declaration) → is_same_formal d e ≡ true → is_nameable e ≡ true → is_nameable d ≡ true
nameable_same d e i k = by d.declared_type e.declared_type (both (bytes_eq d.name.text e.name.text) (is_same_type d.declared_type e.declared_type) i).1 k
  where
    marks : (a b : Bool) → is_same_mark a b ≡ true → not b ≡ true → not a ≡ true
    marks true true e f = f
    marks true false e f = no e
    marks false true e f = refl
    marks false false e f = refl

    tags : (t u : HandlerTag) → is_same_tag t u ≡ true → is_separate u ≡ true → is_separate t ≡ true
    tags Separate u e f = refl
    tags Own Separate e f = no e
    tags Own Own e f = no f
    tags Own (HandlerOf y) e f = no f
    tags (HandlerOf x) Separate e f = no e
    tags (HandlerOf x) Own e f = no f
    tags (HandlerOf x) (HandlerOf y) e f = no f

    by : (t u : DeclaredType) → is_same_type t u ≡ true → (not u.is_detachable && is_separate u.tag) ≡ true → (not t.is_detachable && is_separate t.tag) ≡ true
    by t u e k =
        let p = both (bytes_eq t.class.text u.class.text && is_same_mark t.is_detachable u.is_detachable) (is_same_tag t.tag u.tag) e in
        let m = both (not u.is_detachable) (is_separate u.tag) k in
        joined (not t.is_detachable) (is_separate t.tag)
        (marks t.is_detachable u.is_detachable (both (bytes_eq t.class.text u.class.text) (is_same_mark t.is_detachable u.is_detachable) p.0).1 m.0) (tags t.tag u.tag p.1 m.1)

formals_same : (ds es : List Declaration) → is_same_formals ds es ≡ true → (i : ℕ) → is_nameable_if_any (slice_get es i) ≡ true → is_nameable_if_any (slice_get ds i) ≡ true
formals_same [] [] e i k = k
formals_same [] (x ∷ es) e i k = no e
formals_same (d ∷ ds) [] e i k = no k
formals_same (d ∷ ds) (x ∷ es) e zero k = nameable_same d x (both (is_same_formal d x) (is_same_formals ds es) e).0 k
formals_same (d ∷ ds) (x ∷ es) e (suc i) k = formals_same ds es (both (is_same_formal d x) (is_same_formals ds es) e).1 i k

pub kept_names : (ds es : List Declaration) → is_same_formals ds es ≡ true → (k : ℕ) → MayName (record { formals = ds; blocks = k }) es
kept_names ds es e k x i j = formals_same ds es e i (named_is_nameable x es i j)
