-- Types that say where objects are, and what is assigned or created.
use Rattle.std.proofs.Common.{◌≡◌, ◌<◌, ℕ, suc, Bool, true, false, List, [], ◌∷◌, length, Option, Some, None, refl, sym, ap, ◌∙◌, arith}
use Rattle.std.specs.Prelude.{Contains, ◌||◌, not, is_some, if◌then◌else◌}
use Rattle.std.specs.Option.{option_map}
use Rattle.std.specs.List.{list_all}
use Rattle.sc_tree.specs.Plain.{System, Name, CreationCall, Expr, Head}
use Rattle.sc_class.specs.declared.identity.ClassId.{ClassId}
use Rattle.sc_class.specs.declared.identity.ClassId.TheVariants as class
use Rattle.sc_class.specs.Tables.Conformance.{is_expanded}
use Rattle.sc_class.proofs.Items.{some_is}
use Rattle.sc_rules.specs.declared.entity_types.tag.Tag.{Tag}
use Rattle.sc_rules.specs.declared.entity_types.tag.Tag.TheVariants as tag
use Rattle.sc_rules.specs.declared.entity_types.entity_type.EntityType.{EntityType}
use Rattle.sc_rules.specs.entity_types.Combiners.{combined_result}
use Rattle.sc_rules.specs.declared.position.Context.{Context}
use Rattle.sc_rules.specs.declared.position.Role.TheVariants as role
use Rattle.sc_rules.specs.Names.{RoutineContext, Entity, Entities, entity, Signature, named, is_local, blocks, block_type, test_type, unknown_assignee, unassignable, to_local, to_attribute}
use Rattle.sc_rules.specs.Typing.{Gives, by_test, by_both, nothing}
use Rattle.sc_rules.specs.Sites.{Reserves, no_more, one_more}
use Rattle.sc_rules.specs.TextRules.{is_made_without_procedure, is_made_by}
use Rattle.sc_rules.specs.InstructionLaws as laws
use Rattle.sc_rules.specs.InstructionLaws.{IsOfType, is_attribute, MayBeCreated, made_without_procedure, made_by}
use Rattle.sc_rules.proofs.Typings.{all_append}
use Rattle.sc_code.proofs.TypedOperands.{same_signature}

-- ---- lists

pub first_of : {A : Type 0} (x : A) (xs : List A) → Contains (x ∷ xs) x
first_of x xs = (0, omega arith, refl)

pub later_of : {A : Type 0} (y : A) (xs : List A) (x : A) → Contains xs x → Contains (y ∷ xs) x
later_of y xs x (k, l, e) = (suc k, more l, e)
  where
    more : k < length xs → suc k < suc (length xs)
    more l = omega arith

-- ---- where objects are

-- A tag other than `none` says on which handler objects are, or that they are on any.
abbrev pub is_somewhere : Tag → Bool
is_somewhere tag.Own = true
is_somewhere tag.Any = true
is_somewhere (tag.With x) = true
is_somewhere tag.None = false

abbrev pub lies_somewhere : Option EntityType → Bool
lies_somewhere None = true
lies_somewhere (Some t) = is_somewhere t.tag

abbrev pub lies_if_local : Entity → Bool
lies_if_local e = not (is_local e.role) || lies_somewhere e.type

-- the types of locals are such
abbrev pub locals_lie : Entities → Bool
locals_lie n = list_all lies_if_local n

pub somewhere : (g : Tag) → (g ≡ tag.None → ⊥) → is_somewhere g ≡ true
somewhere tag.Own f = refl
somewhere tag.Any f = refl
somewhere (tag.With x) f = refl
somewhere tag.None f = absurd (f refl)

-- that of an attribute of Current
pub own_attribute_lies : (k : ℕ) (o : Option EntityType) (t : EntityType) → ((u : EntityType) → o ≡ Some u → u.tag ≡ tag.None → ⊥) →
    option_map (combined_result (record { attached = true; tag = tag.Own; class = class.Declared k })) o ≡ Some t → is_somewhere t.tag ≡ true
own_attribute_lies k None t f e = cc
own_attribute_lies k (Some u) t f e = by (is_expanded u.class) e
  where
    by : (b : Bool) →
        Some (if b then record { attached = true; tag = tag.Own; class = u.class }
        else record { attached = u.attached; tag = u.tag; class = u.class }) ≡ Some t →
        is_somewhere t.tag ≡ true
    by true e = ap (λ (t : EntityType). is_somewhere t.tag) (sym (some_is _ _ e))
    by false e = ap (λ (t : EntityType). is_somewhere t.tag) (sym (some_is _ _ e)) ∙ somewhere u.tag (f u refl)

-- ---- what is assigned or created

pub of_local : {t : EntityType} {o : Option EntityType} → IsOfType t (to_local o) → o ≡ Some t
of_local laws.is_local = refl

pub of_attribute : {t : EntityType} {o : Option EntityType} → IsOfType t (to_attribute o) → o ≡ Some t
of_attribute is_attribute = refl

pub of_nothing : {t : EntityType} → IsOfType t unassignable → ⊥
of_nothing h = elim h [ ]

pub of_unknown : {t : EntityType} → IsOfType t unknown_assignee → ⊥
of_unknown h = elim h [ ]

made_of_class : (s : System) (c : ClassId) → is_made_without_procedure s c ≡ true → (k : ℕ) × (c ≡ class.Declared k)
made_of_class s (class.Declared k) e = (k, refl)
made_of_class s class.Any e = cc
made_of_class s class.None e = cc
made_of_class s class.Integer e = cc
made_of_class s class.Boolean e = cc

made_by_class : (s : System) (c : ClassId) (x : Name) → is_made_by s c x ≡ true → (k : ℕ) × (c ≡ class.Declared k)
made_by_class s (class.Declared k) x e = (k, refl)
made_by_class s class.Any x e = cc
made_by_class s class.None x e = cc
made_by_class s class.Integer x e = cc
made_by_class s class.Boolean x e = cc

pub class_made : {h : RoutineContext} {t : EntityType} {o : Option CreationCall} → MayBeCreated h t o → (k : ℕ) × (t.class ≡ class.Declared k)
class_made {h} {t} (made_without_procedure e) = made_of_class h.system t.class e
class_made {h} {t} (made_by {k = k} e m c) = made_by_class h.system t.class k.name e

gives_nothing : (o : Option (Option EntityType)) → is_some o ≡ false → o ≡ None
gives_nothing None e = refl
gives_nothing (Some t) e = cc

pub gives_none : (k g : Signature) → named k ≡ named g → is_some g.gives ≡ false → k.gives ≡ None
gives_none k g m e = ap (λ (g : Signature). g.gives) (same_signature k g m) ∙ gives_nothing g.gives e

-- ---- names that become known

pub given_lie : {h : RoutineContext} {c : Context} {n m : Entities} {e : Expr} → Gives h c n e m → locals_lie n ≡ true → locals_lie m ≡ true
given_lie {h} {n} (by_test {d = d} {x = x} {t = t} v) l = all_append lies_if_local n (entity x.text (test_type h d t.type) role.Test ∷ []) l refl
given_lie (by_both k f g) l = given_lie g (given_lie f l)
given_lie (nothing f) l = l

pub reserved_lie : {h : RoutineContext} {n m o : Entities} {ds : List Head} → Reserves h n m ds o → locals_lie m ≡ true → locals_lie o ≡ true
reserved_lie no_more l = l
reserved_lie (one_more {m = m} {d = d} {t = t} v w) l =
    reserved_lie w (all_append lies_if_local m (entity d.name.text (block_type (blocks m) t.type) role.Block ∷ []) l refl)
