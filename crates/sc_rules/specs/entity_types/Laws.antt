-- Laws of conformance.
use Rattle.std.specs.Prelude.{◌≡◌, ◌<◌, ◌⊎◌, ◌↔◌, ℕ, true, not, ◌&&◌, length}
use Rattle.sc_class.specs.Plain.{System}
use Rattle.sc_class.specs.declared.identity.ClassId.{ClassId}
use Rattle.sc_class.specs.declared.identity.ClassId.TheVariants as class
use Rattle.sc_class.specs.Tables.Conformance.{is_expanded, class_conforms}
use Rattle.sc_rules.specs.declared.entity_types.tag.Reserved.{Reserved}
use Rattle.sc_rules.specs.declared.entity_types.tag.Tag.{Tag}
use Rattle.sc_rules.specs.declared.entity_types.tag.Tag.TheVariants as tag
use Rattle.sc_rules.specs.declared.entity_types.entity_type.EntityType.{EntityType}
use Rattle.sc_rules.specs.entity_types.Tags.{tag_conforms}
use Rattle.sc_rules.specs.entity_types.Conformance.{void, conforms}
use Rattle.sc_rules.specs.entity_types.Handlers.{LiesOn}

-- the class is one that every system has, or one that this system declares
abbrev pub IsClassOf : System → ClassId → Type 0
IsClassOf s (class.Declared k) = k < length s.classes
IsClassOf s _ = Unit {0}

-- Each type conforms to itself.
abbrev pub Reflexive : Type 0
Reflexive = (s : System) (t : EntityType) → IsClassOf s t.class → conforms s t t ≡ true

-- What conforms to a type conforms to all that this type conforms to.
abbrev pub Transitive : Type 0
Transitive = (s : System) (t u v : EntityType) → conforms s t u ≡ true → conforms s u v ≡ true → conforms s t v ≡ true

-- INTEGER and BOOLEAN conform to themselves alone, and nothing else conforms to them.
abbrev pub ExpandedAlone : Type 0
ExpandedAlone =
    (s : System) (a b : ClassId) → (is_expanded a ≡ true) ⊎ (is_expanded b ≡ true) →
    (class_conforms s a b ≡ true) ↔ (a ≡ b)

-- What conforms to an attached type of tag `own` is attached, and its tag is `own` or Void's.
abbrev pub AttachedOwn : Type 0
AttachedOwn =
    (s : System) (t u : EntityType) → conforms s t u ≡ true → u.attached ≡ true → u.tag ≡ tag.Own →
    (t.attached ≡ true) × ((t.tag ≡ tag.Own) ⊎ (t.tag ≡ tag.None))

-- Void conforms to the detachable types of references, whatever their tag, and to no others.
abbrev pub VoidFits : Type 0
VoidFits = (s : System) (u : EntityType) → conforms s void u ≡ (not u.attached && not (is_expanded u.class))

-- A tag conforms to another exactly where each handler on which its objects may lie is one of the other's, from
-- wherever it is seen.
abbrev pub IsWithin : Tag → Tag → Type 0
IsWithin t u = (current : ℕ) (of : Reserved → ℕ) (handler : ℕ) → LiesOn t current of handler →
    LiesOn u current of handler

abbrev pub TagsAreHandlers : Type 0
TagsAreHandlers = (t u : Tag) → (tag_conforms t u ≡ true → IsWithin t u) × (IsWithin t u → tag_conforms t u ≡ true)
