-- Which tags, marks, classes and types conform.
use Rattle.std.proofs.Common.{◌≡◌, Bool, true, false, List, [], ◌∷◌, refl}
use Rattle.std.specs.Prelude.{codes, map}
use Rattle.sc_tree.specs.Plain.{System}
use Rattle.sc_class.specs.declared.identity.ClassId.{ClassId}
use Rattle.sc_class.specs.declared.identity.ClassId.TheVariants as class
use Rattle.sc_class.specs.Tables.Conformance.{is_expanded}
use Rattle.sc_rules.specs.declared.entity_types.tag.Reserved.TheVariants.{Formal, BlockName}
use Rattle.sc_rules.specs.declared.entity_types.tag.Tag.{Tag}
use Rattle.sc_rules.specs.declared.entity_types.tag.Tag.TheVariants as tag
use Rattle.sc_rules.specs.declared.entity_types.entity_type.EntityType.{EntityType}
use Rattle.sc_rules.specs.entity_types.Tags.{tag_conforms}
use Rattle.sc_rules.specs.entity_types.Conformance.{void, integer, boolean, mark_conforms, conforms}
use Rattle.sc_model.proofs.Texts.{heir_of, procedure, application, system}
use Rattle.sc_model.proofs.Texts as text

-- ---- tags

abbrev pub x : Tag
x = tag.With (Formal 0)

abbrev pub y : Tag
y = tag.With (Formal 1)

abbrev block : Tag
block = tag.With (BlockName 0)

abbrev tags_do : List (Tag × Tag) → List Bool
tags_do ts = map (λ (t : Tag × Tag). tag_conforms t.0 t.1) ts

pub every_tag_to_any :
    tags_do ((tag.Own, tag.Any) ∷ (tag.Any, tag.Any) ∷ (x, tag.Any) ∷ (tag.None, tag.Any) ∷ []) ≡ true ∷ true ∷ true ∷ true ∷ []
every_tag_to_any = refl

pub none_to_every_tag : tags_do ((tag.None, tag.Own) ∷ (tag.None, x) ∷ (tag.None, tag.None) ∷ []) ≡ true ∷ true ∷ true ∷ []
none_to_every_tag = refl

pub equal_tags : tags_do ((tag.Own, tag.Own) ∷ (x, x) ∷ (block, block) ∷ []) ≡ true ∷ true ∷ true ∷ []
equal_tags = refl

pub other_reserved : tags_do ((x, y) ∷ (x, block) ∷ (x, tag.Own) ∷ (tag.Own, x) ∷ []) ≡ false ∷ false ∷ false ∷ false ∷ []
other_reserved = refl

pub other_tags :
    tags_do ((tag.Any, tag.Own) ∷ (tag.Any, x) ∷ (tag.Own, tag.None) ∷ (tag.Any, tag.None) ∷ (x, tag.None) ∷ [])
    ≡ false ∷ false ∷ false ∷ false ∷ false ∷ []
other_tags = refl

-- ---- marks

abbrev marks_do : EntityType → EntityType → Bool
marks_do t u = mark_conforms t.attached u.attached

pub marks : marks_do integer integer ∷ marks_do integer void ∷ marks_do void void ∷ marks_do void integer ∷ [] ≡ true ∷ true ∷ true ∷ false ∷ []
marks = refl

pub expanded : is_expanded integer.class ∷ is_expanded boolean.class ∷ is_expanded void.class ∷ [] ≡ true ∷ true ∷ false ∷ []
expanded = refl

-- ---- classes: each but the first inherits from the one before it

abbrev in_line : System
in_line = system (application (procedure (codes "make") [] [] ∷ []) []
    ∷ heir_of (codes "application") [] (text.class (codes "heir") [] [] [])
    ∷ heir_of (codes "heir") [] (text.class (codes "leaf") [] [] []) ∷ [])

abbrev pub first : ClassId
first = class.Declared 0

abbrev heir : ClassId
heir = class.Declared 1

abbrev leaf : ClassId
leaf = class.Declared 2

abbrev pub attached : Tag → ClassId → EntityType
attached t k = record { attached = true; tag = t; class = k }

abbrev pub detachable : Tag → ClassId → EntityType
detachable t k = record { attached = false; tag = t; class = k }

-- attached types of these classes
abbrev classes_do : ClassId → ClassId → Bool
classes_do a b = conforms in_line (attached tag.Own a) (attached tag.Own b)

pub to_ancestors : classes_do leaf first ∷ classes_do heir heir ∷ classes_do first leaf ∷ [] ≡ true ∷ true ∷ false ∷ []
to_ancestors = refl

pub to_any : classes_do leaf class.Any ∷ classes_do class.Any class.Any ∷ classes_do class.Any first ∷ [] ≡ true ∷ true ∷ false ∷ []
to_any = refl

pub none_to_references : classes_do class.None heir ∷ classes_do class.None class.Any ∷ classes_do heir class.None ∷ [] ≡ true ∷ true ∷ false ∷ []
none_to_references = refl

pub expanded_to_themselves : classes_do class.Integer class.Integer ∷ classes_do class.Boolean class.Boolean ∷ [] ≡ true ∷ true ∷ []
expanded_to_themselves = refl

pub expanded_to_no_other :
    classes_do class.Integer class.Boolean ∷ classes_do class.Boolean class.Integer ∷ classes_do class.Integer class.Any
    ∷ classes_do class.Boolean class.Any ∷ []
    ≡ false ∷ false ∷ false ∷ false ∷ []
expanded_to_no_other = refl

pub no_other_to_expanded :
    classes_do first class.Integer ∷ classes_do class.None class.Integer ∷ classes_do class.None class.Boolean ∷ [] ≡ false ∷ false ∷ false ∷ []
no_other_to_expanded = refl

-- ---- types: one conforms where its class, its mark and its tag do

abbrev heir_of_a_formal : EntityType
heir_of_a_formal = attached x heir

abbrev any_of_the_first : EntityType
any_of_the_first = detachable tag.Any first

pub types_to_types :
    conforms in_line heir_of_a_formal any_of_the_first ∷ conforms in_line any_of_the_first heir_of_a_formal ∷ [] ≡ true ∷ false ∷ []
types_to_types = refl

pub void_to_types :
    conforms in_line void any_of_the_first ∷ conforms in_line void heir_of_a_formal ∷ conforms in_line void integer ∷ [] ≡ true ∷ false ∷ false ∷ []
void_to_types = refl
