-- Laws of formals and names of separate blocks: where they are in scope, by which number, and which tags name them.
use Rattle.std.specs.Prelude.{◌≡◌, ℕ, Bool, true, false, List, Option, Some, None, nat_lt, slice_get}
use Rattle.std.specs.Option.{option_map}
use Rattle.sc_tree.specs.Plain.{System, Declaration, Expr}
use Rattle.sc_rules.specs.declared.entity_types.tag.Reserved.TheVariants.{Formal, BlockName}
use Rattle.sc_rules.specs.declared.entity_types.tag.Tag.{Tag}
use Rattle.sc_rules.specs.declared.entity_types.tag.Tag.TheVariants as tag
use Rattle.sc_rules.specs.declared.entity_types.entity_type.EntityType.{EntityType}
use Rattle.sc_rules.specs.declared.position.Context.{Context}
use Rattle.sc_rules.specs.declared.position.Position.{Position}
use Rattle.sc_rules.specs.declared.position.Role.TheVariants as role
use Rattle.sc_rules.specs.Types.{is_nameable, declared_type}
use Rattle.sc_rules.specs.Names.{RoutineName, RoutineContext, Entity, Entities, blocks, entity, reserved, is_block}
use Rattle.sc_rules.specs.Typing.{typing, HasType}
use Rattle.sc_rules.specs.Sites.{Site, expression, instruction, instructions, branches}
use Rattle.sc_rules.specs.SystemLaws.{Stands}

-- the entities that are known there
abbrev pub known_at : Site → Entities
known_at (expression c k n e) = n
known_at (instruction n i) = n
known_at (instructions n is) = n
known_at (branches n bs) = n

-- ---- numbers

-- The names of separate blocks that are known at one place have different tags.
abbrev pub BlocksDiffer : Type 0
BlocksDiffer = (s : System) (pure : RoutineName → Bool) (h : RoutineContext) (b : Site) → Stands s pure h b →
    (i j : ℕ) (d e : Entity) (t u : EntityType) → slice_get (known_at b) i ≡ Some d →
    slice_get (known_at b) j ≡ Some e →
    is_block d.role ≡ true → is_block e.role ≡ true → d.type ≡ Some t → e.type ≡ Some u → t.tag ≡ u.tag → i ≡ j

-- Each formal is known wherever its routine's text goes, and its number is its place among the formals.
abbrev pub FormalsKnown : Type 0
FormalsKnown = (s : System) (pure : RoutineName → Bool) (h : RoutineContext) (b : Site) → Stands s pure h b →
    (i : ℕ) (d : Declaration) → slice_get h.formals i ≡ Some d →
    let t = option_map (reserved i) (declared_type s h.formals d.declared_type) in
    slice_get (known_at b) i ≡ Some (entity d.name.text t role.Formal)

-- ---- tags

abbrev pub is_nameable_if_any : Option Declaration → Bool
is_nameable_if_any None = false
is_nameable_if_any (Some d) = is_nameable d

-- The tag names nothing, or an attached separate formal among these, or one of this number of names of separate
-- blocks.
abbrev pub names_known : List Declaration → ℕ → Tag → Bool
names_known formals j (tag.With (Formal i)) = is_nameable_if_any (slice_get formals i)
names_known formals j (tag.With (BlockName i)) = nat_lt i j
names_known formals j tag.Own = true
names_known formals j tag.Any = true
names_known formals j tag.None = true

-- the law of each site of a system, well formed or not
abbrev pub WhereverItStands : (RoutineContext → Site → Type 0) → Type 0
WhereverItStands law =
    (s : System) (pure : RoutineName → Bool) (h : RoutineContext) (b : Site) → Stands s pure h b → law h b

-- The tag of an expression names a formal that is reserved, or a name of a separate block that is in scope at it.
abbrev pub TagsNameKnown : Type 0
TagsNameKnown = WhereverItStands λ h b. (c : Context) (k : Position) (n : Entities) (e : Expr) (t : EntityType)
    (is_separate : Bool) → b ≡ expression c k n e → HasType h c k n e (typing (Some t) is_separate) →
    names_known h.formals (blocks n) t.tag ≡ true

-- So does the tag of each entity that is known.
abbrev pub EntitiesNameKnown : Type 0
EntitiesNameKnown = WhereverItStands λ h b. (i : ℕ) (e : Entity) (t : EntityType) →
    slice_get (known_at b) i ≡ Some e → e.type ≡ Some t → names_known h.formals (blocks (known_at b)) t.tag ≡ true
