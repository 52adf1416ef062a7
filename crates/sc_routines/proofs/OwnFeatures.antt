-- What a name of a class stands for, by what a call of it is judged by.
use Rattle.std.proofs.Common.{◌≡◌, ℕ, List, [], ◌∷◌, ◌++◌, Option, Some, None, max, refl, ap, sym, ◌∙◌}
use Rattle.std.specs.Option.{option_map}
use Rattle.sc_tree.specs.Plain as tree
use Rattle.sc_tree.specs.Plain.{System, FeatureKind}
use Rattle.sc_class.specs.Tables.Features.{DeclaredFeature, feature_named}
use Rattle.sc_rules.specs.declared.entity_types.entity_type.EntityType.{EntityType}
use Rattle.sc_rules.specs.Names.{RoutineName, Meaning, unknown, target_untyped, named, current, signature_of, signature_of_kind, meaning_of_feature}
use Rattle.sc_routines.specs.declared.own_feature.OwnFeature.{OwnFeature}
use Rattle.sc_routines.specs.declared.own_feature.OwnFeature.TheVariants as own
use Rattle.sc_code.specs.Operations.{Operation, CallSite}
use Rattle.sc_code.specs.Places.{Setting, here, known_type, feature_type}
use Rattle.sc_code.specs.Emitted.{attribute_code, kind_code, kind_depth, name_code, name_depth, site_of, call_code}
use Rattle.sc_routines.specs.Parts.{own_feature, own_kind, site_named, slot_code}

-- ---- by what is meant

abbrev pub by_routine : Option RoutineName → Option EntityType → OwnFeature
by_routine None t = own.Attribute t
by_routine (Some f) t = own.Routine t

abbrev pub own_meant : Meaning → OwnFeature
own_meant unknown = own.Unknown
own_meant target_untyped = own.Unknown
own_meant (named g) = by_routine g.routine (known_type g.gives)

kind_meant : (s : System) (t : EntityType) (f : DeclaredFeature) (k : FeatureKind) → own_meant (named (signature_of_kind s t f k)) ≡ own_kind s t k
kind_meant s t f (tree.Attribute d) = refl
kind_meant s t f (tree.Routine r) = refl

pub own_meant-is : (s : System) (t : EntityType) (f : Option DeclaredFeature) → own_meant (meaning_of_feature s t f) ≡ own_feature s t f
own_meant-is s t None = refl
own_meant-is s t (Some f) = kind_meant s t f f.feature.kind

abbrev pub type_meant : Meaning → Option EntityType
type_meant unknown = None
type_meant target_untyped = None
type_meant (named g) = known_type g.gives

pub type_meant-is : (s : System) (t : EntityType) (f : Option DeclaredFeature) → type_meant (meaning_of_feature s t f) ≡ feature_type s t f
type_meant-is s t None = refl
type_meant-is s t (Some f) = refl

abbrev pub site_meant : List ℕ → ℕ → EntityType → List EntityType → Meaning → Option CallSite
site_meant x c t ts unknown = None
site_meant x c t ts target_untyped = None
site_meant x c t ts (named g) = Some (site_of x c t ts g)

pub site_meant-is : (s : System) (x : List ℕ) (c : ℕ) (t : EntityType) (ts : List EntityType) (f : Option DeclaredFeature) →
    site_meant x c t ts (meaning_of_feature s t f) ≡ option_map (λ (f : DeclaredFeature). site_of x c t ts (signature_of s t f)) f
site_meant-is s x c t ts None = refl
site_meant-is s x c t ts (Some f) = refl

-- ---- what is added

abbrev pub called : (CallSite → Operation) → Option CallSite → List Operation
called op None = []
called op (Some g) = op g ∷ []

pub call_code-is : (op : CallSite → Operation) (s : System) (x : List ℕ) (c : ℕ) (t : EntityType) (ts : List EntityType) (f : Option DeclaredFeature) →
    call_code op s x c t ts f ≡ called op (option_map (λ (f : DeclaredFeature). site_of x c t ts (signature_of s t f)) f)
call_code-is op s x c t ts None = refl
call_code-is op s x c t ts (Some f) = refl

pub call_added : (op : CallSite → Operation) (s : System) (x : List ℕ) (c : ℕ) (t : EntityType) (ts : List EntityType) (r : Option CallSite) → r ≡ site_named s x c t ts →
    call_code op s x c t ts (feature_named s t.class x) ≡ called op r
call_added op s x c t ts r e = call_code-is op s x c t ts (feature_named s t.class x) ∙ sym (ap (called op) e)

pub entity_read : (h : Setting) (x : List ℕ) (actuals call : List Operation) (k : ℕ) (t : Option EntityType) (f : Option DeclaredFeature) →
    name_code h x actuals call (Some (k, t)) f ≡ slot_code k t
entity_read h x actuals call k None f = refl
entity_read h x actuals call k (Some t) f = refl

abbrev pub own_code : List ℕ → List Operation → List Operation → OwnFeature → List Operation
own_code x actuals call own.Unknown = []
own_code x actuals call (own.Attribute t) = attribute_code x t
own_code x actuals call (own.Routine t) = actuals ++ call

own_kind_code : (h : Setting) (x : List ℕ) (actuals call : List Operation) (k : FeatureKind) →
    kind_code h x actuals call k ≡ own_code x actuals call (own_kind h.system (current (here h)) k)
own_kind_code h x actuals call (tree.Attribute d) = refl
own_kind_code h x actuals call (tree.Routine r) = refl

pub own_code-is : (h : Setting) (x : List ℕ) (actuals call : List Operation) (f : Option DeclaredFeature) →
    name_code h x actuals call None f ≡ own_code x actuals call (own_feature h.system (current (here h)) f)
own_code-is h x actuals call None = refl
own_code-is h x actuals call (Some f) = own_kind_code h x actuals call f.feature.kind

-- ---- what it gives, and how many operands it needs

abbrev pub own_type : OwnFeature → Option EntityType
own_type own.Unknown = None
own_type (own.Attribute t) = t
own_type (own.Routine t) = t

own_kind_type : (s : System) (t : EntityType) (f : DeclaredFeature) (k : FeatureKind) → known_type (signature_of_kind s t f k).gives ≡ own_type (own_kind s t k)
own_kind_type s t f (tree.Attribute d) = refl
own_kind_type s t f (tree.Routine r) = refl

pub own_type-is : (s : System) (t : EntityType) (f : Option DeclaredFeature) → feature_type s t f ≡ own_type (own_feature s t f)
own_type-is s t None = refl
own_type-is s t (Some f) = own_kind_type s t f f.feature.kind

abbrev pub own_depth : ℕ → OwnFeature → ℕ
own_depth d own.Unknown = 1
own_depth d (own.Attribute t) = 1
own_depth d (own.Routine t) = max 1 d

own_kind_depth : (s : System) (t : EntityType) (d : ℕ) (k : FeatureKind) → kind_depth d k ≡ own_depth d (own_kind s t k)
own_kind_depth s t d (tree.Attribute u) = refl
own_kind_depth s t d (tree.Routine r) = refl

pub own_depth-is : (s : System) (t : EntityType) (d : ℕ) (f : Option DeclaredFeature) → name_depth d None f ≡ own_depth d (own_feature s t f)
own_depth-is s t d None = refl
own_depth-is s t d (Some f) = own_kind_depth s t d f.feature.kind
