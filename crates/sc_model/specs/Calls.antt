-- Calls (ECMA-367, 8.23): on the same handler the version of the object's class is entered; another handler gets a
-- request (after Nienaltowski's thesis).
use Rattle.std.specs.Prelude.{ℕ, Bool, false, not, ◌&&◌, ◌||◌, ◌==◌, List, [], ◌∷◌, Option, Some, None, if◌then◌else◌}
use Rattle.sc_tree.specs.Plain.{System, FeatureKind, Attribute, Routine}
use Rattle.sc_class.specs.declared.identity.ClassId.TheVariants as class
use Rattle.sc_class.specs.Tables.Conformance.{is_expanded}
use Rattle.sc_class.specs.Tables.Features.{DeclaredFeature, feature_named}
use Rattle.sc_rules.specs.declared.entity_types.tag.Tag.{Tag}
use Rattle.sc_rules.specs.declared.entity_types.tag.Tag.TheVariants as tag
use Rattle.sc_rules.specs.declared.entity_types.entity_type.EntityType.{EntityType}
use Rattle.sc_rules.specs.Types.{is_controlled}
use Rattle.sc_rules.specs.Names.{FormalType, of_type, of_none, of_expanded, Signature, current, signature_of}
use Rattle.sc_model.specs.declared.cause.Cause.TheVariants as cause
use Rattle.sc_model.specs.Values.{Reference, Value, Integer, Boolean, Void, Attached, Operand}
use Rattle.sc_model.specs.Environments.{binding_named}
use Rattle.sc_model.specs.Objects.{Object, object_numbered}
use Rattle.sc_model.specs.Routines.{place_in, version_of}
use Rattle.sc_model.specs.Steps.{Point, Unqualified, Qualified, Enters, Requests, Step, Does, fails, stuck, reads_attribute}

-- ---- lock passing: which calls do

-- a controlled reference goes to an attached formal
abbrev pub passes_one : FormalType → EntityType → Bool
passes_one (of_type f) a = f.attached && is_controlled a && not (is_expanded a.class)
passes_one of_none a = false
passes_one of_expanded a = false

abbrev pub passes_rights : List FormalType → List Operand → Bool
passes_rights [] us = false
passes_rights (f ∷ fs) [] = false
passes_rights (f ∷ fs) (u ∷ us) = passes_one f u.type || passes_rights fs us

-- ---- unqualified calls

-- what a call gives, where that is known: nothing, or a value of a type
abbrev pub given_by : Option (Option EntityType) → Option (Option EntityType)
given_by None = Some None
given_by (Some (Some t)) = Some (Some t)
given_by (Some None) = None

abbrev pub enters_unqualified : Reference → List ℕ → List Operand → Option (Option EntityType) → Point → Step
enters_unqualified me x us None p = stuck p
enters_unqualified me x us (Some gives) p = Does (Enters Unqualified me x us gives) p

abbrev pub calls_own : System → Reference → List ℕ → Option DeclaredFeature → List Operand → Point → Step
calls_own s me x None us p = stuck p
calls_own s me x (Some f) us p =
    enters_unqualified me x us (given_by (signature_of s (current (place_in s p.text)) f).gives) p

-- a routine of Current with these actuals
abbrev pub calls_unqualified : System → Reference → List ℕ → Option (List Operand × List Operand) → Point → Step
calls_unqualified s me x None p = stuck p
calls_unqualified s me x (Some (us, vs)) p =
    calls_own s me x (feature_named s (class.Declared p.text.class) x) us (record p { values = vs })

-- ---- qualified calls

abbrev pub calls_kind : Reference → List ℕ → List Operand → Option EntityType → Object → FeatureKind → Point → Step
calls_kind r x us (Some t) o (Attribute d) p = reads_attribute (binding_named x o.attributes) t p
calls_kind r x us None o (Attribute d) p = stuck p
calls_kind r x us gives o (Routine c) p = Does (Enters Qualified r x us gives) p

-- an attribute of the object is read, or a routine entered
abbrev pub calls_version : Reference → List ℕ → List Operand → Option EntityType → Option Object →
    Option DeclaredFeature → Point → Step
calls_version r x us gives (Some o) (Some f) p = calls_kind r x us gives o f.feature.kind p
calls_version r x us gives o f p = stuck p

-- a request; but a target of tag `own` lies on the current handler
abbrev pub requests : Reference → Tag → List ℕ → List Operand → Option EntityType → Bool → Point → Step
requests r tag.Own x us gives passes p = fails cause.ForeignObject p
requests r (tag.With y) x us gives passes p = Does (Requests r x us gives passes) p
requests r tag.Any x us gives passes p = Does (Requests r x us gives passes) p
requests r tag.None x us gives passes p = Does (Requests r x us gives passes) p

-- the object's own handler runs it, whatever the type of the target
abbrev pub calls_object : System → Reference → Reference → EntityType → List ℕ → List Operand → Signature →
    Option (Option EntityType) → Point → Step
calls_object s me r t x us g None p = stuck p
calls_object s me r t x us g (Some gives) p =
    if r.handler == me.handler
    then calls_version r x us gives (object_numbered r.number p.objects) (version_of s r.class x) p
    else requests r t.tag x us gives (passes_rights g.formals us) p

abbrev pub calls_on : System → Reference → List ℕ → Value → EntityType → Option DeclaredFeature →
    List Operand → Point → Step
calls_on s me x Void t f us p = fails cause.VoidTarget p
calls_on s me x (Integer z) t f us p = stuck p
calls_on s me x (Boolean b) t f us p = stuck p
calls_on s me x (Attached r) t None us p = stuck p
calls_on s me x (Attached r) t (Some f) us p =
    let g : Signature = signature_of s t f in calls_object s me r t x us g (given_by g.gives) p

-- a feature of the value under the actuals
abbrev pub calls_qualified : System → Reference → List ℕ → Option (List Operand × List Operand) → Point → Step
calls_qualified s me x None p = stuck p
calls_qualified s me x (Some (us, [])) p = stuck p
calls_qualified s me x (Some (us, v ∷ vs)) p =
    calls_on s me x v.value v.type (feature_named s v.type.class x) us (record p { values = vs })
