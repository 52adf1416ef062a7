-- Creation (ECMA-367, 8.20): on an entity of tag `own` an object of the current handler, on one of tag `any` a new
-- handler with its first object.
use Rattle.std.specs.Prelude.{ℕ, ◌+◌, Bool, false, List, [], ◌∷◌, ◌++◌, Option, Some, None, length, nat_lt, if◌then◌else◌}
use Rattle.sc_tree.specs.Plain.{System, Variable}
use Rattle.sc_class.specs.declared.identity.ClassId.{ClassId}
use Rattle.sc_class.specs.declared.identity.ClassId.TheVariants as class
use Rattle.sc_rules.specs.declared.entity_types.tag.Tag.{Tag}
use Rattle.sc_rules.specs.declared.entity_types.tag.Tag.TheVariants as tag
use Rattle.sc_rules.specs.declared.entity_types.entity_type.EntityType.{EntityType}
use Rattle.sc_rules.specs.Names.{FormalType, Meaning, unknown, target_untyped, named, Assignee, assignee, assignee_type, attached, qualified_meaning}
use Rattle.sc_model.specs.declared.cause.Cause.TheVariants as cause
use Rattle.sc_model.specs.Values.{Reference, Attached, Operand, operand}
use Rattle.sc_model.specs.Environments.{scope_of}
use Rattle.sc_model.specs.Objects.{fresh_object}
use Rattle.sc_model.specs.Invariants.{meets_invariant}
use Rattle.sc_model.specs.Routines.{Text, place_in}
use Rattle.sc_model.specs.Limits.{max_objects}
use Rattle.sc_model.specs.Tasks.{AssignTo}
use Rattle.sc_model.specs.Steps.{Point, Creation, Creates, CreatesHandler, Enters, Step, Does, fails, stuck}
use Rattle.sc_model.specs.Calls.{passes_rights}

-- what a variable means at the point
abbrev pub assigned_at : System → Variable → Point → Assignee
assigned_at s x p = assignee (place_in s p.text) (scope_of p.environment) x

abbrev pub formals_meant : Meaning → List FormalType
formals_meant unknown = []
formals_meant target_untyped = []
formals_meant (named g) = g.formals

-- the creation procedure is called with lock passing
abbrev pub creation_passes : System → Text → EntityType → Option (List ℕ) → List Operand → Bool
creation_passes s text t None us = false
creation_passes s text t (Some x) us = passes_rights (formals_meant (qualified_meaning (place_in s text) t x)) us

-- The new object is entered by its procedure, or without one tested at once.
abbrev pub creates_object : System → Reference → EntityType → Option (List ℕ) → List Operand → Point → Step
creates_object s r t (Some x) us p =
    Does (Enters Creation r x us None) (record p { values = operand (Attached r) (attached t) ∷ p.values })
creates_object s r t None us p =
    if meets_invariant s (fresh_object s r.class)
    then Does Creates (record p { values = operand (Attached r) (attached t) ∷ p.values })
    else fails cause.Invariant p

-- an object of the current handler, with the next number
abbrev pub creates_here : System → Reference → ℕ → EntityType → Option (List ℕ) → List Operand → Point → Step
creates_here s me k t call us p =
    if nat_lt (length p.objects) max_objects
    then creates_object s (record { handler = me.handler; number = length p.objects + 1; class = k }) t call us
    (record p { objects = p.objects ++ fresh_object s k ∷ [] })
    else fails cause.TooManyObjects p

abbrev pub creates_at : System → Reference → Option (List ℕ) → EntityType → Tag → ClassId → List Operand → Point → Step
creates_at s me call t tag.Own (class.Declared k) us p = creates_here s me k t call us p
creates_at s me call t tag.Any (class.Declared k) us p =
    Does (CreatesHandler k call us (attached t) (creation_passes s p.text t call us)) p
creates_at s me call t g c us p = stuck p

abbrev pub creates_as : System → Reference → Option (List ℕ) → Option EntityType → List Operand → Point → Step
creates_as s me call None us p = stuck p
creates_as s me call (Some t) us p = creates_at s me call t t.tag t.class us p

-- The reference is assigned in the next turn, or when the creation procedure has ended.
abbrev pub creates : System → Reference → Variable → Option (List ℕ) →
    Option (List Operand × List Operand) → Point → Step
creates s me x call None p = stuck p
creates s me x call (Some (us, vs)) p =
    creates_as s me call (assignee_type (assigned_at s x p)) us (record p { tasks = AssignTo x ∷ p.tasks; values = vs })
