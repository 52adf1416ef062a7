-- The truth of formulas, and the steps of the expressions that they are made from: the two definitions agree.
use Rattle.std.specs.Prelude.{ℕ, ◌≡◌, ◌↔◌, Bool, true, false, List, [], ◌∷◌, Option, Some, None, map, All}
use Rattle.sc_formula.specs.Atom.{kinds_of}
use Rattle.sc_formula.specs.Fit.{IsFit}
use Rattle.sc_formula.specs.Formula.{PlainFormula, truth_of}
use Rattle.sc_tree.specs.Plain as tree
use Rattle.sc_tree.specs.Plain.{System, DeclaredType, Clause, Expr}
use Rattle.sc_class.specs.declared.identity.ClassId.TheVariants as class
use Rattle.sc_class.specs.Tables.Features.{DeclaredFeature, feature_named, features, invariant_of}
use Rattle.sc_rules.specs.declared.entity_types.entity_type.EntityType.{EntityType}
use Rattle.sc_rules.specs.Names.{current, given_type}
use Rattle.sc_model.specs.declared.cause.Cause.{Cause}
use Rattle.sc_model.specs.declared.cause.Cause.TheVariants as cause
use Rattle.sc_model.specs.Values.{Reference, Value, Boolean, operand}
use Rattle.sc_model.specs.Environments.{Binding, binding_named}
use Rattle.sc_model.specs.Objects.{Object, attributes_of, fresh_attributes, object_numbered}
use Rattle.sc_model.specs.Invariants.{atoms_of, formula_of, formulas_of, MeetsInvariant}
use Rattle.sc_model.specs.Routines.{place_in}
use Rattle.sc_model.specs.Tasks.{Eval}
use Rattle.sc_model.specs.Steps.{Point, Exits, Fails, Does}
use Rattle.sc_model.specs.Moves.{first_visible}
use Rattle.sc_model.specs.Exits.{is_unset_value}

-- ---- reading the attributes of Current

-- In the text of the point the name `x` is that of an attribute of Current, and no entity of the text hides it.
-- With the value `v` it can be read: if its type is attached, `v` isn't Void.
pub record ReadsAttribute (s : System) (p : Point) (x : List ℕ) (v : Value) : Type 0 where
  pub feature : DeclaredFeature
  pub declared : DeclaredType
  pub type : EntityType
  pub is_no_entity : binding_named x p.environment ≡ None
  pub is_feature : feature_named s (class.Declared p.text.class) x ≡ Some feature
  pub is_attribute : feature.feature.kind ≡ tree.Attribute declared
  pub has_type : given_type s (current (place_in s p.text)) declared ≡ Some type
  pub is_set : is_unset_value v type ≡ false

abbrev pub names_of : List Binding → List (List ℕ)
names_of bs = map (λ (b : Binding). b.name) bs

-- Current has the attributes of `defaults`, with values of the same kinds, and each can be read at the point.
pub record ReadsAttributes (s : System) (me : Reference) (defaults : List Binding) (p : Point) : Type 0 where
  pub names_are : names_of (attributes_of me.number p.objects) ≡ names_of defaults
  pub kinds_are : kinds_of (atoms_of (attributes_of me.number p.objects)) ≡ kinds_of (atoms_of defaults)
  pub are_read : (x : List ℕ) (b : Binding) → binding_named x (attributes_of me.number p.objects) ≡ Some b →
      ReadsAttribute s p x b.value

-- ---- the end of the steps of an expression

-- the point at which only the expression is left to evaluate
abbrev pub evaluating : ℕ → Expr → Point → Point
evaluating i e p = record p { tasks = Eval i e ∷ []; values = [] }

-- The silent steps reach the end, with `v` as the only value, and change nothing else.
pub record EndsWith (s : System) (me : Reference) (p : Point) (v : Value) : Type 0 where
  pub steps : ℕ
  pub type : EntityType
  pub ends : first_visible steps s me p ≡ Does Exits (record p { tasks = []; values = operand v type ∷ [] })

-- The cause is an overflow or a division by zero.
abbrev pub IsFault : Cause → Type 0
IsFault cause.Overflow = Unit {0}
IsFault cause.DivideByZero = Unit {0}
IsFault other = ⊥

-- The silent steps end in one of these failures.
pub record EndsInFault (s : System) (me : Reference) (p : Point) : Type 0 where
  pub steps : ℕ
  pub why : Cause
  pub end : Point
  pub fails : first_visible steps s me p ≡ Does (Fails why) end
  pub is_fault : IsFault why

-- The steps end with a truth value if and only if `truth` is that value. They end in a fault if and only if `truth`
-- is None.
pub record StepsTo (s : System) (me : Reference) (p : Point) (truth : Option Bool) : Type 0 where
  pub truths : (b : Bool) → EndsWith s me p (Boolean b) ↔ truth ≡ Some b
  pub faults : EndsInFault s me p ↔ truth ≡ None

-- The steps of an expression end with the truth of its formula over the attributes of Current.
abbrev pub FormulasAreSteps : Type 0
FormulasAreSteps = (s : System) (me : Reference) (defaults : List Binding) (p : Point) (i : ℕ) (e : Expr)
    (f : PlainFormula) → ReadsAttributes s me defaults p → formula_of defaults e ≡ Some f →
    IsFit f (kinds_of (atoms_of defaults)) →
    StepsTo s me (evaluating i e p) (truth_of f (atoms_of (attributes_of me.number p.objects)))

-- the attributes of the objects of the class, with their defaults
abbrev pub defaults_of : System → ℕ → List Binding
defaults_of s k = fresh_attributes s (features s k)

-- Current meets its class invariant if and only if the steps of each clause end with True.
abbrev pub InvariantsAreSteps : Type 0
InvariantsAreSteps = (s : System) (me : Reference) (o : Object) (p : Point) (formulas : List PlainFormula) →
    object_numbered me.number p.objects ≡ Some o → ReadsAttributes s me (defaults_of s o.class) p →
    formulas_of s o.class ≡ Some formulas →
    All (λ (f : PlainFormula). IsFit f (kinds_of (atoms_of (defaults_of s o.class)))) formulas →
    MeetsInvariant s o
    ↔ All (λ (k : Clause). EndsWith s me (evaluating 0 k.condition p) (Boolean true)) (invariant_of s o.class)
