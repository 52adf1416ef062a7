-- The result of an evaluation, by its parts: the text of one routine goes from a point to another, and a call has a
-- value. As in the evaluation of a clause, the objects of all handlers are read at once, and functions run without
-- their contracts. But here each routine is evaluated separately.
use Rattle.std.specs.Prelude.{ℕ, ◌≡◌, Bool, true, false, List, [], ◌∷◌, ◌++◌, Option, Some}
use Rattle.sc_tree.specs.Plain as tree
use Rattle.sc_tree.specs.Plain.{System, Clause, DeclaredType, RoutineDeclaration}
use Rattle.sc_class.specs.Tables.Features.{DeclaredFeature}
use Rattle.sc_rules.specs.declared.entity_types.entity_type.EntityType.{EntityType}
use Rattle.sc_model.specs.Values.{Reference, Value, Boolean, Operand, operand, values_of}
use Rattle.sc_model.specs.Environments.{Binding, binding_named, formals_bound}
use Rattle.sc_model.specs.Objects.{Object, object_numbered}
use Rattle.sc_model.specs.Routines.{Routine, Text, version_of, routine_of}
use Rattle.sc_model.specs.Tasks.{Task, Eval}
use Rattle.sc_model.specs.Steps.{Calling, Point, Until, Enters, Requests, Fails, Step, Goes, Does}
use Rattle.sc_model.specs.Moves.{step}
use Rattle.sc_model.specs.Exits.{is_unset_value}
use Rattle.sc_model.specs.Clauses.{body_point}

mutual
  -- The call of a feature of the object gives the value. `O` are the objects of each handler, and `M` says which
  -- handlers may be asked.
  pub data Answers (s : System) (M : ℕ → Type 0) (O : ℕ → List Object) : Reference → List ℕ → List Operand → Value →
      Type 0 where
    attribute : {r : Reference} {x : List ℕ} {us : List Operand} {o : Object} {f : DeclaredFeature} {d : DeclaredType}
        {b : Binding} → M r.handler → object_numbered r.number (O r.handler) ≡ Some o →
        version_of s r.class x ≡ Some f → f.feature.kind ≡ tree.Attribute d →
        binding_named x o.attributes ≡ Some b → is_unset_value b.value b.type ≡ false →
        Answers s M O r x us b.value
    routine : {r : Reference} {x : List ℕ} {us : List Operand} {o : Object} {f : DeclaredFeature}
        {c : RoutineDeclaration} {q : Routine} {bs : List Binding} {p : Point} {u : Operand} →
        M r.handler → object_numbered r.number (O r.handler) ≡ Some o → version_of s r.class x ≡ Some f →
        f.feature.kind ≡ tree.Routine c → routine_of s f ≡ Some q →
        formals_bound s q.text.formals 0 q.text.formals (values_of us) ≡ Some bs →
        Reaches s M O r (body_point s q (O r.handler) bs) p → p.tasks ≡ [] → p.result ≡ Some u →
        is_unset_value u.value u.type ≡ false →
        Answers s M O r x us u.value

  -- The text of one routine, on Current, goes from the first point to the second. A call gives its value at once.
  pub data Reaches (s : System) (M : ℕ → Type 0) (O : ℕ → List Object) : Reference → Point → Point → Type 0 where
    begins : {me : Reference} {p : Point} → Reaches s M O me p p
    goes : {me : Reference} {p q r : Point} → Reaches s M O me p q → step s me q ≡ Goes r → Reaches s M O me p r
    tests : {me : Reference} {p q r : Point} → Reaches s M O me p q → step s me q ≡ Does Until r → Reaches s M O me p r
    enters : {me o : Reference} {p q r : Point} {c : Calling} {x : List ℕ} {us : List Operand} {t : EntityType}
        {v : Value} → Reaches s M O me p q → step s me q ≡ Does (Enters c o x us (Some t)) r →
        Answers s M O o x us v → Reaches s M O me p (record r { values = operand v t ∷ r.values })
    requests : {me o : Reference} {p q r : Point} {x : List ℕ} {us : List Operand} {t : EntityType} {passing : Bool}
        {v : Value} → Reaches s M O me p q → step s me q ≡ Does (Requests o x us (Some t) passing) r →
        Answers s M O o x us v → Reaches s M O me p (record r { values = operand v t ∷ r.values })

-- ---- clauses of a precondition

-- the point before the evaluation of the clause `k`, in the text of the contract, with the bindings `bs`
abbrev pub clause_point : List Object → Text → List Binding → Option Operand → Clause → Point
clause_point objects t bs result k = record {
  objects = objects;
  text = t;
  environment = bs;
  result = result;
  olds = [];
  tasks = Eval 0 k.condition ∷ [];
  values = [];
}

-- From the point `p` the evaluation ends with true.
pub record EndsTrue (s : System) (M : ℕ → Type 0) (O : ℕ → List Object) (me : Reference) (p : Point) : Type 0 where
  pub end : Point
  pub type : EntityType
  pub others : List Operand
  pub reaches : Reaches s M O me p end
  pub tasks_are : end.tasks ≡ []
  pub values_are : end.values ≡ operand (Boolean true) type ∷ others

-- ---- added tasks

-- the point with the tasks `ts` after its own, and with `os` as the values of its `old`s
abbrev pub extended : List Operand → List Task → Point → Point
extended os ts p = record p { tasks = p.tasks ++ ts; olds = os }

-- the step to the point that is extended in this way; a failure is unchanged
abbrev pub extended_step : List Operand → List Task → Step → Step
extended_step os ts (Goes p) = Goes (extended os ts p)
extended_step os ts (Does (Fails why) p) = Does (Fails why) p
extended_step os ts (Does act p) = Does act (extended os ts p)
