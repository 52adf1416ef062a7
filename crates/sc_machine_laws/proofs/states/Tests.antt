-- An object test binds its name to a value that fits the tested type.
use Rattle.std.specs.Option.{option_map}
use Rattle.std.proofs.Common.{◌++◌, Bool, List, None, Option, Some, [], ap, false, inl, refl, subst, sym, true, ℕ, ◌∷◌, ◌≡◌}
use Rattle.std.proofs.lemmas.Bool.{eqb-true}
use Rattle.sc_tree.specs.Plain.{DeclaredType, System}
use Rattle.sc_class.specs.Tables.Conformance.{class_conforms}
use Rattle.sc_class.specs.declared.identity.ClassId.TheVariants as class
use Rattle.sc_rules.specs.entity_types.Conformance.{boolean}
use Rattle.sc_rules.specs.declared.entity_types.entity_type.EntityType.{EntityType}
use Rattle.sc_rules.specs.declared.entity_types.tag.Reserved.{Reserved}
use Rattle.sc_rules.specs.declared.entity_types.tag.Tag.{Tag}
use Rattle.sc_rules.specs.declared.entity_types.tag.Tag.TheVariants as tag
use Rattle.sc_rules.specs.Names.{Entities, RoutineName, attached, entity, test_type}
use Rattle.sc_rules.specs.Types.{declared_type}
use Rattle.sc_rules.specs.declared.position.Role.TheVariants as role
use Rattle.sc_model.specs.Environments.{Binding, bind, handler_named, known_of, scope_of}
use Rattle.sc_model.specs.Fits.{Fits, Lies, OperandFits}
use Rattle.sc_model.specs.Moves.{performs_on}
use Rattle.sc_model.specs.ObjectTests.{binds, binds_if, is_attached, is_number, is_of_type, is_tested, lies}
use Rattle.sc_model.specs.Routines.{Routine, Text, place_in}
use Rattle.sc_model.specs.Steps.{Point}
use Rattle.sc_model.specs.Tasks.{Bind}
use Rattle.sc_model.specs.Values.{Attached, Boolean, Integer, Operand, Reference, Value, Void}
use Rattle.sc_machine_laws.specs.states.Points.{types_of}
use Rattle.sc_machine_laws.specs.states.ValueSteps.{StepFits}
use Rattle.sc_machine_laws.specs.states.Typed.{Extends, ScopeStands, names_formal}
use Rattle.sc_machine_laws.proofs.states.Environments.{environment_more, names_append, olds_more, operands_more}
use Rattle.sc_machine_laws.proofs.states.Lists.{both}
use Rattle.sc_machine_laws.proofs.states.PassedValues.{fits_more}
use Rattle.sc_machine_laws.proofs.states.Scopes.{scope_one}
use Rattle.sc_machine_laws.proofs.states.RoutinePoints.{AllFit, BaseOf, TasksAfter, goes_denied, goes_held}

number_is : (o : Option ℕ) (k : ℕ) → is_number o k ≡ true → o ≡ Some k
number_is None k e = cc
number_is (Some j) k e = ap (λ k. Some k) (sym (eqb-true k j e))

tested_lies : (g : Tag) (me k : ℕ) (of : Reserved → Option ℕ) → lies g me of k ≡ true → Lies g me of k
tested_lies tag.Own me k of e = eqb-true k me e
tested_lies tag.Any me k of e = tt
tested_lies tag.None me k of e = cc
tested_lies (tag.With x) me k of e = number_is (of x) k e

-- what is found to be of a type fits it, made attached
tested_type : (s : System) (me : ℕ) (of : Reserved → Option ℕ) (v : Value) (t : EntityType) → is_of_type s me of v t ≡ true → Fits s me of v (attached t)
tested_type s me of (Integer z) t e = e
tested_type s me of (Boolean b) t e = e
tested_type s me of Void t e = cc
tested_type s me of (Attached r) t e =
    let p = both (class_conforms s (class.Declared r.class) t.class) (lies t.tag me of r.handler) e in (p.0, tested_lies t.tag me r.handler of p.1)

tested_attached : (s : System) (me : ℕ) (of : Reserved → Option ℕ) (v : Value) (t : EntityType) → is_attached v ≡ true → Fits s me of v t → Fits s me of v (attached t)
tested_attached s me of (Integer z) t e f = f
tested_attached s me of (Boolean b) t e f = f
tested_attached s me of Void t e f = cc
tested_attached s me of (Attached r) t e f = f

-- the test's type, where it is attached: a test of it is one of the type
re_tested : (s : System) (me : ℕ) (of : Reserved → Option ℕ) (v : Value) (t : EntityType) → is_of_type s me of v (attached t) ≡ true → is_of_type s me of v t ≡ true
re_tested s me of (Integer z) t e = e
re_tested s me of (Boolean b) t e = e
re_tested s me of Void t e = e
re_tested s me of (Attached r) t e = e

-- A test that is true finds a value that fits the type of its name.
tested_fits : (s : System) (t : Text) (me : ℕ) (of : Reserved → Option ℕ) (v : Value) (d : Option DeclaredType) (a b : EntityType) → test_type (place_in s t) d (Some a) ≡ Some b →
    is_tested s me of v d b ≡ true → Fits s me of v a → Fits s me of v b
tested_fits s t me of v None a b e i f =
    let q : attached a ≡ b = cc in subst (Fits s me of v) q (tested_attached s me of v a i f)
tested_fits s t me of v (Some d) a b e i f = by (declared_type s t.formals d) e
  where
    by : (o : Option EntityType) → option_map attached o ≡ Some b → Fits s me of v b
    by None e = cc
    by (Some c) e =
        let q : attached c ≡ b = cc in
        subst (Fits s me of v) q (tested_type s me of v c (re_tested s me of v c (subst (λ b. is_of_type s me of v b ≡ true) (sym q) i)))

pub scope_append : (bs : List Binding) (b : Binding) → scope_of (bs ++ b ∷ []) ≡ scope_of bs ++ known_of b ∷ []
scope_append [] b = refl
scope_append (c ∷ bs) b = ap (λ n. known_of c ∷ n) (scope_append bs b)

module _ (s : System) (pure : RoutineName → Bool) (r : Routine) (me : Reference) (p : Point) (b : BaseOf s r me p) (fs : AllFit s me p p.values) where
  binds_step : (x : List ℕ) (v : Value) (t : EntityType) (low : Entities) → names_formal r.text.formals t.tag ≡ true → Extends low (scope_of p.environment) →
      TasksAfter s pure r p p.tasks low (scope_of p.environment ++ entity x (Some t) role.Test ∷ []) (types_of p.values) →
      (c : Bool) → (c ≡ true → Fits s me.handler (handler_named p.environment) v t) → StepFits s pure r me (binds_if c x v t p)
  binds_step x v t low named e k true f = goes_held s pure r me (record p { environment = p.environment ++ y ∷ [] })
      (record {
        text_is = b.text_is;
        scope_stands = subst (ScopeStands r.text.formals) (sym (scope_append p.environment y)) (scope_one r.text.formals (scope_of p.environment) (known_of y) b.scope_stands named);
        names_fit = environment_more s me.handler p.environment y b.names_fit (λ e. cc)
            (inl (fits_more s me.handler (handler_named p.environment) (handler_named (p.environment ++ y ∷ [])) v t (names_append p.environment (y ∷ [])) (f refl)));
        result_fits = b.result_fits;
        olds_fit = olds_more s me.handler p.environment y p.olds b.olds_fit;
        store = b.store;
      }) p.tasks boolean p.values low (scope_of p.environment ++ entity x (Some t) role.Test ∷ []) k (scope_append p.environment y) refl
      (operands_more s me.handler p.environment (y ∷ []) p.values fs)
    where
      y : Binding
      y = bind x t role.Test v
  binds_step x v t low named e k false f = goes_denied s pure r me p b p.tasks boolean p.values low (scope_of p.environment ++ entity x (Some t) role.Test ∷ []) k e refl fs

  -- An object test: where it is true its name is known, and has a value that fits.
  pub bind_step : (d : Option DeclaredType) (x : List ℕ) (u : Operand) (t : EntityType) (low : Entities) → test_type (place_in s p.text) d (Some u.type) ≡ Some t → names_formal r.text.formals t.tag ≡ true → Extends low (scope_of p.environment) →
      TasksAfter s pure r p p.tasks low (scope_of p.environment ++ entity x (Some t) role.Test ∷ []) (types_of p.values) → OperandFits s me.handler p.environment u →
      StepFits s pure r me (performs_on s me (Bind d x) u p)
  bind_step d x u t low e named z k f =
      subst (λ o. StepFits s pure r me (binds s me.handler d x u.value o p)) (sym e)
      (binds_step x u.value t low named z k (is_tested s me.handler (handler_named p.environment) u.value d t)
      (λ i. tested_fits s p.text me.handler (handler_named p.environment) u.value d u.type t e i f))
