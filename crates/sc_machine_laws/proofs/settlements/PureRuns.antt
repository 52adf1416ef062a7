-- What is known of the run of a function that contracts may call, and of what it evaluates.
use Rattle.std.proofs.Common.{ℕ, ◌≡◌, ◌⊎◌, ◌||◌, not, Bool, true, false, List, [], ◌∷◌, ◌++◌, Some, refl, sym, ap, subst, ◌∙◌, inl}
use Rattle.std.specs.Prelude.{if◌then◌else◌, length}
use Rattle.sc_text.specs.declared.token.Span.{Span}
use Rattle.sc_tree.specs.Plain as tree
use Rattle.sc_tree.specs.Plain.{System, Expr, Exprs, Name, Target}
use Rattle.sc_class.specs.declared.identity.ClassId.{ClassId}
use Rattle.sc_class.specs.declared.identity.ClassId.TheVariants as class
use Rattle.sc_class.specs.Tables.Conformance.{class_conforms}
use Rattle.sc_class.specs.Tables.Features.{DeclaredFeature, feature_named}
use Rattle.sc_rules.specs.declared.entity_types.entity_type.EntityType.{EntityType}
use Rattle.sc_rules.specs.declared.position.Context.{Context}
use Rattle.sc_rules.specs.declared.position.Position.{Position}
use Rattle.sc_rules.specs.declared.position.Position.TheVariants.{Plain, Condition}
use Rattle.sc_rules.specs.Laws.{are_typed}
use Rattle.sc_rules.specs.Positions.{is_condition, wants_pure}
use Rattle.sc_rules.specs.Names.{RoutineName, Entities, Signature, blocks, meaning_of, named, routine_of}
use Rattle.sc_rules.specs.Purity as purity
use Rattle.sc_rules.specs.Purity.{HasSideEffect}
use Rattle.sc_rules.specs.Sites as site
use Rattle.sc_rules.specs.Sites.{Part, Site, expression}
use Rattle.sc_rules.specs.SystemLaws.{Stands}
use Rattle.sc_rules.specs.Types.{is_controlled, is_foreign}
use Rattle.sc_rules.specs.Typing as typing
use Rattle.sc_rules.specs.Typing.{HasReceiver, HasType, Typing, may_call, typing, types}
use Rattle.sc_rules.proofs.Typings.{every_typed}
use Rattle.sc_rules.proofs.WellFormed.{further}
use Rattle.sc_model.specs.Values.{Reference, Value, Operand}
use Rattle.sc_model.specs.Environments.{scope_of}
use Rattle.sc_model.specs.Routines.{Routine, Text, version_of}
use Rattle.sc_model.specs.Tasks.{Task}
use Rattle.sc_model.specs.Steps.{Point, Step, comes, gives, popped}
use Rattle.sc_machine_laws.specs.states.Places.{is_routine}
use Rattle.sc_machine_laws.specs.states.Points.{Each, types_of}
use Rattle.sc_machine_laws.specs.states.Typed.{context_in, stacked}
use Rattle.sc_machine_laws.proofs.states.Choices.{part_stands}
use Rattle.sc_machine_laws.proofs.states.Names.{some_there}
use Rattle.sc_machine_laws.proofs.states.RoutinePoints.{IsRun, in_text}
use Rattle.sc_machine_laws.specs.settlements.Calm.{InBody, IsCalm, in_body, in_contract, at, InPure, StandsPure, PureStep}
use Rattle.sc_machine_laws.proofs.settlements.ExpandedValues.{popped_more}

no : {A : Type 0} → false ≡ true → A
no e = cc

-- ---- values that lie there

-- the actuals in the order of the text, and what lies under them
pub record Pops (P : Operand → Type 0) (ts us : List EntityType) (vs : List Operand) : Type 0 where
  pub actuals : List Operand
  pub below : List Operand
  pub popped_is : (acc : List Operand) → popped (length ts) acc vs ≡ Some (actuals ++ acc, below)
  pub below_are : types_of below ≡ us
  pub each : Each P below

pub pops : (P : Operand → Type 0) (ts us : List EntityType) (vs : List Operand) → types_of vs ≡ stacked ts us → Each P vs → Pops P ts us vs
pops P [] us vs are each = record { actuals = []; below = vs; popped_is = λ acc. refl; below_are = are; each = each }
pops P (a ∷ ts) us vs are each = by (pops P ts (a ∷ us) vs are each)
  where
    of_below : (acs below : List Operand) → ((acc : List Operand) → popped (length ts) acc vs ≡ Some (acs ++ acc, below)) →
        types_of below ≡ a ∷ us → Each P below → Pops P (a ∷ ts) us vs
    of_below acs [] i ba e = cc
    of_below acs (u ∷ rest) i ba e = record {
      actuals = u ∷ acs;
      below = rest;
      popped_is = λ acc. popped_more (length ts) acc vs (acs ++ acc) u rest (i acc);
      below_are = cc;
      each = e.1;
    }

    by : Pops P ts (a ∷ us) vs → Pops P (a ∷ ts) us vs
    by z = of_below z.actuals z.below z.popped_is z.below_are z.each

-- ---- what is known of the routine

-- What the rules say of a function that contracts may call, and of the routine that it keeps the contract of.
pub record PureRun (s : System) (pure : RoutineName → Bool) (r : Routine) (me : Reference) : Type 0 where
  pub run : IsRun s pure r me
  pub quiet : (t : Text) → t ≡ r.text → (b : Site) → InBody s pure r t b → HasSideEffect (context_in s pure t) b → ⊥
  pub calls : (t : Text) → t ≡ r.text → (b : Site) → InBody s pure r t b → (g : Signature) → purity.Calls (context_in s pure t) b g →
      (f : RoutineName) → g.routine ≡ Some f → pure f ≡ true
  pub stands : (t : Text) → t ≡ r.text → (b : Site) → InBody s pure r t b → Stands s pure (context_in s pure t) b
  -- in the contract each target is of the current handler
  pub near : (t : Text) → t ≡ r.contract → (c : Context) (q : Position) (n : Entities) (e : Expr) → Stands s pure (context_in s pure t) (expression c q n e) → blocks n ≡ 0 →
      (u : EntityType) (w : Bool) → HasType (context_in s pure t) c q n e (typing (Some u) w) → is_controlled u ≡ true → is_foreign u.tag ≡ false
  pub versions : (k : ℕ) (c : ClassId) (x : List ℕ) (f g : DeclaredFeature) → class_conforms s (class.Declared k) c ≡ true → feature_named s c x ≡ Some f →
      version_of s k x ≡ Some g → pure (routine_of f) ≡ true → pure (routine_of g) ≡ true
  pub kinds : (k : ℕ) (c : ClassId) (x : List ℕ) (f g : DeclaredFeature) → class_conforms s (class.Declared k) c ≡ true → feature_named s c x ≡ Some f →
      version_of s k x ≡ Some g → is_routine g.feature.kind ≡ true → is_routine f.feature.kind ≡ true

module _ (s : System) (pure : RoutineName → Bool) (r : Routine) (me : Reference) (z : PureRun s pure r me) where
  abbrev Fine : Step → Type 0
  Fine st = PureStep s pure r st

  pub if_fine : (b : Bool) (x y : Step) → Fine x → Fine y → Fine (if b then x else y)
  if_fine true x y f g = f
  if_fine false x y f g = g

  module _ (t : Text) where
    -- parts of what is evaluated are evaluated
    pub part_calm : {c d : Context} {q k : Position} {n : Entities} {e f : Expr} → Part (context_in s pure t) (expression c q n e) (expression d k n f) →
        (wants_pure c ≡ true → wants_pure d ≡ true) → is_condition k ≡ false → IsCalm s pure r t c q n e → IsCalm s pure r t d k n f
    part_calm part wants plain (in_body own w) = in_body own (further w (site.inside part site.itself))
    part_calm part wants plain (in_contract own i j b st) = in_contract own (wants i) plain b (part_stands st part)

    pub joined_calm : {c : Context} {n m : Entities} {e f : Expr} → Part (context_in s pure t) (expression c Condition n e) (expression c Condition m f) →
        IsCalm s pure r t c Condition n e → IsCalm s pure r t c Condition m f
    joined_calm part (in_body own w) = in_body own (further w (site.inside part site.itself))
    joined_calm part (in_contract own i j b st) = no (sym j)

    -- what is called is pure
    pub calls_calm : {c : Context} {q : Position} {n : Entities} {sp : Span} {a : Target} {x : Name} {es : Exprs} → IsCalm s pure r t c q n (tree.Call sp a x es) →
        (y : Typing) (g : Signature) → HasReceiver (context_in s pure t) c n a y → meaning_of (context_in s pure t) n a y.type x ≡ named g →
        may_call (context_in s pure t) c g.routine ≡ true → (f : RoutineName) → g.routine ≡ Some f → pure f ≡ true
    calls_calm (in_body own w) y g d m may f i = z.calls t own _ w g (purity.calls purity.as_value d m) f i
    calls_calm {c} (in_contract own wants j b st) y g d m may f i =
        subst (λ (v : Bool). (not v || pure f) ≡ true) wants (ap (may_call (context_in s pure t) c) (sym i) ∙ may)

    -- no target is of another handler
    pub near_calm : {c : Context} {q : Position} {n : Entities} {sp : Span} {a : Expr} {x : Name} {es : Exprs} → IsCalm s pure r t c q n (tree.Call sp (tree.target a) x es) →
        (u : EntityType) (w : Bool) → HasType (context_in s pure t) c Plain n a (typing (Some u) w) → is_controlled u ≡ true → is_foreign u.tag ≡ false
    near_calm (in_body own w) u v d controlled = by (is_foreign u.tag) refl
      where
        by : (b : Bool) → is_foreign u.tag ≡ b → is_foreign u.tag ≡ false
        by true e = absurd (z.quiet t own _ w (purity.calls_separately purity.as_value d e))
        by false e = e
    near_calm {c} {n} {a} (in_contract own wants j b st) u v d controlled = z.near t own c Plain n a (part_stands st site.target_part) b u v d controlled

  module _ (t : Text) (own : (t ≡ r.text) ⊎ (t ≡ r.contract)) (n : Entities) (typed_n : are_typed n ≡ true) where
    pub record IsAt (vs : List EntityType) (p : Point) : Type 0 where
      pub text_is : p.text ≡ t
      pub names_are : scope_of p.environment ≡ n
      pub types_are : types_of p.values ≡ vs

    pub has_type : (c : Context) (q : Position) (e : Expr) (y : Typing) → HasType (context_in s pure t) c q n e y → (a : EntityType) × (y.type ≡ Some a)
    has_type c q e y d = some_there y.type (every_typed z.run.declared (in_text s pure r me z.run t own).has_result typed_n d)

    pub heir : class_conforms s (class.Declared me.class) (class.Declared t.class) ≡ true
    heir = (in_text s pure r me z.run t own).heir

    abbrev Left : List Task → List EntityType → Type 0
    Left k vs = InPure s pure r k (at t n vs)

    pub stands_at : (coming : List EntityType) (vs : List EntityType) (p : Point) → IsAt vs p → Left p.tasks (coming ++ vs) → StandsPure s pure r coming p
    stands_at coming vs p b d = inl (record { text = t; names = n; types = vs; text_is = b.text_is; names_are = b.names_are; left = d; types_are = b.types_are })

    pub comes_fine : (ts : List Task) (vs : List EntityType) (p : Point) → IsAt vs p → Left (ts ++ p.tasks) vs → Fine (comes ts p)
    comes_fine ts vs p b d = inl (record { text = t; names = n; types = vs; text_is = b.text_is; names_are = b.names_are; left = d; types_are = b.types_are })

    pub given : (vs : List EntityType) (a : EntityType) (p : Point) (v : Value) (u : EntityType) → IsAt vs p → Left p.tasks (a ∷ vs) → u ≡ a → Fine (gives v u p)
    given vs a p v u b d is = inl (record {
      text = t;
      names = n;
      types = a ∷ vs;
      text_is = b.text_is;
      names_are = b.names_are;
      left = d;
      types_are = ap (λ (w : EntityType). w ∷ types_of p.values) is ∙ ap (λ ws. a ∷ ws) b.types_are;
    })
