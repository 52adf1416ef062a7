-- Laws of purity: which functions are pure, and what their bodies don't do.
use Rattle.std.specs.Prelude.{◌≡◌, ℕ, Bool, true, List, Some}
use Rattle.sc_tree.specs.Plain.{System, RoutineDeclaration, Routine}
use Rattle.sc_class.specs.declared.identity.ClassId.TheVariants as class
use Rattle.sc_class.specs.Tables.Conformance.{is_ancestor}
use Rattle.sc_class.specs.Tables.Features.{DeclaredFeature, feature_named}
use Rattle.sc_rules.specs.Names.{RoutineName, RoutineContext, context_of, known_in_body, routine_of, Signature}
use Rattle.sc_rules.specs.Sites.{Site, instructions, Within}
use Rattle.sc_rules.specs.Purity.{routine_named, Calls, HasSideEffect, IsClosed, Pure, Impure, IsPurity}

-- No function is both pure and not.
abbrev pub NeverBoth : Type 0
NeverBoth = (s : System) (f : RoutineName) → Pure s f → Impure s f → ⊥

-- There is only one test that separates the pure functions from all others.
abbrev pub OnePurity : Type 0
OnePurity = (s : System) (p q : RoutineName → Bool) → IsPurity s p → IsPurity s q → p ≡ q

-- And there is one, for every system.
abbrev pub SomePurity : Type 0
SomePurity = (s : System) → (pure : RoutineName → Bool) × IsPurity s pure

-- The pure functions are a closed set, in every system.
abbrev pub PureIsClosed : Type 0
PureIsClosed = (s : System) (pure : RoutineName → Bool) → IsPurity s pure → IsClosed s pure

-- Each version that may run for a pure function is pure, in every system: what a contract calls acts on nothing,
-- whatever its target is.
abbrev pub VersionsStayPure : Type 0
VersionsStayPure = (s : System) (pure : RoutineName → Bool) → IsClosed s pure →
    (k j : ℕ) (x : List ℕ) (f g : DeclaredFeature) → is_ancestor s k j ≡ true →
    feature_named s (class.Declared j) x ≡ Some f → feature_named s (class.Declared k) x ≡ Some g →
    pure (routine_of f) ≡ true → pure (routine_of g) ≡ true

-- ---- bodies

-- The site is in the body of the routine, and is judged by this.
pub data StandsInBody (s : System) (pure : RoutineName → Bool) (f : RoutineName) : RoutineContext → Site → Type 0 where
  in_body : {d : DeclaredFeature} {routine : RoutineDeclaration} {b : Site} → routine_named s f ≡ Some d →
      d.feature.kind ≡ Routine routine →
      Within (context_of s pure f.class routine) (instructions (known_in_body s routine) routine.body) b →
      StandsInBody s pure f (context_of s pure f.class routine) b

-- The body of a pure function changes no attribute, makes no object, prints nothing, opens no separate block, and calls
-- no procedure and no other handler.
abbrev pub PureBodiesHaveNoEffect : Type 0
PureBodiesHaveNoEffect = (s : System) (pure : RoutineName → Bool) (f : RoutineName) (h : RoutineContext) (b : Site) →
    IsClosed s pure → pure f ≡ true → StandsInBody s pure f h b → HasSideEffect h b → ⊥

-- What it calls is pure.
abbrev pub PureBodiesCallPure : Type 0
PureBodiesCallPure = (s : System) (pure : RoutineName → Bool) (f r : RoutineName) (h : RoutineContext) (b : Site)
    (g : Signature) → IsClosed s pure → pure f ≡ true → StandsInBody s pure f h b → Calls h b g →
    g.routine ≡ Some r → pure r ≡ true
