-- What holds of every system and every run.
use Rattle.std.specs.Prelude.{ℕ, ℤ, ◌≡◌, ◌<◌, ◌≤◌, Bool, true, false, List, ◌++◌, Some, Ok}
use Rattle.sc_tree.specs.Plain.{System}
use Rattle.sc_class.specs.ClassNames.{Root}
use Rattle.sc_class.specs.declared.identity.ClassId.{ClassId}
use Rattle.sc_class.specs.declared.identity.ClassId.TheVariants as class
use Rattle.sc_class.specs.Faults.ClassRules.{IsFaultless}
use Rattle.sc_rules.specs.Names.{RoutineName}
use Rattle.sc_rules.specs.Purity.{IsPurity}
use Rattle.sc_rules.specs.SystemRules.{WellFormed}
use Rattle.sc_formula.specs.Arithmetic.{is_integer, sum_of}
use Rattle.sc_formula.specs.Connective.{truth_table}
use Rattle.sc_formula.specs.declared.connective.Connective.TheVariants as connective
use Rattle.sc_formula.specs.Formula.{PlainFormula}
use Rattle.sc_model.specs.Invariants.{formulas_of}
use Rattle.sc_model.specs.declared.cause.Cause.{Cause}
use Rattle.sc_model.specs.Values.{Reference, Integer, Boolean, default_of}
use Rattle.sc_model.specs.ObjectTests.{is_attached}
use Rattle.sc_model.specs.Steps.{Point, Step, Goes, Does}
use Rattle.sc_model.specs.Sizes.{size}
use Rattle.sc_model.specs.Moves.{step, moves}
use Rattle.sc_model.specs.Handlers.{World}
use Rattle.sc_model.specs.Turns.{turn}
use Rattle.sc_model.specs.Runs.{run, has_turn}

abbrev pub IsVisible : Step → Type 0
IsVisible (Goes p) = ⊥
IsVisible (Does a p) = Unit {0}

-- A silent step makes what is left to do smaller.
abbrev pub SilentStepsFall : Type 0
SilentStepsFall = (s : System) (me : Reference) (p q : Point) → step s me p ≡ Goes q → size q.tasks < size p.tasks

-- So the silent steps end in a visible one.
abbrev pub TurnsAreVisible : Type 0
TurnsAreVisible = (s : System) (me : Reference) (p : Point) → IsVisible (moves s me p)

-- A handler that has no turn changes nothing.
abbrev pub IdleTurnsChangeNothing : Type 0
IdleTurnsChangeNothing = (most : ℕ) (s : System) (h : ℕ) (w : World) → has_turn h w ≡ false → turn most s h w ≡ w

-- A run of two lists is the run of the second from where the first ends.
abbrev pub RunsJoin : Type 0
RunsJoin = (most : ℕ) (s : System) (first second : List ℕ) (w : World) →
    run most s (first ++ second) w ≡ run most s second (run most s first w)

-- At no point of the run are there more than `n` handlers.
abbrev pub StaysWithin : ℕ → ℕ → System → List ℕ → World → Type 0
StaysWithin few most s hs w = (first second : List ℕ) → hs ≡ first ++ second → (run most s first w).count ≤ few

-- A run that uses fewer handlers is the same with a lower limit on handlers.
abbrev pub FewerAreEnough : Type 0
FewerAreEnough =
    (few most : ℕ) (s : System) (hs : List ℕ) (w : World) → few ≤ most → StaysWithin few most s hs w →
    run few s hs w ≡ run most s hs w

-- A turn only adds to outputs.
abbrev pub OutputGrows : Type 0
OutputGrows =
    (most : ℕ) (s : System) (h : ℕ) (w : World) (k : ℕ) → k < w.count →
    (added : List ℕ) × (((turn most s h w).handlers k).output ≡ (w.handlers k).output ++ added)

-- A handler that has failed stays as it is, but that its sessions may end.
abbrev pub FailedHandlersStay : Type 0
FailedHandlersStay =
    (most : ℕ) (s : System) (h : ℕ) (w : World) (k : ℕ) (why : Cause) → k < w.count → (w.handlers k).failure ≡ Some why
    → record ((turn most s h w).handlers k) { sessions = (w.handlers k).sessions } ≡ w.handlers k

-- In an accepted system the joined invariant of each class is a list of formulas over its attributes (ECMA-367,
-- 8.9.16).
abbrev pub InvariantsHaveFormulas : Type 0
InvariantsHaveFormulas =
    (s : System) (root : Root) (pure : RoutineName → Bool) → IsFaultless s root → WellFormed s →
    IsPurity s pure → (j : ℕ)
    → (formulas : List PlainFormula) × (formulas_of s j ≡ Some formulas)

-- What an entity holds at first says nothing yet: a sum with an INTEGER's default is the other integer, `or` with a
-- BOOLEAN's is the other side, and no object is attached to any other (ECMA-367, 8.19.14).
pub record DefaultsAreNeutral : Type 0 where
  pub integer : (n : ℤ) × (default_of class.Integer ≡ Integer n) × ((z : ℤ) → is_integer z ≡ true → sum_of n z ≡ Ok z)
  pub boolean : (b : Bool) × (default_of class.Boolean ≡ Boolean b) × ((c : Bool) → truth_table connective.Or b c ≡ c)
  pub reference : (k : ClassId) → (k ≡ class.Integer → ⊥) → (k ≡ class.Boolean → ⊥) → is_attached (default_of k) ≡ false
