-- All that an evaluation of a body reaches leaves the actuals the first names that are known.
use Rattle.std.proofs.Common.{ℕ, ◌≡◌, List, [], ◌∷◌, Some, refl, subst}
use Rattle.sc_tree.specs.Plain.{System}
use Rattle.sc_model.specs.Environments.{Binding}
use Rattle.sc_model.specs.Moves.{step, step_at}
use Rattle.sc_model.specs.Objects.{Object}
use Rattle.sc_model.specs.Steps.{Until, Enters, Requests, Point, Step, Goes, Does}
use Rattle.sc_model.specs.Tasks.{Task}
use Rattle.sc_model.specs.Values.{Reference}
use Rattle.sc_machine_laws.specs.Evaluating.{Reaches, begins as at_first, goes, tests as tested, enters, requests}
use Rattle.sc_machine_laws.specs.ClauseLaws.{StepOfContract}
use Rattle.sc_machine_laws.proofs.PointsFormals.{AreFormals}
use Rattle.sc_machine_laws.proofs.PointsBound as points
use Rattle.sc_machine_laws.proofs.PointsBound.{performs_firm}

module _ (contract : StepOfContract) (s : System) (me : Reference) (bs : List Binding) (formal : AreFormals bs) where
  abbrev Has : List Binding → Type 0
  Has cs = points.Has contract s me bs formal cs

  abbrev Left : List Task → Type 0
  Left ts = points.Left contract s me bs formal ts

  abbrev Firm : Step → Type 0
  Firm x = points.Firm contract s me bs formal x

  step_firm : (p : Point) → Has p.environment → Left p.tasks → Firm (step s me p)
  step_firm p h l = by p.tasks refl
    where
      by : (ts : List Task) → p.tasks ≡ ts → Firm (step_at s me ts p)
      by [] e = tt
      by (t ∷ rest) e = let l : Left (t ∷ rest) = subst Left e l in
          performs_firm contract s me bs formal t p.values (record p { tasks = rest }) refl l.0 h l.1

  -- ---- evaluations

  module _ (M : ℕ → Type 0) (O : ℕ → List Object) where
    pub after_firm : (p : Point) → Has p.environment × Left p.tasks → (x : Step) → step s me p ≡ x → Firm x
    after_firm p z x e = subst Firm e (step_firm p z.0 z.1)

    -- So it is of all that the evaluation reaches.
    pub reaches_firm : (p q : Point) → Has p.environment × Left p.tasks → Reaches s M O me p q →
        Has q.environment × Left q.tasks
    reaches_firm p _ z at_first = z
    reaches_firm p r z (goes {q} before e) = after_firm q (reaches_firm p q z before) (Goes r) e
    reaches_firm p r z (tested {q} before e) = after_firm q (reaches_firm p q z before) (Does Until r) e
    reaches_firm p _ z (enters {o = a} {q} {r} {c} {x} {us} {t} {v} before e answers) =
        after_firm q (reaches_firm p q z before) (Does (Enters c a x us (Some t)) r) e
    reaches_firm p _ z (requests {o = a} {q} {r} {x} {us} {t} {passing} {v} before e answers) =
        after_firm q (reaches_firm p q z before) (Does (Requests a x us (Some t) passing) r) e
