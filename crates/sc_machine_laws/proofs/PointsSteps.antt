-- What a step makes of a point within a text, beside the evaluation of that text.
use Rattle.std.proofs.Common.{ℕ, ◌≡◌, List, [], ◌∷◌, Some, refl, sym, ap, subst, ◌∙◌}
use Rattle.std.proofs.lemmas.List.{append-nil}
use Rattle.sc_tree.specs.Plain.{System}
use Rattle.sc_model.specs.Moves.{step, step_at}
use Rattle.sc_model.specs.Objects.{Object}
use Rattle.sc_model.specs.Steps.{Act, Prints, Until, Creates, CreatesHandler, Enters, Requests, Starts, Refuses, Opens, Leaves, Exits, Fails, Point, Step, Goes, Does}
use Rattle.sc_model.specs.Tasks.{Task}
use Rattle.sc_model.specs.Values.{Reference, Operand}
use Rattle.sc_machine_laws.specs.states.Points.{Each}
use Rattle.sc_machine_laws.specs.Evaluating.{Reaches, extended, extended_step, goes, tests, begins, enters, requests}
use Rattle.sc_machine_laws.specs.ClauseLaws.{StepExtends, StepOfContract, StepKeepsNoOld, StaysInContract, StepsInContract, point_after}
use Rattle.sc_machine_laws.specs.Texts.{IsOfContract, TaskHasNoOld}
use Rattle.sc_machine_laws.specs.Following.{HasDone, IsAt}
use Rattle.sc_machine_laws.proofs.PointsKinds.{IsWithin, step_is_within}

-- ---- within a text

module _ (extends : StepExtends) (leaves : StepKeepsNoOld) (s : System) (M : ℕ → Type 0) (O : ℕ → List Object)
    (me : Reference) (start : Point) (ts : List Task) where
  -- The step goes on in the text, or has done what is seen; the `old`s are these.
  abbrev pub Stepped : List Operand → Step → Type 0
  Stepped os (Goes q) = IsAt s M O me start ts q × (q.olds ≡ os)
  Stepped os (Does Until q) = IsAt s M O me start ts q × (q.olds ≡ os)
  Stepped os (Does Starts q) = ⊥
  Stepped os (Does (Refuses k) q) = ⊥
  Stepped os (Does Exits q) = ⊥
  Stepped os (Does (Fails why) q) = Unit {0}
  Stepped os (Does a q) = HasDone s M O me start ts a q × (q.olds ≡ os)

  did : (os : List Operand) (before : Point) → Reaches s M O me start before → (a : Act) (q : Point) →
      step s me before ≡ Does a q → Each TaskHasNoOld q.tasks → HasDone s M O me start ts a (extended os ts q)
  did os before r a q e o = record { before = before; after = q; reaches = r; step_is = e; stands = refl; without_old = o }

  extended_so : (os : List Operand) (before : Point) → Reaches s M O me start before → (x : Step) →
      step s me before ≡ x → IsWithin x → Each TaskHasNoOld (point_after x).tasks →
      Stepped os (extended_step os ts x)
  extended_so os before r (Goes q) e w o = (record { at = q; reaches = goes r e; stands = refl; without_old = o }, refl)
  extended_so os before r (Does Until q) e w o =
      (record { at = q; reaches = tests r e; stands = refl; without_old = o }, refl)
  extended_so os before r (Does (Fails why) q) e w o = tt
  extended_so os before r (Does Starts q) e w o = w
  extended_so os before r (Does (Refuses k) q) e w o = w
  extended_so os before r (Does Exits q) e w o = w
  extended_so os before r (Does (Prints text) q) e w o = (did os before r (Prints text) q e o, refl)
  extended_so os before r (Does Creates q) e w o = (did os before r Creates q e o, refl)
  extended_so os before r (Does (CreatesHandler k x us t passes) q) e w o =
      (did os before r (CreatesHandler k x us t passes) q e o, refl)
  extended_so os before r (Does (Enters c a x us g) q) e w o = (did os before r (Enters c a x us g) q e o, refl)
  extended_so os before r (Does (Requests a x us g passes) q) e w o =
      (did os before r (Requests a x us g passes) q e o, refl)
  extended_so os before r (Does Opens q) e w o = (did os before r Opens q e o, refl)
  extended_so os before r (Does Leaves q) e w o = (did os before r Leaves q e o, refl)

  pub step_within : (p : Point) (a : IsAt s M O me start ts p) (t : Task) (rest : List Task) → a.at.tasks ≡ t ∷ rest →
      Stepped p.olds (step s me p)
  step_within p a t rest e =
      subst (Stepped p.olds) (sym
      (ap (step s me) a.stands ∙ extends s me p.olds ts a.at t rest e (subst (Each TaskHasNoOld) e a.without_old).0))
      (extended_so p.olds a.at a.reaches (step s me a.at) refl (step_is_within extends s me a.at t rest e a.without_old)
      (leaves s me a.at a.without_old))

-- ---- contracts

-- What an evaluation in a contract leaves as it is.
pub record Unchanged (p q : Point) : Type 0 where
  pub of_contract : Each IsOfContract q.tasks
  pub environment_is : q.environment ≡ p.environment
  pub result_is : q.result ≡ p.result
  pub objects_are : q.objects ≡ p.objects

module _ (contract : StepOfContract) (s : System) (M : ℕ → Type 0) (O : ℕ → List Object) (me : Reference) where
  further : (p q r : Point) → Unchanged p q → StaysInContract [] q r → Unchanged p r
  further p q r u y = record {
    of_contract = subst (Each IsOfContract) (sym (y.tasks_are ∙ append-nil y.tasks)) y.of_contract;
    environment_is = y.environment_is ∙ u.environment_is;
    result_is = y.result_is ∙ u.result_is;
    objects_are = y.objects_are ∙ u.objects_are;
  }

  -- a step where tasks are left
  pub steps_on : (q : Point) → Each IsOfContract q.tasks → (x : Step) → step s me q ≡ x → (x ≡ Does Exits q → ⊥) →
      StepsInContract [] q x
  steps_on q o x e some = by q.tasks refl
    where
      by : (ts : List Task) → q.tasks ≡ ts → StepsInContract [] q x
      by [] i = absurd (some (sym e ∙ ap (λ ts. step_at s me ts q) i))
      by (t ∷ ts) i =
          let o : Each IsOfContract (t ∷ ts) = subst (Each IsOfContract) i o in
          subst (StepsInContract [] q) e (contract s me t ts [] q (i ∙ ap (λ us. t ∷ us) (sym (append-nil ts))) o.0 o.1)

  -- So it is of all that such an evaluation reaches.
  pub unchanged : (p q : Point) → Each IsOfContract p.tasks → Reaches s M O me p q → Unchanged p q
  unchanged p _ o begins = record { of_contract = o; environment_is = refl; result_is = refl; objects_are = refl }
  unchanged p r o (goes {q} before e) =
      let u = unchanged p q o before in further p q r u (steps_on q u.of_contract (Goes r) e (λ n. cc))
  unchanged p r o (tests {q} before e) =
      let u = unchanged p q o before in absurd (steps_on q u.of_contract (Does Until r) e (λ n. cc))
  unchanged p _ o (enters {o = a} {q} {r} {c} {x} {us} {t} {v} before e answers) =
      let u = unchanged p q o before in
      let y = further p q r u (steps_on q u.of_contract (Does (Enters c a x us (Some t)) r) e (λ n. cc)) in
      record {
        of_contract = y.of_contract;
        environment_is = y.environment_is;
        result_is = y.result_is;
        objects_are = y.objects_are;
      }
  unchanged p _ o (requests {o = a} {q} {r} {x} {us} {t} {passing} {v} before e answers) =
      let u = unchanged p q o before in
      let y = further p q r u (steps_on q u.of_contract (Does (Requests a x us (Some t) passing) r) e (λ n. cc)) in
      record {
        of_contract = y.of_contract;
        environment_is = y.environment_is;
        result_is = y.result_is;
        objects_are = y.objects_are;
      }
