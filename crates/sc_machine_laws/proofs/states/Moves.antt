-- The silent steps up to a visible one, and that one, fit.
use Rattle.std.proofs.Common.{Bool, List, [], subst, suc, zero, ℕ, ◌≡◌}
use Rattle.sc_tree.specs.Plain.{System}
use Rattle.sc_rules.specs.Names.{RoutineName}
use Rattle.sc_model.specs.Moves.{first_visible, step, then_go}
use Rattle.sc_model.specs.Objects.{Object}
use Rattle.sc_model.specs.Routines.{Routine}
use Rattle.sc_model.specs.Sizes.{size}
use Rattle.sc_model.specs.Steps.{Does, Goes, Point, Step}
use Rattle.sc_model.specs.Values.{Attached, Operand, Reference}
use Rattle.sc_machine_laws.specs.states.Points.{IsAmong}
use Rattle.sc_machine_laws.specs.states.ValueSteps.{IsThereIfOwn, OperandsDo, StandsSo, StepFits}
use Rattle.sc_machine_laws.specs.states.Values.{MovesFit, StepsFit}
use Rattle.sc_machine_laws.proofs.states.Lists.{each_more}
use Rattle.sc_machine_laws.proofs.states.OperatorReferences.{HoldsOfOwn, Stays, StepStays}
use Rattle.sc_machine_laws.proofs.states.References.{step_stays}
use Rattle.sc_machine_laws.proofs.states.Routines.{is_run}
use Rattle.sc_machine_laws.proofs.states.RoutinePoints.{IsRun}
use Rattle.sc_machine_laws.proofs.states.ValueSteps.{step_fits}

-- what is there if it is of the handler
own_values : (h : ℕ) (objects : List Object) (me : Reference) → IsAmong objects me → HoldsOfOwn (IsThereIfOwn h objects) me
own_values h objects me z = record {
  of_integer = λ z o e. cc;
  of_boolean = λ b o e. cc;
  of_void = λ o e. cc;
  of_current = λ o e i. subst (IsAmong objects) (same_object me o e) z;
}
  where
    same_object : (r o : Reference) → Attached r ≡ Attached o → r ≡ o
    same_object r o e = cc

module _ (s : System) (pure : RoutineName → Bool) (r : Routine) (me : Reference) (run : IsRun s pure r me) (objects : List Object) (there : IsAmong objects me) where
  -- what leads to an object still does
  still_there : (p : Point) → Stays (IsThereIfOwn me.handler objects) objects p → OperandsDo (IsThereIfOwn me.handler p.objects) p.values
  still_there p h = each_more (λ (u : Operand). IsThereIfOwn me.handler objects u.value) (λ (u : Operand). IsThereIfOwn me.handler p.objects u.value)
      (λ u f o e i. h.there o (f o e i)) p.values h.values.values_do

  within : (n : ℕ) (p : Point) → StandsSo s pure r me [] p → Stays (IsThereIfOwn me.handler objects) objects p → StepFits s pure r me (first_visible n s me p)
  within zero p f h = f
  within (suc n) p f h = by (step s me p) (λ q. within n q) (step_fits s pure r me run p f (still_there p h))
      (step_stays (IsThereIfOwn me.handler objects) me (own_values me.handler objects me there) objects s p h)
    where
      by : (x : Step) → ((q : Point) → StandsSo s pure r me [] q → Stays (IsThereIfOwn me.handler objects) objects q → StepFits s pure r me (first_visible n s me q)) →
          StepFits s pure r me x → StepStays (IsThereIfOwn me.handler objects) me (own_values me.handler objects me there) objects x → StepFits s pure r me (then_go x (first_visible n s me))
      by (Goes q) go f h = go q f h
      by (Does a q) go f h = f

pub steps_fit : StepsFit
steps_fit s root pure faultless well tells r me is p f h = step_fits s pure r me (is_run s root pure faultless well tells r me is) p f h.values_do

pub moves_fit : MovesFit
moves_fit s root pure faultless well tells r me is p f h =
    within s pure r me (is_run s root pure faultless well tells r me is) p.objects f.1.current (suc (size p.tasks)) p f (record { values = h; there = λ o z. z })
