-- What a turn makes of a routine that stands in its precondition, beside the evaluation of its clauses.
use Rattle.std.proofs.Common.{ℕ, zero, suc, ◌≡◌, Bool, true, false, List, [], ◌∷◌, ◌++◌, Option, Some, refl, sym, ap, subst, ◌∙◌}
use Rattle.std.specs.Prelude.{Contains}
use Rattle.std.proofs.lemmas.List.Elements.{Contains-append_right}
use Rattle.std.proofs.lemmas.List.{append_assoc, append-nil}
use Rattle.sc_tree.specs.Plain.{System, Clause}
use Rattle.sc_class.specs.ClassNames.{Root}
use Rattle.sc_class.specs.Faults.ClassRules.{IsFaultless}
use Rattle.sc_rules.specs.declared.entity_types.entity_type.EntityType.{EntityType}
use Rattle.sc_rules.specs.Names.{Entities, RoutineName}
use Rattle.sc_rules.specs.Purity.{IsPurity}
use Rattle.sc_rules.specs.SystemRules.{WellFormed}
use Rattle.sc_model.specs.Entries.{result_of}
use Rattle.sc_model.specs.Environments.{Binding}
use Rattle.sc_model.specs.Instructions.{required}
use Rattle.sc_model.specs.Moves.{first_visible, moves, performs, step, step_at, then_go}
use Rattle.sc_model.specs.Objects.{Object}
use Rattle.sc_model.specs.Routines.{Routine, Text, routine_named}
use Rattle.sc_model.specs.Sizes.{size}
use Rattle.sc_model.specs.Steps.{Act, Prints, Until, Creates, CreatesHandler, Enters, Requests, Starts, Refuses, Opens, Leaves, Exits, Fails, Point, Step, Goes, Does}
use Rattle.sc_model.specs.Tasks.{Task, Required}
use Rattle.sc_model.specs.Values.{Reference, Value, Integer, Boolean, Void, Attached, Operand, operand}
use Rattle.sc_machine_laws.proofs.states.MachineFrames.{contains_first}
use Rattle.sc_machine_laws.specs.states.Points.{Each, IsAmong}
use Rattle.sc_machine_laws.specs.states.ValueSteps.{IsThereIfOwn, StandsSo, StepFits, ValuesDo}
use Rattle.sc_machine_laws.proofs.states.Lists.{each_append, each_behind}
use Rattle.sc_machine_laws.proofs.states.OperatorReferences.{Stays}
use Rattle.sc_machine_laws.proofs.states.OperatorReferences.{StepStays}
use Rattle.sc_machine_laws.proofs.states.References.{step_stays}
use Rattle.sc_machine_laws.proofs.states.Routines.{is_run}
use Rattle.sc_machine_laws.proofs.states.ValueSteps.{step_fits}
use Rattle.sc_machine_laws.specs.settlements.Clauses.{AreOfTypes, ClauseStep, InClauses, StandsInClauses}
use Rattle.sc_machine_laws.specs.settlements.Clauses as clauses
use Rattle.sc_machine_laws.proofs.settlements.Clausal.{clause_next, own_values, rest_started, still_there}
use Rattle.sc_machine_laws.specs.Evaluating.{EndsTrue, begins}
use Rattle.sc_machine_laws.specs.ClauseLaws.{StaysInContract, StepExtends, StepOfContract, StepKeepsNoOld, StepsInContract, TextsAreWithoutOld, TextsAreWithoutTests}
use Rattle.sc_machine_laws.specs.Texts.{ClauseHasNoOld, ClauseHasNoTest}
use Rattle.sc_machine_laws.specs.Following.{ClausesAt, HasDone, Hold, IsAt, behind_clause, between_point, body_tasks, clause_of}
use Rattle.sc_machine_laws.specs.Following as at
use Rattle.sc_machine_laws.specs.Points.{ClauseSteps, InContract}
use Rattle.sc_machine_laws.proofs.PointsSteps.{Stepped, Unchanged, step_within, steps_on, unchanged}

-- where one value lies it is the last
one_value : (s : System) (pure : RoutineName → Bool) (t : Text) (n : Entities) (k : Clause) (rest : List Task)
    (types : List EntityType) (vs : List Operand) →
    InClauses s pure t n (Required k ∷ rest) types → AreOfTypes types vs → (u : Operand) × (vs ≡ u ∷ [])
one_value s pure t n k rest _ (u ∷ []) (clauses.required d) are = (u, refl)
one_value s pure t n k rest _ [] (clauses.required d) are = absurd are
one_value s pure t n k rest _ (u ∷ v ∷ vs) (clauses.required d) are = absurd are.1

module _ (extends : StepExtends) (leaves : StepKeepsNoOld) (contract : StepOfContract) (no_olds : TextsAreWithoutOld)
    (no_tests : TextsAreWithoutTests)
    (s : System) (root : Root) (pure : RoutineName → Bool) (faultless : IsFaultless s root) (well : WellFormed s)
    (tells : IsPurity s pure)
    (r : Routine) (me : Reference) (named : routine_named s me.class r.name ≡ Some r) (n : Entities) (M : ℕ → Type 0)
    (O : ℕ → List Object) (bs : List Binding) where
  abbrev So : Step → Type 0
  So st = ClauseSteps s pure M O me r bs st

  -- inside the clause, after which others are left
  abbrev At : Clause → List Clause → Point → Type 0
  At k ks q = IsAt s M O me (clause_of O me r bs k) (Required k ∷ behind_clause r ks) q

  abbrev Done : Clause → List Clause → Act → Point → Type 0
  Done k ks a q = HasDone s M O me (clause_of O me r bs k) (Required k ∷ behind_clause r ks) a q

  -- ---- clauses

  clause_without_old : (done ks : List Clause) (k : Clause) → r.require ≡ done ++ k ∷ ks → ClauseHasNoOld k
  clause_without_old done ks k e = (no_olds s root faultless well me.class r.name r named).require k
      (subst (λ (qs : List Clause). Contains qs k) (sym e)
      (Contains-append_right done (k ∷ ks) k (contains_first k ks)))

  clause_without_test : (done ks : List Clause) (k : Clause) → r.require ≡ done ++ k ∷ ks → ClauseHasNoTest k
  clause_without_test done ks k e =
      (each_behind ClauseHasNoTest done (k ∷ ks)
      (subst (Each ClauseHasNoTest) e (no_tests s root faultless well me.class r.name r named).require)).0

  -- ---- what stays

  in_clause : (k : Clause) (ts : List Task) (p : Point) → ClauseHasNoTest k →
      IsAt s M O me (clause_of O me r bs k) ts p → p.text ≡ r.contract → p.olds ≡ [] → InContract O me r bs p
  in_clause k ts p none a text olds = by (unchanged contract s M O me (clause_of O me r bs k) a.at (none, tt) a.reaches)
    where
      by : Unchanged (clause_of O me r bs k) a.at → InContract O me r bs p
      by u = record {
        objects_are = ap (λ (p : Point). p.objects) a.stands ∙ u.objects_are;
        text_is = text;
        environment_is = ap (λ (p : Point). p.environment) a.stands ∙ u.environment_is;
        result_is = ap (λ (p : Point). p.result) a.stands ∙ u.result_is;
        olds_are = olds;
      }

  done_clause : (k : Clause) (ts : List Task) (a : Act) (p : Point) → ClauseHasNoTest k →
      (d : HasDone s M O me (clause_of O me r bs k) ts a p) →
      ((q : Point) → StepsInContract [] q (Does a d.after) → StaysInContract [] q d.after) →
      (Does a d.after ≡ Does Exits d.before → ⊥) →
      p.text ≡ r.contract → p.olds ≡ [] → InContract O me r bs p
  done_clause k ts a p none d so some text olds =
      by (unchanged contract s M O me (clause_of O me r bs k) d.before (none, tt) d.reaches)
    where
      by : Unchanged (clause_of O me r bs k) d.before → InContract O me r bs p
      by u =
          let y = so d.before (steps_on contract s M O me d.before u.of_contract
          (Does a d.after) d.step_is some) in record {
            objects_are = ap (λ (p : Point). p.objects) d.stands ∙ y.objects_are ∙ u.objects_are;
            text_is = text;
            environment_is = ap (λ (p : Point). p.environment) d.stands ∙ y.environment_is ∙ u.environment_is;
            result_is = ap (λ (p : Point). p.result) d.stands ∙ y.result_is ∙ u.result_is;
            olds_are = olds;
          }

  -- ---- between clauses

  between_so : (done ks : List Clause) → r.require ≡ done ++ ks → Hold s M O me r bs done →
      So (step s me (between_point O me r bs ks))
  between_so done [] e holds =
      (subst (λ (qs : List Clause). Hold s M O me r bs qs) (sym (e ∙ append-nil done)) holds, rest_started r, refl)
  between_so done (k ∷ ks) e holds = (
    at.inside done ks k e holds refl
        (record {
          at = clause_of O me r bs k;
          reaches = begins;
          stands = refl;
          without_old = (clause_without_old done ks k e, tt);
        }),
    record { objects_are = refl; text_is = refl; environment_is = refl; result_is = refl; olds_are = refl },
  )

  -- ---- at the end of a clause

  module _ (done ks : List Clause) (k : Clause) (e : r.require ≡ done ++ k ∷ ks) (holds : Hold s M O me r bs done)
      (p : Point) (none : p.olds ≡ [])
      (a : At k ks p) (z : StandsInClauses s pure r.contract n [] p) where
    here : InContract O me r bs p
    here = in_clause k (Required k ∷ behind_clause r ks) p (clause_without_test done ks k e) a z.text_is none

    -- after the clause, whatever is left
    left : {ts : List Task} {vs : List Operand} → InContract O me r bs (record p { tasks = ts; values = vs })
    left = record {
      objects_are = here.objects_are;
      text_is = here.text_is;
      environment_is = here.environment_is;
      result_is = here.result_is;
      olds_are = none;
    }

    abbrev behind : Point
    behind = record p { tasks = behind_clause r ks; values = [] }

    behind_is : behind ≡ between_point O me r bs ks
    behind_is = same p.objects p.text p.environment p.result p.olds here.objects_are here.text_is here.environment_is
        here.result_is none
      where
        same : (os : List Object) (t : Text) (cs : List Binding) (u : Option Operand) (us : List Operand) →
            os ≡ O me.handler → t ≡ r.contract → cs ≡ bs →
            u ≡ result_of r.text.result → us ≡ [] →
            (record {
              objects = os;
              text = t;
              environment = cs;
              result = u;
              olds = us;
              tasks = behind_clause r ks;
              values = [];
            }) ≡ between_point O me r bs ks
        same os t cs u us a b c d e = rw (a, b, c, d, e) refl

    ended_so : (v : Value) (u : EntityType) → a.at.tasks ≡ [] → p.values ≡ operand v u ∷ [] → So (required k v behind)
    ended_so (Boolean true) u i vs = (
      at.between (done ++ k ∷ []) ks (e ∙ sym (append_assoc done (k ∷ []) ks))
          (each_append _ done (k ∷ []) holds (ends, tt)) behind_is,
      left,
    )
      where
        ends : EndsTrue s M O me (clause_of O me r bs k)
        ends = record {
          end = a.at;
          type = u;
          others = [];
          reaches = a.reaches;
          tasks_are = i;
          values_are = sym (ap (λ (p : Point). p.values) a.stands) ∙ vs;
        }
    ended_so (Boolean false) u i vs =
        left
    ended_so (Integer m) u i vs = tt
    ended_so Void u i vs = tt
    ended_so (Attached o) u i vs = tt

    at_end : a.at.tasks ≡ [] → So (step s me p)
    at_end i =
        let tasks : p.tasks ≡ Required k ∷ behind_clause r ks = ap (λ (p : Point). p.tasks) a.stands
        ∙ ap (λ us. us ++ Required k ∷ behind_clause r ks) i in
        let one = one_value s pure r.contract n k (behind_clause r ks) z.types p.values
        (subst (λ ts. InClauses s pure r.contract n ts z.types) tasks z.left) z.values in
        subst (λ ts. So (step_at s me ts p)) (sym tasks)
        (subst (λ vs. So (performs s me (Required k) vs (record p { tasks = behind_clause r ks }))) (sym one.1)
        (ended_so one.0.value one.0.type i one.1))

  -- ---- a step

  -- within a clause
  within_so : (done ks : List Clause) (k : Clause) → r.require ≡ done ++ k ∷ ks → Hold s M O me r bs done →
      (p : Point) → p.olds ≡ [] → (x : Step) →
      Stepped extends leaves s M O me (clause_of O me r bs k) (Required k ∷ behind_clause r ks) p.olds x →
      ClauseStep s pure r.contract n x → StepFits s pure r me x → So x
  within_so done ks k e holds p none (Goes q) y z f = (
    at.inside done ks k e holds (y.1 ∙ none) y.0,
    in_clause k (Required k ∷ behind_clause r ks) q
        (clause_without_test done ks k e) y.0 z.text_is (y.1 ∙ none),
  )
  within_so done ks k e holds p none (Does (Enters c o x us g) q) y z f = by z.1.0 z.1.1 z.1.2.text_is y
    where
      by : (t : EntityType) → g ≡ Some t → q.text ≡ r.contract →
          Done k ks (Enters c o x us g) q × (q.olds ≡ p.olds) → So (Does (Enters c o x us g) q)
      by t i text (d, same) = (
        t,
        i,
        f.0,
        z.0,
        at.inside done ks k e holds (same ∙ none) (subst (λ g. Done k ks (Enters c o x us g) q) i d),
        done_clause k (Required k ∷ behind_clause r ks) (Enters c o x us g) q (clause_without_test done ks k e) d (λ q y. y)
            (λ n. cc) text (same ∙ none),
      )
  within_so done ks k e holds p none (Does (Requests o x us g passes) q) y z f = by z.1.0 z.1.1 z.1.2.text_is y
    where
      by : (t : EntityType) → g ≡ Some t → q.text ≡ r.contract →
          Done k ks (Requests o x us g passes) q × (q.olds ≡ p.olds) → So (Does (Requests o x us g passes) q)
      by t i text (d, same) = (
        t,
        i,
        z.0,
        z.2,
        at.inside done ks k e holds (same ∙ none)
            (subst (λ b. Done k ks (Requests o x us (Some t) b) q) z.0
            (subst (λ g. Done k ks (Requests o x us g passes) q) i d)),
        done_clause k (Required k ∷ behind_clause r ks) (Requests o x us g passes) q (clause_without_test done ks k e) d
            (λ q y. y) (λ n. cc) text (same ∙ none),
      )
  within_so done ks k e holds p none (Does Starts q) y z f = absurd y
  within_so done ks k e holds p none (Does (Refuses c) q) y z f = absurd y
  within_so done ks k e holds p none (Does (Fails why) q) y z f = tt
  within_so done ks k e holds p none (Does (Prints text) q) y z f = absurd z
  within_so done ks k e holds p none (Does Until q) y z f = absurd z
  within_so done ks k e holds p none (Does Creates q) y z f = absurd z
  within_so done ks k e holds p none (Does (CreatesHandler c x us t passes) q) y z f = absurd z
  within_so done ks k e holds p none (Does Opens q) y z f = absurd z
  within_so done ks k e holds p none (Does Leaves q) y z f = absurd z
  within_so done ks k e holds p none (Does Exits q) y z f = absurd z

  step_so : (p : Point) → ClausesAt s M O me r bs p → StandsInClauses s pure r.contract n [] p →
      ClauseStep s pure r.contract n (step s me p) → StepFits s pure r me (step s me p) →
      So (step s me p)
  step_so p (at.between done ks e holds i) z y f = subst (λ p. So (step s me p)) (sym i) (between_so done ks e holds)
  step_so p (at.inside done ks k e holds none a) z y f = by a.at.tasks refl
    where
      by : (ts : List Task) → a.at.tasks ≡ ts → So (step s me p)
      by [] i = at_end done ks k e holds p none a z i
      by (t ∷ rest) i = within_so done ks k e holds p none (step s me p)
          (step_within extends leaves s M O me (clause_of O me r bs k)
          (Required k ∷ behind_clause r ks) p a t rest i) y f

  -- ---- a turn

  module _ (objects : List Object) (there : IsAmong objects me) where
    within : (m : ℕ) (p : Point) → ClausesAt s M O me r bs p → InContract O me r bs p → StandsSo s pure r me [] p →
        Stays (IsThereIfOwn me.handler objects) objects p →
        StandsInClauses s pure r.contract n [] p → So (first_visible m s me p)
    within zero p a c f h z = (a, c)
    within (suc m) p a c f h z = by (step s me p) (λ q. within m q) fits stays stands (step_so p a z stands fits)
      where
        fits : StepFits s pure r me (step s me p)
        fits = step_fits s pure r me (is_run s root pure faultless well tells r me named) p f
            (still_there s pure tells r me (is_run s root pure faultless well tells r me named) n objects there p h)

        stays : StepStays (IsThereIfOwn me.handler objects) me
            (own_values me.handler objects me there) objects (step s me p)
        stays = step_stays (IsThereIfOwn me.handler objects) me (own_values me.handler objects me there) objects s p h

        stands : ClauseStep s pure r.contract n (step s me p)
        stands = clause_next s pure tells r me (is_run s root pure faultless well tells r me named) n p f z

        by : (x : Step) →
            ((q : Point) → ClausesAt s M O me r bs q → InContract O me r bs q → StandsSo s pure r me [] q →
            Stays (IsThereIfOwn me.handler objects) objects q →
            StandsInClauses s pure r.contract n [] q → So (first_visible m s me q)) → StepFits s pure r me x →
            StepStays (IsThereIfOwn me.handler objects) me (own_values me.handler objects me there) objects x →
            ClauseStep s pure r.contract n x → So x →
            So (then_go x (first_visible m s me))
        by (Goes q) go f h z y = go q y.0 y.1 f h z
        by (Does a q) go f h z y = y

  in_contract : (p : Point) → ClausesAt s M O me r bs p → p.text ≡ r.contract → InContract O me r bs p
  in_contract p (at.between done ks e holds i) text =
      subst (InContract O me r bs) (sym i)
      (record { objects_are = refl; text_is = refl; environment_is = refl; result_is = refl; olds_are = refl })
  in_contract p (at.inside done ks k e holds none a) text = in_clause k (Required k ∷ behind_clause r ks) p
      (clause_without_test done ks k e) a text none

  -- So does its next turn.
  pub clauses_move : (p : Point) → ClausesAt s M O me r bs p → StandsSo s pure r me [] p →
      ValuesDo (IsThereIfOwn me.handler p.objects) p →
      StandsInClauses s pure r.contract n [] p → So (moves s me p)
  clauses_move p a f h z =
      within p.objects f.1.current (suc (size p.tasks)) p a (in_contract p a z.text_is) f
      (record { values = h; there = λ o z. z }) z
