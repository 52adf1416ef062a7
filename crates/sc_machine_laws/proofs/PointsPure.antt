-- What a turn makes of a pure function, beside the evaluation of its body.
use Rattle.std.proofs.Common.{ℕ, zero, suc, ◌≡◌, Bool, true, List, [], ◌∷◌, ◌++◌, Option, Some, refl, sym, ap, subst, ◌∙◌}
use Rattle.std.specs.Prelude.{length, take}
use Rattle.std.proofs.lemmas.List.{append-nil}
use Rattle.sc_tree.specs.Plain.{System}
use Rattle.sc_class.specs.ClassNames.{Root}
use Rattle.sc_class.specs.Faults.ClassRules.{IsFaultless}
use Rattle.sc_rules.specs.declared.entity_types.entity_type.EntityType.{EntityType}
use Rattle.sc_rules.specs.Names.{RoutineName}
use Rattle.sc_rules.specs.Purity.{IsPurity}
use Rattle.sc_rules.specs.SystemRules.{WellFormed}
use Rattle.sc_model.specs.Entries.{result_of}
use Rattle.sc_model.specs.Environments.{Binding}
use Rattle.sc_model.specs.Moves.{first_visible, moves, step, step_at, then_go}
use Rattle.sc_model.specs.Objects.{Object}
use Rattle.sc_model.specs.Routines.{Routine, routine_named}
use Rattle.sc_model.specs.Sizes.{size}
use Rattle.sc_model.specs.Steps.{Act, Unqualified, Qualified, Creation, Prints, Until, Creates, CreatesHandler, Enters, Requests, Starts, Refuses, Opens, Leaves, Exits, Fails, Point, Step, Goes, Does}
use Rattle.sc_model.specs.Tasks.{Task, Declare, Do}
use Rattle.sc_model.specs.Values.{Reference, Operand}
use Rattle.sc_machine_laws.specs.states.Points.{Each, IsAmong}
use Rattle.sc_machine_laws.specs.states.ValueSteps.{IsThereIfOwn, StandsSo, StepFits, ValuesDo}
use Rattle.sc_machine_laws.proofs.states.OperatorReferences.{Stays, StepStays}
use Rattle.sc_machine_laws.proofs.states.References.{step_stays}
use Rattle.sc_machine_laws.proofs.states.Routines.{is_run}
use Rattle.sc_machine_laws.proofs.states.ValueSteps.{step_fits}
use Rattle.sc_machine_laws.proofs.Modes.{RunsPure as IsLeftPure}
use Rattle.sc_machine_laws.proofs.FreeNames.{AssignsNone, CallsPure}
use Rattle.sc_machine_laws.proofs.CallSteps.{MayAssign, SteppedSo}
use Rattle.sc_machine_laws.proofs.Steps.{moves_so}
use Rattle.sc_machine_laws.specs.settlements.Calm.{CalmStep, name_of}
use Rattle.sc_machine_laws.proofs.settlements.Clausal.{own_values, still_there}
use Rattle.sc_machine_laws.specs.Evaluating.{Reaches, begins}
use Rattle.sc_machine_laws.specs.ClauseLaws.{StaysInContract, StepExtends, StepOfContract, StepKeepsNoOld, StepsInContract, TextsAreWithoutOld, TextsAreWithoutTests}
use Rattle.sc_machine_laws.specs.Texts.{IsOfContract}
use Rattle.sc_machine_laws.specs.Following.{AreBound, HasDone, IsAt, Own, PureAt, PureCalls, behind_body, body_tasks, start_of}
use Rattle.sc_machine_laws.specs.Following as at
use Rattle.sc_machine_laws.specs.Points.{HasRun, IsThisCall, PureSteps}
use Rattle.sc_machine_laws.proofs.PointsBound.{Has, Left}
use Rattle.sc_machine_laws.proofs.PointsEvaluated.{after_firm, reaches_firm}
use Rattle.sc_machine_laws.proofs.PointsFormals.{bound_formals, take_these}
use Rattle.sc_machine_laws.proofs.PointsEntries.{bound_length, takes_bound}
use Rattle.sc_machine_laws.proofs.PointsFunctions.{gives_value, none_at_text, result_there}
use Rattle.sc_machine_laws.proofs.PointsSteps.{Stepped, step_within}

-- ---- objects

-- The objects of the handler are these after what is seen.
abbrev Keep : List Object → Step → Type 0
Keep os (Does (Fails why) q) = Unit {0}
Keep os (Does Creates q) = Unit {0}
Keep os (Goes q) = q.objects ≡ os
Keep os (Does a q) = q.objects ≡ os

module _ (s : System) (pure : RoutineName → Bool) (me : Reference) (os : List Object) where
  assigns_none : MayAssign s me (AssignsNone s) (λ to. to ≡ os)
  assigns_none k x g d v objects a e i o = absurd (a g d e i)

  keeps_so : (x : Step) →
      SteppedSo s me (CallsPure s pure) (AssignsNone s) ⊥ (Unit {0}) (Unit {0}) (λ ts. ⊥)
      (λ to. to ≡ os) assigns_none x → Keep os x
  keeps_so (Goes q) h = h.0
  keeps_so (Does (Enters Unqualified o x us g) q) h = h.0
  keeps_so (Does (Enters Qualified o x us g) q) h = h.0
  keeps_so (Does (Enters Creation o x us g) q) h = absurd h.0
  keeps_so (Does Creates q) h = tt
  keeps_so (Does (CreatesHandler k x us t passes) q) h = absurd h.0
  keeps_so (Does (Prints text) q) h = h.0
  keeps_so (Does Until q) h = h.0
  keeps_so (Does (Requests o x us g passes) q) h = h.0
  keeps_so (Does Starts q) h = h.1.0
  keeps_so (Does (Refuses k) q) h = h.1
  keeps_so (Does Opens q) h = h.0
  keeps_so (Does Leaves q) h = h.0
  keeps_so (Does Exits q) h = h.1
  keeps_so (Does (Fails why) q) h = tt

  -- A pure function leaves them as they are.
  moves_keep : (p : Point) → p.objects ≡ os → IsLeftPure s pure p.text.class p.tasks → Keep os (moves s me p)
  moves_keep p e l = keeps_so (moves s me p)
      (moves_so s me (CallsPure s pure) (AssignsNone s) ⊥ (Unit {0}) (Unit {0}) (λ ts. ⊥)
      (λ to. to ≡ os) assigns_none p e l)

-- ---- a step

module _ (extends : StepExtends) (leaves : StepKeepsNoOld) (contract : StepOfContract) (no_olds : TextsAreWithoutOld)
    (no_tests : TextsAreWithoutTests)
    (s : System) (root : Root) (pure : RoutineName → Bool) (faultless : IsFaultless s root) (well : WellFormed s)
    (tells : IsPurity s pure)
    (r : Routine) (me : Reference) (named : routine_named s me.class r.name ≡ Some r) (is : pure (name_of r) ≡ true)
    (O : ℕ → List Object)
    (bs : List Binding) (bound : AreBound s r bs) where
  abbrev Runs : Point → Type 0
  Runs e = Reaches s (Own me.handler) O me (start_of s O me r bs) e

  abbrev IsBound : Point → Type 0
  IsBound q = take (length r.text.formals) q.environment ≡ bs

  abbrev Inside : Point → Type 0
  Inside q = IsAt s (Own me.handler) O me (start_of s O me r bs) (behind_body r) q

  abbrev Done : Act → Point → Type 0
  Done a q = HasDone s (Own me.handler) O me (start_of s O me r bs) (behind_body r) a q

  -- the actuals are the first names, and what is left forgets none of them
  abbrev Known : List Binding → Type 0
  Known cs = Has contract s me bs (bound_formals s r bs bound) cs

  abbrev Deep : List Task → Type 0
  Deep ts = Left contract s me bs (bound_formals s r bs bound) ts

  -- where it stands; before its body the objects are those
  data Here (p : Point) : Type 0 where
    before : (ts : List Task) → p.tasks ≡ ts ++ body_tasks r → Each IsOfContract ts → p.environment ≡ bs →
        p.result ≡ result_of r.text.result → p.objects ≡ O me.handler → Here p
    during : Inside p → Here p
    behind : {e : Point} → Runs e → e.tasks ≡ [] → p.result ≡ e.result → Each IsOfContract p.tasks → IsBound p → Here p

  abbrev So : Step → Type 0
  So (Goes q) = Here q
  So (Does (Enters c o x us g) q) =
      ((t : EntityType) → g ≡ Some t → PureCalls s O me r bs t (IsThisCall o x us) q) × IsBound q
  So (Does Until q) = Here q
  So (Does Starts q) = Here q
  So (Does Exits q) = HasRun s O me r bs q × IsBound q
  So (Does (Refuses k) q) = IsBound q
  So (Does a q) = Unit {0}

  -- ---- names

  same_bound : (q : Point) → q.environment ≡ bs → IsBound q
  same_bound q e = ap (take (length r.text.formals)) e ∙ takes_bound s r bs bound

  has_bound : (q : Point) → Known q.environment → IsBound q
  has_bound q (more, e) =
      ap (take (length r.text.formals)) e
      ∙ subst (λ (n : ℕ). take n (bs ++ more) ≡ bs) (bound_length s r.text.formals 0 r.text.formals bound.0 bs bound.1)
      (take_these bs more)

  first_names : Known bs × Deep (start_of s O me r bs).tasks
  first_names = (([], sym (append-nil bs)), (tt, (tt, tt)))

  reached_names : (e : Point) → Runs e →
      Known e.environment × Deep e.tasks
  reached_names e v = reaches_firm contract s me bs (bound_formals s r bs bound) (Own me.handler) O
      (start_of s O me r bs) e first_names v

  bound_during : (p : Point) → Inside p → IsBound p
  bound_during p a = ap (λ (p : Point). take (length r.text.formals) p.environment) a.stands
      ∙ has_bound a.at (reached_names a.at a.reaches).0

  here_bound : (p : Point) → Here p → IsBound p
  here_bound p (before ts e o i u j) = same_bound p i
  here_bound p (during a) = bound_during p a
  here_bound p (behind v e u o i) = i

  -- ---- before the body

  before_so : (t : Task) (ts : List Task) (p : Point) → p.tasks ≡ t ∷ ts ++ body_tasks r →
      Each IsOfContract (t ∷ ts) → p.environment ≡ bs → p.result ≡ result_of r.text.result →
      p.objects ≡ O me.handler → So (step s me p)
  before_so t ts p e o i u j = by (step s me p) (contract s me t ts (body_tasks r) p e o.0 o.1)
    where
      stays : (q : Point) → StaysInContract (body_tasks r) p q → Here q
      stays q y = before y.tasks y.tasks_are y.of_contract (y.environment_is ∙ i) (y.result_is ∙ u) (y.objects_are ∙ j)

      by : (x : Step) → StepsInContract (body_tasks r) p x → So x
      by (Goes q) y = stays q y
      by (Does (Enters c a x us g) q) y = (
        λ t l. at.before y.tasks y.tasks_are y.of_contract (y.environment_is ∙ i) (y.result_is ∙ u),
        same_bound q
            (y.environment_is ∙ i),
      )
      by (Does (Requests a x us g passes) q) y = tt
      by (Does Starts q) y = stays q y
      by (Does (Refuses k) q) y = same_bound q (y.environment_is ∙ i)
      by (Does (Fails why) q) y = tt
      by (Does (Prints text) q) y = tt
      by (Does Until q) y = absurd y
      by (Does Creates q) y = tt
      by (Does (CreatesHandler k x us t passes) q) y = tt
      by (Does Opens q) y = tt
      by (Does Leaves q) y = tt
      by (Does Exits q) y = absurd y

  abbrev begun : List Operand → List Object → List Binding → Option Operand → List Operand → Point
  begun olds os cs u vs = record {
    objects = os;
    text = r.text;
    environment = cs;
    result = u;
    olds = olds;
    tasks = Declare r.locals ∷ Do r.body ∷ behind_body r;
    values = vs;
  }

  -- the body begins
  begins_so : (p : Point) → p.tasks ≡ body_tasks r → p.environment ≡ bs → p.result ≡ result_of r.text.result →
      p.objects ≡ O me.handler → p.values ≡ [] → So (step s me p)
  begins_so p e i u j v = subst (λ ts. So (step_at s me ts p)) (sym e) (during (record {
    at = start_of s O me r bs;
    reaches = begins;
    stands = same p.objects p.environment p.result p.values j i u v;
    without_old = (tt, ((no_olds s root faultless well me.class r.name r named).body, tt));
  }))
    where
      same : (os : List Object) (cs : List Binding) (u : Option Operand) (vs : List Operand) → os ≡ O me.handler →
          cs ≡ bs → u ≡ result_of r.text.result → vs ≡ [] →
          begun p.olds os cs u vs ≡ begun p.olds (O me.handler) bs (result_of r.text.result) []
      same os cs u vs a b c d = rw (a, b, c, d) refl

  -- ---- within the body

  within_so : (p : Point) (os : List Operand) (x : Step) →
      Stepped extends leaves s (Own me.handler) O me (start_of s O me r bs) (behind_body r) os x →
      StepFits s pure r me x → So x
  within_so p os (Goes q) y f = during y.0
  within_so p os (Does Until q) y f = during y.0
  within_so p os (Does (Enters c o x us g) q) y f = by f.0 y.0
    where
      by : o.handler ≡ me.handler →
          Done (Enters c o x us g) q →
          So (Does (Enters c o x us g) q)
      by own d = (
        λ t i. at.during own (subst (λ g. Done (Enters c o x us g) q) i d) (refl, refl, refl),
        ap (λ (p : Point). take (length r.text.formals) p.environment) d.stands
            ∙ has_bound d.after (after_firm contract s me bs (bound_formals s r bs bound) (Own me.handler) O d.before
            (reached_names d.before d.reaches)
            (Does (Enters c o x us g) d.after) d.step_is).0,
      )
  within_so p os (Does Starts q) y f = absurd y
  within_so p os (Does (Refuses k) q) y f = absurd y
  within_so p os (Does Exits q) y f = absurd y
  within_so p os (Does (Requests o x us g passes) q) y f = tt
  within_so p os (Does (Fails why) q) y f = tt
  within_so p os (Does (Prints text) q) y f = tt
  within_so p os (Does Creates q) y f = tt
  within_so p os (Does (CreatesHandler k x us t passes) q) y f = tt
  within_so p os (Does Opens q) y f = tt
  within_so p os (Does Leaves q) y f = tt

  -- the body ends
  ends_so : (p : Point) (a : Inside p) →
      a.at.tasks ≡ [] → So (step s me p)
  ends_so p a e =
      let tasks : p.tasks ≡ behind_body r = ap (λ (p : Point). p.tasks) a.stands ∙ ap (λ us. us ++ behind_body r) e in
      subst (λ ts. So (step_at s me ts p)) (sym tasks)
      (behind a.reaches e (ap (λ (p : Point). p.result) a.stands)
      (tt, (no_tests s root faultless well me.class r.name r named).behind)
      (ap (take (length r.text.formals)) (bound_during p a) ∙ takes_bound s r bs bound))

  -- ---- after it

  behind_so : (e : Point) → Runs e → e.tasks ≡ [] → (t : Task) (ts : List Task) (p : Point) → p.tasks ≡ t ∷ ts →
      p.result ≡ e.result → Each IsOfContract (t ∷ ts) → IsBound p →
      So (step s me p)
  behind_so e v n t ts p i u o b =
      by (step s me p) (contract s me t ts [] p (i ∙ ap (λ us. t ∷ us) (sym (append-nil ts))) o.0 o.1)
    where
      left : (q : Point) (y : StaysInContract [] p q) → Each IsOfContract q.tasks
      left q y = subst (Each IsOfContract) (sym (y.tasks_are ∙ append-nil y.tasks)) y.of_contract

      stays_bound : (q : Point) → StaysInContract [] p q → IsBound q
      stays_bound q y = ap (take (length r.text.formals)) y.environment_is ∙ b

      stays : (q : Point) → StaysInContract [] p q → Here q
      stays q y = behind v n (y.result_is ∙ u) (left q y) (stays_bound q y)

      by : (x : Step) → StepsInContract [] p x → So x
      by (Goes q) y = stays q y
      by (Does (Enters c a x us g) q) y = (λ t l. at.behind v n (y.result_is ∙ u) (left q y), stays_bound q y)
      by (Does (Requests a x us g passes) q) y = tt
      by (Does Starts q) y = stays q y
      by (Does (Refuses k) q) y = stays_bound q y
      by (Does (Fails why) q) y = tt
      by (Does (Prints text) q) y = tt
      by (Does Until q) y = absurd y
      by (Does Creates q) y = tt
      by (Does (CreatesHandler k x us t passes) q) y = tt
      by (Does Opens q) y = tt
      by (Does Leaves q) y = tt
      by (Does Exits q) y = absurd y

  -- ---- any step

  step_so : (p : Point) → Here p → StandsSo s pure r me [] p → StepFits s pure r me (step s me p) → So (step s me p)
  step_so p (before [] e o i u j) f fits =
      begins_so p e i u j (none_at_text s pure r me p r.text (Declare r.locals ∷ Do r.body ∷ behind_body r) f e)
  step_so p (before (t ∷ ts) e o i u j) f fits = before_so t ts p e o i u j
  step_so p (during a) f fits = by a.at.tasks refl
    where
      by : (ts : List Task) → a.at.tasks ≡ ts → So (step s me p)
      by [] i = ends_so p a i
      by (t ∷ rest) i = within_so p p.olds (step s me p)
          (step_within extends leaves s (Own me.handler) O me (start_of s O me r bs) (behind_body r) p a t rest i) fits
  step_so p (behind {e} v n u o b) f fits = by p.tasks refl
    where
      by : (ts : List Task) → p.tasks ≡ ts → So (step s me p)
      by [] i = subst (λ ts. So (step_at s me ts p)) (sym i)
          (record { end = e; reaches = v; tasks_are = n; result_is = u }, b)
      by (t ∷ ts) i = behind_so e v n t ts p i u (subst (Each IsOfContract) i o) b

  -- ---- a turn

  module _ (objects : List Object) (there : IsAmong objects me) where
    within : (m : ℕ) (p : Point) → Here p → StandsSo s pure r me [] p →
        Stays (IsThereIfOwn me.handler objects) objects p →
        So (first_visible m s me p) × StepFits s pure r me (first_visible m s me p)
    within zero p a f h = (a, f)
    within (suc m) p a f h = by (step s me p) (λ q. within m q) fits stays (step_so p a f fits)
      where
        fits : StepFits s pure r me (step s me p)
        fits = step_fits s pure r me (is_run s root pure faultless well tells r me named) p f
            (still_there s pure tells r me (is_run s root pure faultless well tells r me named) [] objects there p h)

        stays : StepStays (IsThereIfOwn me.handler objects) me
            (own_values me.handler objects me there) objects (step s me p)
        stays = step_stays (IsThereIfOwn me.handler objects) me (own_values me.handler objects me there) objects s p h

        by : (x : Step) →
            ((q : Point) → Here q → StandsSo s pure r me [] q → Stays (IsThereIfOwn me.handler objects) objects q →
            So (first_visible m s me q) × StepFits s pure r me (first_visible m s me q)) → StepFits s pure r me x →
            StepStays (IsThereIfOwn me.handler objects) me (own_values me.handler objects me there) objects x → So x →
            So (then_go x (first_visible m s me)) × StepFits s pure r me (then_go x (first_visible m s me))
        by (Goes q) go f h y = go q y f h
        by (Does a q) go f h y = (y, f)

  -- where it stood
  here : (p : Point) → PureAt s O me r bs p → p.objects ≡ O me.handler → IsBound p → Here p
  here p (at.before ts e o i u) j b = before ts e o i u j
  here p (at.during a) j b = during a
  here p (at.behind v n u o) j b = behind v n u o b

  there : (p : Point) → Here p → PureAt s O me r bs p
  there p (before ts e o i u j) = at.before ts e o i u
  there p (during a) = at.during a
  there p (behind v n u o b) = at.behind v n u o

  -- what it does is what such a function may do
  steps_so : (x : Step) → So x → StepFits s pure r me x → CalmStep s pure x → Keep (O me.handler) x →
      PureSteps s pure O me r bs x
  steps_so (Goes q) y f calm k = (there q y, record { objects_are = k; bound_are = here_bound q y })
  steps_so (Does (Enters c o x us g) q) y f calm k = by (gives_value s pure tells me.handler _ o x us g f.2 calm)
    where
      by : (t : EntityType) × (g ≡ Some t) → PureSteps s pure O me r bs (Does (Enters c o x us g) q)
      by (t, i) = (t, i, f.0, calm, y.0 t i, record { objects_are = k; bound_are = y.1 })
  steps_so (Does Until q) y f calm k = (there q y, record { objects_are = k; bound_are = here_bound q y })
  steps_so (Does Starts q) y f calm k = (there q y, record { objects_are = k; bound_are = here_bound q y })
  steps_so (Does Exits q) y f calm k = (
    y.0,
    result_there s pure tells me.class r.name r named is me.handler q.result f.0.result_fits,
    record { objects_are = k; bound_are = y.1 },
  )
  steps_so (Does (Refuses c) q) y f calm k = record { objects_are = k; bound_are = y }
  steps_so (Does (Fails why) q) y f calm k = tt
  steps_so (Does (Prints text) q) y f calm k = absurd calm
  steps_so (Does Creates q) y f calm k = absurd calm
  steps_so (Does (CreatesHandler c x us t passes) q) y f calm k = absurd calm
  steps_so (Does (Requests o x us g passes) q) y f calm k = absurd calm
  steps_so (Does Opens q) y f calm k = absurd calm
  steps_so (Does Leaves q) y f calm k = absurd calm

  -- So does its next turn.
  pub functions_move : (p : Point) → PureAt s O me r bs p → p.objects ≡ O me.handler → IsBound p →
      StandsSo s pure r me [] p → ValuesDo (IsThereIfOwn me.handler p.objects) p →
      IsLeftPure s pure p.text.class p.tasks → CalmStep s pure (moves s me p) →
      PureSteps s pure O me r bs (moves s me p)
  functions_move p a j b f h l calm =
      let z = within p.objects f.1.current (suc (size p.tasks)) p (here p a j b) f
      (record { values = h; there = λ o z. z }) in
      steps_so (moves s me p) z.0 z.1 calm (moves_keep s pure me (O me.handler) p j l)
