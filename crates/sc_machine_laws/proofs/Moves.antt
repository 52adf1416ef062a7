-- What a turn of a routine does to the objects of its handler, however it stands in its run.
use Rattle.std.proofs.Common.{◌≡◌, ◌≢◌, ◌⊎◌, ⊎_elim, inl, inr, ℕ, zero, suc, ◌+◌, Bool, true, false, List, [], ◌∷◌, ◌++◌, Option, Some, length, refl, sym, ap, subst, ◌∙◌, arith}
use Rattle.sc_tree.specs.Plain.{System}
use Rattle.sc_class.specs.declared.identity.ClassId.TheVariants as class
use Rattle.sc_class.specs.Tables.Features.{DeclaredFeature, feature_named}
use Rattle.sc_rules.specs.declared.entity_types.entity_type.EntityType.{EntityType}
use Rattle.sc_rules.specs.Names.{RoutineName}
use Rattle.sc_model.specs.Environments.{assigned_to}
use Rattle.sc_model.specs.Handlers.{Frame, point_of}
use Rattle.sc_model.specs.Invariants.{MeetsInvariant, meets_invariant}
use Rattle.sc_model.specs.Moves.{moves}
use Rattle.sc_model.specs.Objects.{Object, attributes_of, fresh_object, object_numbered}
use Rattle.sc_model.specs.Steps.{Calling, Unqualified, Qualified, Creation, Act, Prints, Until, Creates, CreatesHandler, Enters, Requests, Starts, Refuses, Opens, Leaves, Exits, Fails, Step, Goes, Does, Point}
use Rattle.sc_model.specs.Tasks.{Task}
use Rattle.sc_model.specs.Values.{Reference, Operand}
use Rattle.sc_machine_laws.proofs.Modes.{AfterStart, Started, RunsPure, Unstarted, IsWildAs, StandsAs, name_of, not_both}
use Rattle.sc_machine_laws.proofs.Numbered.{numbered_other}
use Rattle.sc_machine_laws.proofs.FreeNames.{AssignsNone, CallsPure}
use Rattle.sc_machine_laws.proofs.Tasks.{OfTasks}
use Rattle.sc_machine_laws.proofs.CallSteps.{HasMade, MayAssign, SteppedSo}
use Rattle.sc_machine_laws.proofs.Steps.{moves_so}

-- If there is an object of the number, it meets its class invariant.
abbrev pub Meets : System → List Object → ℕ → Type 0
Meets s objects n = (o : Object) → object_numbered n objects ≡ Some o → MeetsInvariant s o

-- two numbers are the same or not
pub same_or_not : (m n : ℕ) → (m ≡ n) ⊎ (m ≢ n)
same_or_not zero zero = inl refl
same_or_not zero (suc n) = inr (λ e. (cc))
same_or_not (suc m) zero = inr (λ e. (cc))
same_or_not (suc m) (suc n) = ⊎_elim (λ e. inl (ap suc e)) (λ ne. inr (λ e. ne (omega arith))) (same_or_not m n)

no_both : {A : Type 0} (b : Bool) → b ≡ true → b ≡ false → A
no_both true e f = cc
no_both false e f = cc

-- The routine of the frame goes on at the point, where these were the objects of its handler and those are: what met its invariant does, or is Current of
-- a routine that is no pure function and has started.
pub record Moved (s : System) (pure : RoutineName → Bool) (f : Frame) (objects to : List Object) (p : Point) : Type 0 where
  pub stands : StandsAs s pure f.routine p.text.class p.tasks
  pub meets : (n : ℕ) → Meets s objects n → Meets s to n ⊎ ((f.current.number ≡ n) × IsWildAs pure f.routine p.text.class p.tasks)
  pub stays_wild : IsWildAs pure f.routine f.text.class f.tasks → IsWildAs pure f.routine p.text.class p.tasks

-- an object of the class was made, of this number
pub record MovedToNew (s : System) (pure : RoutineName → Bool) (f : Frame) (objects : List Object) (class number : ℕ) (p : Point) : Type 0 where
  pub to : List Object
  pub moved : Moved s pure f objects to p
  pub objects_are : p.objects ≡ to ++ fresh_object s class ∷ []
  pub is_next : number ≡ length to + 1

module _ (s : System) (pure : RoutineName → Bool) (f : Frame) (objects : List Object) where
  -- a routine of Current is called: a pure one, or by one that is no pure function and has started
  abbrev pub CallsSo : List ℕ → Point → Type 0
  CallsSo x p = (CallsPure s pure p.text.class x × ((g : DeclaredFeature) × (feature_named s (class.Declared p.text.class) x ≡ Some g))) ⊎ IsWildAs pure f.routine p.text.class p.tasks

  -- What is true of the frame and of the objects after the visible step.
  abbrev pub ActMoves : Act → Point → Type 0
  ActMoves (Enters Unqualified o x us g) p = Moved s pure f objects p.objects p × ((o ≡ f.current) × CallsSo x p)
  ActMoves (Enters Qualified o x us g) p = Moved s pure f objects p.objects p
  ActMoves (Enters Creation o x us g) p = MovedToNew s pure f objects o.class o.number p
  ActMoves Creates p = (k : ℕ) × (n : ℕ) × MovedToNew s pure f objects k n p × (meets_invariant s (fresh_object s k) ≡ true)
  ActMoves (CreatesHandler k procedure us t passes) p = Moved s pure f objects p.objects p
  ActMoves (Prints text) p = Moved s pure f objects p.objects p
  ActMoves Until p = Moved s pure f objects p.objects p
  ActMoves (Requests o x us g passes) p = Moved s pure f objects p.objects p
  ActMoves Starts p = Moved s pure f objects p.objects p
  ActMoves (Refuses k) p = (p.objects ≡ objects) × (IsWildAs pure f.routine f.text.class f.tasks → ⊥)
  ActMoves Opens p = Moved s pure f objects p.objects p
  ActMoves Leaves p = Moved s pure f objects p.objects p
  ActMoves Exits p = (n : ℕ) → Meets s objects n → Meets s p.objects n ⊎ ((f.current.number ≡ n) × (pure (name_of f.routine) ≡ false))
  ActMoves (Fails why) p = Unit {0}

  abbrev pub StepMoves : Step → Type 0
  StepMoves (Goes p) = Unit {0}
  StepMoves (Does a p) = ActMoves a p

  -- ---- from what tasks are such

  module _ (C A : ℕ → List ℕ → Type 0) (E K End : Type 0) (F : List Task → Type 0) (O : List Object → Type 0) (may_assign : MayAssign s f.current A O)
      (moved : (to : List Object) (p : Point) → O to → OfTasks C A E K End F p.text.class p.tasks → Moved s pure f objects to p)
      (starts : (p : Point) → K → O p.objects → OfTasks C A E K End F p.text.class p.tasks ⊎ F p.tasks → Moved s pure f objects p.objects p)
      (refuses : (p : Point) → K → O p.objects → (p.objects ≡ objects) × (IsWildAs pure f.routine f.text.class f.tasks → ⊥))
      (exits : (p : Point) → End → O p.objects → (n : ℕ) → Meets s objects n → Meets s p.objects n ⊎ ((f.current.number ≡ n) × (pure (name_of f.routine) ≡ false)))
      (calls : (x : List ℕ) (p : Point) → C p.text.class x → ((g : DeclaredFeature) × (feature_named s (class.Declared p.text.class) x ≡ Some g)) →
      OfTasks C A E K End F p.text.class p.tasks → CallsSo x p) where
    made : (k n : ℕ) (p : Point) → HasMade O s k n p.objects → OfTasks C A E K End F p.text.class p.tasks → MovedToNew s pure f objects k n p
    made k n p h l = record { to = h.before; moved = moved h.before p h.such l; objects_are = h.objects_are; is_next = h.is_next }

    entered : (c : Calling) (o : Reference) (x : List ℕ) (us : List Operand) (g : Option EntityType) (p : Point) →
        SteppedSo s f.current C A E K End F O may_assign (Does (Enters c o x us g) p) → ActMoves (Enters c o x us g) p
    entered Unqualified o x us g p h = (moved p.objects p h.0 h.1.0, (h.1.1.0, calls x p h.1.1.1.0 h.1.1.1.1 h.1.0))
    entered Qualified o x us g p h = moved p.objects p h.0 h.1
    entered Creation o x us g p h = made o.class o.number p h.1.0 h.1.1

    steps_move : (st : Step) → SteppedSo s f.current C A E K End F O may_assign st → StepMoves st
    steps_move (Goes p) h = tt
    steps_move (Does (Enters c o x us g) p) h = entered c o x us g p h
    steps_move (Does Creates p) h = (h.1.0.0, h.1.0.1, made h.1.0.0 h.1.0.1 p h.1.0.2 h.1.1, h.1.0.3)
    steps_move (Does (CreatesHandler k procedure us t passes) p) h = moved p.objects p h.1.0 h.1.1
    steps_move (Does (Prints text) p) h = moved p.objects p h.0 h.1
    steps_move (Does Until p) h = moved p.objects p h.0 h.1
    steps_move (Does (Requests o x us g passes) p) h = moved p.objects p h.0 h.1
    steps_move (Does Starts p) h = starts p h.0 h.1.0 h.1.1
    steps_move (Does (Refuses k) p) h = refuses p h.0 h.1
    steps_move (Does Opens p) h = moved p.objects p h.0 h.1
    steps_move (Does Leaves p) h = moved p.objects p h.0 h.1
    steps_move (Does Exits p) h = exits p h.0 h.1
    steps_move (Does (Fails why) p) h = tt

  -- ---- the three ways

  -- the objects stay, but for Current
  abbrev Altered : List Object → Type 0
  Altered to = (n : ℕ) → f.current.number ≢ n → object_numbered n to ≡ object_numbered n objects

  abbrev Same : List Object → Type 0
  Same to = to ≡ objects

  alters : MayAssign s f.current (λ k x. Unit {0}) Altered
  alters k x g d v os a e i o n ne = numbered_other os f.current.number n (assigned_to x v (attributes_of f.current.number os)) ne ∙ o n ne

  alters_none : MayAssign s f.current (AssignsNone s) Same
  alters_none k x g d v os a e i o = absurd (a g d e i)

  others_meet : (to : List Object) → Altered to → (n : ℕ) → f.current.number ≢ n → Meets s objects n → Meets s to n
  others_meet to o n ne m q i = m q (sym (o n ne) ∙ i)

  altered_meet : (P : Type 0) (to : List Object) → P → Altered to → (n : ℕ) → Meets s objects n → Meets s to n ⊎ ((f.current.number ≡ n) × P)
  altered_meet P to w o n m = ⊎_elim (λ e. inr (e, w)) (λ ne. inl (others_meet to o n ne m)) (same_or_not f.current.number n)

  same_meet : (to : List Object) → Same to → (n : ℕ) → Meets s objects n → Meets s to n
  same_meet to e n m = subst (λ (os : List Object). Meets s os n) (sym e) m

  module _ (e : pure (name_of f.routine) ≡ false) where
    started_moves : Started f.text.class f.tasks → StepMoves (moves s f.current (point_of f objects))
    started_moves l =
        steps_move (λ k x. Unit {0}) (λ k x. Unit {0}) (Unit {0}) ⊥ (Unit {0}) (λ ts. ⊥) Altered alters moved starts (λ p k o. absurd k)
        (λ p k o. altered_meet (pure (name_of f.routine) ≡ false) p.objects e o) (λ x p c g l. inr (e, l))
        (moves s f.current (point_of f objects))
        (moves_so s f.current (λ k x. Unit {0}) (λ k x. Unit {0}) (Unit {0}) ⊥ (Unit {0}) (λ ts. ⊥) Altered alters (point_of f objects) (λ n ne. refl) l)
      where
        moved : (to : List Object) (p : Point) → Altered to → Started p.text.class p.tasks → Moved s pure f objects to p
        moved to p o l = record {
          stands = inr (e, inl l);
          meets = altered_meet (IsWildAs pure f.routine p.text.class p.tasks) to (e, l) o;
          stays_wild = λ w. (e, l);
        }

        starts : (p : Point) → ⊥ → Altered p.objects → Started p.text.class p.tasks ⊎ ⊥ → Moved s pure f objects p.objects p
        starts p k o l = absurd k

    unstarted_moves : Unstarted s pure f.text.class f.tasks → StepMoves (moves s f.current (point_of f objects))
    unstarted_moves l =
        steps_move (CallsPure s pure) (AssignsNone s) ⊥ (Unit {0}) ⊥ AfterStart Same alters_none moved starts
        (λ p k o. (o, λ w. not_both s pure f.text.class f.text.class f.tasks l w.1)) (λ p k o. absurd k) (λ x p c g l. inl (c, g))
        (moves s f.current (point_of f objects))
        (moves_so s f.current (CallsPure s pure) (AssignsNone s) ⊥ (Unit {0}) ⊥ AfterStart Same alters_none (point_of f objects) refl l)
      where
        moved : (to : List Object) (p : Point) → Same to → Unstarted s pure p.text.class p.tasks → Moved s pure f objects to p
        moved to p o u = record {
          stands = inr (e, inr u);
          meets = λ n m. inl (same_meet to o n m);
          stays_wild = λ w. absurd (not_both s pure f.text.class f.text.class f.tasks l w.1);
        }

        starts : (p : Point) → Unit {0} → Same p.objects → Unstarted s pure p.text.class p.tasks ⊎ AfterStart p.tasks → Moved s pure f objects p.objects p
        starts p k o (inl u) = moved p.objects p o u
        starts p k o (inr g) = record {
          stands = inr (e, inl (g p.text.class));
          meets = λ n m. inl (same_meet p.objects o n m);
          stays_wild = λ w. (e, g p.text.class);
        }

  pure_moves : pure (name_of f.routine) ≡ true → RunsPure s pure f.text.class f.tasks → StepMoves (moves s f.current (point_of f objects))
  pure_moves e l =
      steps_move (CallsPure s pure) (AssignsNone s) ⊥ (Unit {0}) (Unit {0}) (λ ts. ⊥) Same alters_none moved starts
      (λ p k o. (o, λ w. no_both (pure (name_of f.routine)) e w.0)) (λ p k o n m. inl (same_meet p.objects o n m)) (λ x p c g l. inl (c, g))
      (moves s f.current (point_of f objects))
      (moves_so s f.current (CallsPure s pure) (AssignsNone s) ⊥ (Unit {0}) (Unit {0}) (λ ts. ⊥) Same alters_none (point_of f objects) refl l)
    where
      moved : (to : List Object) (p : Point) → Same to → RunsPure s pure p.text.class p.tasks → Moved s pure f objects to p
      moved to p o l = record {
        stands = inl (e, l);
        meets = λ n m. inl (same_meet to o n m);
        stays_wild = λ w. no_both (pure (name_of f.routine)) e w.0;
      }

      starts : (p : Point) → Unit {0} → Same p.objects → RunsPure s pure p.text.class p.tasks ⊎ ⊥ → Moved s pure f objects p.objects p
      starts p k o (inl l) = moved p.objects p o l
      starts p k o (inr l) = absurd l

  -- So it is of each turn of a routine.
  pub turn_moves : StandsAs s pure f.routine f.text.class f.tasks → StepMoves (moves s f.current (point_of f objects))
  turn_moves (inl l) = pure_moves l.0 l.1
  turn_moves (inr (e, inl l)) = started_moves e l
  turn_moves (inr (e, inr l)) = unstarted_moves e l
