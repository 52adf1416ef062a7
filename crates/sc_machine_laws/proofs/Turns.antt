-- In a turn each object goes on to meet its class invariant, or to be Current of a routine that is tested as it ends.
use Rattle.std.proofs.Common.{ℕ, ◌≡◌, ◌⊎◌, ⊎_elim, inl, inr, ◌<◌, ◌==◌, ◌&&◌, ◌||◌, not, Bool, true, false, List, [], ◌∷◌, ◌++◌, Option, Some, refl, sym, ap, subst, ◌∙◌}
use Rattle.std.proofs.lemmas.Bool.{eq-eqb}
use Rattle.std.specs.Prelude.{if◌then◌else◌}
use Rattle.std.specs.Option.{option_map}
use Rattle.sc_tree.specs.Plain.{System, Clause}
use Rattle.sc_rules.specs.declared.entity_types.entity_type.EntityType.{EntityType}
use Rattle.sc_rules.specs.Names.{RoutineName}
use Rattle.sc_lockpass.specs.wait_conditions.Reservations.{mark_of}
use Rattle.sc_lockpass.specs.declared.wait_conditions.condition.EntryVerdict.{EntryVerdict}
use Rattle.sc_lockpass.specs.declared.wait_conditions.condition.EntryVerdict.TheVariants as verdict
use Rattle.sc_lockpass.specs.declared.wait_conditions.session.Release.TheVariants as release_at
use Rattle.sc_model.specs.declared.cause.Cause.{Cause}
use Rattle.sc_model.specs.declared.cause.Cause.TheVariants as cause
use Rattle.sc_model.specs.Values.{Reference, Operand, values_of}
use Rattle.sc_model.specs.Environments.{Binding}
use Rattle.sc_model.specs.Objects.{Object, object_numbered, fresh_object}
use Rattle.sc_model.specs.Invariants.{meets_invariant}
use Rattle.sc_model.specs.Routines.{Routine, routine_named}
use Rattle.sc_model.specs.Tasks.{tasks_of}
use Rattle.sc_model.specs.Steps.{Calling, Unqualified, Qualified, Creation, Act, Prints, Until, Creates, CreatesHandler, Enters, Requests, Starts, Refuses, Opens, Leaves, Exits, Fails, Point}
use Rattle.sc_model.specs.Handlers.{Request, Reply, Refused, Origin, Called, Requested, Stage, Reserves, ReservesBlock, InCall, Frame, Handler, World, frame_at, put, with_stack}
use Rattle.sc_model.specs.Sessions.{release}
use Rattle.sc_model.specs.Failures.{fails_with}
use Rattle.sc_model.specs.Entries.{entry, enters}
use Rattle.sc_model.specs.Preconditions.{verdict_on, is_creation, object_meets, counted_refusal, refuses, correctness_fails, false_clause}
use Rattle.sc_model.specs.Exits.{is_unset, is_untested, handed, leaves_to, exits, leaves_block}
use Rattle.sc_model.specs.Turns.{effect}
use Rattle.sc_machine_laws.proofs.InvariantTests.{found_meets}
use Rattle.sc_machine_laws.proofs.Modes.{IsWildAs, StandsAs, name_of}
use Rattle.sc_machine_laws.proofs.Moves.{ActMoves, CallsSo, Meets, Moved, MovedToNew}
use Rattle.sc_machine_laws.proofs.Stacks.{AllCalls, CoversNumber, Covered, Good, GoodAt, IsWild, LinkedAs, Stands, add_new, calls_alone, handed_good, is_tested_always, push, push_new, retop}
use Rattle.sc_machine_laws.proofs.GoodHandlers.{creates_all, either, enters_all, fails_all, finish_all, no_both, others_put, put_all, release_all, request_all, stack_all, with_own}

-- ---- a visible step

module _ (s : System) (pure : RoutineName → Bool) (h : ℕ) (w : World) (here : h < w.count) (all : (k : ℕ) → Good s pure (w.handlers k))
    (f : Frame) (below : List Frame) (good : GoodAt s pure (w.handlers h).objects (f ∷ below) (w.handlers h).queue (w.handlers h).callback) where
  calls_only : AllCalls (w.handlers h).queue
  calls_only = calls_alone s pure (w.handlers h).queue (w.handlers h).callback (w.handlers h).objects f below good

  abbrev pub T : World → Type 0
  T v = (k : ℕ) → Good s pure (v.handlers k)

  abbrev At : List Object → List Frame → Type 0
  At objects st = GoodAt s pure objects st (w.handlers h).queue (w.handlers h).callback

  others : (k : ℕ) → (k == h) ≡ false → Good s pure (w.handlers k)
  others k n = all k

  -- the frames below are good, but for what the topmost covers
  below_good : (objects : List Object) →
      ((n : ℕ) → Meets s (w.handlers h).objects n ⊎ CoversNumber s pure n f → Meets s objects n ⊎ Covered s pure n below) → At objects below
  below_good objects m = record {
    stand = good.stand.1;
    links = good.links.1;
    meet = λ n. by n (good.meet n);
    first = inl calls_only;
    calls = good.calls;
  }
    where
      by : (n : ℕ) → Meets s (w.handlers h).objects n ⊎ Covered s pure n (f ∷ below) → Meets s objects n ⊎ Covered s pure n below
      by n (inl i) = m n (inl i)
      by n (inr (inl c)) = m n (inr c)
      by n (inr (inr c)) = inr c

  module _ (p : Point) where
    abbrev after : Frame
    after = frame_at f p

    abbrev mine : Handler
    mine = record (w.handlers h) { objects = p.objects; stack = frame_at f p ∷ below }

    -- the world after the silent steps and the visible one, before its effect
    abbrev pub next : World
    next = put h (record (w.handlers h) { objects = p.objects; stack = frame_at f p ∷ below }) w

    own_is : next.handlers h ≡ mine
    own_is = ap (λ (b : Bool). if b then mine else w.handlers h) (eq-eqb h h refl)

    beside : (k : ℕ) → (k == h) ≡ false → Good s pure (next.handlers k)
    beside = others_put s pure h mine w others

    -- the frame goes on
    moved_good : (to : List Object) → Moved s pure f (w.handlers h).objects to p → At to (after ∷ below)
    moved_good to m = record {
      stand = (m.stands, good.stand.1);
      links = (good.links.0, good.links.1);
      meet = λ n. by n (good.meet n);
      first = inl calls_only;
      calls = good.calls;
    }
      where
        by : (n : ℕ) → Meets s (w.handlers h).objects n ⊎ Covered s pure n (f ∷ below) → Meets s to n ⊎ Covered s pure n (after ∷ below)
        by n (inl i) = ⊎_elim (λ j. inl j) (λ c. inr (inl (c.0, inr c.1))) (m.meets n i)
        by n (inr (inl (e, inl t))) = inr (inl (e, inl t))
        by n (inr (inl (e, inr z))) = inr (inl (e, inr (m.stays_wild z)))
        by n (inr (inr c)) = inr (inr c)

    staged : (st : Stage) (us : List Operand) (kss : List (List ℕ)) → At p.objects (after ∷ below) → At p.objects (record (frame_at f p) { stage = st; values = us; blocks = kss } ∷ below)
    staged st us kss y = retop s pure (w.handlers h).queue (w.handlers h).callback p.objects after (record (frame_at f p) { stage = st; values = us; blocks = kss }) below y.stand.0 y.links.0
        (λ n c. c) y

    new_good_at : (k n : ℕ) → (m : MovedToNew s pure f (w.handlers h).objects k n p) → meets_invariant s (fresh_object s k) ≡ true → At p.objects (after ∷ below)
    new_good_at k n m e = subst (λ (os : List Object). At os (after ∷ below)) (sym m.objects_are)
        (add_new s pure (w.handlers h).queue (w.handlers h).callback m.to k (after ∷ below) calls_only e (moved_good m.to m.moved))

    with_own_all : At p.objects (after ∷ below) → T next
    with_own_all y = with_own s pure h next beside (subst (Good s pure) (sym own_is) (λ n. y))

    fails_now : (why : Cause) → T (fails_with h why [] next)
    fails_now why = fails_all s pure h why [] next beside

    stack_now : (st : List Frame) → At p.objects st → T (with_stack h st next)
    stack_now st y = stack_all s pure h st next mine own_is beside (λ n. y)

    -- ---- a call on the own handler

    module _ (o : Reference) (x : List ℕ) (us : List Operand) (gives : Option EntityType)
        (routine_stands : (q : Routine) → routine_named s o.class x ≡ Some q → StandsAs s pure q q.contract.class (tasks_of q)) where
      abbrev caller : Frame
      caller = record (frame_at f p) { stage = InCall gives }

      caller_good : (to : List Object) → At to (after ∷ below) → At to (caller ∷ below)
      caller_good to y = retop s pure (w.handlers h).queue (w.handlers h).callback to after caller below y.stand.0 y.links.0 (λ n c. c) y

      called_links : (c : Calling) (q : Routine) → (c ≡ Unqualified → ⊥) → LinkedAs s pure (Called c) o.number (name_of q) (caller ∷ below)
      called_links c q ne e = absurd (ne (same_calling c Unqualified e))
        where
          same_calling : (c d : Calling) → Called c ≡ Called d → c ≡ d
          same_calling c d e = cc

      abbrev Callable : Calling → Type 0
      Callable c = (q : Routine) → c ≡ Unqualified → o ≡ f.current → CallsSo s pure f (w.handlers h).objects x p → routine_named s o.class x ≡ Some q →
          (pure (name_of q) ≡ true) ⊎ IsWildAs pure f.routine p.text.class p.tasks

      entered_good : (c : Calling) (q : Routine) (bs : List Binding) → Callable c → ActMoves s pure f (w.handlers h).objects (Enters c o x us gives) p →
          routine_named s o.class x ≡ Some q → At p.objects (entry o q (Called c) bs ∷ caller ∷ below)
      entered_good Unqualified q bs pure_called m e =
          push s pure (w.handlers h).queue (w.handlers h).callback p.objects (entry o q (Called Unqualified) bs) (caller ∷ below) (routine_stands q e)
          (λ i. (ap (λ (r : Reference). r.number) (sym m.1.0), pure_called q refl m.1.0 m.1.1 e)) calls_only (caller_good p.objects (moved_good p.objects m.0))
      entered_good Qualified q bs pure_called m e =
          push s pure (w.handlers h).queue (w.handlers h).callback p.objects (entry o q (Called Qualified) bs) (caller ∷ below) (routine_stands q e)
          (called_links Qualified q (λ i. cc)) calls_only (caller_good p.objects (moved_good p.objects m))
      entered_good Creation q bs pure_called m e =
          subst (λ (os : List Object). At os (entry o q (Called Creation) bs ∷ caller ∷ below)) (sym m.objects_are)
          (push_new s pure (w.handlers h).queue (w.handlers h).callback m.to (fresh_object s o.class) (entry o q (Called Creation) bs) (caller ∷ below) (routine_stands q e)
          (called_links Creation q (λ i. cc)) calls_only m.is_next refl (caller_good m.to (moved_good m.to m.moved)))

      enters_now : (c : Calling) → Callable c → ActMoves s pure f (w.handlers h).objects (Enters c o x us gives) p →
          T (enters s h o (routine_named s o.class x) (Called c) (caller ∷ below) [] (values_of us) next)
      enters_now c pure_called m = enters_all s pure h o (routine_named s o.class x) (Called c) (caller ∷ below) [] (values_of us) next mine own_is beside
          (λ q bs e n. entered_good c q bs pure_called m e)

    -- ---- a routine ends

    tested : object_meets s (object_numbered f.current.number (next.handlers h).objects) ≡ true → (n : ℕ) → f.current.number ≡ n → Meets s p.objects n
    tested e n i q j = found_meets s (object_numbered f.current.number p.objects) q (ap (λ m. object_numbered m p.objects) i ∙ j)
        (ap (λ (y : Handler). object_meets s (object_numbered f.current.number y.objects)) (sym own_is) ∙ e)

    -- where the object is tested, what lies below is good
    left_tested : (m : (n : ℕ) → Meets s (w.handlers h).objects n → Meets s p.objects n ⊎ ((f.current.number ≡ n) × (pure (name_of f.routine) ≡ false))) →
        object_meets s (object_numbered f.current.number (next.handlers h).objects) ≡ true → At p.objects below
    left_tested m e = below_good p.objects by
      where
        by : (n : ℕ) → Meets s (w.handlers h).objects n ⊎ CoversNumber s pure n f → Meets s p.objects n ⊎ Covered s pure n below
        by n (inl i) = ⊎_elim (λ j. inl j) (λ c. inl (tested e n c.0)) (m n i)
        by n (inr c) = inl (tested e n c.0)

    -- where it isn't, the frame below has it as Current
    left_untested : (m : (n : ℕ) → Meets s (w.handlers h).objects n → Meets s p.objects n ⊎ ((f.current.number ≡ n) × (pure (name_of f.routine) ≡ false))) →
        f.origin ≡ Called Unqualified → At p.objects below
    left_untested m e = below_good p.objects by
      where
        covers : (st : List Frame) (n : ℕ) → LinkedAs s pure f.origin f.current.number (name_of f.routine) st → f.current.number ≡ n → pure (name_of f.routine) ≡ false →
            Covered s pure n st
        covers [] n l i z = absurd (l e)
        covers (g ∷ st) n l i z = let k = l e in inl (k.0 ∙ i, ⊎_elim (λ a. no_both (pure (name_of f.routine)) a z) (λ b. inr b) k.1)

        by : (n : ℕ) → Meets s (w.handlers h).objects n ⊎ CoversNumber s pure n f → Meets s p.objects n ⊎ Covered s pure n below
        by n (inl i) = ⊎_elim (λ j. inl j) (λ c. inr (covers below n good.links.0 c.0 c.1)) (m n i)
        by n (inr (i, inl t)) = no_both (is_tested_always f.origin) t (ap is_tested_always e)
        by n (inr (i, inr z)) = inr (covers below n good.links.0 i z.0)

    exits_now : ((n : ℕ) → Meets s (w.handlers h).objects n → Meets s p.objects n ⊎ ((f.current.number ≡ n) × (pure (name_of f.routine) ≡ false))) →
        T (exits s h (frame_at f p) below next)
    exits_now m =
        either s pure T (is_unset p.result) _ _ (λ i. fails_now cause.UnsetEntity)
        (λ i. either s pure T (is_untested f.origin || object_meets s (object_numbered f.current.number (next.handlers h).objects)) _ _
        (λ e. goes (good_now f.origin refl e)) (λ e. fails_now cause.Invariant))
      where
        good_now : (c : Origin) → f.origin ≡ c → (is_untested f.origin || object_meets s (object_numbered f.current.number (next.handlers h).objects)) ≡ true → At p.objects below
        good_now (Called Unqualified) i e = left_untested m i
        good_now (Called Qualified) i e = left_tested m (subst (λ c. (is_untested c || object_meets s (object_numbered f.current.number (next.handlers h).objects)) ≡ true) i e)
        good_now (Called Creation) i e = left_tested m (subst (λ c. (is_untested c || object_meets s (object_numbered f.current.number (next.handlers h).objects)) ≡ true) i e)
        good_now (Requested r) i e = left_tested m (subst (λ c. (is_untested c || object_meets s (object_numbered f.current.number (next.handlers h).objects)) ≡ true) i e)

        goes : At p.objects below → T (leaves_to h f.origin f.reserved (option_map (λ (u : Operand). u.value) p.result) below next)
        goes y = by f.origin
          where
            by : (c : Origin) → T (leaves_to h c f.reserved (option_map (λ (u : Operand). u.value) p.result) below next)
            by (Called c) = release_all s pure h release_at.Exit f.reserved (with_stack h (handed (option_map (λ (u : Operand). u.value) p.result) below) next)
                (stack_now (handed (option_map (λ (u : Operand). u.value) p.result) below)
                (handed_good s pure (w.handlers h).queue (w.handlers h).callback p.objects (option_map (λ (u : Operand). u.value) p.result) below y))
            by (Requested r) = finish_all s pure h r (Reply (option_map (λ (u : Operand). u.value) p.result)) (release release_at.Exit f.reserved (with_stack h below next))
                (release_all s pure h release_at.Exit f.reserved (with_stack h below next) (stack_now below y))

    -- ---- a precondition is false

    module _ (same : p.objects ≡ (w.handlers h).objects) (tame : IsWild s pure f → ⊥) where
      still : (n : ℕ) → Meets s (w.handlers h).objects n → Meets s p.objects n
      still n m = subst (λ (os : List Object). Meets s os n) (sym same) m

      waits_good : StandsAs s pure f.routine p.text.class (tasks_of f.routine) → (g : Frame) → g.routine ≡ f.routine → g.origin ≡ f.origin → g.current ≡ f.current →
          Stands s pure g → At p.objects (g ∷ below)
      waits_good z g a b c y = record {
        stand = (y, good.stand.1);
        links = (linked below good.links.0, good.links.1);
        meet = λ n. by n (good.meet n);
        first = inl calls_only;
        calls = good.calls;
      }
        where
          linked : (st : List Frame) → LinkedAs s pure f.origin f.current.number (name_of f.routine) st → LinkedAs s pure g.origin g.current.number (name_of g.routine) st
          linked st l = subst (λ (r : Routine). LinkedAs s pure g.origin g.current.number (name_of r) st) (sym a)
              (subst (λ (o : Origin). LinkedAs s pure o g.current.number (name_of f.routine) st) (sym b)
              (subst (λ (o : Reference). LinkedAs s pure f.origin o.number (name_of f.routine) st) (sym c) l))

          by : (n : ℕ) → Meets s (w.handlers h).objects n ⊎ Covered s pure n (f ∷ below) → Meets s p.objects n ⊎ Covered s pure n (g ∷ below)
          by n (inl i) = inl (still n i)
          by n (inr (inl (e, inl t))) = inr (inl (ap (λ (o : Reference). o.number) c ∙ e, inl (ap is_tested_always b ∙ t)))
          by n (inr (inl (e, inr z))) = absurd (tame z)
          by n (inr (inr k)) = inr (inr k)

      refused_good : (r : Request) → f.origin ≡ Requested r → (is_creation r.errand && not (object_meets s (object_numbered f.current.number (next.handlers h).objects))) ≡ false →
          At p.objects below
      refused_good r i e = below_good p.objects by
        where
          met : (a b : Bool) → a ≡ true → (a && not b) ≡ false → b ≡ true
          met true true t e = refl
          met true false t e = cc
          met false b t e = cc

          by : (n : ℕ) → Meets s (w.handlers h).objects n ⊎ CoversNumber s pure n f → Meets s p.objects n ⊎ Covered s pure n below
          by n (inl m) = inl (still n m)
          by n (inr (j, inl t)) =
              inl (tested (met (is_creation r.errand) (object_meets s (object_numbered f.current.number (next.handlers h).objects)) (sym (ap is_tested_always i) ∙ t) e) n j)
          by n (inr (j, inr z)) = absurd (tame z)

      counted_good : (b : Bool) (x : Handler) → Good s pure x → Good s pure (counted_refusal b x)
      counted_good true x g = g
      counted_good false x g = g

      refuses_now : (r : Request) → f.origin ≡ Requested r → T (refuses s h r (frame_at f p) below next)
      refuses_now r i =
          either s pure T (is_creation r.errand && not (object_meets s (object_numbered f.current.number (next.handlers h).objects))) _ _ (λ e. fails_now cause.Invariant)
          (λ e. finish_all s pure h r Refused (release release_at.Refusal f.reserved (put h (counted_refusal r.is_waited (record (next.handlers h) { stack = below })) next))
          (release_all s pure h release_at.Refusal f.reserved (put h (counted_refusal r.is_waited (record (next.handlers h) { stack = below })) next)
          (put_all s pure h (counted_refusal r.is_waited (record (next.handlers h) { stack = below })) next beside
          (counted_good r.is_waited (record (next.handlers h) { stack = below })
          (subst (λ (y : Handler). Good s pure (record y { stack = below })) (sym own_is) (λ n. refused_good r i e))))))

      -- the frame begins anew
      abbrev again : Frame
      again = record (frame_at f p) { stage = Reserves; tasks = tasks_of f.routine; values = []; reserved = []; mark = mark_of (λ k. (next.handlers k).sessions) f.reserved }

      clause_now : StandsAs s pure f.routine p.text.class (tasks_of f.routine) → (d : EntryVerdict) → T (false_clause d s h (frame_at f p) below next)
      clause_now z verdict.Wait =
          release_all s pure h release_at.FalseWaitCondition f.reserved (with_stack h (again ∷ below) next) (stack_now (again ∷ below) (waits_good z again refl refl refl z))
      clause_now z verdict.Refuse = by f.origin refl
        where
          by : (c : Origin) → f.origin ≡ c → T (correctness_fails s h c (frame_at f p) below next)
          by (Called c) i = fails_now cause.Precondition
          by (Requested r) i = refuses_now r i
      clause_now z verdict.Start = fails_now cause.BadCode

    leaves_now : (kss : List (List ℕ)) → At p.objects (after ∷ below) → T (leaves_block h kss (frame_at f p) below next)
    leaves_now [] y = fails_now cause.BadCode
    leaves_now (ks ∷ kss) y = release_all s pure h release_at.Leave ks (with_stack h (record (frame_at f p) { blocks = kss } ∷ below) next) (stack_now (record (frame_at f p) { blocks = kss } ∷ below) (staged f.stage p.values kss y))

    -- ---- what a visible step does

    module _ (begin : (k : ℕ) (x : List ℕ) (q : Routine) → routine_named s k x ≡ Some q → StandsAs s pure q q.contract.class (tasks_of q))
        (most : ℕ) where
      going : (m : Moved s pure f (w.handlers h).objects p.objects p) (st : Stage) (us : List Operand) → Good s pure (record mine { stack = record (frame_at f p) { stage = st; values = us } ∷ below })
      going m st us n = staged st us f.blocks (moved_good p.objects m)

      pub acts_now : (a : Act) → ActMoves s pure f (w.handlers h).objects a p →
          ((o : Reference) (x : List ℕ) (us : List Operand) (gives : Option EntityType) (q : Routine) → a ≡ Enters Unqualified o x us gives → o ≡ f.current →
          CallsSo s pure f (w.handlers h).objects x p → routine_named s o.class x ≡ Some q → (pure (name_of q) ≡ true) ⊎ IsWildAs pure f.routine p.text.class p.tasks) →
          ((k : Clause) → a ≡ Refuses k → StandsAs s pure f.routine p.text.class (tasks_of f.routine)) → T (effect most s h a (frame_at f p) below next)
      acts_now (Prints text) m c z = put_all s pure h (record (next.handlers h) { output = (next.handlers h).output ++ text }) next beside
          (subst (Good s pure) (sym own_is) (λ n. moved_good p.objects m))
      acts_now Until m c z = with_own_all (moved_good p.objects m)
      acts_now Creates m c z = with_own_all (new_good_at m.0 m.1 m.2 m.3)
      acts_now Starts m c z = with_own_all (moved_good p.objects m)
      acts_now (CreatesHandler k procedure us t passing) m c z =
          creates_all s pure h (frame_at f p) below next mine own_is beside (going m) here most k procedure us t passing
      acts_now (Enters Unqualified o x us gives) m c z = enters_now o x us gives (begin o.class x) Unqualified (λ q u i y e. c o x us gives q refl i y e) m
      acts_now (Enters Qualified o x us gives) m c z = enters_now o x us gives (begin o.class x) Qualified (λ q u. cc) m
      acts_now (Enters Creation o x us gives) m c z = enters_now o x us gives (begin o.class x) Creation (λ q u. cc) m
      acts_now (Requests o x us gives passing) m c z = request_all s pure h (frame_at f p) below next mine own_is beside (going m) o x us gives passing
      acts_now (Refuses k) m c z = clause_now m.0 m.1 (z k refl) (verdict_on (frame_at f p) k)
      acts_now Opens m c z = stack_now (record (frame_at f p) { stage = ReservesBlock } ∷ below) (staged ReservesBlock p.values f.blocks (moved_good p.objects m))
      acts_now Leaves m c z = leaves_now f.blocks (moved_good p.objects m)
      acts_now Exits m c z = exits_now m
      acts_now (Fails why) m c z = fails_now why
