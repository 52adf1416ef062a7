-- In each state that is reached, whoever reserves stands on routines that have started.
use Rattle.std.proofs.Common.{ℕ, ◌≡◌, ◌⊎◌, ◌<◌, ◌==◌, Bool, true, false, List, [], ◌∷◌, Option, Some, None, refl, sym, ap, subst, ◌∙◌, inl, inr}
use Rattle.std.proofs.lemmas.Bool.{eqb-true, ltb-true, lt-ltb}
use Rattle.std.specs.Prelude.{if◌then◌else◌, nat_lt}
use Rattle.std.specs.Option.{option_map_or}
use Rattle.sc_tree.specs.Plain as tree
use Rattle.sc_tree.specs.Plain.{System, FeatureKind}
use Rattle.sc_class.specs.ClassNames.{Root, number_of}
use Rattle.sc_class.specs.Faults.ClassRules.{IsFaultless}
use Rattle.sc_class.specs.Tables.Features.{DeclaredFeature}
use Rattle.sc_rules.specs.declared.entity_types.entity_type.EntityType.{EntityType}
use Rattle.sc_rules.specs.Names.{RoutineName, formals_known}
use Rattle.sc_rules.specs.Purity.{IsPurity}
use Rattle.sc_rules.specs.SystemRules.{WellFormed}
use Rattle.sc_rules.specs.Types.{declared_type}
use Rattle.sc_rules.proofs.PurityStands.{purity_stands}
use Rattle.sc_lockpass.specs.wait_conditions.Reservations.{reserve_fails}
use Rattle.sc_lockpass.specs.declared.wait_conditions.session.Release.TheVariants as release_at
use Rattle.sc_model.specs.declared.cause.Cause.{Cause}
use Rattle.sc_model.specs.declared.cause.Cause.TheVariants as cause
use Rattle.sc_model.specs.Environments.{Binding, binding_named}
use Rattle.sc_model.specs.Objects.{Object, object_numbered, fresh_object}
use Rattle.sc_model.specs.Invariants.{meets_invariant}
use Rattle.sc_model.specs.Routines.{version_of, routine_named, routine_of}
use Rattle.sc_model.specs.Tasks.{Task}
use Rattle.sc_model.specs.Steps.{Prints, Until, Creates, CreatesHandler, Enters, Requests, Starts, Refuses, Opens, Leaves, Exits, Fails, Step, Goes, Does}
use Rattle.sc_model.specs.Moves.{moves}
use Rattle.sc_model.specs.Handlers.{Errand, Calls, Makes, Request, Answer, Reply, Failed, Refused, Requested, Stage, Runs, Reserves, ReservesBlock, InCall, Awaits, Frame, World, new_handler, point_of, frame_at, put, with_stack}
use Rattle.sc_model.specs.Sessions.{standing_in}
use Rattle.sc_model.specs.Entries.{entry_needs, block_needs, may_reserve, reserves_if}
use Rattle.sc_model.specs.Exits.{is_unset_value, handed_as}
use Rattle.sc_model.specs.Takes.{replies, takes_kind, takes_version, takes_creation, with_new_object, takes_errand, takes, takes_next, released_if, takes_answer}
use Rattle.sc_model.specs.Turns.{waits, goes_on, turn_with, turn}
use Rattle.sc_model.specs.Runs.{IsReached, opening, root_request, run}
use Rattle.sc_machine_laws.specs.states.World.{Asked}
use Rattle.sc_machine_laws.specs.states.Stands.{left_in}
use Rattle.sc_machine_laws.proofs.states.Loans.{Lent, callback_lent}
use Rattle.sc_machine_laws.proofs.states.links.Reached.{Paired, opening_paired, turn_paired}
use Rattle.sc_machine_laws.proofs.states.links.Turns.{asked_at, asked_in, asked_on}
use Rattle.sc_machine_laws.specs.settlements.Clauses.{ClauseStep}
use Rattle.sc_machine_laws.specs.settlements.Entries.{HasStarted, RefusesNone}
use Rattle.sc_machine_laws.specs.settlements.Calm.{CalmStep}
use Rattle.sc_machine_laws.specs.settlements.Started.{AllStarted, EachOnStarted, ReserversOnStarted, reserves_next}
use Rattle.sc_machine_laws.proofs.settlements.FrameLinks.{one_further, reached_fits}
use Rattle.sc_machine_laws.proofs.settlements.Purely.{each_pure_is_calm}
use Rattle.sc_machine_laws.proofs.settlements.UnchangedStacks.{IsLeft, put_alike, others_stay}
use Rattle.sc_machine_laws.proofs.settlements.Unstarted.{each_stands, steps_so}
use Rattle.sc_machine_laws.proofs.settlements.GuardedSteps.{Guarded, IsPure, Kept, NextStep, alike_kept, either, enters_kept, enters_pure, fails_kept, finish_kept, handed_guard, pure_waits_not, put_kept, release_kept, settles_kept, stack_kept, stays}

no : {A : Type 0} → true ≡ false → A
no e = cc

module _ (s : System) (pure : RoutineName → Bool) (h : ℕ) (w : World) where
  abbrev All : List Frame → Type 0
  All st = Guarded pure st

  abbrev T : World → Type 0
  T v = Kept pure h w v

  abbrev Guard : Frame → List Frame → Type 0
  Guard f below = AllStarted below ⊎ IsPure pure f

  -- ---- a reserve step

  reserves_kept : (b : Bool) (ks : List ℕ) (f g : Frame) (below : List Frame) → (w.handlers h).stack ≡ g ∷ below → AllStarted below → All below → T (reserves_if b h ks f below w)
  reserves_kept true ks f g below at all is =
      either s pure h w (reserve_fails (standing_in w) w.rights ks) _ _ (fails_kept s pure h w cause.SupplierFailed [] w (others_stay h w))
      (alike_kept s pure h w (with_stack h (f ∷ below) w) _ (λ k. refl) (stack_kept s pure h w (f ∷ below) w (others_stay h w) (inl all, is)))
  reserves_kept false ks f g below at all is = stays s pure h w w (g ∷ below) (others_stay h w) at (inl all, is)

  -- ---- a request is taken

  replies_kept : (r : Request) (t : Option EntityType) (b : Option Binding) (v : World) → T v → T (replies h r t b v)
  replies_kept r (Some t) (Some b) v z =
      either s pure h w (is_unset_value b.value t) _ _ (fails_kept s pure h w cause.UnsetEntity (r ∷ []) v z.others) (finish_kept s pure h w r (Reply (Some b.value)) v z)
  replies_kept r (Some t) None v z = fails_kept s pure h w cause.BadCode (r ∷ []) v z.others
  replies_kept r None b v z = fails_kept s pure h w cause.BadCode (r ∷ []) v z.others

  version_kept : (r : Request) (x : List ℕ) (below : List Frame) (o : Option Object) (f : Option DeclaredFeature) (v : World) → T v → AllStarted below → All below →
      T (takes_version s h r x below o f v)
  version_kept r x below (Some o) (Some f) v z all is = by f.feature.kind
    where
      by : (k : FeatureKind) → T (takes_kind s h r x below o f k v)
      by (tree.Attribute d) = replies_kept r (declared_type s [] d) (binding_named x o.attributes) v z
      by (tree.Routine c) = enters_kept s pure h w r.target (routine_of s f) (Requested r) below (r ∷ []) r.actuals v z.others (inl all) is
  version_kept r x below (Some o) None v z all is = fails_kept s pure h w cause.BadCode (r ∷ []) v z.others
  version_kept r x below None f v z all is = fails_kept s pure h w cause.BadCode (r ∷ []) v z.others

  creation_kept : (r : Request) (k : Option (List ℕ)) (below : List Frame) (v : World) → T v → AllStarted below → All below → T (takes_creation s h r k below v)
  creation_kept r (Some x) below v z all is = enters_kept s pure h w r.target (routine_named s r.target.class x) (Requested r) below (r ∷ []) r.actuals v z.others (inl all) is
  creation_kept r None below v z all is =
      either s pure h w (meets_invariant s (fresh_object s r.target.class)) _ _ (finish_kept s pure h w r (Reply None) v z) (fails_kept s pure h w cause.Invariant (r ∷ []) v z.others)

  takes_kept : (r : Request) (below : List Frame) (v : World) → T v → AllStarted below → All below → T (takes s h r below v)
  takes_kept r below v z all is = by r.errand
    where
      by : (c : Errand) → T (takes_errand s h r c below v)
      by (Makes k) = creation_kept r k below (with_new_object s h r.target.class v) (alike_kept s pure h w v _ (put_alike h _ v refl) z) all is
      by (Calls x) = either s pure h w (r.target.handler == h) _ _
          (version_kept r x below (object_numbered r.target.number (v.handlers h).objects) (version_of s r.target.class x) v z all is)
          (fails_kept s pure h w cause.ForeignObject (r ∷ []) v z.others)

  -- ---- a turn

  answer_kept : (a : Answer) (k : ℕ) (gives : Option EntityType) (c : Bool) (f : Frame) (below : List Frame) → Guard f below → All below → T (takes_answer h a k gives c f below w)
  answer_kept (Reply x) k gives c f below g is = by c
    where
      goes : T (put h (record (w.handlers h) { stack = handed_as gives x f ∷ below; answer = None }) w)
      goes = put_kept s pure h w _ w (others_stay h w) (handed_guard s pure h w x gives f below g, is)

      by : (b : Bool) → T (released_if b k (put h (record (w.handlers h) { stack = handed_as gives x f ∷ below; answer = None }) w))
      by true = release_kept s pure h w release_at.Creation (k ∷ []) _ goes
      by false = goes
  answer_kept Failed k gives c f below g is = fails_kept s pure h w cause.SupplierFailed [] w (others_stay h w)
  answer_kept Refused k gives c f below g is = fails_kept s pure h w cause.Precondition [] w (others_stay h w)

  next_kept : (rs : List Request) → (w.handlers h).stack ≡ [] → T (takes_next s h rs w)
  next_kept [] at = stays s pure h w w [] (others_stay h w) at tt
  next_kept (r ∷ rs) at =
      takes_kept r [] (put h (record (w.handlers h) { queue = rs }) w)
      (put_kept s pure h w (record (w.handlers h) { queue = rs }) w (others_stay h w) (subst All (sym at) tt)) tt tt

-- ---- what is lent

-- each of these has started
abbrev AllLeft : List (List Task) → Type 0
AllLeft [] = Unit {0}
AllLeft (ts ∷ tss) = HasStarted ts × AllLeft tss

-- who lends stands on routines that have started, and has started
abbrev LendsStarted : Option Asked → Type 0
LendsStarted None = Unit {0}
LendsStarted (Some a) = a.lends ≡ true → AllLeft a.left

left_started : (st : List Frame) → AllLeft (left_in st) → AllStarted st
left_started [] is = tt
left_started (f ∷ below) is = (is.0, left_started below is.1)

started_left : (st : List Frame) → AllStarted st → AllLeft (left_in st)
started_left [] is = tt
started_left (f ∷ below) is = (is.0, started_left below is.1)

module _ (s : System) (root : Root) (pure : RoutineName → Bool) (faultless : IsFaultless s root) (well : WellFormed s) (tells : IsPurity s pure) (most : ℕ) where
  module _ (h : ℕ) (w : World) (reached : IsReached most s root w) (here : h < w.count) (guarded : Guarded pure (w.handlers h).stack) (paired : Paired LendsStarted w)
      (f : Frame) (below : List Frame) (at : (w.handlers h).stack ≡ f ∷ below) where
    stack_guarded : Guarded pure (f ∷ below)
    stack_guarded = subst (Guarded pure) at guarded

    abbrev Ahead : Step
    Ahead = moves s f.current (point_of f (w.handlers h).objects)

    steps : f.stage ≡ Runs → RefusesNone Ahead ⊎ ClauseStep s pure f.routine.contract (formals_known s f.routine.text.formals) Ahead
    steps r = steps_so s root pure faultless well tells most h w (reached_fits s root pure faultless well tells most w reached) here
        (each_stands s root pure faultless well tells most w reached h here) f below at r

    -- ---- the next turn of one that runs

    -- it stands on routines that have started
    on_started : AllStarted below → (st : Step) → RefusesNone st ⊎ ClauseStep s pure f.routine.contract (formals_known s f.routine.text.formals) st → NextStep s pure h w st f below
    on_started all (Goes p) z = tt
    on_started all (Does (Prints text) p) z = tt
    on_started all (Does Until p) z = tt
    on_started all (Does Creates p) z = tt
    on_started all (Does Starts p) z = tt
    on_started all (Does (CreatesHandler class procedure us t passing) p) z = all
    on_started all (Does (Enters c o x us gives) p) (inl i) = inl (i, all)
    on_started all (Does (Enters c o x us gives) p) (inr z) = inr (enters_pure s pure tells o x z.0)
    on_started all (Does (Requests o x us gives passing) p) z = tt
    on_started all (Does (Refuses k) p) z = inl all
    on_started all (Does Opens p) z = all
    on_started all (Does Leaves p) z = tt
    on_started all (Does Exits p) z = tt
    on_started all (Does (Fails why) p) z = tt

    -- it is a function that contracts may call
    as_pure : f.reserved ≡ [] → (st : Step) → CalmStep s pure st → NextStep s pure h w st f below
    as_pure none (Goes p) z = tt
    as_pure none (Does (Prints text) p) z = tt
    as_pure none (Does Until p) z = tt
    as_pure none (Does Creates p) z = tt
    as_pure none (Does Starts p) z = tt
    as_pure none (Does (CreatesHandler class procedure us t passing) p) z = absurd z
    as_pure none (Does (Enters c o x us gives) p) z = inr (enters_pure s pure tells o x z)
    as_pure none (Does (Requests o x us gives passing) p) z = tt
    as_pure none (Does (Refuses k) p) z = inr (pure_waits_not (frame_at f p) k none)
    as_pure none (Does Opens p) z = absurd z
    as_pure none (Does Leaves p) z = tt
    as_pure none (Does Exits p) z = tt
    as_pure none (Does (Fails why) p) z = tt

    next : f.stage ≡ Runs → AllStarted below ⊎ IsPure pure f → NextStep s pure h w Ahead f below
    next r (inl all) = on_started all Ahead (steps r)
    next r (inr z) = as_pure z.1 Ahead (each_pure_is_calm s root pure faultless well tells most w reached h here f below at r z.0)

    -- ---- what it lends

    lends_started : AllStarted below → (st : Step) → RefusesNone st ⊎ ClauseStep s pure f.routine.contract (formals_known s f.routine.text.formals) st →
        LendsStarted (asked_in h w.count below st)
    lends_started all (Goes p) z = tt
    lends_started all (Does (Prints text) p) z = tt
    lends_started all (Does Until p) z = tt
    lends_started all (Does Creates p) z = tt
    lends_started all (Does Starts p) z = tt
    lends_started all (Does (CreatesHandler class procedure us t passing) p) (inl i) = λ e. (i, started_left below all)
    lends_started all (Does (CreatesHandler class procedure us t passing) p) (inr z) = absurd z
    lends_started all (Does (Enters c o x us gives) p) z = tt
    lends_started all (Does (Requests o x us gives passing) p) (inl i) = λ e. (i, started_left below all)
    lends_started all (Does (Requests o x us gives passing) p) (inr z) = λ e. no (sym e ∙ z.0)
    lends_started all (Does (Refuses k) p) z = tt
    lends_started all (Does Opens p) z = tt
    lends_started all (Does Leaves p) z = tt
    lends_started all (Does Exits p) z = tt
    lends_started all (Does (Fails why) p) z = tt

    lends_nothing : (st : Step) → CalmStep s pure st → LendsStarted (asked_in h w.count below st)
    lends_nothing (Goes p) z = tt
    lends_nothing (Does (Prints text) p) z = tt
    lends_nothing (Does Until p) z = tt
    lends_nothing (Does Creates p) z = tt
    lends_nothing (Does Starts p) z = tt
    lends_nothing (Does (CreatesHandler class procedure us t passing) p) z = absurd z
    lends_nothing (Does (Enters c o x us gives) p) z = tt
    lends_nothing (Does (Requests o x us gives passing) p) z = absurd z
    lends_nothing (Does (Refuses k) p) z = tt
    lends_nothing (Does Opens p) z = tt
    lends_nothing (Does Leaves p) z = tt
    lends_nothing (Does Exits p) z = tt
    lends_nothing (Does (Fails why) p) z = tt

    runs_lend : f.stage ≡ Runs → AllStarted below ⊎ IsPure pure f → LendsStarted (asked_in h w.count below Ahead)
    runs_lend r (inl all) = lends_started all Ahead (steps r)
    runs_lend r (inr z) = lends_nothing Ahead (each_pure_is_calm s root pure faultless well tells most w reached h here f below at r z.0)

    stage_lends : (x : Stage) → f.stage ≡ x → LendsStarted (asked_at s h w f below x)
    stage_lends Runs e = runs_lend e stack_guarded.0
    stage_lends Reserves e = tt
    stage_lends ReservesBlock e = tt
    stage_lends (InCall t) e = tt
    stage_lends (Awaits k t c) e = tt

    -- ---- its turn

    on_all : reserves_next f.stage ≡ true → AllStarted below ⊎ IsPure pure f → AllStarted below
    on_all e (inl all) = all
    on_all e (inr z) = no (sym e ∙ z.2)

    goes_on_kept : (st : Stage) → f.stage ≡ st → Kept pure h w (goes_on most s h st f below w)
    goes_on_kept Runs i = settles_kept s pure h w most Ahead f below at (next i stack_guarded.0) stack_guarded.0 stack_guarded.1
    goes_on_kept Reserves i =
        reserves_kept s pure h w (may_reserve (entry_needs h f w) f.mark w) (entry_needs h f w) (record f { stage = Runs; reserved = entry_needs h f w }) f below at
        (on_all (ap reserves_next i) stack_guarded.0) stack_guarded.1
    goes_on_kept ReservesBlock i =
        reserves_kept s pure h w (may_reserve (block_needs h f w) [] w) (block_needs h f w) (record f { stage = Runs; blocks = block_needs h f w ∷ f.blocks }) f below at
        (on_all (ap reserves_next i) stack_guarded.0) stack_guarded.1
    goes_on_kept (InCall gives) i = fails_kept s pure h w cause.BadCode [] w (others_stay h w)
    goes_on_kept (Awaits k gives c) i = by (w.handlers h).callback (w.handlers h).answer refl
      where
        -- a callback comes where all was lent
        lent : (r : Request) → (w.handlers h).callback ≡ Some r → AllStarted (f ∷ below)
        lent r e =
            let l : Lent LendsStarted w h = callback_lent LendsStarted w paired h r e in
            subst AllStarted at (left_started (w.handlers h).stack (subst AllLeft l.left (l.holds l.lends)))

        by : (r : Option Request) (a : Option Answer) → (w.handlers h).callback ≡ r → Kept pure h w (waits s h r a k gives c f below w)
        by (Some r) a e =
            takes_kept s pure h w r (f ∷ below) (put h (record (w.handlers h) { callback = None }) w)
            (put_kept s pure h w (record (w.handlers h) { callback = None }) w (others_stay h w) guarded) (lent r e) stack_guarded
        by None (Some a) e = answer_kept s pure h w a k gives c f below stack_guarded.0 stack_guarded.1
        by None None e = stays s pure h w w (f ∷ below) (others_stay h w) at stack_guarded

  -- ---- turns

  record Both (w : World) : Type 0 where
    guarded : (k : ℕ) → Guarded pure (w.handlers k).stack
    paired : Paired LendsStarted w

  turn_kept : (h : ℕ) (w : World) → IsReached most s root w → h < w.count → Both w → Kept pure h w (turn most s h w)
  turn_kept h w reached here b =
      subst (λ (b : Bool). Kept pure h w (if b then turn_with most s h (w.handlers h).failure (w.handlers h).stack w else w)) (sym (lt-ltb h w.count here))
      (there (w.handlers h).failure (w.handlers h).stack refl)
    where
      there : (why : Option Cause) (st : List Frame) → (w.handlers h).stack ≡ st → Kept pure h w (turn_with most s h why st w)
      there (Some why) st at = record { own = b.guarded h; others = others_stay h w }
      there None [] at = next_kept s pure h w (w.handlers h).queue at
      there None (f ∷ below) at = goes_on_kept h w reached here (b.guarded h) b.paired f below at f.stage refl

  turn_lends : (h : ℕ) (w : World) → IsReached most s root w → h < w.count → Both w → (st : List Frame) → (w.handlers h).stack ≡ st → LendsStarted (asked_on s h w st)
  turn_lends h w reached here b [] at = tt
  turn_lends h w reached here b (f ∷ below) at = stage_lends h w reached here (b.guarded h) b.paired f below at f.stage refl

  both_next : (h : ℕ) (w : World) → IsReached most s root w → Both w → Both (turn most s h w)
  both_next h w reached b = by (nat_lt h w.count) refl
    where
      left : (k : ℕ) → IsLeft (w.handlers k).stack ((turn most s h w).handlers k).stack → Guarded pure ((turn most s h w).handlers k).stack
      left k (inl e) = subst (Guarded pure) (sym e) (b.guarded k)
      left k (inr e) = subst (Guarded pure) (sym e) tt

      after : Kept pure h w (turn most s h w) → (k : ℕ) → Guarded pure ((turn most s h w).handlers k).stack
      after t k = at (k == h) refl
        where
          at : (b : Bool) → (k == h) ≡ b → Guarded pure ((turn most s h w).handlers k).stack
          at true e = subst (λ (i : ℕ). Guarded pure ((turn most s h w).handlers i).stack) (sym (eqb-true k h e)) t.own
          at false e = left k (t.others k e)

      by : (c : Bool) → nat_lt h w.count ≡ c → Both (turn most s h w)
      by true l = record {
        guarded = after (turn_kept h w reached (ltb-true h w.count l) b);
        paired = turn_paired LendsStarted most s h w (turn_lends h w reached (ltb-true h w.count l) b (w.handlers h).stack refl) b.paired;
      }
      by false l = subst (λ (c : Bool). Both (if c then turn_with most s h (w.handlers h).failure (w.handlers h).stack w else w)) (sym l) b

  both_along : (hs : List ℕ) (w : World) → IsReached most s root w → Both w → Both (run most s hs w)
  both_along [] w reached b = b
  both_along (h ∷ hs) w reached b = both_along hs (turn most s h w) (one_further most s root h w reached) (both_next h w reached b)

  both_opening : Both (opening s root)
  both_opening = record { guarded = λ k. by (nat_lt k 1); paired = opening_paired LendsStarted s root }
    where
      by : (b : Bool) → Guarded pure
          (if b then record new_handler { queue = root_request (option_map_or (λ k. k) (number_of s root.class) 0) root.procedure ∷ [] } else new_handler).stack
      by true = tt
      by false = tt

  reached_guarded : (w : World) → IsReached most s root w → (k : ℕ) → Guarded pure (w.handlers k).stack
  reached_guarded w r k = subst (λ (v : World). Guarded pure (v.handlers k).stack) r.run_is
      ((both_along r.numbers (opening s root) (record { numbers = []; run_is = refl }) both_opening).guarded k)

  on_started_only : EachOnStarted most s root
  on_started_only w reached h f below at reserves = by (subst (Guarded pure) at (reached_guarded w reached h)).0
    where
      by : AllStarted below ⊎ IsPure pure f → AllStarted below
      by (inl all) = all
      by (inr z) = no (sym reserves ∙ z.2)

pub reservers_on_started : ReserversOnStarted
reservers_on_started s root faultless well most = at (purity_stands s)
  where
    at : (pure : RoutineName → Bool) × IsPurity s pure → EachOnStarted most s root
    at (pure, tells) = on_started_only s root pure faultless well tells most
