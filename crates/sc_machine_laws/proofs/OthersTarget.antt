-- How what a handler has asked for a clause moves on in a turn of the handler that is asked.
use Rattle.std.proofs.Common.{ℕ, ◌≡◌, ◌≢◌, ◌⊎◌, ◌<◌, ◌==◌, Bool, true, false, List, [], ◌∷◌, ◌++◌, Option, Some, None, refl, sym, ap, subst, ◌∙◌, inl, inr, append_assoc}
use Rattle.std.proofs.lemmas.Bool.{eq-eqb, eqb-true, lt-ltb}
use Rattle.std.proofs.lemmas.List.Elements.{Contains-append_left, Contains-append_right}
use Rattle.std.specs.Prelude.{Contains, if◌then◌else◌, is_some, nat_lt}
use Rattle.sc_tree.specs.Plain.{System}
use Rattle.sc_class.specs.ClassNames.{Root}
use Rattle.sc_class.specs.Faults.ClassRules.{IsFaultless}
use Rattle.sc_rules.specs.Names.{RoutineName}
use Rattle.sc_rules.specs.Purity.{IsPurity}
use Rattle.sc_rules.specs.SystemRules.{WellFormed}
use Rattle.sc_model.specs.declared.cause.Cause.{Cause}
use Rattle.sc_model.specs.declared.cause.Cause.TheVariants as cause
use Rattle.sc_model.specs.Failures.{requests_at, to_list}
use Rattle.sc_model.specs.Handlers.{Request, Failed, Requested, Stage, Runs, Reserves, ReservesBlock, InCall, Awaits, Frame, Handler, World, point_of, put}
use Rattle.sc_model.specs.Moves.{moves}
use Rattle.sc_model.specs.Objects.{Object}
use Rattle.sc_model.specs.Runs.{IsReached}
use Rattle.sc_model.specs.Takes.{takes, takes_next}
use Rattle.sc_model.specs.Turns.{goes_on, turn, turn_with, waits}
use Rattle.sc_model.specs.Values.{Reference, Operand}
use Rattle.sc_machine_laws.specs.states.Headline.{has_reply, topmost}
use Rattle.sc_machine_laws.proofs.states.MachineFrames.{contains_first}
use Rattle.sc_machine_laws.proofs.states.MachineHolders.{machine_waiters_are_told}
use Rattle.sc_machine_laws.proofs.states.links.Reached.{reached_stands}
use Rattle.sc_machine_laws.specs.states.Fitting.{FrameFits, MayEnd, WorldFits}
use Rattle.sc_machine_laws.specs.states.Fitting as fitting
use Rattle.sc_machine_laws.specs.states.Points.{Each}
use Rattle.sc_machine_laws.specs.settlements.Calm.{name_of}
use Rattle.sc_machine_laws.specs.settlements.Clauses.{RunsPureIfRoutine}
use Rattle.sc_machine_laws.proofs.settlements.FrameLinks.{one_further}
use Rattle.sc_machine_laws.specs.RequestLaws.{MayAnswer, OwnQueueMoves, TopAwaits}
use Rattle.sc_machine_laws.proofs.StandingRequests.{begun_on}
use Rattle.sc_machine_laws.specs.Following.{FollowsPure, FrameFollows, IsPending, IsQuiet, Own, PureAt, RequestStands, StackFollows, WorldFollows, bound_in, clause_request, objects_of}
use Rattle.sc_machine_laws.specs.Following as following
use Rattle.sc_machine_laws.proofs.OthersQuiet.{posts_to_there, pushes_there}
use Rattle.sc_machine_laws.proofs.OthersRun.{Comes, On, fails_comes, on, over, settles_comes}
use Rattle.sc_machine_laws.proofs.OthersStack.{OnStack, Parts, not_empty, on_stack, parts, top_is_pure}
use Rattle.sc_machine_laws.proofs.OthersTake.{IsTypedAt, takes_comes, typed_at}
use Rattle.sc_machine_laws.proofs.OthersWorlds.{as_callback, began_on, in_queue, put_other, put_own}
use Rattle.sc_machine_laws.proofs.Lists.{false_is_true, first_of, rest_of, nothing_is_list}
use Rattle.sc_machine_laws.proofs.OthersAsked.{Known, Waiting, Onward, goes, lost, no_other_end, keeps_none, replied_onward, beside}

module _ (known : Known) (s : System) (root : Root) (pure : RoutineName → Bool) (faultless : IsFaultless s root)
    (well : WellFormed s) (tells : IsPurity s pure)
    (most : ℕ) (w : World) (reached : IsReached most s root w) (fits : WorldFits s pure w)
    (follows : WorldFollows s pure w)
    (h : ℕ) (here : h < w.count) (lives : (w.handlers h).failure ≡ None)
    (asked : List ℕ) (o : Reference) (x : List ℕ) (us : List Operand) (waiting : Waiting w h o) where
  abbrev asks : Request
  asks = clause_request h o x us

  abbrev O : World → Type 0
  O v = Onward s pure w v h asked o x us

  -- ---- a turn of the target

  module _ (apart : h ≢ o.handler) (runs_pure : RunsPureIfRoutine s pure o x) where
    abbrev next : World
    next = turn most s o.handler w

    abbrev Comes' : List Frame → World → World → Type 0
    Comes' below u v = Comes s pure o.handler h apart o x us below u v

    -- below the request's routine stands nothing, and h alone may post here; or h alone may push here
    abbrev Place : List Frame → World → Type 0
    Place below u = ((below ≡ []) × ((u.handlers o.handler).queue ≡ []) × (w.rights.queue o.handler ≡ Some h))
        ⊎ (w.rights.top o.handler ≡ Some h)

    posts_on : w.rights.queue o.handler ≡ Some h → next.rights.queue o.handler ≡ Some h
    posts_on = (known.rights_stay most s root w reached o.handler h o.handler (λ i. apart (sym i))).0

    came : (below : List Frame) (u : World) → (u.handlers o.handler).objects ≡ (w.handlers o.handler).objects →
        u.rights.top o.handler ≡ w.rights.top o.handler →
        Place below u → Comes' below u next → O next
    came below u objects top place (on z) = goes (λ i. z.objects_are ∙ objects) (IsPending.stands z.answer_is
        (following.runs p.fs below p.frame p.stack_is p.are_called p.is_of.is_pure p.is_of.origin_is p.is_of.is_for
        (right place)))
      where
        p : Parts s pure asks o x us below (next.handlers o.handler).stack
        p = parts s pure asks o x us below (next.handlers o.handler).stack z.stack_is

        right : Place below u →
            ((below ≡ []) × ((next.handlers o.handler).queue ≡ []) × (next.rights.queue o.handler ≡ Some h))
            ⊎ (next.rights.top o.handler ≡ Some h)
        right (inl i) = inl (i.0, z.queue_is ∙ i.1, posts_on i.2)
        right (inr i) = inr (z.top_is ∙ top ∙ i)
    came below u objects top place (over z) = goes (λ i. z.objects_are ∙ objects) (IsPending.replied z.answer_is
        (known.answers_locally s (Own o.handler) (objects_of u) (objects_of next)
        (λ k j. ap (objects_of u) j ∙ sym z.objects_are ∙ sym (ap (objects_of next) j)) o x us z.value z.answers)
        (quiet place))
      where
        quiet : Place below u → IsQuiet next h o.handler
        quiet (inl i) = following.idle (z.stack_is ∙ i.0) (z.queue_is ∙ i.1) (posts_on i.2)
        quiet (inr i) = following.waiting (z.top_is ∙ top ∙ i)
    came below u objects top place (Comes.lost z) = lost z

    -- a handler that has failed does nothing
    fallen_rests : (why : Cause) → (w.handlers o.handler).failure ≡ Some why → next ≡ w
    fallen_rests why e = by (nat_lt o.handler w.count)
      where
        by : (b : Bool) → (if b then turn_with most s o.handler (w.handlers o.handler).failure
            (w.handlers o.handler).stack w else w) ≡ w
        by true = ap (λ (c : Option Cause). turn_with most s o.handler c (w.handlers o.handler).stack w) e
        by false = refl

    goes_so : o.handler < w.count → (w.handlers o.handler).failure ≡ None → (st : List Frame) →
        (w.handlers o.handler).stack ≡ st → next ≡ turn_with most s o.handler None st w
    goes_so l e st i =
        ap (λ (b : Bool). if b then turn_with most s o.handler (w.handlers o.handler).failure
        (w.handlers o.handler).stack w else w) (lt-ltb o.handler w.count l)
        ∙ ap (λ (c : Option Cause). turn_with most s o.handler c (w.handlers o.handler).stack w) e
        ∙ ap (λ (st : List Frame). turn_with most s o.handler None st w) i

    -- ---- its target takes it

    took : (y : Handler) (below : List Frame) → y.stack ≡ below → y.objects ≡ (w.handlers o.handler).objects →
        o.handler < w.count → (w.handlers h).answer ≡ None →
        Contains (requests_at (w.handlers o.handler)) asks → Place below (put o.handler y w) →
        next ≡ takes s o.handler asks below (put o.handler y w) → O next
    took y below st os l none i place same =
        let own : (put o.handler y w).handlers o.handler ≡ y = put_own o.handler h apart y w in
        let other : (put o.handler y w).handlers h ≡ w.handlers h = put_other o.handler h apart y w in
        came below (put o.handler y w) (ap (λ (k : Handler). k.objects) own ∙ os) refl place
        (subst (Comes' below (put o.handler y w)) (sym same)
        (takes_comes s pure o.handler h apart o x us below (put o.handler y w) refl (record {
          stack_is = ap (λ (k : Handler). k.stack) own ∙ st;
          objects_are = refl;
          queue_is = refl;
          top_is = refl;
          answer_is = ap (λ (k : Handler). k.answer) other ∙ none;
          failure_is = ap (λ (k : Handler). k.failure) other ∙ lives;
        }) runs_pure
        (λ r y bs q named bound.
        (known.entry_follows s root faultless well (objects_of w) o y r named bs bound (Requested q)).1)
        (subst (λ (os : List Object). IsTypedAt s os o x) (sym (ap (λ (k : Handler). k.objects) own ∙ os))
        (typed_at s pure w fits o.handler l asks i x))))

    -- as the first of its queue
    takes_queued : o.handler < w.count → (w.handlers o.handler).failure ≡ None → (w.handlers o.handler).stack ≡ [] →
        (w.handlers h).answer ≡ None →
        (w.handlers o.handler).queue ≡ asks ∷ [] → w.rights.queue o.handler ≡ Some h → O next
    takes_queued l e st none i r =
        let y : Handler = record (w.handlers o.handler) { queue = [] } in
        took y [] st refl l none
        (in_queue (w.handlers o.handler) asks
        (subst (λ (rs : List Request). Contains rs asks) (sym i) (contains_first asks [])))
        (inl (refl, ap (λ (k : Handler). k.queue) (put_own o.handler h apart y w), r))
        (goes_so l e [] st ∙ ap (λ (qs : List Request). takes_next s o.handler qs w) i)

    -- as its callback
    takes_back : o.handler < w.count → (w.handlers o.handler).failure ≡ None → (w.handlers h).answer ≡ None →
        (w.handlers o.handler).callback ≡ Some asks →
        w.rights.top o.handler ≡ Some h → O next
    takes_back l e none i r = by (known.callbacks_meet_waiters most s root w reached o.handler asks i)
      where
        by : (j : ℕ) × TopAwaits (w.handlers o.handler).stack j → O next
        by (j, a) =
            took (record (w.handlers o.handler) { callback = None }) (a.frame ∷ a.below) a.stack_is refl l none
            (as_callback (w.handlers o.handler) asks i) (inr r)
            (goes_so l e (a.frame ∷ a.below) a.stack_is
            ∙ ap (λ (st : Stage). goes_on most s o.handler st a.frame a.below w) a.stage_is
            ∙ ap (λ (c : Option Request). waits s o.handler c
            (w.handlers o.handler).answer j a.gives a.is_creation a.frame a.below w) i)

    -- ---- it runs at its target

    module _ (none : (w.handlers h).answer ≡ None) (l : o.handler < w.count) (e : (w.handlers o.handler).failure ≡ None)
        (below : List Frame)
        (standing : OnStack s pure asks o x us below (w.handlers o.handler).stack) (place : Place below w) where
      before : On s pure o.handler h apart o x us below w w
      before = record {
        stack_is = standing;
        objects_are = refl;
        queue_is = refl;
        top_is = refl;
        answer_is = none;
        failure_is = lives;
      }

      on_top : (t : Frame) (rest : List Frame) → (w.handlers o.handler).stack ≡ t ∷ rest → O next
      on_top t rest at = by t.stage refl (frame.in_pure is_pure).1
        where
          is_pure : pure (name_of t.routine) ≡ true
          is_pure = top_is_pure s pure asks o x us below t rest (subst (OnStack s pure asks o x us below) at standing)

          frame : FrameFollows s pure w o.handler None t
          frame = (subst (StackFollows s pure w o.handler None) at (follows o.handler l e)).0

          fit : FrameFits s pure w o.handler t
          fit = (subst (Each (FrameFits s pure w o.handler)) at (fits o.handler l).frames_fit).0

          by : (st : Stage) → t.stage ≡ st → FollowsPure s (objects_of w) None t st → O next
          by Runs i z = came below w refl refl place (subst (Comes' below w)
              (sym (goes_so l e (t ∷ rest) at ∙ ap (λ (st : Stage). goes_on most s o.handler st t rest w) i))
              (settles_comes s pure o.handler h apart o x us below w known.pure_answers t rest fit.is_own before at
              (frame.reserves_nothing is_pure)
              (fit.is_there.object, fit.is_there.is_there) most
              (moves s t.current (point_of t (w.handlers o.handler).objects))
              (known.pure_moves s root pure faultless well tells most w reached o.handler t rest
              (record { is_there = l; lives = e; stack_is = at; runs = i }) is_pure (frame.is_bound is_pure)
              (subst (λ (k : ℕ). PureAt s (objects_of w) t.current t.routine (bound_in t) (point_of t (objects_of w k)))
              fit.is_own z))))
          by (InCall gives) i z = came below w refl refl place (subst (Comes' below w)
              (sym (goes_so l e (t ∷ rest) at ∙ ap (λ (st : Stage). goes_on most s o.handler st t rest w) i))
              (fails_comes s pure o.handler h apart o x us below w cause.BadCode w before))
          by Reserves i z = absurd z
          by ReservesBlock i z = absurd z
          by (Awaits k gives c) i z = absurd z

      runs_onward : O next
      runs_onward = by (w.handlers o.handler).stack refl
        where
          by : (st : List Frame) → (w.handlers o.handler).stack ≡ st → O next
          by [] i = absurd (not_empty s pure asks o x us below (subst (OnStack s pure asks o x us below) i standing))
          by (t ∷ rest) i = on_top t rest i

    -- ---- it stands after others

    module _ (none : (w.handlers h).answer ≡ None) (stands : RequestStands s pure w h asked o x us) (qs : List Request)
        (queue_is : (w.handlers o.handler).queue ≡ qs ++ asks ∷ []) (right : w.rights.queue o.handler ≡ Some h)
        (waits_on : qs ≡ [] → (w.handlers o.handler).stack ≡ [] → ⊥)
        (at_once : Contains asked o.handler → (qs ≡ []) × ((w.handlers o.handler).stack ≡ [])) where
      abbrev behind : List Request
      behind = to_list (w.handlers o.handler).callback ++ begun_on (w.handlers o.handler).stack

      all_is : requests_at (w.handlers o.handler) ≡ qs ++ asks ∷ behind
      all_is =
          ap (λ (rs : List Request). rs ++ to_list (w.handlers o.handler).callback ++ begun_on
          (w.handlers o.handler).stack) queue_is
          ∙ append_assoc (qs ++ asks ∷ []) (to_list (w.handlers o.handler).callback)
          (begun_on (w.handlers o.handler).stack)
          ∙ append_assoc qs (asks ∷ []) behind

      -- no other request of h ends here
      ends_none : (r : Request) → MayAnswer w o.handler h r → ⊥
      ends_none r m = by m.may_end
        where
          same : r ≡ asks
          same = (no_other_end known s root pure faultless well tells most w reached fits follows h here lives asked o x us waiting o.handler r none stands m).1

          elsewhere : Contains (qs ++ behind) r → ⊥
          elsewhere = (known.stands_once most s root w reached h o.handler asks r qs behind lives all_is refl refl refl
              m.poster_is m.is_waited
              (ap (λ (r : Request). r.passed) same)).0

          first : (rs rest : List Request) → (w.handlers o.handler).stack ≡ [] → qs ≡ rs →
              rs ++ asks ∷ [] ≡ r ∷ rest → ⊥
          first [] rest st i j = waits_on i st
          first (q ∷ rs) rest st i j =
              elsewhere (subst (λ (rs : List Request). Contains (rs ++ behind) r) (sym i)
              (subst (λ (p : Request). Contains (q ∷ rs ++ behind) p) (first_of j) (contains_first q (rs ++ behind))))

          by : MayEnd (w.handlers o.handler) r → ⊥
          by (fitting.runs {f} {below = rest} st go i) =
              elsewhere (Contains-append_right qs behind r
              (Contains-append_right (to_list (w.handlers o.handler).callback)
              (begun_on (w.handlers o.handler).stack) r
              (subst (λ (st : List Frame). Contains (begun_on st) r) (sym st) (began_on [] f rest r i))))
          by (fitting.next {rs} st i) = first qs rs st refl (sym queue_is ∙ i)
          by (fitting.called_back st i) =
              elsewhere (Contains-append_right qs behind r
              (Contains-append_left (to_list (w.handlers o.handler).callback)
              (begun_on (w.handlers o.handler).stack) r
              (subst (λ (c : Option Request). Contains (to_list c) r) (sym i) (contains_first r []))))

      -- where the target fails, h is told
      failed_tells : is_some (next.handlers o.handler).failure ≡ true → (next.handlers h).answer ≡ None → O next
      failed_tells e i =
          let t = reached_stands most s root next (one_further most s root o.handler w reached) in
          lost (inl (machine_waiters_are_told t.0 next t.1 t.2 h o.handler
          (topmost ((known.others_stay most s w o.handler h here apart).stack_stays ∙ waiting.stack_is) waiting.stage_is
          (ap has_reply i)) e))

      stands_on : (next.handlers h).answer ≡ None → O next
      stands_on i = by (known.own_queue_shrinks most s root w reached o.handler)
        where
          not_asked : {A : Type 0} → Contains asked o.handler → A
          not_asked j = absurd (waits_on (at_once j).0 (at_once j).1)

          so : (rs : List Request) → (next.handlers o.handler).queue ≡ rs ++ asks ∷ [] → O next
          so rs j = goes not_asked (IsPending.stands i (following.queued rs j (posts_on right) not_asked))

          first : (rs rest : List Request) (r : Request) → (w.handlers o.handler).stack ≡ [] → qs ≡ rs →
              rs ++ asks ∷ [] ≡ r ∷ rest → (next.handlers o.handler).queue ≡ rest → O next
          first [] rest r st a j k = absurd (waits_on a st)
          first (q ∷ rs) rest r st a j k = so rs (k ∙ sym (rest_of j))

          by : OwnQueueMoves (w.handlers o.handler) (next.handlers o.handler) → O next
          by (OwnQueueMoves.stays j) = so qs (j ∙ queue_is)
          by (OwnQueueMoves.takes r st j) = first qs (next.handlers o.handler).queue r st refl (sym queue_is ∙ j) refl
          by (OwnQueueMoves.falls j) = failed_tells j i

      queued_onward : O next
      queued_onward = by (keeps_none known s root pure faultless well tells most w reached fits follows h here lives asked o x us waiting o.handler apart none ends_none)
        where
          by : ((next.handlers h).answer ≡ None) ⊎ ((next.handlers h).answer ≡ Some Failed) → O next
          by (inl i) = stands_on i
          by (inr i) = lost (inl i)

    -- ---- all of it

    in_own_turn : (w.handlers h).answer ≡ None → RequestStands s pure w h asked o x us → O next
    in_own_turn none z = by (w.handlers o.handler).failure refl
      where
        queued_by : (e : (w.handlers o.handler).failure ≡ None) (qs : List Request) →
            (w.handlers o.handler).queue ≡ qs ++ asks ∷ [] →
            (r : w.rights.queue o.handler ≡ Some h) →
            (Contains asked o.handler → (qs ≡ []) × ((w.handlers o.handler).stack ≡ [])) →
            (st : List Frame) → (w.handlers o.handler).stack ≡ st → O next
        queued_by e [] i r n [] st = takes_queued
            (posts_to_there known.called_back_waits known.others_stay known.rights_stay known.beyond_is_unused most s
            root w reached o.handler h r) e st none i r
        queued_by e [] i r n (t ∷ rest) st = queued_onward none z [] i r (λ a b. nothing_is_list (sym b ∙ st)) n
        queued_by e (q ∷ qs) i r n st j = queued_onward none z (q ∷ qs) i r (λ a b. nothing_is_list (sym a)) n

        there : RequestStands s pure w h asked o x us → (w.handlers o.handler).failure ≡ None → O next
        there (following.queued qs i r n) e = queued_by e qs i r n (w.handlers o.handler).stack refl
        there (following.called_back i r) e = takes_back
            (pushes_there known.called_back_waits known.others_stay known.rights_stay known.beyond_is_unused most s root
            w reached o.handler h r) e none i r
        there (following.runs fs below c st i p b f place) e =
            runs_onward none (is_there place) e below
            (subst (OnStack s pure asks o x us below) (sym st) (on_stack s pure asks o x us fs c below i
            (record { is_pure = p; origin_is = b; is_for = f }))) place
          where
            is_there : Place below w → o.handler < w.count
            is_there (inl r) = posts_to_there known.called_back_waits known.others_stay known.rights_stay
                known.beyond_is_unused most s root w reached o.handler h r.2
            is_there (inr r) = pushes_there known.called_back_waits known.others_stay known.rights_stay
                known.beyond_is_unused most s root w reached o.handler h r

        by : (c : Option Cause) → (w.handlers o.handler).failure ≡ c → O next
        by (Some why) e = subst O (sym (fallen_rests why e)) (goes (λ i. refl) (IsPending.stands none z))
        by None e = there z e

  -- In a turn of another handler what is pending is so again, or no reply comes.
  pub asked_onward : (g : ℕ) → h ≢ g → RunsPureIfRoutine s pure o x → IsPending s pure w h asked o x us →
      O (turn most s g w)
  asked_onward g apart runs_pure (IsPending.replied {v} e z q) = replied_onward known s root pure faultless well tells most w reached fits follows h here lives asked o x us waiting g apart v e z q
  asked_onward g apart runs_pure (IsPending.stands e z) = by (o.handler == g) refl
    where
      by : (b : Bool) → (o.handler == g) ≡ b → O (turn most s g w)
      by true i =
          let same : o.handler ≡ g = eqb-true o.handler g i in
          subst (λ (j : ℕ). O (turn most s j w)) same (in_own_turn (λ j. apart (j ∙ same)) runs_pure e z)
      by false i = beside known s root pure faultless well tells most w reached fits follows h here lives asked o x us waiting g apart (λ j. false_is_true (sym i ∙ eq-eqb o.handler g j)) e z
