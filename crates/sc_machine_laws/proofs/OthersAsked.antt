-- How what a handler has asked for a clause, and waits for, moves on in a turn of another handler.
use Rattle.std.proofs.Common.{ℕ, ◌≡◌, ◌≢◌, ◌⊎◌, ◌<◌, Bool, false, List, ◌∷◌, Option, Some, None, refl, sym, ap, ◌∙◌, inl, inr}
use Rattle.std.specs.Prelude.{Contains}
use Rattle.sc_tree.specs.Plain.{System}
use Rattle.sc_class.specs.ClassNames.{Root}
use Rattle.sc_class.specs.Faults.ClassRules.{IsFaultless}
use Rattle.sc_rules.specs.declared.entity_types.entity_type.EntityType.{EntityType}
use Rattle.sc_rules.specs.Names.{RoutineName}
use Rattle.sc_rules.specs.Purity.{IsPurity}
use Rattle.sc_rules.specs.SystemRules.{WellFormed}
use Rattle.sc_model.specs.declared.cause.Cause.{Cause}
use Rattle.sc_model.specs.Answers.{heard}
use Rattle.sc_model.specs.Handlers.{Request, Answer, Reply, Failed, Refused, Awaits, Frame, World}
use Rattle.sc_model.specs.Runs.{IsReached}
use Rattle.sc_model.specs.Turns.{turn}
use Rattle.sc_model.specs.Values.{Reference, Operand, Value}
use Rattle.sc_machine_laws.specs.states.Headline.{has_reply}
use Rattle.sc_machine_laws.specs.states.Fitting.{WorldFits}
use Rattle.sc_machine_laws.specs.Evaluating.{Answers}
use Rattle.sc_machine_laws.specs.ClauseLaws.{AnswersLocally, EndsTrueLocally, ReachesLocally}
use Rattle.sc_machine_laws.specs.RequestLaws.{AnswerComes, AnswersCome, BeyondIsUnused, CallbackComes, CallbacksMeetWaiters, CalledBackWaits, EndsTheOne, IsUnlent, MayAnswer, OthersStay, OwnQueueShrinks, QueueComes, RightsStay, Stays, StandsOnce}
use Rattle.sc_machine_laws.specs.Following.{IsPending, IsQuiet, Own, RequestStands, WorldFollows, clause_request, objects_of}
use Rattle.sc_machine_laws.specs.Following as following
use Rattle.sc_machine_laws.specs.Points.{EntryFollows, PureAnswers, PureMoves}
use Rattle.sc_machine_laws.proofs.OthersQuiet.{StaysQuiet, one_holder, posts_to_there, pushes_there, quiet_stays}
use Rattle.sc_machine_laws.proofs.OwnMore.{stands_at}

-- What is proved of rights and answers, of points and of evaluations.
pub record Known : Type 1 where
  pub called_back_waits : CalledBackWaits
  pub callbacks_meet_waiters : CallbacksMeetWaiters
  pub ends_the_one : EndsTheOne
  pub stands_once : StandsOnce
  pub beyond_is_unused : BeyondIsUnused
  pub rights_stay : RightsStay
  pub others_stay : OthersStay
  pub own_queue_shrinks : OwnQueueShrinks
  pub answers_come : AnswersCome
  pub answers_locally : AnswersLocally
  pub reaches_locally : ReachesLocally
  pub ends_true_locally : EndsTrueLocally
  pub pure_moves : PureMoves
  pub pure_answers : PureAnswers
  pub entry_follows : EntryFollows

pub reply_no_failure : {A : Type 0} {v : Option Value} → Reply v ≡ Failed → A
reply_no_failure e = cc

pub refusal_no_failure : {A : Type 0} → Refused ≡ Failed → A
refusal_no_failure e = cc

-- no reply comes to the handler
abbrev pub IsToldNone : World → ℕ → Type 0
IsToldNone v h = ((v.handlers h).answer ≡ Some Failed) ⊎ ((v.handlers h).answer ≡ Some Refused)

-- The frame on top of h awaits the answer to a clause's request.
pub record Waiting (w : World) (h : ℕ) (o : Reference) : Type 0 where
  pub frame : Frame
  pub below : List Frame
  pub gives : Option EntityType
  pub stack_is : (w.handlers h).stack ≡ frame ∷ below
  pub stage_is : frame.stage ≡ Awaits o.handler gives false

-- What is pending is so again, over the same objects if that was asked before; or no reply comes.
pub data Onward (s : System) (pure : RoutineName → Bool) (w v : World) (h : ℕ) (asked : List ℕ) (o : Reference)
    (x : List ℕ) (us : List Operand) : Type 0 where
  goes : (Contains asked o.handler → (v.handlers o.handler).objects ≡ (w.handlers o.handler).objects) →
      IsPending s pure v h asked o x us → Onward s pure w v h asked o x us
  lost : IsToldNone v h → Onward s pure w v h asked o x us

module _ (known : Known) (s : System) (root : Root) (pure : RoutineName → Bool) (faultless : IsFaultless s root)
    (well : WellFormed s) (tells : IsPurity s pure)
    (most : ℕ) (w : World) (reached : IsReached most s root w) (fits : WorldFits s pure w)
    (follows : WorldFollows s pure w)
    (h : ℕ) (here : h < w.count) (lives : (w.handlers h).failure ≡ None)
    (asked : List ℕ) (o : Reference) (x : List ℕ) (us : List Operand) (waiting : Waiting w h o) where
  abbrev asks : Request
  asks = clause_request h o x us

  abbrev O : World → Type 0
  O v = Onward s pure w v h asked o x us

  unlent : RequestStands s pure w h asked o x us → IsUnlent w h o.handler asks
  unlent z = record {
    stands = stands_at s pure w h asked o x us z;
    poster_is = refl;
    is_waited = refl;
    passed_is = refl;
  }

  -- nobody else ends its request
  pub no_other_end : (g : ℕ) (r : Request) → (w.handlers h).answer ≡ None → RequestStands s pure w h asked o x us →
      MayAnswer w g h r → (g ≡ o.handler) × (r ≡ asks)
  no_other_end g r none z m = known.ends_the_one most s root w reached h o.handler g asks r lives none
      (unlent z) m.may_end m.poster_is m.is_waited

  -- ---- the answer of h

  hears_failed : (a : Option Answer) → heard Failed (w.handlers h).failure a ≡ Some Failed
  hears_failed a = ap (λ (c : Option Cause). heard Failed c a) lives

  hears_old : (a b : Answer) → b ≡ Failed ⊎ (heard b (w.handlers h).failure (Some a) ≡ Some a)
  hears_old a Failed = inl refl
  hears_old a (Reply v) = inr (ap (λ (c : Option Cause). heard (Reply v) c (Some a)) lives)
  hears_old a Refused = inr (ap (λ (c : Option Cause). heard Refused c (Some a)) lives)

  module _ (g : ℕ) (apart : h ≢ g) where
    abbrev after : World
    after = turn most s g w

    comes : AnswerComes s w g h after
    comes = known.answers_come most s w g h here apart

    -- a reply stays, unless a failure overrides it
    keeps_reply : (v : Option Value) → (w.handlers h).answer ≡ Some (Reply v) →
        ((after.handlers h).answer ≡ Some (Reply v)) ⊎ ((after.handlers h).answer ≡ Some Failed)
    keeps_reply v e = by comes
      where
        old : {b : Answer} → (b ≡ Failed → ⊥) → (after.handlers h).answer ≡ heard b (w.handlers h).failure
            (w.handlers h).answer →
            ((after.handlers h).answer ≡ Some (Reply v)) ⊎ ((after.handlers h).answer ≡ Some Failed)
        old {b} n i = inl (i ∙ ap (heard b (w.handlers h).failure) e ∙ so (hears_old (Reply v) b))
          where
            so : b ≡ Failed ⊎ (heard b (w.handlers h).failure (Some (Reply v)) ≡ Some (Reply v)) →
                heard b (w.handlers h).failure (Some (Reply v)) ≡ Some (Reply v)
            so (inl f) = absurd (n f)
            so (inr f) = f

        by : AnswerComes s w g h after → ((after.handlers h).answer ≡ Some (Reply v))
            ⊎ ((after.handlers h).answer ≡ Some Failed)
        by (AnswerComes.stays i) = inl (i ∙ e)
        by (AnswerComes.told f i) = inr (i ∙ hears_failed (w.handlers h).answer)
        by (AnswerComes.exits m z i) = old reply_no_failure i
        by (AnswerComes.refused m z i) = old refusal_no_failure i
        by (AnswerComes.attribute m z i) = old reply_no_failure i
        by (AnswerComes.made m z i) = old reply_no_failure i

    -- none comes but by the end of a request of h, or by a failure
    pub keeps_none : (w.handlers h).answer ≡ None → ((r : Request) → MayAnswer w g h r → ⊥) →
        ((after.handlers h).answer ≡ None) ⊎ ((after.handlers h).answer ≡ Some Failed)
    keeps_none e n = by comes
      where
        by : AnswerComes s w g h after → ((after.handlers h).answer ≡ None) ⊎ ((after.handlers h).answer ≡ Some Failed)
        by (AnswerComes.stays i) = inl (i ∙ e)
        by (AnswerComes.told f i) = inr (i ∙ hears_failed (w.handlers h).answer)
        by (AnswerComes.exits {r} m z i) = absurd (n r m)
        by (AnswerComes.refused {r} m z i) = absurd (n r m)
        by (AnswerComes.attribute {r} m z i) = absurd (n r m)
        by (AnswerComes.made {r} m z i) = absurd (n r m)

    -- ---- what has been replied

    pub replied_onward : (v : Value) → (w.handlers h).answer ≡ Some (Reply (Some v)) →
        Answers s (Own o.handler) (objects_of w) o x us v → IsQuiet w h o.handler → O after
    replied_onward v e z q = by (keeps_reply (Some v) e)
      where
        stays : StaysQuiet w after h o.handler
        stays = quiet_stays known.called_back_waits known.others_stay known.rights_stay known.beyond_is_unused most s
            root w reached g h apart lives o.handler
            (inl (ap has_reply e)) q

        by : ((after.handlers h).answer ≡ Some (Reply (Some v))) ⊎ ((after.handlers h).answer ≡ Some Failed) → O after
        by (inl i) = goes (λ j. stays.objects_stay) (IsPending.replied i
            (known.answers_locally s (Own o.handler) (objects_of w) (objects_of after)
            (λ k j. ap (objects_of w) j ∙ sym stays.objects_stay ∙ sym (ap (objects_of after) j)) o x us v
            z) stays.quiet)
        by (inr i) = lost (inl i)

    -- ---- a turn of a third handler

    pub beside : o.handler ≢ g → (w.handlers h).answer ≡ None → RequestStands s pure w h asked o x us → O after
    beside n e z = by (keeps_none e (λ r m. n (sym (no_other_end g r e z m).0)))
      where
        there : o.handler < w.count
        there = at z
          where
            at : RequestStands s pure w h asked o x us → o.handler < w.count
            at (following.queued qs e r n) =
                posts_to_there known.called_back_waits known.others_stay known.rights_stay known.beyond_is_unused most s
                root w reached o.handler h r
            at (following.called_back e r) =
                pushes_there known.called_back_waits known.others_stay known.rights_stay known.beyond_is_unused most s
                root w reached o.handler h r
            at (following.runs fs below c e i p b f (inl r)) =
                posts_to_there known.called_back_waits known.others_stay known.rights_stay known.beyond_is_unused most s
                root w reached o.handler h r.2
            at (following.runs fs below c e i p b f (inr r)) =
                pushes_there known.called_back_waits known.others_stay known.rights_stay known.beyond_is_unused most s
                root w reached o.handler h r

        stay : Stays w g o.handler (after.handlers o.handler)
        stay = known.others_stay most s w g o.handler there n

        back : g ≢ h
        back i = apart (sym i)

        posts : w.rights.queue o.handler ≡ Some h → after.rights.queue o.handler ≡ Some h
        posts = (known.rights_stay most s root w reached g h o.handler back).0

        pushes : w.rights.top o.handler ≡ Some h → after.rights.top o.handler ≡ Some h
        pushes = (known.rights_stay most s root w reached g h o.handler back).1 n

        queue : w.rights.queue o.handler ≡ Some h → (after.handlers o.handler).queue ≡ (w.handlers o.handler).queue
        queue r = at stay.queue_comes
          where
            at : QueueComes w g o.handler (after.handlers o.handler) →
                (after.handlers o.handler).queue ≡ (w.handlers o.handler).queue
            at (QueueComes.stays i) = i
            at (QueueComes.comes q p u i) = absurd (apart (one_holder r u))

        callback : w.rights.top o.handler ≡ Some h →
            (after.handlers o.handler).callback ≡ (w.handlers o.handler).callback
        callback r = at stay.callback_comes
          where
            at : CallbackComes w g o.handler (after.handlers o.handler) →
                (after.handlers o.handler).callback ≡ (w.handlers o.handler).callback
            at (CallbackComes.stays i) = i
            at (CallbackComes.comes q p u i) = absurd (apart (one_holder r u))

        stands : RequestStands s pure w h asked o x us → RequestStands s pure after h asked o x us
        stands (following.queued qs e r n) = following.queued qs (queue r ∙ e) (posts r)
            (λ i. ((n i).0, stay.stack_stays ∙ (n i).1))
        stands (following.called_back e r) = following.called_back (callback r ∙ e) (pushes r)
        stands (following.runs fs below c e i p b f (inl r)) = following.runs fs below c (stay.stack_stays ∙ e) i p b f
            (inl (r.0, queue r.2 ∙ r.1, posts r.2))
        stands (following.runs fs below c e i p b f (inr r)) = following.runs fs below c (stay.stack_stays ∙ e) i p b f
            (inr (pushes r))

        by : ((after.handlers h).answer ≡ None) ⊎ ((after.handlers h).answer ≡ Some Failed) → O after
        by (inl i) = goes (λ j. stay.objects_stay) (IsPending.stands i (stands z))
        by (inr i) = lost (inl i)
