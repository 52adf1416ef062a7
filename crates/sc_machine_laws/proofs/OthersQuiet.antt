-- A handler that another one has asked stays quiet in each turn, and its objects stay.
use Rattle.std.proofs.Common.{ℕ, ◌≡◌, ◌≢◌, ◌⊎◌, ◌<◌, ◌==◌, Bool, true, false, List, [], ◌∷◌, ◌++◌, Option, Some, None, refl, sym, ap, subst, ◌∙◌}
use Rattle.std.proofs.lemmas.Bool.{eq-eqb, eqb-true, ltb-true, ltb-false}
use Rattle.std.specs.Prelude.{◌&&◌, if◌then◌else◌, is_some, nat_lt}
use Rattle.std.specs.List.{list_any}
use Rattle.sc_tree.specs.Plain.{System}
use Rattle.sc_class.specs.ClassNames.{Root}
use Rattle.sc_rules.specs.declared.entity_types.entity_type.EntityType.{EntityType}
use Rattle.sc_lockpass.specs.Rights.{is_handler}
use Rattle.sc_lockpass.specs.wait_conditions.Reservations.{ends_session}
use Rattle.sc_lockpass.specs.declared.wait_conditions.session.Release.TheVariants as release_at
use Rattle.sc_model.specs.declared.cause.Cause.{Cause}
use Rattle.sc_model.specs.declared.cause.Cause.TheVariants as cause
use Rattle.sc_model.specs.Failures.{fails_with, fallen, is_waited_by, requests_at, told}
use Rattle.sc_model.specs.Handlers.{Request, Answer, Reply, Failed, Refused, Stage, Frame, World}
use Rattle.sc_model.specs.Runs.{IsReached}
use Rattle.sc_model.specs.Takes.{takes_next}
use Rattle.sc_model.specs.Turns.{turn, turn_with, goes_on, waits}
use Rattle.sc_machine_laws.specs.states.Headline.{has_reply}
use Rattle.sc_machine_laws.proofs.states.Rights.{not_some}
use Rattle.sc_machine_laws.specs.RequestLaws.{BeyondIsUnused, CalledBackWaits, IsAway, OthersStay, QueueComes, RightsStay, Stays, TopAwaits, IsUnused}
use Rattle.sc_machine_laws.proofs.RestingHandlers.{ended_rests}
use Rattle.sc_machine_laws.specs.Following.{IsQuiet}
use Rattle.sc_machine_laws.specs.Following as following
use Rattle.sc_machine_laws.proofs.Lists.{nothing_is_list, false_is_true, first_of}

pub one_holder : {x y : ℕ} {o : Option ℕ} → o ≡ Some x → o ≡ Some y → x ≡ y
one_holder e f = cc

-- ---- a failure

-- the handler that fails keeps its objects
pub fallen_objects : (g : ℕ) (why : Cause) (taken : List Request) (v : World) →
    ((fails_with g why taken v).handlers g).objects ≡ (v.handlers g).objects
fallen_objects g why taken v =
    (ended_rests (ends_session release_at.Failure && is_handler g (v.rights.queue g)) _).objects
    ∙ ap (λ (b : Bool). (if b then fallen why (v.handlers g) else told
    (list_any (is_waited_by g) (taken ++ requests_at (v.handlers g))) (v.handlers g)).objects) (eq-eqb g g refl)

pub fallen_failure : (g : ℕ) (why : Cause) (taken : List Request) (v : World) →
    ((fails_with g why taken v).handlers g).failure ≡ Some why
fallen_failure g why taken v =
    (ended_rests (ends_session release_at.Failure && is_handler g (v.rights.queue g)) _).failure
    ∙ ap (λ (b : Bool). (if b then fallen why (v.handlers g) else told
    (list_any (is_waited_by g) (taken ++ requests_at (v.handlers g))) (v.handlers g)).failure) (eq-eqb g g refl)

-- ---- a turn

-- its objects are the same, and it is quiet again
pub record StaysQuiet (w v : World) (h k : ℕ) : Type 0 where
  pub objects_stay : (v.handlers k).objects ≡ (w.handlers k).objects
  pub quiet : IsQuiet v h k

module _ (calls_back : CalledBackWaits) (others_stay : OthersStay) (rights_stay : RightsStay) (beyond : BeyondIsUnused)
    (most : ℕ) (s : System) (root : Root) (w : World) (reached : IsReached most s root w) where
  -- A handler that has something is there.
  used_is_there : (k : ℕ) → (IsUnused w k → ⊥) → k < w.count
  used_is_there k used = by (nat_lt k w.count) refl
    where
      by : (b : Bool) → nat_lt k w.count ≡ b → k < w.count
      by true l = ltb-true k w.count l
      by false l = absurd (used (beyond most s root w reached k (ltb-false k w.count l)))

  -- So is one that has failed, and one over which somebody has a right.
  pub failed_is_there : (k : ℕ) → is_some (w.handlers k).failure ≡ true → k < w.count
  failed_is_there k e = used_is_there k (λ u. false_is_true (sym (ap is_some u.failure_is) ∙ e))

  pub posts_to_there : (k h : ℕ) → w.rights.queue k ≡ Some h → k < w.count
  posts_to_there k h e = used_is_there k (λ u. not_some h (sym u.queue_right ∙ e))

  pub pushes_there : (k h : ℕ) → w.rights.top k ≡ Some h → k < w.count
  pushes_there k h e = used_is_there k (λ u. not_some h (sym u.top_right ∙ e))

  pub quiet_is_there : (h k : ℕ) → IsQuiet w h k → k < w.count
  quiet_is_there h k (following.failed e) = failed_is_there k e
  quiet_is_there h k (following.idle st qs r) = posts_to_there k h r
  quiet_is_there h k (following.waiting r) = pushes_there k h r

  module _ (g h : ℕ) (apart : h ≢ g) where
    back : g ≢ h
    back e = apart (sym e)

    -- where the turn is another one's
    pub quiet_beside : (k : ℕ) → k ≢ g → IsQuiet w h k → StaysQuiet w (turn most s g w) h k
    quiet_beside k n q = record { objects_stay = stay.objects_stay; quiet = by q }
      where
        stay : Stays w g k ((turn most s g w).handlers k)
        stay = others_stay most s w g k (quiet_is_there h k q) n

        by : IsQuiet w h k → IsQuiet (turn most s g w) h k
        by (following.failed e) = following.failed (ap is_some stay.failure_stays ∙ e)
        by (following.idle st qs r) = following.idle (stay.stack_stays ∙ st) (queue stay.queue_comes)
            ((rights_stay most s root w reached g h k back).0 r)
          where
            queue : QueueComes w g k ((turn most s g w).handlers k) → ((turn most s g w).handlers k).queue ≡ []
            queue (QueueComes.stays e) = e ∙ qs
            queue (QueueComes.comes q p u e) = absurd (apart (one_holder r u))
        by (following.waiting r) = following.waiting ((rights_stay most s root w reached g h k back).1 n r)

    -- in its own turn it does nothing, or it fails as it is told that whoever it waits for has failed
    module _ (lives : (w.handlers h).failure ≡ None)
        (waits_not : (has_reply (w.handlers h).answer ≡ true) ⊎ (TopAwaits (w.handlers h).stack g → ⊥))
        (q : IsQuiet w h g) where
      abbrev P : World → Type 0
      P v = StaysQuiet w v h g

      nothing : P w
      nothing = record { objects_stay = refl; quiet = q }

      fails : (why : Cause) → P (fails_with g why [] w)
      fails why = record {
        objects_stay = fallen_objects g why [] w;
        quiet = following.failed (ap is_some (fallen_failure g why [] w));
      }

      away : w.rights.top g ≡ Some h → (w.handlers g).failure ≡ None → IsAway (w.handlers g)
      away r e = calls_back most s root w reached g h r (λ i. apart (sym i)) e lives waits_not

      queue_is : (w.handlers g).failure ≡ None → (w.handlers g).stack ≡ [] → IsQuiet w h g → (w.handlers g).queue ≡ []
      queue_is e i (following.failed f) = false_is_true (sym (ap is_some e) ∙ f)
      queue_is e i (following.idle st qs r) = qs
      queue_is e i (following.waiting r) = nothing_is_list (sym i ∙ (away r e).awaits.stack_is)

      waits_away : (f : Frame) (below : List Frame) → (w.handlers g).failure ≡ None → (w.handlers g).stack ≡ f ∷ below →
          IsQuiet w h g → IsAway (w.handlers g)
      waits_away f below e i (following.failed u) = false_is_true (sym (ap is_some e) ∙ u)
      waits_away f below e i (following.idle st qs r) = nothing_is_list (sym st ∙ i)
      waits_away f below e i (following.waiting r) = away r e

      takes : (f : Frame) (below : List Frame) (k : ℕ) (t : Option EntityType) (c : Bool) → (o : Option Answer) →
          (w.handlers g).answer ≡ o → has_reply o ≡ false →
          P (waits s g None o k t c f below w)
      takes f below k t c None e n = nothing
      takes f below k t c (Some (Reply v)) e n = false_is_true (sym n)
      takes f below k t c (Some Failed) e n = fails cause.SupplierFailed
      takes f below k t c (Some Refused) e n = false_is_true (sym n)

      goes : (f : Frame) (below : List Frame) → (w.handlers g).stack ≡ f ∷ below → IsAway (w.handlers g) →
          P (goes_on most s g f.stage f below w)
      goes f below i z =
          let a = z.awaits in
          subst (λ (x : Stage). P (goes_on most s g x f below w))
          (sym (ap (λ (u : Frame). u.stage) (first_of (sym i ∙ a.stack_is)) ∙ a.stage_is))
          (subst (λ (c : Option Request). P
          (waits s g c (w.handlers g).answer z.supplier a.gives a.is_creation f below w)) (sym z.no_callback)
          (takes f below z.supplier a.gives a.is_creation (w.handlers g).answer refl z.no_reply))

      with_turn : (o : Option Cause) (st : List Frame) → (w.handlers g).failure ≡ o → (w.handlers g).stack ≡ st →
          P (turn_with most s g o st w)
      with_turn (Some why) st e i = nothing
      with_turn None [] e i = subst (λ (qs : List Request). P (takes_next s g qs w)) (sym (queue_is e i q)) nothing
      with_turn None (f ∷ below) e i = goes f below i (waits_away f below e i q)

      pub quiet_in_turn : StaysQuiet w (turn most s g w) h g
      quiet_in_turn = by (nat_lt g w.count)
        where
          by : (b : Bool) → P (if b then turn_with most s g (w.handlers g).failure (w.handlers g).stack w else w)
          by true = with_turn (w.handlers g).failure (w.handlers g).stack refl refl
          by false = nothing

    pub quiet_stays : (w.handlers h).failure ≡ None → (k : ℕ) → (has_reply (w.handlers h).answer ≡ true)
        ⊎ (TopAwaits (w.handlers h).stack k → ⊥) → IsQuiet w h k →
        StaysQuiet w (turn most s g w) h k
    quiet_stays lives k n q = by (k == g) refl
      where
        by : (b : Bool) → (k == g) ≡ b → StaysQuiet w (turn most s g w) h k
        by true e =
            let i : g ≡ k = sym (eqb-true k g e) in
            subst (StaysQuiet w (turn most s g w) h) i
            (quiet_in_turn lives (subst
            (λ (j : ℕ). (has_reply (w.handlers h).answer ≡ true) ⊎ (TopAwaits (w.handlers h).stack j → ⊥)) (sym i) n)
            (subst (IsQuiet w h) (sym i) q))
        by false e = quiet_beside k (λ i. false_is_true (sym e ∙ eq-eqb k g i)) q
