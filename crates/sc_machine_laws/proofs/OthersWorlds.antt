-- What the steps of a turn leave of the handler g of the turn, and of the answer of another one, h.
use Rattle.std.proofs.Common.{ℕ, ◌≡◌, ◌≢◌, ◌⊎◌, ◌==◌, Bool, true, false, List, [], ◌∷◌, ◌++◌, Option, Some, None, refl, sym, ap, subst, ◌∙◌, inl, inr}
use Rattle.std.proofs.lemmas.Bool.{eq-eqb, eqb-true}
use Rattle.std.proofs.lemmas.List.Elements.{Contains-append_left, Contains-append_right}
use Rattle.std.specs.Prelude.{◌&&◌, ◌||◌, if◌then◌else◌, Contains}
use Rattle.std.specs.List.{list_any}
use Rattle.sc_lockpass.specs.Rights.{is_among, is_handler}
use Rattle.sc_lockpass.specs.wait_conditions.Reservations.{ends_session}
use Rattle.sc_lockpass.specs.declared.wait_conditions.session.Release.{Release}
use Rattle.sc_lockpass.specs.declared.wait_conditions.session.Release.TheVariants as release_at
use Rattle.sc_model.specs.declared.cause.Cause.{Cause}
use Rattle.sc_model.specs.Answers.{heard}
use Rattle.sc_model.specs.Failures.{fails_with, fallen, is_waited_by, request_of, requests_at, to_list, told}
use Rattle.sc_model.specs.Handlers.{Request, Failed, Requested, Frame, Handler, World, put}
use Rattle.sc_model.specs.Sessions.{release, session_ended}
use Rattle.sc_machine_laws.proofs.states.MachineFrames.{contains_cases, contains_first, contains_none}
use Rattle.sc_machine_laws.proofs.StandingRequests.{begun_on}

-- ---- requests at a handler

pub in_queue : (x : Handler) (q : Request) → Contains x.queue q → Contains (requests_at x) q
in_queue x q i = Contains-append_left (x.queue ++ to_list x.callback) (begun_on x.stack) q
    (Contains-append_left x.queue (to_list x.callback) q i)

pub as_callback : (x : Handler) (q : Request) → x.callback ≡ Some q → Contains (requests_at x) q
as_callback x q e = Contains-append_left (x.queue ++ to_list x.callback) (begun_on x.stack) q
    (Contains-append_right x.queue (to_list x.callback) q
    (subst (λ (c : Option Request). Contains (to_list c) q) (sym e) (contains_first q [])))

pub on_stack_of : (x : Handler) (q : Request) → Contains (begun_on x.stack) q → Contains (requests_at x) q
on_stack_of x q i = Contains-append_right (x.queue ++ to_list x.callback) (begun_on x.stack) q i

began : (f : Frame) (st : List Frame) (q : Request) → f.origin ≡ Requested q → Contains (begun_on (f ∷ st)) q
began f st q e = subst (λ (qs : List Request). Contains (qs ++ begun_on st) q) (sym (ap request_of e))
    (contains_first q (begun_on st))

lower : (f : Frame) (st : List Frame) (q : Request) → Contains (begun_on st) q →
    Contains (begun_on (f ∷ st)) q
lower f st q i = Contains-append_right (request_of f.origin) (begun_on st) q i

pub began_on : (fs : List Frame) (c : Frame) (below : List Frame) (q : Request) → c.origin ≡ Requested q →
    Contains (begun_on (fs ++ c ∷ below)) q
began_on [] c below q e = began c below q e
began_on (f ∷ fs) c below q e = lower f (fs ++ c ∷ below) q (began_on fs c below q e)

any_is : (test : Request → Bool) (qs : List Request) (q : Request) → Contains qs q → test q ≡ true →
    list_any test qs ≡ true
any_is test [] q i e = contains_none q i
any_is test (r ∷ qs) q i e = by (contains_cases r qs q i) (λ j. any_is test qs q j e)
  where
    second : (b : Bool) → (b || true) ≡ true
    second true = refl
    second false = refl

    by : (r ≡ q) ⊎ Contains qs q → (Contains qs q → list_any test qs ≡ true) → (test r || list_any test qs) ≡ true
    by (inl same) more = ap (λ (b : Bool). b || list_any test qs) (ap test same ∙ e)
    by (inr j) more = ap (λ (b : Bool). test r || b) (more j) ∙ second (test r)

-- ---- two handlers

module _ (g h : ℕ) (apart : h ≢ g) where
  differs : (h == g) ≡ false
  differs = by (h == g) refl
    where
      by : (b : Bool) → (h == g) ≡ b → b ≡ false
      by true e = absurd (apart (eqb-true h g e))
      by false e = refl

  pub put_own : (y : Handler) (v : World) → (put g y v).handlers g ≡ y
  put_own y v = ap (λ (b : Bool). if b then y else v.handlers g) (eq-eqb g g refl)

  pub put_other : (y : Handler) (v : World) → (put g y v).handlers h ≡ v.handlers h
  put_other y v = ap (λ (b : Bool). if b then y else v.handlers h) differs

  -- What stays of both: of g the stack, the objects, the queue, and who may push on its stack; of h the answer, and
  -- whether it has failed.
  pub record Alike (v u : World) : Type 0 where
    pub stack_is : (u.handlers g).stack ≡ (v.handlers g).stack
    pub objects_are : (u.handlers g).objects ≡ (v.handlers g).objects
    pub queue_is : (u.handlers g).queue ≡ (v.handlers g).queue
    pub top_is : u.rights.top g ≡ v.rights.top g
    pub answer_is : (u.handlers h).answer ≡ (v.handlers h).answer
    pub failure_is : (u.handlers h).failure ≡ (v.handlers h).failure

  ended : {A : Type 0} (F : Handler → A) → ((x : Handler) → F (session_ended true x) ≡ F x) → (b : Bool) (x : Handler) →
      F (session_ended b x) ≡ F x
  ended F e true x = e x
  ended F e false x = refl

  pub release_alike : (how : Release) (ks : List ℕ) (v : World) → Alike v (release how ks v)
  release_alike how ks v = record {
    stack_is = ended (λ (x : Handler). x.stack) (λ x. refl) (ends_session how && is_among g ks) (v.handlers g);
    objects_are = ended (λ (x : Handler). x.objects) (λ x. refl) (ends_session how && is_among g ks) (v.handlers g);
    queue_is = ended (λ (x : Handler). x.queue) (λ x. refl) (ends_session how && is_among g ks) (v.handlers g);
    top_is = refl;
    answer_is = ended (λ (x : Handler). x.answer) (λ x. refl) (ends_session how && is_among h ks) (v.handlers h);
    failure_is = ended (λ (x : Handler). x.failure) (λ x. refl) (ends_session how && is_among h ks) (v.handlers h);
  }

  -- ---- a failure

  told_hears : (x : Handler) → x.failure ≡ None → (told true x).answer ≡ Some Failed
  told_hears x e = ap (λ (c : Option Cause). heard Failed c x.answer) e

  -- whoever waits for a request at the handler that fails, or for one that it takes, is told
  pub fails_told : (why : Cause) (taken : List Request) (v : World) (q : Request) →
      Contains (taken ++ requests_at (v.handlers g)) q → q.poster ≡ Some h →
      q.is_waited ≡ true → (v.handlers h).failure ≡ None → ((fails_with g why taken v).handlers h).answer ≡ Some Failed
  fails_told why taken v q i posted waited lives =
      let hears : Bool = list_any (is_waited_by h) (taken ++ requests_at (v.handlers g)) in
      ended (λ (x : Handler). x.answer) (λ x. refl) (ends_session release_at.Failure && is_handler g (v.rights.queue h))
      (if h == g then fallen why (v.handlers h) else told hears (v.handlers h))
      ∙ ap (λ (b : Bool). (if b then fallen why (v.handlers h) else told hears (v.handlers h)).answer) differs
      ∙ ap (λ (b : Bool). (told b (v.handlers h)).answer)
      (any_is (is_waited_by h) (taken ++ requests_at (v.handlers g)) q i is_so)
      ∙ told_hears (v.handlers h) lives
    where
      is_so : is_waited_by h q ≡ true
      is_so = ap (λ (b : Bool). b && is_handler h q.poster) waited ∙ ap (is_handler h) posted ∙ eq-eqb h h refl
