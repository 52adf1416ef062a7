-- What other steps of the machine leave of a state: where objects, frames, requests and answers stay, or a handler has fallen, each value still fits.
use Rattle.std.specs.List.{list_any}
use Rattle.std.specs.Prelude.{◌==◌, if◌then◌else◌, slice_get}
use Rattle.std.proofs.Common.{◌&&◌, ◌++◌, ◌-◌, ◌<◌, Bool, List, None, Option, Some, [], false, refl, subst, sym, true, ℕ, ◌∙◌, ◌≡◌}
use Rattle.std.proofs.lemmas.Bool.{eqb-true}
use Rattle.sc_tree.specs.Plain.{System}
use Rattle.sc_rules.specs.Names.{RoutineName}
use Rattle.sc_lockpass.specs.Rights.{is_among, is_handler}
use Rattle.sc_lockpass.specs.wait_conditions.Reservations.{ends_session}
use Rattle.sc_lockpass.specs.declared.wait_conditions.session.Release.TheVariants as release_at
use Rattle.sc_model.specs.Answers.{heard}
use Rattle.sc_model.specs.Failures.{fails_with, fallen, is_waited_by, requests_at, told}
use Rattle.sc_model.specs.Handlers.{Answer, Failed, Handler, Reply, Request, World}
use Rattle.sc_model.specs.Objects.{object_numbered}
use Rattle.sc_model.specs.Sessions.{release, session_ended}
use Rattle.sc_model.specs.Values.{Reference, Value}
use Rattle.sc_model.specs.declared.cause.Cause.{Cause}
use Rattle.sc_machine_laws.specs.states.Fitting.{FrameFits, HandlerFits, IsThere, Linked, ObjectFits, RequestFits, WorldFits, empty, is_due, is_made}
use Rattle.sc_machine_laws.specs.states.Points.{Each, IsAmong}
use Rattle.sc_machine_laws.specs.states.Values.{FailuresKeepIt, ReleasesKeepIt, RightsKeepIt}
use Rattle.sc_machine_laws.proofs.states.Changes.{RestStays, handler_led, objects_led, rest_same}

-- The objects stay, and where there is none yet, so does the queue.
pub record ObjectsStay (x y : Handler) : Type 0 where
  pub objects : y.objects ≡ x.objects
  pub queue : x.objects ≡ [] → y.queue ≡ x.queue

-- nothing is left of the frames and the requests, and no answer
pub record HasFallen (y : Handler) : Type 0 where
  pub stack : y.stack ≡ []
  pub requests : requests_at y ≡ []
  pub answer : y.answer ≡ None

module _ (w v : World) (count : v.count ≡ w.count) (stay : (k : ℕ) → ObjectsStay (w.handlers k) (v.handlers k)) where
  -- what is there is there afterwards
  pub there_carried : (r : Reference) → IsThere w r → IsThere v r
  there_carried r (is_made {o} l i c) =
      is_made {o = o} (subst (λ n. r.handler < n) (sym count) l) (subst (λ os. object_numbered r.number os ≡ Some o) (sym (stay r.handler).objects) i) c
  there_carried r (is_due {q} {qs} {x} l i j k m n) =
      is_due {q = q} {qs = qs} {x = x} (subst (λ n. r.handler < n) (sym count) l) ((stay r.handler).objects ∙ i) ((stay r.handler).queue i ∙ j) k m n

  module _ (s : System) (pure : RoutineName → Bool) (h : ℕ) where
    pub objects_carried : Each (ObjectFits s w h) (w.handlers h).objects → Each (ObjectFits s v h) (v.handlers h).objects
    objects_carried e = subst (Each (ObjectFits s v h)) (sym (stay h).objects) (objects_led w v there_carried s pure h (w.handlers h).objects e)

    -- The values of a handler still fit where its frames, requests and answers stay.
    pub handler_carried : RestStays (w.handlers h) (v.handlers h) → HandlerFits s pure w h → HandlerFits s pure v h
    handler_carried z e = handler_led w v there_carried s pure h (stay h).objects z e

    -- where it has fallen
    pub fallen_fits : HasFallen (v.handlers h) → Each (ObjectFits s w h) (w.handlers h).objects → HandlerFits s pure v h
    fallen_fits z e = record {
      objects_fit = objects_carried e;
      frames_fit = subst (Each (FrameFits s pure v h)) (sym z.stack) tt;
      frames_are_linked = subst (Linked s h) (sym z.stack) empty;
      requests_fit = subst (Each (RequestFits s v h)) (sym z.requests) tt;
      answer_fits = λ x a. absurd (no_answer (sym z.answer ∙ a));
    }
      where
        no_answer : {a : Answer} → None ≡ Some a → ⊥
        no_answer e = cc

pub objects_same : (x : Handler) → ObjectsStay x x
objects_same x = record { objects = refl; queue = λ e. refl }

pub session_objects : (b : Bool) (x y : Handler) → ObjectsStay x y → ObjectsStay x (session_ended b y)
session_objects true x y z = record { objects = z.objects; queue = z.queue }
session_objects false x y z = z

session_rest : (b : Bool) (x y : Handler) → RestStays x y → RestStays x (session_ended b y)
session_rest true x y z = record { stack = z.stack; requests = z.requests; replies = z.replies }
session_rest false x y z = z

session_fallen : (b : Bool) (y : Handler) → HasFallen y → HasFallen (session_ended b y)
session_fallen true y z = record { stack = z.stack; requests = z.requests; answer = z.answer }
session_fallen false y z = z

-- ---- rights

pub rights_keep_it : RightsKeepIt
rights_keep_it s pure w x fits h l =
    handler_carried w (record w { rights = x }) refl (λ k. objects_same (w.handlers k)) s pure h (rest_same (w.handlers h)) (fits h l)

pub releases_keep_it : ReleasesKeepIt
releases_keep_it s pure w how ks fits h l =
    handler_carried w (release how ks w) refl (λ k. session_objects (ends_session how && is_among k ks) (w.handlers k) (w.handlers k) (objects_same (w.handlers k))) s pure h
    (session_rest (ends_session how && is_among h ks) (w.handlers h) (w.handlers h) (rest_same (w.handlers h))) (fits h l)

-- ---- failures

told_objects : (b : Bool) (x : Handler) → ObjectsStay x (told b x)
told_objects true x = record { objects = refl; queue = λ e. refl }
told_objects false x = objects_same x

told_rest : (b : Bool) (x : Handler) → RestStays x (told b x)
told_rest true x = record { stack = refl; requests = refl; replies = λ r e. by x.failure r e }
  where
    by : (o : Option Cause) (r : Option Value) → heard Failed o x.answer ≡ Some (Reply r) → x.answer ≡ Some (Reply r)
    by (Some why) r e = e
    by None r e = cc
told_rest false x = rest_same x

-- The failure of a handler that has an object keeps what fits of the others, and of its objects.
pub failed_fits : (s : System) (pure : RoutineName → Bool) (w : World) (h : ℕ) (why : Cause) (taken : List Request) (me : Reference) → IsAmong (w.handlers h).objects me →
    (h < w.count → Each (ObjectFits s w h) (w.handlers h).objects) → ((k : ℕ) → k < w.count → (k == h) ≡ false → HandlerFits s pure w k) → WorldFits s pure (fails_with h why taken w)
failed_fits s pure w h why taken me there own others k l = of_self (k == h) refl
  where
    no_due : (j : ℕ) → (j == h) ≡ true → (w.handlers j).objects ≡ [] → ⊥
    no_due j e i = nothing_there (subst (λ j. (w.handlers j).objects ≡ []) (eqb-true j h e) i)
      where
        nothing_there : (w.handlers h).objects ≡ [] → ⊥
        nothing_there i = by (me.number == 0) (subst (λ os. object_numbered me.number os ≡ Some there.object) i there.is_there)
          where
            by : (b : Bool) → (if b then None else slice_get [] (me.number - 1)) ≡ Some there.object → ⊥
            by true e = cc
            by false e = cc

    stay : (j : ℕ) → ObjectsStay (w.handlers j) ((fails_with h why taken w).handlers j)
    stay j = session_objects (ends_session release_at.Failure && is_handler h (w.rights.queue j)) (w.handlers j)
        (if j == h then fallen why (w.handlers j) else told (list_any (is_waited_by j) (taken ++ requests_at (w.handlers h))) (w.handlers j)) (by (j == h) refl)
      where
        by : (b : Bool) → (j == h) ≡ b → ObjectsStay (w.handlers j) (if b then fallen why (w.handlers j) else told (list_any (is_waited_by j) (taken ++ requests_at (w.handlers h))) (w.handlers j))
        by true e = record { objects = refl; queue = λ i. absurd (no_due j e i) }
        by false e = told_objects (list_any (is_waited_by j) (taken ++ requests_at (w.handlers h))) (w.handlers j)

    of_self : (b : Bool) → (k == h) ≡ b → HandlerFits s pure (fails_with h why taken w) k
    of_self true e = fallen_fits w (fails_with h why taken w) refl stay s pure k
        (session_fallen (ends_session release_at.Failure && is_handler h (w.rights.queue k))
        (if k == h then fallen why (w.handlers k) else told (list_any (is_waited_by k) (taken ++ requests_at (w.handlers h))) (w.handlers k))
        (subst (λ b. HasFallen (if b then fallen why (w.handlers k) else told (list_any (is_waited_by k) (taken ++ requests_at (w.handlers h))) (w.handlers k))) (sym e)
        (record { stack = refl; requests = refl; answer = refl }))) (let q : k ≡ h = eqb-true k h e in subst (λ j. Each (ObjectFits s w j) (w.handlers j).objects) (sym q) (own (subst (λ j. j < w.count) q l)))
    of_self false e = handler_carried w (fails_with h why taken w) refl stay s pure k
        (session_rest (ends_session release_at.Failure && is_handler h (w.rights.queue k)) (w.handlers k)
        (if k == h then fallen why (w.handlers k) else told (list_any (is_waited_by k) (taken ++ requests_at (w.handlers h))) (w.handlers k))
        (subst (λ b. RestStays (w.handlers k) (if b then fallen why (w.handlers k) else told (list_any (is_waited_by k) (taken ++ requests_at (w.handlers h))) (w.handlers k))) (sym e)
        (told_rest (list_any (is_waited_by k) (taken ++ requests_at (w.handlers h))) (w.handlers k)))) (others k l e)

pub failures_keep_it : FailuresKeepIt
failures_keep_it s pure w h why taken me there fits = failed_fits s pure w h why taken me there (λ l. (fits h l).objects_fit) (λ k l e. fits k l)
