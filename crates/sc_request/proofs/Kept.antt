-- What is done to the machine and to the core alike keeps that one is the half of the other.
use Rattle.std.proofs.Common.{ℕ, ◌≡◌, ◌+◌, ◌==◌, Bool, true, false, ◌&&◌, ◌||◌, List, [], ◌∷◌, ◌++◌, Option, Some, None, refl, sym, ap, ◌∙◌}
use Rattle.std.specs.Prelude.{map, if◌then◌else◌, flat_map}
use Rattle.std.specs.List.{list_any}
use Rattle.std.specs.Option.{option_map}
use Rattle.sc_lockpass.specs.Rights as maps
use Rattle.sc_lockpass.specs.Rights.{Rights, is_among, is_handler, release_all}
use Rattle.sc_lockpass.specs.Passing.{Passed, give_back}
use Rattle.sc_lockpass.specs.wait_conditions.Reservations.{ends_session}
use Rattle.sc_lockpass.specs.declared.wait_conditions.session.Release.{Release}
use Rattle.sc_model.specs.declared.cause.Cause.{Cause}
use Rattle.sc_model.specs.Handlers as machine
use Rattle.sc_model.specs.Sessions as machine_sessions
use Rattle.sc_model.specs.Answers as machine_answers
use Rattle.sc_model.specs.Failures as machine_failures
use Rattle.sc_handler.specs.Handlers.{Posted, Answer, Service, Handler, State, put}
use Rattle.sc_handler.specs.Changes.{session_ended, heard, answered, to_list, requests_at, is_waited_by, told, fallen}
use Rattle.sc_request.specs.Sessions.{release, answer_to, return_rights, finish, fail}
use Rattle.sc_request.specs.Asked.{Numbering}
use Rattle.sc_request.specs.Halves.{posted_of, answer_of, IsOrigin, AreServices, IsHandlerOf, IsHalfOf}

-- ---- one handler is changed

pub chosen : (n : Numbering) (b : Bool) (x x' : machine.Handler) (y y' : Handler) → IsHandlerOf n x y → IsHandlerOf n x' y' →
    IsHandlerOf n (if b then x else x') (if b then y else y')
chosen n true x x' y y' e f = e
chosen n false x x' y y' e f = f

pub put_alike : (n : Numbering) (w : machine.World) (s : State) (h : ℕ) (x : machine.Handler) (y : Handler) → IsHalfOf n w s → IsHandlerOf n x y →
    IsHalfOf n (machine.put h x w) (put h y s)
put_alike n w s h x y e f = record {
  count = e.count;
  rights = e.rights;
  handlers = λ k. chosen n (k == h) x (w.handlers k) y (s.handlers k) f (e.handlers k);
}

-- ---- reserving, releasing, and rights

pub rights_alike : (n : Numbering) (w : machine.World) (s : State) (f : Rights → Rights) → IsHalfOf n w s →
    IsHalfOf n (record w { rights = f w.rights }) (record s { rights = f s.rights })
rights_alike n w s f e = record { count = e.count; rights = ap f e.rights; handlers = e.handlers }

pub ended : (n : Numbering) (b : Bool) (x : machine.Handler) (y : Handler) → IsHandlerOf n x y → IsHandlerOf n (machine_sessions.session_ended b x) (session_ended b y)
ended n false x y e = e
ended n true x y e = record {
  stage = e.stage;
  services = e.services;
  queue = e.queue;
  callback = e.callback;
  answer = e.answer;
  failure = e.failure;
  sessions = ap (λ m. m + 1) e.sessions;
  refused = e.refused;
}

pub release_alike : (n : Numbering) (how : Release) (ks : List ℕ) (w : machine.World) (s : State) → IsHalfOf n w s →
    IsHalfOf n (machine_sessions.release how ks w) (release how ks s)
release_alike n how ks w s e = record {
  count = e.count;
  rights = ap (maps.release ks) e.rights;
  handlers = λ k. ended n (ends_session how && is_among k ks) (w.handlers k) (s.handlers k) (e.handlers k);
}

-- ---- answers

heard_alike : (a : machine.Answer) (why : Option Cause) (old : Option machine.Answer) →
    heard (answer_of a) why (option_map answer_of old) ≡ option_map answer_of (machine_answers.heard a why old)
heard_alike a (Some why) old = refl
heard_alike machine.Failed None old = refl
heard_alike (machine.Reply v) None None = refl
heard_alike (machine.Reply v) None (Some old) = refl
heard_alike machine.Refused None None = refl
heard_alike machine.Refused None (Some old) = refl

pub answered_alike : (n : Numbering) (a : machine.Answer) (x : machine.Handler) (y : Handler) → IsHandlerOf n x y →
    IsHandlerOf n (machine_answers.answered a x) (answered (answer_of a) y)
answered_alike n a x y e = record {
  stage = e.stage;
  services = e.services;
  queue = e.queue;
  callback = e.callback;
  answer =
      ap (λ (why : Option Cause). heard (answer_of a) why y.answer) e.failure ∙ ap (λ (old : Option Answer). heard (answer_of a) x.failure old) e.answer
      ∙ heard_alike a x.failure x.answer;
  failure = e.failure;
  sessions = e.sessions;
  refused = e.refused;
}

answer_alike : (n : Numbering) (is_waited : Bool) (poster : Option ℕ) (a : machine.Answer) (w : machine.World) (s : State) → IsHalfOf n w s →
    IsHalfOf n (machine_answers.answer_to is_waited poster a w) (answer_to is_waited poster (answer_of a) s)
answer_alike n true (Some p) a w s e = put_alike n w s p _ _ e (answered_alike n a (w.handlers p) (s.handlers p) (e.handlers p))
answer_alike n true None a w s e = e
answer_alike n false poster a w s e = e

return_alike : (n : Numbering) (p : Option Passed) (w : machine.World) (s : State) → IsHalfOf n w s →
    IsHalfOf n (machine_answers.return_rights p w) (return_rights p s)
return_alike n None w s e = e
return_alike n (Some p) w s e = rights_alike n w s (give_back p) e

pub finish_alike : (n : Numbering) (r : machine.Request) (a : machine.Answer) (w : machine.World) (s : State) → IsHalfOf n w s →
    IsHalfOf n (machine_answers.finish r a w) (finish (posted_of n r) (answer_of a) s)
finish_alike n r a w s e = answer_alike n r.is_waited r.poster a _ _ (return_alike n r.passed w s e)

-- ---- failures

pub map_append : {A B : Type 0} (f : A → B) (xs ys : List A) → map f (xs ++ ys) ≡ map f xs ++ map f ys
map_append f [] ys = refl
map_append f (x ∷ xs) ys = ap (λ l. f x ∷ l) (map_append f xs ys)

-- the requests that these frames serve
abbrev requests_of : List machine.Frame → List machine.Request
requests_of fs = flat_map (λ (f : machine.Frame). machine_failures.request_of f.origin) fs

abbrev postings_of : List Service → List Posted
postings_of vs = map (λ (v : Service). v.posted) vs

served_by : (n : Numbering) (o : machine.Origin) (below : List machine.Frame) (vs : List Service) →
    ((us : List Service) → AreServices n below us → postings_of us ≡ map (posted_of n) (requests_of below)) →
    IsOrigin n o (AreServices n below) below vs → postings_of vs ≡ map (posted_of n) (machine_failures.request_of o ++ requests_of below)
served_by n (machine.Called c) below vs rest e = rest vs e
served_by n (machine.Requested r) below [] rest e = absurd e
served_by n (machine.Requested r) below (v ∷ vs) rest e = ap (λ (p : Posted). p ∷ postings_of vs) e.0 ∙ ap (λ (ps : List Posted). posted_of n r ∷ ps) (rest vs e.2)

served : (n : Numbering) (fs : List machine.Frame) (vs : List Service) → AreServices n fs vs → postings_of vs ≡ map (posted_of n) (requests_of fs)
served n [] vs e = rw e refl
served n (f ∷ below) vs e = served_by n f.origin below vs (served n below) e

listed : (n : Numbering) (c : Option machine.Request) → to_list (option_map (posted_of n) c) ≡ map (posted_of n) (machine_failures.to_list c)
listed n None = refl
listed n (Some r) = refl

pub standing : (n : Numbering) (x : machine.Handler) (y : Handler) → IsHandlerOf n x y → requests_at y ≡ map (posted_of n) (machine_failures.requests_at x)
standing n x y e =
    ap (λ (q : List Posted). q ++ to_list y.callback ++ map (λ (v : Service). v.posted) y.services) e.queue
    ∙ ap (λ (c : Option Posted). map (posted_of n) x.queue ++ to_list c ++ map (λ (v : Service). v.posted) y.services) e.callback
    ∙ ap (λ (c : List Posted). map (posted_of n) x.queue ++ c ++ map (λ (v : Service). v.posted) y.services) (listed n x.callback)
    ∙ ap (λ (vs : List Posted). map (posted_of n) x.queue ++ map (posted_of n) (machine_failures.to_list x.callback) ++ vs) (served n x.stack y.services e.services)
    ∙ ap (λ (l : List Posted). l ++ map (posted_of n) (requests_of x.stack)) (sym (map_append (posted_of n) x.queue (machine_failures.to_list x.callback)))
    ∙ sym (map_append (posted_of n) (x.queue ++ machine_failures.to_list x.callback) (requests_of x.stack))

pub waited : (n : Numbering) (k : ℕ) (rs : List machine.Request) → list_any (is_waited_by k) (map (posted_of n) rs) ≡ list_any (machine_failures.is_waited_by k) rs
waited n k [] = refl
waited n k (r ∷ rs) = ap (λ (b : Bool). machine_failures.is_waited_by k r || b) (waited n k rs)

pub told_alike : (n : Numbering) (b : Bool) (x : machine.Handler) (y : Handler) → IsHandlerOf n x y → IsHandlerOf n (machine_failures.told b x) (told b y)
told_alike n false x y e = e
told_alike n true x y e = answered_alike n machine.Failed x y e

pub fallen_alike : (n : Numbering) (why : Cause) (x : machine.Handler) (y : Handler) → IsHandlerOf n x y → IsHandlerOf n (machine_failures.fallen why x) (fallen why y)
fallen_alike n why x y e =
    record { stage = refl; services = refl; queue = refl; callback = refl; answer = refl; failure = refl; sessions = e.sessions; refused = e.refused }

after_failure : (n : Numbering) (h k : ℕ) (why : Cause) (w : machine.World) (s : State) → IsHalfOf n w s →
    IsHandlerOf n ((machine_failures.fail h why w).handlers k) ((fail h why s).handlers k)
after_failure n h k why w s e =
    let same : list_any (is_waited_by k) (requests_at (s.handlers h)) ≡ list_any (machine_failures.is_waited_by k) (machine_failures.requests_at (w.handlers h)) =
    ap (list_any (is_waited_by k)) (standing n (w.handlers h) (s.handlers h) (e.handlers h)) ∙ waited n k (machine_failures.requests_at (w.handlers h)) in
    rw (e.rights, same) (ended n _ _ _ (chosen n (k == h) _ _ _ _ (fallen_alike n why _ _ (e.handlers k)) (told_alike n _ _ _ (e.handlers k))))

pub fail_alike : (n : Numbering) (h : ℕ) (why : Cause) (w : machine.World) (s : State) → IsHalfOf n w s → IsHalfOf n (machine_failures.fail h why w) (fail h why s)
fail_alike n h why w s e = record { count = e.count; rights = ap (release_all h) e.rights; handlers = λ k. after_failure n h k why w s e }
