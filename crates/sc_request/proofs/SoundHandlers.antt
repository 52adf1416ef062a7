-- What becomes of one handler of a sound state, and of what it has reserved, is sound.
use Rattle.std.proofs.Common.{◌≡◌, ◌+◌, ◌<◌, ◌≤◌, ◌==◌, ◌&&◌, ◌++◌, ℕ, Bool, true, false, List, [], ◌∷◌, Option, Some, None, refl, sym, ap, ◌∙◌, arith}
use Rattle.std.proofs.lemmas.Bool.{and_parts, ltb-true, lt-ltb, ne_eqb}
use Rattle.std.specs.Prelude.{nat_lt, if◌then◌else◌}
use Rattle.std.specs.List.{All, list_all}
use Rattle.std.proofs.lemmas.List.Elements.{All-nil, All-cons, All-head, All-tail}
use Rattle.sc_lockpass.specs.Rights as maps
use Rattle.sc_lockpass.specs.Rights.{Rights, is_among, lost_by, release_all}
use Rattle.sc_lockpass.specs.Passing.{Passed, moved, pass, listed, passed_by, returned, give_back}
use Rattle.sc_lockpass.specs.declared.wait_conditions.mark.Marked.{Marked}
use Rattle.sc_model.specs.declared.cause.Cause.{Cause}
use Rattle.sc_handler.specs.Handlers.{Posted, Answer, SupplierFailed, HandlerStage, Idle, Runs, HasMade, Reserves, Awaits, service, Handler, new_handler}
use Rattle.sc_handler.specs.Changes.{session_ended, placed, answered, to_list, told, fallen, takes_next, takes_callback, takes, takes_answer, counted_refusal}
use Rattle.sc_request.specs.Sessions.{given_to}
use Rattle.sc_request.specs.Sound.{IsHeldBelow, IsListedBelow, IsPlaced, ArePlaced, IsServed, awaits_placed, may_take_over, IsSoundHandler}

-- ---- rights

lost_none : (h : ℕ) (o : Option ℕ) → o ≡ None → lost_by h o ≡ None
lost_none h None e = refl
lost_none h (Some k) e = cc

moved_none : (h k : ℕ) (o : Option ℕ) → o ≡ None → moved h k o ≡ None
moved_none h k None e = refl
moved_none h k (Some j) e = cc

listed_none : (h : ℕ) (o : Option ℕ) → o ≡ None → listed h o ≡ None
listed_none h None e = refl
listed_none h (Some j) e = cc

returned_none : (p : Option (Option ℕ)) (o : Option ℕ) → p ≡ None → o ≡ None → returned p o ≡ None
returned_none None o e f = f
returned_none (Some q) o e f = cc

none_either : (b : Bool) (o : Option ℕ) → o ≡ None → (if b then None else o) ≡ None
none_either true o e = refl
none_either false o e = e

apart_from : (h k : ℕ) → h < 512 → 512 ≤ k → (k == h) ≡ false
apart_from h k own far = ne_eqb k h (λ e. omega (arith, own, far, e))

far_from : (k : ℕ) (ks : List ℕ) → 512 ≤ k → All (λ j. j < 512) ks → is_among k ks ≡ false
far_from k [] far all = refl
far_from k (j ∷ ks) far all =
    let l = All-head (λ i. i < 512) j ks all in
    rw (ne_eqb j k (λ e. omega (arith, l, far, e))) (far_from k ks far (All-tail (λ i. i < 512) j ks all))

pub reserve_below : (h : ℕ) (ks : List ℕ) (r : Rights) → All (λ j. j < 512) ks → IsHeldBelow r → IsHeldBelow (maps.reserve h ks r)
reserve_below h ks r all below = record { queue = λ k far. rw (far_from k ks far all) (below.queue k far); top = below.top }

pub release_below : (ks : List ℕ) (r : Rights) → IsHeldBelow r → IsHeldBelow (maps.release ks r)
release_below ks r below = record { queue = λ k far. none_either (is_among k ks) (r.queue k) (below.queue k far); top = below.top }

pub release_all_below : (h : ℕ) (r : Rights) → IsHeldBelow r → IsHeldBelow (release_all h r)
release_all_below h r below = record {
  queue = λ k far. lost_none h (r.queue k) (below.queue k far);
  top = λ k far. lost_none h (r.top k) (below.top k far);
}

pub pass_below : (h k : ℕ) (r : Rights) → h < 512 → IsHeldBelow r → IsHeldBelow (pass h k r)
pass_below h k r own below = record {
  queue = λ j far. moved_none h k (r.queue j) (below.queue j far);
  top = λ j far. rw (apart_from h j own far) (moved_none h k (r.top j) (below.top j far));
}

pub listed_below : (h : ℕ) (r : Rights) → h < 512 → IsHeldBelow r → IsListedBelow (passed_by h r)
listed_below h r own below = record {
  queue = λ j far. listed_none h (r.queue j) (below.queue j far);
  top = λ j far. rw (apart_from h j own far) (listed_none h (r.top j) (below.top j far));
}

pub give_back_below : (p : Passed) (r : Rights) → IsListedBelow p → IsHeldBelow r → IsHeldBelow (give_back p r)
give_back_below p r is below = record {
  queue = λ k far. returned_none (p.queue k) (r.queue k) (is.queue k far) (below.queue k far);
  top = λ k far. returned_none (p.top k) (r.top k) (is.top k far) (below.top k far);
}

pub given_below : (k : ℕ) (q t : Option ℕ) (r : Rights) → k < 512 → IsHeldBelow r → IsHeldBelow (record { queue = given_to k q r.queue; top = given_to k t r.top })
given_below k q t r own below = record {
  queue = λ j far. rw (apart_from k j own far) (below.queue j far);
  top = λ j far. rw (apart_from k j own far) (below.top j far);
}

-- ---- one handler

both : (a b : Bool) → a ≡ true → b ≡ true → (a && b) ≡ true
both true true e f = refl
both true false e f = cc
both false b e f = cc

-- a handler that there is there still is, where there are more
below_more : (m m' : ℕ) (ks : List ℕ) → m ≤ m' → list_all (λ k. nat_lt k m) ks ≡ true → list_all (λ k. nat_lt k m') ks ≡ true
below_more m m' [] le e = refl
below_more m m' (k ∷ ks) le e =
    let parts = and_parts (nat_lt k m) (list_all (λ j. nat_lt j m) ks) e in
    let l = ltb-true k m parts.0 in
    both (nat_lt k m') (list_all (λ j. nat_lt j m') ks) (lt-ltb k m' (omega (arith, l, le))) (below_more m m' ks le parts.1)

pub more : (c c' n n' m m' : ℕ) (x : Handler) → c ≤ c' → n ≤ n' → m ≤ m' → IsSoundHandler c n m x → IsSoundHandler c' n' m' x
more c c' n n' m m' x lc ln lm s =
    let sessions = s.sessions in
    let refused = s.refused in
    let serves = s.serves in
    record {
      stage = s.stage;
      queue = s.queue;
      callback = s.callback;
      services = s.services;
      entry = below_more m m' x.entry lm s.entry;
      sessions = omega (arith, sessions, lc);
      refused = omega (arith, refused, lc);
      serves = omega (arith, serves, ln);
    }

pub new_is : (c n m : ℕ) → IsSoundHandler c n m new_handler
new_is c n m = record { stage = refl; queue = All-nil IsPlaced; callback = All-nil IsPlaced; services = All-nil IsServed; entry = refl; sessions = omega arith; refused = omega arith; serves = omega arith }

pub staged : (c n m : ℕ) (x : Handler) (st : HandlerStage) → awaits_placed st ≡ true → IsSoundHandler c n m x → IsSoundHandler c n m (record x { stage = st })
staged c n m x st e s = record {
  stage = e;
  queue = s.queue;
  callback = s.callback;
  services = s.services;
  entry = s.entry;
  sessions = s.sessions;
  refused = s.refused;
  serves = s.serves;
}

pub entered : (c n m : ℕ) (x : Handler) (ks : List ℕ) (mark : List Marked) → list_all (λ k. nat_lt k m) ks ≡ true → IsSoundHandler c n m x →
    IsSoundHandler c n m (record x { stage = Reserves ks mark; entry = ks })
entered c n m x ks mark e s = record {
  stage = refl;
  queue = s.queue;
  callback = s.callback;
  services = s.services;
  entry = e;
  sessions = s.sessions;
  refused = s.refused;
  serves = s.serves;
}

pub answer_taken : (c n m : ℕ) (x : Handler) → IsSoundHandler c n m x → IsSoundHandler c n m (takes_answer x)
answer_taken c n m x s = record {
  stage = refl;
  queue = s.queue;
  callback = s.callback;
  services = s.services;
  entry = s.entry;
  sessions = s.sessions;
  refused = s.refused;
  serves = s.serves;
}

pub heard_by : (c n m : ℕ) (x : Handler) (a : Answer) → IsSoundHandler c n m x → IsSoundHandler c n m (answered a x)
heard_by c n m x a s = record {
  stage = s.stage;
  queue = s.queue;
  callback = s.callback;
  services = s.services;
  entry = s.entry;
  sessions = s.sessions;
  refused = s.refused;
  serves = s.serves;
}

pub told_of : (c n m : ℕ) (b : Bool) (x : Handler) → IsSoundHandler c n m x → IsSoundHandler c n m (told b x)
told_of c n m true x s = heard_by c n m x SupplierFailed s
told_of c n m false x s = s

pub fell : (c n m : ℕ) (why : Cause) (x : Handler) → IsSoundHandler c n m x → IsSoundHandler c n m (fallen why x)
fell c n m why x s =
    record { stage = refl; queue = All-nil IsPlaced; callback = All-nil IsPlaced; services = All-nil IsServed; entry = refl; sessions = s.sessions; refused = s.refused; serves = omega arith }

-- a session may have ended
pub ended : (c n m : ℕ) (b : Bool) (x : Handler) → IsSoundHandler c n m x → IsSoundHandler (c + 1) n m (session_ended b x)
ended c n m false x s = more c (c + 1) n n m m x (omega arith) (omega arith) (omega arith) s
ended c n m true x s =
    let sessions = s.sessions in
    let refused = s.refused in
    record {
      stage = s.stage;
      queue = s.queue;
      callback = s.callback;
      services = s.services;
      entry = s.entry;
      sessions = omega (arith, sessions);
      refused = omega (arith, refused);
      serves = s.serves;
    }

-- a refusal is counted, and a session may have ended
ended_counted : (c n m : ℕ) (b w : Bool) (x : Handler) → IsSoundHandler c n m x → IsSoundHandler (c + 1) n m (session_ended b (counted_refusal w x))
ended_counted c n m b true x s = ended c n m b x s
ended_counted c n m true false x s =
    let sessions = s.sessions in
    let refused = s.refused in
    record {
      stage = s.stage;
      queue = s.queue;
      callback = s.callback;
      services = s.services;
      entry = s.entry;
      sessions = omega (arith, sessions);
      refused = omega (arith, refused);
      serves = s.serves;
    }
ended_counted c n m false false x s =
    let sessions = s.sessions in
    let refused = s.refused in
    record {
      stage = s.stage;
      queue = s.queue;
      callback = s.callback;
      services = s.services;
      entry = s.entry;
      sessions = omega (arith, sessions);
      refused = omega (arith, refused);
      serves = s.serves;
    }

pub ended_either : (c n m : ℕ) (b w own : Bool) (x y : Handler) → IsSoundHandler c n m x → IsSoundHandler c n m y →
    IsSoundHandler (c + 1) n m (session_ended b (if own then counted_refusal w x else y))
ended_either c n m b w true x y e f = ended_counted c n m b w x e
ended_either c n m b w false x y e f = ended c n m b y f

with_last : (ps : List Posted) (p : Posted) → ArePlaced ps → IsPlaced p → ArePlaced (ps ++ p ∷ [])
with_last [] p all is = All-cons IsPlaced p [] is (All-nil IsPlaced)
with_last (q ∷ ps) p all is = All-cons IsPlaced q (ps ++ p ∷ []) (All-head IsPlaced q ps all) (with_last ps p (All-tail IsPlaced q ps all) is)

pub placed_is : (c n m : ℕ) (b : Bool) (p : Posted) (x : Handler) → IsPlaced p → IsSoundHandler c n m x → IsSoundHandler c n m (placed b p x)
placed_is c n m true p x is s = record {
  stage = s.stage;
  queue = s.queue;
  callback = All-cons IsPlaced p [] is (All-nil IsPlaced);
  services = s.services;
  entry = s.entry;
  sessions = s.sessions;
  refused = s.refused;
  serves = s.serves;
}
placed_is c n m false p x is s = record {
  stage = s.stage;
  queue = with_last x.queue p s.queue is;
  callback = s.callback;
  services = s.services;
  entry = s.entry;
  sessions = s.sessions;
  refused = s.refused;
  serves = s.serves;
}

-- ---- the next request is taken

next_taken : (c n m : ℕ) (x : Handler) (ps : List Posted) → ArePlaced ps → may_take_over x.stage ≡ true → IsSoundHandler c n m x →
    IsSoundHandler c (n + 1) m (takes_next ps x)
next_taken c n m x [] all e s = more c c n (n + 1) m m x (omega arith) (omega arith) (omega arith) s
next_taken c n m x (p ∷ ps) all e s =
    let serves = s.serves in
    record {
      stage = refl;
      queue = All-tail IsPlaced p ps all;
      callback = s.callback;
      services = All-cons IsServed (service p x.stage) x.services (record { placed = All-head IsPlaced p ps all; over = e }) s.services;
      entry = s.entry;
      sessions = s.sessions;
      refused = s.refused;
      serves = omega (arith, serves);
    }

callback_taken : (c n m : ℕ) (x : Handler) (o : Option Posted) → ArePlaced (to_list o) → may_take_over x.stage ≡ true → IsSoundHandler c n m x →
    IsSoundHandler c (n + 1) m (takes_callback o x)
callback_taken c n m x None all e s = more c c n (n + 1) m m x (omega arith) (omega arith) (omega arith) s
callback_taken c n m x (Some p) all e s =
    let serves = s.serves in
    record {
      stage = refl;
      queue = s.queue;
      callback = All-nil IsPlaced;
      services = All-cons IsServed (service p x.stage) x.services (record { placed = All-head IsPlaced p [] all; over = e }) s.services;
      entry = s.entry;
      sessions = s.sessions;
      refused = s.refused;
      serves = omega (arith, serves);
    }

pub taken : (c n m : ℕ) (x : Handler) (st : HandlerStage) → x.stage ≡ st → IsSoundHandler c n m x → IsSoundHandler c (n + 1) m (takes st x)
taken c n m x Idle e s = next_taken c n m x x.queue s.queue (ap may_take_over e) s
taken c n m x Runs e s = more c c n (n + 1) m m x (omega arith) (omega arith) (omega arith) s
taken c n m x (HasMade k) e s = more c c n (n + 1) m m x (omega arith) (omega arith) (omega arith) s
taken c n m x (Reserves ks mark) e s = more c c n (n + 1) m m x (omega arith) (omega arith) (omega arith) s
taken c n m x (Awaits k b) e s = callback_taken c n m x x.callback s.callback (ap may_take_over e ∙ (sym (ap awaits_placed e) ∙ s.stage)) s
