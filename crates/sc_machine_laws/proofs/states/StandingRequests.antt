-- What stands at a handler, and what comes to stand there with what is put, answered or failed.
use Rattle.std.proofs.Common.{◌≡◌, ◌⊎◌, ⊎_elim, inl, inr, ℕ, List, [], ◌∷◌, ◌++◌, Option, Some, None, Bool, true, false, ◌==◌, refl, sym, subst}
use Rattle.std.proofs.lemmas.Bool.{eqb-true}
use Rattle.std.specs.Prelude.{if◌then◌else◌, Contains}
use Rattle.std.specs.List.{flat_map}
use Rattle.sc_lockpass.specs.Passing.{Passed}
use Rattle.sc_lockpass.specs.declared.wait_conditions.session.Release.{Release}
use Rattle.sc_model.specs.declared.cause.Cause.{Cause}
use Rattle.sc_model.specs.Handlers.{Request, Answer, Frame, Handler, World, put, with_stack}
use Rattle.sc_model.specs.Answers.{finish}
use Rattle.sc_model.specs.Failures.{fail, fails_with}
use Rattle.sc_model.specs.Sessions.{session_ended, release}
use Rattle.sc_model.specs.Answers.{answered, answer_to, return_rights}
use Rattle.sc_model.specs.Failures.{request_of, to_list, requests_at, told, fallen}
use Rattle.sc_machine_laws.proofs.states.MachineFrames.{contains_first, contains_later, contains_none, contains_cases}

-- ---- what stands in a list

abbrev pub Has : Request → List Request → Type 0
Has r [] = ⊥
Has r (q ∷ qs) = (q ≡ r) ⊎ Has r qs

has_from : (r : Request) (qs : List Request) → Contains qs r → Has r qs
has_from r [] i = contains_none r i
has_from r (q ∷ qs) i = ⊎_elim (λ e. inl e) (λ j. inr (has_from r qs j)) (contains_cases q qs r i)

has_to : (r : Request) (qs : List Request) → Has r qs → Contains qs r
has_to r [] i = absurd i
has_to r (q ∷ qs) (inl e) = subst (Contains (q ∷ qs)) e (contains_first q qs)
has_to r (q ∷ qs) (inr i) = contains_later q qs r (has_to r qs i)

pub has_cases : (r : Request) (qs ps : List Request) → Has r (qs ++ ps) → Has r qs ⊎ Has r ps
has_cases r [] ps i = inr i
has_cases r (q ∷ qs) ps (inl e) = inl (inl e)
has_cases r (q ∷ qs) ps (inr i) = ⊎_elim (λ a. inl (inr a)) (λ b. inr b) (has_cases r qs ps i)

has_left : (r : Request) (qs ps : List Request) → Has r qs → Has r (qs ++ ps)
has_left r [] ps i = absurd i
has_left r (q ∷ qs) ps (inl e) = inl e
has_left r (q ∷ qs) ps (inr i) = inr (has_left r qs ps i)

pub has_right : (r : Request) (qs ps : List Request) → Has r ps → Has r (qs ++ ps)
has_right r [] ps i = i
has_right r (q ∷ qs) ps i = inr (has_right r qs ps i)

-- ---- what stands at a handler

abbrev pub begun_in : List Frame → List Request
begun_in stack = flat_map (λ (f : Frame). request_of f.origin) stack

abbrev pub StandsAt : Request → Handler → Type 0
StandsAt r x = Has r x.queue ⊎ (Has r (to_list x.callback) ⊎ Has r (begun_in x.stack))

pub stands_from : (r : Request) (x : Handler) → Contains (requests_at x) r → StandsAt r x
stands_from r x i = ⊎_elim
    (λ a. ⊎_elim (λ b. inl b) (λ b. inr (inl b)) (has_cases r x.queue (to_list x.callback) a))
    (λ b. inr (inr b))
    (has_cases r (x.queue ++ to_list x.callback) (begun_in x.stack) (has_from r (requests_at x) i))

pub stands_to : (r : Request) (x : Handler) → StandsAt r x → Contains (requests_at x) r
stands_to r x i = has_to r (requests_at x) (⊎_elim
    (λ a. has_left r (x.queue ++ to_list x.callback) (begun_in x.stack) (has_left r x.queue (to_list x.callback) a))
    (λ o. ⊎_elim
    (λ a. has_left r (x.queue ++ to_list x.callback) (begun_in x.stack) (has_right r x.queue (to_list x.callback) a))
    (λ b. has_right r (x.queue ++ to_list x.callback) (begun_in x.stack) b)
    o)
    i)

-- ---- what comes to stand there is new, as N says

pub record Brings (N : ℕ → Request → Type 0) (w v : World) : Type 0 where
  pub brings : (k : ℕ) (r : Request) → StandsAt r (v.handlers k) → StandsAt r (w.handlers k) ⊎ N k r

abbrev pub BringsAt : (ℕ → Request → Type 0) → ℕ → Handler → Handler → Type 0
BringsAt N k x y = (r : Request) → StandsAt r y → StandsAt r x ⊎ N k r

pub stays : (N : ℕ → Request → Type 0) (w : World) → Brings N w w
stays N w = record { brings = λ k r i. inl i }

pub brings_trans : {N : ℕ → Request → Type 0} {u v w : World} → Brings N u v → Brings N v w → Brings N u w
brings_trans p q = record { brings = λ k r i. ⊎_elim (λ a. p.brings k r a) (λ b. inr b) (q.brings k r i) }

pub put_brings : (N : ℕ → Request → Type 0) (h : ℕ) (x : Handler) (w : World) → BringsAt N h (w.handlers h) x → Brings N w
    (put h x w)
put_brings N h x w new = record { brings = λ k r i. by k r (k == h) refl i }
  where
    by : (k : ℕ) (r : Request) (b : Bool) → (k == h) ≡ b → StandsAt r (if b then x else w.handlers k) → StandsAt r
        (w.handlers k) ⊎ N k r
    by k r true e j = let kh = eqb-true k h e in subst (λ y. StandsAt r (w.handlers y) ⊎ N y r) (sym kh) (new r j)
    by k r false e j = inl j

-- the frames of a stack stand at the handler, or are new
abbrev pub Stacks : (ℕ → Request → Type 0) → ℕ → World → List Frame → Type 0
Stacks N h w stack = (r : Request) → Has r (begun_in stack) → StandsAt r (w.handlers h) ⊎ N h r

pub stack_brings : (N : ℕ → Request → Type 0) (h : ℕ) (stack : List Frame) (w : World) → Stacks N h w stack → Brings N w
    (with_stack h stack w)
stack_brings N h stack w ok = put_brings N h (record (w.handlers h) { stack = stack }) w
    (λ r i. ⊎_elim (λ a. inl (inl a)) (λ o. ⊎_elim (λ a. inl (inr (inl a))) (λ b. ok r b) o) i)

session_at : (N : ℕ → Request → Type 0) (k : ℕ) (b : Bool) (x : Handler) → BringsAt N k x (session_ended b x)
session_at N k false x r i = inl i
session_at N k true x r i = inl i

pub release_brings : (N : ℕ → Request → Type 0) (how : Release) (ks : List ℕ) (w : World) → Brings N w (release how ks w)
release_brings N how ks w = record { brings = λ k. session_at N k _ (w.handlers k) }

answered_at : (N : ℕ → Request → Type 0) (k : ℕ) (a : Answer) (x : Handler) → BringsAt N k x (answered a x)
answered_at N k a x r i = inl i

returned_brings : (N : ℕ → Request → Type 0) (p : Option Passed) (w : World) → Brings N w (return_rights p w)
returned_brings N None w = stays N w
returned_brings N (Some p) w = record { brings = λ k r i. inl i }

answer_brings : (N : ℕ → Request → Type 0) (b : Bool) (p : Option ℕ) (a : Answer) (w : World) → Brings N w
    (answer_to b p a w)
answer_brings N true (Some p) a w = put_brings N p (answered a (w.handlers p)) w (answered_at N p a (w.handlers p))
answer_brings N true None a w = stays N w
answer_brings N false p a w = stays N w

pub finish_brings : (N : ℕ → Request → Type 0) (r : Request) (a : Answer) (w : World) → Brings N w (finish r a w)
finish_brings N r a w = brings_trans (returned_brings N r.passed w)
    (answer_brings N r.is_waited r.poster a (return_rights r.passed w))

-- ---- failure

fails_at : (N : ℕ → Request → Type 0) (k : ℕ) (b c d : Bool) (why : Cause) (x : Handler) → BringsAt N k x
    (session_ended b (if c then fallen why x else told d x))
fails_at N k true true d why x r i = absurd (⊎_elim (λ a. a) (λ o. ⊎_elim (λ a. a) (λ a. a) o) i)
fails_at N k false true d why x r i = absurd (⊎_elim (λ a. a) (λ o. ⊎_elim (λ a. a) (λ a. a) o) i)
fails_at N k true false true why x r i = inl i
fails_at N k false false true why x r i = inl i
fails_at N k true false false why x r i = inl i
fails_at N k false false false why x r i = inl i

pub fails_brings : (N : ℕ → Request → Type 0) (h : ℕ) (why : Cause) (taken : List Request) (w : World) → Brings N w
    (fails_with h why taken w)
fails_brings N h why taken w = record { brings = λ k. fails_at N k _ (k == h) _ why (w.handlers k) }

pub fail_brings : (N : ℕ → Request → Type 0) (h : ℕ) (why : Cause) (w : World) → Brings N w (fail h why w)
fail_brings N h why w = fails_brings N h why [] w

pub if_brings : (N : ℕ → Request → Type 0) (w : World) (b : Bool) (x y : World) → (b ≡ true → Brings N w x)
    → (b ≡ false → Brings N w y) → Brings N w (if b then x else y)
if_brings N w true x y p q = p refl
if_brings N w false x y p q = q refl
