-- Stacks that stay as they are, or of which nothing is left.
use Rattle.std.proofs.Common.{ℕ, ◌≡◌, ◌⊎◌, ◌==◌, ◌&&◌, Bool, true, false, List, [], ◌∷◌, ◌++◌, Option, Some, None, refl, sym, ap, ◌∙◌, inl, inr}
use Rattle.std.proofs.lemmas.Bool.{eqb-true}
use Rattle.std.specs.Prelude.{if◌then◌else◌}
use Rattle.std.specs.List.{list_any}
use Rattle.sc_lockpass.specs.Rights.{is_among, is_handler}
use Rattle.sc_lockpass.specs.Passing.{Passed}
use Rattle.sc_lockpass.specs.wait_conditions.Reservations.{ends_session}
use Rattle.sc_lockpass.specs.declared.wait_conditions.session.Release.{Release}
use Rattle.sc_lockpass.specs.declared.wait_conditions.session.Release.TheVariants as release_at
use Rattle.sc_model.specs.declared.cause.Cause.{Cause}
use Rattle.sc_model.specs.Environments.{separate_formals}
use Rattle.sc_model.specs.Handlers.{Request, Answer, Frame, Handler, World, new_handler, put}
use Rattle.sc_model.specs.Sessions.{session_ended, release}
use Rattle.sc_model.specs.Answers.{answered, answer_to, return_rights, finish}
use Rattle.sc_model.specs.Failures.{requests_at, is_waited_by, told, fallen, fails_with}
use Rattle.sc_model.specs.Asking.{passes, placed, send, with_handler}
use Rattle.sc_request.specs.Asked.{handlers_of}
use Rattle.sc_machine_laws.specs.settlements.Entries.{HasStarted}

no : {A : Type 0} → true ≡ false → A
no e = cc

-- The routine has started, or newly reserved nothing, or its entry is this one.
abbrev pub Recalls : List ℕ → Frame → Type 0
Recalls e f = HasStarted f.tasks ⊎ ((f.reserved ≡ []) ⊎ (e ≡ handlers_of (separate_formals f.environment)))

abbrev pub AllRecall : List ℕ → List Frame → Type 0
AllRecall e [] = Unit {0}
AllRecall e (f ∷ below) = Recalls e f × AllRecall e below

-- ---- stacks that stay

-- a stack stays, or nothing is left of it
abbrev pub IsLeft : List Frame → List Frame → Type 0
IsLeft xs ys = (ys ≡ xs) ⊎ (ys ≡ [])

abbrev pub Others : ℕ → World → World → Type 0
Others h w v = (k : ℕ) → (k == h) ≡ false → IsLeft (w.handlers k).stack (v.handlers k).stack

-- all of them stay
abbrev pub AreAlike : World → World → Type 0
AreAlike v u = (k : ℕ) → (u.handlers k).stack ≡ (v.handlers k).stack

pub then_left : (xs ys zs : List Frame) → IsLeft xs ys → zs ≡ ys → IsLeft xs zs
then_left xs ys zs (inl e) i = inl (i ∙ e)
then_left xs ys zs (inr e) i = inr (i ∙ e)

pub put_alike : (j : ℕ) (x : Handler) (v : World) → x.stack ≡ (v.handlers j).stack → AreAlike v (put j x v)
put_alike j x v e k = by (k == j) refl
  where
    by : (b : Bool) → (k == j) ≡ b → (if b then x else v.handlers k).stack ≡ (v.handlers k).stack
    by true i = e ∙ sym (ap (λ (m : ℕ). (v.handlers m).stack) (eqb-true k j i))
    by false i = refl

ended_stack : (b : Bool) (x : Handler) → (session_ended b x).stack ≡ x.stack
ended_stack true x = refl
ended_stack false x = refl

pub release_alike : (how : Release) (ks : List ℕ) (v : World) → AreAlike v (release how ks v)
release_alike how ks v k = ended_stack (ends_session how && is_among k ks) (v.handlers k)

rights_alike : (p : Option Passed) (v : World) → AreAlike v (return_rights p v)
rights_alike None v k = refl
rights_alike (Some p) v k = refl

answer_alike : (b : Bool) (p : Option ℕ) (a : Answer) (v : World) → AreAlike v (answer_to b p a v)
answer_alike true (Some p) a v k = put_alike p (answered a (v.handlers p)) v refl k
answer_alike true None a v k = refl
answer_alike false p a v k = refl

pub finish_alike : (r : Request) (a : Answer) (v : World) → AreAlike v (finish r a v)
finish_alike r a v k = answer_alike r.is_waited r.poster a (return_rights r.passed v) k ∙ rights_alike r.passed v k

pub passes_alike : (b : Bool) (h j : ℕ) (v : World) → AreAlike v (passes b h j v)
passes_alike true h j v k = refl
passes_alike false h j v k = refl

placed_stack : (b : Bool) (r : Request) (x : Handler) → (placed b r x).stack ≡ x.stack
placed_stack true r x = refl
placed_stack false r x = refl

pub send_alike : (b : Bool) (j : ℕ) (r : Request) (v : World) → AreAlike v (send b j r v)
send_alike b j r v k = put_alike j (placed b r (v.handlers j)) v (placed_stack b r (v.handlers j)) k

told_stack : (b : Bool) (x : Handler) → (told b x).stack ≡ x.stack
told_stack true x = refl
told_stack false x = refl

abbrev pub dropped_if : Bool → List Frame → List Frame
dropped_if true st = []
dropped_if false st = st

pub fallen_stack : (h : ℕ) (why : Cause) (taken : List Request) (v : World) (k : ℕ) →
    ((fails_with h why taken v).handlers k).stack ≡ dropped_if (k == h) (v.handlers k).stack
fallen_stack h why taken v k =
    let hears : Bool = list_any (is_waited_by k) (taken ++ requests_at (v.handlers h)) in
    ended_stack (ends_session release_at.Failure && is_handler h (v.rights.queue k)) (if k == h then fallen why (v.handlers k) else told hears (v.handlers k))
    ∙ by hears (k == h)
  where
    by : (hears b : Bool) → (if b then fallen why (v.handlers k) else told hears (v.handlers k)).stack ≡ dropped_if b (v.handlers k).stack
    by hears true = refl
    by hears false = told_stack hears (v.handlers k)

pub others_alike : (h : ℕ) (w v u : World) → Others h w v → AreAlike v u → Others h w u
others_alike h w v u o a k n = then_left (w.handlers k).stack (v.handlers k).stack (u.handlers k).stack (o k n) (a k)

pub others_put : (h : ℕ) (w v : World) (x : Handler) → Others h w v → Others h w (put h x v)
others_put h w v x o k n = by (k == h) n
  where
    by : (b : Bool) → b ≡ false → IsLeft (w.handlers k).stack (if b then x else v.handlers k).stack
    by true e = no e
    by false e = o k n

-- a handler that is new has no frames
pub others_new : (h j : ℕ) (w v : World) → Others h w v → Others h w (with_handler j h v)
others_new h j w v o k n = by (k == j)
  where
    by : (b : Bool) → IsLeft (w.handlers k).stack (if b then new_handler else v.handlers k).stack
    by true = inr refl
    by false = o k n

pub others_stay : (h : ℕ) (w : World) → Others h w w
others_stay h w k n = inl refl
