-- What is so of each handler of the machine in every reached state: its frames run on it, the handlers of its values exist, and its blocks are left
-- in order.
use Rattle.std.proofs.Common.{arith, ◌≡◌, ◌≢◌, ℕ, suc, ◌+◌, ◌<◌, ◌==◌, ◌&&◌, Bool, true, false, List, [], ◌∷◌, ◌++◌, Option, Some, None, length, refl, sym, ap, ◌∙◌, subst}
use Rattle.std.specs.Prelude.{if◌then◌else◌}
use Rattle.std.specs.List.{list_any}
use Rattle.std.proofs.lemmas.Bool.{eqb-true, eqb-false}
use Rattle.sc_tree.specs.Plain.{Expr, Clause}
use Rattle.sc_lockpass.specs.Rights.{is_among}
use Rattle.sc_lockpass.specs.Rights as rights
use Rattle.sc_lockpass.specs.wait_conditions.Reservations.{ends_session}
use Rattle.sc_lockpass.specs.declared.wait_conditions.session.Release.{Release}
use Rattle.sc_lockpass.specs.declared.wait_conditions.session.Release.TheVariants as release_at
use Rattle.sc_model.specs.declared.cause.Cause.{Cause}
use Rattle.sc_model.specs.Environments.{Binding, separate_formals}
use Rattle.sc_model.specs.Olds.{olds_of_clauses, olds_in}
use Rattle.sc_model.specs.Routines as routines
use Rattle.sc_model.specs.Tasks.{requires, keeps_olds, tasks_of, Task, Do, In, Declare, Forget, ensures}
use Rattle.sc_model.specs.Handlers.{Request, Answer, Reply, Failed, Refused, Stage, Runs, Reserves, ReservesBlock, InCall, Awaits, Frame, Handler, World, new_handler, put, with_stack}
use Rattle.sc_model.specs.Sessions as sessions
use Rattle.sc_model.specs.Sessions.{session_ended}
use Rattle.sc_model.specs.Answers.{heard, answered}
use Rattle.sc_model.specs.Failures.{told, fallen, is_waited_by, requests_at, fails_with, fail}
use Rattle.sc_machine_laws.specs.states.Stands.{names_in}
use Rattle.sc_machine_laws.proofs.states.links.Points.{IsOpened, Formals, AreKept, IsDeep, Known, Every, OperandKnown, BindingKnown, ObjectKnown, IfSome, leaves, IsCalm, IsPhased}
use Rattle.sc_machine_laws.proofs.states.links.KnownValues.{every_append}
use Rattle.sc_machine_laws.proofs.states.links.LightTasks.{AreLight, light_leaves, light_phased}
use Rattle.sc_machine_laws.proofs.states.links.KeptFormals.{light_deep}

-- the blocks that are open are to be left, and a block that is about to reserve too
abbrev pub IsStageSound : Stage → Frame → Type 0
IsStageSound ReservesBlock f = (leaves f.tasks ≡ suc (length f.blocks)) × IsOpened f.tasks
IsStageSound Reserves f = (leaves f.tasks ≡ length f.blocks) × (f.blocks ≡ []) × (f.reserved ≡ [])
IsStageSound Runs f = leaves f.tasks ≡ length f.blocks
IsStageSound (InCall gives) f = leaves f.tasks ≡ length f.blocks
IsStageSound (Awaits k gives b) f = leaves f.tasks ≡ length f.blocks

-- a frame's formals, and the names of its blocks
abbrev pub formals_of : Frame → Formals
formals_of f =
    record { count = length f.routine.text.formals; values = separate_formals f.environment; names = names_in f.tasks f.environment }

-- those that a list has itself
pub own_kept : (c : Formals) (bs : List Binding) (ts : List Task) → AreKept c bs ts
    → AreKept (record { count = c.count; values = separate_formals bs; names = names_in ts bs }) bs ts
own_kept c bs ts k = record { same = refl; room = k.room; rest = k.rest; deep = k.deep; named = λ i. refl; tidy = k.tidy }

pub record IsFrameSound (K : ℕ → Type 0) (h : ℕ) (f : Frame) : Type 0 where
  pub current : f.current.handler ≡ h
  pub environment : Every (BindingKnown K) f.environment
  pub result : IfSome (OperandKnown K) f.result
  pub olds : Every (OperandKnown K) f.olds
  pub values : Every (OperandKnown K) f.values
  pub tasks : IsPhased f.tasks
  pub staged : IsStageSound f.stage f
  pub formals : AreKept (formals_of f) f.environment f.tasks

pub record IsRequestSound (K : ℕ → Type 0) (h : ℕ) (q : Request) : Type 0 where
  pub target : q.target.handler ≡ h
  pub actuals : Every (Known K) q.actuals

abbrev pub IsAnswerSound : (ℕ → Type 0) → Answer → Type 0
IsAnswerSound K (Reply v) = IfSome (Known K) v
IsAnswerSound K Failed = Unit {0}
IsAnswerSound K Refused = Unit {0}

pub record IsHandlerSound (K : ℕ → Type 0) (h : ℕ) (x : Handler) : Type 0 where
  pub objects : Every (ObjectKnown K) x.objects
  pub stack : Every (IsFrameSound K h) x.stack
  pub queue : Every (IsRequestSound K h) x.queue
  pub callback : IfSome (IsRequestSound K h) x.callback
  pub answer : IfSome (IsAnswerSound K) x.answer

abbrev pub Exists : World → ℕ → Type 0
Exists m k = k < m.count

abbrev pub IsSound : World → Type 0
IsSound m = (k : ℕ) → IsHandlerSound (λ j. j < m.count) k (m.handlers k)

-- ---- changes of one handler

pub new_sound : (K : ℕ → Type 0) (h : ℕ) → IsHandlerSound K h new_handler
new_sound K h = record { objects = tt; stack = tt; queue = tt; callback = tt; answer = tt }

pub put_sound : (h : ℕ) (x : Handler) (m : World) → ((k : ℕ) → k ≢ h → IsHandlerSound (λ j. j < m.count) k (m.handlers k))
    → IsHandlerSound (λ j. j < m.count) h x → IsSound (put h x m)
put_sound h x m others is k = by (k == h) refl
  where
    by : (b : Bool) → (k == h) ≡ b → IsHandlerSound (λ j. j < m.count) k (if b then x else m.handlers k)
    by true e = subst (λ i. IsHandlerSound (λ j. j < m.count) i x) (sym (eqb-true k h e)) is
    by false e = others k (eqb-false k h e)

-- all but the stack of h is sound
pub record IsSoundBut (h : ℕ) (m : World) : Type 0 where
  pub others : (k : ℕ) → k ≢ h → IsHandlerSound (λ j. j < m.count) k (m.handlers k)
  pub objects : Every (ObjectKnown (λ j. j < m.count)) (m.handlers h).objects
  pub queue : Every (IsRequestSound (λ j. j < m.count) h) (m.handlers h).queue
  pub callback : IfSome (IsRequestSound (λ j. j < m.count) h) (m.handlers h).callback
  pub answer : IfSome (IsAnswerSound (λ j. j < m.count)) (m.handlers h).answer

pub sound_but : (h : ℕ) (m : World) → IsSound m → IsSoundBut h m
sound_but h m s = record { others = λ k ne. s k; objects = (s h).objects; queue = (s h).queue; callback = (s h).callback; answer = (s h).answer }

pub stack_sound : (h : ℕ) (st : List Frame) (m : World) → IsSoundBut h m → Every (IsFrameSound (λ j. j < m.count) h) st → IsSound (with_stack h st m)
stack_sound h st m b is = put_sound h (record (m.handlers h) { stack = st }) m b.others
    (record { objects = b.objects; stack = is; queue = b.queue; callback = b.callback; answer = b.answer })

-- with the stack that it has
pub whole_sound : (h : ℕ) (st : List Frame) (m : World) → IsSoundBut h m → (m.handlers h).stack ≡ st → Every (IsFrameSound (λ j. j < m.count) h) st
    → IsSound m
whole_sound h st m b at is k = by (k == h) refl
  where
    by : (c : Bool) → (k == h) ≡ c → IsHandlerSound (λ j. j < m.count) k (m.handlers k)
    by true e = subst (λ i. IsHandlerSound (λ j. j < m.count) i (m.handlers i)) (sym (eqb-true k h e))
        (record {
          objects = b.objects;
          stack = subst (Every (IsFrameSound (λ j. j < m.count) h)) (sym at) is;
          queue = b.queue;
          callback = b.callback;
          answer = b.answer;
        })
    by false e = b.others k (eqb-false k h e)

pub ended_sound : (K : ℕ → Type 0) (h : ℕ) (b : Bool) (x : Handler) → IsHandlerSound K h x → IsHandlerSound K h (session_ended b x)
ended_sound K h false x is = is
ended_sound K h true x is = record { objects = is.objects; stack = is.stack; queue = is.queue; callback = is.callback; answer = is.answer }

pub answered_sound : (K : ℕ → Type 0) (h : ℕ) (a : Answer) (x : Handler) → IsAnswerSound K a → IsHandlerSound K h x
    → IsHandlerSound K h (answered a x)
answered_sound K h a x i is = record {
  objects = is.objects;
  stack = is.stack;
  queue = is.queue;
  callback = is.callback;
  answer = by a x.failure x.answer i is.answer;
}
  where
    by : (a : Answer) (o : Option Cause) (old : Option Answer) → IsAnswerSound K a → IfSome (IsAnswerSound K) old
        → IfSome (IsAnswerSound K) (heard a o old)
    by Failed (Some why) old i is = is
    by Refused (Some why) old i is = is
    by (Reply v) (Some why) old i is = is
    by Failed None old i is = tt
    by (Reply v) None None i is = i
    by (Reply v) None (Some old) i is = is
    by Refused None None i is = tt
    by Refused None (Some old) i is = is

told_sound : (K : ℕ → Type 0) (h : ℕ) (b : Bool) (x : Handler) → IsHandlerSound K h x → IsHandlerSound K h (told b x)
told_sound K h false x is = is
told_sound K h true x is = answered_sound K h Failed x tt is

-- ---- releases, and failure

pub release_sound : (how : Release) (ks : List ℕ) (m : World) → IsSound m → IsSound (sessions.release how ks m)
release_sound how ks m s k = ended_sound (λ j. j < m.count) k (ends_session how && is_among k ks) (m.handlers k) (s k)

pub fails_sound : (h : ℕ) (why : Cause) (taken : List Request) (m : World) → ((k : ℕ) → k ≢ h → IsHandlerSound (λ j. j < m.count) k (m.handlers k))
    → Every (ObjectKnown (λ j. j < m.count)) (m.handlers h).objects
    → IsSound (fails_with h why taken m)
fails_sound h why taken m others objects k = by (k == h) refl
  where
    by : (b : Bool) → (k == h) ≡ b → IsHandlerSound (λ j. j < m.count) k
        (session_ended (ends_session release_at.Failure && rights.is_handler h (m.rights.queue k))
        (if b then fallen why (m.handlers k) else told (list_any (is_waited_by k) (taken ++ requests_at (m.handlers h))) (m.handlers k)))
    by true e = ended_sound (λ j. j < m.count) k _ (fallen why (m.handlers k))
        (record {
          objects = subst (λ i. Every (ObjectKnown (λ j. j < m.count)) (m.handlers i).objects) (sym (eqb-true k h e)) objects;
          stack = tt;
          queue = tt;
          callback = tt;
          answer = tt;
        })
    by false e = ended_sound (λ j. j < m.count) k _ _ (told_sound
        (λ j. j < m.count) k (list_any (is_waited_by k) (taken ++ requests_at (m.handlers h))) (m.handlers k) (others k (eqb-false k h e)))

pub fail_sound : (h : ℕ) (why : Cause) (m : World) → IsSoundBut h m → IsSound (fail h why m)
fail_sound h why m b = fails_sound h why [] m b.others b.objects

-- ---- the tasks of a routine

ensures_light : (i : ℕ) (ks : List Clause) → AreLight (ensures i ks)
ensures_light i [] = tt
ensures_light i (k ∷ ks) = (refl, refl, (refl, refl, ensures_light (i + olds_in k.condition) ks))

light_calm : (ts : List Task) → AreLight ts → IsCalm ts
light_calm [] is = tt
light_calm (t ∷ ts) is = (is.1, light_calm ts is.2)

no : {A : Type 0} → false ≡ true → A
no e = cc

-- no block is to be left, and the precondition comes first
abbrev pub AreFresh : List Task → Type 0
AreFresh ts = IsPhased ts × (leaves ts ≡ 0)

pub fresh_rest : (r : routines.Routine) → AreFresh (In r.text ∷ Declare r.locals ∷ Do r.body ∷ Forget
    (length r.text.formals) ∷ In r.contract ∷ ensures 0 r.ensure)
fresh_rest r =
    let e = ensures_light 0 r.ensure in (
      (
        (λ i. no i),
        (λ i. no i),
        (
          (λ i. no i),
          (λ i. no i),
          (
            (λ i. (refl, (refl, light_calm (ensures 0 r.ensure) e))),
            (λ i. no i),
            ((λ i. (refl, light_calm (ensures 0 r.ensure) e)), (λ i. no i), ((λ i. no i), (λ i. no i), ended)),
          ),
        ),
      ),
      left,
    )
  where
    all : (ts : List Task) → AreLight ts → AreFresh (ts ++ [])
    all ts is = (light_phased ts [] is tt, light_leaves ts [] is)

    nil : (ts : List Task) → ts ++ [] ≡ ts
    nil [] = refl
    nil (t ∷ ts) = ap (λ l. t ∷ l) (nil ts)

    ended : IsPhased (ensures 0 r.ensure)
    ended = subst IsPhased (nil (ensures 0 r.ensure)) (all (ensures 0 r.ensure) (ensures_light 0 r.ensure)).0

    left : leaves (ensures 0 r.ensure) ≡ 0
    left = ap leaves (sym (nil (ensures 0 r.ensure))) ∙ (all (ensures 0 r.ensure) (ensures_light 0 r.ensure)).1

pub tasks_deep : (r : routines.Routine) → Every (IsDeep (length r.text.formals)) (tasks_of r)
tasks_deep r =
    every_append (IsDeep (length r.text.formals)) (requires r.require ++ keeps_olds (olds_of_clauses r.ensure))
    (In r.text ∷ Declare r.locals ∷ Do r.body ∷ Forget (length r.text.formals) ∷ In r.contract ∷ ensures 0 r.ensure)
    (every_append (IsDeep (length r.text.formals)) (requires r.require) (keeps_olds (olds_of_clauses r.ensure)) (first r.require)
    (olds (olds_of_clauses r.ensure)))
    (tt, (tt, (tt, (omega arith, (tt, light_deep (length r.text.formals) (ensures 0 r.ensure) (ensures_light 0 r.ensure))))))
  where
    first : (ks : List Clause) → Every (IsDeep (length r.text.formals)) (requires ks)
    first [] = tt
    first (k ∷ ks) = (tt, tt)

    olds : (es : List Expr) → Every (IsDeep (length r.text.formals)) (keeps_olds es)
    olds [] = tt
    olds (e ∷ es) = (tt, (tt, olds es))
