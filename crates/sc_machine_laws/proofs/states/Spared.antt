-- A handler that has not failed for one that it does not hold, a foreign object, a Void target or a missing case, and whose topmost frame is in no call; and what leaves it so.
use Rattle.std.specs.List.{list_any}
use Rattle.std.specs.Prelude.{if◌then◌else◌, is_some, length, nat_lt, not, ◌==◌, ◌||◌}
use Rattle.std.proofs.Common.{◌&&◌, ◌++◌, Bool, List, None, Option, Some, [], false, refl, subst, sym, true, ℕ, ◌∷◌, ◌≡◌}
use Rattle.sc_rules.specs.declared.entity_types.entity_type.EntityType.{EntityType}
use Rattle.sc_lockpass.specs.Passing.{Passed}
use Rattle.sc_lockpass.specs.Rights.{held, is_among, is_handler}
use Rattle.sc_lockpass.specs.wait_conditions.Reservations.{ends_session, reserve_fails}
use Rattle.sc_lockpass.specs.declared.wait_conditions.session.Release.{Release}
use Rattle.sc_lockpass.specs.declared.wait_conditions.session.Release.TheVariants as release_at
use Rattle.sc_model.specs.Answers.{answer_to, answered, finish, return_rights}
use Rattle.sc_model.specs.Asking.{asks, awaits_if, created, creates_handler, is_callback, passes, passes_or_releases, placed, posts_creation, request, request_by, send, with_handler}
use Rattle.sc_model.specs.Entries.{reserves_if, stage_with}
use Rattle.sc_model.specs.Exits.{handed_as}
use Rattle.sc_model.specs.Failures.{fail, fails_with, fallen, is_waited_by, requests_at, told}
use Rattle.sc_model.specs.Handlers.{Answer, Awaits, Calls, Frame, Handler, InCall, Makes, Request, Reserves, ReservesBlock, Runs, Stage, World, new_handler, put, with_stack}
use Rattle.sc_model.specs.Limits.{max_queue}
use Rattle.sc_model.specs.Sessions.{release, reserve, session_ended, standing_in}
use Rattle.sc_model.specs.Values.{Attached, Operand, Reference, Value, operand}
use Rattle.sc_model.specs.declared.cause.Cause.{Cause}
use Rattle.sc_model.specs.declared.cause.Cause.TheVariants as cause
use Rattle.sc_machine_laws.specs.states.ValueSteps.{is_excluded}
use Rattle.sc_machine_laws.proofs.states.Lists.{same_some}

abbrev pub is_in_call : Stage → Bool
is_in_call (InCall t) = true
is_in_call Runs = false
is_in_call Reserves = false
is_in_call ReservesBlock = false
is_in_call (Awaits k t c) = false

abbrev pub top_calls : List Frame → Bool
top_calls [] = false
top_calls (f ∷ below) = is_in_call f.stage

pub record IsSpared (x : Handler) : Type 0 where
  pub spared : (why : Cause) → x.failure ≡ Some why → is_excluded why ≡ false
  pub goes : top_calls x.stack ≡ false

-- so is each handler
pub record AllSpared (w : World) : Type 0 where
  pub each : (k : ℕ) → IsSpared (w.handlers k)

-- ---- one handler changes

pub put_spared : (h : ℕ) (x : Handler) (w : World) → IsSpared x → AllSpared w → AllSpared (put h x w)
put_spared h x w own all = record { each = λ k. by k (k == h) }
  where
    by : (k : ℕ) (b : Bool) → IsSpared (if b then x else w.handlers k)
    by k true = own
    by k false = all.each k

pub stack_spared : (h : ℕ) (st : List Frame) (w : World) → top_calls st ≡ false → AllSpared w → AllSpared (with_stack h st w)
stack_spared h st w e all = put_spared h (record (w.handlers h) { stack = st }) w (record { spared = (all.each h).spared; goes = e }) all

ended_spared : (b : Bool) (x : Handler) → IsSpared x → IsSpared (session_ended b x)
ended_spared true x z = record { spared = z.spared; goes = z.goes }
ended_spared false x z = z

pub release_spared : (how : Release) (ks : List ℕ) (w : World) → AllSpared w → AllSpared (release how ks w)
release_spared how ks w all = record { each = λ k. ended_spared (ends_session how && is_among k ks) (w.handlers k) (all.each k) }

told_spared : (b : Bool) (x : Handler) → IsSpared x → IsSpared (told b x)
told_spared true x z = record { spared = z.spared; goes = z.goes }
told_spared false x z = z

-- a failure for something else
pub fails_spared : (h : ℕ) (why : Cause) (taken : List Request) (w : World) → is_excluded why ≡ false → AllSpared w → AllSpared (fails_with h why taken w)
fails_spared h why taken w free all = record {
  each = λ k. ended_spared (ends_session release_at.Failure && is_handler h (w.rights.queue k))
      (if k == h then fallen why (w.handlers k) else told (list_any (is_waited_by k) (taken ++ requests_at (w.handlers h))) (w.handlers k)) (by k (k == h));
}
  where
    by : (k : ℕ) (b : Bool) → IsSpared (if b then fallen why (w.handlers k) else told (list_any (is_waited_by k) (taken ++ requests_at (w.handlers h))) (w.handlers k))
    by k true = record { spared = λ c e. subst (λ c. is_excluded c ≡ false) (same_some e) free; goes = refl }
    by k false = told_spared (list_any (is_waited_by k) (taken ++ requests_at (w.handlers h))) (w.handlers k) (all.each k)

pub if_spared : (b : Bool) (u v : World) → AllSpared u → AllSpared v → AllSpared (if b then u else v)
if_spared true u v x y = x
if_spared false u v x y = y

-- ---- answers

rights_spared : (p : Option Passed) (w : World) → AllSpared w → AllSpared (return_rights p w)
rights_spared None w all = all
rights_spared (Some p) w all = record { each = all.each }

answer_spared : (b : Bool) (o : Option ℕ) (a : Answer) (w : World) → AllSpared w → AllSpared (answer_to b o a w)
answer_spared true (Some p) a w all = put_spared p (answered a (w.handlers p)) w (record { spared = (all.each p).spared; goes = (all.each p).goes }) all
answer_spared true None a w all = all
answer_spared false (Some p) a w all = all
answer_spared false None a w all = all

pub finish_spared : (r : Request) (a : Answer) (w : World) → AllSpared w → AllSpared (finish r a w)
finish_spared r a w all = answer_spared r.is_waited r.poster a (return_rights r.passed w) (rights_spared r.passed w all)

-- ---- stages

pub entry_goes : (vs : List Value) → is_in_call (stage_with vs) ≡ false
entry_goes [] = refl
entry_goes (v ∷ vs) = refl

pub handed_goes : (t : Option EntityType) (v : Option Value) (f : Frame) → is_in_call (handed_as t v f).stage ≡ false
handed_goes (Some t) (Some v) f = refl
handed_goes (Some t) None f = refl
handed_goes None (Some v) f = refl
handed_goes None None f = refl

awaits_goes : (b : Bool) (k : ℕ) (t : Option EntityType) (c : Bool) (f : Frame) → is_in_call f.stage ≡ false → is_in_call (awaits_if b k t c f).stage ≡ false
awaits_goes true k t c f e = refl
awaits_goes false k t c f e = e

-- ---- reservations and requests

pub reserves_spared : (b : Bool) (h : ℕ) (ks : List ℕ) (f : Frame) (below : List Frame) (w : World) → is_in_call f.stage ≡ false → AllSpared w → AllSpared (reserves_if b h ks f below w)
reserves_spared false h ks f below w e all = all
reserves_spared true h ks f below w e all =
    if_spared (reserve_fails (standing_in w) w.rights ks) (fail h cause.SupplierFailed w) (reserve h ks (with_stack h (f ∷ below) w)) (fails_spared h cause.SupplierFailed [] w refl all)
    (record { each = (stack_spared h (f ∷ below) w e all).each })

placed_spared : (c : Bool) (q : Request) (x : Handler) → IsSpared x → IsSpared (placed c q x)
placed_spared true q x z = record { spared = z.spared; goes = z.goes }
placed_spared false q x z = record { spared = z.spared; goes = z.goes }

send_spared : (c : Bool) (k : ℕ) (q : Request) (w : World) → AllSpared w → AllSpared (send c k q w)
send_spared c k q w all = put_spared k (placed c q (w.handlers k)) w (placed_spared c q (w.handlers k) (all.each k)) all

passes_spared : (b : Bool) (h k : ℕ) (w : World) → AllSpared w → AllSpared (passes b h k w)
passes_spared true h k w all = record { each = all.each }
passes_spared false h k w all = all

module _ (h : ℕ) (f : Frame) (below : List Frame) (goes : is_in_call f.stage ≡ false) where
  asks_spared : (w : World) (r : Reference) (x : List ℕ) (us : List Operand) (gives : Option EntityType) (passing waits : Bool) → AllSpared w →
      AllSpared (asks h r x us gives passing waits f below w)
  asks_spared w r x us gives passing waits all =
      passes_spared passing h r.handler
      (send (is_callback h r.handler w) r.handler (request_by h r (Calls x) us waits passing w) (with_stack h (awaits_if waits r.handler gives false f ∷ below) w))
      (send_spared (is_callback h r.handler w) r.handler (request_by h r (Calls x) us waits passing w) (with_stack h (awaits_if waits r.handler gives false f ∷ below) w)
      (stack_spared h (awaits_if waits r.handler gives false f ∷ below) w (awaits_goes waits r.handler gives false f goes) all))

  pub request_spared : (w : World) (r : Reference) (x : List ℕ) (us : List Operand) (gives : Option EntityType) (passing : Bool) → held w.rights h r.handler ≡ true → AllSpared w →
      AllSpared (request h r x us gives passing f below w)
  request_spared w r x us gives passing holds all =
      subst (λ (b : Bool). AllSpared (if not b then fail h cause.NotHeld w else after)) (sym holds)
      (if_spared _ _ _ (fails_spared h cause.SupplierFailed [] w refl all)
      (if_spared _ _ _ (fails_spared h cause.QueueFull [] w refl all) (asks_spared w r x us gives passing _ all)))
    where
      after : World
      after = if is_some (w.handlers r.handler).failure then fail h cause.SupplierFailed w
          else if not (is_callback h r.handler w) && not (nat_lt (length (w.handlers r.handler).queue) max_queue) then fail h cause.QueueFull w
          else asks h r x us gives passing (passing || is_some gives || is_callback h r.handler w) f below w

  with_handler_spared : (w : World) (k : ℕ) → AllSpared w → AllSpared (with_handler k h w)
  with_handler_spared w k all = record { each = λ j. by j (j == k) }
    where
      by : (j : ℕ) (b : Bool) → IsSpared (if b then new_handler else w.handlers j)
      by j true = record { spared = λ why e. cc; goes = refl }
      by j false = all.each j

  posts_spared : (w : World) (r : Reference) (procedure : Option (List ℕ)) (us : List Operand) (t : EntityType) (passing : Bool) → AllSpared w →
      AllSpared (posts_creation h r procedure us t passing f below w)
  posts_spared w r procedure us t passing all =
      send_spared false r.handler (request_by h r (Makes procedure) us passing passing w)
      (with_stack h (awaits_if passing r.handler None true (record f { values = operand (Attached r) t ∷ f.values }) ∷ below) w)
      (stack_spared h (awaits_if passing r.handler None true (record f { values = operand (Attached r) t ∷ f.values }) ∷ below) w
      (awaits_goes passing r.handler None true (record f { values = operand (Attached r) t ∷ f.values }) goes) all)

  released_spared : (b : Bool) (k : ℕ) (w : World) → AllSpared w → AllSpared (passes_or_releases b h k w)
  released_spared true k w all = passes_spared true h k w all
  released_spared false k w all = release_spared release_at.Creation (k ∷ []) w all

  pub creates_spared : (most : ℕ) (w : World) (class : ℕ) (procedure : Option (List ℕ)) (us : List Operand) (t : EntityType) (passing : Bool) → AllSpared w →
      AllSpared (creates_handler most h class procedure us t passing f below w)
  creates_spared most w class procedure us t passing all =
      let r : Reference = record { handler = w.count; number = 1; class = class } in
      if_spared (nat_lt w.count most) (created h (record { handler = w.count; number = 1; class = class }) procedure us t passing f below w) (fail h cause.TooManyHandlers w)
      (released_spared passing w.count (posts_creation h r procedure us t passing f below (with_handler w.count h w))
      (posts_spared (with_handler w.count h w) r procedure us t passing (with_handler_spared w w.count all)))
      (fails_spared h cause.TooManyHandlers [] w refl all)
