-- A failure on both sides.
use Rattle.std.proofs.Common.{◌≡◌, ◌≢◌, ℕ, ◌<◌, ◌≤◌, ◌==◌, ◌&&◌, Bool, true, false, List, [], ◌++◌, Option, Some, None, refl, sym, ap, ◌∙◌, subst, arith}
use Rattle.std.specs.Prelude.{is_some, if◌then◌else◌}
use Rattle.std.specs.Option.{option_map}
use Rattle.std.specs.List.{list_any}
use Rattle.std.proofs.lemmas.Bool.{eqb-false, ne_eqb}
use Rattle.sc_lockpass.specs.Rights.{release_all, is_handler}
use Rattle.sc_lockpass.specs.wait_conditions.Reservations.{ends_session}
use Rattle.sc_lockpass.specs.declared.wait_conditions.session.Release.TheVariants as release_at
use Rattle.sc_machine_laws.specs.states.World.{SupplierFailed, Handler, World, rights_of, is_waited_by, requests_of, told, ruined, fallen, fail}
use Rattle.sc_machine_laws.specs.states.Steps.{MayFail, Fails, Steps}
use Rattle.sc_machine_laws.specs.states.Consistent.{IsConsistent}
use Rattle.sc_machine_laws.specs.states.Stands.{IsHandler, IsNew, Stands, answer_of}
use Rattle.sc_machine_laws.proofs.states.links.Maps.{same_rights, fallen_holder}
use Rattle.sc_machine_laws.proofs.states.links.Lists.{one}
use Rattle.sc_machine_laws.proofs.states.links.Looks.{looks_ended, looks_handler}
use Rattle.sc_machine_laws.proofs.states.links.Requests.{new_waits_for_none}
use Rattle.sc_model.specs.declared.cause.Cause.{Cause}
use Rattle.sc_model.specs.Handlers as machine
use Rattle.sc_model.specs.Answers.{heard}
use Rattle.sc_model.specs.Failures as failures
use Rattle.sc_model.specs.Failures.{requests_at, fails_with}
use Rattle.sc_model.specs.Sessions.{session_ended}

-- The turn leads to a state for which a world stands that some steps reach.
pub record Leads (w : World) (m : machine.World) : Type 0 where
  pub world : World
  pub steps : Steps w world
  pub stands : Stands world m

-- all stand but h, which is about to fail
pub record StandsBut (h : ℕ) (w : World) (m : machine.World) : Type 0 where
  pub handlers : (k : ℕ) → k ≢ h → IsHandler (w.handlers k) (m.handlers k)
  pub rights : rights_of w ≡ m.rights
  pub new : (k : ℕ) → m.count ≤ k → IsNew (w.handlers k) × (w.queue k ≡ []) × (w.top k ≡ [])

is_ruined : (why : Cause) (g : Handler) (x : machine.Handler) → IsHandler (ruined g) (failures.fallen why x)
is_ruined why g x = record { failed = refl; stack = tt; requests = tt; callback = tt; answer = refl }

is_told : (b : Bool) (g : Handler) (x : machine.Handler) → IsHandler g x → IsHandler (told b g) (failures.told b x)
is_told false g x is = is
is_told true g x is = record {
  failed = is.failed;
  stack = is.stack;
  requests = is.requests;
  callback = is.callback;
  answer = by x.failure is.failed;
}
  where
    by : (o : Option Cause) → g.failed ≡ is_some o → (if g.failed then g.answer else Some SupplierFailed) ≡ option_map answer_of
        (heard machine.Failed o x.answer)
    by None e = ap (λ (b : Bool). if b then g.answer else Some SupplierFailed) e
    by (Some why) e = ap (λ (b : Bool). if b then g.answer else Some SupplierFailed) e ∙ is.answer

pub fails_leads : (h : ℕ) (why : Cause) (taken : List machine.Request) (w : World) (m : machine.World) → IsConsistent w → StandsBut h w m
    → h < m.count → MayFail h w
    → ((k : ℕ) → list_any (is_waited_by k) (requests_of (w.handlers h)) ≡ list_any (failures.is_waited_by k) (taken ++ requests_at (m.handlers h)))
    → Leads w (fails_with h why taken m)
fails_leads h why taken w m fine but here may same = record {
  world = fail h w;
  steps = one w (fail h w) (Fails h may);
  stands = record {
    handlers = λ k. by k (k == h) refl;
    rights = same_rights (rights_of (fail h w)) (release_all h (rights_of w)) (λ k. fallen_holder h (w.queue k)) (λ k. fallen_holder h (w.top k))
        ∙ ap (release_all h) but.rights;
    new = λ k le. after k le;
  };
}
  where
    by : (k : ℕ) (b : Bool) → (k == h) ≡ b
        → IsHandler (if b then ruined (w.handlers k) else told (list_any (is_waited_by k) (requests_of (w.handlers h))) (w.handlers k))
        (session_ended (ends_session release_at.Failure && is_handler h (m.rights.queue k))
        (if b then failures.fallen why (m.handlers k) else failures.told (list_any (failures.is_waited_by k) (taken ++ requests_at (m.handlers h)))
        (m.handlers k)))
    by k true e = looks_handler (ruined (w.handlers k)) (failures.fallen why (m.handlers k))
        (session_ended (ends_session release_at.Failure && is_handler h (m.rights.queue k)) (failures.fallen why (m.handlers k)))
        (looks_ended (ends_session release_at.Failure && is_handler h (m.rights.queue k)) (failures.fallen why (m.handlers k)))
        (is_ruined why (w.handlers k) (m.handlers k))
    by k false e =
        let c : Bool = list_any (failures.is_waited_by k) (taken ++ requests_at (m.handlers h)) in
        looks_handler (told (list_any (is_waited_by k) (requests_of (w.handlers h))) (w.handlers k)) (failures.told c (m.handlers k))
        (session_ended (ends_session release_at.Failure && is_handler h (m.rights.queue k)) (failures.told c (m.handlers k)))
        (looks_ended (ends_session release_at.Failure && is_handler h (m.rights.queue k)) (failures.told c (m.handlers k)))
        (subst (λ d. IsHandler (told d (w.handlers k)) (failures.told c (m.handlers k))) (sym (same k))
        (is_told c (w.handlers k) (m.handlers k) (but.handlers k (eqb-false k h e))))

    after : (k : ℕ) → m.count ≤ k → IsNew ((fail h w).handlers k) × (fallen h (w.queue k) ≡ []) × (fallen h (w.top k) ≡ [])
    after k le =
        let was = but.new k le in
        let ne : k ≢ h = λ e. omega (arith, le, here, e) in
        let stays : (fail h w).handlers k ≡ w.handlers k =
        ap (λ (b : Bool). if b then ruined (w.handlers k) else told (list_any (is_waited_by k) (requests_of (w.handlers h))) (w.handlers k))
        (ne_eqb k h ne)
        ∙ ap (λ (b : Bool). told b (w.handlers k)) (new_waits_for_none h k w fine was.0) in
        (subst IsNew (sym stays) was.0, ap (fallen h) was.1, ap (fallen h) was.2)
