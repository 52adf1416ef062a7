-- Taking an answer.
use Rattle.std.proofs.Common.{◌≡◌, ◌≢◌, inl, inr, ℕ, ◌<◌, Bool, true, false, List, [], ◌∷◌, Option, Some, None, refl, sym, ap, ◌∙◌, subst, arith}
use Rattle.std.specs.Prelude.{is_some}
use Rattle.std.specs.Option.{option_map}
use Rattle.std.specs.List.{list_any}
use Rattle.sc_rules.specs.declared.entity_types.entity_type.EntityType.{EntityType}
use Rattle.sc_lockpass.specs.Rights.{Rights}
use Rattle.sc_lockpass.specs.declared.wait_conditions.session.Release.TheVariants as release_at
use Rattle.sc_machine_laws.specs.states.World.{Request, Frame, Handler, World, holder, rights_of, is_waited_by, and_this, and_begun, requests_of, resumed, take_answer}
use Rattle.sc_machine_laws.specs.states.Steps.{waits_for, IsActive, AnswersNobody, Step, Answers, answered}
use Rattle.sc_machine_laws.specs.states.Stands.{NeedsOf, NamesOf, answer_of, handlers_of, IsRoutine, AreBlocks, place_of, Awaited, IsCreation, IsStaged, IsStack, IsHandler, IsNew, Stands}
use Rattle.sc_machine_laws.proofs.states.links.Maps.{put-own, same_rights}
use Rattle.sc_machine_laws.proofs.states.links.Lists.{one, put-off}
use Rattle.sc_machine_laws.proofs.states.links.Looks.{Looks, looks_by, m_put-own, m_put-off, at_each}
use Rattle.sc_machine_laws.proofs.states.links.Requests.{same_waiters}
use Rattle.sc_machine_laws.proofs.states.links.Failures.{Leads, fails_leads}
use Rattle.sc_machine_laws.proofs.states.links.FrameSteps.{Keeps, no_names, fail_leads, ends_part, ended_leads}
use Rattle.sc_machine_laws.proofs.states.links.Posts.{has_parts}
use Rattle.sc_machine_laws.proofs.states.links.TakenRequests.{then_leads}
use Rattle.sc_model.specs.declared.cause.Cause.TheVariants as cause
use Rattle.sc_model.specs.Values.{Value}
use Rattle.sc_model.specs.Handlers as machine
use Rattle.sc_model.specs.Handlers.{Awaits, put}
use Rattle.sc_model.specs.Sessions as sessions
use Rattle.sc_model.specs.Failures as failures
use Rattle.sc_model.specs.Failures.{requests_at}
use Rattle.sc_model.specs.Exits.{handed_as}
use Rattle.sc_model.specs.Takes.{takes_answer}

-- one handler has changed on both sides alike, and no right
pub own_stands : (w v : World) (m : machine.World) (h : ℕ) (g : Handler) (x : machine.Handler) → Stands w m → h < m.count → v.handlers h ≡ g
    → ((k : ℕ) → k ≢ h → v.handlers k ≡ w.handlers k)
    → ((k : ℕ) → v.queue k ≡ w.queue k) → ((k : ℕ) → v.top k ≡ w.top k) → IsHandler g x → Stands v (put h x m)
own_stands w v m h g x s here own others queue top is = record {
  handlers = λ k. at_each (λ y. IsHandler (v.handlers y) ((put h x m).handlers y)) h k
      (subst (IsHandler (v.handlers h)) (sym (m_put-own h x m)) (subst (λ i. IsHandler i x) (sym own) is))
      (λ ne. subst (IsHandler (v.handlers k)) (sym (m_put-off h x m k ne))
      (subst (λ i. IsHandler i (m.handlers k)) (sym (others k ne)) (s.handlers k)));
  rights = same_rights (rights_of v) m.rights (λ k. ap holder (queue k) ∙ ap (λ (r : Rights). r.queue k) s.rights)
      (λ k. ap holder (top k) ∙ ap (λ (r : Rights). r.top k) s.rights);
  new = λ k le.
      let was = s.new k le in
      (subst IsNew (sym (others k (λ e. omega (arith, le, here, e)))) was.0, queue k ∙ was.1, top k ∙ was.2);
}

resumed_parts : (C : ℕ → List ℕ → Type 0) (kss : List (List ℕ)) (f : machine.Frame) (N : List ℕ → Type 0) (B : List Frame → Type 0) (g : Frame)
    (gs : List Frame)
    → AreBlocks C kss (IsRoutine f N B) (g ∷ gs) → AreBlocks C kss (IsRoutine f N B) (record g { waits = None } ∷ gs)
resumed_parts C [] f N B g gs is = is
resumed_parts C (ks ∷ kss) f N B g gs is = is

-- h takes its answer
pub record Answered (w : World) (m : machine.World) (h k : ℕ) (gives : Option EntityType) (b : Bool) (f : machine.Frame)
    (below : List machine.Frame) : Type 0 where
  pub stands : Stands w m
  pub here : h < m.count
  pub lives : (m.handlers h).failure ≡ None
  pub parts : IsStaged (Awaits k gives b) (place_of f below) (AreBlocks (NamesOf machine.Runs f) f.blocks (IsRoutine f (NeedsOf machine.Runs f) (IsStack below)))
      (w.handlers h).stack

awaited : (w : World) (m : machine.World) (h k : ℕ) (gives : Option EntityType) (b : Bool) (f : machine.Frame) (below : List machine.Frame)
    → Answered w m h k gives b f below → Awaited k gives (place_of f below) (w.handlers h).stack
awaited w m h k gives true f below a = a.parts.0
awaited w m h k gives false f below a = a.parts.0

answers : (w : World) (m : machine.World) (h k : ℕ) (gives : Option EntityType) (b : Bool) (f : machine.Frame) (below : List machine.Frame)
    → Answered w m h k gives b f below → answered (w.handlers h).answer ≡ true → Step w (take_answer h w)
answers w m h k gives b f below a over =
    let t = awaited w m h k gives b f below a in
    Answers h t.wait ((a.stands.handlers h).failed ∙ ap is_some a.lives) t.waits over

taken_own : (h : ℕ) (w : World) → (take_answer h w).handlers h ≡ record (w.handlers h) { stack = resumed (w.handlers h).stack; answer = None }
taken_own h w = put-own h (record (w.handlers h) { stack = resumed (w.handlers h).stack; answer = None }) w.handlers

taken_off : (h : ℕ) (w : World) (k : ℕ) → k ≢ h → (take_answer h w).handlers k ≡ w.handlers k
taken_off h w k ne = put-off h (record (w.handlers h) { stack = resumed (w.handlers h).stack; answer = None }) w.handlers k ne

-- the machine's frame goes on in place of f
record GoesOn (f g : machine.Frame) (below : List machine.Frame) : Type 0 where
  alone : (gs : List Frame) → waits_for gs ≡ None
      → AreBlocks (NamesOf machine.Runs f) f.blocks (IsRoutine f (NeedsOf machine.Runs f) (IsStack below)) gs
      → IsStack (g ∷ below) gs
  under : (ks : List ℕ) (e : Frame) (gs : List Frame) → e.waits ≡ None → e.origin ≡ None → handlers_of e.reserved ≡ ks → waits_for gs ≡ None
      → AreBlocks (NamesOf machine.Runs f) f.blocks (IsRoutine f (NeedsOf machine.Runs f) (IsStack below)) gs
      → IsStack (record g { blocks = ks ∷ g.blocks; tasks = [] } ∷ below) (e ∷ gs)

handed_goes_on : (gives : Option EntityType) (v : Option Value) (f : machine.Frame) (below : List machine.Frame)
    → GoesOn f (handed_as gives v f) below
handed_goes_on (Some t) (Some u) f below = record {
  alone = λ gs quiet is. (quiet, is);
  under = λ ks e gs free origin has quiet is. (free, (origin, has, quiet, no_names f (IsStack below) gs is, tt));
}
handed_goes_on (Some t) None f below = record {
  alone = λ gs quiet is. (quiet, is);
  under = λ ks e gs free origin has quiet is. (free, (origin, has, quiet, no_names f (IsStack below) gs is, tt));
}
handed_goes_on None (Some u) f below = record {
  alone = λ gs quiet is. (quiet, is);
  under = λ ks e gs free origin has quiet is. (free, (origin, has, quiet, no_names f (IsStack below) gs is, tt));
}
handed_goes_on None None f below = record {
  alone = λ gs quiet is. (quiet, is);
  under = λ ks e gs free origin has quiet is. (free, (origin, has, quiet, no_names f (IsStack below) gs is, tt));
}

-- the answer to a call
call_goes_on : (w : World) (m : machine.World) (h k : ℕ) (gives : Option EntityType) (f g : machine.Frame) (below : List machine.Frame)
    → Answered w m h k gives false f below → GoesOn f g below → answered (w.handlers h).answer ≡ true
    → Leads w (put h (record (m.handlers h) { stack = g ∷ below; answer = None }) m)
call_goes_on w m h k gives f g below a goes over =
    let x = a.stands.handlers h in
    let p = has_parts (NamesOf machine.Runs f) f.blocks f (NeedsOf machine.Runs f) (IsStack below) (w.handlers h).stack a.parts.1 in
    let v = take_answer h w in
    let parts = resumed_parts (NamesOf machine.Runs f) f.blocks f (NeedsOf machine.Runs f) (IsStack below) p.frame p.below
    (subst (AreBlocks (NamesOf machine.Runs f) f.blocks (IsRoutine f (NeedsOf machine.Runs f) (IsStack below))) p.is a.parts.1) in
    record {
      world = v;
      steps = one w v (answers w m h k gives false f below a over);
      stands = own_stands w v m h (record (w.handlers h) { stack = resumed (w.handlers h).stack; answer = None })
          (record (m.handlers h) { stack = g ∷ below; answer = None }) a.stands a.here (taken_own h w) (taken_off h w) (λ j. refl) (λ j. refl)
          (record {
            failed = x.failed;
            stack = subst (λ l. IsStack (g ∷ below) (resumed l)) (sym p.is) (goes.alone (record p.frame { waits = None } ∷ p.below) refl parts);
            requests = x.requests;
            callback = x.callback;
            answer = refl;
          });
    }

record CreationAt (k : ℕ) (B : List Frame → Type 0) (gs : List Frame) : Type 0 where
  frame : Frame
  below : List Frame
  is : gs ≡ frame ∷ below
  origin : frame.origin ≡ None
  reserved : handlers_of frame.reserved ≡ k ∷ []
  quiet : waits_for below ≡ None
  rest : B below

creation_at : (k : ℕ) (B : List Frame → Type 0) (gs : List Frame) → IsCreation k B gs → CreationAt k B gs
creation_at k B [] is = absurd is
creation_at k B (g ∷ gs) is = record { frame = g; below = gs; is = refl; origin = is.0; reserved = is.1; quiet = is.2; rest = is.3 }

-- the answer to a creation: the new handler is released
creation_goes_on : (w : World) (m : machine.World) (h k : ℕ) (gives : Option EntityType) (f g : machine.Frame) (below : List machine.Frame)
    → Answered w m h k gives true f below → GoesOn f g below → answered (w.handlers h).answer ≡ true
    → Leads w (sessions.release release_at.Creation (k ∷ []) (put h (record (m.handlers h) { stack = g ∷ below; answer = None }) m))
creation_goes_on w m h k gives f g below a goes over =
    let x = a.stands.handlers h in
    let at = creation_at k (AreBlocks (NamesOf machine.Runs f) f.blocks (IsRoutine f (NeedsOf machine.Runs f) (IsStack below)))
    (w.handlers h).stack a.parts.1 in
    let v = take_answer h w in
    let e : Frame = record at.frame { waits = None } in
    let st : List machine.Frame = record g { blocks = (k ∷ []) ∷ g.blocks; tasks = [] } ∷ below in
    let m1 = put h (record (m.handlers h) { stack = st; answer = None }) m in
    let m2 = put h (record (m.handlers h) { stack = g ∷ below; answer = None }) m in
    let s : Stands v m1 = own_stands w v m h (record (w.handlers h) { stack = resumed (w.handlers h).stack; answer = None })
    (record (m.handlers h) { stack = st; answer = None }) a.stands a.here (taken_own h w) (taken_off h w) (λ j. refl) (λ j. refl)
    (record {
      failed = x.failed;
      stack = subst (λ l. IsStack (record g { blocks = (k ∷ []) ∷ g.blocks; tasks = [] } ∷ below) (resumed l)) (sym at.is)
          (goes.under (k ∷ []) e at.below refl at.origin at.reserved at.quiet at.rest);
      requests = x.requests;
      callback = x.callback;
      answer = refl;
    }) in
    let there : (v.handlers h).stack ≡ e ∷ at.below = ap (λ (y : Handler). y.stack) (taken_own h w) ∙ ap resumed at.is in
    let on : IsActive (v.handlers h) = (ap (λ (y : Handler). y.failed) (taken_own h w) ∙ x.failed ∙ ap is_some a.lives, ap waits_for there) in
    let l : Leads v (sessions.release release_at.Creation (k ∷ []) m2) =
    ended_leads v h e at.below (sessions.release release_at.Creation (k ∷ []) m2) (subst AnswersNobody (sym at.origin) tt)
    (ends_part v m1 m2 h (g ∷ below) release_at.Creation e at.below (k ∷ []) s a.here on there at.reserved
    (record {
      own = subst (λ y. Looks (record y { stack = g ∷ below }) (m2.handlers h))
          (sym (m_put-own h (record (m.handlers h) { stack = st; answer = None }) m))
          (looks_by (record (m.handlers h) { stack = g ∷ below; answer = None }) (m2.handlers h)
          (m_put-own h (record (m.handlers h) { stack = g ∷ below; answer = None }) m));
      others = λ j ne. looks_by (m1.handlers j) (m2.handlers j)
          (m_put-off h (record (m.handlers h) { stack = g ∷ below; answer = None }) m j ne
          ∙ sym (m_put-off h (record (m.handlers h) { stack = st; answer = None }) m j ne));
      count = refl;
    })
    refl (goes.alone at.below at.quiet at.rest)) in
    then_leads w v (sessions.release release_at.Creation (k ∷ []) m2) (answers w m h k gives true f below a over) l

-- a refusal: the handler fails
refused_fails : (G : World → Type 0) (K : Keeps G) (w : World) (m : machine.World) (h k : ℕ) (gives : Option EntityType) (b : Bool)
    (f : machine.Frame) (below : List machine.Frame) → G w → Answered w m h k gives b f below → answered (w.handlers h).answer ≡ true
    → Leads w (failures.fail h cause.Precondition m)
refused_fails G K w m h k gives b f below good a over =
    let x = a.stands.handlers h in
    let v = take_answer h w in
    let step : Step w v = answers w m h k gives b f below a over in
    then_leads w v (failures.fail h cause.Precondition m) step
    (fails_leads h cause.Precondition [] v m (K.consistent v (K.kept w v (one w v step) good))
    (record {
      handlers = λ j ne. subst (λ g. IsHandler g (m.handlers j)) (sym (taken_off h w j ne)) (a.stands.handlers j);
      rights = a.stands.rights;
      new = λ j le. let was = a.stands.new j le in let here = a.here in
          (subst IsNew (sym (taken_off h w j (λ e. omega (arith, le, here, e)))) was.0, was.1, was.2);
    })
    a.here
    (record {
      lives = ap (λ (y : Handler). y.failed) (taken_own h w) ∙ x.failed
          ∙ ap is_some a.lives;
      why = inl (ap (λ (y : Handler). waits_for y.stack) (taken_own h w) ∙ quiet (w.handlers h).stack);
    })
    (λ j. ap (λ (y : Handler). list_any (is_waited_by j) (requests_of y)) (taken_own h w)
    ∙ ap (λ l. list_any (is_waited_by j) (and_this (w.handlers h).callback l)) (same (w.handlers h).stack (w.handlers h).requests)
    ∙ same_waiters j (w.handlers h) (m.handlers h) x.stack x.requests x.callback))
  where
    quiet : (gs : List Frame) → waits_for (resumed gs) ≡ None
    quiet [] = refl
    quiet (g ∷ gs) = refl

    same : (gs : List Frame) (rs : List Request) → and_begun (resumed gs) rs ≡ and_begun gs rs
    same [] rs = refl
    same (g ∷ gs) rs = refl

pub answer_leads : (G : World → Type 0) (K : Keeps G) (w : World) (m : machine.World) (h : ℕ) (a : machine.Answer) (k : ℕ) (gives : Option EntityType)
    (b : Bool) (f : machine.Frame) (below : List machine.Frame) → G w → Answered w m h k gives b f below
    → (m.handlers h).answer ≡ Some a → Leads w (takes_answer h a k gives b f below m)
answer_leads G K w m h machine.Failed k gives b f below good a is =
    fail_leads w m h cause.SupplierFailed (K.consistent w good) a.stands a.here
    (record {
      lives = (a.stands.handlers h).failed ∙ ap is_some a.lives;
      why = inr ((a.stands.handlers h).answer ∙ ap (λ o. option_map answer_of o) is);
    })
answer_leads G K w m h machine.Refused k gives b f below good a is =
    refused_fails G K w m h k gives b f below good a (ap answered ((a.stands.handlers h).answer ∙ ap (λ o. option_map answer_of o) is))
answer_leads G K w m h (machine.Reply v) k gives true f below good a is =
    creation_goes_on w m h k gives f (handed_as gives v f) below a (handed_goes_on gives v f below)
    (ap answered ((a.stands.handlers h).answer ∙ ap (λ o. option_map answer_of o) is))
answer_leads G K w m h (machine.Reply v) k gives false f below good a is =
    call_goes_on w m h k gives f (handed_as gives v f) below a (handed_goes_on gives v f below)
    (ap answered ((a.stands.handlers h).answer ∙ ap (λ o. option_map answer_of o) is))
