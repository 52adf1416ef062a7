-- A handler whose topmost frame goes on: own calls, exits, reserve steps and releases.
use Rattle.std.proofs.Common.{◌≡◌, ◌≢◌, inl, ℕ, suc, ◌<◌, ◌&&◌, Bool, true, false, List, [], ◌∷◌, Some, None, refl, sym, ap, ◌∙◌, subst, arith}
use Rattle.std.specs.Prelude.{is_some}
use Rattle.sc_lockpass.specs.Rights.{is_among}
use Rattle.sc_lockpass.specs.Rights as rights
use Rattle.sc_lockpass.specs.Passing as passing
use Rattle.sc_lockpass.specs.Passing.{Passed}
use Rattle.sc_lockpass.specs.wait_conditions.Reservations.{ends_session}
use Rattle.sc_lockpass.specs.declared.wait_conditions.session.Release.{Release}
use Rattle.sc_machine_laws.specs.states.World.{Answer, Request, Frame, World, rights_of, give_back, pop, finish}
use Rattle.sc_machine_laws.specs.states.Steps.{waits_for, IsActive, HasReleased, Ends, AnswersNobody, MayFail, Pops, Finishes, Steps, Still, answered}
use Rattle.sc_machine_laws.specs.states.Consistent.{IsConsistent}
use Rattle.sc_machine_laws.specs.states.Stands.{NeedsOf, NamesOf, IsRequest, IsOrigin, handlers_of, IsRoutine, AreBlocks, IsStack, IsNew, Stands}
use Rattle.sc_machine_laws.proofs.states.links.Lists.{joined, one, restacked_again, restacked_active, restacked_stack, Released, releases, popping}
use Rattle.sc_machine_laws.proofs.states.links.Looks.{looks_ended, Put, put_more, stands_put, released_rights, released_beyond}
use Rattle.sc_machine_laws.proofs.states.links.Requests.{same_waiters}
use Rattle.sc_machine_laws.proofs.states.links.Failures.{Leads, fails_leads}
use Rattle.sc_machine_laws.proofs.states.links.RequestEnds.{IsReply, Replied, Refuses, finish_stands, finish_unwaited, poster_exists}
use Rattle.sc_model.specs.declared.cause.Cause.{Cause}
use Rattle.sc_model.specs.Handlers as machine
use Rattle.sc_model.specs.Handlers.{put, with_stack}
use Rattle.sc_model.specs.Sessions as sessions
use Rattle.sc_model.specs.Failures.{fail}
use Rattle.sc_model.specs.Answers as answers

-- what each step keeps, and what follows from it
pub record Keeps (G : World → Type 0) : Type 0 where
  pub kept : (w v : World) → Steps w v → G w → G v
  pub consistent : (w : World) → G w → IsConsistent w
  pub returns : (w : World) (h : ℕ) (r : Request) (P : Passed) → G w → Ends h r w → r.passed ≡ Some P
      → passing.give_back P (rights_of w) ≡ rights_of (give_back r.number w)

-- the topmost frame of h is f, and doesn't wait
pub record Going (w : World) (m : machine.World) (h : ℕ) (t : machine.Stage) (f : machine.Frame) (below : List machine.Frame) : Type 0 where
  pub stands : Stands w m
  pub here : h < m.count
  pub lives : (m.handlers h).failure ≡ None
  pub stack : (m.handlers h).stack ≡ f ∷ below
  pub quiet : waits_for (w.handlers h).stack ≡ None
  pub parts : AreBlocks (NamesOf t f) f.blocks (IsRoutine f (NeedsOf t f) (IsStack below)) (w.handlers h).stack

pub stays : (w : World) (m : machine.World) → Stands w m → Leads w m
stays w m s = record { world = w; steps = Still w; stands = s }

pub going_active : (w : World) (m : machine.World) (h : ℕ) (t : machine.Stage) (f : machine.Frame) (below : List machine.Frame)
    → Going w m h t f below → IsActive (w.handlers h)
going_active w m h t f below g = ((g.stands.handlers h).failed ∙ ap is_some g.lives, g.quiet)

-- ---- failure

-- a handler that may fail fails
pub fail_leads : (w : World) (m : machine.World) (h : ℕ) (why : Cause) → IsConsistent w → Stands w m → h < m.count → MayFail h w
    → Leads w (fail h why m)
fail_leads w m h why fine s here may =
    let x = s.handlers h in
    fails_leads h why [] w m fine (record { handlers = λ k ne. s.handlers k; rights = s.rights; new = s.new }) here may
    (λ k. same_waiters k (w.handlers h) (m.handlers h) x.stack x.requests x.callback)

pub going_fails : (w : World) (m : machine.World) (h : ℕ) (t : machine.Stage) (f : machine.Frame) (below : List machine.Frame) (why : Cause)
    → IsConsistent w → Going w m h t f below → Leads w (fail h why m)
going_fails w m h t f below why fine g =
    let active = going_active w m h t f below g in
    fail_leads w m h why fine g.stands g.here (record { lives = active.0; why = inl active.1 })

-- ---- the parts of a frame

pub record RoutineAt (f : machine.Frame) (N : List ℕ → Type 0) (B : List Frame → Type 0) (gs : List Frame) : Type 0 where
  pub frame : Frame
  pub below : List Frame
  pub is : gs ≡ frame ∷ below
  pub origin : IsOrigin frame.origin f.origin
  pub reserved : handlers_of frame.reserved ≡ f.reserved
  pub rest : B below
  pub needs : N frame.needs

pub routine_at : (f : machine.Frame) (N : List ℕ → Type 0) (B : List Frame → Type 0) (gs : List Frame) → IsRoutine f N B gs → RoutineAt f N B gs
routine_at f N B [] is = absurd is
routine_at f N B (g ∷ gs) is = record { frame = g; below = gs; is = refl; origin = is.0; reserved = is.1; rest = is.2; needs = is.3 }

pub record BlockAt (C : ℕ → List ℕ → Type 0) (ks : List ℕ) (kss : List (List ℕ)) (B : List Frame → Type 0) (gs : List Frame) : Type 0 where
  pub frame : Frame
  pub below : List Frame
  pub is : gs ≡ frame ∷ below
  pub origin : frame.origin ≡ None
  pub reserved : handlers_of frame.reserved ≡ ks
  pub quiet : waits_for below ≡ None
  pub rest : AreBlocks (λ i. C (suc i)) kss B below
  pub names : C 0 frame.needs

pub block_at : (C : ℕ → List ℕ → Type 0) (ks : List ℕ) (kss : List (List ℕ)) (B : List Frame → Type 0) (gs : List Frame)
    → AreBlocks C (ks ∷ kss) B gs → BlockAt C ks kss B gs
block_at C ks kss B [] is = absurd is
block_at C ks kss B (g ∷ gs) is = record { frame = g; below = gs; is = refl; origin = is.0; reserved = is.1; quiet = is.2; rest = is.3; names = is.4 }

pub blocks_map : (C D : ℕ → List ℕ → Type 0) (kss : List (List ℕ)) (f : machine.Frame) (N M : List ℕ → Type 0) (B : List Frame → Type 0)
    (gs : List Frame) → ((i : ℕ) (ks : List ℕ) → C i ks → D i ks) → ((ks : List ℕ) → N ks → M ks) → AreBlocks C kss (IsRoutine f N B) gs
    → AreBlocks D kss (IsRoutine f M B) gs
blocks_map C D [] f N M B [] names more is = is
blocks_map C D [] f N M B (g ∷ gs) names more is = (is.0, is.1, is.2, more g.needs is.3)
blocks_map C D (ks ∷ kss) f N M B [] names more is = is
blocks_map C D (ks ∷ kss) f N M B (g ∷ gs) names more is = (
  is.0,
  is.1,
  is.2,
  blocks_map (λ i. C (suc i)) (λ i. D (suc i)) kss f N M B gs (λ i. names (suc i)) more is.3,
  names 0 g.needs is.4,
)

-- where no block is to be left no name is asked for
pub no_names : (f : machine.Frame) (B : List Frame → Type 0) (gs : List Frame)
    → AreBlocks (NamesOf machine.Runs f) f.blocks (IsRoutine f (NeedsOf machine.Runs f) B) gs
    → AreBlocks (NamesOf machine.Runs (record f { tasks = [] })) f.blocks (IsRoutine f (NeedsOf machine.Runs f) B) gs
no_names f B gs is = blocks_map (NamesOf machine.Runs f) (NamesOf machine.Runs (record f { tasks = [] })) f.blocks f (NeedsOf machine.Runs f)
    (NeedsOf machine.Runs f) B gs (λ i ks c. tt) (λ ks c. c) is

-- ---- the end of a part

-- what a part has reserved is released, and the part is popped
pub record Ended (w : World) (h : ℕ) (g : Frame) (gs : List Frame) (n : machine.World) : Type 0 where
  pub released : Released h g gs (handlers_of g.reserved) w
  pub active : IsActive (released.world.handlers h)
  pub at : (released.world.handlers h).stack ≡ record g { reserved = []; needs = released.needs } ∷ gs
  pub stands : Stands (pop h released.world) n

-- the machine has the stack `st` under it, perhaps with more changed that doesn't count
pub ends_part : (w : World) (m n : machine.World) (h : ℕ) (st : List machine.Frame) (how : Release) (g : Frame) (gs : List Frame) (ks : List ℕ)
    → Stands w m → h < m.count → IsActive (w.handlers h) → (w.handlers h).stack ≡ g ∷ gs → handlers_of g.reserved ≡ ks → Put h st m n
    → n.rights ≡ m.rights → IsStack st gs
    → Ended w h g gs (sessions.release how ks n)
ends_part w m n h st how g gs ks s here active at has put same is =
    let o : machine.World = sessions.release how ks n in
    let rel : Released h g gs (handlers_of g.reserved) w = releases h g.reserved g gs w active at refl in
    let v = rel.world in
    let h' : Frame = record g { reserved = []; needs = rel.needs } in
    let free : g.waits ≡ None = sym (ap waits_for at) ∙ active.1 in
    let there : (v.handlers h).stack ≡ h' ∷ gs = restacked_stack h (h' ∷ gs) w v rel.stack in
    record {
      released = rel;
      active = restacked_active h (h' ∷ gs) w v rel.stack active.0 free;
      at = there;
      stands = stands_put h st gs w (pop h v) m o s here (restacked_again h (h' ∷ gs) gs w v (pop h v) rel.stack (popping h h' gs v there))
          (put_more h st m n o put (λ k. looks_ended (ends_session how && is_among k ks) (n.handlers k)) refl)
          is
          (released_rights h g gs (handlers_of g.reserved) w rel ∙ ap (λ l. rights.release l (rights_of w)) has
          ∙ ap (rights.release ks) (s.rights ∙ sym same))
          (λ k le. released_beyond h g gs (handlers_of g.reserved) w rel k);
    }

-- then it ends without an answer
pub ended_leads : (w : World) (h : ℕ) (g : Frame) (gs : List Frame) (n : machine.World) → AnswersNobody g.origin → Ended w h g gs n → Leads w n
ended_leads w h g gs n nobody e =
    let v = e.released.world in
    record {
      world = pop h v;
      steps = joined w v (pop h v) e.released.steps (one v (pop h v)
          (Pops h (record g { reserved = []; needs = e.released.needs }) gs e.active e.at refl nobody));
      stands = e.stands;
    }

-- or it is a request that ends
pub ended_finishes : (G : World → Type 0) (K : Keeps G) (w : World) (h : ℕ) (g : Frame) (gs : List Frame) (n : machine.World) (a : Answer)
    (b : machine.Answer) (r : Request) (q : machine.Request)
    → G w → h < n.count → IsReply a b → g.origin ≡ Some r → IsRequest r q → Ended w h g gs n → Leads w (answers.finish q b n)
ended_finishes G K w h g gs n a b r q good here reply begun is e = by q.is_waited refl
  where
    answers_reply : (a : Answer) (b : machine.Answer) → IsReply a b → answered (Some a) ≡ true
    answers_reply a b (Replied v) = refl
    answers_reply a b Refuses = refl

    by : (c : Bool) → q.is_waited ≡ c → Leads w (answers.finish q b n)
    by false e' =
        let l : Leads w n = ended_leads w h g gs n (subst AnswersNobody (sym begun) (is.waited ∙ e')) e in
        record { world = l.world; steps = l.steps; stands = finish_unwaited b r q l.world n l.stands is e' }
    by true e' =
        let v = e.released.world in
        let at = e.at in
        let good' : G v = K.kept w v e.released.steps good in
        let ends : Ends h r v = record {
          active = e.active;
          frame = record g { reserved = []; needs = e.released.needs };
          below = gs;
          stack = e.at;
          begun = begun;
          waited = is.waited ∙ e';
        } in
        record {
          world = finish a h r v;
          steps = joined w v (finish a h r v) e.released.steps
              (one v (finish a h r v) (Finishes a h r (answers_reply a b reply) ends (subst HasReleased (sym at) refl)));
          stands = finish_stands a b h r q v n reply e.stands is e' (λ P has. K.returns v h r P good' ends has)
              (λ k le same. poster_exists h r (record g { reserved = []; needs = e.released.needs }) gs v (K.consistent v good') e.at begun
              (is.waited ∙ e')
              (subst (λ y. IsNew (v.handlers y)) same (before k (λ kh. omega (arith, le, here, kh)) (e.stands.new k le).0)));
        }
      where
        before : (k : ℕ) → k ≢ h → IsNew ((pop h e.released.world).handlers k) → IsNew (e.released.world.handlers k)
        before k ne is = subst IsNew ((popping h (record g { reserved = []; needs = e.released.needs }) gs e.released.world e.at).others k ne) is
