-- Frames that stand below the topmost one follow again, where nothing that they rest on has changed.
use Rattle.std.proofs.Common.{ℕ, ◌≡◌, ◌≢◌, ◌⊎◌, Bool, true, false, List, [], ◌∷◌, Option, Some, None, refl, sym, ap, subst, ◌∙◌, inl, inr}
use Rattle.sc_tree.specs.Plain.{System}
use Rattle.sc_rules.specs.Names.{RoutineName}
use Rattle.sc_model.specs.Values.{Reference, Value, Operand, values_of}
use Rattle.sc_model.specs.Environments.{Binding, formals_bound}
use Rattle.sc_model.specs.Objects.{Object}
use Rattle.sc_model.specs.Routines.{Routine}
use Rattle.sc_model.specs.Steps.{Calling, Enters}
use Rattle.sc_model.specs.Handlers.{Answer, Stage, Runs, Reserves, ReservesBlock, InCall, Awaits, Frame, World, point_of}
use Rattle.sc_machine_laws.specs.states.Headline.{is_awaiting}
use Rattle.sc_machine_laws.specs.settlements.Calm.{name_of}
use Rattle.sc_machine_laws.specs.settlements.Entries.{HasStarted}
use Rattle.sc_machine_laws.specs.Following.{objects_of, MayAsk, bound_in, between_point, ClausesAt, ClauseDone, PureAt, PureCalls, IsFor, AboveIsFor, FollowsPure, AwaitsOf, IsQuiet, is_called, IsCalledPure, StandsByStage, InPrecondition, IsLost, AboveIsPure, FrameFollows, StackFollows}
use Rattle.sc_machine_laws.specs.Following as following
use Rattle.sc_machine_laws.proofs.OwnWorlds.{IsNoReply, IsSame}
use Rattle.sc_machine_laws.proofs.Lists.{some_is_none}

-- ---- frames that are alike

-- They run the same routine on the same object, with the same actuals, and were called alike.
pub record IsAlike (f g : Frame) : Type 0 where
  pub current_is : g.current ≡ f.current
  pub routine_is : g.routine ≡ f.routine
  pub origin_is : g.origin ≡ f.origin
  pub bound_is : bound_in g ≡ bound_in f

pub alike_itself : (f : Frame) → IsAlike f f
alike_itself f = record { current_is = refl; routine_is = refl; origin_is = refl; bound_is = refl }

pub alike_pure : (pure : RoutineName → Bool) (f g : Frame) → IsAlike f g → IsCalledPure pure f → IsCalledPure pure g
alike_pure pure f g a z = (ap is_called a.origin_is ∙ z.0, ap (λ (r : Routine). pure (name_of r)) a.routine_is ∙ z.1)

pub alike_for : (s : System) (o : Reference) (x : List ℕ) (vs : List Value) (f g : Frame) → IsAlike f g →
    IsFor s o x vs f → IsFor s o x vs g
alike_for s o x vs f g a i = record {
  current_is = a.current_is ∙ i.current_is;
  routine_is = i.routine_is ∙ ap (λ (r : Routine). Some r) (sym a.routine_is);
  bound_is = ap (λ (r : Routine). formals_bound s r.text.formals 0 r.text.formals vs) a.routine_is ∙ i.bound_is
      ∙ ap (λ (bs : List Binding). Some bs) (sym a.bound_is);
}

-- ---- what a frame below another one rests on: the objects

abbrev ByObjects : System → (ℕ → List Object) → ℕ → List ℕ → Frame → Frame → Stage → Type 0
ByObjects s O h asked above g Runs = ClausesAt s (MayAsk h asked) O g.current g.routine (bound_in g) (point_of g (O h))
ByObjects s O h asked above g Reserves = (asked ≡ [])
    × (point_of g (O h) ≡ between_point O g.current g.routine (bound_in g) g.routine.require)
ByObjects s O h asked above g (InCall (Some t)) = (c : Calling) × (o : Reference) × (x : List ℕ) × (us : List Operand) ×
    ClauseDone s (MayAsk h asked) O g.current g.routine (bound_in g) (Enters c o x us (Some t)) (point_of g (O h))
    × (o.handler ≡ h) × IsFor s o x (values_of us) above
ByObjects s O h asked above g stage = ⊥

module _ (s : System) (pure : RoutineName → Bool) (w : World) (h : ℕ) (asked : List ℕ) (f g : Frame) where
  by_objects : (st : Stage) → StandsByStage s pure w h asked (Some f) g st → ByObjects s (objects_of w) h asked f g st
  by_objects Runs z = z
  by_objects Reserves z = z
  by_objects ReservesBlock z = absurd z
  by_objects (InCall (Some t)) z = z
  by_objects (InCall None) z = absurd z
  by_objects (Awaits k (Some t) false) (o, x, us, done, at, other, none, runs, pending) = some_is_none none
  by_objects (Awaits k (Some t) true) z = absurd z
  by_objects (Awaits k None c) z = absurd z

  of_objects : (st : Stage) → ByObjects s (objects_of w) h asked f g st → StandsByStage s pure w h asked (Some f) g st
  of_objects Runs z = z
  of_objects Reserves z = z
  of_objects ReservesBlock z = absurd z
  of_objects (InCall (Some t)) z = z
  of_objects (InCall None) z = absurd z
  of_objects (Awaits k gives c) z = absurd z

alike_objects : (s : System) (O : ℕ → List Object) (h : ℕ) (asked : List ℕ) (f f' g : Frame) → IsAlike f f' →
    (st : Stage) → ByObjects s O h asked f g st →
    ByObjects s O h asked f' g st
alike_objects s O h asked f f' g a Runs z = z
alike_objects s O h asked f f' g a Reserves z = z
alike_objects s O h asked f f' g a ReservesBlock z = absurd z
alike_objects s O h asked f f' g a (InCall (Some t)) (c, o, x, us, done, at, calls) =
    (c, o, x, us, done, at, alike_for s o x (values_of us) f f' a calls)
alike_objects s O h asked f f' g a (InCall None) z = absurd z
alike_objects s O h asked f f' g a (Awaits k gives c) z = absurd z

pub alike_calls : (s : System) (O : ℕ → List Object) (f f' g : Frame) → IsAlike f f' → (st : Stage) →
    FollowsPure s O (Some f) g st → FollowsPure s O (Some f') g st
alike_calls s O f f' g a Runs z = z
alike_calls s O f f' g a Reserves z = absurd z
alike_calls s O f f' g a ReservesBlock z = absurd z
alike_calls s O f f' g a (InCall (Some t)) (following.before ts i c e r) = following.before ts i c e r
alike_calls s O f f' g a (InCall (Some t)) (following.during {c} {o} {x} {us} here done calls) =
    following.during here done (alike_for s o x (values_of us) f f' a calls)
alike_calls s O f f' g a (InCall (Some t)) (following.behind ran over result c) = following.behind ran over result c
alike_calls s O f f' g a (InCall None) z = absurd z
alike_calls s O f f' g a (Awaits k gives c) z = absurd z

-- ---- frames below

-- what was quiet is still, where the frame doesn't wait
pub not_awaited : (st : Stage) (k : ℕ) (P : Type 0) → is_awaiting st ≡ false → P ⊎ AwaitsOf st k → P
not_awaited st k P n (inl p) = p
not_awaited Runs k P n (inr z) = absurd z
not_awaited Reserves k P n (inr z) = absurd z
not_awaited ReservesBlock k P n (inr z) = absurd z
not_awaited (InCall gives) k P n (inr z) = absurd z
not_awaited (Awaits j gives c) k P n (inr z) = cc

module _ (s : System) (pure : RoutineName → Bool) (h : ℕ) (w v : World) (same : IsSame h w v) where
  precondition_kept : (f f' g : Frame) → IsAlike f f' → InPrecondition s pure w h (Some f) g →
      InPrecondition s pure v h (Some f') g
  precondition_kept f f' g a z = record {
    asked = z.asked;
    quiet = λ k c. let q = z.quiet k c in (q.0, still k q.0 q.1);
    environment_is = z.environment_is;
    stands = of_objects s pure v h z.asked f' g g.stage
        (subst (λ (O : ℕ → List Object). ByObjects s O h z.asked f' g g.stage) (sym same.objects_are)
        (alike_objects s (objects_of w) h z.asked f f' g a g.stage
        (by_objects s pure w h z.asked f g g.stage z.stands)));
  }
    where
      still : (k : ℕ) → k ≢ h → IsQuiet w h k ⊎ AwaitsOf g.stage k → IsQuiet v h k ⊎ AwaitsOf g.stage k
      still k ne (inl q) = inl (same.quiet k ne q)
      still k ne (inr i) = inr i

  frame_kept : (f f' g : Frame) → IsAlike f f' → FrameFollows s pure w h (Some f) g →
      FrameFollows s pure v h (Some f') g
  frame_kept f f' g a z = record {
    in_precondition = by z.in_precondition;
    in_pure = λ e. let i = z.in_pure e in (
      alike_pure pure f f' a i.0,
      subst (λ (O : ℕ → List Object). FollowsPure s O (Some f') g g.stage) (sym same.objects_are)
          (alike_calls s (objects_of w) f f' g a g.stage i.1),
    );
    is_bound = z.is_bound;
    reserves_nothing = z.reserves_nothing;
  }
    where
      by : HasStarted g.tasks ⊎ (IsLost w h g ⊎ (AboveIsPure pure (Some f) × InPrecondition s pure w h (Some f) g)) →
          HasStarted g.tasks ⊎ (IsLost v h g ⊎ (AboveIsPure pure (Some f') × InPrecondition s pure v h (Some f') g))
      by (inl i) = inl i
      by (inr (inl i)) = inr (inl (i.0, same.no_reply i.1))
      by (inr (inr (p, i))) = inr (inr (alike_pure pure f f' a p, precondition_kept f f' g a i))

  -- The frames below follow, under another frame that is like the one that was there.
  pub below_kept : (f f' : Frame) (below : List Frame) → IsAlike f f' → StackFollows s pure w h (Some f) below →
      StackFollows s pure v h (Some f') below
  below_kept f f' [] a z = tt
  below_kept f f' (g ∷ below) a z = (frame_kept f f' g a z.0, below_kept g g below (alike_itself g) z.1)

-- ---- frames that follow nothing

-- The routine has started, or waits and there will be no reply; and it is no pure function.
abbrev pub IsPlain : (RoutineName → Bool) → Option Answer → Frame → Type 0
IsPlain pure a f = (HasStarted f.tasks ⊎ ((is_awaiting f.stage ≡ true) × IsNoReply a))
    × (pure (name_of f.routine) ≡ true → ⊥)

abbrev pub AllPlain : (RoutineName → Bool) → Option Answer → List Frame → Type 0
AllPlain pure a [] = Unit {0}
AllPlain pure a (f ∷ below) = IsPlain pure a f × AllPlain pure a below

-- Below a frame that its own handler didn't call, or that runs no pure function, there are no others.
pub plain_below : (s : System) (pure : RoutineName → Bool) (w : World) (h : ℕ) (f : Frame) (below : List Frame) →
    StackFollows s pure w h (Some f) below →
    (IsCalledPure pure f → ⊥) → AllPlain pure (w.handlers h).answer below
plain_below s pure w h f [] z other = tt
plain_below s pure w h f (g ∷ below) z other = (
  (by z.0.in_precondition, λ e. other (z.0.in_pure e).0),
  plain_below s pure w h g below z.1
      (λ c. other (z.0.in_pure c.1).0),
)
  where
    by : HasStarted g.tasks ⊎ (IsLost w h g ⊎ (AboveIsPure pure (Some f) × InPrecondition s pure w h (Some f) g)) →
        HasStarted g.tasks ⊎ ((is_awaiting g.stage ≡ true) × IsNoReply (w.handlers h).answer)
    by (inl i) = inl i
    by (inr (inl i)) = inr i
    by (inr (inr (p, i))) = absurd (other p)

pub plain_follows : (s : System) (pure : RoutineName → Bool) (v : World) (h : ℕ) (above : Option Frame)
    (st : List Frame) → AllPlain pure (v.handlers h).answer st →
    StackFollows s pure v h above st
plain_follows s pure v h above [] z = tt
plain_follows s pure v h above (g ∷ below) z = (
  record {
    in_precondition = by z.0.0;
    in_pure = λ e. absurd (z.0.1 e);
    is_bound = λ e. absurd (z.0.1 e);
    reserves_nothing = λ e. absurd (z.0.1 e);
  },
  plain_follows s pure v h (Some g) below z.1,
)
  where
    by : HasStarted g.tasks ⊎ ((is_awaiting g.stage ≡ true) × IsNoReply (v.handlers h).answer) →
        HasStarted g.tasks ⊎ (IsLost v h g ⊎ (AboveIsPure pure above × InPrecondition s pure v h above g))
    by (inl i) = inl i
    by (inr i) = inr (inl i)

pub plain_kept : (pure : RoutineName → Bool) (a b : Option Answer) (st : List Frame) → (IsNoReply a → IsNoReply b) →
    AllPlain pure a st → AllPlain pure b st
plain_kept pure a b [] n z = tt
plain_kept pure a b (f ∷ below) n z = ((by z.0.0, z.0.1), plain_kept pure a b below n z.1)
  where
    by : HasStarted f.tasks ⊎ ((is_awaiting f.stage ≡ true) × IsNoReply a) → HasStarted f.tasks
        ⊎ ((is_awaiting f.stage ≡ true) × IsNoReply b)
    by (inl i) = inl i
    by (inr i) = inr (i.0, n i.1)
