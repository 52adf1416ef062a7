-- What is kept of a handler that has not failed: each object meets its class invariant, or is Current of a routine that is tested as it ends.
use Rattle.std.proofs.Common.{◌≡◌, ◌≢◌, ◌⊎◌, ⊎_elim, inl, inr, ℕ, ◌+◌, Bool, true, false, List, [], ◌∷◌, ◌++◌, Option, Some, None, length, sym, ap, subst, ◌∙◌}
use Rattle.sc_tree.specs.Plain.{System}
use Rattle.sc_rules.specs.declared.entity_types.entity_type.EntityType.{EntityType}
use Rattle.sc_rules.specs.Names.{RoutineName}
use Rattle.sc_model.specs.Exits.{handed, handed_as, handed_at}
use Rattle.sc_model.specs.Handlers.{Request, Origin, Called, Requested, Stage, Runs, Reserves, ReservesBlock, InCall, Awaits, Frame, Handler}
use Rattle.sc_model.specs.Invariants.{MeetsInvariant, meets_invariant}
use Rattle.sc_model.specs.Objects.{Object, fresh_object, object_numbered}
use Rattle.sc_model.specs.Preconditions.{is_creation}
use Rattle.sc_model.specs.Steps.{Unqualified, Qualified, Creation}
use Rattle.sc_model.specs.Values.{Value}
use Rattle.sc_machine_laws.specs.states.Points.{Each}
use Rattle.sc_machine_laws.proofs.states.Lists.{each_append}
use Rattle.sc_machine_laws.proofs.InvariantTests.{tested_meets}
use Rattle.sc_machine_laws.proofs.Modes.{IsWildAs, StandsAs, name_of}
use Rattle.sc_machine_laws.proofs.Moves.{Meets, same_or_not}
use Rattle.sc_machine_laws.proofs.Numbered.{none_there, numbered_last, numbered_push}

-- however the frame goes its object is tested: a routine that no request called is not refused, and a creation that is refused is tested
abbrev pub is_tested_always : Origin → Bool
is_tested_always (Called Unqualified) = false
is_tested_always (Called Qualified) = true
is_tested_always (Called Creation) = true
is_tested_always (Requested r) = is_creation r.errand

-- none of the requests makes an object
abbrev pub AllCalls : List Request → Type 0
AllCalls rs = Each (λ (r : Request). is_creation r.errand ≡ false) rs

-- the creation of the first object comes first
abbrev pub FirstMakes : List Request → Type 0
FirstMakes [] = ⊥
FirstMakes (r ∷ rs) = (r.target.number ≡ 1) × AllCalls rs

abbrev pub CallsIfAny : Option Request → Type 0
CallsIfAny None = Unit {0}
CallsIfAny (Some r) = is_creation r.errand ≡ false

-- Only a handler without objects is asked to make one, and that first.
abbrev pub MakesFirst : List Object → List Frame → List Request → Type 0
MakesFirst objects stack queue = AllCalls queue ⊎ ((objects ≡ []) × ((stack ≡ []) × FirstMakes queue))

module _ (s : System) (pure : RoutineName → Bool) where
  -- the frame's routine stands so in its run
  abbrev pub Stands : Frame → Type 0
  Stands f = StandsAs s pure f.routine f.text.class f.tasks

  -- it is no pure function, and has started
  abbrev pub IsWild : Frame → Type 0
  IsWild f = IsWildAs pure f.routine f.text.class f.tasks

  -- the object of the number is Current of the frame, which is tested
  abbrev pub CoversNumber : ℕ → Frame → Type 0
  CoversNumber n f = (f.current.number ≡ n) × ((is_tested_always f.origin ≡ true) ⊎ IsWild f)

  -- it is so of one of the frames
  abbrev pub Covered : ℕ → List Frame → Type 0
  Covered n [] = ⊥
  Covered n (f ∷ below) = CoversNumber n f ⊎ Covered n below

  -- An unqualified call is of Current of the frame below, and of a pure function unless that has started and runs none.
  abbrev pub LinkedAs : Origin → ℕ → RoutineName → List Frame → Type 0
  LinkedAs o n r [] = o ≡ Called Unqualified → ⊥
  LinkedAs o n r (g ∷ below) = o ≡ Called Unqualified → (g.current.number ≡ n) × ((pure r ≡ true) ⊎ IsWild g)

  abbrev pub Links : List Frame → Type 0
  Links [] = Unit {0}
  Links (f ∷ below) = LinkedAs f.origin f.current.number (name_of f.routine) below × Links below

  -- What is kept of these objects, frames and requests of a handler: how each routine stands in its run, which calls stand on which, that each object
  -- meets its invariant or is covered by a frame, and which requests may make an object.
  pub record GoodAt (objects : List Object) (stack : List Frame) (queue : List Request) (callback : Option Request) : Type 0 where
    pub stand : Each Stands stack
    pub links : Links stack
    pub meet : (n : ℕ) → Meets s objects n ⊎ Covered n stack
    pub first : MakesFirst objects stack queue
    pub calls : CallsIfAny callback

  -- So it is of the handler, unless it has failed.
  abbrev pub Good : Handler → Type 0
  Good x = x.failure ≡ None → GoodAt x.objects x.stack x.queue x.callback

  module _ (queue : List Request) (callback : Option Request) where
    pub calls_alone : (objects : List Object) (f : Frame) (below : List Frame) → GoodAt objects (f ∷ below) queue callback → AllCalls queue
    calls_alone objects f below g = by g.first
      where
        by : MakesFirst objects (f ∷ below) queue → AllCalls queue
        by (inl c) = c
        by (inr d) = let no : f ∷ below ≡ [] = d.1.0 in cc

    -- another frame stands on top, which covers what the one before did
    pub retop : (objects : List Object) (f g : Frame) (below : List Frame) → Stands g → LinkedAs g.origin g.current.number (name_of g.routine) below →
        ((n : ℕ) → CoversNumber n f → CoversNumber n g) → GoodAt objects (f ∷ below) queue callback → GoodAt objects (g ∷ below) queue callback
    retop objects f g below z l c y = record {
      stand = (z, y.stand.1);
      links = (l, y.links.1);
      meet = λ n. by n (y.meet n);
      first = inl (calls_alone objects f below y);
      calls = y.calls;
    }
      where
        by : (n : ℕ) → Meets s objects n ⊎ Covered n (f ∷ below) → Meets s objects n ⊎ Covered n (g ∷ below)
        by n (inl m) = inl m
        by n (inr (inl k)) = inr (inl (c n k))
        by n (inr (inr k)) = inr (inr k)

    -- the result comes to the frame below
    pub handed_as_good : (objects : List Object) (gives : Option EntityType) (v : Option Value) (f : Frame) (below : List Frame) → GoodAt objects (f ∷ below) queue callback →
        GoodAt objects (handed_as gives v f ∷ below) queue callback
    handed_as_good objects (Some t) (Some v) f below y = retop objects f (handed_as (Some t) (Some v) f) below y.stand.0 y.links.0 (λ n c. c) y
    handed_as_good objects (Some t) None f below y = retop objects f (handed_as (Some t) None f) below y.stand.0 y.links.0 (λ n c. c) y
    handed_as_good objects None v f below y = retop objects f (handed_as None v f) below y.stand.0 y.links.0 (λ n c. c) y

    pub handed_good : (objects : List Object) (v : Option Value) (below : List Frame) → GoodAt objects below queue callback → GoodAt objects (handed v below) queue callback
    handed_good objects v [] y = y
    handed_good objects v (f ∷ below) y = by f.stage
      where
        by : (st : Stage) → GoodAt objects (handed_at st v f ∷ below) queue callback
        by (InCall gives) = handed_as_good objects gives v f below y
        by Runs = y
        by Reserves = y
        by ReservesBlock = y
        by (Awaits k gives c) = y

    -- a frame comes onto the others
    pub push : (objects : List Object) (f : Frame) (below : List Frame) → Stands f → LinkedAs f.origin f.current.number (name_of f.routine) below → AllCalls queue →
        GoodAt objects below queue callback → GoodAt objects (f ∷ below) queue callback
    push objects f below z l c y = record {
      stand = (z, y.stand);
      links = (l, y.links);
      meet = λ n. ⊎_elim (λ m. inl m) (λ k. inr (inr k)) (y.meet n);
      first = inl c;
      calls = y.calls;
    }

    last_meets : (objects : List Object) (o : Object) → MeetsInvariant s o → (n : ℕ) → n ≡ length objects + 1 → Meets s (objects ++ o ∷ []) n
    last_meets objects o m n e q i =
        let same : Some o ≡ Some q = sym (numbered_last objects o) ∙ sym (ap (λ n. object_numbered n (objects ++ o ∷ [])) e) ∙ i in
        let it : o ≡ q = cc in subst (MeetsInvariant s) it m

    pushed_meet : (objects : List Object) (o : Object) (n : ℕ) → n ≢ length objects + 1 → Meets s objects n → Meets s (objects ++ o ∷ []) n
    pushed_meet objects o n ne m q i = m q (sym (numbered_push objects o n ne) ∙ i)

    -- with a new object, which it makes
    pub push_new : (objects : List Object) (o : Object) (f : Frame) (below : List Frame) → Stands f → LinkedAs f.origin f.current.number (name_of f.routine) below →
        AllCalls queue → f.current.number ≡ length objects + 1 → is_tested_always f.origin ≡ true → GoodAt objects below queue callback →
        GoodAt (objects ++ o ∷ []) (f ∷ below) queue callback
    push_new objects o f below z l c e t y = record {
      stand = (z, y.stand);
      links = (l, y.links);
      meet = λ n. ⊎_elim (λ i. inr (inl (e ∙ sym i, inl t)))
          (λ ne. ⊎_elim (λ m. inl (pushed_meet objects o n ne m)) (λ k. inr (inr k)) (y.meet n))
          (same_or_not n (length objects + 1));
      first = inl c;
      calls = y.calls;
    }

    -- a new object, which meets its invariant
    pub add_new : (objects : List Object) (k : ℕ) (below : List Frame) → AllCalls queue → meets_invariant s (fresh_object s k) ≡ true → GoodAt objects below queue callback →
        GoodAt (objects ++ fresh_object s k ∷ []) below queue callback
    add_new objects k below c t y = record {
      stand = y.stand;
      links = y.links;
      meet = λ n. ⊎_elim (λ i. inl (last_meets objects (fresh_object s k) (tested_meets s (fresh_object s k) t) n i))
          (λ ne. ⊎_elim (λ m. inl (pushed_meet objects (fresh_object s k) n ne m)) (λ k. inr k) (y.meet n))
          (same_or_not n (length objects + 1));
      first = inl c;
      calls = y.calls;
    }

  -- ---- requests

  first_more : (queue : List Request) (r : Request) → FirstMakes queue → is_creation r.errand ≡ false → FirstMakes (queue ++ r ∷ [])
  first_more [] r f e = absurd f
  first_more (q ∷ queue) r f e = (f.0, each_append (λ (r : Request). is_creation r.errand ≡ false) queue (r ∷ []) f.1 (e, tt))

  pub queued_good : (objects : List Object) (stack : List Frame) (queue : List Request) (callback : Option Request) (r : Request) → is_creation r.errand ≡ false →
      GoodAt objects stack queue callback → GoodAt objects stack (queue ++ r ∷ []) callback
  queued_good objects stack queue callback r e y = record { stand = y.stand; links = y.links; meet = y.meet; first = by y.first; calls = y.calls }
    where
      by : MakesFirst objects stack queue → MakesFirst objects stack (queue ++ r ∷ [])
      by (inl c) = inl (each_append (λ (r : Request). is_creation r.errand ≡ false) queue (r ∷ []) c (e, tt))
      by (inr d) = inr (d.0, (d.1.0, first_more queue r d.1.1 e))

  pub called_good : (objects : List Object) (stack : List Frame) (queue : List Request) (callback : Option Request) (r : Request) → is_creation r.errand ≡ false →
      GoodAt objects stack queue callback → GoodAt objects stack queue (Some r)
  called_good objects stack queue callback r e y = record { stand = y.stand; links = y.links; meet = y.meet; first = y.first; calls = e }

  -- a handler without objects, which is asked for nothing but to make one
  pub empty_good : (queue : List Request) → MakesFirst [] [] queue → GoodAt [] [] queue None
  empty_good queue f = record { stand = tt; links = tt; meet = λ n. inl (none_meets n); first = f; calls = tt }
    where
      none_meets : (n : ℕ) → Meets s [] n
      none_meets n o i = let no : None ≡ Some o = sym (none_there n) ∙ i in cc

  -- no frame begun by a request is linked to the one below it
  pub requested_linked : (r : Request) (n : ℕ) (x : RoutineName) (below : List Frame) → LinkedAs (Requested r) n x below
  requested_linked r n x [] = λ e. cc
  requested_linked r n x (g ∷ below) = λ e. cc
