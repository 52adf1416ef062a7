-- Chains of waits in the machine, and who is kept for a request, are those of the lawful world of rights for which it stands.
use Rattle.std.proofs.Common.{◌≡◌, ⊎_elim, inl, inr, ℕ, ◌&&◌, List, [], ◌∷◌, ◌++◌, Option, Some, None, Bool, true, false, not, refl, sym, ap, ◌∙◌, subst}
use Rattle.std.specs.Prelude.{Contains, is_some}
use Rattle.std.specs.Option.{is_none}
use Rattle.std.specs.List.{flat_map}
use Rattle.sc_lockpass.specs.Rights.{Rights}
use Rattle.sc_lockpass.specs.wait_conditions.Reservations.{Standing, may_be_reserved}
use Rattle.sc_model.specs.Handlers as machine
use Rattle.sc_model.specs.Sessions.{has_frames, has_requests, standing_in}
use Rattle.sc_model.specs.Failures.{request_of, to_list}
use Rattle.sc_model.specs.Chains.{WaitsFor, waits, InChain, poster, further}
use Rattle.sc_machine_laws.specs.states.World.{Grant, Wait, Request, Frame, World, holder, and_this, and_begun}
use Rattle.sc_machine_laws.specs.states.Steps.{waits_for}
use Rattle.sc_machine_laws.specs.states.Consistent.{StackWaits, IsOne}
use Rattle.sc_machine_laws.specs.states.Chains as chains
use Rattle.sc_machine_laws.specs.states.Chains.{WaitsOn}
use Rattle.sc_machine_laws.specs.states.Lawful.{IsLawful}
use Rattle.sc_machine_laws.specs.states.Stands.{NeedsOf, NamesOf, AreRequests, IsCallback, IsRoutine, AreBlocks, place_of, IsStack, Stands}
use Rattle.sc_machine_laws.specs.states.Headline.{TargetsAreKept, ChainsHold}
use Rattle.sc_machine_laws.proofs.states.Waits.{true_false, popped_stack}
use Rattle.sc_machine_laws.proofs.states.LawProofs.{kept_for_request, chain_holds}
use Rattle.sc_machine_laws.proofs.states.MachineFrames.{AwaitsOf, contains_cases, contains_first, contains_later, contains_none, none_some, none_waits, staged_awaits, staged_of, staged_parted}

-- ---- waits of the two stacks

pub waits_there : (k : ℕ) (st : List machine.Frame) (gs : List Frame) (f : machine.Frame) → IsStack st gs → Contains st f
    → AwaitsOf k f → (v : Wait) × StackWaits v gs × (v.target ≡ k)
waits_there k [] gs f is i a = contains_none f i
waits_there k (g ∷ st) gs f is i a =
    let p = staged_parted (NamesOf g.stage g) g.stage (place_of g st) g (NeedsOf g.stage g) (IsStack st) gs is in
    ⊎_elim
    (λ here.
    let w = staged_awaits k a.gives a.is_creation g.stage (place_of g st) (AreBlocks (NamesOf g.stage g) g.blocks (IsRoutine g (NeedsOf g.stage g) (IsStack st))) gs
    (ap (λ (x : machine.Frame). x.stage) here ∙ a.stage) is in
    (w.wait, first gs w.wait w.waits, w.target))
    (λ there. let r = waits_there k st p.rest f p.below there a in (r.0, popped_stack r.0 gs (p.more r.0 r.1), r.2))
    (contains_cases g st f i)
  where
    first : (gs : List Frame) (v : Wait) → waits_for gs ≡ Some v → StackWaits v gs
    first [] v e = absurd (none_waits v [] refl e)
    first (g ∷ gs) v e = inl e

-- a frame of the machine's waits for the target
record WaitsHere (st : List machine.Frame) (k : ℕ) : Type 0 where
  frame : machine.Frame
  stands : Contains st frame
  awaits : AwaitsOf k frame

waits_here : (st : List machine.Frame) (gs : List Frame) (v : Wait) → IsStack st gs → StackWaits v gs
    → WaitsHere st v.target
waits_here [] [] v is s = absurd s
waits_here [] (g ∷ gs) v is s = absurd is
waits_here (f ∷ st) gs v is s =
    let p = staged_parted (NamesOf f.stage f) f.stage (place_of f st) f (NeedsOf f.stage f) (IsStack st) gs is in
    ⊎_elim
    (λ at. record {
      frame = f;
      stands = contains_first f st;
      awaits = staged_of f (place_of f st)
          (AreBlocks (NamesOf f.stage f) f.blocks (IsRoutine f (NeedsOf f.stage f) (IsStack st))) gs v is at;
    })
    (λ low. let r = waits_here st p.rest v p.below low in record
    { frame = r.frame; stands = contains_later f st r.frame r.stands; awaits = r.awaits })
    (p.less v s)

-- ---- chains

module _ (t : World) (m : machine.World) (law : IsLawful t) (stands : Stands t m) where
  waits_on : (p k : ℕ) → WaitsFor m p k → WaitsOn t p k
  waits_on p k (waits {f} {gives} {is_creation} i e) =
      waits_there k (m.handlers p).stack (t.handlers p).stack f (stands.handlers p).stack i
      (record { gives = gives; is_creation = is_creation; stage = e })

  pub waits_for_it : (p k : ℕ) → WaitsOn t p k → WaitsFor m p k
  waits_for_it p k (v, s, to) =
      let r = waits_here (m.handlers p).stack (t.handlers p).stack v (stands.handlers p).stack s in
      subst (WaitsFor m p) to (waits r.stands r.awaits.stage)

  in_chain : (p z : ℕ) → chains.InChain t p z → InChain m p z
  in_chain p z chains.Here = poster
  in_chain p z (chains.Next {x} {y} c a) = further (in_chain p x c) (waits_for_it x z a)

  chain_back : (p z : ℕ) → InChain m p z → chains.InChain t p z
  chain_back p z poster = chains.Here
  chain_back p z (further {j} {k} c a) = chains.Next (chain_back p j c) (waits_on j z a)

  pub lives_there : (z : ℕ) → (m.handlers z).failure ≡ None → (t.handlers z).failed ≡ false
  lives_there z e = (stands.handlers z).failed ∙ ap is_some e

  pub queue_is : (k : ℕ) → holder (t.queue k) ≡ m.rights.queue k
  queue_is k = ap (λ (r : Rights). r.queue k) stands.rights

  top_is : (k : ℕ) → holder (t.top k) ≡ m.rights.top k
  top_is k = ap (λ (r : Rights). r.top k) stands.rights

  pub machine_chains_hold : ChainsHold m
  machine_chains_hold p k a alive =
      let c = chain_holds t law p k (waits_on p k a) (λ z i. lives_there z (alive z (in_chain p z i))) in
      (c.0, ⊎_elim (λ e. inl (sym (queue_is k) ∙ e)) (λ e. inr (sym (top_is k) ∙ e)) c.1, in_chain p c.0 c.2)

-- ---- kept for the request

only_callback : (qs : List machine.Request) (c : Option machine.Request) (st : List machine.Frame)
    (r : machine.Request) → has_requests qs ≡ false → has_frames st ≡ false
    → Contains (qs ++ to_list c ++ flat_map (λ (f : machine.Frame). request_of f.origin) st) r → (q : machine.Request)
    × (c ≡ Some q)
only_callback (q ∷ qs) c st r e f i = true_false e
only_callback [] (Some q) st r e f i = (q, refl)
only_callback [] None [] r e f i = contains_none r i
only_callback [] None (g ∷ st) r e f i = true_false f

no_frames : (st : List machine.Frame) (gs : List Frame) → has_frames st ≡ false → IsStack st gs → gs ≡ []
no_frames [] [] e is = refl
no_frames [] (g ∷ gs) e is = absurd is
no_frames (f ∷ st) gs e is = true_false e

no_requests : (rs : List Request) (qs : List machine.Request) → has_requests qs ≡ false → AreRequests rs qs → rs ≡ []
no_requests [] [] e is = refl
no_requests (r ∷ rs) [] e is = absurd is
no_requests rs (q ∷ qs) e is = true_false e

pub the_callback : (c : Option Request) (q : machine.Request) → IsCallback c (Some q) → (r : Request) × (c ≡ Some r)
the_callback None q is = absurd is
the_callback (Some r) q is = (r, refl)

nobodys : (t : List Grant) → holder t ≡ None → t ≡ []
nobodys [] e = refl
nobodys (e ∷ s) f = none_some e.holder (sym f)

-- what of a standing may be reserved
record MayBe (s : Standing) (o : Option ℕ) : Type 0 where
  frames : s.has_frames ≡ false
  lives : s.has_failed ≡ false
  requests : s.has_requests ≡ false
  nobody : o ≡ None

may_be : (s : Standing) (o : Option ℕ) → may_be_reserved s o ≡ true → MayBe s o
may_be s o e = by s.has_frames s.has_failed s.has_requests o refl refl refl refl e
  where
    by : (a b c : Bool) (p : Option ℕ) → s.has_frames ≡ a → s.has_failed ≡ b → s.has_requests ≡ c → o ≡ p
        → ((not a && not b) && not c && is_none p) ≡ true → MayBe s o
    by false false false None x y z n i = record { frames = x; lives = y; requests = z; nobody = n }
    by false false false (Some k) x y z n i = true_false (sym i)
    by false false true p x y z n i = true_false (sym i)
    by false true c p x y z n i = true_false (sym i)
    by true b c p x y z n i = true_false (sym i)

module _ (t : World) (m : machine.World) (law : IsLawful t) (stands : Stands t m) where
  pub machine_targets_are_kept : TargetsAreKept m
  machine_targets_are_kept k r i = by (may_be_reserved (standing_in m k) (m.rights.queue k)) refl
    where
      by : (b : Bool) → may_be_reserved (standing_in m k) (m.rights.queue k) ≡ b → may_be_reserved (standing_in m k)
          (m.rights.queue k) ≡ false
      by false e = e
      by true e =
          let x = m.handlers k in
          let s = stands.handlers k in
          let may = may_be (standing_in m k) (m.rights.queue k) e in
          let c = only_callback x.queue x.callback x.stack r may.requests may.frames i in
          let d = the_callback (t.handlers k).callback c.0 (subst (IsCallback (t.handlers k).callback) c.1 s.callback)
          in
          absurd (kept_for_request t law k d.0
          (subst (λ o. IsOne d.0 (and_this o (and_begun (t.handlers k).stack (t.handlers k).requests))) (sym d.1)
          (inl refl))
          (record {
            lives = s.failed ∙ may.lives;
            stack = no_frames x.stack (t.handlers k).stack may.frames s.stack;
            requests = no_requests (t.handlers k).requests x.queue may.requests s.requests;
            nobodys = nobodys (t.queue k) (queue_is t m law stands k ∙ may.nobody);
          }))
