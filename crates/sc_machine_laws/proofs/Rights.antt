-- A turn takes no right from another handler.
use Rattle.std.proofs.Common.{◌≡◌, ℕ, Bool, true, false, List, [], ◌∷◌, Option, Some, None, refl, ap, ◌∙◌, arith}
use Rattle.std.specs.Prelude.{if◌then◌else◌, nat_lt, Contains}
use Rattle.sc_tree.specs.Plain.{System}
use Rattle.sc_class.specs.ClassNames.{Root}
use Rattle.sc_rules.specs.declared.entity_types.entity_type.EntityType.{EntityType}
use Rattle.sc_lockpass.specs.Rights.{is_among}
use Rattle.sc_lockpass.specs.Passing.{Passed}
use Rattle.sc_model.specs.declared.cause.Cause.{Cause}
use Rattle.sc_model.specs.Values.{Value}
use Rattle.sc_model.specs.Steps.{Step, Goes, Does}
use Rattle.sc_model.specs.Moves.{moves}
use Rattle.sc_model.specs.Handlers.{Request, Answer, Reply, Stage, Runs, Reserves, ReservesBlock, InCall, Awaits, Frame, World, point_of, frame_at, put}
use Rattle.sc_model.specs.Entries.{entry_needs, block_needs, may_reserve}
use Rattle.sc_model.specs.Asking.{created}
use Rattle.sc_model.specs.Takes.{takes_next}
use Rattle.sc_model.specs.Turns.{settles, waits, goes_on, turn_with, turn}
use Rattle.sc_model.specs.Runs.{IsReached}
use Rattle.sc_machine_laws.proofs.states.links.Reached.{reached_stands}
use Rattle.sc_machine_laws.specs.states.Fitting.{MayEnd, runs, next, called_back}
use Rattle.sc_machine_laws.specs.RequestLaws.{IsUnused, RightsStay}
use Rattle.sc_machine_laws.proofs.Tops.{beyond_is_unused}
use Rattle.sc_machine_laws.proofs.Held.{IsHere, listed_here, creation_here, reserved_here}
use Rattle.sc_machine_laws.proofs.KeptRights.{Kept, kept_lost, kept_same}
use Rattle.sc_machine_laws.proofs.RightChanges.{effect_kept, errand_kept, reserves_kept, takes_answer_kept}

-- what is said of each reached state, by g
record Facts (g : ℕ) (w : World) : Type 0 where
  alive : (w.handlers g).failure ≡ None
  unused : IsUnused w w.count
  given : (q : Request) (p : Passed) → MayEnd (w.handlers g) q → q.passed ≡ Some p → IsHere w.rights g p
  reserved : (f : Frame) (below : List Frame) → (w.handlers g).stack ≡ f ∷ below → f.stage ≡ Runs → (ks : List ℕ) →
      Contains (f.reserved ∷ f.blocks) ks
      → (k : ℕ) → is_among k ks ≡ true → w.rights.queue k ≡ Some g
  created : (f : Frame) (below : List Frame) (k : ℕ) (t : Option EntityType) (v : Option Value) →
      (w.handlers g).stack ≡ f ∷ below
      → f.stage ≡ Awaits k t true → (w.handlers g).answer ≡ Some (Reply v) → w.rights.queue k ≡ Some g

module _ (most : ℕ) (s : System) (g : ℕ) (w : World) (facts : Facts g w) where
  settles_kept : (f : Frame) (below : List Frame) → (w.handlers g).stack ≡ f ∷ below → f.stage ≡ Runs → (x : Step)
      → Kept g w.rights (settles most s g x f below w).rights
  settles_kept f below at stage (Goes p) = kept_same g w.rights
  settles_kept f below at stage (Does a p) = effect_kept g most s a (frame_at f p) below
      (put g (record (w.handlers g) { objects = p.objects; stack = frame_at f p ∷ below }) w)
      (record {
        reserved = facts.reserved f below at stage;
        passed = λ q p e i. facts.given q p (runs at stage e) i;
      }) facts.unused.queue_right facts.unused.top_right

  waits_kept : (c : Option Request) (a : Option Answer) (j : ℕ) (t : Option EntityType) (b : Bool) (f : Frame)
      (below : List Frame)
      → (w.handlers g).stack ≡ f ∷ below → f.stage ≡ Awaits j t b → (w.handlers g).callback ≡ c →
      (w.handlers g).answer ≡ a
      → Kept g w.rights (waits s g c a j t b f below w).rights
  waits_kept (Some q) a j t b f below at stage is answer = errand_kept g s q q.errand (f ∷ below)
      (put g (record (w.handlers g) { callback = None }) w)
      (λ p e. facts.given q p (called_back at is) e)
  waits_kept None (Some a) j t b f below at stage is answer = takes_answer_kept g a j t b f below w
      (λ v e i. facts.created f below j t v at (stage ∙ ap (Awaits j t) i) (answer ∙ ap Some e))
  waits_kept None None j t b f below at stage is answer = kept_same g w.rights

  on_kept : (f : Frame) (below : List Frame) → (w.handlers g).stack ≡ f ∷ below → (x : Stage) → f.stage ≡ x
      → Kept g w.rights (goes_on most s g x f below w).rights
  on_kept f below at Runs stage = settles_kept f below at stage (moves s f.current (point_of f (w.handlers g).objects))
  on_kept f below at Reserves stage = reserves_kept g (may_reserve (entry_needs g f w) f.mark w)
      (entry_needs g f w) f.mark _ below w refl
  on_kept f below at ReservesBlock stage = reserves_kept g (may_reserve (block_needs g f w) [] w)
      (block_needs g f w) [] _ below w refl
  on_kept f below at (InCall t) stage = kept_lost g w.rights
  on_kept f below at (Awaits j t b) stage = waits_kept (w.handlers g).callback (w.handlers g).answer j t b f below at
      stage refl refl

  next_kept : (rs : List Request) → (w.handlers g).stack ≡ [] → (w.handlers g).queue ≡ rs →
      Kept g w.rights (takes_next s g rs w).rights
  next_kept [] empty at = kept_same g w.rights
  next_kept (q ∷ rs) empty at = errand_kept g s q q.errand [] (put g (record (w.handlers g) { queue = rs }) w)
      (λ p e. facts.given q p (next empty at) e)

  with_kept : (st : List Frame) → (w.handlers g).stack ≡ st → Kept g w.rights (turn_with most s g None st w).rights
  with_kept [] at = next_kept (w.handlers g).queue at refl
  with_kept (f ∷ below) at = on_kept f below at f.stage refl

-- ---- the law

facts_of : (most : ℕ) (s : System) (root : Root) (w : World) → IsReached most s root w → (g : ℕ) →
    (w.handlers g).failure ≡ None → Facts g w
facts_of most s root w reached g alive =
    let r = reached_stands most s root w reached in
    record {
      alive = alive;
      unused = beyond_is_unused most s root w reached w.count (omega arith);
      given = listed_here r.0 w r.1 r.2 g;
      reserved = λ f below at stage ks i k e. reserved_here r.0 w r.1 r.2 g f below alive at stage ks i k e;
      created = λ f below k t v at stage answer. creation_here r.0 w r.1 r.2 g f below k t v alive at stage answer;
    }

turn_kept : (most : ℕ) (s : System) (root : Root) (w : World) → IsReached most s root w → (g : ℕ) →
    Kept g w.rights (turn most s g w).rights
turn_kept most s root w reached g = by (nat_lt g w.count)
  where
    lives : (o : Option Cause) → (w.handlers g).failure ≡ o →
        Kept g w.rights (turn_with most s g o (w.handlers g).stack w).rights
    lives (Some why) e = kept_same g w.rights
    lives None e = with_kept most s g w (facts_of most s root w reached g e) (w.handlers g).stack refl

    by : (b : Bool) → Kept g w.rights
        (if b then turn_with most s g (w.handlers g).failure (w.handlers g).stack w else w).rights
    by true = lives (w.handlers g).failure refl
    by false = kept_same g w.rights

pub rights_stay : RightsStay
rights_stay most s root w reached g h k ne =
    let t = turn_kept most s root w reached g in
    ((λ e. t.queue h k ne e), (λ other e. t.top h k ne other e))
