-- Where orders end.
use Rattle.std.proofs.Common.{◌≡◌, ◌++◌, ◌∙◌, ◌↔◌, inl, inr, ℕ, Bool, IsTrue, true, false, List, [], ◌∷◌, Option, Some, None, is_some, refl, sym, subst}
use Rattle.sc_lockpass.specs.declared.version.Version.{Version}
use Rattle.sc_model.specs.declared.status.Status.{Status}
use Rattle.sc_code.specs.declared.program.Image.{Image}
use Rattle.sc_region.specs.declared.job.Job.{Job}
use Rattle.sc_request.specs.Logs.{Center, pick_for}
use Rattle.sc_world.specs.declared.configuration.Turned.{Turned}
use Rattle.sc_world.specs.declared.configuration.Turned.TheVariants.{Moved, Nothing}
use Rattle.sc_world.specs.Reports.{statuses}
use Rattle.sc_world.specs.Reports as told
use Rattle.sc_world.specs.Turning.{IsTurn, Runs, TurnsUnder, turned_by}
use Rattle.sc_world.specs.Worlds.{PlainWorld, opened}
use Rattle.sc_search.specs.declared.aims.Aim.{Aim}
use Rattle.sc_search.specs.declared.judging.Kind.TheVariants as kind
use Rattle.sc_search.specs.declared.verdict.End.{End}
use Rattle.sc_search.specs.Aims.{IsMet, IsMetBy, some_is}
use Rattle.sc_search.specs.Ends.{AreEnds, IsEnd}
use Rattle.sc_search.specs.Found.{RunsUnmet, turns_of}
use Rattle.sc_search.proofs.KeptStates.{get_either, of_world, unmet_not}

-- they are turns as well
pub unmet_runs : (a : Aim) (hs : List ℕ) (x y : PlainWorld) → RunsUnmet a hs x y → Runs hs x y
unmet_runs a [] x y same = same
unmet_runs a (h ∷ hs) x y runs = (runs.2, runs.3, unmet_runs a hs runs.2 y runs.4)

-- where it is told that it isn't met
pub unmet_by : (a : Aim) (b : Bool) (ss : List Status) (c : Center) (w : PlainWorld) → (IsTrue b ↔ IsMetBy a ss c.state) → b ≡ false → ss ≡ statuses w → c ≡ w.center → IsMet a w → ⊥
unmet_by a b ss c w tells not_met same center = unmet_not b (IsMet a w) not_met (of_world a b ss c w tells same center)

has : (o : Option Job) → turned_by o ≡ Moved → is_some o ≡ true
has None moved = cc
has (Some j) moved = refl

-- one more turn
unmet_more : (a : Aim) (hs : List ℕ) (h : ℕ) (x y z : PlainWorld) → RunsUnmet a hs x y → (IsMet a y → ⊥) → turned_by (pick_for h y.center) ≡ Moved →
    IsTurn h y z → RunsUnmet a (hs ++ h ∷ []) x z
unmet_more a [] h x y z same unmet moved turn =
    subst (λ (w : PlainWorld). RunsUnmet a (h ∷ []) w z) same (unmet, has (pick_for h y.center) moved, z, turn, refl)
unmet_more a (k ∷ hs) h x y z runs unmet moved turn = (runs.0, runs.1, runs.2, runs.3, unmet_more a hs h runs.2 y z runs.4 unmet moved turn)

pub unmet_pushed : (a : Aim) (hs ms : List ℕ) (h : ℕ) (x y z : PlainWorld) (t : Turned) → ms ≡ hs ++ h ∷ [] → RunsUnmet a hs x y → (IsMet a y → ⊥) →
    t ≡ turned_by (pick_for h y.center) → t ≡ Moved → IsTurn h y z → RunsUnmet a ms x z
unmet_pushed a hs ms h x y z t same runs unmet turned moved turn =
    subst (λ (gs : List ℕ). RunsUnmet a gs x z) (sym same) (unmet_more a hs h x y z runs unmet (sym turned ∙ moved) turn)

stays : (h : ℕ) (o : Option Job) (y z : PlainWorld) → turned_by o ≡ Nothing → TurnsUnder h o y z → z ≡ y
stays h None y z nothing same = same
stays h (Some j) y z nothing made = cc

-- without anything to do the world stays
pub unmet_kept : (a : Aim) (hs ms : List ℕ) (h : ℕ) (x y z : PlainWorld) (t : Turned) → ms ≡ hs → RunsUnmet a hs x y → t ≡ turned_by (pick_for h y.center) →
    t ≡ Nothing → IsTurn h y z → RunsUnmet a ms x z
unmet_kept a hs ms h x y z t same runs turned nothing turn =
    let still : RunsUnmet a hs x z =
    subst (λ (w : PlainWorld). RunsUnmet a hs x w) (sym (stays h (pick_for h y.center) y z (sym turned ∙ nothing) turn)) runs in
    subst (λ (gs : List ℕ). RunsUnmet a gs x z) (sym same) still

-- ---- ends

pub no_ends : (p : Image) (v : Version) → AreEnds p v []
no_ends p v = λ i e at. cc

pub more_ends : (p : Image) (v : Version) (ends : List End) (end : End) → AreEnds p v ends → IsEnd p v end → AreEnds p v (ends ++ end ∷ [])
more_ends p v ends end all one = λ i e at. elim (get_either ends end i e at) [
  | inl before ↦ all i e before
  | inr last ↦ subst (λ (x : End). IsEnd p v x) (sym last) one
]

pub ends_so : (p : Image) (v : Version) (end : End) (turns : List ℕ) (w : PlainWorld) (ss : List Status) → turns_of end.order.lines.items ≡ turns →
    Runs turns (opened p v) w → ss ≡ statuses w → some_is kind.IsBusy ss ≡ false → end.report.items ≡ told.report w → IsEnd p v end
ends_so p v end turns w ss same runs told_so idle report = record {
  world = w;
  runs = subst (λ (hs : List ℕ). Runs hs (opened p v) w) (sym same) runs;
  idle = subst (λ (ts : List Status). some_is kind.IsBusy ts ≡ false) told_so idle;
  report = report;
}
