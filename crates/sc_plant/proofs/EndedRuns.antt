-- What a run leaves that ends is what one may leave that memory was refused to.
use Rattle.std.proofs.Common.{◌≡◌, ℕ, Bool, true, false, Option, None, Some, is_some, refl}
use Rattle.std.proofs.Math.Logic.{∥∥₁_map}
use Rattle.sc_code.specs.declared.program.Image.{Image}
use Rattle.sc_request.specs.Cores.{log_of}
use Rattle.sc_play.specs.Regions.{new_region}
use Rattle.sc_worklog.specs.Replaying.{AreMade}
use Rattle.sc_worklog.proofs.ReplayedTurns.{turns_replay}
use Rattle.sc_plant.specs.declared.left.Left.{Left}
use Rattle.sc_plant.specs.Left.{IsRun, IsStopped}
use Rattle.sc_recording.specs.Recorded.{settlements_for}

pub run_stopped : (p : Image) (limit : ℕ) (left : Left) → IsRun p limit left → IsStopped p left
run_stopped p limit left run = record {
  left_is = run.left_is;
  home = run.over.home;
  replays = λ h x e.
      ∥∥₁_map (run.made h x e)
      (λ (made : AreMade (settlements_for h (log_of left.core)) (new_region p h) x). (turns_replay p h (settlements_for h (log_of left.core)) x made).0);
}

-- what a test for a value that says no tells
pub none_is : {A : Type 0} (o : Option A) → is_some o ≡ false → o ≡ None
none_is None e = refl
none_is (Some a) e = cc
