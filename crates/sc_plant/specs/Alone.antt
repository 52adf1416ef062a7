-- Runs on one thread.
use Rattle.std.specs.Prelude.{◌≡◌, ◌⊎◌, ◌++◌, ◌∷◌, [], ℕ, List, None, Some, length, slice_get}
use Rattle.sc_lockpass.specs.declared.version.Version.TheVariants.{Two}
use Rattle.sc_audit.specs.declared.line.RecordLine.{RecordLine}
use Rattle.sc_code.specs.declared.program.Image.{Image}
use Rattle.sc_region.specs.declared.job.Job.{Job}
use Rattle.sc_region.specs.declared.job.Want.{Want}
use Rattle.sc_handler.specs.declared.settlement.Settlement.{Settlement}
use Rattle.sc_request.specs.declared.center.Core as core
use Rattle.sc_request.specs.Cores.{center_of, log_of, state_of}
use Rattle.sc_request.specs.Logs.{put_back}
use Rattle.sc_play.specs.Regions.{IsRefused, PlainRegion, Plays, new_region, outcome}
use Rattle.sc_worklog.specs.Replaying.{AreMade}
use Rattle.sc_world.specs.Worlds.{max_handlers}
use Rattle.sc_plant.specs.declared.left.Left.{Left}
use Rattle.sc_recording.specs.Due.{AreBelow, IsSettled, PlaysTo}
use Rattle.sc_recording.specs.Recorded.{lines_of, settlements_for}

-- The region is that of the handler of the number, to which the turns of the handler's settlements lead.
pub record IsOwn (p : Image) (es : List Settlement) (h : ℕ) (x : PlainRegion) : Type 0 where
  pub handler : x.handler ≡ h
  pub program : x.store.program ≡ p
  pub made : ∥ AreMade (settlements_for h es) (new_region x.store.program x.handler) x ∥₁

-- So is each of them.
abbrev pub AreOwn : Image → List Settlement → List PlainRegion → Type 0
AreOwn p es rs = (h : ℕ) (x : PlainRegion) → slice_get rs h ≡ Some x → IsOwn p es h x

-- They are new.
abbrev pub AreNew : Image → List PlainRegion → Type 0
AreNew p rs = (h : ℕ) (x : PlainRegion) → slice_get rs h ≡ Some x → x ≡ new_region p h

-- The state of a run of the program on one thread, if memory was refused to no turn.
pub record IsOnWay (p : Image) (left : Left) : Type 0 where
  pub version : left.version ≡ Two
  pub rights : left.core.state.rights.version ≡ Two
  pub count : length left.regions.items ≡ max_handlers
  pub plays : ∥ PlaysTo p (log_of left.core) (state_of left.core) ∥₁
  pub below : AreBelow (log_of left.core)
  pub lines : left.lines.items ≡ lines_of (log_of left.core)
  pub home : (h : ℕ) → (center_of left.core).out h ≡ None
  pub regions : AreOwn p (log_of left.core) left.regions.items

-- The handler, which is out with the job, plays this number of turns of it, the last of which wants this, and they
-- are settled.
pub record IsPlayed (limit h : ℕ) (j : Job) (turns : ℕ) (w : Want) (c d : core.Core) (x y : PlainRegion) : Type 0 where
  pub settled : IsSettled h j turns w c d
  pub plays : Plays limit j x y (outcome x.handler turns w)

-- The handler, which was out, is put back, since memory was refused to its turn.
pub record IsBack (h : ℕ) (c d : core.Core) (x y : PlainRegion) : Type 0 where
  pub center : center_of d ≡ put_back h (center_of c)
  pub log : log_of d ≡ log_of c
  pub job : Job
  pub refused : IsRefused job x y

-- The handler, which is out, plays this number of turns of its job, the last of which wants this. They are settled,
-- and are one more line of the record.
pub record IsRecorded (limit h turns : ℕ) (w : Want) (c d : core.Core) (x y : PlainRegion)
    (ls ms : List RecordLine) : Type 0 where
  pub played : (j : Job) → (center_of c).out h ≡ Some j → IsPlayed limit h j turns w c d x y
  pub line : ms ≡ ls ++ record { handler = h; turns = turns } ∷ []

-- Memory was refused to the handler, which was out: to its first turn, or after turns that are settled and recorded.
abbrev pub IsCutOff : ℕ → ℕ → Want → core.Core → core.Core → PlainRegion → PlainRegion → List RecordLine →
    List RecordLine → Type 0
IsCutOff limit h w c d x y ls ms =
    (IsBack h c d x y × (ms ≡ ls)) ⊎ ((turns : ℕ) × IsRecorded limit h turns w c d x y ls ms)
