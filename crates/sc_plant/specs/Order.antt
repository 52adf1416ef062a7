-- In which order one thread plays.
use Rattle.std.specs.Prelude.{◌≡◌, ◌<◌, ◌≤◌, ◌⊎◌, ℕ, List, [], ◌∷◌, Option, Some}
use Rattle.std.specs.List.{All}
use Rattle.sc_lockpass.specs.declared.version.Version.TheVariants.{Two}
use Rattle.sc_code.specs.declared.program.Image.{Image}
use Rattle.sc_region.specs.declared.job.Job.{Job}
use Rattle.sc_region.specs.declared.job.Want.TheVariants as want
use Rattle.sc_handler.specs.declared.settlement.Settlement.{Settlement}
use Rattle.sc_request.specs.declared.center.Core as coded
use Rattle.sc_request.specs.Cores.{center_of, log_of}
use Rattle.sc_request.specs.Logs as core
use Rattle.sc_request.specs.Logs.{Center, picked, settles}
use Rattle.sc_world.specs.Worlds.{max_handlers, opened}
use Rattle.sc_plant.specs.declared.left.Left.{Left}

-- Which handler comes next, with its job, and how many turns its task has at most.
pub record Order : Type 0 where
  pub next : Center → Option (ℕ × Job)
  pub most : ℕ

-- The handlers come round by number, from the one that came last, each that has something to do. A task has at most 256
-- turns.
abbrev pub round_robin : Order
round_robin = record { next = core.next; most = 256 }

-- the handler is picked with its job, which is settled
abbrev pub after : Settlement → Center → Center
after e c = settles max_handlers e.handler e.job e.turns e.want (picked e.handler e.job c)

-- A task has as many turns as it may have, unless the last of them asks something.
abbrev pub IsWhole : Order → Settlement → Type 0
IsWhole o e = e.want ≡ want.Continue → e.turns ≡ o.most

-- The settlements lead from one center to the other. Each is that of the handler that comes next then, and each but the
-- last is whole: that one may be cut short by the end of the run.
abbrev pub LeadInOrder : Order → Center → List Settlement → Center → Type 0
LeadInOrder o c [] d = c ≡ d
LeadInOrder o c (e ∷ es) d =
    (o.next c ≡ Some (e.handler, e.job)) × (e.turns ≤ o.most) × (IsWhole o e ⊎ (es ≡ [])) × LeadInOrder o (after e c) es d

-- A run of the program has gone in this order, from its opening on.
abbrev pub GoesInOrder : Order → Image → Left → Type 0
GoesInOrder o p left = LeadInOrder o (opened p Two).center (log_of left.core) (center_of left.core)

-- A run of the program with so many turns left has come to this core in this order. If any are left, no task was cut
-- short.
pub record ComesInOrder (o : Order) (p : Image) (turns : ℕ) (core : coded.Core) : Type 0 where
  pub leads : LeadInOrder o (opened p Two).center (log_of core) (center_of core)
  pub whole : 0 < turns → All (IsWhole o) (log_of core)
