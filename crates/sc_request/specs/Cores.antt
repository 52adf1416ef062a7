-- What a core in memory represents.
use Rattle.std.specs.Prelude.{◌≡◌, ◌++◌, ◌∷◌, ℕ, List, [], Some}
use Rattle.sc_lockpass.specs.Versions.{most_handlers}
use Rattle.sc_region.specs.declared.job.Job.{Job}
use Rattle.sc_region.specs.declared.job.Want.{Want}
use Rattle.sc_handler.specs.declared.settlement.Settlement.{Settlement}
use Rattle.sc_handler.specs.Handlers.{State}
use Rattle.sc_handler.specs.Logged.{settlement, settlements_of}
use Rattle.sc_request.specs.Tables.{center}
use Rattle.sc_request.specs.declared.center.Core as coded
use Rattle.sc_request.specs.Logs.{Center, settles}
use Rattle.sc_request.specs.Tables as tables

abbrev pub state_of : coded.Core → State
state_of c = tables.state_of c.state.count c.state.handlers.items c.state.sessions.items c.state.rights

abbrev pub center_of : coded.Core → Center
center_of c = center c.state.count c.state.handlers.items c.state.sessions.items c.state.rights c.last

abbrev pub log_of : coded.Core → List Settlement
log_of c = settlements_of c.log

-- This number of turns of the handler, which is out with a job, are settled, the last of which wants this,
abbrev pub Settles : ℕ → ℕ → Want → coded.Core → coded.Core → Type 0
Settles h turns w c d = (j : Job) → (center_of c).out h ≡ Some j →
    center_of d ≡ settles (most_handlers c.state.rights.version) h j turns w (center_of c)

-- and the log has it.
abbrev pub LogsSettlement : ℕ → ℕ → Want → coded.Core → coded.Core → Type 0
LogsSettlement h turns w c d = (j : Job) → (center_of c).out h ≡ Some j →
    log_of d ≡ log_of c ++ settlement h j turns w ∷ []
