-- What it means that a log replays to a region.
use Rattle.std.specs.Prelude.{◌≡◌, ◌<◌, ℕ, List}
use Rattle.std.specs.List.{All}
use Rattle.sc_code.specs.declared.program.Image.{Image}
use Rattle.sc_handler.specs.declared.settlement.Settlement.{Settlement}
use Rattle.sc_play.specs.Regions.{PlainRegion, new_region}
use Rattle.sc_worklog.specs.Replaying.{AreMade, IsUnrefused, Replays}

-- If no memory was refused, the turns of the entries lead from a new region to this one.
abbrev pub UnrefusedReplaysAreTurns : Type 0
UnrefusedReplaysAreTurns =
    (p : Image) (h : ℕ) (es : List Settlement) (x : PlainRegion) (r : Replays p h es x) → IsUnrefused p h es x r →
    AreMade es (new_region p h) x

-- If they lead there, the entries replay to it, and no memory was refused.
abbrev pub TurnsReplay : Type 0
TurnsReplay =
    (p : Image) (h : ℕ) (es : List Settlement) (x : PlainRegion) → AreMade es (new_region p h) x →
    (r : Replays p h es x) × IsUnrefused p h es x r

-- Entries that replay to a region are its handler's, each of one turn or more, and the program is the region's; also
-- where memory was refused.
abbrev pub EntriesAreTheHandlers : Type 0
EntriesAreTheHandlers =
    (p : Image) (h : ℕ) (es : List Settlement) (x : PlainRegion) → Replays p h es x →
    All (λ e. (e.handler ≡ h) × (0 < e.turns)) es × (x.handler ≡ h) × (x.store.program ≡ p)
