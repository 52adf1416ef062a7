-- What the log of a region has, and that it replays to the region.
use Rattle.std.specs.Prelude.{◌≡◌, ℕ, List, [], ◌∷◌, ◌++◌, false}
use Rattle.sc_code.specs.declared.program.Image.{Image}
use Rattle.sc_region.specs.declared.job.Job.{Job}
use Rattle.sc_region.specs.declared.job.Outcome.{Outcome}
use Rattle.sc_handler.specs.declared.settlement.Settlement.{Settlement}
use Rattle.sc_play.specs.Regions.{IsRefused, PlainRegion, Plays, new_region}
use Rattle.sc_play.specs.Turns.{Turns}

-- The entry of a job has the job, the handler that played it, how many turns that made, and what the last of them
-- asked.
abbrev pub entry_of : Job → Outcome → Settlement
entry_of j o = record { handler = o.handler; job = j; turns = o.turns; want = o.want }

-- The entries replay to this region, which is that of the handler of the number, for the program. Without entries,
-- it is new. A play of a job leads on from a region to which the entries before replay, and adds its own entry. A
-- play that was refused memory leads on without an entry.
pub data Replays (p : Image) (h : ℕ) : List Settlement → PlainRegion → Type 0 where
  opened : Replays p h [] (new_region p h)
  played : {es : List Settlement} {x y : PlainRegion} {limit : ℕ} {j : Job} {o : Outcome} →
      Replays p h es x → Plays limit j x y o → Replays p h (es ++ entry_of j o ∷ []) y
  refused : {es : List Settlement} {x y : PlainRegion} {j : Job} → Replays p h es x → IsRefused j x y → Replays p h es y

-- ---- where no memory was refused

-- No memory was refused on the way: each play ended where its last turn did.
abbrev pub IsUnrefused : (p : Image) (h : ℕ) (es : List Settlement) (x : PlainRegion) → Replays p h es x → Type 0
IsUnrefused p h _ _ opened = Unit {0}
IsUnrefused p h _ _ (played {es} {x} {y} before plays) = IsUnrefused p h es x before × (y.store ≡ plays.last)
IsUnrefused p h _ _ (refused before is) = ⊥

-- The turns of the entry lead from one region to the other: as many as it says, under its job, and the last asks its
-- want.
pub record IsMade (e : Settlement) (x y : PlainRegion) : Type 0 where
  pub handler : e.handler ≡ x.handler
  pub turns : Turns x.handler x.is_told e.job x.store e.turns y.store e.want
  pub same : y ≡ record x { store = y.store; is_told = false }

-- So do those of these entries, one after the other.
abbrev pub AreMade : List Settlement → PlainRegion → PlainRegion → Type 0
AreMade [] x y = y ≡ x
AreMade (e ∷ es) x y = (z : PlainRegion) × IsMade e x z × AreMade es z y
