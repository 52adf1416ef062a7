-- Handlers that were asked for nothing yet.
use Rattle.std.specs.Prelude.{◌≡◌, ◌<◌, ◌≤◌, ℕ, List}
use Rattle.sc_play.specs.Contents.{contents_at, new_contents}
use Rattle.sc_play.specs.Regions.{PlainRegion}
use Rattle.sc_request.specs.Candidates.{AreFreshFrom}
use Rattle.sc_request.specs.Logs.{Center}

-- From this number on the regions of handlers that have a place are new.
abbrev pub AreNewRegions : ℕ → List PlainRegion → Type 0
AreNewRegions n rs = (h : ℕ) → n ≤ h → h < 512 → contents_at rs h ≡ new_contents h

-- From this number on no handler that has a place was asked for anything yet, and its region is new.
pub record AreUnusedFrom (n : ℕ) (c : Center) (rs : List PlainRegion) : Type 0 where
  pub fresh : AreFreshFrom n c.state
  pub regions : AreNewRegions n rs
