-- What a world is to its callers, and how it opens.
use Rattle.std.specs.Prelude.{ℕ, zero, suc, List, [], ◌∷◌}
use Rattle.sc_lockpass.specs.declared.version.Version.{Version}
use Rattle.sc_lockpass.specs.Versions.{most_handlers}
use Rattle.sc_code.specs.declared.program.Image.{Image}
use Rattle.sc_request.specs.declared.center.Core as coded
use Rattle.sc_request.specs.Cores.{center_of}
use Rattle.sc_request.specs.Logs as core
use Rattle.sc_request.specs.Logs.{Center, root_of}
use Rattle.sc_play.specs.Regions.{PlainRegion, new_region}

-- the center of the core, where there may be so many handlers, and the region of each handler, with regions for others
pub record PlainWorld : Type 0 where
  pub most : ℕ
  pub center : Center
  pub regions : List PlainRegion

-- what a core and the regions beside it are
abbrev pub world_with : coded.Core → List PlainRegion → PlainWorld
world_with c rs = record { most = most_handlers c.state.rights.version; center = center_of c; regions = rs }

-- ---- how it opens

-- new regions of so many handlers, from this number on
unfoldable pub new_regions : Image → ℕ → ℕ → List PlainRegion
new_regions p h zero = []
new_regions p h (suc n) = new_region p h ∷ new_regions p (suc h) n

abbrev pub max_handlers : ℕ
max_handlers = 512

-- The first handler is asked to create the root object.
abbrev pub opened : Image → Version → PlainWorld
opened p v = record {
  most = most_handlers v;
  center = core.opened (most_handlers v) (root_of p.root_class p.root_procedure);
  regions = new_regions p 0 max_handlers;
}
