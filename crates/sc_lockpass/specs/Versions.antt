-- How many handlers there can be.
use Rattle.std.specs.Prelude.{ℕ}
use Rattle.sc_lockpass.specs.declared.version.Version.{Version}
use Rattle.sc_lockpass.specs.declared.version.Version.TheVariants.{One, Two}

-- the most handlers of a run: they are numbered below it
abbrev pub most_handlers : Version → ℕ
most_handlers One = 64
most_handlers Two = 512
