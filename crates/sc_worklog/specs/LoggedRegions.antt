-- What a region with its log represents.
use Rattle.std.specs.Prelude.{List}
use Rattle.sc_handler.specs.declared.settlement.Settlement.{Settlement}
use Rattle.sc_handler.specs.Logged.{settlements_of}
use Rattle.sc_play.specs.Regions.{PlainRegion}
use Rattle.sc_worklog.specs.declared.logged_region.LoggedRegion as coded

abbrev pub region_of : coded.LoggedRegion → PlainRegion
region_of r = r.region

abbrev pub entries_of : coded.LoggedRegion → List Settlement
entries_of r = settlements_of r.log
