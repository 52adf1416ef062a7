use Rattle.std.proofs.Common.{refl, arith}
use Rattle.std.proofs.lemmas.List.{length-map}
use Rattle.sc_worklog.specs.LoggedRegions.{region_of}
use Rattle.sc_plant.proofs.Bare.{programs_left}
use Rattle.sc_plant.proofs.leaving.left_of.Goals as goal

pub returns-clause-count : goal.returns-clause-count
returns-clause-count g c = omega (arith, c.regions_of-regions.ensures.count, c.requires.count)

pub returns-clause-left : goal.returns-clause-left
returns-clause-left g c = λ p is.
    let rs = c.regions_of-regions.result.0.items in
    record {
      version = refl;
      count = omega (arith, length-map rs region_of, c.regions_of-regions.ensures.count, c.requires.count);
      programs = programs_left g.P.OfProgram.image p rs is c.regions_of-regions.ensures.programs;
      plays = c.args.recorded.plays p is;
      below = c.args.recorded.below;
      lines = c.args.recorded.recorded;
    }
