use Rattle.sc_driver.specs.Audits.{turns_of}
use Rattle.sc_headline.proofs.laws.audited_worlds_have_headline.Goals as goal

pub returns : goal.returns
returns c = λ text root p left loaded audited.
    record {
      audited = audited;
      reached = c.headline.ensures text root p left.version (turns_of left.lines.items) audited.world loaded audited.leads;
    }
