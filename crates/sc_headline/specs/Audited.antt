-- What is claimed of what an audit says yes to, from the bytes of a source text on.
use Rattle.std.specs.Prelude.{ℕ, List}
use Rattle.sc_class.specs.ClassNames.{Root}
use Rattle.sc_code.specs.declared.program.Image.{Image}
use Rattle.sc_plant.specs.declared.left.Left.{Left}
use Rattle.sc_driver.specs.Audits.{IsAudited}
use Rattle.sc_frontend.specs.Texts.{IsLoaded}
use Rattle.sc_headline.specs.Headline.{StandsForReached}

-- The turns of the record lead to a world that has the same of each handler as what is left. That world represents a
-- state that the machine reaches, and the headline holds of that state.
pub record HasAuditedHeadline (text : List ℕ) (root : Root) (program : Image) (left : Left) : Type 0 where
  pub audited : IsAudited program left
  pub reached : StandsForReached text root program left.version audited.world

-- Whatever is left, where an audit says yes for a text's program.
abbrev pub AuditedWorldsHaveHeadline : Type 0
AuditedWorldsHaveHeadline =
    (text : List ℕ) (root : Root) (program : Image) (left : Left) →
    IsLoaded text root program → IsAudited program left → HasAuditedHeadline text root program left
