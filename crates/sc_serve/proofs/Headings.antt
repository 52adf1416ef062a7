-- Each record is one by its first line.
use Rattle.std.proofs.Common.{◌≡◌, true, refl}
use Rattle.std.specs.Fmt.{digits}
use Rattle.sc_lockpass.specs.declared.version.Version.{Version}
use Rattle.sc_lockpass.specs.declared.version.Version.TheVariants.{One, Two}
use Rattle.sc_audit.specs.Records.{first_line}
use Rattle.sc_serve.specs.Replaced.{is_heading}

pub first_line_is_heading : (version : Version) → is_heading version (first_line version) ≡ true
unfolding digits
first_line_is_heading One = refl
first_line_is_heading Two = refl
