-- Laws of records.
use Rattle.std.specs.Prelude.{ℕ, ◌≡◌, List}
use Rattle.sc_lockpass.specs.declared.version.Version.{Version}
use Rattle.sc_audit.specs.declared.line.RecordLine.{RecordLine}
use Rattle.sc_audit.specs.Records.{IsRecord, text_of}
use Rattle.sc_audit.specs.Faults.{IsAtFault}

-- One text has one record.
abbrev pub OneRecord : Type 0
OneRecord = (version other : Version) (lines others : List RecordLine) →
    IsRecord version lines → IsRecord other others →
    text_of version lines ≡ text_of other others → (version ≡ other) × (lines ≡ others)

-- One text has one line at fault.
abbrev pub OneLineAtFault : Type 0
OneLineAtFault = (text : List ℕ) (line other : ℕ) → IsAtFault text line → IsAtFault text other → line ≡ other
