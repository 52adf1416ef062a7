-- What a reader gave of a record's text.
use Rattle.std.specs.Prelude.{ℕ, ◌≢◌, ◌≤◌, List, ◌++◌, Option, IfSome, length}
use Rattle.std.specs.Io.KnownBytes.{Consumes}
use Rattle.std.specs.IoError.{error_kind}
use Rattle.std.specs.declared.io.ErrorKind.{ErrorKind}
use Rattle.std.specs.declared.io.ErrorKind.TheVariants as kind
use Rattle.sc_audit.specs.declared.beginning.ReadFault.{ReadFault}
use Rattle.sc_audit.specs.declared.beginning.ReadFault.TheVariants as fault
use Rattle.sc_audit.specs.Records.{BeginsRecord}
use Rattle.sc_audit.specs.Faults.{IsAtFault}

-- What the reader gave begins a record, except for at most the last `most` bytes.
pub record ReadsUpTo (most : ℕ) (known now : Option (List ℕ)) : Type 0 where
  pub fitting : List ℕ
  pub last : List ℕ
  pub consumed : Consumes known now (fitting ++ last)
  pub begins : BeginsRecord fitting
  pub few : length last ≤ most

-- What the reader gave begins a record.
pub record ReadsFitting (known now : Option (List ℕ)) : Type 0 where
  pub fitting : List ℕ
  pub consumed : Consumes known now fitting
  pub begins : BeginsRecord fitting

-- A reader failed for good: a read that was interrupted is made again, and running out of memory is reported as
-- that.
abbrev pub IsForGood : ErrorKind → Type 0
IsForGood why = (why ≢ kind.Interrupted) × (why ≢ kind.OutOfMemory)

-- The report is true of the bytes: the line is at fault, or the reader failed, for good, and nothing before that was
-- at fault.
abbrev pub IsReadFault : Option (List ℕ) → Option (List ℕ) → ReadFault → Type 0
IsReadFault known now (fault.BadRecord line) = IfSome known (λ text. IsAtFault text line)
IsReadFault known now (fault.Unreadable error) = IsForGood (error_kind error) × ReadsFitting known now
IsReadFault known now fault.OutOfMemory = Unit {0}

-- The reader failed, or memory ran out.
abbrev pub IsReaderFault : ReadFault → Type 0
IsReaderFault (fault.BadRecord line) = ⊥
IsReaderFault (fault.Unreadable error) = IsForGood (error_kind error)
IsReaderFault fault.OutOfMemory = Unit {0}
