-- What a reader gave, block after block.
use Rattle.std.proofs.Common.{◌≡◌, ℕ, ◌≤◌, List, [], ◌++◌, Option, Some, None, Result, Ok, Err, IfErr, IfSome, IsErrAnd, length, refl, sym, ap, ◌∙◌, append-nil, subst, arith}
use Rattle.std.specs.Io.KnownBytes.{Consumes, IsAtEnd}
use Rattle.std.proofs.KnownBytes.{Consumes-trans, Consumes-whole}
use Rattle.sc_audit.specs.declared.beginning.Beginning.{Beginning}
use Rattle.sc_audit.specs.declared.beginning.ReadFault.{ReadFault}
use Rattle.sc_audit.specs.declared.beginning.Record.{Record}
use Rattle.sc_audit.specs.declared.beginning.ReadFault.TheVariants as fault
use Rattle.sc_audit.specs.Records.{BeginsRecord, IsRecordText}
use Rattle.sc_audit.specs.Faults.{IsAtFault}
use Rattle.sc_audit.specs.Reading.{IsForGood, IsReadFault, IsReaderFault, ReadsFitting, ReadsUpTo}
use Rattle.std.specs.IoError.{error_kind}
use Rattle.std.specs.declared.io.Error.{Error}
use Rattle.std.specs.declared.io.ErrorKind.TheVariants as kind
use Rattle.sc_audit.specs.Internal.Steps.{Ends, IsBlockFault, IsKept, read_of}
use Rattle.sc_audit.proofs.Whole.{open-begins}

pub kept-begins : (b : Beginning) → IsKept b → BeginsRecord (read_of b)
kept-begins b kept = open-begins b.version b.lines.items b.expected kept.limits kept.open_end

-- what is at fault in a block is at fault in what the reader tells
told-fault : (known mid now : Option (List ℕ)) (front bytes : List ℕ) (line : ℕ) → Consumes known mid front → Consumes mid now bytes →
    ((rest : List ℕ) → IsAtFault (front ++ (bytes ++ rest)) line) → IfSome known (λ text. IsAtFault text line)
told-fault None mid now front bytes line p q at-fault = tt
told-fault (Some x) None now front bytes line p q at-fault = absurd p
told-fault (Some x) (Some y) None front bytes line p q at-fault = absurd q
told-fault (Some x) (Some y) (Some z) front bytes line p q at-fault =
    let P : List ℕ → Type 0 = λ bs. IsAtFault bs line in
    subst P (sym (p ∙ ap (λ bs. front ++ bs) q)) (at-fault z)

-- so are other faults
pub read-fault : (known mid now : Option (List ℕ)) (b : Beginning) (bytes : List ℕ) (why : ReadFault) → IsKept b → Consumes known mid (read_of b) →
    Consumes mid now bytes → IsBlockFault b bytes why → IsReadFault known now why
read-fault known mid now b bytes (fault.BadRecord line) kept so-far block is = told-fault known mid now (read_of b) bytes line so-far block is
read-fault known mid now b bytes (fault.Unreadable error) kept so-far block is =
    let P : List ℕ → Type 0 = λ bs. Consumes known now bs in (
      is.0,
      record {
        fitting = read_of b;
        consumed = subst P (ap (λ bs. read_of b ++ bs) is.1 ∙ append-nil (read_of b)) (Consumes-trans known mid now (read_of b) bytes so-far block);
        begins = kept-begins b kept;
      },
    )
read-fault known mid now b bytes fault.OutOfMemory kept so-far block is = tt

timed-out-is-for-good : kind.TimedOut ≡ kind.Interrupted → ⊥
timed-out-is-for-good e = cc

timed-out-is-no-memory : kind.TimedOut ≡ kind.OutOfMemory → ⊥
timed-out-is-no-memory e = cc

-- a reader that is given up failed for good
pub gave-up : (error : Error) → error_kind error ≡ kind.TimedOut → IsForGood (error_kind error)
gave-up error is = (λ interrupted. timed-out-is-for-good (sym is ∙ interrupted), λ memory. timed-out-is-no-memory (sym is ∙ memory))

-- and what it gave begins a record
pub reads-fitting : (known now : Option (List ℕ)) (b : Beginning) → IsKept b → Consumes known now (read_of b) → ReadsFitting known now
reads-fitting known now b kept so-far = record { fitting = read_of b; consumed = so-far; begins = kept-begins b kept }

-- before a block all begins a record
pub reads-up-to : (most : ℕ) (known mid now : Option (List ℕ)) (b : Beginning) (bytes : List ℕ) → IsKept b → Consumes known mid (read_of b) →
    Consumes mid now bytes → length bytes ≤ most → ReadsUpTo most known now
reads-up-to most known mid now b bytes kept so-far block few = record {
  fitting = read_of b;
  last = bytes;
  consumed = Consumes-trans known mid now (read_of b) bytes so-far block;
  begins = kept-begins b kept;
  few = few;
}

-- and where no block comes
pub reads-no-more : (most : ℕ) (known now : Option (List ℕ)) (b : Beginning) → IsKept b → Consumes known now (read_of b) → ReadsUpTo most known now
reads-no-more most known now b kept so-far =
    let P : List ℕ → Type 0 = λ bs. Consumes known now bs in
    record {
      fitting = read_of b;
      last = [];
      consumed = subst P (sym (append-nil (read_of b))) so-far;
      begins = kept-begins b kept;
      few = omega arith;
    }

-- an error that is told
pub err-told : {T : Type 0} (Q : ReadFault → Type 0) (r : Result T ReadFault) (why : ReadFault) → IsErrAnd r (λ e. e ≡ why) → Q why → IfErr r Q
err-told Q (Ok x) why same is = absurd same
err-told Q (Err e) why same is = subst Q (sym same) is

-- a record's text is kept from being read by its reader alone
pub fits-of : {T : Type 0} (known now : Option (List ℕ)) (r : Result T ReadFault) → IfErr r (IsReadFault known now) →
    IfSome known (λ text. IsRecordText text → IfErr r IsReaderFault)
fits-of None now r is = tt
fits-of (Some x) now (Ok read) is = λ text. tt
fits-of (Some x) now (Err (fault.BadRecord line)) is = λ text. is.no_record text
fits-of (Some x) now (Err (fault.Unreadable error)) is = λ text. is.0
fits-of (Some x) now (Err fault.OutOfMemory) is = λ text. tt

-- the bytes of one block more, which is the last
pub ended-err : (known mid now : Option (List ℕ)) (old new : Beginning) (bytes : List ℕ) (r : Result Record ReadFault) → Consumes known mid (read_of old) →
    Consumes mid now bytes → read_of new ≡ read_of old ++ bytes → IsAtEnd now → Ends new r → IfErr r (IsReadFault known now)
ended-err known mid now old new bytes (Ok read) so-far block text end ends = tt
ended-err known mid now old new bytes (Err (fault.BadRecord line)) so-far block text end ends =
    let P : List ℕ → Type 0 = λ bs. Consumes known now bs in
    Consumes-whole known now (read_of new) (λ text. IsAtFault text line)
    (subst P (sym text) (Consumes-trans known mid now (read_of old) bytes so-far block)) end ends
ended-err known mid now old new bytes (Err (fault.Unreadable error)) so-far block text end ends = absurd ends
ended-err known mid now old new bytes (Err fault.OutOfMemory) so-far block text end ends = absurd ends
