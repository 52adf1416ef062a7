-- What joining the files of a system comes to.
use Rattle.std.specs.Prelude.{ℕ, zero, suc, ◌≡◌, ◌≢◌, ◌+◌, ◌-◌, ◌<◌, ◌≤◌, List, [], ◌∷◌, Option, Some, length, take, drop, map}
use Rattle.std.specs.List.{All, slice_index_or}
use Rattle.std.specs.Str.{IsUtf8, IsValidUpTo, valid_up_to}
use Rattle.std.specs.declared.str.Utf8Error.{Utf8Error}
use Rattle.std.specs.Io.KnownBytes.{Consumes}
use Rattle.std.specs.IoError.{error_kind}
use Rattle.std.specs.declared.io.ErrorKind.{ErrorKind}
use Rattle.std.specs.declared.io.ErrorKind.TheVariants as kind
use Rattle.sc_text.specs.Spelling.{max_source_bytes}
use Rattle.sc_source.specs.Source.{File, joined_texts, texts_of, unmarked}
use Rattle.sc_source.specs.declared.source.JoinFault.{JoinFault}
use Rattle.sc_source.specs.declared.join.SourceFault.{SourceFault}
use Rattle.sc_source.specs.declared.join.SourceFault.TheVariants as told
use Rattle.sc_source.specs.declared.reading.FileFault.{FileFault}
use Rattle.sc_source.specs.declared.reading.FileFault.TheVariants as fault

-- ---- one file

-- A reader has given at most so many bytes.
abbrev pub TakesAtMost : ℕ → Option (List ℕ) → Option (List ℕ) → Type 0
TakesAtMost most old new = (taken : List ℕ) × ((length taken ≤ most) × Consumes old new taken)

abbrev pub no_memory : FileFault
no_memory = fault.OutOfMemory

abbrev pub not_utf8 : Utf8Error → FileFault
not_utf8 error = fault.NotUtf8 (valid_up_to error)

-- A reader failed for good: a read that was interrupted is made again, and want of memory is told as that.
abbrev pub IsForGood : ErrorKind → Type 0
IsForGood why = (why ≢ kind.Interrupted) × (why ≢ kind.OutOfMemory)

-- Where a reader is said to have failed it did so for good.
abbrev pub FailsForGood : FileFault → Type 0
FailsForGood (fault.Unreadable error) = IsForGood (error_kind error)
FailsForGood fault.OutOfMemory = Unit {0}
FailsForGood fault.TooLong = Unit {0}
FailsForGood (fault.NotUtf8 offset) = Unit {0}

-- The reader failed, or memory ran out.
abbrev pub IsReaderFault : FileFault → Type 0
IsReaderFault (fault.Unreadable error) = IsForGood (error_kind error)
IsReaderFault fault.OutOfMemory = Unit {0}
IsReaderFault fault.TooLong = ⊥
IsReaderFault (fault.NotUtf8 offset) = ⊥

-- What keeps a file of these bytes, whose text is to have fewer than `room`, from being read is true of it.
abbrev pub IsReadFault : List ℕ → ℕ → FileFault → Type 0
IsReadFault file room fault.TooLong = room ≤ length (unmarked file)
IsReadFault file room (fault.NotUtf8 offset) = ⊥
IsReadFault file room (fault.Unreadable error) = IsForGood (error_kind error)
IsReadFault file room fault.OutOfMemory = Unit {0}

-- The same, where the file is to be UTF-8 too.
abbrev pub IsFileFault : List ℕ → ℕ → FileFault → Type 0
IsFileFault file room fault.TooLong = room ≤ length (unmarked file)
IsFileFault file room (fault.NotUtf8 offset) =
    (length (unmarked file) < room) × (¬ IsUtf8 file × IsValidUpTo file offset)
IsFileFault file room (fault.Unreadable error) = IsForGood (error_kind error)
IsFileFault file room fault.OutOfMemory = Unit {0}

-- ---- the files of a system

-- The readers tell their bytes: those of the files.
abbrev pub AreTold : List (Option (List ℕ)) → List (List ℕ) → Type 0
AreTold known files = known ≡ map Some files

-- the source text of files, from their bytes
abbrev pub source_text : List (List ℕ) → List ℕ
source_text files = joined_texts (map unmarked files)

-- the name of each of so many files, in order: a file past the names has an empty one
abbrev pub names_for : List (List ℕ) → ℕ → List (List ℕ)
names_for names zero = []
names_for [] (suc n) = [] ∷ names_for [] n
names_for (x ∷ xs) (suc n) = x ∷ names_for xs n

-- The files are UTF-8, and their source text isn't too long.
pub record AreSound (files : List (List ℕ)) : Type 0 where
  pub utf8 : All IsUtf8 files
  pub short : length (source_text files) ≤ max_source_bytes

-- They are sound, and these are their texts.
abbrev pub AreJoined : List (List ℕ) → List File → Type 0
AreJoined files source = AreSound files × (texts_of source ≡ map unmarked files)

-- The files before the one at fault are sound, and what is said of that one is true of it.
pub record IsJoinFault (files : List (List ℕ)) (why : JoinFault) : Type 0 where
  pub before : AreSound (take why.file files)
  pub here : why.file < length files
  pub true_of_it : IsFileFault (slice_index_or files why.file [])
      (max_source_bytes - length (source_text (take why.file files))) why.fault

-- ---- what is told of them

-- the fault of a file, with the file's number if the caller is to know it
abbrev pub told_of : ℕ → FileFault → SourceFault
told_of file (fault.Unreadable error) = told.Unreadable file
told_of file (fault.NotUtf8 offset) = told.NotUtf8 file
told_of file fault.TooLong = told.SourceTooLong
told_of file fault.OutOfMemory = told.OutOfMemory

abbrev pub source_fault : JoinFault → SourceFault
source_fault why = told_of why.file why.fault

-- A reader failed, or memory ran out.
abbrev pub IsReadersFault : SourceFault → Type 0
IsReadersFault (told.Unreadable file) = Unit {0}
IsReadersFault told.OutOfMemory = Unit {0}
IsReadersFault (told.NotUtf8 file) = ⊥
IsReadersFault told.SourceTooLong = ⊥

-- The files are sound up to this one, and the readers after its own are as they were.
pub record StopsAtFile {R : Type 0} (old new : List R) (files : List (List ℕ)) (file : ℕ) : Type 0 where
  pub before : AreSound (take file files)
  pub here : file < length files
  pub unread : drop (file + 1) new ≡ drop (file + 1) old

-- the source text of the files up to and with this one
abbrev pub source_text_to : List (List ℕ) → ℕ → List ℕ
source_text_to files file = source_text (take (file + 1) files)

-- Reading stops at the first file at fault, and what is said of it is true. A file that makes the source text too long
-- may be anything else.
abbrev pub IsSourceFault : {R : Type 0} → List R → List R → List (List ℕ) → SourceFault → Type 0
IsSourceFault old new files (told.Unreadable file) = StopsAtFile old new files file
IsSourceFault old new files (told.NotUtf8 file) =
    StopsAtFile old new files file
    × (¬ IsUtf8 (slice_index_or files file []) × (length (source_text_to files file) ≤ max_source_bytes))
IsSourceFault old new files told.SourceTooLong =
    (file : ℕ) × (StopsAtFile old new files file × (max_source_bytes < length (source_text_to files file)))
IsSourceFault old new files told.OutOfMemory = Unit {0}
