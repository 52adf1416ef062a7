-- What the record of a run or of a search may replace.
use Rattle.std.specs.Prelude.{ℕ, ◌≡◌, ◌||◌, Bool, true, List, [], Option, Some, None, IfSome, codes, take}
use Rattle.std.specs.Option.{option_map}
use Rattle.std.specs.Str.{bytes_eq}
use Rattle.sc_lockpass.specs.declared.version.Version.{Version}
use Rattle.sc_lockpass.specs.declared.version.Version.TheVariants.{One, Two}
use Rattle.sc_arguments.specs.declared.arguments.Invocation.{Invocation}
use Rattle.sc_arguments.specs.declared.arguments.Invocation.TheVariants as invocation
use Rattle.sc_serve.specs.declared.serve.Fault.{Fault}
use Rattle.sc_serve.specs.declared.serve.Fault.TheVariants as fault

-- how many bytes the first line of a record has, with its line feed
abbrev pub heading_bytes : ℕ
heading_bytes = 15

-- the text is the first line of a record of this version, with its line feed or without
abbrev pub is_heading : Version → List ℕ → Bool
is_heading One text = bytes_eq text (codes "scoop record 1") || bytes_eq text (codes "scoop record 1\n")
is_heading Two text = bytes_eq text (codes "scoop record 2") || bytes_eq text (codes "scoop record 2\n")

-- A file with this beginning is empty, or a record by its first line. The beginning is as long as a heading, or is
-- the whole file if that is shorter.
abbrev pub begins_replaceable : List ℕ → Bool
begins_replaceable beginning = bytes_eq beginning [] || (is_heading One beginning || is_heading Two beginning)

-- A record may replace a file of these bytes.
abbrev pub may_be_replaced : List ℕ → Bool
may_be_replaced bytes = begins_replaceable (take heading_bytes bytes)

-- the name of the file that a record is to be written to, if one is named
abbrev pub recorded_to : Invocation → Option (List ℕ)
recorded_to (invocation.OnFiles what names) = None
recorded_to (invocation.CheckAll options names) = None
recorded_to (invocation.Run options names) = option_map (λ n. n.now) options.record
recorded_to (invocation.Chance options names) = option_map (λ n. n.now) options.record
recorded_to (invocation.Replay options names) = None
recorded_to (invocation.Search options names) = option_map (λ n. n.now) options.record
recorded_to (invocation.Test options names) = None
recorded_to (invocation.Layout is_written names) = None
recorded_to (invocation.Explain word) = None
recorded_to invocation.LanguageServer = None

-- If a record is named and the bytes that it would replace are known, they may be replaced.
abbrev pub MayBeWritten : (List ℕ → Option (List ℕ)) → Option (List ℕ) → Type 0
MayBeWritten replaced_by name = IfSome name (λ n. IfSome (replaced_by n) (λ bytes. may_be_replaced bytes ≡ true))

-- Why no record can be written to the file of this name: the file exists and is no record, or is one of the files
-- that are read; what it holds can't be read; it can't be written; or memory ran out.
abbrev pub IsUnwritable : Option (List ℕ) → Fault → Type 0
IsUnwritable name (fault.NoRecord told) = name ≡ Some told.now
IsUnwritable name (fault.NoDrawing told) = ⊥
IsUnwritable name (fault.CannotRead told reading) = name ≡ Some told.now
IsUnwritable name (fault.CannotRecord told error remains) = name ≡ Some told.now
IsUnwritable name fault.OutOfMemory = Unit {0}
IsUnwritable name (fault.Usage usage) = ⊥
IsUnwritable name (fault.NoCode word) = ⊥
IsUnwritable name fault.CannotWrite = ⊥
IsUnwritable name fault.NoThread = ⊥
IsUnwritable name fault.LogsDiffer = ⊥
IsUnwritable name fault.NotText = ⊥
