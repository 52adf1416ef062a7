-- What the code answers of a part: what is read there, unless memory ran out.
use Rattle.std.specs.Prelude.{◌≡◌, ℕ, List, Result, Ok, Err, string_bytes}
use Rattle.std.specs.declared.alloc.Global.{Global}
use Rattle.std.specs.declared.string.String.{String}
use Rattle.sc_text.specs.declared.fault.LexFault.{LexFault}
use Rattle.sc_text.specs.declared.fault.LexFault.TheVariants as fault
use Rattle.sc_text.specs.declared.lexer.Piece.{Piece}
use Rattle.sc_text.specs.declared.lexer.Piece.TheVariants as piece
use Rattle.sc_text.specs.Kind.{kind_of}
use Rattle.sc_text.specs.Reading.Front.{Front, Gap, Lexed, Flaw}

abbrev pub front_of : Piece → Front
front_of (piece.Gap n) = Gap n
front_of (piece.Token k n) = Lexed (kind_of k) n

-- unless memory ran out, the fault is that of reading
abbrev pub Refuses : Front → LexFault → Type 0
Refuses f fault.OutOfMemory = Unit {0}
Refuses f (fault.BadCharacter span) = f ≡ Flaw (fault.BadCharacter span)
Refuses f (fault.UnclosedString span) = f ≡ Flaw (fault.UnclosedString span)
Refuses f (fault.BadEscape span) = f ≡ Flaw (fault.BadEscape span)
Refuses f (fault.IntegerTooLarge span) = f ≡ Flaw (fault.IntegerTooLarge span)
Refuses f fault.SourceTooLong = ⊥

abbrev pub Gives : Front → Result Piece LexFault → Type 0
Gives f (Ok p) = f ≡ front_of p
Gives f (Err e) = Refuses f e

abbrev pub RefusesMarks : Result (List ℕ) LexFault → LexFault → Type 0
RefusesMarks read fault.OutOfMemory = Unit {0}
RefusesMarks read (fault.BadCharacter span) = ⊥
RefusesMarks read (fault.UnclosedString span) = ⊥
RefusesMarks read (fault.BadEscape span) = read ≡ Err (fault.BadEscape span)
RefusesMarks read (fault.IntegerTooLarge span) = ⊥
RefusesMarks read fault.SourceTooLong = ⊥

abbrev pub GivesMarks : Result (List ℕ) LexFault → Result (String Global) LexFault → Type 0
GivesMarks read (Ok s) = read ≡ Ok (string_bytes s)
GivesMarks read (Err e) = RefusesMarks read e
