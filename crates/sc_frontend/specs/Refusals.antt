-- For which reason a text is refused, and where.
use Rattle.std.specs.Prelude.{Option, Some, None}
use Rattle.sc_text.specs.declared.token.Span.{Span}
use Rattle.sc_text.specs.declared.fault.LexFault.{LexFault}
use Rattle.sc_text.specs.declared.fault.LexFault.TheVariants as lexing
use Rattle.sc_parse.specs.declared.fault.ParseFault.{ParseFault}
use Rattle.sc_parse.specs.declared.fault.ParseFault.TheVariants as parsing
use Rattle.sc_class.specs.declared.fault.ClassFault.{ClassFault}
use Rattle.sc_class.specs.declared.fault.ClassFault.TheVariants as classes
use Rattle.sc_rules.specs.declared.fault.Fault.{Fault}
use Rattle.sc_rules.specs.declared.refusal_code.RefusalCode.{RefusalCode}
use Rattle.sc_rules.specs.declared.refusal_code.RefusalCode.TheVariants as reason
use Rattle.sc_frontend.specs.declared.refused.Refused.{Refused}
use Rattle.sc_frontend.specs.declared.rejection.Rejection.{Rejection}
use Rattle.sc_frontend.specs.declared.rejection.Rejection.TheVariants as rejection

-- the refusal of a part of the text
abbrev pub refused_at : RefusalCode → Span → Option Refused
refused_at code span = Some (record { code = code; span = Some span })

-- the refusal of the whole text
abbrev pub refused_anywhere : RefusalCode → Option Refused
refused_anywhere code = Some (record { code = code; span = None })

-- why a text is refused that spells no tokens; nothing if memory ran out
abbrev pub by_characters : LexFault → Option Refused
by_characters (lexing.BadCharacter span) = refused_at reason.BadCharacter span
by_characters (lexing.UnclosedString span) = refused_at reason.UnclosedString span
by_characters (lexing.BadEscape span) = refused_at reason.BadEscape span
by_characters (lexing.IntegerTooLarge span) = refused_at reason.IntegerTooLarge span
by_characters lexing.SourceTooLong = refused_anywhere reason.SourceTooLong
by_characters lexing.OutOfMemory = None

-- why a text is refused whose tokens spell no system; nothing if memory ran out
abbrev pub by_tokens : ParseFault → Option Refused
by_tokens (parsing.NotInGrammar span) = refused_at reason.NotInGrammar span
by_tokens (parsing.TooDeep span) = refused_at reason.TooDeep span
by_tokens parsing.OutOfMemory = None

-- why a text is refused that has this class fault; nothing if memory ran out
abbrev pub by_classes : ClassFault → Option Refused
by_classes (classes.DuplicateClass span) = refused_at reason.DuplicateClass span
by_classes (classes.UnknownParent span) = refused_at reason.UnknownParent span
by_classes (classes.Cycle span) = refused_at reason.Cycle span
by_classes (classes.DuplicateFeature span) = refused_at reason.DuplicateFeature span
by_classes (classes.BadRedefinition span) = refused_at reason.BadRedefinition span
by_classes classes.NoRoot = refused_anywhere reason.NoRoot
by_classes classes.Limit = refused_anywhere reason.Limit
by_classes (classes.LeftOut what span) = refused_at reason.LeftOut span
by_classes classes.OutOfMemory = None

-- why a text is refused in which a rule fails
abbrev pub by_rule : Fault → Refused
by_rule fault = record { code = reason.Rule fault.rule; span = Some fault.span }

-- Why a text is refused that is rejected so: nothing of a program that would be too long, which has no code, and nothing
-- if memory ran out, which is no refusal.
abbrev pub refused_by : Rejection → Option Refused
refused_by (rejection.Text fault) = by_characters fault
refused_by (rejection.Grammar fault) = by_tokens fault
refused_by (rejection.Classes fault) = by_classes fault
refused_by (rejection.Rules fault) = Some (by_rule fault)
refused_by rejection.CodeTooLong = None
refused_by rejection.OutOfMemory = None
