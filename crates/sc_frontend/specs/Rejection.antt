-- The answer to faults that leave a source text without a program.
use Rattle.sc_text.specs.declared.fault.LexFault.{LexFault}
use Rattle.sc_text.specs.declared.fault.LexFault.TheVariants as lexing
use Rattle.sc_parse.specs.declared.fault.ParseFault.{ParseFault}
use Rattle.sc_parse.specs.declared.fault.ParseFault.TheVariants as parsing
use Rattle.sc_class.specs.declared.fault.ClassFault.{ClassFault}
use Rattle.sc_class.specs.declared.fault.ClassFault.TheVariants as classes
use Rattle.sc_typing.specs.declared.fault.CheckFault.{CheckFault}
use Rattle.sc_typing.specs.declared.fault.CheckFault.TheVariants as checking
use Rattle.sc_lower.specs.declared.program.lowering.Lowering.{Lowering}
use Rattle.sc_lower.specs.declared.program.lowering.Lowering.TheVariants as lowering
use Rattle.sc_frontend.specs.declared.rejection.Rejection.{Rejection}
use Rattle.sc_frontend.specs.declared.rejection.Rejection.TheVariants as rejection

abbrev pub out_of_memory : Rejection
out_of_memory = rejection.OutOfMemory

abbrev pub of_system : CheckFault → Rejection
of_system (checking.Refused fault) = rejection.Rules fault
of_system checking.OutOfMemory = rejection.OutOfMemory

abbrev pub of_code : Lowering → Rejection
of_code (lowering.CodeTooLong checked) = rejection.CodeTooLong
of_code (lowering.OutOfMemory checked) = rejection.OutOfMemory

abbrev pub of_text : LexFault → Rejection
of_text lexing.OutOfMemory = rejection.OutOfMemory
of_text fault = rejection.Text fault

abbrev pub of_tokens : ParseFault → Rejection
of_tokens parsing.OutOfMemory = rejection.OutOfMemory
of_tokens fault = rejection.Grammar fault

abbrev pub of_classes : ClassFault → Rejection
of_classes classes.OutOfMemory = rejection.OutOfMemory
of_classes fault = rejection.Classes fault
