use Rattle.std.proofs.Common.{ap, ◌∙◌, w64}
use Rattle.std.specs.Fmt.{signed_decimal}
use Rattle.std.proofs.lemmas.Int.{to_z-of_z}
use Rattle.sc_tree.specs.Internal.Printer.{output_of}
use Rattle.sc_tree.proofs.PrintingParts.{integer_put, on_ok_both}
use Rattle.sc_tree.proofs.print.Printer.integer.Goals as goal

pub returns : goal.returns
returns c =
    on_ok_both c.token.result
    (integer_put (output_of c.args.self.now) (output_of c.token.new.self) c.args.value _ _ c.as_bytes.ensures.value
    (c.in_ok-digits.ensures.ok ∙ ap signed_decimal (to_z-of_z w64 c.args.value c.ranges.value)))
    c.token.ensures.text c.token.ensures.apart
