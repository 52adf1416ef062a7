use Rattle.std.proofs.Common.{ap, ◌∙◌, map, ◌++◌}
use Rattle.sc_tree.specs.Canonical.{canonical_text}
use Rattle.sc_tree.specs.Canonical.Layout.{text_of_lines}
use Rattle.sc_tree.specs.Canonical.Classes.{classes_lines}
use Rattle.sc_tree.specs.Internal.Printer.{Output}
use Rattle.sc_tree.specs.View.{class_of, system_of}
use Rattle.sc_tree.proofs.PrintingClasses.{put_lines-text}
use Rattle.sc_tree.proofs.print.print_system.Goals as goal

pub returns : goal.returns
unfolding canonical_text system_of
returns c =
    let lines = classes_lines (map class_of c.deref.result.now) in
    ap (λ (o : Output). o.text) c.in_ok-classes.ensures ∙ put_lines-text _ lines ∙ ap (λ cs. cs ++ text_of_lines lines) c.new.ensures.items
    ∙ ap (λ xs. text_of_lines (classes_lines (map class_of xs))) c.deref.ensures.value
