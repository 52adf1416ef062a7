use Rattle.std.proofs.Common.{◌≡◌, arith, length}
use Rattle.std.proofs.lemmas.Bool.{OnTrue_at}
use Rattle.sc_tree.specs.View.{system_of}
use Rattle.sc_class.specs.Internal.Lines.{known_by}
use Rattle.sc_class.proofs.Lines.{above_if}
use Rattle.sc_class.proofs.SizeLemmas.{classes_counted}
use Rattle.sc_class.proofs.class_tables.line.Line.is_above.Goals as goal

pub returns-then-is_same_class-clause-known : goal.returns-then-is_same_class-clause-known
returns-then-is_same_class-clause-known c =
    let s = system_of c.args.hierarchy.now.system.now in
    let many : c.len.result ≡ length c.args.self.now.levels.items = omega arith in
    above_if s c.args.self.now.class c.parent.result c.args.self.now.levels.items (λ x. known_by x c.args.self.now.known) c.args.number c.len.result (length c.classes.result.now) c.requires
    (OnTrue_at c.if-is_same_class.true c.is_same_class.ensures) c.parent.ensures many (classes_counted s c.classes.result.now c.classes.ensures)
