use Rattle.std.proofs.Common.{ap, ◌∙◌}
use Rattle.sc_tree.specs.View.{system_of}
use Rattle.sc_class.specs.Internal.Lines.{changes_of, known_by, put_in_turn}
use Rattle.sc_class.proofs.Lines.{leaving}
use Rattle.sc_class.proofs.class_tables.line.Line.leave.Goals as goal

pub returns : goal.returns
returns c =
    leaving (system_of c.args.hierarchy.now.system.now) c.args.self.now.class c.pop.new.self.items c.args.self.now.levels.items (λ x. known_by x c.args.self.now.known) (λ x. known_by x c.put_all.new.known) c.in-Some.level c.requires c.in-Some.ensures.items
    (λ x. c.in_ok-put_all.ensures x ∙ ap (λ cs. put_in_turn x (changes_of cs) (known_by x c.args.self.now.known)) c.deref.ensures.value) c.parent-self.result c.parent-self.ensures
