use Rattle.std.proofs.Common.{map, sym, ◌∙◌}
use Rattle.sc_tree.specs.View.{name_of}
use Rattle.sc_class.proofs.Anys.{read_at}
use Rattle.sc_class.proofs.LeftOutLemmas.{export_at}
use Rattle.sc_class.proofs.faults.left_out.exports_left_out.Goals as goal

pub returns : goal.returns
returns c = export_at (map name_of c.args.exports.now) (name_of c.in_ok-first.first.now) (read_at name_of c.args.exports.now 0 c.first.result c.in_ok-first.first c.first.ensures.value c.in_ok-first.was) (sym c.is_plain_export.ensures ∙ c.if-is_plain_export.false)
