use Rattle.std.proofs.Common.{List, ap, sym, ◌∙◌}
use Rattle.std.specs.Prelude.{slice_get}
use Rattle.std.specs.Option.{option_map}
use Rattle.std.proofs.lemmas.Option.{slice_get-map}
use Rattle.sc_tree.specs.Plain.{Class}
use Rattle.sc_tree.specs.View.{class_of}
use Rattle.sc_class.proofs.Anys.{got}
use Rattle.sc_class.proofs.class_tables.outline.Outline.class.Goals as goal

pub returns : goal.returns
returns c =
    ap (option_map class_of) (got c.classes.result.now c.args.number c.get.result c.get.ensures.lookup)
    ∙ sym (slice_get-map class_of c.classes.result.now c.args.number)
    ∙ ap (λ (cs : List Class). slice_get cs c.args.number) c.classes.ensures
