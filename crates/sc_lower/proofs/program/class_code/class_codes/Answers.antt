use Rattle.std.proofs.Common.{◌++◌, ◌∷◌, [], map, sym, ap, ◌∙◌}
use Rattle.std.specs.Prelude.{string_bytes}
use Rattle.std.specs.List.{range_with_len}
use Rattle.std.proofs.lemmas.List.{map-append}
use Rattle.sc_class.specs.SystemIn.{system_in}
use Rattle.sc_code.specs.Programs.{PlainClass, class_in, class_code_of}
use Rattle.sc_lower.proofs.Ranges.{range_more}
use Rattle.sc_lower.proofs.program.class_code.class_codes.Goals as goal

pub loop-class-preserved : goal.loop-class-preserved
loop-class-preserved c =
    let coded = class_code_of (system_in c.args.numbering.now.tables.now) (map string_bytes c.args.names.now) in
    ap (map class_in) c.in_ok-push.ensures.items
    ∙ map-append class_in c.loop-class.codes.items (c.in_ok-class_code.field-0 ∷ [])
    ∙ ap (λ xs. xs ++ class_in c.in_ok-class_code.field-0 ∷ []) c.loop-class.invariant
    ∙ ap (λ (x : PlainClass). map coded (range_with_len 0 c.loop-class.class) ++ x ∷ []) c.in_ok-class_code.ensures
    ∙ sym (range_more coded c.loop-class.class)
