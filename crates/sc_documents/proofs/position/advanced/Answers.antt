use Rattle.std.proofs.Common.{arith, ◌∙◌, sym}
use Rattle.std.proofs.lemmas.Grind.{common_steps}
use Rattle.sc_documents.proofs.Steps.{all-counted, ended, further, same-position}
use Rattle.sc_documents.proofs.position.advanced.Goals as goal
use Rattle.sc_documents.proofs.position.advanced.Goals.{then-ends_line, else-ends_line}

pub loop-rest-preserved : goal.loop-rest-preserved
loop-rest-preserved c =
    let some = c.in-len1-up.len_at_least in
    let more = c.if-left-eq0.false in
    let was = c.loop-rest.invariant in
    elim c.if-ends_line.branch [
      | then-ends_line w ↦ record {
        counted = ended _ _ c.loop-rest.line c.loop-rest.character c.loop-rest.left 0 c.loop-rest.rest.now _ _ _ (omega (arith, some))
            (omega (arith, more)) (grind (arith, common_steps)) (sym c.ends_line.ensures ∙ w.if-ends_line.true) w.line-is w.character-is was.counted;
        lines = grind (arith, common_steps, some, w.line-is, was.lines);
        characters = grind (arith, common_steps, some, w.character-is, was.characters);
      }
      | else-ends_line w ↦ record {
        counted = further _ _ c.loop-rest.line c.loop-rest.character c.loop-rest.left c.loop-rest.rest.now _ _ _ (omega (arith, some))
            (omega (arith, more)) (grind (arith, common_steps)) (sym c.ends_line.ensures ∙ w.if-ends_line.false) w.line-is
            (grind (arith, w.character-is, w.units_of-character.ensures.value)) was.counted;
        lines = grind (arith, common_steps, some, w.line-is, was.lines);
        characters = grind (arith, common_steps, some, w.character-is, w.units_of-character.ensures.few, was.characters);
      }
    ]

pub returns-in_default : goal.returns-in_default
returns-in_default c =
    let all = all-counted _ _ c.loop-rest.line c.loop-rest.character c.loop-rest.left c.loop-rest.rest.now c.in_default.len_below c.loop-rest.invariant.counted in
    same-position _ _ all.0 all.1
