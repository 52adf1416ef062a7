use Rattle.std.proofs.Common.{◌≡◌, ◌+◌, ◌++◌, [], ◌∷◌, ◌∙◌, ap, arith}
use Rattle.std.proofs.lemmas.Grind.{common_steps}
use Rattle.sc_audit.proofs.WritingLemmas.{short_line}
use Rattle.sc_audit.proofs.writing.push_short_line.Goals as goal

pub returns : goal.returns
returns c =
    let added : c.try_extend_from_slice.new.self.items ≡ c.args.block.now.items ++ ((48 + c.args.handler) ∷ (32 ∷ ((48 + c.args.turns) ∷ (10 ∷ [])))) =
    grind (arith, common_steps) in
    added ∙ ap (λ bs. c.args.block.now.items ++ bs) (short_line c.args.handler c.args.turns c.requires.digits.0 c.requires.digits.1)
