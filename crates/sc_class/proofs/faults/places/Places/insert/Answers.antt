use Rattle.std.proofs.Common.{◌++◌, ◌∷◌, [], List, ap, ◌∙◌}
use Rattle.sc_text.specs.declared.token.Span.{Span}
use Rattle.sc_class.proofs.PlaceLists.{keys_more}
use Rattle.sc_class.proofs.faults.places.Places.insert.Goals as goal

pub invariant_of-self-2 : goal.invariant_of-self-2
invariant_of-self-2 c =
    keys_more c.self.inside.keys c.insert.new.self c.self.inside.list.items c.push_reserved.new.self.items c.args.place c.self.invariant c.in_ok-insert.ensures.updates.0
    (c.push_reserved.ensures.items ∙ ap (λ (ps : List Span). ps ++ c.args.place ∷ []) c.reserve.ensures.items)
