use Rattle.std.proofs.Common.{◌≡◌, ◌++◌, ◌∷◌, [], List, ℕ, length, arith, ap, sym, subst, ◌∙◌}
use Rattle.sc_class.specs.declared.names.Added.{Added}
use Rattle.sc_class.specs.Internal.NameIndex.{IsIndex, known_then}
use Rattle.sc_class.proofs.LaterNames.{none_more}
use Rattle.sc_class.proofs.NameLemmas.{index_grown}
use Rattle.sc_class.proofs.names.NameIndex.push.Goals as goal

pub invariant_of-self-2 : goal.invariant_of-self-2
invariant_of-self-2 c =
    let many : c.len.result ≡ length c.self.inside.names.items = omega arith in
    let added : Added = record { name = c.args.name; before = c.copied-before.result } in
    let more = c.push_reserved.ensures.items ∙ ap (λ (ns : List Added). ns ++ added ∷ []) c.reserve.ensures.items in (
      subst (IsIndex c.insert.new.self) (sym more)
          (index_grown c.self.inside.known c.insert.new.self c.self.inside.names.items added c.as_str-text.result.now c.as_str-text.ensures.value c.self.invariant.0 (c.copied-before.ensures ∙ c.get.ensures.value)
          c.known_with-known.result (c.known_with-known.ensures ∙ ap (λ (l : ℕ). known_then c.copied-before.result l c.args.name.now.span) many) c.in_ok-insert.ensures.updates),
      none_more c.self.inside.latest c.max-self-inside.result c.self.inside.names.items c.push_reserved.new.self.items added (omega (arith, c.max-self-inside.ensures)) (omega (arith, c.max-self-inside.ensures)) more c.self.invariant.1,
    )
