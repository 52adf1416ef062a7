use Rattle.std.proofs.Common.{Option, sym, subst}
use Rattle.std.specs.Prelude.{OnOk, bytes_eq}
use Rattle.std.specs.HashMap.{UpdatesBy}
use Rattle.sc_class.specs.declared.names.Known.{Known}
use Rattle.sc_class.specs.Internal.NameIndex.{IsIndex}
use Rattle.sc_class.proofs.LaterNames.{none_less}
use Rattle.sc_class.proofs.NameLemmas.{index_shrunk, index_shrunk_or}
use Rattle.sc_class.proofs.names.NameIndex.pop.Goals as goal

pub invariant_of-self : goal.invariant_of-self
invariant_of-self c = (
  index_shrunk c.self.inside.known c.remove.new.self c.pop.new.self.items c.in-Some.last c.as_str-text.result.now c.as_str-text.ensures.value
      (subst (IsIndex c.self.inside.known) c.in-Some.ensures.items c.self.invariant.0)
      (subst (λ (o : Option Known). UpdatesBy (λ a b. bytes_eq a.now b.now) (λ k. bytes_eq c.as_str-text.result.now k.now) c.self.inside.known c.remove.new.self o) (sym c.in-None.is) c.remove.ensures.updates),
  none_less c.self.inside.latest c.self.inside.names.items c.pop.new.self.items c.in-Some.last c.in-Some.ensures.items c.self.invariant.1,
)

pub invariant_of-self-in-Some-before : goal.invariant_of-self-in-Some-before
invariant_of-self-in-Some-before c = (
  index_shrunk_or c.self.inside.known c.insert.new.self c.pop.new.self.items c.in-Some.last c.as_str-text.result.now c.as_str-text.ensures.value c.insert.result
      (subst (IsIndex c.self.inside.known) c.in-Some.ensures.items c.self.invariant.0)
      (subst (λ (o : Option Known). OnOk c.insert.result (UpdatesBy (λ a b. bytes_eq a.now b.now) (λ k. bytes_eq c.as_str-text.result.now k.now) c.self.inside.known c.insert.new.self o)) (sym c.in-Some-before.is) c.insert.ensures.updates)
      c.insert.ensures.absent,
  none_less c.self.inside.latest c.self.inside.names.items c.pop.new.self.items c.in-Some.last c.in-Some.ensures.items c.self.invariant.1,
)
