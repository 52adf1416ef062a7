use Rattle.std.proofs.Common.{◌≡◌, length, arith, sym, ◌∙◌, ap}
use Rattle.std.proofs.lemmas.List.{length-map}
use Rattle.sc_class.specs.View.{entry_of}
use Rattle.sc_rules.specs.Names.{routine_of}
use Rattle.sc_typing.specs.FeatureNumbers.{all_features}
use Rattle.sc_class.specs.SystemIn.{system_in}
use Rattle.sc_typing.proofs.Numbers.{some_numbered, start_read, sum_within}
use Rattle.sc_typing.proofs.purity.numbering.Numbering.number.Goals as goal

pub overflow_add-result : goal.overflow_add-result
overflow_add-result c =
    let s = system_in c.args.self.now.tables.now in
    let v = c.args.self.now.features.small in
    let w = c.args.self.now.features.ok in
    let n : length c.args.self.now.features.items ≡ length (all_features s) =
    sym (length-map c.args.self.now.features.items (λ e. routine_of (entry_of e))) ∙ ap length c.args.self.now.are_all ∙ length-map (all_features s) routine_of in
    let l = sum_within s c.args.name.now c.args.class c.declared_number.result c.in-Some.place c.in-Some-get.start.now (length c.args.self.now.features.items) c.declared_number.ensures c.in-Some.is
    (start_read s c.args.self.now.starts.items c.deref.result.now c.args.class c.in-Some-get.start.now c.args.self.now.are_starts c.deref.ensures.value c.in-Some-get.ensures.lookup.3.0 c.in-Some-get.ensures.lookup.1) n in
    omega (arith, v, w.0, w.1, l)

pub returns : goal.returns
returns c =
    let s = system_in c.args.self.now.tables.now in
    some_numbered s c.args.name.now c.args.class c.declared_number.result c.in-Some.place c.in-Some-get.start.now c.declared_number.ensures c.in-Some.is
    (start_read s c.args.self.now.starts.items c.deref.result.now c.args.class c.in-Some-get.start.now c.args.self.now.are_starts c.deref.ensures.value c.in-Some-get.ensures.lookup.3.0 c.in-Some-get.ensures.lookup.1)
