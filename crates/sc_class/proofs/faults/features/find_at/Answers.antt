use Rattle.std.proofs.Common.{Option, ap, sym, ◌∙◌}
use Rattle.std.specs.Option.{option_map, option_copied}
use Rattle.sc_tree.specs.View.{class_of, system_of}
use Rattle.sc_class.proofs.FaultLemmas.{more_found}
use Rattle.sc_class.proofs.faults.features.find_at.Goals as goal

pub returns-clause-found : goal.returns-clause-found
returns-clause-found c =
    more_found (system_of c.args.outline.now.hierarchy.system.now) c.args.number (class_of c.in-Some.class.now) (sym c.class.ensures ∙ ap (λ (o : Option _). option_map class_of (option_copied o)) c.in-Some.is)
    c.args.done.now c.mark.new.done c.mark.ensures c.args.found.now c.find_in_class.new.found c.requires.found c.in_ok-find_in_class.ensures.found
