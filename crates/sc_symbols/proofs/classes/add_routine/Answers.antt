use Rattle.std.proofs.Common.{◌∙◌, List, ap, map}
use Rattle.sc_tree.specs.declared.declaration.Declaration.{Declaration}
use Rattle.sc_tree.specs.View.{declaration_of, routine_of}
use Rattle.sc_class.specs.SystemIn.{system_in}
use Rattle.sc_typing.specs.Views.{routine_in}
use Rattle.sc_symbols.specs.Internal.{judged, scope_of}
use Rattle.sc_symbols.specs.Scopes.{scope_of_formals}
use Rattle.sc_symbols.proofs.Added.{routine_added}
use Rattle.sc_symbols.proofs.classes.add_routine.Goals as goal

pub returns : goal.returns
returns c =
    let s = system_in c.args.tables.now in
    routine_added judged s c.args.class (routine_of c.args.routine.now) (routine_in c.context_of-context.result) (scope_of c.in_ok-contract.contract)
    (scope_of c.new.result) (map declaration_of c.deref-2.result.now) c.add_text.result c.args.mentions.now.items c.add_declarations.new.mentions.items
    c.add_type_if_any.new.mentions.items c.add_text.new.mentions.items c.context_of-context.ensures
    (c.in_ok-contract.ensures ∙ ap (λ (ds : List Declaration). scope_of_formals s (map declaration_of ds)) c.deref.ensures.value) c.new.ensures
    (ap (map declaration_of) c.deref-2.ensures.value) c.in_ok-add_declarations.ensures c.in_ok-add_type_if_any.ensures c.add_text.ensures
