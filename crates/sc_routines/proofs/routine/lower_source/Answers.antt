use Rattle.std.proofs.Common.{◌++◌, List, map, ap, ◌∙◌}
use Rattle.sc_tree.specs.declared.declaration.Declaration.{Declaration}
use Rattle.sc_tree.specs.View.{declaration_of}
use Rattle.sc_class.specs.SystemIn.{system_in}
use Rattle.sc_rules.specs.Names.{formals_known}
use Rattle.sc_typing.specs.declared.declarations.names.Entity.{Entity}
use Rattle.sc_typing.specs.Views.{entity_of}
use Rattle.sc_code.specs.Operations.{Operation}
use Rattle.sc_code.specs.Emitted.{routine_code}
use Rattle.sc_routines.specs.Sources.{source_in}
use Rattle.sc_routines.proofs.routine.lower_source.Goals as goal

pub lower_texts-requires : goal.lower_texts-requires
lower_texts-requires c =
    let s = system_in c.args.tables.now in
    c.in_ok-add_formals.ensures ∙ ap (λ (l : List Entity). map entity_of l ++ formals_known s (map declaration_of c.deref.result.now)) c.new-names.ensures.items
    ∙ ap (λ (ds : List Declaration). formals_known s (map declaration_of ds)) c.deref.ensures.value

pub returns : goal.returns
returns c =
    let s = system_in c.args.tables.now in
    let needs = c.in_ok-needs.ensures in
    record {
      code = needs.code ∙ ap (λ (l : List Operation). l ++ routine_code s (source_in s c.args.source.now)) c.new-code.ensures;
      depth = needs.depth;
      slots = needs.slots;
      olds = needs.olds;
      blocks = needs.blocks;
    }
