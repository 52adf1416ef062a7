use Rattle.std.proofs.Common.{ap, ◌∙◌, map}
use Rattle.sc_tree.specs.Plain.{DeclaredType}
use Rattle.sc_tree.specs.Grammar.Classes.{declared_as}
use Rattle.sc_tree.specs.View.{declaration_of}
use Rattle.sc_parse.specs.Reading.Reads.{name_in, type_in}
use Rattle.sc_parse.proofs.Lists.{named_push}
use Rattle.sc_parse.proofs.declaration.declared_with.Goals as goal

pub loop-name-preserved : goal.loop-name-preserved
loop-name-preserved c =
    ap (λ (ds : _). map declaration_of ds) c.in_ok-declarations.ensures
    ∙ named_push declaration_of (declared_as (type_in c.args.declared.now)) c.loop-name.declarations.items c.loop-name.yielded _ c.in-Some.name c.loop-name.invariant
    (ap (λ (t : DeclaredType). declared_as t (name_in c.in-Some.name)) c.in_ok-declared_type.ensures)
