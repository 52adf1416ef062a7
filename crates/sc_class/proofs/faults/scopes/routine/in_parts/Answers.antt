use Rattle.std.proofs.Common.{◌≡◌, List, subst}
use Rattle.std.specs.Prelude.{OnOk}
use Rattle.sc_text.specs.declared.token.Span.{Span}
use Rattle.sc_class.proofs.ScopeSteps.{routine_found}
use Rattle.sc_class.proofs.faults.scopes.routine.in_parts.Goals as goal

pub returns : goal.returns
returns c =
    subst (λ (ps : List Span). OnOk c.in_instructions.result (c.in_instructions.new.found ≡ ps))
    (routine_found c.args.features.now c.args.routine.now c.deref.result.now c.deref-4.result.now c.deref-2.result.now c.deref-3.result.now c.deref-5.result.now c.args.known.now c.declare_entities.new.known c.declare_entities-2.new.known
    c.args.found.now c.declare_entities.new.found c.in_clauses.new.found c.in_clauses-2.new.found c.declare_entities-2.new.found
    c.deref.ensures.value c.deref-4.ensures.value c.deref-2.ensures.value c.deref-3.ensures.value c.deref-5.ensures.value c.requires c.in_ok-declare_entities.ensures.added c.in_ok-declare_entities-2.ensures.added
    c.in_ok-declare_entities.ensures.found c.in_ok-in_clauses.ensures c.in_ok-in_clauses-2.ensures c.in_ok-declare_entities-2.ensures.found)
    c.in_instructions.ensures.found
