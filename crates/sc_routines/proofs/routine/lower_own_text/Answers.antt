use Rattle.std.proofs.Common.{◌≡◌, ◌+◌, ◌++◌, OnOk, IfOk, List, length, map, max, ap, subst, ◌∙◌}
use Rattle.sc_tree.specs.declared.declaration.Declaration.{Declaration}
use Rattle.sc_tree.specs.declared.instruction.Instr.{Instr}
use Rattle.sc_tree.specs.View.{declaration_of, instrs_of}
use Rattle.sc_class.specs.SystemIn.{system_in}
use Rattle.sc_rules.specs.declared.entity_types.entity_type.EntityType.{EntityType}
use Rattle.sc_typing.specs.Views.{entity_of}
use Rattle.sc_model.specs.Environments.{scope_of}
use Rattle.sc_code.specs.Places.{Setting}
use Rattle.sc_code.specs.Emitted.{declare_code, instrs_code, instrs_depth, instrs_slots, setting}
use Rattle.sc_code.specs.Room.{instrs_blocks}
use Rattle.sc_routines.specs.Settings.{bound_locals, setting_in}
use Rattle.sc_routines.specs.Sources.{source_in}
use Rattle.sc_routines.proofs.routine.lower_own_text.Goals as goal

pub returns : goal.returns
returns c =
    let s = system_in c.args.tables.now in
    let r = source_in s c.args.source.now in
    let n = map entity_of c.args.names.now.items in
    let inside = setting_in c.setting_of-inside.result in
    let is : inside ≡ setting s r r.text c.args.olds.now = c.setting_of-inside.ensures ∙ ap (λ (ts : List EntityType). setting s r r.text ts) c.in_ok-olds.ensures.items in
    let found = c.lower_body.ensures in
    let done = c.lower_body.result in
    let c0 = c.args.code.now in
    let c1 = c.lower_body.new.code in
    let code = λ (h : Setting) (ds : List Declaration) (is : List Instr).
    OnOk done (c1 ≡ c0 ++ (declare_code (length n) (bound_locals h (map declaration_of ds)) ++ instrs_code h (n ++ scope_of (bound_locals h (map declaration_of ds))) (instrs_of is))) in
    let depth = λ (h : Setting) (ds : List Declaration) (is : List Instr).
    IfOk done (λ l. l.depth ≡ instrs_depth h (n ++ scope_of (bound_locals h (map declaration_of ds))) (instrs_of is)) in
    let slots = λ (h : Setting) (ds : List Declaration) (is : List Instr).
    IfOk done (λ l. l.slots ≡ max (length n + length (bound_locals h (map declaration_of ds))) (instrs_slots h (n ++ scope_of (bound_locals h (map declaration_of ds))) (instrs_of is))) in
    let locals = c.deref.result.now in
    let body = c.deref-2.result.now in
    let own = setting s r r.text c.args.olds.now in
    record {
      code = subst (code own c.args.source.now.routine.now.locals.items) c.deref-2.ensures.value (subst (λ (ds : List Declaration). code own ds body) c.deref.ensures.value (subst (λ (h : Setting). code h locals body) is found.code));
      names = found.names;
      depth = subst (depth own c.args.source.now.routine.now.locals.items) c.deref-2.ensures.value (subst (λ (ds : List Declaration). depth own ds body) c.deref.ensures.value (subst (λ (h : Setting). depth h locals body) is found.depth));
      slots = subst (slots own c.args.source.now.routine.now.locals.items) c.deref-2.ensures.value (subst (λ (ds : List Declaration). slots own ds body) c.deref.ensures.value (subst (λ (h : Setting). slots h locals body) is found.slots));
      blocks = subst (λ (is : List Instr). IfOk done (λ l. l.blocks ≡ instrs_blocks (instrs_of is))) c.deref-2.ensures.value found.blocks;
    }
