use Rattle.std.proofs.Common.{◌≡◌, ◌++◌, List, [], length, map, max, ap, ◌∙◌}
use Rattle.sc_tree.specs.declared.instruction.Clause.{Clause}
use Rattle.sc_tree.specs.View.{clause_of}
use Rattle.sc_class.specs.SystemIn.{system_in}
use Rattle.sc_rules.specs.declared.entity_types.entity_type.EntityType.{EntityType}
use Rattle.sc_typing.specs.Views.{entity_of}
use Rattle.sc_model.specs.Olds.{olds_of_clauses}
use Rattle.sc_code.specs.Places.{old_types}
use Rattle.sc_code.specs.Emitted.{require_code, olds_code, ensure_code, checks_depth, olds_depth, clauses_depth, setting}
use Rattle.sc_routines.specs.Settings.{setting_in}
use Rattle.sc_routines.specs.Sources.{source_in}
use Rattle.sc_routines.proofs.Whole.{whole_code, whole_depth, whole_slots}
use Rattle.sc_routines.proofs.routine.lower_texts.Goals as goal

pub returns : goal.returns
returns c =
    let s = system_in c.args.tables.now in
    let r = source_in s c.args.source.now in
    let h0 = setting_in c.setting_of-contract.result in
    let h1 = setting_in c.lower_opening.new.setting in
    let h2 = setting s r r.text c.deref-3.result.now in
    let c0 = c.args.code.now in
    let n0 = map entity_of c.args.names.now.items in
    let n1 = map entity_of c.lower_opening.new.names.items in
    let n2 = map entity_of c.lower_own_text.new.names.items in
    let opening = c.in_ok-opening.ensures in
    let body = c.in_ok-body.ensures in
    let closing = c.in_ok-closing.ensures in
    let e0 : h0 ≡ setting s r r.contract [] = c.setting_of-contract.ensures ∙ ap (λ (ts : List EntityType). setting s r r.contract ts) c.new-none.ensures.items in
    let e1 : h1 ≡ record h0 { olds = h0.olds ++ old_types h0 n0 (olds_of_clauses r.ensure) } =
    opening.setting ∙ ap (λ (ks : List Clause). record h0 { olds = h0.olds ++ old_types h0 n0 (olds_of_clauses (map clause_of ks)) }) c.deref-2.ensures.value in
    let e2 : h2 ≡ setting s r r.text h1.olds = ap (λ (ts : List EntityType). setting s r r.text ts) c.deref-3.ensures.value in
    let c1 = c.lower_opening.new.code in
    let c2 = c.lower_own_text.new.code in
    let c3 = c.lower_postcondition.new.code in
    let g1 : c1 ≡ c0 ++ (require_code h0 n0 r.require ++ olds_code h0 n0 (olds_of_clauses r.ensure)) =
    opening.code
    ∙ ap (λ (ks : List Clause). c0 ++ (require_code h0 n0 (map clause_of ks) ++ olds_code h0 n0 (olds_of_clauses (map clause_of c.deref-2.result.now)))) c.deref.ensures.value
    ∙ ap (λ (ks : List Clause). c0 ++ (require_code h0 n0 r.require ++ olds_code h0 n0 (olds_of_clauses (map clause_of ks)))) c.deref-2.ensures.value in
    let g3 = closing.code ∙ ap (λ (ks : List Clause). c2 ++ ensure_code h1 n2 0 (map clause_of ks)) c.deref-4.ensures.value in
    let d1 = c.in_ok-opening.opening.depth in
    let d2 = c.in_ok-body.body.depth in
    let d3 = c.in_ok-closing.closing in
    let k1 =
    opening.depth ∙ ap (λ (ks : List Clause). max (checks_depth h0 n0 (map clause_of ks)) (olds_depth h0 n0 (olds_of_clauses (map clause_of c.deref-2.result.now)))) c.deref.ensures.value
    ∙ ap (λ (ks : List Clause). max (checks_depth h0 n0 r.require) (olds_depth h0 n0 (olds_of_clauses (map clause_of ks)))) c.deref-2.ensures.value in
    let k3 = closing.depth ∙ ap (λ (ks : List Clause). clauses_depth h1 n2 0 (map clause_of ks)) c.deref-4.ensures.value in
    record {
      code = whole_code s r h0 h1 h2 n0 n1 n2 e0 c.requires opening.names body.names e1 e2 c0 c1 c2 c3 c.push.new.self g1 body.code g3 c.in_ok-push.ensures;
      depth = c.max-2.ensures ∙ ap (max d1) c.max.ensures ∙ whole_depth s r h0 h1 h2 n0 n1 n2 e0 c.requires opening.names body.names e1 e2 d1 d2 d3 k1 body.depth k3;
      slots = whole_slots s r h0 h1 h2 n0 n1 n2 e0 c.requires opening.names body.names e1 e2 c.in_ok-body.body.slots body.slots;
      olds = opening.olds ∙ ap (λ (ks : List Clause). length (olds_of_clauses (map clause_of ks))) c.deref-2.ensures.value;
      blocks = body.blocks;
    }
