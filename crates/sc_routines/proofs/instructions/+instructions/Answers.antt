use Rattle.std.proofs.Common.{◌≡◌, ◌<◌, ◌≤◌, refl, ◌+◌, ◌-◌, ◌++◌, ◌∷◌, [], ℕ, List, OnOk, IfOk, drop, map, max, length, sym, ap, subst, ◌∙◌, arith, add-one}
use Rattle.std.specs.Prelude.{slice_set, string_bytes}
use Rattle.std.specs.List.{All}
use Rattle.std.proofs.lemmas.List.{at_drop_more, length-map}
use Rattle.std.proofs.Math.Nat.{max_comm}
use Rattle.sc_tree.specs.declared.instruction.Branch.{Branch}
use Rattle.sc_rules.specs.declared.entity_types.entity_type.EntityType.{EntityType}
use Rattle.sc_tree.specs.declared.instruction.Instr.{Instr}
use Rattle.sc_tree.specs.Plain as plain
use Rattle.sc_tree.specs.View.{clause_of, expr_of, head_of, instr_of, instrs_of, branches_of}
use Rattle.sc_tree.specs.declared.instruction.Clause.{Clause}
use Rattle.sc_tree.proofs.ViewLemmas.{instr_of-assign, instr_of-call, instr_of-check, instr_of-create, instr_of-print_text}
use Rattle.sc_rules.specs.Names.{Entities}
use Rattle.sc_typing.specs.Views.{entity_of}
use Rattle.sc_routines.specs.Jumps.{branch_opened, jump_behind, jump_of, jumps_of, landed, open_branches}
use Rattle.sc_routines.specs.Told.{branch_depth, branch_slots}
use Rattle.sc_code.specs.Operations.{EndLoop, Jump, PrintText}
use Rattle.sc_code.specs.Places.{head_types, names_given, with_heads}
use Rattle.sc_code.specs.Emitted.{expr_code, expr_depth, expr_slots, heads_depth, names_of, instr_code, instr_depth, instr_slots, instrs_code, instrs_depth, instrs_slots, branches_depth, branches_slots}
use Rattle.sc_code.specs.Room.{branches_blocks, instr_blocks, instrs_blocks}
use Rattle.sc_routines.specs.Settings.{setting_in}
use Rattle.sc_routines.proofs.JumpTargets.{skip_set, loop_set, if_landed, if_jumps, jump_place}
use Rattle.sc_routines.proofs.Ends.{all_found, all_needed}
use Rattle.sc_routines.proofs.Largest.{max_assoc, max_zero, of_three, of_two, one_more}
use Rattle.sc_routines.proofs.Sequences.{block_closed, next_branch, next_instruction, next_jump}
use Rattle.sc_routines.proofs.Shapes.{if_is, loop_is, block_is}
use Rattle.sc_routines.proofs.HeadNames.{block_left, part_left}
use Rattle.sc_routines.proofs.instructions.+instructions.Goals as goal

pub lower_block-returns : goal.lower_block-returns
lower_block-returns t c =
    let h = setting_in c.args.setting.now in
    let n = map entity_of c.args.names.now.items in
    let ds = map head_of c.args.heads.now in
    let body = instrs_of c.args.body.now in
    let opened = c.in_ok-opened.ensures in
    let inner = c.in_ok-inner.ensures in
    let types = c.deref.ensures.value ∙ opened.types in
    let outer : c.len-outer.result ≡ length n = c.len-outer.ensures ∙ c.args.names.now.ok.0 ∙ sym (length-map c.args.names.now.items entity_of) in
    let number : length c.args.heads.now ≡ length ds = sym (length-map c.args.heads.now head_of) in
    let known = c.in_ok-add_heads.ensures ∙ ap (with_heads (names_of ds) c.deref.result.now) opened.names ∙ ap (λ (ts : List EntityType). with_heads (names_of ds) ts n) types in
    record {
      code = block_closed h n (map entity_of c.add_heads.new.names.items) ds body c.args.code.now c.lower_heads.new.code c.push.new.self c.lower_instructions.new.code
          c.push-2.new.self c.len-outer.result (length c.args.heads.now) opened.code c.in_ok-push.ensures outer number known inner.code c.in_ok-push-2.ensures;
      names = ap (map entity_of) c.truncate.ensures.items
          ∙ block_left (names_of ds) c.deref.result.now c.args.names.now.items c.add_heads.new.names.items c.lower_instructions.new.names.items c.len-outer.result
          (c.in_ok-add_heads.ensures ∙ ap (with_heads (names_of ds) c.deref.result.now) opened.names) inner.names (c.len-outer.ensures ∙ c.args.names.now.ok.0);
      depth = of_two c.in_ok-opened.opened.depth c.in_ok-inner.inner.depth _ (heads_depth h n ds) (instrs_depth h (with_heads (names_of ds) (head_types h n ds) n) body) c.max.ensures
          opened.depth (inner.depth ∙ ap (λ (m : Entities). instrs_depth h m body) known);
      slots = of_two c.in_ok-sum.field-0 c.in_ok-inner.inner.slots _ (length n + length ds) (instrs_slots h (with_heads (names_of ds) (head_types h n ds) n) body) c.max-2.ensures
          (c.in_ok-sum.ensures ∙ ap (λ k. k + length c.args.heads.now) outer ∙ ap (λ k. length n + k) number) (inner.slots ∙ ap (λ (m : Entities). instrs_slots h m body) known);
      blocks = c.in_ok-sum-2.ensures ∙ ap (λ k. k + 1) inner.blocks ∙ add-one (instrs_blocks body);
    }

pub lower_branch-returns : goal.lower_branch-returns
lower_branch-returns t c =
    let h = setting_in c.args.setting.now in
    let n = map entity_of c.args.names.now.items in
    let e = expr_of c.args.condition.now in
    let body = instrs_of c.args.body.now in
    let tested = c.in_ok-tested.ensures in
    let under = c.in_ok-needs.ensures in
    let inner = under.code ∙ ap (λ (m : Entities). c.push.new.self ++ instrs_code h m body) tested.names in
    record {
      code = c.set.ensures
          ∙ skip_set _ (expr_code h n 0 e) _ _ _ _ _ _ _ tested.code c.len-skip.ensures c.in_ok-push.ensures inner c.len-jump.ensures c.in_ok-push-3.ensures;
      jumps = c.in_ok-push-2.ensures.items
          ∙ ap (λ k. c.args.jumps.now.items ++ k ∷ []) (jump_place c.args.code.now (expr_code h n 0 e) (instrs_code h (names_given h n 0 e) body) _ c.len-jump.result
          c.lower_condition.new.code c.push.new.self c.lower_instructions.new.code tested.code c.in_ok-push.ensures inner c.len-jump.ensures);
      names = ap (map entity_of) c.truncate.ensures.items
          ∙ part_left h 0 e c.args.names.now.items c.lower_condition.new.names.items c.lower_instructions.new.names.items c.len-known.result
          tested.names under.names (c.len-known.ensures ∙ c.args.names.now.ok.0);
      depth = of_two c.in_ok-tested.tested.depth c.in_ok-needs.needs.depth _ (expr_depth h n 0 e) (instrs_depth h (names_given h n 0 e) body) c.max.ensures
          tested.depth (under.depth ∙ ap (λ (m : Entities). instrs_depth h m body) tested.names);
      slots = of_two c.in_ok-tested.tested.slots c.in_ok-needs.needs.slots _ (expr_slots h n 0 e) (instrs_slots h (names_given h n 0 e) body) c.max-2.ensures
          tested.slots (under.slots ∙ ap (λ (m : Entities). instrs_slots h m body) tested.names);
      blocks = under.blocks;
    }

pub lower_instruction-returns-in-Block : goal.lower_instruction-returns-in-Block
lower_instruction-returns-in-Block t c =
    let h = setting_in c.args.setting.now in
    let n = map entity_of c.args.names.now.items in
    let r = c.lower_block.result in
    let found = c.lower_block.ensures in
    let q = sym (block_is c.args.instruction.now c.in-Block.span c.in-Block.heads c.in-Block.body c.deref-in-Block.result.now c.deref-in-Block-2.result.now
    c.in-Block.is c.deref-in-Block.ensures.value c.deref-in-Block-2.ensures.value) in
    record {
      code = subst (λ (p : plain.Instr). OnOk r (c.lower_block.new.code ≡ c.args.code.now ++ instr_code h n p)) q found.code;
      names = found.names;
      depth = subst (λ (p : plain.Instr). IfOk r (λ l. l.depth ≡ instr_depth h n p)) q found.depth;
      slots = subst (λ (p : plain.Instr). IfOk r (λ l. l.slots ≡ instr_slots h n p)) q found.slots;
      blocks = subst (λ (p : plain.Instr). IfOk r (λ l. l.blocks ≡ instr_blocks p)) q found.blocks;
    }

pub lower_instruction-land_jumps-requires : goal.lower_instruction-land_jumps-requires
lower_instruction-land_jumps-requires t c =
    let h = setting_in c.args.setting.now in
    let n = map entity_of c.args.names.now.items in
    let e = expr_of c.in-If.condition in
    let body = instrs_of c.deref-in-If.result.now in
    let first = c.in_ok-first-in-If.ensures in
    let further = c.in_ok-further-in-If.ensures in
    let last = c.in_ok-last-in-If.ensures in
    subst (All (λ place. place < length c.lower_instructions.new.code)) (sym c.deref-in-If-4.ensures.value)
    (if_jumps h n (map entity_of c.lower_branch.new.names.items) (map entity_of c.lower_branches.new.names.items) e body (branches_of c.deref-in-If-2.result.now) (instrs_of c.deref-in-If-3.result.now)
    c.args.code.now c.lower_branch.new.code c.lower_branches.new.code c.lower_instructions.new.code c.lower_branch.new.jumps.items c.lower_branches.new.jumps.items
    first.code (first.jumps ∙ ap (λ (l : List ℕ). l ++ jump_of (length c.args.code.now) (expr_code h n 0 e) (instrs_code h (names_given h n 0 e) body) ∷ []) c.new-jumps.ensures.items)
    first.names further.code further.jumps further.names last.code)

pub lower_instruction-returns-in_ok-last-in-If : goal.lower_instruction-returns-in_ok-last-in-If
lower_instruction-returns-in_ok-last-in-If t c =
    let h = setting_in c.args.setting.now in
    let n = map entity_of c.args.names.now.items in
    let e = expr_of c.in-If.condition in
    let body = instrs_of c.deref-in-If.result.now in
    let bs = branches_of c.deref-in-If-2.result.now in
    let other = instrs_of c.deref-in-If-3.result.now in
    let n1 = map entity_of c.lower_branch.new.names.items in
    let n2 = map entity_of c.lower_branches.new.names.items in
    let first = c.in_ok-first-in-If.ensures in
    let further = c.in_ok-further-in-If.ensures in
    let last = c.in_ok-last-in-If.ensures in
    let needs = c.then-in-If.result in
    let one = c.then.ensures in
    let all = c.then-in-If.ensures in
    let kept = further.names ∙ first.names in
    let a = c.in_ok-first-in-If.first in
    let b = c.in_ok-further-in-If.further in
    let z = c.in_ok-last-in-If.last in
    let q = sym (if_is c.args.instruction.now c.in-If.span c.in-If.condition c.in-If.body c.in-If.branches c.in-If.other c.deref-in-If.result.now c.deref-in-If-2.result.now c.deref-in-If-3.result.now
    c.in-If.is c.deref-in-If.ensures.value c.deref-in-If-2.ensures.value c.deref-in-If-3.ensures.value) in
    record {
      code = subst (λ (p : plain.Instr). c.land_jumps.new.code ≡ c.args.code.now ++ instr_code h n p) q
          (c.land_jumps.ensures ∙ ap (λ (ks : List ℕ). landed ks c.lower_instructions.new.code) c.deref-in-If-4.ensures.value
          ∙ if_landed h n n1 n2 e body bs other
          c.args.code.now c.lower_branch.new.code c.lower_branches.new.code c.lower_instructions.new.code c.lower_branch.new.jumps.items c.lower_branches.new.jumps.items
          first.code (first.jumps ∙ ap (λ (l : List ℕ). l ++ jump_of (length c.args.code.now) (expr_code h n 0 e) (instrs_code h (names_given h n 0 e) body) ∷ []) c.new-jumps.ensures.items)
          first.names further.code further.jumps further.names last.code);
      names = last.names ∙ kept;
      depth = subst (λ (p : plain.Instr). needs.depth ≡ instr_depth h n p) q
          (of_three a.depth b.depth z.depth (c.then.result).depth needs.depth (branch_depth h n e body) (branches_depth h n bs) (instrs_depth h n other) one.depth all.depth
          first.depth (further.depth ∙ ap (λ (m : Entities). branches_depth h m bs) first.names) (last.depth ∙ ap (λ (m : Entities). instrs_depth h m other) kept)
          ∙ max_assoc (expr_depth h n 0 e) (instrs_depth h (names_given h n 0 e) body) (max (branches_depth h n bs) (instrs_depth h n other)));
      slots = subst (λ (p : plain.Instr). needs.slots ≡ instr_slots h n p) q
          (of_three a.slots b.slots z.slots (c.then.result).slots needs.slots (branch_slots h n e body) (branches_slots h n bs) (instrs_slots h n other) one.slots all.slots
          first.slots (further.slots ∙ ap (λ (m : Entities). branches_slots h m bs) first.names) (last.slots ∙ ap (λ (m : Entities). instrs_slots h m other) kept)
          ∙ max_assoc (expr_slots h n 0 e) (instrs_slots h (names_given h n 0 e) body) (max (branches_slots h n bs) (instrs_slots h n other)));
      blocks = subst (λ (p : plain.Instr). needs.blocks ≡ instr_blocks p) q
          (of_three a.blocks b.blocks z.blocks (c.then.result).blocks needs.blocks (instrs_blocks body) (branches_blocks bs) (instrs_blocks other) one.blocks all.blocks
          first.blocks further.blocks last.blocks);
    }

pub lower_instruction-returns-in_ok-until-in-Loop : goal.lower_instruction-returns-in_ok-until-in-Loop
lower_instruction-returns-in_ok-until-in-Loop t c =
    let h = setting_in c.args.setting.now in
    let n = map entity_of c.args.names.now.items in
    let initial = instrs_of c.deref-in-Loop.result.now in
    let body = instrs_of c.deref-in-Loop-2.result.now in
    let until = expr_of c.in-Loop.until in
    let first = c.in_ok-first-in-Loop.ensures in
    let again = c.in_ok-again-in-Loop.ensures in
    let last = c.in_ok-until-in-Loop.ensures in
    let needs = c.then-in-Loop-2.result in
    let one = c.then-in-Loop.ensures in
    let all = c.then-in-Loop-2.ensures in
    let kept = again.names ∙ first.names in
    let a = c.in_ok-first-in-Loop.first in
    let b = c.in_ok-again-in-Loop.again in
    let z = c.in_ok-until-in-Loop.until in
    let q = sym (loop_is c.args.instruction.now c.in-Loop.span c.in-Loop.initial c.in-Loop.until c.in-Loop.body c.deref-in-Loop.result.now c.deref-in-Loop-2.result.now
    c.in-Loop.is c.deref-in-Loop.ensures.value c.deref-in-Loop-2.ensures.value) in
    let c1 = c.lower_instructions-in-Loop.new.code in
    let c3 = c.lower_instructions-in-Loop-2.new.code in
    let c4 = c.end_loop.new.code in
    let jump = c.len-jump.result in
    let again_code = again.code ∙ ap (λ (m : Entities). c.push-in-Loop.new.self ++ instrs_code h m body) first.names in
    let end_code : c4 ≡ slice_set (c3 ++ (expr_code h n 0 until ++ EndLoop (length c3 - jump - 1 + length (expr_code h n 0 until)) ∷ [])) jump (Jump (length c3 - jump - 1)) =
    last.code ∙ ap (λ (m : Entities). slice_set (c3 ++ (expr_code h m 0 until ++ EndLoop (length c3 - jump - 1 + length (expr_code h m 0 until)) ∷ [])) jump (Jump (length c3 - jump - 1))) kept in
    record {
      code = subst (λ (p : plain.Instr). c4 ≡ c.args.code.now ++ instr_code h n p) q
          (loop_set c.args.code.now (instrs_code h n initial) (instrs_code h n body) (expr_code h n 0 until) jump c1 c.push-in-Loop.new.self c3 c4
          first.code c.len-jump.ensures c.in_ok-push-in-Loop.ensures again_code end_code);
      names = last.names ∙ kept;
      depth = subst (λ (p : plain.Instr). needs.depth ≡ instr_depth h n p) q
          (of_three a.depth b.depth z.depth (c.then-in-Loop.result).depth needs.depth (instrs_depth h n initial) (instrs_depth h n body) (expr_depth h n 0 until) one.depth all.depth
          first.depth (again.depth ∙ ap (λ (m : Entities). instrs_depth h m body) first.names) (last.depth ∙ ap (λ (m : Entities). expr_depth h m 0 until) kept)
          ∙ ap (max (instrs_depth h n initial)) (max_comm (instrs_depth h n body) (expr_depth h n 0 until)));
      slots = subst (λ (p : plain.Instr). needs.slots ≡ instr_slots h n p) q
          (of_three a.slots b.slots z.slots (c.then-in-Loop.result).slots needs.slots (instrs_slots h n initial) (instrs_slots h n body) 0 one.slots all.slots
          first.slots (again.slots ∙ ap (λ (m : Entities). instrs_slots h m body) first.names) last.slots
          ∙ ap (max (instrs_slots h n initial)) (max_zero (instrs_slots h n body)));
      blocks = subst (λ (p : plain.Instr). needs.blocks ≡ instr_blocks p) q
          (of_three a.blocks b.blocks z.blocks (c.then-in-Loop.result).blocks needs.blocks (instrs_blocks initial) (instrs_blocks body) 0 one.blocks all.blocks
          first.blocks again.blocks last.blocks ∙ ap (max (instrs_blocks initial)) (max_zero (instrs_blocks body)));
    }

pub lower_instruction-returns-in-Assign : goal.lower_instruction-returns-in-Assign
lower_instruction-returns-in-Assign t c =
    let h = setting_in c.args.setting.now in
    let n = map entity_of c.args.names.now.items in
    let r = c.lower_assignment.result in
    let found = c.lower_assignment.ensures in
    let q = sym (ap instr_of c.in-Assign.is ∙ instr_of-assign c.in-Assign.span c.in-Assign.variable c.in-Assign.value) in
    record {
      code = subst (λ (p : plain.Instr). OnOk r (c.lower_assignment.new.code ≡ c.args.code.now ++ instr_code h n p)) q found.code;
      names = found.names;
      depth = subst (λ (p : plain.Instr). IfOk r (λ l. l.depth ≡ instr_depth h n p)) q found.depth;
      slots = subst (λ (p : plain.Instr). IfOk r (λ l. l.slots ≡ instr_slots h n p)) q found.slots;
      blocks = subst (λ (p : plain.Instr). IfOk r (λ l. l.blocks ≡ instr_blocks p)) q found.blocks;
    }

pub lower_instruction-returns-in-Create : goal.lower_instruction-returns-in-Create
lower_instruction-returns-in-Create t c =
    let h = setting_in c.args.setting.now in
    let n = map entity_of c.args.names.now.items in
    let r = c.lower_creation.result in
    let found = c.lower_creation.ensures in
    let q = sym (ap instr_of c.in-Create.is ∙ instr_of-create c.in-Create.span c.in-Create.variable c.in-Create.call) in
    record {
      code = subst (λ (p : plain.Instr). OnOk r (c.lower_creation.new.code ≡ c.args.code.now ++ instr_code h n p)) q found.code;
      names = found.names;
      depth = subst (λ (p : plain.Instr). IfOk r (λ l. l.depth ≡ instr_depth h n p)) q found.depth;
      slots = subst (λ (p : plain.Instr). IfOk r (λ l. l.slots ≡ instr_slots h n p)) q found.slots;
      blocks = subst (λ (p : plain.Instr). IfOk r (λ l. l.blocks ≡ instr_blocks p)) q found.blocks;
    }

pub lower_instruction-returns-in-Check : goal.lower_instruction-returns-in-Check
lower_instruction-returns-in-Check t c =
    let h = setting_in c.args.setting.now in
    let n = map entity_of c.args.names.now.items in
    let r = c.lower_checks.result in
    let found = c.lower_checks.ensures in
    let q = sym (ap instr_of c.in-Check.is ∙ instr_of-check c.in-Check.field-0 c.in-Check.clauses
    ∙ ap (λ (ks : List Clause). plain.Check c.in-Check.field-0 (map clause_of ks)) (sym c.deref-in-Check.ensures.value)) in
    record {
      code = subst (λ (p : plain.Instr). OnOk r (c.lower_checks.new.code ≡ c.args.code.now ++ instr_code h n p)) q found.code;
      names = found.names;
      depth = subst (λ (p : plain.Instr). IfOk r (λ l. l.depth ≡ instr_depth h n p)) q found.depth;
      slots = subst (λ (p : plain.Instr). IfOk r (λ l. l.slots ≡ instr_slots h n p)) q found.slots;
      blocks = subst (λ (p : plain.Instr). IfOk r (λ l. l.blocks ≡ instr_blocks p)) q found.blocks;
    }

pub lower_instruction-returns-in-Call : goal.lower_instruction-returns-in-Call
lower_instruction-returns-in-Call t c =
    let h = setting_in c.args.setting.now in
    let n = map entity_of c.args.names.now.items in
    let r = c.lower_call_instruction.result in
    let found = c.lower_call_instruction.ensures in
    let q = sym (ap instr_of c.in-Call.is ∙ instr_of-call c.in-Call.call) in
    record {
      code = subst (λ (p : plain.Instr). OnOk r (c.lower_call_instruction.new.code ≡ c.args.code.now ++ instr_code h n p)) (sym (ap instr_of c.in-Call.is)) found.code;
      names = found.names;
      depth = subst (λ (p : plain.Instr). IfOk r (λ l. l.depth ≡ instr_depth h n p)) (sym (ap instr_of c.in-Call.is)) found.depth;
      slots = subst (λ (p : plain.Instr). IfOk r (λ l. l.slots ≡ instr_slots h n p)) q found.slots;
      blocks = subst (λ (p : plain.Instr). IfOk r (λ l. l.blocks ≡ instr_blocks p)) q found.blocks;
    }

pub lower_instructions-loop-instruction-preserved : goal.lower_instructions-loop-instruction-preserved
lower_instructions-loop-instruction-preserved t c =
    let h = setting_in c.args.setting.now in
    let n = map entity_of c.args.names.now.items in
    let place = c.loop-instruction.instruction-index in
    let d = c.instruction-item.result in
    let i = instr_of d in
    let lowered = c.in_ok-lower_instruction.ensures in
    let before = c.loop-instruction.invariant in
    let needs = c.then-needs.ensures in
    let both = c.then-needs.result in
    let so_far = c.loop-instruction.needs in
    let found = c.in_ok-lower_instruction.field-0 in
    let rest = instrs_of (drop (place + 1) c.args.instructions.now) in
    let step : plain.instr_then i rest ≡ instrs_of (drop place c.args.instructions.now) =
    sym (at_drop_more instrs_of c.args.instructions.now place d (omega (arith, c.loop-instruction-test.true))
    ∙ ap (λ (d : Instr). plain.instr_then (instr_of d) rest) (sym c.instruction-item.is)) in
    record {
      names = lowered.names ∙ before.names;
      code = next_instruction h n (map entity_of c.loop-instruction.names.items) i rest c.loop-instruction.code c.lower_instruction.new.code _ before.names lowered.code
          (ap (λ (is : plain.Instrs). c.loop-instruction.code ++ instrs_code h n is) step ∙ before.code);
      depth = one_more so_far.depth found.depth both.depth (instr_depth h n i) (instrs_depth h n rest) _ needs.depth
          (lowered.depth ∙ ap (λ (m : Entities). instr_depth h m i) before.names) (ap (λ (is : plain.Instrs). max so_far.depth (instrs_depth h n is)) step ∙ before.depth);
      slots = one_more so_far.slots found.slots both.slots (instr_slots h n i) (instrs_slots h n rest) _ needs.slots
          (lowered.slots ∙ ap (λ (m : Entities). instr_slots h m i) before.names) (ap (λ (is : plain.Instrs). max so_far.slots (instrs_slots h n is)) step ∙ before.slots);
      blocks = one_more so_far.blocks found.blocks both.blocks (instr_blocks i) (instrs_blocks rest) _ needs.blocks
          lowered.blocks (ap (λ (is : plain.Instrs). max so_far.blocks (instrs_blocks is)) step ∙ before.blocks);
    }

pub lower_branches-loop-branch-preserved : goal.lower_branches-loop-branch-preserved
lower_branches-loop-branch-preserved t c =
    let h = setting_in c.args.setting.now in
    let n = map entity_of c.args.names.now.items in
    let m = map entity_of c.loop-branch.names.items in
    let place = c.loop-branch.branch-index in
    let d = c.branch-item.result in
    let e = expr_of d.condition in
    let body = instrs_of d.body.items in
    let lowered = c.in_ok-lower_branch.ensures in
    let before = c.loop-branch.invariant in
    let needs = c.then-needs.ensures in
    let both = c.then-needs.result in
    let so_far = c.loop-branch.needs in
    let found = c.in_ok-lower_branch.field-0 in
    let rest = branches_of (drop (place + 1) c.args.branches.now) in
    let step : plain.branch_then e body rest ≡ branches_of (drop place c.args.branches.now) =
    sym (at_drop_more branches_of c.args.branches.now place d (omega (arith, c.loop-branch-test.true))
    ∙ ap (λ (d : Branch). plain.branch_then (expr_of d.condition) (instrs_of d.body.items) rest) (sym c.branch-item.is)) in
    let under = c.deref.ensures.value in
    let c0 = c.loop-branch.code in
    let added = lowered.code ∙ ap (λ (is : List Instr). c0 ++ branch_opened h m e (instrs_of is)) under in
    record {
      names = lowered.names ∙ before.names;
      code = next_branch h n m e body rest c0 c.lower_branch.new.code before.names added _ (ap (λ (bs : plain.Branches). c0 ++ open_branches h n bs) step ∙ before.code);
      jumps = next_jump h n m e body rest c0 c.lower_branch.new.code before.names added c.loop-branch.jumps.items c.lower_branch.new.jumps.items _
          (lowered.jumps ∙ ap (λ (is : List Instr). c.loop-branch.jumps.items ++ jump_behind h m (length c0) e (instrs_of is) ∷ []) under)
          (ap (λ (bs : plain.Branches). c.loop-branch.jumps.items ++ jumps_of h n (length c0) bs) step ∙ before.jumps);
      depth = one_more so_far.depth found.depth both.depth (branch_depth h n e body) (branches_depth h n rest) _ needs.depth
          (lowered.depth ∙ ap (λ (is : List Instr). branch_depth h m e (instrs_of is)) under ∙ ap (λ (m : Entities). branch_depth h m e body) before.names)
          (ap (max so_far.depth) (max_assoc (expr_depth h n 0 e) (instrs_depth h (names_given h n 0 e) body) (branches_depth h n rest))
          ∙ ap (λ (bs : plain.Branches). max so_far.depth (branches_depth h n bs)) step ∙ before.depth);
      slots = one_more so_far.slots found.slots both.slots (branch_slots h n e body) (branches_slots h n rest) _ needs.slots
          (lowered.slots ∙ ap (λ (is : List Instr). branch_slots h m e (instrs_of is)) under ∙ ap (λ (m : Entities). branch_slots h m e body) before.names)
          (ap (max so_far.slots) (max_assoc (expr_slots h n 0 e) (instrs_slots h (names_given h n 0 e) body) (branches_slots h n rest))
          ∙ ap (λ (bs : plain.Branches). max so_far.slots (branches_slots h n bs)) step ∙ before.slots);
      blocks = one_more so_far.blocks found.blocks both.blocks (instrs_blocks body) (branches_blocks rest) _ needs.blocks
          (lowered.blocks ∙ ap (λ (is : List Instr). instrs_blocks (instrs_of is)) under)
          (ap (λ (bs : plain.Branches). max so_far.blocks (branches_blocks bs)) step ∙ before.blocks);
    }

pub lower_instructions-loop-instruction-init : goal.lower_instructions-loop-instruction-init
lower_instructions-loop-instruction-init t c =
    let none = c.of_operands-needs.ensures in
    record { names = refl; code = refl; depth = omega (arith, none.depth); slots = omega (arith, none.slots); blocks = omega (arith, none.blocks) }

pub lower_instructions-returns : goal.lower_instructions-returns
lower_instructions-returns t c =
    let h = setting_in c.args.setting.now in
    let n = map entity_of c.args.names.now.items in
    let is = c.args.instructions.now in
    let place = c.loop-instruction.instruction-index in
    let needs = c.loop-instruction.needs in
    let before = c.loop-instruction.invariant in
    let past : length is ≤ place = omega (arith, c.loop-instruction-test.false) in
    record {
      code = all_found (λ (is : List Instr). instrs_code h n (instrs_of is)) is place c.loop-instruction.code _ past refl before.code;
      names = before.names;
      depth = all_needed (λ (is : List Instr). instrs_depth h n (instrs_of is)) is place needs.depth _ past refl before.depth;
      slots = all_needed (λ (is : List Instr). instrs_slots h n (instrs_of is)) is place needs.slots _ past refl before.slots;
      blocks = all_needed (λ (is : List Instr). instrs_blocks (instrs_of is)) is place needs.blocks _ past refl before.blocks;
    }

pub lower_branches-loop-branch-init : goal.lower_branches-loop-branch-init
lower_branches-loop-branch-init t c =
    let none = c.of_operands-needs.ensures in
    record { names = refl; code = refl; jumps = refl; depth = omega (arith, none.depth); slots = omega (arith, none.slots); blocks = omega (arith, none.blocks) }

pub lower_branches-returns : goal.lower_branches-returns
lower_branches-returns t c =
    let h = setting_in c.args.setting.now in
    let n = map entity_of c.args.names.now.items in
    let bs = c.args.branches.now in
    let place = c.loop-branch.branch-index in
    let needs = c.loop-branch.needs in
    let before = c.loop-branch.invariant in
    let past : length bs ≤ place = omega (arith, c.loop-branch-test.false) in
    record {
      code = all_found (λ (bs : List Branch). open_branches h n (branches_of bs)) bs place c.loop-branch.code _ past refl before.code;
      jumps = all_found (λ (bs : List Branch). jumps_of h n (length c.loop-branch.code) (branches_of bs)) bs place c.loop-branch.jumps.items _ past refl before.jumps;
      names = before.names;
      depth = all_needed (λ (bs : List Branch). branches_depth h n (branches_of bs)) bs place needs.depth _ past refl before.depth;
      slots = all_needed (λ (bs : List Branch). branches_slots h n (branches_of bs)) bs place needs.slots _ past refl before.slots;
      blocks = all_needed (λ (bs : List Branch). branches_blocks (branches_of bs)) bs place needs.blocks _ past refl before.blocks;
    }

pub lower_instruction-returns-in_ok-push-in-PrintText : goal.lower_instruction-returns-in_ok-push-in-PrintText
lower_instruction-returns-in_ok-push-in-PrintText t c =
    let h = setting_in c.args.setting.now in
    let n = map entity_of c.args.names.now.items in
    let none = c.of_operands.ensures in
    let q = sym (ap instr_of c.in-PrintText.is ∙ instr_of-print_text c.in-PrintText.span c.in-PrintText.text) in
    record {
      code = subst (λ (p : plain.Instr). c.push.new.self ≡ c.args.code.now ++ instr_code h n p) q
          (c.in_ok-push-in-PrintText.ensures ∙ ap (λ (x : List ℕ). c.args.code.now ++ PrintText x ∷ []) (c.as_str.ensures.value ∙ ap string_bytes c.deref.ensures));
      names = refl;
      depth = subst (λ (p : plain.Instr). c.of_operands.result.depth ≡ instr_depth h n p) q none.depth;
      slots = subst (λ (p : plain.Instr). c.of_operands.result.slots ≡ instr_slots h n p) q none.slots;
      blocks = subst (λ (p : plain.Instr). c.of_operands.result.blocks ≡ instr_blocks p) q none.blocks;
    }
