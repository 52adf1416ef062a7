use Rattle.std.proofs.Common.{ap, sym, ◌∙◌, max, suc, Ok}
use Rattle.sc_text.specs.declared.token.Terminal.TheVariants as terminal
use Rattle.sc_tree.proofs.ViewLemmas.{instr_of-if, instr_of-loop, instr_of-block}
use Rattle.sc_parse.proofs.Views.{instrs_of-push, branches_of-push}
use Rattle.sc_tree.specs.View.{instrs_of, branches_of}
use Rattle.sc_text.specs.declared.token.Span.{Span}
use Rattle.sc_tree.specs.Plain.{If, Loop, Block, Instrs}
use Rattle.sc_parse.specs.Reading.Reads.{ahead, expr_in, heads_in, instrs_in, branch_in, branches_in, inside_ahead}
use Rattle.sc_parse.proofs.Turns.{instrs_begin, instrs_end, instrs_more, instrs_none, instrs_fail, branches_begin, branches_end, branches_more, branches_none, branches_fail}
use Rattle.sc_tree.proofs.ReadingSteps.{bind_ok}
use Rattle.sc_parse.proofs.Parts.{after_condition, branch_is, branch_read, other_there, no_other, other_none, after_branches, after_first, conditional_is, conditional_read, after_until, after_initial, iteration_is, iteration_read, after_do, after_heads, block_is, block_read}
use Rattle.std.proofs.lemmas.Result.{err_from_is_err_and}
use Rattle.sc_parse.proofs.Faults.{Fails-along, Fails-bind, Gives-along, Gives-closed}
use Rattle.sc_parse.proofs.cursor.Parser.+instructions.Goals as goal

pub instructions-loop-turn-init : goal.instructions-loop-turn-init
instructions-loop-turn-init t c = (0, instrs_begin _ _ _ _ c.skip_semicolons.ensures (ap instrs_of c.new-found.ensures.items))

pub instructions-loop-turn-preserved : goal.instructions-loop-turn-preserved
instructions-loop-turn-preserved t c = (
  max c.loop-turn.invariant.0 c.in_ok-instr.ensures.0,
  instrs_more c.args.room _ c.loop-turn._turn (instrs_in c.loop-turn.found) c.loop-turn.invariant.0 (ahead c.loop-turn.self) _ _ _ _ _ _ c.loop-turn-test.true c.begins_instruction.ensures c.if-not-begins_instruction.false
      c.in_ok-instr.ensures.1 (ap (λ (is : _). instrs_of is) c.in_ok-found.ensures ∙ instrs_of-push _ _) c.skip_semicolons-in-loop-turn.ensures
      ∙ c.loop-turn.invariant.1,
)

pub instructions-returns : goal.instructions-returns
instructions-returns t c =
    (c.loop-turn.invariant.0, sym c.loop-turn.invariant.1 ∙ instrs_end c.args.room _ c.loop-turn._turn (instrs_in c.loop-turn.found) c.loop-turn.invariant.0 (ahead c.loop-turn.self) c.loop-turn-test.false)

pub branches-loop-turn-init : goal.branches-loop-turn-init
branches-loop-turn-init t c = (0, branches_begin _ _ _ (ap branches_of c.new-found.ensures.items))

pub branches-loop-turn-preserved : goal.branches-loop-turn-preserved
branches-loop-turn-preserved t c = (
  max c.loop-turn.invariant.0 c.in_ok-branch.ensures.0,
  branches_more c.args.room _ c.loop-turn._turn (branches_in c.loop-turn.found) c.loop-turn.invariant.0 (ahead c.loop-turn.self) _ _ _ _ _ _ c.loop-turn-test.true c.sees.ensures c.if-not-sees.false c.take.ensures.past
      c.in_ok-branch.ensures.1 (ap (λ (bs : _). branches_of bs) c.in_ok-found.ensures ∙ branches_of-push _ _)
      ∙ c.loop-turn.invariant.1,
)

pub branch-returns : goal.branch-returns
branch-returns t c = (
  max c.in_ok-condition.ensures.0 c.in_ok-body.ensures.0,
  branch_read c.args.room (ahead c.args.self.now) _ _ _ _ _ _ c.in_ok-condition.ensures.1 c.in_ok-body.ensures.1,
)

pub instructions-returns-then-not-begins_instruction : goal.instructions-returns-then-not-begins_instruction
instructions-returns-then-not-begins_instruction t c =
    let q = c.loop-turn.invariant in (
      q.0,
      sym q.1 ∙ instrs_none c.args.room _ c.loop-turn._turn (instrs_in c.loop-turn.found) q.0 (ahead c.loop-turn.self) _
          c.loop-turn-test.true c.begins_instruction.ensures c.if-not-begins_instruction.true
          ∙ ap (λ (is : Instrs). Ok (is, q.0, ahead c.loop-turn.self)) (sym (ap instrs_of c.fitted.ensures)),
    )

pub instructions-returns-in_err-instr : goal.instructions-returns-in_err-instr
instructions-returns-in_err-instr t c =
    let q = c.loop-turn.invariant in
    let p = err_from_is_err_and c.from_residual.result c.from_residual.ensures.1 in
    rw (p.1, p.2)
    (Fails-along _ _ c.in_err-instr.field-0.0 (sym q.1)
    (instrs_fail c.args.room _ c.loop-turn._turn (instrs_in c.loop-turn.found) q.0 (ahead c.loop-turn.self) _ c.in_err-instr.field-0.0
    c.loop-turn-test.true c.begins_instruction.ensures c.if-not-begins_instruction.false c.in_err-instr.ensures))

pub branches-returns-then-not-sees : goal.branches-returns-then-not-sees
branches-returns-then-not-sees t c =
    let q = c.loop-turn.invariant in (
      q.0,
      sym q.1 ∙ branches_none c.args.room _ c.loop-turn._turn (branches_in c.loop-turn.found) q.0 (ahead c.loop-turn.self) _ c.loop-turn-test.true c.sees.ensures c.if-not-sees.true,
    )

pub branches-returns-in_err-branch : goal.branches-returns-in_err-branch
branches-returns-in_err-branch t c =
    let q = c.loop-turn.invariant in
    let p = err_from_is_err_and c.from_residual.result c.from_residual.ensures.1 in
    rw (p.1, p.2)
    (Fails-along _ _ c.in_err-branch.field-0.0 (sym q.1)
    (branches_fail c.args.room _ c.loop-turn._turn (branches_in c.loop-turn.found) q.0 (ahead c.loop-turn.self) _ _ c.in_err-branch.field-0.0
    c.loop-turn-test.true c.sees.ensures c.if-not-sees.false c.take.ensures.past c.in_err-branch.ensures))

pub branches-returns : goal.branches-returns
branches-returns t c =
    let q = c.loop-turn.invariant in
    (q.0, sym q.1 ∙ branches_end c.args.room _ c.loop-turn._turn (branches_in c.loop-turn.found) q.0 (ahead c.loop-turn.self) c.loop-turn-test.false)

pub branch-returns-in_err-condition : goal.branch-returns-in_err-condition
branch-returns-in_err-condition t c =
    let ts = ahead c.args.self.now in
    let p = err_from_is_err_and c.from_residual.result c.from_residual.ensures.1 in
    rw (p.1, p.2)
    (Fails-along _ _ c.in_err-condition.field-0.0
    (branch_is c.args.room ts)
    (Fails-bind _ _ c.in_err-condition.field-0.0 c.in_err-condition.ensures))

pub branch-returns-in_err-body : goal.branch-returns-in_err-body
branch-returns-in_err-body t c =
    let ts = ahead c.args.self.now in
    let p = err_from_is_err_and c.from_residual-in_err-body.result c.from_residual-in_err-body.ensures.1 in
    rw (p.1, p.2)
    (Fails-along _ _ c.in_err-body.field-0.0
    (branch_is c.args.room ts ∙ bind_ok _ _ (after_condition c.args.room ts) c.in_ok-condition.ensures.1)
    (Fails-bind _ _ c.in_err-body.field-0.0 c.in_err-body.ensures))

-- ---- conditionals

pub conditional-returns-in_err-first : goal.conditional-returns-in_err-first
conditional-returns-in_err-first t c =
    let ts = ahead c.args.self.now in
    let p = err_from_is_err_and c.from_residual.result c.from_residual.ensures.1 in
    rw (p.1, p.2)
    (Fails-along _ _ c.in_err-first.field-0.0
    (conditional_is c.args.room ts)
    (Fails-bind _ _ c.in_err-first.field-0.0 c.in_err-first.ensures))

pub conditional-returns-in_err-branches : goal.conditional-returns-in_err-branches
conditional-returns-in_err-branches t c =
    let ts = ahead c.args.self.now in
    let p = err_from_is_err_and c.from_residual-in_err-branches.result c.from_residual-in_err-branches.ensures.1 in
    rw (p.1, p.2)
    (Fails-along _ _ c.in_err-branches.field-0.0
    (conditional_is c.args.room ts ∙ bind_ok _ _ (after_first c.args.room ts) c.in_ok-first.ensures.1)
    (Fails-bind _ _ c.in_err-branches.field-0.0 c.in_err-branches.ensures))

pub conditional-returns-in_err-other : goal.conditional-returns-in_err-other
conditional-returns-in_err-other t c =
    let ts = ahead c.args.self.now in
    let p = err_from_is_err_and c.from_residual-in_err-other.result c.from_residual-in_err-other.ensures.1 in
    rw (p.1, p.2)
    (Fails-along _ _ c.in_err-other.field-0.0
    (conditional_is c.args.room ts ∙ bind_ok _ _ (after_first c.args.room ts) c.in_ok-first.ensures.1 ∙ bind_ok _ _ (after_branches c.args.room ts (branch_in c.in_ok-first.first, c.in_ok-first.ensures.0, ts)) c.in_ok-branches.ensures.1)
    (Fails-bind _ _ c.in_err-other.field-0.0 c.in_err-other.ensures))

pub conditional-returns : goal.conditional-returns
conditional-returns t c = (
  suc (max c.in_ok-first.ensures.0 (max c.in_ok-branches.ensures.0 c.in_ok-other.ensures.0)),
  conditional_read c.args.room (ahead c.args.self.now) _ _ _ _ _ _ _ _ _ _ c.in_ok-first.ensures.1 c.in_ok-branches.ensures.1 c.in_ok-other.ensures.1
      (instr_of-if _ _ _ _ _
      ∙ ap (λ (s : Span). If s (expr_in c.in_ok-first.first.condition) (instrs_in c.in_ok-first.first.body) (branches_in c.in_ok-branches.branches) (instrs_in c.in_ok-other.other)) c.span_from-span.ensures),
)

pub other-returns-then-sees : goal.other-returns-then-sees
other-returns-then-sees t c =
    let ts = ahead c.args.self.now in
    Gives-along instrs_in _ _ c.instructions_up_to.result _ (other_there c.args.room ts (sym c.sees.ensures ∙ c.if-sees.true) ∙ ap (inside_ahead c.args.room terminal.End) (sym c.take.ensures.past))
    c.instructions_up_to.ensures

pub other-returns-in_err-expect : goal.other-returns-in_err-expect
other-returns-in_err-expect t c =
    let p = err_from_is_err_and c.from_residual.result c.from_residual.ensures.1 in
    rw (p.1, p.2)
    (Fails-along _ _ c.in_err-expect.field-0.0 (other_none c.args.room (ahead c.args.self.now) (sym c.sees.ensures ∙ c.if-sees.false))
    (Fails-bind _ _ c.in_err-expect.field-0.0 c.in_err-expect.ensures))

pub other-returns : goal.other-returns
other-returns t c = (
  0,
  other_none c.args.room (ahead c.args.self.now) (sym c.sees.ensures ∙ c.if-sees.false) ∙ bind_ok _ _ (no_other c.args.room (ahead c.args.self.now)) c.in_ok-expect.ensures
      ∙ ap (λ (is : Instrs). Ok (is, 0, ahead c.expect.new.self)) (sym (ap instrs_of c.new.ensures.items)),
)

-- ---- loops and blocks

pub iteration-returns-in_err-initial : goal.iteration-returns-in_err-initial
iteration-returns-in_err-initial t c =
    let ts = ahead c.args.self.now in
    let p = err_from_is_err_and c.from_residual.result c.from_residual.ensures.1 in
    rw (p.1, p.2)
    (Fails-along _ _ c.in_err-initial.field-0.0
    (iteration_is c.args.room ts)
    (Fails-bind _ _ c.in_err-initial.field-0.0 c.in_err-initial.ensures))

pub iteration-returns-in_err-condition : goal.iteration-returns-in_err-condition
iteration-returns-in_err-condition t c =
    let ts = ahead c.args.self.now in
    let p = err_from_is_err_and c.from_residual-in_err-condition.result c.from_residual-in_err-condition.ensures.1 in
    rw (p.1, p.2)
    (Fails-along _ _ c.in_err-condition.field-0.0
    (iteration_is c.args.room ts ∙ bind_ok _ _ (after_initial c.args.room ts) c.in_ok-initial.ensures.1)
    (Fails-bind _ _ c.in_err-condition.field-0.0 c.in_err-condition.ensures))

pub iteration-returns-in_err-body : goal.iteration-returns-in_err-body
iteration-returns-in_err-body t c =
    let ts = ahead c.args.self.now in
    let p = err_from_is_err_and c.from_residual-in_err-body.result c.from_residual-in_err-body.ensures.1 in
    rw (p.1, p.2)
    (Fails-along _ _ c.in_err-body.field-0.0
    (iteration_is c.args.room ts ∙ bind_ok _ _ (after_initial c.args.room ts) c.in_ok-initial.ensures.1 ∙ bind_ok _ _ (after_until c.args.room ts (instrs_in c.in_ok-initial.initial, c.in_ok-initial.ensures.0, ts)) c.in_ok-condition.ensures.1)
    (Fails-bind _ _ c.in_err-body.field-0.0 c.in_err-body.ensures))

pub iteration-returns : goal.iteration-returns
iteration-returns t c = (
  suc (max c.in_ok-initial.ensures.0 (max c.in_ok-condition.ensures.0 c.in_ok-body.ensures.0)),
  iteration_read c.args.room (ahead c.args.self.now) _ _ _ _ _ _ _ _ _ _ c.in_ok-initial.ensures.1 c.in_ok-condition.ensures.1 c.in_ok-body.ensures.1
      (instr_of-loop _ _ _ _ ∙ ap (λ (s : Span). Loop s (instrs_in c.in_ok-initial.initial) (expr_in c.in_ok-condition.condition) (instrs_in c.in_ok-body.body)) c.span_from-span.ensures),
)

pub block-returns-in_err-reserved : goal.block-returns-in_err-reserved
block-returns-in_err-reserved t c =
    let ts = ahead c.args.self.now in
    let p = err_from_is_err_and c.from_residual.result c.from_residual.ensures.1 in
    rw (p.1, p.2)
    (Fails-along _ _ c.in_err-reserved.field-0.0
    (block_is c.args.room ts)
    (Fails-bind _ _ c.in_err-reserved.field-0.0 c.in_err-reserved.ensures))

pub block-returns-in_err-heads : goal.block-returns-in_err-heads
block-returns-in_err-heads t c =
    let ts = ahead c.args.self.now in
    let p = err_from_is_err_and c.from_residual-in_err-heads.result c.from_residual-in_err-heads.ensures.1 in
    rw (p.1, p.2)
    (Fails-along _ _ c.in_err-heads.field-0.0
    (block_is c.args.room ts ∙ bind_ok _ _ (after_heads c.args.room ts) c.in_ok-reserved.ensures.1)
    (Fails-bind _ _ c.in_err-heads.field-0.0 c.in_err-heads.ensures.read))

pub block-returns-in_err-body : goal.block-returns-in_err-body
block-returns-in_err-body t c =
    let ts = ahead c.args.self.now in
    let p = err_from_is_err_and c.from_residual-in_err-body.result c.from_residual-in_err-body.ensures.1 in
    rw (p.1, p.2)
    (Fails-along _ _ c.in_err-body.field-0.0
    (block_is c.args.room ts ∙ bind_ok _ _ (after_heads c.args.room ts) c.in_ok-reserved.ensures.1 ∙ bind_ok _ _ (after_do c.args.room ts (heads_in c.in_ok-reserved.reserved, c.in_ok-reserved.ensures.0, ts)) c.in_ok-heads.ensures.read)
    (Fails-bind _ _ c.in_err-body.field-0.0 c.in_err-body.ensures))

pub block-returns : goal.block-returns
block-returns t c = (
  suc (max c.in_ok-reserved.ensures.0 c.in_ok-body.ensures.0),
  block_read c.args.room (ahead c.args.self.now) _ _ _ _ _ _ _ _ c.in_ok-reserved.ensures.1 c.in_ok-heads.ensures.read c.in_ok-body.ensures.1
      (instr_of-block _ _ _ ∙ ap (λ (hs : _). Block c.span_from.result (heads_in hs) (instrs_in c.in_ok-body.body)) c.in_ok-heads.ensures.same
      ∙ ap (λ (s : Span). Block s (heads_in c.in_ok-reserved.reserved) (instrs_in c.in_ok-body.body)) c.span_from.ensures),
)

pub instructions_up_to-returns : goal.instructions_up_to-returns
instructions_up_to-returns t c =
    Gives-closed instrs_in c.args.word _ _ _ _ c.closed_by.result _ (bind_ok _ _ _ c.in_ok-found.ensures.1) c.closed_by.ensures.same c.closed_by.ensures.read
