use Rattle.std.proofs.Common.{◌≤◌, Bor, length, sym, ap, ◌∙◌, arith}
use Rattle.std.specs.Option.{option_map}
use Rattle.sc_code.specs.declared.program.RoutineCode.{RoutineCode}
use Rattle.sc_region.specs.Stores.{max_frames}
use Rattle.sc_region.specs.States.{state_of}
use Rattle.sc_region.proofs.OwnCalls.{calls_misfit, calls_full}
use Rattle.sc_region.proofs.state.call.Goals as goal

pub returns-then-call-code-clause-ok : goal.returns-then-call-code-clause-ok
returns-then-call-code-clause-ok c =
    let there = sym c.routine_at.ensures ∙ ap (option_map (λ (code : Bor RoutineCode). code.now)) c.in-Some.is in
    c.fail-then-call-code.ensures
    ∙ sym (calls_misfit c.args.current c.args.routine c.args.call (state_of c.args.state.now) c.in-Some.code.now c.requires.actuals there c.if-call-code.true)

pub returns-then-height-ge-MAX_FRAMES-clause-ok : goal.returns-then-height-ge-MAX_FRAMES-clause-ok
returns-then-height-ge-MAX_FRAMES-clause-ok c =
    let there = sym c.routine_at.ensures ∙ ap (option_map (λ (code : Bor RoutineCode). code.now)) c.in-Some.is in
    let full : max_frames ≤ length c.args.state.now.stack = omega (arith, c.height.ensures, c.if-height-ge-MAX_FRAMES.true) in
    c.overflow.ensures
    ∙ sym (calls_full c.args.current c.args.routine c.args.call (state_of c.args.state.now) c.in-Some.code.now c.requires.actuals there c.if-call-code.false full)

pub call_code-requires : goal.call_code-requires
call_code-requires c = record {
  caller = c.requires.caller;
  actuals = c.requires.actuals;
  code = sym c.routine_at.ensures ∙ ap (option_map (λ (code : Bor RoutineCode). code.now)) c.in-Some.is;
  formals = c.if-call-code.false;
  room = omega (arith, c.height.ensures, c.if-height-ge-MAX_FRAMES.false);
}
