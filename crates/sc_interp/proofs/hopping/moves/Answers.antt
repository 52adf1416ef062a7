use Rattle.std.proofs.Common.{Bor, sym, ap, ◌∙◌}
use Rattle.std.specs.Option.{option_map}
use Rattle.sc_model.specs.declared.cause.Cause.TheVariants as cause
use Rattle.sc_code.specs.declared.program.RoutineCode.{RoutineCode}
use Rattle.sc_interp.specs.declared.hops.Hop.TheVariants as told
use Rattle.sc_interp.proofs.SilentMoves.{comes_nobody, comes_uncoded}
use Rattle.sc_interp.proofs.hopping.moves.Goals as goal

pub returns-in-None-clause-comes : goal.returns-in-None-clause-comes
returns-in-None-clause-comes c = comes_nobody (told.Failed cause.BadCode) c.args.store.now c.args.store.now (sym c.current.ensures ∙ c.in-None.is)

pub returns-in-None-top_code-clause-comes : goal.returns-in-None-top_code-clause-comes
returns-in-None-top_code-clause-comes c = comes_uncoded (told.Failed cause.BadCode) c.args.store.now c.args.store.now
    (sym c.top_code.ensures ∙ ap (option_map (λ (q : Bor RoutineCode). q.now)) c.in-None-top_code.is)

pub moves_in-requires-clause-current : goal.moves_in-requires-clause-current
moves_in-requires-clause-current c = sym c.current.ensures ∙ c.in-Some.is

pub moves_in-requires-clause-code : goal.moves_in-requires-clause-code
moves_in-requires-clause-code c = sym c.top_code.ensures ∙ ap (option_map (λ (q : Bor RoutineCode). q.now)) c.in-Some-top_code.is
