use Rattle.std.proofs.Common.{take, map}
use Rattle.sc_class.specs.SystemIn.{system_in}
use Rattle.sc_check.specs.purity.Internal.Effects.{effect_of}
use Rattle.sc_check.specs.purity.Internal.ImpureSearch.{IsCollecting}
use Rattle.sc_check.proofs.purity.impure_search.collect_effects.Given as goal

-- the effects so far are held
abbrev pub invariant-loop-effect : goal.invariant-loop-effect
invariant-loop-effect l = IsCollecting (system_in l.numbering.tables.now) l.search.impure.items l.search.todo.items l.callers.lists.items l.number (map effect_of (take l.effect-index l.effect-items))
