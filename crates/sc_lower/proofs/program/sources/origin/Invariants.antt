use Rattle.std.proofs.Common.{◌≡◌, ◌-◌, None, drop}
use Rattle.sc_class.specs.SystemIn.{system_in}
use Rattle.sc_class.specs.Tables.Heirs.{topmost_along}
use Rattle.sc_lower.proofs.program.sources.origin.Given as goal

-- none of the upper classes declares it
abbrev pub invariant-loop-done : goal.invariant-loop-done
invariant-loop-done l = topmost_along (system_in l.tables) l.name (drop (l.count - l.done) l.classes) ≡ None
