use Rattle.std.proofs.Common.{◌≡◌, ◌<◌, IfNone, IfSome, None, is_some, true, ℕ}
use Rattle.sc_request.specs.Cores.{center_of}
use Rattle.sc_request.specs.Logs.{pick_for}
use Rattle.sc_chance.proofs.picking.pick.Given as goal

-- the one that is picked has a turn, and if there is none yet, none of those before has one
abbrev pub invariant-loop-place : goal.invariant-loop-place
invariant-loop-place l = record {
  has : IfSome l.picked (λ handler. is_some (pick_for handler (center_of l.core)) ≡ true);
  none : IfNone l.picked ((h : ℕ) → h < l.place → pick_for h (center_of l.core) ≡ None);
}
