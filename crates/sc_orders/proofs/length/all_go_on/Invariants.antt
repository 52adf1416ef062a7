use Rattle.std.proofs.Common.{◌≡◌, ◌<◌, IfSome, ℕ, false, get_or, true}
use Rattle.sc_orders.proofs.length.all_go_on.Given as goal

-- those before are so
abbrev pub invariant-loop-state : goal.invariant-loop-state
invariant-loop-state l = record {
  some : IfSome l.some (λ state. 0 < get_or l.left state 0);
  followed_all : (s : ℕ) → s < l.state → 0 < get_or l.left s 0 → get_or l.followed s false ≡ true;
  met_all : (s : ℕ) → 0 < s → s < l.state → get_or l.met s false ≡ true;
}
