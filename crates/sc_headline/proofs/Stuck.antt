-- Handlers that are stuck have no turn.
use Rattle.std.proofs.Common.{◌≡◌, ◌<◌, ◌≤◌, ◌∙◌, ◌&&◌, ◌||◌, ℕ, zero, suc, Bool, true, false, List, Option, Some, None, get_or, length, refl, sym, ap, arith}
use Rattle.std.specs.List.{list_any}
use Rattle.std.specs.Prelude.{nat_lt}
use Rattle.std.proofs.lemmas.List.Folds.{list_any_at}
use Rattle.std.proofs.lemmas.List.FromFn.{get_or-map-range_with_len, length-map-range_with_len}
use Rattle.sc_model.specs.declared.cause.Cause.{Cause}
use Rattle.sc_model.specs.declared.status.Status.{Status}
use Rattle.sc_model.specs.declared.status.Status.TheVariants.{Busy}
use Rattle.sc_model.specs.Handlers.{Frame, World}
use Rattle.sc_model.specs.Reports.{some_has_turn, status_of, status_with}
use Rattle.sc_model.specs.Runs.{has_turn, has_turn_with}
use Rattle.sc_headline.specs.Searched.{StuckHaveNoTurn, statuses_in}

-- one that has a turn has not failed
pub lives : (h : ℕ) (w : World) → has_turn h w ≡ true → (w.handlers h).failure ≡ None
lives h w = by (nat_lt h w.count) (w.handlers h).failure refl
  where
    by : (b : Bool) (why : Option Cause) → (w.handlers h).failure ≡ why → b && has_turn_with h why (w.handlers h).stack w ≡ true → (w.handlers h).failure ≡ None
    by b None e is = e
    by true (Some why) e is = cc
    by false (Some why) e is = cc

-- so it is busy
pub busy_with : (why : Option Cause) (b : Bool) (stack : List Frame) → b ≡ true → why ≡ None → status_with why b stack ≡ Busy
busy_with None true stack has alive = refl
busy_with None false stack has alive = cc
busy_with (Some why) b stack has alive = cc

-- Where the test is true of who is busy and of none of the handlers, this one has no turn,
idle_at : (P : Status → Bool) (w : World) → list_any P (statuses_in w) ≡ false → P Busy ≡ true → (h : ℕ) → h < w.count → has_turn h w ≡ false
idle_at P w none busy h few = by (has_turn h w) refl
  where
    by : (b : Bool) → has_turn h w ≡ b → has_turn h w ≡ false
    by false e = e
    by true e =
        let stands : status_of h w ≡ Busy = busy_with (w.handlers h).failure (has_turn h w) (w.handlers h).stack e (lives h w e) in
        let there : h < length (statuses_in w) = omega (arith, few, length-map-range_with_len (λ (k : ℕ). status_of k w) 0 w.count) in
        let at : get_or (statuses_in w) h Busy ≡ status_of h w = get_or-map-range_with_len (λ (k : ℕ). status_of k w) 0 w.count h h Busy few (omega arith) in
        let hit : list_any P (statuses_in w) ≡ true = list_any_at P (statuses_in w) h Busy there (ap P (at ∙ stands) ∙ busy) in
        let no : true ≡ false = sym hit ∙ none in
        cc

-- and neither has any of the first ones.
none_turns : (P : Status → Bool) (w : World) → list_any P (statuses_in w) ≡ false → P Busy ≡ true → (n : ℕ) → n ≤ w.count → some_has_turn n w ≡ false
none_turns P w none busy zero few = refl
none_turns P w none busy (suc n) few =
    let one : has_turn n w ≡ false = idle_at P w none busy n (omega (arith, few)) in
    ap (λ (b : Bool). b || some_has_turn n w) one ∙ none_turns P w none busy n (omega (arith, few))

pub stuck_have_none : StuckHaveNoTurn
stuck_have_none w stuck = none_turns _ w stuck.idle refl w.count (omega arith)
