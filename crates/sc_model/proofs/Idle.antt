-- A handler without a turn changes nothing.
use Rattle.std.proofs.Common.{◌≡◌, ℕ, Bool, true, false, List, [], ◌∷◌, Option, Some, None, refl}
use Rattle.std.specs.Prelude.{◌&&◌, ◌||◌, is_some, nat_lt, if◌then◌else◌}
use Rattle.sc_tree.specs.Plain.{System}
use Rattle.sc_model.specs.declared.cause.Cause.{Cause}
use Rattle.sc_rules.specs.declared.entity_types.entity_type.EntityType.{EntityType}
use Rattle.sc_model.specs.Handlers.{Request, Answer, Stage, Runs, Reserves, ReservesBlock, InCall, Awaits, Frame, World}
use Rattle.sc_model.specs.Sessions.{has_requests}
use Rattle.sc_model.specs.Entries.{entry_needs, block_needs, may_reserve, reserves_if}
use Rattle.sc_model.specs.Takes.{takes_next}
use Rattle.sc_model.specs.Turns.{turn, turn_with, goes_on, waits}
use Rattle.sc_model.specs.Runs.{has_turn, has_turn_with, goes}

not_next : (s : System) (h : ℕ) (rs : List Request) (w : World) → has_requests rs ≡ false → takes_next s h rs w ≡ w
not_next s h [] w e = refl
not_next s h (r ∷ rs) w e = cc

not_reserved : (b : Bool) (h : ℕ) (ks : List ℕ) (f : Frame) (below : List Frame) (w : World) → b ≡ false → reserves_if b h ks f below w ≡ w
not_reserved true h ks f below w e = cc
not_reserved false h ks f below w e = refl

no_answer : (s : System) (h : ℕ) (c : Option Request) (a : Option Answer) (k : ℕ) (gives : Option EntityType) (b : Bool) (f : Frame) (below : List Frame) (w : World) →
    (is_some c || is_some a) ≡ false → waits s h c a k gives b f below w ≡ w
no_answer s h (Some r) a k gives b f below w e = cc
no_answer s h None (Some a) k gives b f below w e = cc
no_answer s h None None k gives b f below w e = refl

not_on : (most : ℕ) (s : System) (h : ℕ) (stage : Stage) (f : Frame) (below : List Frame) (w : World) → goes h stage f w ≡ false → goes_on most s h stage f below w ≡ w
not_on most s h Runs f below w e = cc
not_on most s h Reserves f below w e = not_reserved (may_reserve (entry_needs h f w) f.mark w) h _ _ below w e
not_on most s h ReservesBlock f below w e = not_reserved (may_reserve (block_needs h f w) [] w) h _ _ below w e
not_on most s h (InCall gives) f below w e = cc
not_on most s h (Awaits k gives b) f below w e = no_answer s h (w.handlers h).callback (w.handlers h).answer k gives b f below w e

idle_with : (most : ℕ) (s : System) (h : ℕ) (why : Option Cause) (stack : List Frame) (w : World) → has_turn_with h why stack w ≡ false → turn_with most s h why stack w ≡ w
idle_with most s h (Some why) stack w e = refl
idle_with most s h None [] w e = not_next s h (w.handlers h).queue w e
idle_with most s h None (f ∷ below) w e = not_on most s h f.stage f below w e

by_number : (b : Bool) (most : ℕ) (s : System) (h : ℕ) (w : World) → (b && has_turn_with h (w.handlers h).failure (w.handlers h).stack w) ≡ false
    → (if b then turn_with most s h (w.handlers h).failure (w.handlers h).stack w else w) ≡ w
by_number false most s h w e = refl
by_number true most s h w e = idle_with most s h (w.handlers h).failure (w.handlers h).stack w e

pub idle : (most : ℕ) (s : System) (h : ℕ) (w : World) → has_turn h w ≡ false → turn most s h w ≡ w
idle most s h w e = by_number (nat_lt h w.count) most s h w e
