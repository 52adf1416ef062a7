-- Runs: how a system opens, the run of a list of handler numbers, and what is reached.
use Rattle.std.specs.Prelude.{ℕ, ◌≡◌, Bool, true, false, ◌&&◌, ◌||◌, List, [], ◌∷◌, Option, Some, None, is_some, nat_lt, if◌then◌else◌}
use Rattle.std.specs.Option.{option_map_or}
use Rattle.sc_tree.specs.Plain.{System}
use Rattle.sc_class.specs.ClassNames.{Root, number_of}
use Rattle.sc_lockpass.specs.Rights.{unreserved}
use Rattle.sc_model.specs.declared.cause.Cause.{Cause}
use Rattle.sc_model.specs.Handlers.{Request, Makes, Stage, Runs, Reserves, ReservesBlock, InCall, Awaits, Frame, World, new_handler}
use Rattle.sc_model.specs.Sessions.{has_requests}
use Rattle.sc_model.specs.Entries.{entry_needs, block_needs, may_reserve}
use Rattle.sc_model.specs.Turns.{turn}

-- the creation of the root object, of this class
abbrev pub root_request : ℕ → List ℕ → Request
root_request k procedure = record {
  poster = None;
  target = record { handler = 0; number = 1; class = k };
  errand = Makes (Some procedure);
  actuals = [];
  is_waited = false;
  passed = None;
}

-- there is one handler, with one request
abbrev pub opening : System → Root → World
opening s root = record {
  count = 1;
  handlers = λ k. if nat_lt k 1 then record new_handler {
    queue = root_request
        (option_map_or (λ k. k) (number_of s root.class) 0) root.procedure ∷ [];
  } else new_handler;
  rights = unreserved;
}

-- the turns of these handlers, one after the other, with this limit on handlers
abbrev pub run : ℕ → System → List ℕ → World → World
run most s [] w = w
run most s (h ∷ hs) w = run most s hs (turn most s h w)

-- The world is the end of the run of some list from the opening.
pub record IsReached (most : ℕ) (s : System) (root : Root) (w : World) : Type 0 where
  pub numbers : List ℕ
  pub run_is : run most s numbers (opening s root) ≡ w

-- ---- whether a handler has a turn

-- the frame's next step is enabled
abbrev pub goes : ℕ → Stage → Frame → World → Bool
goes h Runs f w = true
goes h Reserves f w = may_reserve (entry_needs h f w) f.mark w
goes h ReservesBlock f w = may_reserve (block_needs h f w) [] w
goes h (InCall gives) f w = true
goes h (Awaits k gives is_creation) f w = is_some (w.handlers h).callback || is_some (w.handlers h).answer

abbrev pub has_turn_with : ℕ → Option Cause → List Frame → World → Bool
has_turn_with h (Some why) stack w = false
has_turn_with h None [] w = has_requests (w.handlers h).queue
has_turn_with h None (f ∷ below) w = goes h f.stage f w

abbrev pub has_turn : ℕ → World → Bool
has_turn h w = nat_lt h w.count && has_turn_with h (w.handlers h).failure (w.handlers h).stack w
