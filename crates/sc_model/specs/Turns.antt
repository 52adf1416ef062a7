-- The turn of a handler.
use Rattle.std.specs.Prelude.{ℕ, Bool, List, [], ◌∷◌, ◌++◌, Option, Some, None, nat_lt, if◌then◌else◌}
use Rattle.sc_tree.specs.Plain.{System}
use Rattle.sc_rules.specs.declared.entity_types.entity_type.EntityType.{EntityType}
use Rattle.sc_model.specs.declared.cause.Cause.{Cause}
use Rattle.sc_model.specs.declared.cause.Cause.TheVariants as cause
use Rattle.sc_model.specs.Values.{values_of}
use Rattle.sc_model.specs.Routines.{routine_named}
use Rattle.sc_model.specs.Steps.{Act, Prints, Until, Creates, CreatesHandler, Enters, Requests, Starts, Refuses, Opens, Leaves, Exits, Fails, Step, Goes, Does}
use Rattle.sc_model.specs.Moves.{moves}
use Rattle.sc_model.specs.Handlers.{Request, Answer, Called, Stage, Runs, Reserves, ReservesBlock, InCall, Awaits, Frame, World, point_of, frame_at, put, with_stack}
use Rattle.sc_model.specs.Failures.{fail}
use Rattle.sc_model.specs.Entries.{enters, entry_needs, block_needs, reserves_entry, reserves_block}
use Rattle.sc_model.specs.Asking.{request, creates_handler}
use Rattle.sc_model.specs.Preconditions.{verdict_on, false_clause}
use Rattle.sc_model.specs.Exits.{exits, leaves_block}
use Rattle.sc_model.specs.Takes.{takes_next, takes_callback, takes_answer}

abbrev pub prints_text : ℕ → List ℕ → World → World
prints_text h text w = put h (record (w.handlers h) { output = (w.handlers h).output ++ text }) w

-- What a visible step does, with `f` on `below` after it, and this limit on handlers.
abbrev pub effect : ℕ → System → ℕ → Act → Frame → List Frame → World → World
effect most s h (Prints text) f below w = prints_text h text w
effect most s h Until f below w = w
effect most s h Creates f below w = w
effect most s h Starts f below w = w
effect most s h (CreatesHandler class procedure us t passing) f below w =
    creates_handler most h class procedure us t passing f below w
effect most s h (Enters c me x us gives) f below w =
    enters s h me (routine_named s me.class x) (Called c) (record f { stage = InCall gives } ∷ below) []
    (values_of us) w
effect most s h (Requests r x us gives passing) f below w = request h r x us gives passing f below w
effect most s h (Refuses k) f below w = false_clause (verdict_on f k) s h f below w
effect most s h Opens f below w = with_stack h (record f { stage = ReservesBlock } ∷ below) w
effect most s h Leaves f below w = leaves_block h f.blocks f below w
effect most s h Exits f below w = exits s h f below w
effect most s h (Fails why) f below w = fail h why w

-- the silent steps and the visible one change the frame and the objects; then comes its effect
abbrev pub settles : ℕ → System → ℕ → Step → Frame → List Frame → World → World
settles most s h (Goes p) f below w = w
settles most s h (Does a p) f below w =
    effect most s h a (frame_at f p) below
    (put h (record (w.handlers h) { objects = p.objects; stack = frame_at f p ∷ below }) w)

-- a callback comes before an answer
abbrev pub waits : System → ℕ → Option Request → Option Answer → ℕ → Option EntityType → Bool → Frame →
    List Frame → World → World
waits s h (Some r) a k gives is_creation f below w = takes_callback s h r (f ∷ below) w
waits s h None (Some a) k gives is_creation f below w = takes_answer h a k gives is_creation f below w
waits s h None None k gives is_creation f below w = w

abbrev pub goes_on : ℕ → System → ℕ → Stage → Frame → List Frame → World → World
goes_on most s h Runs f below w = settles most s h (moves s f.current (point_of f (w.handlers h).objects)) f below w
goes_on most s h Reserves f below w = reserves_entry h (entry_needs h f w) f below w
goes_on most s h ReservesBlock f below w = reserves_block h (block_needs h f w) f below w
goes_on most s h (InCall gives) f below w = fail h cause.BadCode w
goes_on most s h (Awaits k gives is_creation) f below w =
    waits s h (w.handlers h).callback (w.handlers h).answer k gives is_creation f below w

-- a handler that has failed does nothing, one without frames takes the next request, and else its topmost frame goes on
abbrev pub turn_with : ℕ → System → ℕ → Option Cause → List Frame → World → World
turn_with most s h (Some why) stack w = w
turn_with most s h None [] w = takes_next s h (w.handlers h).queue w
turn_with most s h None (f ∷ below) w = goes_on most s h f.stage f below w

-- The step of the handler of the number. If there is none, or its next step isn't enabled, nothing changes.
abbrev pub turn : ℕ → System → ℕ → World → World
turn most s h w = if nat_lt h w.count then turn_with most s h (w.handlers h).failure (w.handlers h).stack w else w
