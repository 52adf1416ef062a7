-- A run that stays within fewer handlers is the same where there may be no more.
use Rattle.std.proofs.Common.{◌≡◌, ℕ, ◌+◌, ◌≤◌, Bool, true, false, List, [], ◌∷◌, Option, Some, None, refl, ap, ◌∙◌, arith}
use Rattle.std.proofs.lemmas.Bool.{ltb-true, ltb-false}
use Rattle.std.specs.Prelude.{nat_lt, if◌then◌else◌}
use Rattle.sc_tree.specs.Plain.{System}
use Rattle.sc_rules.specs.declared.entity_types.entity_type.EntityType.{EntityType}
use Rattle.sc_model.specs.declared.cause.Cause.{Cause}
use Rattle.sc_model.specs.declared.cause.Cause.TheVariants as cause
use Rattle.sc_model.specs.Values.{Reference, Operand}
use Rattle.sc_model.specs.Steps.{Act, Prints, Until, Creates, CreatesHandler, Enters, Requests, Starts, Refuses, Opens, Leaves, Exits, Fails, Step, Goes, Does}
use Rattle.sc_model.specs.Moves.{moves}
use Rattle.sc_model.specs.Handlers.{Stage, Runs, Reserves, ReservesBlock, InCall, Awaits, Frame, World, point_of}
use Rattle.sc_model.specs.Failures.{fail}
use Rattle.sc_model.specs.Asking.{created, creates_handler}
use Rattle.sc_model.specs.Turns.{turn, turn_with, goes_on, settles, effect}
use Rattle.sc_model.specs.Runs.{run}
use Rattle.sc_model.specs.Laws.{StaysWithin}

-- with the answers to whether there is room, in fewer and in more
room : (few most : ℕ) (n : ℕ) (a b : Bool) (x y : World) → nat_lt n few ≡ a → nat_lt n most ≡ b → few ≤ most → x.count ≡ n + 1
    → (if b then x else y).count ≤ few → (if a then x else y) ≡ (if b then x else y)
room few most n true true x y p q le c h = refl
room few most n false false x y p q le c h = refl
room few most n true false x y p q le c h = absurd (omega (arith, ltb-true n few p, ltb-false n most q, le))
room few most n false true x y p q le c h = absurd (omega (arith, ltb-false n few p, c, h))

created_counts : (h : ℕ) (r : Reference) (procedure : Option (List ℕ)) (us : List Operand) (t : EntityType) (passing : Bool) (f : Frame) (below : List Frame) (w : World) →
    (created h r procedure us t passing f below w).count ≡ w.count + 1
created_counts h r procedure us t true f below w = refl
created_counts h r procedure us t false f below w = refl

same_creation : (few most h class : ℕ) (procedure : Option (List ℕ)) (us : List Operand) (t : EntityType) (passing : Bool) (f : Frame) (below : List Frame) (w : World) → few ≤ most
    → (creates_handler most h class procedure us t passing f below w).count ≤ few
    → creates_handler few h class procedure us t passing f below w ≡ creates_handler most h class procedure us t passing f below w
same_creation few most h class procedure us t passing f below w le c =
    room few most w.count (nat_lt w.count few) (nat_lt w.count most)
    (created h (record { handler = w.count; number = 1; class = class }) procedure us t passing f below w) (fail h cause.TooManyHandlers w) refl refl le
    (created_counts h (record { handler = w.count; number = 1; class = class }) procedure us t passing f below w) c

same_effect : (few most : ℕ) (s : System) (h : ℕ) (a : Act) (f : Frame) (below : List Frame) (w : World) → few ≤ most
    → (effect most s h a f below w).count ≤ few → effect few s h a f below w ≡ effect most s h a f below w
same_effect few most s h (Prints text) f below w le c = refl
same_effect few most s h Until f below w le c = refl
same_effect few most s h Creates f below w le c = refl
same_effect few most s h Starts f below w le c = refl
same_effect few most s h (CreatesHandler class procedure us t passing) f below w le c = same_creation few most h class procedure us t passing f below w le c
same_effect few most s h (Enters q me x us gives) f below w le c = refl
same_effect few most s h (Requests r x us gives passing) f below w le c = refl
same_effect few most s h (Refuses k) f below w le c = refl
same_effect few most s h Opens f below w le c = refl
same_effect few most s h Leaves f below w le c = refl
same_effect few most s h Exits f below w le c = refl
same_effect few most s h (Fails why) f below w le c = refl

same_step : (few most : ℕ) (s : System) (h : ℕ) (st : Step) (f : Frame) (below : List Frame) (w : World) → few ≤ most
    → (settles most s h st f below w).count ≤ few → settles few s h st f below w ≡ settles most s h st f below w
same_step few most s h (Goes p) f below w le c = refl
same_step few most s h (Does a p) f below w le c = same_effect few most s h a _ below _ le c

same_stage : (few most : ℕ) (s : System) (h : ℕ) (g : Stage) (f : Frame) (below : List Frame) (w : World) → few ≤ most
    → (goes_on most s h g f below w).count ≤ few → goes_on few s h g f below w ≡ goes_on most s h g f below w
same_stage few most s h Runs f below w le c = same_step few most s h (moves s f.current (point_of f (w.handlers h).objects)) f below w le c
same_stage few most s h Reserves f below w le c = refl
same_stage few most s h ReservesBlock f below w le c = refl
same_stage few most s h (InCall gives) f below w le c = refl
same_stage few most s h (Awaits k gives b) f below w le c = refl

same_with : (few most : ℕ) (s : System) (h : ℕ) (why : Option Cause) (stack : List Frame) (w : World) → few ≤ most
    → (turn_with most s h why stack w).count ≤ few → turn_with few s h why stack w ≡ turn_with most s h why stack w
same_with few most s h (Some why) stack w le c = refl
same_with few most s h None [] w le c = refl
same_with few most s h None (f ∷ below) w le c = same_stage few most s h f.stage f below w le c

by_number : (b : Bool) (few most : ℕ) (s : System) (h : ℕ) (w : World) → few ≤ most
    → (if b then turn_with most s h (w.handlers h).failure (w.handlers h).stack w else w).count ≤ few
    → (if b then turn_with few s h (w.handlers h).failure (w.handlers h).stack w else w) ≡ (if b then turn_with most s h (w.handlers h).failure (w.handlers h).stack w else w)
by_number false few most s h w le c = refl
by_number true few most s h w le c = same_with few most s h (w.handlers h).failure (w.handlers h).stack w le c

same_turn : (few most : ℕ) (s : System) (h : ℕ) (w : World) → few ≤ most → (turn most s h w).count ≤ few → turn few s h w ≡ turn most s h w
same_turn few most s h w le c = by_number (nat_lt h w.count) few most s h w le c

pub fewer_are_enough : (few most : ℕ) (s : System) (hs : List ℕ) (w : World) → few ≤ most → StaysWithin few most s hs w → run few s hs w ≡ run most s hs w
fewer_are_enough few most s [] w le c = refl
fewer_are_enough few most s (h ∷ hs) w le c =
    ap (run few s hs) (same_turn few most s h w le (c (h ∷ []) hs refl))
    ∙ fewer_are_enough few most s hs (turn most s h w) le (λ first second e. c (h ∷ first) second (ap (λ xs. h ∷ xs) e))
