-- Turns that were made on one object, as turns of the handler.
use Rattle.std.proofs.Common.{◌≡◌, ℕ, ◌+◌, ◌-◌, ◌≤◌, Bool, inl, inr, Result, Ok, Err, Some, refl, sym, ap, ◌∙◌, subst, arith}
use Rattle.sc_model.specs.declared.cause.Cause.{Cause}
use Rattle.sc_region.specs.declared.frame.Stage.TheVariants as stage
use Rattle.sc_region.specs.declared.job.Job.{Job}
use Rattle.sc_region.specs.declared.job.Want.{Want}
use Rattle.sc_region.specs.declared.job.Want.TheVariants as want
use Rattle.sc_region.specs.Frames.{top_activation}
use Rattle.sc_region.specs.Stores.{PlainStore, failed}
use Rattle.sc_acts.specs.declared.act.Act.{Act}
use Rattle.sc_acts.specs.declared.act.Act.TheVariants as act
use Rattle.sc_interp.specs.declared.hops.Hop.TheVariants as hop
use Rattle.sc_interp.specs.Hopping.{LeadsTo}
use Rattle.sc_interp.specs.Playing.{Remains}
use Rattle.sc_interp.specs.Running as here
use Rattle.sc_interp.specs.Running.{Arrives, Does, RestsIn, Stops, Turn}
use Rattle.sc_acts.specs.Turning.{unless_failed}
use Rattle.sc_interp.proofs.SilentMoves.{remains_after}
use Rattle.sc_interp.proofs.Onward.{comes_on, leads_on, still_runs}
use Rattle.sc_acts.specs.Acting.{acted, asks_acted}
use Rattle.sc_play.specs.Turns.{AreMade, GoesOn, IsAhead, TurnIn, TurnOf}
use Rattle.sc_play.proofs.MadeTurns.{made_more}

-- ---- one turn

does_act : (h : ℕ) (o : Act) (x y : PlainStore) → Does o x y → y ≡ acted h o x
does_act h (act.Until back) x y d = d
does_act h (act.Enter calling r name n gives) x y d = d.0
does_act h act.Exit x y d = d.0
does_act h (act.PrintInteger z) x y d = absurd d
does_act h (act.PrintBoolean b) x y d = absurd d
does_act h (act.PrintText k) x y d = absurd d
does_act h (act.Request c) x y d = absurd d
does_act h (act.Create class procedure n) x y d = absurd d
does_act h (act.CreateHandler c) x y d = absurd d
does_act h act.Start x y d = d
does_act h (act.Refuse k) x y d = absurd d
does_act h (act.Open first n) x y d = absurd d
does_act h act.Leave x y d = absurd d

asks_none : (h : ℕ) (o : Act) (x y : PlainStore) → Does o x y → asks_acted h o x y ≡ want.Continue
asks_none h (act.Until back) x y d = refl
asks_none h (act.Enter calling r name n gives) x y d = d.1
asks_none h act.Exit x y d = d.1
asks_none h (act.PrintInteger z) x y d = absurd d
asks_none h (act.PrintBoolean b) x y d = absurd d
asks_none h (act.PrintText k) x y d = absurd d
asks_none h (act.Request c) x y d = absurd d
asks_none h (act.Create class procedure n) x y d = absurd d
asks_none h (act.CreateHandler c) x y d = absurd d
asks_none h act.Start x y d = refl
asks_none h (act.Refuse k) x y d = absurd d
asks_none h (act.Open first n) x y d = absurd d
asks_none h act.Leave x y d = absurd d

goes_on : (h : ℕ) (x y : PlainStore) → Turn x y → GoesOn h x y want.Continue
goes_on h x y t = record {
  operation = hop.Comes t.operation;
  before = t.before;
  comes = t.comes;
  remains = t.remains;
  told = t.told;
  does = does_act h t.operation t.before y t.does;
  want = sym (ap (λ f. unless_failed f (asks_acted h t.operation t.before y)) t.stands ∙ asks_none h t.operation t.before y t.does);
}

turn_of : (h : ℕ) (x y : PlainStore) → Turn x y → TurnOf h x y want.Continue
turn_of h x y t = subst (λ s. TurnIn s h x y want.Continue) (sym t.runs) (goes_on h x y t)

-- ---- turns

turns_made : (made h : ℕ) (is_told : Bool) (j : Job) (z x : PlainStore) (n : ℕ) (y : PlainStore) → AreMade made h is_told j z x want.Continue → here.Turns x n y →
    AreMade (made + n) h is_told j z y want.Continue
turns_made made h is_told j z x _ _ before here.none =
    let same : made ≡ made + 0 = omega arith in
    subst (λ (k : ℕ). AreMade k h is_told j z x want.Continue) same before
turns_made made h is_told j z x _ _ before (here.more {n = n} {y = u} {z = y} turns next) =
    let many : (made + n) + 1 ≡ made + (n + 1) = omega arith in
    subst (λ (k : ℕ). AreMade k h is_told j z y want.Continue) many
    (made_more (made + n) h is_told j z u y want.Continue want.Continue (turns_made made h is_told j z x n u before turns) refl (turn_of h u y next))

-- none lead nowhere
turns_none : (x : PlainStore) (n : ℕ) (y : PlainStore) → here.Turns x n y → n ≡ 0 → y ≡ x
turns_none x _ _ here.none e = refl
turns_none x _ _ (here.more turns next) e = absurd (omega (arith, e))

-- ---- a turn behind them

pub goes_behind : (h : ℕ) (x y z : PlainStore) (w : Want) → LeadsTo x y → Remains x y → GoesOn h y z w → GoesOn h x z w
goes_behind h x y z w before k goes = record {
  operation = goes.operation;
  before = goes.before;
  comes = comes_on goes.operation x y goes.before before k goes.comes;
  remains = remains_after x y goes.before k goes.remains;
  told = goes.told;
  does = goes.does;
  want = goes.want;
}

running_turn : (h : ℕ) (x y z : PlainStore) (w : Want) → LeadsTo x y → Remains x y → here.stage_in y ≡ Some stage.Runs → TurnOf h y z w → TurnOf h x z w
running_turn h x y z w before k r turn =
    subst (λ s. TurnIn s h x z w) (sym (still_runs x y (top_activation x.frames) k refl r))
    (goes_behind h x y z w before k (subst (λ s. TurnIn s h y z w) r turn))

turn_next : (h : ℕ) (x y z : PlainStore) (w : Want) → LeadsTo x y → Remains x y → RestsIn (Ok tt) x y → TurnOf h y z w → TurnOf h x z w
turn_next h x y z w before k (inl r) turn = running_turn h x y z w before k r turn
turn_next h x y z w before k (inr e) turn = subst (λ (u : PlainStore). TurnOf h u z w) e turn

-- the handler fails in it
turn_fails : (h : ℕ) (x y z : PlainStore) (why : Cause) (w : Want) → Stops (Err why) x y → Remains x y → RestsIn (Err why) x y → z ≡ failed why y → w ≡ want.Fail why → TurnOf h x z w
turn_fails h x y z why w stops k r does wants =
    subst (λ s. TurnIn s h x z w) (sym (still_runs x y (top_activation x.frames) k refl r))
    (record { operation = hop.Failed why; before = y; comes = stops; remains = k; told = tt; does = does; want = wants })

-- ---- made already, and behind them

pub arrives_as : (now turns : ℕ) (step done : Result Unit Cause) (x y : PlainStore) → step ≡ done → Arrives (now - turns) step x y → Arrives (now - turns) done x y
arrives_as now turns step done x y is arrives = subst (λ (s : Result Unit Cause). Arrives (now - turns) s x y) is arrives

pub made_exactly : (turns now h : ℕ) (is_told : Bool) (j : Job) (z x y : PlainStore) (asked : Want) → AreMade turns h is_told j z x asked → asked ≡ want.Continue → turns ≤ now →
    here.Turns x (now - turns) y → AreMade now h is_told j z y want.Continue
made_exactly turns now h is_told j z x y asked made nothing more leads =
    let many : turns + (now - turns) ≡ now = omega (arith, more) in
    subst (λ (k : ℕ). AreMade k h is_told j z y want.Continue) many
    (turns_made turns h is_told j z x (now - turns) y (subst (λ (w : Want). AreMade turns h is_told j z x w) nothing made) leads)

pub made_by_now : (turns now h : ℕ) (is_told : Bool) (j : Job) (z x y : PlainStore) (asked : Want) (step : Result Unit Cause) → AreMade turns h is_told j z x asked → asked ≡ want.Continue →
    turns ≤ now → (arrives : Arrives (now - turns) step x y) → AreMade now h is_told j z arrives.last want.Continue
made_by_now turns now h is_told j z x y asked step made nothing more arrives =
    made_exactly turns now h is_told j z x arrives.last asked made nothing more arrives.turns

pub made_next : (turns now h : ℕ) (is_told : Bool) (j : Job) (z x y u : PlainStore) (asked w : Want) → AreMade turns h is_told j z x asked → asked ≡ want.Continue → turns ≤ now →
    Arrives (now - turns) (Ok tt) x y → TurnOf h y u w → AreMade (now + 1) h is_told j z u w
made_next turns now h is_told j z x y u asked w made nothing more arrives turn =
    made_more now h is_told j z arrives.last u want.Continue w (made_by_now turns now h is_told j z x y asked (Ok tt) made nothing more arrives) refl
    (turn_next h arrives.last y u w arrives.stops arrives.remains arrives.rests turn)

pub made_failing : (turns now h : ℕ) (is_told : Bool) (j : Job) (z x y u : PlainStore) (asked w : Want) (why : Cause) → AreMade turns h is_told j z x asked → asked ≡ want.Continue → turns ≤ now →
    Arrives (now - turns) (Err why) x y → u ≡ failed why y → w ≡ want.Fail why → AreMade (now + 1) h is_told j z u w
made_failing turns now h is_told j z x y u asked w why made nothing more arrives does wants =
    made_more now h is_told j z arrives.last u want.Continue w (made_by_now turns now h is_told j z x y asked (Err why) made nothing more arrives) refl
    (turn_fails h arrives.last y u why w arrives.stops arrives.remains arrives.rests does wants)

-- ---- refused memory

ahead_next : (x y z : PlainStore) → LeadsTo x y → Remains x y → IsAhead y z → IsAhead x z
ahead_next x y z before k ahead = record {
  runs = still_runs x y (top_activation x.frames) k refl ahead.runs;
  leads = leads_on x y z before k ahead.leads;
  remains = remains_after x y z k ahead.remains;
}

pub ahead_here : (n : ℕ) (x y z : PlainStore) → (arrives : Arrives n (Ok tt) x y) → IsAhead y z → IsAhead arrives.last z
ahead_here n x y z arrives ahead = ahead_next arrives.last y z arrives.stops arrives.remains ahead

-- where none was made
pub ahead_none : (n : ℕ) (x y z : PlainStore) → Arrives n (Ok tt) x y → n ≡ 0 → IsAhead y z → IsAhead x z
ahead_none n x y z arrives none ahead = subst (λ (u : PlainStore). IsAhead u z) (turns_none x n arrives.last arrives.turns none) (ahead_here n x y z arrives ahead)
