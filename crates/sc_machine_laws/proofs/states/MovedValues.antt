-- Where the values of a move lead: the silent steps up to a visible one, and that one, make no reference but that of the object that is created.
use Rattle.std.proofs.Common.{List, suc, zero, ℕ}
use Rattle.sc_tree.specs.Plain.{System}
use Rattle.sc_model.specs.Moves.{first_visible, moves, step, then_go}
use Rattle.sc_model.specs.Objects.{Object}
use Rattle.sc_model.specs.Sizes.{size}
use Rattle.sc_model.specs.Steps as act
use Rattle.sc_model.specs.Steps.{Act, Does, Goes, Point, Step}
use Rattle.sc_model.specs.Values.{Reference, Value}
use Rattle.sc_machine_laws.proofs.states.OperatorReferences.{ActStays, HoldsOfOwn, Stays, StepStays}
use Rattle.sc_machine_laws.proofs.states.References.{step_stays}

module _ (P : Value → Type 0) (me : Reference) (own : HoldsOfOwn P me) (objects : List Object) where
  first_stays : (s : System) (n : ℕ) (p : Point) → Stays P objects p → StepStays P me own objects (first_visible n s me p)
  first_stays s zero p h = h
  first_stays s (suc n) p h = by (step s me p) (λ q f. first_stays s n q f) (step_stays P me own objects s p h)
    where
      by : (x : Step) → ((q : Point) → Stays P objects q → StepStays P me own objects (first_visible n s me q)) → StepStays P me own objects x →
          StepStays P me own objects (then_go x (first_visible n s me))
      by (Goes q) go f = go q f
      by (Does a q) go f = f

  pub moves_stay : (s : System) (p : Point) → Stays P objects p → StepStays P me own objects (moves s me p)
  moves_stay s p h = first_stays s (suc (size p.tasks)) p h

  -- what any act leaves
  pub stays_after : (a : Act) (q : Point) → ActStays P me own objects a q → Stays P objects q
  stays_after (act.Prints t) q f = f
  stays_after act.Until q f = f
  stays_after act.Creates q f = f
  stays_after (act.CreatesHandler k x us t b) q f = f.0
  stays_after (act.Enters c o x us t) q f = f.0
  stays_after (act.Requests o x us t b) q f = f.0
  stays_after act.Starts q f = f
  stays_after (act.Refuses k) q f = f
  stays_after act.Opens q f = f
  stays_after act.Leaves q f = f
  stays_after act.Exits q f = f
  stays_after (act.Fails why) q f = f
