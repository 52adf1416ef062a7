-- What a whole move of a routine, up to its visible step, leaves of the names of the routine.
use Rattle.std.proofs.Common.{ℕ, zero, suc, refl}
use Rattle.sc_tree.specs.Plain.{System}
use Rattle.sc_model.specs.Values.{Reference}
use Rattle.sc_model.specs.Routines.{Routine}
use Rattle.sc_model.specs.Steps.{Does, Goes, Point, Step}
use Rattle.sc_model.specs.Moves.{first_visible, moves, step, then_go}
use Rattle.sc_model.specs.Sizes.{size}
use Rattle.sc_refines_world.proofs.Scopes as scopes
use Rattle.sc_refines_world.proofs.Scopes.{step_at_l}

module _ (s : System) (me : Reference) (routine : Routine) where
  abbrev Left : Point → Type 0
  Left p = scopes.Left s me routine p

  abbrev Leaves : Step → Type 0
  Leaves x = scopes.Leaves s me routine x

  then_l : (x : Step) (go : Point → Step) → ((q : Point) → Left q → Leaves (go q)) → Leaves x → Leaves (then_go x go)
  then_l (Goes q) go more l = more q l
  then_l (Does a q) go more l = l

  visible_l : (n : ℕ) (p : Point) → Left p → Leaves (first_visible n s me p)
  visible_l zero p l = l
  visible_l (suc n) p l = then_l (step s me p) (first_visible n s me) (λ q m. visible_l n q m) (step_at_l s me routine p.tasks p refl l)

  pub moves_leave : (p : Point) → Left p → Leaves (moves s me p)
  moves_leave p l = visible_l (suc (size p.tasks)) p l
