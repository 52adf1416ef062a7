-- The law of settlements in each state that is reached.
use Rattle.std.proofs.Common.{ℕ, ◌≡◌, ◌<◌, Bool, false, ap, ◌∙◌, inl, inr}
use Rattle.std.proofs.lemmas.Bool.{cases_Bool, ltb-true}
use Rattle.std.specs.Prelude.{nat_lt}
use Rattle.sc_tree.specs.Plain.{System}
use Rattle.sc_rules.specs.Names.{RoutineName}
use Rattle.sc_rules.specs.Purity.{IsPurity}
use Rattle.sc_rules.proofs.PurityStands.{purity_stands}
use Rattle.sc_model.specs.Handlers as machine
use Rattle.sc_model.specs.Turns.{turn}
use Rattle.sc_handler.specs.Handlers.{State}
use Rattle.sc_handler.specs.Picking.{job_of}
use Rattle.sc_request.specs.Asked.{Numbering}
use Rattle.sc_request.specs.Halves.{IsHalfOf}
use Rattle.sc_request.specs.Steps.{StandsOnCall, stepped}
use Rattle.sc_request.proofs.StageHalves.{halves}
use Rattle.sc_machine_laws.proofs.states.MachineHolders.{machine_reserved_are_held}
use Rattle.sc_machine_laws.proofs.states.links.Reached.{reached_linked}
use Rattle.sc_machine_laws.specs.settlements.Reached.{HalvesWhereReached}
use Rattle.sc_machine_laws.proofs.settlements.Grants.{granted}
use Rattle.sc_machine_laws.proofs.settlements.FrameLinks.{reached_fits, stands_on_call}

-- where there is no such handler nothing happens
nobody_steps : (most : ℕ) (n : Numbering) (s : System) (h : ℕ) (w : machine.World) (c : State) → IsHalfOf n w c → nat_lt h w.count ≡ false →
    IsHalfOf n (turn most s h w) (stepped most n s h w (job_of h c) c)
nobody_steps most n s h w c e is =
    let same : nat_lt h c.count ≡ false = ap (λ (m : ℕ). nat_lt h m) e.count ∙ is in
    rw (is, same) e

pub reached_halves : HalvesWhereReached
reached_halves s root faultless well most n h w c reached e remembers = elim (cases_Bool (nat_lt h w.count)) [
  | inl is ↦
      let l = reached_linked most s root w reached in
      let held = machine_reserved_are_held l.world w l.law l.stands in
      halves most n s h w c e (stands (ltb-true h w.count is) (purity_stands s)) (granted n s h w c l.sound held remembers e)
  | inr is ↦ nobody_steps most n s h w c e is
]
  where
    stands : h < w.count → (pure : RoutineName → Bool) × IsPurity s pure → StandsOnCall (w.handlers h).stack
    stands one (pure, tells) =
        stands_on_call s h (w.handlers h).stack (reached_fits s root pure faultless well tells most w reached h one).frames_are_linked
