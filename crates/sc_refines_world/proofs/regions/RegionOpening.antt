-- A new store stands for the half of a handler that was asked for nothing yet, and so does its half of a new handler of the machine.
use Rattle.std.proofs.Common.{ℕ, [], refl}
use Rattle.sc_tree.specs.Plain.{System}
use Rattle.sc_code.specs.declared.program.Image.{Image}
use Rattle.sc_model.specs.Handlers.{new_handler}
use Rattle.sc_region.specs.Stores.{new_store}
use Rattle.sc_handler.specs.Handlers.{Idle}
use Rattle.sc_refines_world.specs.regions.RegionTurns.{new_half}
use Rattle.sc_refines_world.specs.regions.RegionHalves.{IsRegionOf, IsRegionHalf}
use Rattle.sc_refines_world.specs.regions.RegionSteps.{ReplaysTo}

pub new_region : (s : System) (p : Image) → IsRegionOf s new_half (new_store p)
new_region s p = record { objects = refl; frames = tt; output = refl; failure = refl }

pub new_replays : (h : ℕ) (p : Image) → ReplaysTo h [] (new_store p)
new_replays h p = λ s told. (new_half, refl, new_region s p)

pub new_region_half : (h : ℕ) → IsRegionHalf h new_handler Idle new_half
new_region_half h = record { objects = refl; output = refl; stands = λ stands. (refl, tt); failure = λ why fails. fails }
