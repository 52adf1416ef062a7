-- Core and regions that play a system together, each by its own half.
use Rattle.std.proofs.Common.{ℕ, zero, suc, Bool, false, List, [], ◌∷◌, ◌++◌, Option, Some, None}
use Rattle.std.specs.Prelude.{map, is_some, ◌||◌, ◌==◌, if◌then◌else◌}
use Rattle.sc_tree.specs.Plain.{System}
use Rattle.sc_class.specs.ClassNames.{number_of}
use Rattle.sc_class.specs.Tables.Features.{DeclaredFeature}
use Rattle.sc_typing.specs.FeatureNumbers.{all_features}
use Rattle.std.specs.Option.{option_map_or}
use Rattle.sc_model.specs.declared.status.Status.{Status}
use Rattle.sc_model.specs.Runs.{root_request}
use Rattle.sc_model.proofs.Texts.{root}
use Rattle.sc_region.specs.declared.job.Job.{Job}
use Rattle.sc_handler.specs.Handlers.{State}
use Rattle.sc_handler.specs.Picking.{job_of, status_of}
use Rattle.sc_request.specs.Logs.{opening}
use Rattle.sc_request.specs.Settling.{settled}
use Rattle.sc_request.specs.Asked.{request_of}
use Rattle.sc_refines_world.specs.regions.RegionTurns.{Half, new_half, taken_turn}
use Rattle.sc_refines_world.specs.regions.RegionSteps.{numbering_by, task_of, first_want}

-- the two halves of a world
pub record Halves : Type 0 where
  pub core : State
  pub regions : ℕ → Half

-- the names of its features
abbrev pub names_of : System → List (List ℕ)
names_of s = map (λ (f : DeclaredFeature). f.feature.name.text) (all_features s)

abbrev pub opened : System → Halves
opened s = record {
  core = opening (request_of (numbering_by (names_of s)) (root_request (option_map_or (λ k. k) (number_of s root.class) 0) root.procedure));
  regions = λ k. new_half;
}

-- The core picks the job, the region makes its turn, and the core settles what it asks.
abbrev pub turned : System → ℕ → Option Job → Halves → Halves
turned s h None x = x
turned s h (Some j) x = record {
  core = settled 64 h j 1 (first_want (numbering_by (names_of s)) s h (task_of (names_of s) j) (x.regions h)) x.core;
  regions = λ k. if k == h then taken_turn s h (task_of (names_of s) j) (x.regions h) else x.regions k;
}

abbrev pub run : System → List ℕ → Halves → Halves
run s [] x = x
run s (h ∷ hs) x = run s hs (turned s h (job_of h x.core) x)

abbrev pub played : System → List ℕ → Halves
played s hs = run s hs (opened s)

abbrev pub some_has_job : ℕ → State → Bool
some_has_job zero s = false
some_has_job (suc n) s = is_some (job_of n s) || some_has_job n s

-- each handler's status, how many requests it refused, and its output
abbrev pub summary : ℕ → Halves → List (Status × ℕ × List ℕ)
summary zero x = []
summary (suc n) x = summary n x ++ (status_of n x.core, (x.core.handlers n).refused, (x.regions n).output) ∷ []

-- whether something is left to do, and how each handler stands
abbrev pub outcome : Halves → Bool × List (Status × ℕ × List ℕ)
outcome x = (some_has_job x.core.count x.core, summary x.core.count x)
