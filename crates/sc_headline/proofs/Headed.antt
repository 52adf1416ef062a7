-- From the bytes of a source text to the state of the machine.
use Rattle.std.proofs.Common.{ℕ, List, [], ◌∙◌, inl, inr, refl}
use Rattle.std.specs.List.{flat_map}
use Rattle.std.proofs.Math.Logic.{∥∥₁_map}
use Rattle.sc_tree.specs.Plain.{System}
use Rattle.sc_model.specs.declared.status.Status.{Status}
use Rattle.sc_model.specs.Handlers.{World}
use Rattle.sc_lockpass.specs.declared.version.Version.TheVariants.{Two}
use Rattle.sc_code.specs.declared.program.Image.{Image}
use Rattle.sc_request.specs.Laws.{PicksWhereTurns}
use Rattle.sc_world.specs.Worlds.{PlainWorld, opened}
use Rattle.sc_world.proofs.Runs.{made-run}
use Rattle.sc_refines_world.specs.Refining.{IdleWorldIsIdle, MachineHasHeadline, StandingWorldIsNear, WorldHasHeadline, WorldReportsAsMachine, WorldRunsAsMachine}
use Rattle.sc_refines_world.specs.Standing.{StandsFor}
use Rattle.sc_refines_world.proofs.HadTurns.{WorldsStand}
use Rattle.sc_driver.specs.Execution.{IsThreadRun, Leaves, line_turns}
use Rattle.sc_headline.specs.Headline.{Headline, IsReportOf, MachineHeadline, ReplaysAreTheMachines, RunsAreTheMachines, machine_after}
use Rattle.sc_headline.proofs.TurnsMade.{made_are_had}

pub machine_headed : MachineHasHeadline → MachineHeadline
machine_headed law text root system most state read sound reached = law system root sound.faultless sound.well_formed most state reached

pub headed : WorldHasHeadline → Headline
headed law text root program version handlers world loaded runs =
    let found = law loaded.system root loaded.sound.faultless loaded.sound.well_formed program version handlers world loaded.is_program loaded.fits runs in
    record {
      system = loaded.system;
      read = loaded.read;
      sound = loaded.sound;
      state = found.0;
      reached = found.1;
      stands = found.2;
      headline = found.3;
    }

-- what a world leaves that stands for a state is what the machine reports of that
reported : StandingWorldIsNear → WorldReportsAsMachine → (s : System) (p : Image) (w : World) (x : PlainWorld) (report : List ℕ) (statuses : List Status) →
    StandsFor s p w x → Leaves x report statuses → IsReportOf w report statuses
reported near tells s p w x report statuses stands leaves =
    let told = tells s p w x (near s p w x stands) in
    record { report_is = leaves.report_is ∙ told.0; statuses_are = leaves.statuses_are ∙ told.1 }

pub replayed : WorldRunsAsMachine → StandingWorldIsNear → WorldReportsAsMachine → ReplaysAreTheMachines
replayed law near tells text root program version lines report statuses loaded replay =
    let turns = flat_map line_turns lines in
    let stands = law loaded.system root loaded.sound.faultless loaded.sound.well_formed program version turns replay.world loaded.is_program loaded.fits replay.runs in
    record {
      system = loaded.system;
      read = loaded.read;
      sound = loaded.sound;
      told = reported near tells loaded.system program (machine_after loaded.system root version turns) replay.world report statuses stands replay.leaves;
    }

pub ran : WorldRunsAsMachine → PicksWhereTurns → IdleWorldIsIdle → StandingWorldIsNear → WorldReportsAsMachine → RunsAreTheMachines
ran law picks idle near tells text root limit lines report statuses of_text =
    let loaded = of_text.loaded in
    let s = loaded.system in
    let p = of_text.program in
    let turns = flat_map line_turns lines in
    let w = machine_after s root Two turns in
    let stand : WorldsStand s root p Two = λ hs x runs. law s root loaded.sound.faultless loaded.sound.well_formed p Two hs x loaded.is_program loaded.fits runs in
    ∥∥₁_map of_text.is_run (λ (run : IsThreadRun p limit lines report statuses).
    let stands = stand turns run.world (made-run turns (opened p Two) run.world run.makes) in
    record {
      is_run = record {
        system = s;
        read = loaded.read;
        sound = loaded.sound;
        told = reported near tells s p w run.world report statuses stands run.leaves;
      };
      have_turns = made_are_had picks s root p Two stand turns [] (opened p Two) run.world refl run.makes;
      few = run.few;
      short = run.short;
      ends = elim run.ends [
        | inl none ↦ inl (idle s p w run.world stands none)
        | inr rest ↦ inr rest
      ];
    })
