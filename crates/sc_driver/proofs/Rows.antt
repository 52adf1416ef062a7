-- Records of runs on threads, worked out: none is padded.
use Rattle.std.proofs.Common.{◌≡◌, ℕ, List, [], ◌∷◌, true, false, is_some, refl}
use Rattle.sc_lockpass.specs.declared.version.Version.TheVariants.{Two}
use Rattle.sc_audit.specs.declared.line.RecordLine.{RecordLine}
use Rattle.sc_model.specs.declared.status.Status.{Status}
use Rattle.sc_code.specs.declared.program.Image.{Image}
use Rattle.sc_request.specs.Logs.{pick_for}
use Rattle.sc_world.specs.Worlds.{opened}
use Rattle.sc_driver.specs.Execution.{IsThreadRun}

abbrev line : ℕ → ℕ → RecordLine
line handler turns = record { handler = handler; turns = turns }

-- the root handler has the first turn
begins : (p : Image) → is_some (pick_for 0 (opened p Two).center) ≡ true
begins p = refl

-- as many turns as there may be, of a number that is no handler
of_no_handler : (p : Image) (text : List ℕ) (statuses : List Status) → IsThreadRun p 1000 (line 1000 1000 ∷ []) text statuses → ⊥
of_no_handler p text statuses run = let no : false ≡ true = run.makes.0 in cc

-- handler 1 is created by a turn of the root handler, so none of its own comes first
of_one_to_come : (p : Image) (limit n : ℕ) (lines : List RecordLine) (text : List ℕ) (statuses : List Status) →
    IsThreadRun p limit (line 1 1 ∷ line 0 n ∷ lines) text statuses → ⊥
of_one_to_come p limit n lines text statuses run = let no : false ≡ true = run.makes.0 in cc
