-- Frames still follow the evaluation by its parts after a turn.
use Rattle.std.specs.Prelude.{ℕ, ◌≡◌, ◌≢◌, ◌<◌, Bool, None}
use Rattle.sc_tree.specs.Plain.{System}
use Rattle.sc_class.specs.ClassNames.{Root}
use Rattle.sc_class.specs.Faults.ClassRules.{IsFaultless}
use Rattle.sc_rules.specs.Names.{RoutineName}
use Rattle.sc_rules.specs.Purity.{IsPurity}
use Rattle.sc_rules.specs.SystemRules.{WellFormed}
use Rattle.sc_model.specs.Handlers.{World}
use Rattle.sc_model.specs.Runs.{IsReached}
use Rattle.sc_model.specs.Turns.{turn}
use Rattle.sc_machine_laws.specs.Following.{StackFollows, WorldFollows}

-- After its own turn each frame of a handler follows again, unless the handler has failed.
abbrev pub OwnFollows : Type 0
OwnFollows = (s : System) (root : Root) (pure : RoutineName → Bool) → IsFaultless s root → WellFormed s →
    IsPurity s pure → (most h : ℕ) (w : World) → IsReached most s root w → WorldFollows s pure w → h < w.count →
    ((turn most s h w).handlers h).failure ≡ None →
    StackFollows s pure (turn most s h w) h None ((turn most s h w).handlers h).stack

-- After the turn of another handler each of its frames follows too, unless the handler has failed.
abbrev pub OthersFollow : Type 0
OthersFollow = (s : System) (root : Root) (pure : RoutineName → Bool) → IsFaultless s root → WellFormed s →
    IsPurity s pure → (most g h : ℕ) (w : World) → IsReached most s root w → WorldFollows s pure w → h < w.count →
    h ≢ g →
    ((turn most s g w).handlers h).failure ≡ None →
    StackFollows s pure (turn most s g w) h None ((turn most s g w).handlers h).stack
