-- How the frames of a handler lie on each other, in each state that is reached.
use Rattle.std.specs.Prelude.{◌≡◌, ◌<◌, ℕ, true, List, [], ◌∷◌, None}
use Rattle.sc_tree.specs.Plain.{System}
use Rattle.sc_class.specs.ClassNames.{Root}
use Rattle.sc_model.specs.Handlers.{Origin, Called, Requested, Stage, Awaits, Frame, World}
use Rattle.sc_model.specs.Runs.{opening}
use Rattle.sc_model.specs.Turns.{turn}

-- a frame in this stage waits for a supplier's answer
abbrev pub IsAwaiting : Stage → Type 0
IsAwaiting (Awaits k gives is_creation) = Unit {0}
IsAwaiting stage = ⊥

-- A frame that serves a request is the lowest one, or the frame below it waits for an answer.
abbrev pub StandsOver : Origin → List Frame → Type 0
StandsOver (Called c) below = Unit {0}
StandsOver (Requested r) [] = Unit {0}
StandsOver (Requested r) (f ∷ below) = IsAwaiting f.stage

-- A frame that waits for the answer to a creation takes no value.
abbrev pub TakesNone : Stage → Type 0
TakesNone (Awaits k gives true) = gives ≡ None
TakesNone stage = Unit {0}

-- Both hold of each of these frames.
abbrev pub AreInOrder : List Frame → Type 0
AreInOrder [] = Unit {0}
AreInOrder (f ∷ below) = StandsOver f.origin below × TakesNone f.stage × AreInOrder below

-- The frames of each handler are in order.
abbrev pub EachInOrder : World → Type 0
EachInOrder w = (k : ℕ) → k < w.count → AreInOrder (w.handlers k).stack

-- ---- laws

-- The frames are in order at the opening.
abbrev pub OpensInOrder : Type 0
OpensInOrder = (s : System) (root : Root) → EachInOrder (opening s root)

-- They are still in order after each turn.
abbrev pub TurnsKeepOrder : Type 0
TurnsKeepOrder = (most : ℕ) (s : System) (h : ℕ) (w : World) → EachInOrder w → EachInOrder (turn most s h w)
