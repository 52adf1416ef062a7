-- What is kept of worlds, as the states of a machine: its turns are those of worlds of which the same is kept.
use Rattle.std.specs.Prelude.{◌≡◌, ◌||◌, ℕ, zero, suc, Bool, false, is_some}
use Rattle.sc_lockpass.specs.declared.version.Version.{Version}
use Rattle.sc_code.specs.declared.program.Image.{Image}
use Rattle.sc_handler.specs.Picking.{job_of}
use Rattle.sc_world.specs.Kept.{PlainKept, kept}
use Rattle.sc_world.specs.Turning.{IsTurn}
use Rattle.sc_world.specs.Worlds.{PlainWorld}
use Rattle.sc_refines_world.specs.Anew.{IsPlayed}

-- Turns lead from the opening of the program to a world of which this is kept.
pub record IsReached (p : Image) (v : Version) (k : PlainKept) : Type 0 where
  pub world : PlainWorld
  pub played : IsPlayed p v world
  pub kept_is : kept world ≡ k

-- The turn of the handler leads from a world of which the first is kept to one of which the second is.
pub record Turn (p : Image) (v : Version) (h : ℕ) (k l : PlainKept) : Type 0 where
  pub before : PlainWorld
  pub after : PlainWorld
  pub played : IsPlayed p v before
  pub kept_before : kept before ≡ k
  pub turn : IsTurn h before after
  pub kept_after : kept after ≡ l

-- whether the handler has something to do
abbrev pub has_turn : ℕ → PlainKept → Bool
has_turn h k = is_some (job_of h k.state)

abbrev pub some_below : ℕ → (ℕ → Bool) → Bool
some_below zero f = false
some_below (suc n) f = f n || some_below n f

-- whether some handler has failed
abbrev pub has_failed : PlainKept → Bool
has_failed k = some_below k.state.count (λ h. is_some (k.state.handlers h).failure)

-- whether something is shown that ends a search: nothing is
abbrev pub never : PlainKept → Bool
never k = false
