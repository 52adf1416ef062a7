-- What a whole search shows.
use Rattle.std.specs.Prelude.{◌≡◌, true, ℕ, List, length, min}
use Rattle.sc_lockpass.specs.declared.version.Version.{Version}
use Rattle.sc_code.specs.declared.program.Image.{Image}
use Rattle.sc_world.specs.Kept.{PlainKept}
use Rattle.sc_search.specs.declared.aims.Aim.{Aim}
use Rattle.sc_search.specs.declared.verdict.Finding.TheVariants as finding
use Rattle.sc_search.specs.declared.verdict.Verdict.{Verdict}
use Rattle.sc_search.specs.Closed.{IsClosed}
use Rattle.sc_search.specs.Lengths.{IsLength}
use Rattle.sc_search.specs.Waiting.{AreMoving}

-- Nothing was found, and the states that were met are closed. In none of them a handler waits for good, if that is
-- looked for. Their number is reported, and how long orders of joined turns are.
pub record IsProved (p : Image) (v : Version) (a : Aim) (d : Verdict) : Type 0 where
  pub nothing : d.finding ≡ finding.Nothing
  pub states : List PlainKept
  pub number : d.states ≡ min (length states) 4294967295
  pub closed : IsClosed p v a states
  pub moving : AreMoving p v a states
  pub joined : ℕ
  pub long : IsLength p v joined d.length

-- Where the verdict is whole, that is so.
abbrev pub IsShown : Image → Version → Aim → Verdict → Type 0
IsShown p v a d = d.is_whole ≡ true → IsProved p v a d
