-- What the tuple of a state stands for.
use Rattle.std.specs.Prelude.{◌≡◌, ◌≤◌, ◌+◌, ℕ, List, get_or, length}
use Rattle.sc_world.specs.Loading.{kept_with}
use Rattle.sc_request.specs.Parts.{AreWithin, PlainPart, means, new_part}
use Rattle.sc_play.specs.Contents.{Contents, new_contents}
use Rattle.sc_world.specs.Kept.{PlainKept}
use Rattle.sc_search.specs.Numbering.{half, part_numbers, region_numbers}

-- the state that a tuple stands for, by what the numbers of regions and of parts stand for
abbrev pub state_by : List Contents → List PlainPart → List ℕ → PlainKept
state_by regions parts tuple =
    kept_with (get_or tuple 0 0) (means parts new_part (part_numbers tuple))
    (means regions (new_contents 0) (region_numbers tuple))

-- It is a tuple, and there are as many regions and parts as its numbers need.
pub record IsNumbered (tuple : List ℕ) (regions parts : ℕ) : Type 0 where
  pub whole : length tuple ≡ 1 + half tuple + half tuple
  pub few : half tuple ≤ 512
  pub count : get_or tuple 0 0 ≤ 512
  pub within_regions : AreWithin (region_numbers tuple) regions
  pub within_parts : AreWithin (part_numbers tuple) parts
