-- How rights lie in memory: tables of holders by number, and sets of numbers as the bits of words.
use Rattle.std.specs.Prelude.{◌==◌, ◌≤◌, ◌/◌, ◌%◌, ◌≡◌, ℕ, Bool, false, List, Option, Some, None, if◌then◌else◌, slice_index_or}
use Rattle.std.specs.Int.{bit_at}
use Rattle.sc_lockpass.specs.declared.version.Version.{Version}
use Rattle.sc_lockpass.specs.Rights.{Rights, is_handler}
use Rattle.sc_lockpass.specs.Passing.{Passed}

-- which handler may post to each handler of a version, and which may push on its waiting stack
pub record Table : Type 0 where
  pub version : Version
  pub queue : List (Option ℕ)
  pub top : List (Option ℕ)

-- the holder at this number, and none after the end
abbrev pub holder_at : List (Option ℕ) → ℕ → Option ℕ
holder_at holders k = slice_index_or holders k None

-- the rights that a table has
abbrev pub rights_of : Table → Rights
rights_of t = record { queue = holder_at t.queue; top = holder_at t.top }

-- from this number on, no handler holds a right
abbrev pub IsNobodysFrom : ℕ → List (Option ℕ) → Type 0
IsNobodysFrom reach holders = (k : ℕ) → reach ≤ k → holder_at holders k ≡ None

-- what was this holder's becomes the other's
abbrev pub replaced : ℕ → Option ℕ → Option ℕ → Option ℕ
replaced from to holder = if is_handler from holder then to else holder

-- the number is in the set: its bit is 1
abbrev pub is_member : List ℕ → ℕ → Bool
is_member words k = bit_at (slice_index_or words (k / 64) 0) (k % 64) == 1

-- no number from here on is in the set
abbrev pub IsBelow : ℕ → List ℕ → Type 0
IsBelow reach words = (k : ℕ) → reach ≤ k → is_member words k ≡ false

-- What a client passed: the handlers to which it could post and on whose waiting stack it could push, as two sets,
-- and which handler could push on its own.
pub record Listing : Type 0 where
  pub client : ℕ
  pub top_holder : Option ℕ
  pub queues : List ℕ
  pub tops : List ℕ

abbrev pub listed_in : Bool → ℕ → Option (Option ℕ)
listed_in is_listed client = if is_listed then Some (Some client) else None

-- the rights that are listed, with their holders
abbrev pub passed_of : Listing → Passed
passed_of p = record {
  queue = λ k. listed_in (is_member p.queues k) p.client;
  top = λ k. if k == p.client then Some p.top_holder else listed_in (is_member p.tops k) p.client;
}
