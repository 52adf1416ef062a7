-- Where a run is over.
use Rattle.std.specs.Prelude.{◌≡◌, ◌≤◌, ◌⊎◌, ℕ, List, None, length, sum_by}
use Rattle.sc_audit.specs.declared.line.RecordLine.{RecordLine}
use Rattle.sc_request.specs.Logs.{Center, next}

abbrev pub turns_in : List RecordLine → ℕ
turns_in ls = sum_by (λ (l : RecordLine). l.turns) ls

-- No more turns were made than the limit, and the record has 1,000,000 lines at most. No handler is out, and nothing
-- can be picked, or no more may be.
pub record IsOver (limit : ℕ) (c : Center) (ls : List RecordLine) : Type 0 where
  pub few : turns_in ls ≤ limit
  pub lines : length ls ≤ 1000000
  pub home : (h : ℕ) → c.out h ≡ None
  pub ends : (next c ≡ None) ⊎ ((turns_in ls ≡ limit) ⊎ (length ls ≡ 1000000))
