-- Which handlers are known to wait for which.
use Rattle.std.specs.Prelude.{◌≡◌, ◌==◌, ◌&&◌, ℕ, Bool, true, false, List, [], Option, Some, None, nat_lt, slice_get, if◌then◌else◌}
use Rattle.sc_lockpass.specs.Rights.{is_among}
use Rattle.sc_lockpass.specs.Tables.{is_member}
use Rattle.sc_handler.specs.Handlers.{HandlerStage, Idle, Runs, HasMade, Reserves, Awaits, Handler}
use Rattle.sc_request.specs.declared.handler_set.HandlerSet.{HandlerSet}

-- what the next step reserves if it isn't held, if that is a reserve step
abbrev pub reserved_by : HandlerStage → List ℕ
reserved_by Idle = []
reserved_by Runs = []
reserved_by (HasMade k) = []
reserved_by (Reserves ks mark) = ks
reserved_by (Awaits k is_creation) = []

-- It reserves this one, and none that it reserves has failed.
pub record WaitsFor (b k : ℕ) (xs : ℕ → Handler) : Type 0 where
  pub needs : is_among b (reserved_by (xs k).stage) ≡ true
  pub unfailed : (j : ℕ) → is_among j (reserved_by (xs k).stage) ≡ true → (xs j).failure ≡ None

-- ---- sets by the number of a handler

abbrev pub words_in : Option HandlerSet → List ℕ
words_in None = []
words_in (Some s) = s.words

-- the words of the set at the number, and none past the end
abbrev pub crowd_at : List HandlerSet → ℕ → List ℕ
crowd_at crowds b = words_in (slice_get crowds b)

-- Each handler in the set of a handler is there, and waits for that one.
abbrev pub AreCrowds : List HandlerSet → ℕ → (ℕ → Handler) → Type 0
AreCrowds crowds count xs =
    (b k : ℕ) → is_member (crowd_at crowds b) k ≡ true → (nat_lt k count ≡ true) × WaitsFor b k xs

-- Each handler in a set of the second list was in that of the first, but for this one in the set of this number: it is
-- in it if it is so.
abbrev pub Notes : ℕ → ℕ → Bool → List HandlerSet → List HandlerSet → Type 0
Notes n h is_so before after =
    (b k : ℕ) → is_member (crowd_at after b) k ≡ true →
    (if b == n && k == h then is_so else is_member (crowd_at before b) k) ≡ true

-- Each handler in a set of the second list was in that of the first, and isn't this one in the set of one of these.
abbrev pub LeavesEach : ℕ → List ℕ → List HandlerSet → List HandlerSet → Type 0
LeavesEach h ks before after =
    (b k : ℕ) → is_member (crowd_at after b) k ≡ true →
    (is_member (crowd_at before b) k ≡ true) × ((is_among b ks && k == h) ≡ false)

-- The handler is in no set of the second list, and whoever else is in one was in that of the first.
abbrev pub LeavesCrowds : ℕ → List HandlerSet → List HandlerSet → Type 0
LeavesCrowds h before after =
    (b k : ℕ) → is_member (crowd_at after b) k ≡ true → (is_member (crowd_at before b) k ≡ true) × ((k == h) ≡ false)

-- Nobody is in a set of the second list where it is so, and whoever is in one was in that of the first.
abbrev pub Disbands : Bool → List HandlerSet → List HandlerSet → Type 0
Disbands is_so before after =
    (b k : ℕ) → is_member (crowd_at after b) k ≡ true → (is_so ≡ false) × (is_member (crowd_at before b) k ≡ true)
