-- Laws of rights and of passing.
use Rattle.std.specs.Prelude.{◌≡◌, ◌≢◌, ◌==◌, ◌||◌, ℕ, true, List, None}
use Rattle.sc_lockpass.specs.Rights.{Rights, held, is_among, reserve, release, release_all}
use Rattle.sc_lockpass.specs.Passing.{pass, passed_by, give_back}

-- Giving back what was just passed restores all rights.
abbrev pub Restores : Type 0
Restores = (r : Rights) (client supplier : ℕ) → give_back (passed_by client r) (pass client supplier r) ≡ r

-- Whatever became of the rights since, a client that is given back what it passed holds all that it held.
abbrev pub HoldsAgain : Type 0
HoldsAgain = (r now : Rights) (client k : ℕ) → held r client k ≡ true →
    held (give_back (passed_by client r) now) client k ≡ true

-- And its waiting stack is whose it was: the supplier doesn't keep it.
abbrev pub TopReturns : Type 0
TopReturns = (r now : Rights) (client : ℕ) → (give_back (passed_by client r) now).top client ≡ r.top client

-- A supplier holds what it held, and what its client held.
abbrev pub SupplierHolds : Type 0
SupplierHolds = (r : Rights) (client supplier k : ℕ) →
    held (pass client supplier r) supplier k ≡ (held r supplier k || held r client k)

-- A client that has passed its rights holds itself alone.
abbrev pub ClientHolds : Type 0
ClientHolds = (r : Rights) (client supplier k : ℕ) → client ≢ supplier →
    held (pass client supplier r) client k ≡ (k == client)

-- Others hold what they held, but for the client.
abbrev pub OthersHold : Type 0
OthersHold =
    (r : Rights) (client supplier h k : ℕ) → h ≢ client → h ≢ supplier → k ≢ client →
    held (pass client supplier r) h k ≡ held r h k

-- A handler that has released all its rights holds itself alone, and the others hold what they held.
abbrev pub NothingKept : Type 0
NothingKept = (r : Rights) (h k : ℕ) → held (release_all h r) h k ≡ (k == h)

abbrev pub OthersKeep : Type 0
OthersKeep = (r : Rights) (h other k : ℕ) → other ≢ h → held (release_all h r) other k ≡ held r other k

-- A handler that reserves others holds them, and what it held.
abbrev pub ReserverHolds : Type 0
ReserverHolds = (r : Rights) (h k : ℕ) (ks : List ℕ) → held (reserve h ks r) h k ≡ (is_among k ks || held r h k)

-- no handler may post to any of these
abbrev pub AreUnreserved : List ℕ → Rights → Type 0
AreUnreserved ks r = (k : ℕ) → is_among k ks ≡ true → r.queue k ≡ None

-- Reserving handlers that are free takes nothing from any handler, and releasing them restores all rights.
abbrev pub TakesNothing : Type 0
TakesNothing =
    (r : Rights) (h other k : ℕ) (ks : List ℕ) → AreUnreserved ks r → other ≢ h →
    held (reserve h ks r) other k ≡ held r other k

abbrev pub ReleaseRestores : Type 0
ReleaseRestores = (r : Rights) (h : ℕ) (ks : List ℕ) → AreUnreserved ks r → release ks (reserve h ks r) ≡ r
