-- What is put into a core.
use Rattle.std.specs.Prelude.{◌≡◌, ◌≤◌, ◌<◌, ℕ, List, [], ◌∷◌, Some, None, slice_get, slice_set}
use Rattle.sc_handler.specs.declared.handler.Handler as coded
use Rattle.sc_handler.specs.Handlers.{new_handler}
use Rattle.sc_request.specs.Parts.{part_in, parts_in}
use Rattle.sc_request.specs.Tables.{handler_in, out_at}
use Rattle.sc_request.specs.declared.loading.Change.{Change}
use Rattle.sc_request.specs.declared.parts.Part.{Part}

-- The first handlers, as many as the number says, are those of the parts of these numbers, and none of them is out.
abbrev pub HaveParts : ℕ → List Part → List ℕ → List coded.Handler → Type 0
HaveParts n table numbers xs =
    (k : ℕ) → k < n →
    (handler_in (slice_get xs k) ≡ (part_in (slice_get (parts_in table numbers) k)).handler) × (out_at xs k ≡ None)

-- the handlers once these changes are made, the last one first
abbrev pub changed : List Change → List coded.Handler → List coded.Handler
changed [] xs = xs
changed (c ∷ cs) xs = slice_set (changed cs xs) c.place c.handler

-- From this place on all handlers are new, and none is out.
abbrev pub AreNewPlaces : ℕ → List coded.Handler → Type 0
AreNewPlaces place xs = (k : ℕ) → place ≤ k → (handler_in (slice_get xs k) ≡ new_handler) × (out_at xs k ≡ None)

-- No part of these numbers counts more settlements.
abbrev pub CountsFor : List Part → List ℕ → ℕ → Type 0
CountsFor table numbers most =
    (k number : ℕ) (p : Part) → slice_get numbers k ≡ Some number → slice_get table number ≡ Some p →
    p.settlements ≤ most
