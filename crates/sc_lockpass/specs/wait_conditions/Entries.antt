-- The handlers that an entry has to reserve.
use Rattle.std.specs.Prelude.{◌==◌, ◌∷◌, ◌++◌, ℕ, not, List, [], Option, Some, None, filter, if◌then◌else◌}
use Rattle.std.specs.List.{filter_map}
use Rattle.sc_lockpass.specs.Rights.{Rights, held, is_among}

-- these in the same order, each at its first place
abbrev pub each_once : List ℕ → List ℕ
each_once [] = []
each_once (k ∷ ks) = k ∷ filter (λ j. not (j == k)) (each_once ks)

-- the handler of a value, if it has one that this handler doesn't hold
abbrev pub unheld : Rights → ℕ → Option ℕ → Option ℕ
unheld r h None = None
unheld r h (Some k) = if held r h k then None else Some k

-- The handlers of these values that the entering handler doesn't hold, each once. A value has the handler on which its
-- object lies, or none.
abbrev pub needed : Rights → ℕ → List (Option ℕ) → List ℕ
needed r h values = each_once (filter_map (unheld r h) values)

-- these, and then a handler, if it isn't among them
abbrev pub with_new : List ℕ → Option ℕ → List ℕ
with_new ks None = ks
with_new ks (Some k) = if is_among k ks then ks else ks ++ k ∷ []
