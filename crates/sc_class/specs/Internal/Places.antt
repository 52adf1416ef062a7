-- Places of faults, each once; and lists that have all of something.
use Rattle.std.specs.Prelude.{◌≡◌, ◌==◌, ℕ, ◌&&◌, ◌⊎◌, Bool, List, [], ◌∷◌, ◌++◌, Option, Some, None, Any, if◌then◌else◌}
use Rattle.std.specs.List.{list_any}
use Rattle.std.specs.HashSet.{HashSet, contains_by}
use Rattle.sc_text.specs.declared.token.Span.{Span}

abbrev pub is_same_place : Span → Span → Bool
is_same_place p q = p.start == q.start && p.end == q.end

-- one of the places is this
abbrev pub is_placed : Span → List Span → Bool
is_placed p ps = list_any (is_same_place p) ps

-- the places, and after them this one if it isn't among them
abbrev pub inserted : List Span → Span → List Span
inserted ps p = if is_placed p ps then ps else ps ++ p ∷ []

-- the first places, and after them those of the others that aren't among them
unfoldable pub union : List Span → List Span → List Span
union ps [] = ps
union ps (q ∷ qs) = union (inserted ps q) qs

-- one or none, as a list
abbrev pub if_any : {X : Type 0} → Option X → List X
if_any None = []
if_any (Some x) = x ∷ []

-- It is in the list.
abbrev pub Has : {X : Type 0} → List X → X → Type 0
Has xs x = Any (λ y. y ≡ x) xs

-- It is what f gives of one of these.
abbrev pub IsOf : {X Y : Type 0} → (X → Y) → (X → Type 0) → Y → Type 0
IsOf {X} f P y = (x : X) × (y ≡ f x) × P x

-- The list has these and no others.
pub record Lists {X : Type 0} (P : X → Type 0) (xs : List X) : Type 0 where
  pub each_is : (x : X) → Has xs x → P x
  pub each_listed : (x : X) → P x → Has xs x

-- The second list has what the first one has, and these, and no others.
pub record Gains {X : Type 0} (P : X → Type 0) (old new : List X) : Type 0 where
  pub each_is : (x : X) → Has new x → Has old x ⊎ P x
  pub keeps : (x : X) → Has old x → Has new x
  pub each_listed : (x : X) → P x → Has new x

-- The set has the places of the list, as pairs.
abbrev pub AreKeys : {S : Type 0} → HashSet (ℕ × ℕ) S → List Span → Type 0
AreKeys {S} keys ps = (p : Span) → contains_by (λ k. p.start == k.0 && p.end == k.1) keys ≡ is_placed p ps
