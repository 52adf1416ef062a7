-- The result of a search for a fault: one if there is any, or that there is none.
use Rattle.std.specs.Prelude.{◌≡◌, ◌≤◌, ℕ, Option, Some, None, nat_lt, if◌then◌else◌}
use Rattle.sc_text.specs.declared.token.Span.{Span}
use Rattle.sc_class.specs.declared.faults.left_out.Exclusion.{Exclusion}

-- It is one of these, or there is none of them.
abbrev pub Finds : {X : Type 0} → (X → Type 0) → Option X → Type 0
Finds {X} P None = (x : X) → P x → ⊥
Finds P (Some x) = P x

-- It is the only one of these, or there is none of them.
abbrev pub FindsOnly : {X : Type 0} → (X → Type 0) → Option X → Type 0
FindsOnly {X} P None = (x : X) → P x → ⊥
FindsOnly {X} P (Some x) = P x × ((y : X) → P y → y ≡ x)

-- It is one of these, and none of them comes before it; or there is none of them.
abbrev pub FindsFirst : {X : Type 0} → (X → ℕ) → (X → Type 0) → Option X → Type 0
FindsFirst {X} start P None = (x : X) → P x → ⊥
FindsFirst {X} start P (Some x) = P x × ((y : X) → P y → start x ≤ start y)

abbrev pub FindsFirstPlace : (Span → Type 0) → Option Span → Type 0
FindsFirstPlace = FindsFirst (λ p. p.start)

abbrev pub FindsFirstExclusion : (Exclusion → Type 0) → Option Exclusion → Type 0
FindsFirstExclusion = FindsFirst (λ x. x.span.start)

-- of two that were found, the first in the text
abbrev pub first_placed : {X : Type 0} → (X → ℕ) → Option X → Option X → Option X
first_placed start None b = b
first_placed start (Some p) None = Some p
first_placed start (Some p) (Some q) = if nat_lt (start q) (start p) then Some q else Some p

abbrev pub first_place : Option Span → Option Span → Option Span
first_place = first_placed (λ p. p.start)
