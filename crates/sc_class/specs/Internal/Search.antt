-- How it is found out whether a class inherits from itself.
use Rattle.std.specs.Prelude.{◌≡◌, ◌<◌, ◌≤◌, ◌+◌, ◌*◌, ◌⊎◌, ℕ, Bool, true, List, Option, Some, None, Any, length, slice_get, unwrap_or, if◌then◌else◌}
use Rattle.std.specs.List.{sum_by}
use Rattle.sc_text.specs.declared.token.Span.{Span}
use Rattle.sc_tree.specs.Plain.{System, Class, Parent}
use Rattle.sc_class.specs.ClassNames.{number_of}
use Rattle.sc_class.specs.Tables.Ancestors.{IsParent, LeadsTo, NameLeadsTo}

abbrev pub rank_of : List ℕ → ℕ → ℕ
rank_of ranks k = unwrap_or (slice_get ranks k) 0

-- the parent of this name is the class at the number
abbrev pub IsNumberOf : System → Parent → ℕ → Type 0
IsNumberOf s q j = number_of s q.name.text ≡ Some j

-- the class at the number isn't below this parent
abbrev pub IsNotBelow : System → List ℕ → ℕ → Parent → Type 0
IsNotBelow s ranks k q = (j : ℕ) → IsNumberOf s q j → rank_of ranks j ≤ rank_of ranks k

-- the class at the number is below none of these parents
abbrev pub IsBelowNone : System → List ℕ → ℕ → List Parent → Type 0
IsBelowNone s ranks k parents = (i : ℕ) (q : Parent) → slice_get parents i ≡ Some q → IsNotBelow s ranks k q

-- no class is below one of its parents
abbrev pub AreInOrder : System → List ℕ → Type 0
AreInOrder s ranks = (k : ℕ) (c : Class) → slice_get s.classes k ≡ Some c → IsBelowNone s ranks k c.parents

-- The place is that of the first of the parents that leads to the class at the number, or none of them does.
abbrev pub FindsWayBack : System → ℕ → List Parent → Option Span → Type 0
FindsWayBack s k parents None = (i : ℕ) (q : Parent) → slice_get parents i ≡ Some q → NameLeadsTo s k q → ⊥
FindsWayBack s k parents (Some p) =
    (i : ℕ) × (q : Parent) × (slice_get parents i ≡ Some q)
    × ((j : ℕ) (r : Parent) → j < i → slice_get parents j ≡ Some r → NameLeadsTo s k r → ⊥) × NameLeadsTo s k q
    × (p ≡ q.name.span)

-- a search has reached the class
abbrev pub IsSeen : List Bool → ℕ → Type 0
IsSeen seen k = slice_get seen k ≡ Some true

-- the search hasn't looked at the class's parents yet
abbrev pub IsTodo : List ℕ → ℕ → Type 0
IsTodo todo k = Any (λ j. j ≡ k) todo

-- what there is still to do
abbrev pub left_over : List Bool → List ℕ → ℕ
left_over seen todo = 2 * sum_by (λ b. if b then 0 else 1) seen + length todo

-- A search has reached some of these classes, and has yet to look at each of them.
pub record Grows (Are : ℕ → Type 0) (seen : List Bool) (todo : List ℕ) (seen' : List Bool) (todo' : List ℕ)
    : Type 0 where
  pub same_length : length seen' ≡ length seen
  pub keeps : (k : ℕ) → IsSeen seen k → IsSeen seen' k
  pub seen_before : (k : ℕ) → IsSeen seen' k → IsSeen seen k ⊎ (Are k × IsTodo todo' k)
  pub todo_keeps : (k : ℕ) → IsTodo todo k → IsTodo todo' k
  pub todo_before : (k : ℕ) → IsTodo todo' k → IsTodo todo k ⊎ IsSeen seen' k
  pub no_more : left_over seen' todo' ≤ left_over seen todo

-- The search has reached the start, and nothing but what the start leads to. It has looked at the parents of those
-- that are no longer to be looked at.
pub record IsSearch (s : System) (target start : ℕ) (seen : List Bool) (todo : List ℕ) : Type 0 where
  pub started : IsSeen seen start
  pub come_to : (k : ℕ) → IsSeen seen k → LeadsTo s k start
  pub todo_seen : (k : ℕ) → IsTodo todo k → IsSeen seen k
  pub looked_at : (k : ℕ) →
      IsSeen seen k → IsTodo todo k ⊎ ((k ≡ target → ⊥) × ((j : ℕ) → IsParent s k j → IsSeen seen j))
