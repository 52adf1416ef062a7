-- Parents and ancestors (ECMA-367, 8.6.3 to 8.6.5). The parent ANY adds nothing.
use Rattle.std.specs.Prelude.{◌≡◌, ◌<◌, ℕ, zero, suc, false, List, [], ◌∷◌, Option, Some, None, Contains, length, slice_get}
use Rattle.std.specs.Option.{option_map_or, option_and_then}
use Rattle.sc_text.specs.declared.token.Span.{Span}
use Rattle.sc_tree.specs.Plain.{System, Class, Parent, Name}
use Rattle.sc_class.specs.ClassNames.{is_any, class_names, number_in, number_of}

-- No class can be the parent of this name: it isn't ANY, and none is declared with it.
pub data UnknownParentAt (s : System) (p : Parent) : Span → Type 0 where
  unknown_parent : is_any p.name.text ≡ false → number_of s p.name.text ≡ None → UnknownParentAt s p p.name.span

-- the first of the parents
abbrev pub first_parent : List Parent → Option Parent
first_parent [] = None
first_parent (p ∷ ps) = Some p

-- the number of a class's parent, if it has one
abbrev pub parent_in : List Name → Class → Option ℕ
parent_in names c = option_and_then (λ (p : Parent). number_in names p.name.text) (first_parent c.parents)

abbrev pub parent_of : System → Class → Option ℕ
parent_of s = parent_in (class_names s.classes)

-- the number of the parent of the class at a number
abbrev pub parent_number : System → ℕ → Option ℕ
parent_number s k = option_and_then (parent_of s) (slice_get s.classes k)

-- the class, its parent, the parent's parent and so on, at most `n` of them
abbrev pub ancestors_within : ℕ → System → ℕ → List ℕ
ancestors_within zero s k = []
ancestors_within (suc n) s k = k ∷ option_map_or (ancestors_within n s) (parent_number s k) []

-- the class and those above it, if there is one, at most `n` of them
abbrev pub ancestors_from : ℕ → System → Option ℕ → List ℕ
ancestors_from n s o = option_map_or (ancestors_within n s) o []

-- the ancestors of a class, by number: the class itself, then its parent's
abbrev pub ancestors : System → ℕ → List ℕ
ancestors s k = ancestors_within (length s.classes) s k

-- The second class is one of the parents that the first one names.
pub data IsParent (s : System) : ℕ → ℕ → Type 0 where
  names_parent : {k j : ℕ} {c : Class} {p : Parent} → slice_get s.classes k ≡ Some c → Contains c.parents p →
      number_of s p.name.text ≡ Some j → IsParent s k j

-- The ways up from the class at the second number, through any of its parents, lead to the first one: it is that class
-- itself, or one of its parents leads there.
pub data LeadsTo (s : System) (k : ℕ) : ℕ → Type 0 where
  itself : LeadsTo s k k
  over : {j i : ℕ} → IsParent s j i → LeadsTo s k i → LeadsTo s k j

-- the parent of this name leads to the class at the number
abbrev pub NameLeadsTo : System → ℕ → Parent → Type 0
NameLeadsTo s k p = (j : ℕ) × (number_of s p.name.text ≡ Some j) × LeadsTo s k j

-- The class at the number inherits from itself: one of its parents leads back to it.
pub data IsCyclic (s : System) (k : ℕ) : Type 0 where
  cyclic : {j : ℕ} → IsParent s k j → LeadsTo s k j → IsCyclic s k

-- This is the parent's name of the first class in the text that inherits from itself, and the first of its parents
-- that leads back to it.
pub record CycleAt (s : System) (p : Span) : Type 0 where
  pub number : ℕ
  pub class : Class
  pub is_class : slice_get s.classes number ≡ Some class
  pub first_class : (k : ℕ) → k < number → IsCyclic s k → ⊥
  pub parent_index : ℕ
  pub parent : Parent
  pub is_parent : slice_get class.parents parent_index ≡ Some parent
  pub first_of_them : (i : ℕ) (q : Parent) → i < parent_index → slice_get class.parents i ≡ Some q →
      NameLeadsTo s number q → ⊥
  pub leads_back : NameLeadsTo s number parent
  pub place : p ≡ parent.name.span
