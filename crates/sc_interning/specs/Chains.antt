-- Lists of numbers by hash.
use Rattle.std.specs.Prelude.{◌≡◌, ◌≤◌, ◌<◌, ◌+◌, ◌%◌, ℕ, List, map, length, get_or}
use Rattle.sc_interning.specs.declared.index.Link.{Link}

abbrev pub hashes_in : List Link → List ℕ
hashes_in links = map (λ (l : Link). l.hash) links

abbrev pub nowhere : Link
nowhere = record { hash = 0; next = 0 }

-- which of this number of lists the number lies in
abbrev pub list_at : List Link → ℕ → ℕ → ℕ
list_at links count number = (get_or links number nowhere).hash % count

-- Before the bound, the last number in the list is one less than `at`. If `at` is 0, there is none.
pub record IsBefore (links : List Link) (count which bound at : ℕ) : Type 0 where
  pub few : at ≤ bound
  pub lies : (number : ℕ) → at ≡ number + 1 → list_at links count number ≡ which
  pub none : (number : ℕ) → at ≤ number → number < bound → list_at links count number ≡ which → ⊥

-- Each of this number of lists begins with the last of its numbers, and after each number comes the last one before it.
pub record AreChained (count : ℕ) (links : List Link) (firsts : List ℕ) : Type 0 where
  pub heads : (which : ℕ) → which < count → IsBefore links count which (length links) (get_or firsts which 0)
  pub nexts : (number : ℕ) → number < length links →
      IsBefore links count (list_at links count number) number (get_or links number nowhere).next
