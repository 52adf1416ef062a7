-- What is counted over a text, byte by byte.
use Rattle.std.proofs.Common.{◌≡◌, ℕ, zero, suc, ◌+◌, ◌-◌, ◌<◌, List, [], ◌∷◌, length, drop, get_or, refl, sym, arith, tests, true, false, Bool}
use Rattle.std.specs.Prelude.{◌==◌, if◌then◌else◌}
use native.Mathlib.Numerals.{unary_clauses}
use Rattle.sc_documents.specs.Positions as spec
use Rattle.sc_documents.specs.declared.position.Position.{Position}

-- nothing is counted in nothing
pub line-empty : (left : ℕ) (rest : List ℕ) → length rest < 1 → spec.line_at left rest ≡ 0
line-empty zero rest short = refl
line-empty (suc left) [] short = refl
line-empty (suc left) (byte ∷ rest) short = omega (arith, short)

pub character-empty : (left : ℕ) (rest : List ℕ) → length rest < 1 → spec.character_at left rest ≡ 0
character-empty zero rest short = refl
character-empty (suc left) [] short = refl
character-empty (suc left) (byte ∷ rest) short = omega (arith, short)

-- the lines that end in what is left, after one byte
pub line-next : (left : ℕ) (rest after : List ℕ) → 0 < length rest → 0 < left → after ≡ drop 1 rest
    → spec.line_at left rest ≡ (if spec.ends_line rest then 1 else 0) + spec.line_at (left - 1) after
line-next zero rest after some more e = omega (arith, more)
line-next (suc left) [] after some more e = omega (arith, some)
line-next (suc left) (byte ∷ rest) after some more e = rw e (simp unary_clauses refl)

-- the units of what is left, after one byte
pub character-next : (left : ℕ) (rest after : List ℕ) → 0 < length rest → 0 < left → after ≡ drop 1 rest
    → spec.character_at left rest ≡ (if spec.line_at left rest == 0 then spec.units_of (get_or rest 0 0) else 0) + spec.character_at (left - 1) after
character-next zero rest after some more e = omega (arith, more)
character-next (suc left) [] after some more e = omega (arith, some)
character-next (suc left) (byte ∷ rest) after some more e = rw e (simp unary_clauses refl)

-- what is counted so far, of `n` lines and `m` units of the last one in all
pub record IsCounted (n m line character left : ℕ) (rest : List ℕ) : Type 0 where
  pub lines : line + spec.line_at left rest ≡ n
  pub units : (if spec.line_at left rest == 0 then character else 0) + spec.character_at left rest ≡ m

-- the units, after a byte that ends a line, and after another one
ended-units : (e : Bool) (l k character units m : ℕ) → e ≡ true
    → (if (if e then 1 else 0) + l == 0 then character else 0) + ((if (if e then 1 else 0) + l == 0 then units else 0) + k) ≡ m
    → (if l == 0 then 0 else 0) + k ≡ m
ended-units e l k character units m t h = grind (arith, tests)

further-units : (e : Bool) (l k character units m : ℕ) → e ≡ false
    → (if (if e then 1 else 0) + l == 0 then character else 0) + ((if (if e then 1 else 0) + l == 0 then units else 0) + k) ≡ m
    → (if l == 0 then character + units else 0) + k ≡ m
further-units e l k character units m t h = grind (arith, tests)

-- What is counted after a byte that ends a line.
pub ended : (n m line character left units : ℕ) (rest after : List ℕ) (next_line next_character : ℕ) → 0 < length rest → 0 < left
    → after ≡ drop 1 rest → spec.ends_line rest ≡ true → next_line ≡ line + 1 → next_character ≡ 0
    → IsCounted n m line character left rest → IsCounted n m next_line next_character (left - 1) after
ended n m line character left units rest after next_line next_character some more is_after ends is_line is_character counted =
    let ln = line-next left rest after some more is_after in
    let cn = character-next left rest after some more is_after in
    record {
      lines = grind (arith, tests, ln, ends, is_line, counted.lines);
      units = rw is_character (ended-units (spec.ends_line rest) (spec.line_at (left - 1) after) (spec.character_at (left - 1) after) character (spec.units_of (get_or rest 0 0)) m ends (rw (sym ln) (rw (sym cn) counted.units)));
    }

-- What is counted after another byte.
pub further : (n m line character left : ℕ) (rest after : List ℕ) (next_line next_character : ℕ) → 0 < length rest → 0 < left
    → after ≡ drop 1 rest → spec.ends_line rest ≡ false → next_line ≡ line → next_character ≡ character + spec.units_of (get_or rest 0 0)
    → IsCounted n m line character left rest → IsCounted n m next_line next_character (left - 1) after
further n m line character left rest after next_line next_character some more is_after ends is_line is_character counted =
    let ln = line-next left rest after some more is_after in
    let cn = character-next left rest after some more is_after in
    record {
      lines = grind (arith, tests, ln, ends, is_line, counted.lines);
      units = rw is_character (further-units (spec.ends_line rest) (spec.line_at (left - 1) after) (spec.character_at (left - 1) after) character (spec.units_of (get_or rest 0 0)) m ends (rw (sym ln) (rw (sym cn) counted.units)));
    }

-- All is counted.
pub all-counted : (n m line character left : ℕ) (rest : List ℕ) → length rest < 1 → IsCounted n m line character left rest → (line ≡ n) × (character ≡ m)
all-counted n m line character left rest short counted =
    let l = line-empty left rest short in
    let k = character-empty left rest short in
    (grind (arith, l, counted.lines), grind (arith, tests, l, k, counted.units))

pub same-position : (p q : Position) → p.line ≡ q.line → p.character ≡ q.character → p ≡ q
same-position p q e f = grind (arith, e, f)
