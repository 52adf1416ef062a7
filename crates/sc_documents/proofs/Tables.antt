-- Positions that are found from a position before them.
use Rattle.std.proofs.Common.{◌≡◌, ℕ, zero, suc, ◌+◌, ◌-◌, ◌*◌, ◌<◌, ◌≤◌, ◌⊎◌, inl, inr, ◌++◌, List, [], ◌∷◌, Option, Some, None, length, take, drop, refl, sym, ap, ◌∙◌, arith, tests, true, false, Bool}
use Rattle.std.proofs.lemmas.Grind.{common_steps}
use Rattle.std.proofs.lemmas.Option.{slice_get_read}
use Rattle.std.specs.Borrow.{Bor}
use Rattle.std.specs.Prelude.{◌==◌, if◌then◌else◌, slice_get}
use Rattle.std.specs.Slice.{IsGetResult}
use Rattle.sc_documents.specs.Documents.{IsTable}
use Rattle.sc_documents.specs.Positions as spec
use Rattle.sc_documents.specs.declared.position.Position.{Position}
use Rattle.sc_documents.proofs.Steps.{character-empty, line-empty, same-position}

-- ---- The lines and units of the first bytes are those of some of them, and of the rest after these.

line-split : (first next : ℕ) (text : List ℕ) → spec.line_at (first + next) text ≡ spec.line_at first text + spec.line_at next (drop first text)
line-split zero next text = grind (arith, tests)
line-split (suc first) next [] =
    let e : suc first + next ≡ suc (first + next) = omega arith in
    rw e (grind (arith, line-empty next [] (omega arith)))
line-split (suc first) next (byte ∷ rest) =
    let e : suc first + next ≡ suc (first + next) = omega arith in
    rw e (grind (arith, line-split first next rest))

no-units : (b : Bool) (c : ℕ) → c ≡ (if b then 0 else 0) + c
no-units true c = omega arith
no-units false c = omega arith

-- `a` lines end in some bytes and `b` in those after them; `e` lines and `u` units are before
joined-units : (e a b u c d : ℕ) → (if e + (a + b) == 0 then u else 0) + ((if b == 0 then c else 0) + d)
    ≡ (if b == 0 then (if e + a == 0 then u else 0) + c else 0) + d
joined-units e a zero u c d =
    let same : a + 0 ≡ a = omega arith in
    rw same (omega arith)
joined-units e a (suc b) u c d =
    let some : (e + (a + suc b) == 0) ≡ false = grind (arith, tests) in
    let more : (suc b == 0) ≡ false = grind (arith, tests) in
    rw some (rw more (omega arith))

character-split : (first next : ℕ) (text : List ℕ) → spec.character_at (first + next) text
    ≡ (if spec.line_at next (drop first text) == 0 then spec.character_at first text else 0) + spec.character_at next (drop first text)
character-split zero next text =
    let e : 0 + next ≡ next = omega arith in
    rw e (no-units (spec.line_at next text == 0) (spec.character_at next text))
character-split (suc first) next [] =
    let e : suc first + next ≡ suc (first + next) = omega arith in
    rw e (rw (character-empty next [] (omega arith)) (no-units (spec.line_at next [] == 0) 0))
character-split (suc first) next (byte ∷ rest) =
    let e : suc first + next ≡ suc (first + next) = omega arith in
    rw e (rw (line-split first next rest) (rw (character-split first next rest)
    (joined-units (if spec.ends_line (byte ∷ rest) then 1 else 0) (spec.line_at first rest) (spec.line_at next (drop first rest))
    (spec.units_of byte) (spec.character_at first rest) (spec.character_at next (drop first rest)))))

-- ---- bounds

at-most : (b : Bool) (n : ℕ) → (if b then n else 0) ≤ n
at-most true n = omega arith
at-most false n = omega arith

few-lines : (offset : ℕ) (text : List ℕ) → spec.line_at offset text + length (drop offset text) ≤ length text
few-lines zero text = omega arith
few-lines (suc offset) [] = omega arith
few-lines (suc offset) (byte ∷ rest) = omega (arith, at-most (spec.ends_line (byte ∷ rest)) 1, few-lines offset rest)

few-units-of : (byte : ℕ) → spec.units_of byte ≤ 2
few-units-of byte = grind (arith, tests)

few-units : (offset : ℕ) (text : List ℕ) → spec.character_at offset text + 2 * length (drop offset text) ≤ 2 * length text
few-units zero text = omega arith
few-units (suc offset) [] = omega arith
few-units (suc offset) (byte ∷ rest) =
    omega (arith, at-most (spec.line_at (suc offset) (byte ∷ rest) == 0) (spec.units_of byte), few-units-of byte, few-units offset rest)

-- ---- from a mark on

tail : (text : List ℕ) (start : ℕ) → take (length text - start) (drop start text) ≡ drop start text
tail text start = grind (arith, common_steps)

-- The rest of a text after a mark is short enough.
pub lines_fit : (text bytes : List ℕ) (mark : Position) (start : ℕ) → bytes ≡ text → mark ≡ spec.position_of text start
    → length text < 9223372036854775808 → mark.line + length (take (length bytes - start) (drop start bytes)) < 9223372036854775808
lines_fit text bytes mark start same is short =
    rw same (rw (tail text start) (rw is (omega (arith, few-lines start text, short))))

pub units_fit : (text bytes : List ℕ) (mark : Position) (start : ℕ) → bytes ≡ text → mark ≡ spec.position_of text start
    → length text < 9223372036854775808 → mark.character + 2 * length (take (length bytes - start) (drop start bytes)) < 18446744073709551616
units_fit text bytes mark start same is short =
    rw same (rw (tail text start) (rw is (omega (arith, few-units start text, short))))

-- The position of a byte is found from a mark before it.
pub found : (text bytes : List ℕ) (mark : Position) (start count offset : ℕ) → bytes ≡ text → mark ≡ spec.position_of text start
    → start + count ≡ offset → spec.advanced mark (take (length bytes - start) (drop start bytes)) count ≡ spec.position_of text offset
found text bytes mark start count offset same is whole =
    rw same (rw (tail text start) (rw is (rw (sym whole)
    (same-position _ _ (sym (line-split start count text)) (sym (character-split start count text))))))

-- ---- tables

last-of : {X : Type 0} (xs : List X) (y x : X) (i : ℕ) → slice_get (xs ++ (y ∷ [])) i ≡ Some x → (slice_get xs i ≡ Some x) ⊎ ((i ≡ length xs) × (x ≡ y))
last-of [] y x zero e = inr (refl, cc)
last-of [] y x (suc i) e = inl e
last-of (z ∷ zs) y x zero e = inl e
last-of (z ∷ zs) y x (suc i) e =
    elim (last-of zs y x i e) [
      | inl before ↦ inl before
      | inr last ↦ inr (ap suc last.0, last.1)
    ]

-- A table is longer by one position.
pub longer : (text : List ℕ) (marks : List Position) (mark : Position) (start : ℕ) → IsTable text marks → 256 * length marks ≡ start
    → start ≤ length text → mark ≡ spec.position_of text start → IsTable text (marks ++ (mark ∷ []))
longer text marks mark start table ends within is index found_mark e =
    elim (last-of marks mark found_mark index e) [
      | inl before ↦ table index found_mark before
      | inr last ↦
          let at : 256 * index ≡ start = ap (λ n. 256 * n) last.0 ∙ ends in
          (omega (arith, at, within), last.1 ∙ is ∙ ap (λ n. spec.position_of text n) (sym at))
    ]

-- What a table lends at a number is the position of that many times 256 bytes.
pub lent : (text : List ℕ) (marks lender : List Position) (index start : ℕ) (got : Option (Bor Position)) (mark : Bor Position) →
    IsTable text marks → IsGetResult lender index index got → lender ≡ marks → got ≡ Some mark → start ≡ index * 256 → mark.now ≡ spec.position_of text start
lent text marks lender index start None mark table g same is at = cc
lent text marks lender index start (Some x) mark table g same is at =
    let one : x ≡ mark = cc in
    let read : slice_get marks index ≡ Some x.now = ap (λ l. slice_get l index) (sym same) ∙ slice_get_read lender (length lender) index x.now refl g.3.0 g.1 in
    let whole : 256 * index ≡ start = omega (arith, at) in
    sym (ap (λ (m : Bor Position). m.now) one) ∙ (table index x.now read).1 ∙ ap (λ n. spec.position_of text n) whole

pub none : (text : List ℕ) → IsTable text []
none text index mark e = cc
