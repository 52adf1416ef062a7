-- The offset of the position of a place.
use Rattle.std.proofs.Common.{◌≡◌, ℕ, zero, suc, ◌+◌, ◌-◌, ◌<◌, ◌≤◌, ◌∙◌, List, [], ◌∷◌, length, drop, get_or, refl, ap, arith, tests, true, false, Bool}
use Rattle.std.specs.Prelude.{◌==◌, if◌then◌else◌}
use Rattle.sc_documents.specs.Positions as spec

-- the offset of a character of the line that begins at `before`
abbrev pub offset_after : ℕ → ℕ → List ℕ → ℕ
offset_after before character text = before + spec.bytes_within character (drop before text)

drop-more : (before byte : ℕ) (rest : List ℕ) → drop (1 + before) (byte ∷ rest) ≡ drop before rest
drop-more before byte rest =
    let e : 1 + before ≡ suc before = omega arith in
    rw e refl

offset-more : (before character byte : ℕ) (rest : List ℕ) → offset_after (1 + before) character (byte ∷ rest) ≡ 1 + offset_after before character rest
offset-more before character byte rest = rw (drop-more before byte rest) (omega arith)

line-ended : (line byte : ℕ) (rest : List ℕ) → spec.ends_line (byte ∷ rest) ≡ true → spec.bytes_before (1 + line) (byte ∷ rest) ≡ 1 + spec.bytes_before line rest
line-ended line byte rest e =
    let more : 1 + line ≡ suc line = omega arith in
    rw more (rw e refl)

line-on : (line byte : ℕ) (rest : List ℕ) → spec.ends_line (byte ∷ rest) ≡ false → spec.bytes_before (suc line) (byte ∷ rest) ≡ 1 + spec.bytes_before (suc line) rest
line-on line byte rest e = rw e refl

-- a character that begins with a byte of its own has units
some-units : (byte : ℕ) → (128 ≤ byte → 192 ≤ byte) → 0 < spec.units_of byte
some-units byte lead = grind (arith, tests, lead)

no-room : (text : List ℕ) → (0 < length text → 128 ≤ get_or text 0 0 → 192 ≤ get_or text 0 0) → spec.bytes_within 0 text ≡ 0
no-room [] lead = refl
no-room (byte ∷ rest) lead = grind (arith, tests, some-units byte (lead (omega arith)))

within-more : (byte character : ℕ) (rest : List ℕ) → spec.is_break byte ≡ false
    → spec.bytes_within (spec.units_of byte + character) (byte ∷ rest) ≡ 1 + spec.bytes_within character rest
within-more byte character rest e =
    let room : spec.units_of byte + character - spec.units_of byte ≡ character = omega arith in
    grind (arith, tests, e, ap (λ (c : ℕ). spec.bytes_within c rest) room)

-- A byte that ends no line is part of no line end, if the place isn't before the line feed.
no-break : (byte n : ℕ) (rest : List ℕ) → spec.ends_line (byte ∷ rest) ≡ false → spec.line_at n rest ≡ 0
    → spec.IsPlace (byte ∷ rest) (suc n) → spec.is_break byte ≡ false
no-break byte n [] e l place = grind (arith, tests, e)
no-break byte zero (next ∷ rest) e l place = grind (arith, tests, e, place.1)
no-break byte (suc n) (next ∷ rest) e l place = grind (arith, tests, e, l)

rest-place : (byte n : ℕ) (rest : List ℕ) → spec.IsPlace (byte ∷ rest) (suc n) → spec.IsPlace rest n
rest-place byte zero rest place = ((omega (arith, place.0.0), λ some lead. place.0.1 (omega (arith, some)) lead), tt)
rest-place byte (suc n) rest place =
    ((omega (arith, place.0.0), λ less lead. place.0.1 (omega (arith, less)) lead), place.1)

more : (byte n : ℕ) (rest : List ℕ) (e : Bool) (line : ℕ) → spec.ends_line (byte ∷ rest) ≡ e → spec.line_at n rest ≡ line
    → spec.IsPlace (byte ∷ rest) (suc n) → offset_after (spec.bytes_before line rest) (spec.character_at n rest) rest ≡ n
    → offset_after (spec.bytes_before ((if e then 1 else 0) + line) (byte ∷ rest))
    ((if (if e then 1 else 0) + line == 0 then spec.units_of byte else 0) + spec.character_at n rest) (byte ∷ rest) ≡ suc n
more byte n rest true line e l place before =
    let some : (1 + line == 0) ≡ false = grind (arith, tests) in
    let same : 0 + spec.character_at n rest ≡ spec.character_at n rest = omega arith in
    rw (line-ended line byte rest e) (rw some (rw same (offset-more _ _ byte rest ∙ omega (arith, before))))
more byte n rest false (suc line) e l place before =
    let none : 0 + suc line ≡ suc line = omega arith in
    let some : (suc line == 0) ≡ false = grind (arith, tests) in
    let same : 0 + spec.character_at n rest ≡ spec.character_at n rest = omega arith in
    rw none (rw (line-on line byte rest e) (rw some (rw same (offset-more _ _ byte rest ∙ omega (arith, before)))))
more byte n rest false zero e l place before =
    grind (arith, within-more byte (spec.character_at n rest) rest (no-break byte n rest e l place), before)

pub comes-back : (text : List ℕ) (offset : ℕ) → spec.IsPlace text offset → spec.offset_of text (spec.position_of text offset) ≡ offset
comes-back text zero place = grind (arith, no-room text place.0.1)
comes-back [] (suc n) place = omega (arith, place.0.0)
comes-back (byte ∷ rest) (suc n) place =
    more byte n rest (spec.ends_line (byte ∷ rest)) (spec.line_at n rest) refl refl place (comes-back rest n (rest-place byte n rest place))
