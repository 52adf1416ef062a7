-- The lines of a record's text: what the text begins with says which lines they are.
use Rattle.std.proofs.Common.{◌≡◌, ℕ, ◌+◌, ◌^◌, ◌<◌, ◌≤◌, List, [], ◌∷◌, ◌++◌, All, length, refl, sym, ap, ◌∙◌, arith, append_assoc, append-nil, decimal, codes}
use Rattle.std.specs.List.{flat_map}
use Rattle.std.proofs.lemmas.Fmt.{decimal_digit, decimal_injective, decimal_is_IsNumeral}
use Rattle.std.proofs.lemmas.List.Elements.{All-head, All-tail}
use Rattle.std.proofs.lemmas.List.Sums.{sum_by-cons}
use Rattle.sc_lockpass.specs.declared.version.Version.{Version}
use Rattle.sc_lockpass.specs.declared.version.Version.TheVariants.{One, Two}
use Rattle.sc_lockpass.specs.Versions.{most_handlers}
use Rattle.sc_audit.specs.declared.line.RecordLine.{RecordLine}
use Rattle.sc_audit.specs.Records.{IsRecord, first_line, last_line, line_text, most_turns, text_of, turns_of}
use Rattle.sc_audit.specs.Laws.{OneRecord}
use Rattle.sc_audit.specs.Internal.Parts.{IsDigit, head_of, rest_of}
use Rattle.sc_audit.proofs.Decimals.{AreDigits, decimal-digits, same-digits}

-- ---- numbers that are short enough

abbrev pub IsSmall : RecordLine → Type 0
IsSmall line = (line.handler < 2 ^ 32) × (line.turns < 2 ^ 32)

abbrev pub AreSmall : List RecordLine → Type 0
AreSmall [] = Unit {0}
AreSmall (line ∷ lines) = IsSmall line × AreSmall lines

small-lines : (most : ℕ) (lines : List RecordLine) → most ≤ 512 → All (λ (line : RecordLine). line.handler < most) lines →
    turns_of lines ≤ most_turns → AreSmall lines
small-lines most [] few handlers short = tt
small-lines most (line ∷ lines) few handlers short =
    let first : line.handler < most = All-head (λ (line : RecordLine). line.handler < most) line lines handlers in
    let total = sum_by-cons (λ (line : RecordLine). line.turns) line lines in (
      (omega arith, omega (arith, total, short)),
      small-lines most lines few
          (All-tail (λ (line : RecordLine). line.handler < most) line lines handlers) (omega (arith, total, short)),
    )

pub record-small : (version : Version) (lines : List RecordLine) → IsRecord version lines → AreSmall lines
record-small One lines is = small-lines 64 lines (omega arith) is.handlers is.short
record-small Two lines is = small-lines 512 lines (omega arith) is.handlers is.short

-- ---- what is no digit

pub no-feed : ¬ IsDigit 10
no-feed digit = omega arith

pub no-space : ¬ IsDigit 32
no-space digit = omega arith

pub no-letter : ¬ IsDigit 101
no-letter digit = omega arith

-- ---- first bytes

first-of : (ds xs ys : List ℕ) (x : ℕ) → AreDigits ds → 0 < length ds → ds ++ xs ≡ x ∷ ys →
    IsDigit x × ((more : List ℕ) × (ds ≡ x ∷ more) × (ys ≡ more ++ xs))
first-of [] xs ys x these some e = absurd (omega arith)
first-of (d ∷ ds) xs ys x these some e =
    let same : d ≡ x = cc in
    (rw same at these.0, (ds, cc, cc))

-- what begins with a number begins with a digit
pub first-digit : (n x : ℕ) (xs ys : List ℕ) → n < 2 ^ 64 → decimal n ++ xs ≡ x ∷ ys →
    IsDigit x × ((more : List ℕ) × (decimal n ≡ x ∷ more) × (ys ≡ more ++ xs))
first-digit n x xs ys small e = first-of (decimal n) xs ys x (decimal-digits n small) (decimal_is_IsNumeral n small).0.0 e

-- ---- a line, and what follows it

pub line-parts : (line : RecordLine) (xs : List ℕ) →
    line_text line ++ xs ≡ decimal line.handler ++ (32 ∷ (decimal line.turns ++ (10 ∷ xs)))
line-parts line xs = simp append_assoc

pub last-parts : (n : ℕ) (xs : List ℕ) → last_line n ++ xs ≡ codes "end " ++ (decimal n ++ (10 ∷ xs))
last-parts n xs = simp append_assoc

pub line-split : (line other : RecordLine) (xs ys : List ℕ) → IsSmall line → IsSmall other →
    line_text line ++ xs ≡ line_text other ++ ys → (line ≡ other) × (xs ≡ ys)
line-split line other xs ys these those e =
    let parts : decimal line.handler ++ (32 ∷ (decimal line.turns ++ (10 ∷ xs))) ≡ decimal other.handler ++ (32 ∷ (decimal other.turns ++ (10 ∷ ys))) =
    sym (line-parts line xs) ∙ e ∙ line-parts other ys in
    let first = same-digits (decimal line.handler) (decimal other.handler) (decimal line.turns ++ (10 ∷ xs)) (decimal other.turns ++ (10 ∷ ys)) 32 32
    (decimal-digits line.handler (omega arith)) (decimal-digits other.handler (omega arith)) no-space no-space parts in
    let second = same-digits (decimal line.turns) (decimal other.turns) xs ys 10 10
    (decimal-digits line.turns (omega arith)) (decimal-digits other.turns (omega arith)) no-feed no-feed first.2 in
    let handler : line.handler ≡ other.handler = decimal_injective line.handler other.handler (omega arith) (omega arith) first.0 in
    let turns : line.turns ≡ other.turns = decimal_injective line.turns other.turns (omega arith) (omega arith) second.0 in
    (λ i. record { handler = handler i; turns = turns i }, second.2)

-- what begins with a line doesn't begin as the last line does
pub line-or-last : (line : RecordLine) (xs ys : List ℕ) → IsSmall line → line_text line ++ xs ≡ 101 ∷ ys → ⊥
line-or-last line xs ys small e =
    no-letter (first-digit line.handler 101 _ ys (omega arith) (sym (line-parts line xs) ∙ e)).0

-- ---- lines, and what follows them

pub rest-next : (line : RecordLine) (lines : List RecordLine) (count : ℕ) →
    rest_of (line ∷ lines) count ≡ line_text line ++ rest_of lines count
rest-next line lines count = append_assoc (line_text line) (flat_map line_text lines) (last_line count)

-- Where lines are followed by something, and others by their last line, the others begin with the lines.
pub lines-split : (lines others : List RecordLine) (count : ℕ) (xs : List ℕ) → AreSmall lines → AreSmall others →
    flat_map line_text lines ++ xs ≡ rest_of others count →
    (more : List RecordLine) × (others ≡ lines ++ more) × (xs ≡ rest_of more count)
lines-split [] others count xs these those e = (others, refl, e)
lines-split (line ∷ lines) [] count xs these those e =
    absurd (line-or-last line _ _ these.0 (sym (append_assoc (line_text line) (flat_map line_text lines) xs) ∙ e))
lines-split (line ∷ lines) (other ∷ others) count xs these those e =
    let split = line-split line other (flat_map line_text lines ++ xs) (rest_of others count) these.0 those.0
    (sym (append_assoc (line_text line) (flat_map line_text lines) xs) ∙ e ∙ rest-next other others count) in
    let more = lines-split lines others count xs these.1 those.1 split.1 in
    (more.0, ap (λ l. l ∷ others) (sym split.0) ∙ ap (λ ls. line ∷ ls) more.1, more.2)

apart : (a b : ℕ) → ¬ (a ≡ b) → a ≡ b → ⊥
apart a b differ same = differ same

-- the first line, and what follows it
pub first-split : (version other : Version) (xs ys : List ℕ) → first_line version ++ xs ≡ first_line other ++ ys →
    (version ≡ other) × (xs ≡ ys)
first-split One One xs ys e =
    let one = decimal_digit 1 (omega arith) in
    let plain = rw one at e in
    (refl, cc)
first-split Two Two xs ys e =
    let two = decimal_digit 2 (omega arith) in
    let plain = rw two at e in
    (refl, cc)
first-split One Two xs ys e =
    let one = decimal_digit 1 (omega arith) in
    let two = decimal_digit 2 (omega arith) in
    let plain = rw (one, two) at e in
    absurd (apart 49 50 (omega arith) cc)
first-split Two One xs ys e =
    let one = decimal_digit 1 (omega arith) in
    let two = decimal_digit 2 (omega arith) in
    let plain = rw (one, two) at e in
    absurd (apart 50 49 (omega arith) cc)

-- what begins with whole lines
pub head-split : (version other : Version) (lines others : List RecordLine) (xs : List ℕ) → AreSmall lines → AreSmall others →
    head_of version lines ++ xs ≡ text_of other others →
    (version ≡ other) × ((more : List RecordLine) × (others ≡ lines ++ more) × (xs ≡ rest_of more (length others)))
head-split version other lines others xs these those e =
    let parts = first-split version other (flat_map line_text lines ++ xs) (rest_of others (length others))
    (sym (append_assoc (first_line version) (flat_map line_text lines) xs) ∙ e) in
    (parts.0, lines-split lines others (length others) xs these those parts.1)

-- the text that follows the lines of a record is its last line
pub text-head : (version : Version) (lines : List RecordLine) → text_of version lines ≡ head_of version lines ++ last_line (length lines)
text-head version lines = sym (append_assoc (first_line version) (flat_map line_text lines) (last_line (length lines)))

-- what is the last line isn't that of lines
last-alone : (more : List RecordLine) (n count : ℕ) → AreSmall more → last_line n ≡ rest_of more count → more ≡ []
last-alone [] n count small e = refl
last-alone (line ∷ more) n count small e = absurd (line-or-last line _ _ small.0 (sym (rest-next line more count) ∙ sym e))

pub small-more : (lines more : List RecordLine) → AreSmall (lines ++ more) → AreSmall more
small-more [] more small = small
small-more (line ∷ lines) more small = small-more lines more small.1

pub one-record : OneRecord
one-record version other lines others is that e =
    let parts = head-split version other lines others (last_line (length lines)) (record-small version lines is) (record-small other others that)
    (sym (text-head version lines) ∙ e) in
    let more = parts.1 in
    let small : AreSmall (lines ++ more.0) = rw more.1 at (record-small other others that) in
    let none = last-alone more.0 (length lines) (length others) (small-more lines more.0 small) more.2 in
    (parts.0, sym (more.1 ∙ ap (λ ls. lines ++ ls) none ∙ append-nil lines))
