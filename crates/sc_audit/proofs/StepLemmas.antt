-- How one byte goes on from what was read.
use Rattle.std.proofs.Common.{◌≡◌, ℕ, suc, zero, ◌+◌, ◌-◌, ◌^◌, ◌<◌, ◌≤◌, List, [], ◌∷◌, ◌++◌, ◌⊎◌, add-one, drop, drop-cons, get_or, length, take, take-append-drop, Result, Ok, Err, IsErrAnd, refl, sym, ap, ◌∙◌, inl, inr, arith, append_assoc, append-nil, subst, decimal, codes}
use Rattle.std.proofs.lemmas.Fmt.{decimal_digit}
use Rattle.std.proofs.lemmas.List.{take_all, take_more}
use Rattle.sc_lockpass.specs.declared.version.Version.{Version}
use Rattle.sc_lockpass.specs.declared.version.Version.TheVariants.{One, Two}
use Rattle.sc_lockpass.specs.Versions.{most_handlers}
use Rattle.sc_audit.specs.declared.line.RecordLine.{RecordLine}
use Rattle.sc_audit.specs.declared.beginning.Beginning.{Beginning}
use Rattle.sc_audit.specs.declared.beginning.Expected.{Expected}
use Rattle.sc_audit.specs.declared.beginning.Expected.TheVariants as expected
use Rattle.sc_audit.specs.declared.beginning.ReadFault.{ReadFault}
use Rattle.sc_audit.specs.declared.beginning.ReadFault.TheVariants as fault
use Rattle.sc_audit.specs.Faults.{IsAtFault}
use Rattle.sc_audit.specs.Records.{BeginsRecord, IsRecord, last_line, line_text, most_lines, most_turns, text_of, turns_of, version_number}
use Rattle.sc_audit.specs.Internal.Parts.{IsDigit, head_of, title, with_digit}
use Rattle.sc_audit.specs.Internal.Steps.{HasRoom, IsKept, IsMisfit, IsMisfitIn, IsOpen, TakesAll, bytes_read, line_at, line_of, read_of}
use Rattle.sc_audit.proofs.Decimals.{number-more, number-one}
use Rattle.sc_audit.proofs.FaultLemmas.{misfit-fault}
use Rattle.sc_audit.proofs.Lines.{text-head}
use Rattle.sc_audit.proofs.Next.{all-next, end-next, handler-next, last-next, lines-next, space-next, turns-next, version-next}
use Rattle.sc_audit.proofs.Whole.{head-push, record-empty, record-push, turns-push}

-- ---- what is expected

pub open-at : (b : Beginning) (e : Expected) → IsKept b → b.expected ≡ e → IsOpen b.version b.lines.items e
open-at b e kept is =
    let P : Expected → Type 0 = λ x. IsOpen b.version b.lines.items x in
    subst P is kept.open_end

pub begins-at : (b : Beginning) (e : Expected) (byte : ℕ) → b.expected ≡ e → BeginsRecord (read_of b ++ byte ∷ []) →
    BeginsRecord (bytes_read b.version b.lines.items e ++ byte ∷ [])
begins-at b e byte is begins =
    let P : Expected → Type 0 = λ x. BeginsRecord (bytes_read b.version b.lines.items x ++ byte ∷ []) in
    subst P is begins

pub goes-at : (b : Beginning) (e next : Expected) (byte : ℕ) → b.expected ≡ e →
    bytes_read b.version b.lines.items next ≡ bytes_read b.version b.lines.items e ++ byte ∷ [] →
    bytes_read b.version b.lines.items next ≡ read_of b ++ byte ∷ []
goes-at b e next byte is goes = goes ∙ ap (λ x. bytes_read b.version b.lines.items x ++ byte ∷ []) (sym is)

few-handlers : (version : Version) → most_handlers version ≤ 512
few-handlers One = omega arith
few-handlers Two = omega arith

-- ---- the first line

pub version-misfit : (b : Beginning) (byte : ℕ) → b.expected ≡ expected.VersionNumber → ¬ (byte ≡ 49) → ¬ (byte ≡ 50) →
    BeginsRecord (read_of b ++ byte ∷ []) → ⊥
version-misfit b byte is one two begins =
    elim (version-next byte (begins-at b expected.VersionNumber byte is begins)) [ inl e ↦ one e | inr e ↦ two e ]

pub end-misfit : (b : Beginning) (byte : ℕ) → b.expected ≡ expected.VersionEnd → ¬ (byte ≡ 10) → BeginsRecord (read_of b ++ byte ∷ []) → ⊥
end-misfit b byte is other begins = other (end-next b.version byte (begins-at b expected.VersionEnd byte is begins))

-- ---- lines

pub lines-misfit : (b : Beginning) (byte : ℕ) → IsKept b → b.expected ≡ expected.Line → ¬ (byte ≡ 101) →
    (IsDigit byte → HasRoom b.lines.items → ⊥) → BeginsRecord (read_of b ++ byte ∷ []) → ⊥
lines-misfit b byte kept is letter digit begins =
    elim (lines-next b.version b.lines.items byte kept.limits (begins-at b expected.Line byte is begins)) [
      | inl e ↦ letter e
      | inr e ↦ digit e.0 e.1
    ]

pub handler-misfit : (b : Beginning) (number byte : ℕ) → IsKept b → b.expected ≡ expected.Handler number → ¬ (byte ≡ 32) →
    (IsDigit byte → 0 < number → with_digit number byte < most_handlers b.version → ⊥) → BeginsRecord (read_of b ++ byte ∷ []) → ⊥
handler-misfit b number byte kept is space digit begins =
    let left = open-at b (expected.Handler number) kept is in
    let few = few-handlers b.version in
    elim (handler-next b.version b.lines.items number byte kept.limits (omega (arith, left.1, few)) (begins-at b (expected.Handler number) byte is begins)) [
      | inl e ↦ space e
      | inr e ↦ digit e.0 e.1 e.2
    ]

pub space-misfit : (b : Beginning) (handler byte : ℕ) → IsKept b → b.expected ≡ expected.Turns handler →
    (IsDigit byte → 48 < byte → turns_of b.lines.items + (byte - 48) ≤ most_turns → ⊥) → BeginsRecord (read_of b ++ byte ∷ []) → ⊥
space-misfit b handler byte kept is digit begins =
    let left = open-at b (expected.Turns handler) kept is in
    let few = few-handlers b.version in
    let next = space-next b.version b.lines.items handler byte kept.limits (omega (arith, left.1, few)) (begins-at b (expected.Turns handler) byte is begins) in
    digit next.0 next.1 next.2

pub turns-misfit : (b : Beginning) (handler number byte : ℕ) → IsKept b → b.expected ≡ expected.MoreTurns handler number → ¬ (byte ≡ 10) →
    (IsDigit byte → turns_of b.lines.items + with_digit number byte ≤ most_turns → ⊥) → BeginsRecord (read_of b ++ byte ∷ []) → ⊥
turns-misfit b handler number byte kept is ends digit begins =
    let left = open-at b (expected.MoreTurns handler number) kept is in
    let few = few-handlers b.version in
    elim (turns-next b.version b.lines.items handler number byte kept.limits (omega (arith, left.1, few)) (omega (arith, left.3))
    (begins-at b (expected.MoreTurns handler number) byte is begins)) [
      | inl e ↦ ends e
      | inr e ↦ digit e.0 e.1
    ]

pub last-misfit : (b : Beginning) (read byte : ℕ) → IsKept b → b.expected ≡ expected.LastLine read →
    ¬ (byte ≡ get_or (last_line (length b.lines.items)) read 0) → BeginsRecord (read_of b ++ byte ∷ []) → ⊥
last-misfit b read byte kept is other begins =
    let left = open-at b (expected.LastLine read) kept is in
    other (last-next b.version b.lines.items read byte kept.limits left.1 left.0 (begins-at b (expected.LastLine read) byte is begins))

pub all-misfit : (b : Beginning) (byte : ℕ) → IsKept b → b.expected ≡ expected.Nothing → BeginsRecord (read_of b ++ byte ∷ []) → ⊥
all-misfit b byte kept is begins = all-next b.version b.lines.items byte kept.limits (begins-at b expected.Nothing byte is begins)

-- ---- going on

-- the first digit of a handler's number
pub lines-goes : (b : Beginning) (number byte : ℕ) → IsKept b → b.expected ≡ expected.Line → HasRoom b.lines.items → IsDigit byte →
    number ≡ byte - 48 →
    IsOpen b.version b.lines.items (expected.Handler number) × (bytes_read b.version b.lines.items (expected.Handler number) ≡ read_of b ++ byte ∷ [])
lines-goes b number byte kept is room digit value = (
  (room, few-digit b.version number (omega arith)),
  goes-at b expected.Line (expected.Handler number) byte is (ap (λ bs. head_of b.version b.lines.items ++ bs) (ap (λ n. decimal n) value ∙ number-one byte digit)),
) where
  few-digit : (version : Version) (number : ℕ) → number < 10 → number < most_handlers version
  few-digit One number few = omega arith
  few-digit Two number few = omega arith

-- one digit more
pub handler-goes : (b : Beginning) (number more byte : ℕ) → IsKept b → b.expected ≡ expected.Handler number → IsDigit byte → 0 < number →
    more ≡ with_digit number byte → more < most_handlers b.version →
    IsOpen b.version b.lines.items (expected.Handler more) × (bytes_read b.version b.lines.items (expected.Handler more) ≡ read_of b ++ byte ∷ [])
handler-goes b number more byte kept is digit some value fits =
    let left = open-at b (expected.Handler number) kept is in
    let few = few-handlers b.version in
    let text : decimal more ≡ decimal number ++ byte ∷ [] = ap (λ n. decimal n) value ∙ number-more number byte some (omega (arith, left.1, few)) digit in (
      (left.0, fits),
      goes-at b (expected.Handler number) (expected.Handler more) byte is
          (ap (λ bs. head_of b.version b.lines.items ++ bs) text ∙ sym (append_assoc (head_of b.version b.lines.items) (decimal number) (byte ∷ []))),
    )

-- the space behind it
pub handler-ends : (b : Beginning) (number : ℕ) → IsKept b → b.expected ≡ expected.Handler number →
    IsOpen b.version b.lines.items (expected.Turns number) × (bytes_read b.version b.lines.items (expected.Turns number) ≡ read_of b ++ 32 ∷ [])
handler-ends b number kept is =
    let left = open-at b (expected.Handler number) kept is in (
      left,
      goes-at b (expected.Handler number) (expected.Turns number) 32 is (sym (append_assoc (head_of b.version b.lines.items) (decimal number) (32 ∷ []))),
    )

-- the first digit of how many turns
pub space-goes : (b : Beginning) (handler number byte : ℕ) → IsKept b → b.expected ≡ expected.Turns handler → IsDigit byte → 48 < byte →
    number ≡ byte - 48 → turns_of b.lines.items + number ≤ most_turns →
    IsOpen b.version b.lines.items (expected.MoreTurns handler number)
    × (bytes_read b.version b.lines.items (expected.MoreTurns handler number) ≡ read_of b ++ byte ∷ [])
space-goes b handler number byte kept is digit above value fits =
    let left = open-at b (expected.Turns handler) kept is in
    let text : decimal number ≡ byte ∷ [] = ap (λ n. decimal n) value ∙ number-one byte digit in
    let some : 0 < number = omega arith in (
      (left.0.0, left.1, some, fits),
      goes-at b (expected.Turns handler) (expected.MoreTurns handler number) byte is
          (ap (λ bs. head_of b.version b.lines.items ++ (decimal handler ++ (codes " " ++ bs))) text ∙ simp append_assoc),
    )

-- one digit more
pub turns-goes : (b : Beginning) (handler number more byte : ℕ) → IsKept b → b.expected ≡ expected.MoreTurns handler number → IsDigit byte →
    more ≡ with_digit number byte → turns_of b.lines.items + more ≤ most_turns →
    IsOpen b.version b.lines.items (expected.MoreTurns handler more)
    × (bytes_read b.version b.lines.items (expected.MoreTurns handler more) ≡ read_of b ++ byte ∷ [])
turns-goes b handler number more byte kept is digit value fits =
    let left = open-at b (expected.MoreTurns handler number) kept is in
    let text : decimal more ≡ decimal number ++ byte ∷ [] = ap (λ n. decimal n) value ∙ number-more number byte left.2 (omega (arith, left.3)) digit in
    let positive : 0 < number = left.2 in
    let some : 0 < more = omega arith in (
      (left.0, left.1, some, fits),
      goes-at b (expected.MoreTurns handler number) (expected.MoreTurns handler more) byte is
          (ap (λ bs. head_of b.version b.lines.items ++ (decimal handler ++ (codes " " ++ bs))) text ∙ simp append_assoc),
    )

-- one byte more of the last line
last-text : (version : Version) (lines : List RecordLine) (read byte : ℕ) → read < length (last_line (length lines)) →
    byte ≡ get_or (last_line (length lines)) read 0 →
    head_of version lines ++ take (read + 1) (last_line (length lines)) ≡ (head_of version lines ++ take read (last_line (length lines))) ++ byte ∷ []
last-text version lines read byte within own =
    ap (λ bs. head_of version lines ++ bs) (take_more (last_line (length lines)) read 0 within ∙ ap (λ x. take read (last_line (length lines)) ++ x ∷ []) (sym own))
    ∙ sym (append_assoc (head_of version lines) (take read (last_line (length lines))) (byte ∷ []))

pub last-goes : (b : Beginning) (read byte : ℕ) → IsKept b → b.expected ≡ expected.LastLine read →
    byte ≡ get_or (last_line (length b.lines.items)) read 0 → read + 1 < length (last_line (length b.lines.items)) →
    IsOpen b.version b.lines.items (expected.LastLine (read + 1))
    × (bytes_read b.version b.lines.items (expected.LastLine (read + 1)) ≡ read_of b ++ byte ∷ [])
last-goes b read byte kept is own within = (
  (omega arith, within),
  goes-at b (expected.LastLine read) (expected.LastLine (read + 1)) byte is (last-text b.version b.lines.items read byte (omega arith) own),
)

pub last-ends : (b : Beginning) (read byte : ℕ) → IsKept b → b.expected ≡ expected.LastLine read →
    byte ≡ get_or (last_line (length b.lines.items)) read 0 → length (last_line (length b.lines.items)) ≤ read + 1 →
    IsOpen b.version b.lines.items expected.Nothing × (bytes_read b.version b.lines.items expected.Nothing ≡ read_of b ++ byte ∷ [])
last-ends b read byte kept is own past =
    let left = open-at b (expected.LastLine read) kept is in
    let all : take (read + 1) (last_line (length b.lines.items)) ≡ last_line (length b.lines.items) = take_all (read + 1) (last_line (length b.lines.items)) past in (
      tt,
      goes-at b (expected.LastLine read) expected.Nothing byte is
          (text-head b.version b.lines.items ∙ ap (λ bs. head_of b.version b.lines.items ++ bs) (sym all) ∙ last-text b.version b.lines.items read byte left.1 own),
    )

-- ---- the version

pub line-one : (b : Beginning) → b.expected ≡ expected.VersionNumber → 1 ≡ line_of b
line-one b is =
    let P : Expected → Type 0 = λ x. 1 ≡ line_at (length b.lines.items) x in
    subst P (sym is) refl

-- the version is known now
pub version-goes : (b now : Beginning) (byte : ℕ) → IsKept b → b.expected ≡ expected.VersionNumber → now.expected ≡ expected.VersionEnd →
    now.lines ≡ b.lines → now.turns ≡ b.turns → decimal (version_number now.version) ≡ byte ∷ [] →
    IsKept now × (read_of now ≡ read_of b ++ byte ∷ [])
version-goes b now byte kept is then lines turns text =
    let none : b.lines.items ≡ [] = open-at b expected.VersionNumber kept is in
    let no-lines : now.lines.items ≡ [] = ap (λ ls. ls.items) lines ∙ none in
    let P : List RecordLine → Type 0 = λ ls. IsRecord now.version ls in
    let total : now.turns ≡ turns_of now.lines.items = turns ∙ kept.total ∙ ap (λ ls. turns_of ls.items) (sym lines) in
    let Q : Expected → Type 0 = λ x. IsOpen now.version now.lines.items x in (
      record { limits = subst P (sym no-lines) (record-empty now.version); total = total; open_end = subst Q (sym then) no-lines },
      ap (λ x. bytes_read now.version now.lines.items x) then ∙ ap (λ bs. title ++ bs) text
          ∙ ap (λ x. bytes_read b.version b.lines.items x ++ byte ∷ []) (sym is),
    )

-- the text of a version's number
pub version-byte : (n : ℕ) (version : Version) (byte : ℕ) → version_number version ≡ n → byte ≡ 48 + n → n < 10 →
    decimal (version_number version) ≡ byte ∷ []
version-byte n version byte number is small = ap (λ k. decimal k) number ∙ decimal_digit n small ∙ ap (λ c. c ∷ []) (sym is)

pub not-digit : (c : ℕ) → (c < 48) ⊎ (57 < c) → IsDigit c → ⊥
not-digit c (inl low) digit = omega arith
not-digit c (inr high) digit = omega arith

-- the last line, made behind nothing
pub made-line : (lines : List RecordLine) (none made : List ℕ) (count : ℕ) → none ≡ [] → made ≡ none ++ last_line count → count ≡ length lines →
    made ≡ last_line (length lines)
made-line lines none made count empty is same = is ∙ ap (λ bs. bs ++ last_line count) empty ∙ ap last_line same

-- ---- many bytes

-- what is wrong with one of them
pub misfit-in : (old b : Beginning) (bytes : List ℕ) (i : ℕ) (why : ReadFault) → IsKept b → read_of b ≡ read_of old ++ take i bytes →
    i < length bytes → IsMisfit b (get_or bytes i 0) why → IsMisfitIn old bytes why
misfit-in old b bytes i (fault.BadRecord line) kept text within is = λ rest.
    let byte = get_or bytes i 0 in
    let left = drop (i + 1) bytes ++ rest in
    let all : bytes ≡ take i bytes ++ (byte ∷ drop (i + 1) bytes) = sym (take-append-drop i bytes) ∙ ap (λ bs. take i bytes ++ bs) (drop-next bytes i within) in
    let whole : read_of b ++ (byte ∷ left) ≡ read_of old ++ (bytes ++ rest) =
    ap (λ bs. bs ++ (byte ∷ left)) text ∙ append_assoc (read_of old) (take i bytes) (byte ∷ left)
    ∙ ap (λ bs. read_of old ++ bs) (sym (append_assoc (take i bytes) (byte ∷ drop (i + 1) bytes) rest) ∙ ap (λ bs. bs ++ rest) (sym all)) in
    let P : List ℕ → Type 0 = λ bs. IsAtFault bs line in
    let Q : ℕ → Type 0 = λ n. IsAtFault (read_of b ++ (byte ∷ left)) n in
    subst P whole (subst Q (sym is.0) (misfit-fault b.version b.lines.items b.expected byte left kept.limits kept.open_end is.1)) where
      drop-next : (xs : List ℕ) (i : ℕ) → i < length xs → drop i xs ≡ get_or xs i 0 ∷ drop (i + 1) xs
      drop-next xs i within = rw (add-one, drop-cons xs i 0) refl
misfit-in old b bytes i (fault.Unreadable error) kept text within is = is
misfit-in old b bytes i fault.OutOfMemory kept text within is = tt

pub takes-err : (old new : Beginning) (bytes : List ℕ) (r : Result (Unit {0}) ReadFault) (why : ReadFault) → IsErrAnd r (λ e. e ≡ why) →
    IsMisfitIn old bytes why → TakesAll old bytes new r
takes-err old new bytes (Ok done) why same is = absurd same
takes-err old new bytes (Err e) why same is =
    let P : ReadFault → Type 0 = λ f. IsMisfitIn old bytes f in
    subst P (sym same) is
