-- What was read goes on to a record.
use Rattle.std.proofs.Common.{◌≡◌, ℕ, suc, zero, ◌+◌, ◌-◌, ◌^◌, ◌<◌, ◌≤◌, List, [], ◌∷◌, ◌++◌, All, get_or, length, take, drop, refl, sym, ap, ◌∙◌, arith, append_assoc, append-nil, length-append, take-append-drop, subst, decimal, codes}
use Rattle.std.specs.List.{flat_map}
use Rattle.std.proofs.lemmas.Fmt.{decimal_digit}
use Rattle.std.proofs.lemmas.Grind.{flat_map-append}
use Rattle.std.proofs.lemmas.List.{take_more}
use Rattle.std.proofs.lemmas.List.Elements.{All-nil, All-push}
use Rattle.std.proofs.lemmas.List.Sums.{sum_by-append, sum_by-cons}
use Rattle.sc_lockpass.specs.declared.version.Version.{Version}
use Rattle.sc_lockpass.specs.declared.version.Version.TheVariants.{One, Two}
use Rattle.sc_lockpass.specs.Versions.{most_handlers}
use Rattle.sc_audit.specs.declared.line.RecordLine.{RecordLine}
use Rattle.sc_audit.specs.declared.beginning.Expected.{Expected}
use Rattle.sc_audit.specs.declared.beginning.Expected.TheVariants as expected
use Rattle.sc_audit.specs.Records.{BeginsRecord, IsRecord, IsRecordText, first_line, last_line, line_text, most_lines, most_turns, text_of, turns_of, version_number}
use Rattle.sc_audit.specs.Internal.Parts.{head_of, title}
use Rattle.sc_audit.specs.Internal.Steps.{IsOpen, bytes_read}
use Rattle.sc_audit.proofs.Lines.{text-head}

-- ---- records

-- no lines are a record's
pub record-empty : (version : Version) → IsRecord version []
record-empty version = record {
  handlers = All-nil (λ (line : RecordLine). line.handler < most_handlers version);
  some = All-nil (λ (line : RecordLine). 0 < line.turns);
  few = omega arith;
  short = omega arith;
}

-- one line more
pub record-push : (version : Version) (lines : List RecordLine) (line : RecordLine) → IsRecord version lines → line.handler < most_handlers version →
    0 < line.turns → length lines < most_lines → turns_of lines + line.turns ≤ most_turns → IsRecord version (lines ++ line ∷ [])
record-push version lines line is handler some few short =
    let many = length-append lines (line ∷ []) in
    let total = sum_by-append (λ (line : RecordLine). line.turns) lines (line ∷ []) in
    let one = sum_by-cons (λ (line : RecordLine). line.turns) line [] in
    record {
      handlers = All-push (λ (line : RecordLine). line.handler < most_handlers version) lines line is.handlers handler;
      some = All-push (λ (line : RecordLine). 0 < line.turns) lines line is.some some;
      few = omega (arith, many, few);
      short = omega (arith, total, one, short);
    }

pub turns-push : (lines : List RecordLine) (line : RecordLine) → turns_of (lines ++ line ∷ []) ≡ turns_of lines + line.turns
turns-push lines line =
    let total = sum_by-append (λ (line : RecordLine). line.turns) lines (line ∷ []) in
    let one = sum_by-cons (λ (line : RecordLine). line.turns) line [] in
    omega (arith, total, one)

-- the text up to a line and that line
pub head-push : (version : Version) (lines : List RecordLine) (line : RecordLine) →
    head_of version (lines ++ line ∷ []) ≡ head_of version lines ++ line_text line
head-push version lines line =
    ap (λ bs. first_line version ++ bs) (flat_map-append line_text lines (line ∷ []) ∙ ap (λ bs. flat_map line_text lines ++ bs) (append-nil (line_text line)))
    ∙ sym (append_assoc (first_line version) (flat_map line_text lines) (line_text line))

-- ---- beginnings

-- part of a record's text begins it
pub part-begins : (version : Version) (lines : List RecordLine) (bytes rest : List ℕ) → IsRecord version lines →
    text_of version lines ≡ bytes ++ rest → BeginsRecord bytes
part-begins version lines bytes rest is parts = (rest, (version, lines, (is, sym parts)))

-- what begins a text that begins a record does too
pub front-begins : (bytes more : List ℕ) → BeginsRecord (bytes ++ more) → BeginsRecord bytes
front-begins bytes more begins =
    (more ++ begins.0, (begins.1.0, begins.1.1, (begins.1.2.0, sym (append_assoc bytes more begins.0) ∙ begins.1.2.1)))

-- some byte goes on with these
abbrev pub GoesOnSomehow : List ℕ → Type 0
GoesOnSomehow bytes = (b : ℕ) × BeginsRecord (bytes ++ b ∷ [])

-- a part of a record's text that isn't all of it goes on
part-goes : (version : Version) (lines : List RecordLine) (bytes rest : List ℕ) (b : ℕ) → IsRecord version lines →
    text_of version lines ≡ bytes ++ (b ∷ rest) → GoesOnSomehow bytes
part-goes version lines bytes rest b is parts =
    (b, part-begins version lines (bytes ++ b ∷ []) rest is (parts ∙ sym (append_assoc bytes (b ∷ []) rest)))

-- within a text
split-at : (read : ℕ) (text : List ℕ) → read < length text → (b : ℕ) × ((rest : List ℕ) × (text ≡ take read text ++ (b ∷ rest)))
split-at read [] within = absurd (omega arith)
split-at zero (x ∷ text) within = (x, (text, refl))
split-at (suc read) (x ∷ text) within =
    let split = split-at read text (omega arith) in
    (split.0, (split.1.0, ap (λ bs. x ∷ bs) split.1.1))

-- a line that goes on: the text of the record with that line and no other
line-goes : (version : Version) (lines : List RecordLine) (line : RecordLine) (bytes rest : List ℕ) (b : ℕ) → IsRecord version (lines ++ line ∷ []) →
    line_text line ≡ bytes ++ (b ∷ rest) → GoesOnSomehow (head_of version lines ++ bytes)
line-goes version lines line bytes rest b is parts =
    let last = last_line (length (lines ++ line ∷ [])) in
    let whole : text_of version (lines ++ line ∷ []) ≡ (head_of version lines ++ bytes) ++ (b ∷ (rest ++ last)) =
    text-head version (lines ++ line ∷ []) ∙ ap (λ bs. bs ++ last) (head-push version lines line ∙ ap (λ bs. head_of version lines ++ bs) parts)
    ∙ simp append_assoc in
    part-goes version (lines ++ line ∷ []) (head_of version lines ++ bytes) (rest ++ last) b is whole

-- the text of a record without lines
empty-text : (version : Version) → text_of version [] ≡ title ++ (decimal (version_number version) ++ (10 ∷ last_line 0))
empty-text version = simp append_assoc

-- what was read goes on, unless it is all of a record
pub open-goes : (version : Version) (lines : List RecordLine) (e : Expected) → IsRecord version lines → IsOpen version lines e →
    ¬ (e ≡ expected.Nothing) → GoesOnSomehow (bytes_read version lines e)
open-goes version lines (expected.Title read) is left more =
    let split = split-at read title left.1 in
    part-goes Two [] (take read title) (split.1.0 ++ (decimal 2 ++ (10 ∷ last_line 0))) split.0 (record-empty Two)
    (empty-text Two ∙ ap (λ bs. bs ++ (decimal 2 ++ (10 ∷ last_line 0))) split.1.1 ∙ append_assoc (take read title) (split.0 ∷ split.1.0) (decimal 2 ++ (10 ∷ last_line 0)))
open-goes version lines expected.VersionNumber is left more =
    let two = decimal_digit 2 (omega arith) in
    part-goes Two [] title (10 ∷ last_line 0) 50 (record-empty Two) (empty-text Two ∙ ap (λ bs. title ++ (bs ++ (10 ∷ last_line 0))) two)
open-goes version lines expected.VersionEnd is left more =
    part-goes version [] (title ++ decimal (version_number version)) (last_line 0) 10 (record-empty version)
    (empty-text version ∙ sym (append_assoc title (decimal (version_number version)) (10 ∷ last_line 0)))
open-goes version lines expected.Line is left more =
    part-goes version lines (head_of version lines) (codes "nd " ++ (decimal (length lines) ++ 10 ∷ [])) 101 is (text-head version lines)
open-goes version lines (expected.Handler number) is left more =
    let line : RecordLine = record { handler = number; turns = 1 } in
    line-goes version lines line (decimal number) (decimal 1 ++ 10 ∷ []) 32
    (record-push version lines line is left.1 (omega arith) left.0.0 (omega (arith, left.0.1))) refl
open-goes version lines (expected.Turns handler) is left more =
    let line : RecordLine = record { handler = handler; turns = 1 } in
    let one = decimal_digit 1 (omega arith) in
    line-goes version lines line (decimal handler ++ codes " ") (10 ∷ []) 49
    (record-push version lines line is left.1 (omega arith) left.0.0 (omega (arith, left.0.1)))
    (ap (λ bs. decimal handler ++ (codes " " ++ (bs ++ 10 ∷ []))) one ∙ sym (append_assoc (decimal handler) (codes " ") (49 ∷ (10 ∷ []))))
open-goes version lines (expected.MoreTurns handler number) is left more =
    let line : RecordLine = record { handler = handler; turns = number } in
    line-goes version lines line (decimal handler ++ (codes " " ++ decimal number)) [] 10
    (record-push version lines line is left.1 left.2 left.0 left.3)
    (sym (append_assoc (decimal handler) (codes " " ++ decimal number) (10 ∷ [])))
open-goes version lines (expected.LastLine read) is left more =
    let split = split-at read (last_line (length lines)) left.1 in
    part-goes version lines (head_of version lines ++ take read (last_line (length lines))) split.1.0 split.0 is
    (text-head version lines ∙ ap (λ bs. head_of version lines ++ bs) split.1.1
    ∙ sym (append_assoc (head_of version lines) (take read (last_line (length lines))) (split.0 ∷ split.1.0)))
open-goes version lines expected.Nothing is left more = absurd (more refl)

-- what was read begins a record
pub open-begins : (version : Version) (lines : List RecordLine) (e : Expected) → IsRecord version lines → IsOpen version lines e →
    BeginsRecord (bytes_read version lines e)
open-begins version lines expected.Nothing is left =
    part-begins version lines (text_of version lines) [] is (sym (append-nil (text_of version lines)))
open-begins version lines (expected.Title read) is left =
    let goes = open-goes version lines (expected.Title read) is left (λ same. cc) in
    front-begins (bytes_read version lines (expected.Title read)) (goes.0 ∷ []) goes.1
open-begins version lines expected.VersionNumber is left =
    let goes = open-goes version lines expected.VersionNumber is left (λ same. cc) in
    front-begins (bytes_read version lines expected.VersionNumber) (goes.0 ∷ []) goes.1
open-begins version lines expected.VersionEnd is left =
    let goes = open-goes version lines expected.VersionEnd is left (λ same. cc) in
    front-begins (bytes_read version lines expected.VersionEnd) (goes.0 ∷ []) goes.1
open-begins version lines expected.Line is left =
    let goes = open-goes version lines expected.Line is left (λ same. cc) in
    front-begins (bytes_read version lines expected.Line) (goes.0 ∷ []) goes.1
open-begins version lines (expected.Handler number) is left =
    let goes = open-goes version lines (expected.Handler number) is left (λ same. cc) in
    front-begins (bytes_read version lines (expected.Handler number)) (goes.0 ∷ []) goes.1
open-begins version lines (expected.Turns handler) is left =
    let goes = open-goes version lines (expected.Turns handler) is left (λ same. cc) in
    front-begins (bytes_read version lines (expected.Turns handler)) (goes.0 ∷ []) goes.1
open-begins version lines (expected.MoreTurns handler number) is left =
    let goes = open-goes version lines (expected.MoreTurns handler number) is left (λ same. cc) in
    front-begins (bytes_read version lines (expected.MoreTurns handler number)) (goes.0 ∷ []) goes.1
open-begins version lines (expected.LastLine read) is left =
    let goes = open-goes version lines (expected.LastLine read) is left (λ same. cc) in
    front-begins (bytes_read version lines (expected.LastLine read)) (goes.0 ∷ []) goes.1
