-- Which line of a text is at fault.
use Rattle.std.proofs.Common.{◌≡◌, ℕ, suc, zero, ◌+◌, ◌-◌, ◌^◌, ◌<◌, ◌≤◌, ◌==◌, cond, false, List, [], ◌∷◌, ◌++◌, All, get_or, length, take, refl, sym, ap, ◌∙◌, arith, append_assoc, append-nil, length-append, subst, decimal, codes}
use Rattle.std.specs.Io.{IsEmptyOrEndsWith}
use Rattle.std.specs.List.{flat_map}
use Rattle.std.proofs.Math.Seq.{get_or-append_seam, take-append_seam}
use Rattle.std.proofs.lemmas.List.{get_or-append-add, get_or_append_left, take-append-le}
use Rattle.std.proofs.lemmas.Bool.{ne_eqb}
use Rattle.std.proofs.lemmas.List.Elements.{All-append, All-cons, All-head, All-nil, All-tail, All-take}
use Rattle.std.proofs.lemmas.List.Sums.{sum_by-append, sum_by-cons}
use Rattle.sc_lockpass.specs.declared.version.Version.{Version}
use Rattle.sc_lockpass.specs.declared.version.Version.TheVariants.{One, Two}
use Rattle.sc_lockpass.specs.Versions.{most_handlers}
use Rattle.sc_audit.specs.declared.line.RecordLine.{RecordLine}
use Rattle.sc_audit.specs.declared.beginning.Expected.{Expected}
use Rattle.sc_audit.specs.declared.beginning.Expected.TheVariants as expected
use Rattle.sc_audit.specs.Records.{BeginsRecord, IsRecord, IsRecordText, first_line, last_line, line_feed, line_text, most_lines, most_turns, text_of, turns_of, version_number}
use Rattle.sc_audit.specs.Faults.{AreFitting, IsAtFault, lines_in}
use Rattle.sc_audit.specs.Laws.{OneLineAtFault}
use Rattle.sc_audit.specs.Internal.Parts.{IsDigit, head_of, title}
use Rattle.sc_audit.specs.Internal.Steps.{IsOpen, bytes_read, line_at}
use Rattle.sc_audit.proofs.Decimals.{AreDigits, decimal-digits}
use Rattle.sc_audit.proofs.Lines.{AreSmall, record-small, text-head}
use Rattle.sc_audit.proofs.Next.{all-next}
use Rattle.sc_audit.proofs.Whole.{front-begins, open-goes, part-begins, record-empty}

-- two beginnings of one text that are as long
same-front : (text xs ys r q : List ℕ) → text ≡ xs ++ r → text ≡ ys ++ q → length xs ≡ length ys → xs ≡ ys
same-front text xs ys r q one two same =
    let first : take (length xs) text ≡ xs = ap (take (length xs)) one ∙ take-append_seam xs r in
    let second : take (length ys) text ≡ ys = ap (take (length ys)) two ∙ take-append_seam ys q in
    sym first ∙ ap (λ n. take n text) same ∙ second

pub one-line : OneLineAtFault
one-line text line other a b =
    let fewer : length b.before ≤ length a.before = a.longest b.before b.rest b.parts b.fitting in
    let more : length a.before ≤ length b.before = b.longest a.before a.rest a.parts a.fitting in
    let same = same-front text a.before b.before a.rest b.rest a.parts b.parts (omega arith) in
    a.number ∙ ap (λ xs. lines_in xs + 1) same ∙ sym b.number

-- the shorter beginning of a text is one of the longer
longer-front : (xs ys r q : List ℕ) → xs ++ r ≡ ys ++ q → length xs ≤ length ys → (zs : List ℕ) × (ys ≡ xs ++ zs)
longer-front [] ys r q e few = (ys, refl)
longer-front (x ∷ xs) [] r q e few = absurd (omega arith)
longer-front (x ∷ xs) (y ∷ ys) r q e few =
    let tails : xs ++ r ≡ ys ++ q = cc in
    let more = longer-front xs ys r q tails (omega arith) in
    (more.0, cc)

-- ---- line feeds

abbrev HasNoFeed : List ℕ → Type 0
HasNoFeed bytes = All (λ (c : ℕ). ¬ (c ≡ line_feed)) bytes

digits-feed : (ds : List ℕ) → AreDigits ds → HasNoFeed ds
digits-feed [] digits = All-nil (λ (c : ℕ). ¬ (c ≡ line_feed))
digits-feed (d ∷ ds) digits = All-cons (λ (c : ℕ). ¬ (c ≡ line_feed)) d ds (λ e. omega (arith, e, digits.0)) (digits-feed ds digits.1)

decimal-feed : (n : ℕ) → n < 2 ^ 64 → HasNoFeed (decimal n)
decimal-feed n small = digits-feed (decimal n) (decimal-digits n small)

append-feed : (xs ys : List ℕ) → HasNoFeed xs → HasNoFeed ys → HasNoFeed (xs ++ ys)
append-feed xs ys these those = All-append (λ (c : ℕ). ¬ (c ≡ line_feed)) xs ys these those

-- bytes that have none, by a test
no-feeds : List ℕ → Type 0
no-feeds [] = Unit {0}
no-feeds (c ∷ cs) = (c ≡ line_feed → ⊥) × no-feeds cs

from-test : (bytes : List ℕ) → no-feeds bytes → HasNoFeed bytes
unfolding no-feeds
from-test [] none = All-nil (λ (c : ℕ). ¬ (c ≡ line_feed))
from-test (c ∷ cs) none = All-cons (λ (c : ℕ). ¬ (c ≡ line_feed)) c cs none.0 (from-test cs none.1)

differ : (a : ℕ) → ¬ (a ≡ 10) → a ≡ line_feed → ⊥
differ a other e = other e

title-feed : HasNoFeed title
unfolding no-feeds
title-feed = from-test title (
  differ 115 (λ e. omega (arith, e)),
  (
    differ 99 (λ e. omega (arith, e)),
    (
      differ 111 (λ e. omega (arith, e)),
      (
        differ 111 (λ e. omega (arith, e)),
        (
          differ 112 (λ e. omega (arith, e)),
          (
            differ 32 (λ e. omega (arith, e)),
            (
              differ 114 (λ e. omega (arith, e)),
              (
                differ 101 (λ e. omega (arith, e)),
                (
                  differ 99 (λ e. omega (arith, e)),
                  (
                    differ 111 (λ e. omega (arith, e)),
                    (
                      differ 114 (λ e. omega (arith, e)),
                      (
                        differ 100 (λ e. omega (arith, e)),
                        (differ 32 (λ e. omega (arith, e)), tt),
                      ),
                    ),
                  ),
                ),
              ),
            ),
          ),
        ),
      ),
    ),
  ),
)

space-feed : HasNoFeed (codes " ")
unfolding no-feeds
space-feed = from-test (codes " ") (differ 32 (λ e. omega (arith, e)), tt)

end-feed : HasNoFeed (codes "end ")
unfolding no-feeds
end-feed = from-test (codes "end ") (differ 101 (λ e. omega (arith, e)), (differ 110 (λ e. omega (arith, e)), (differ 100 (λ e. omega (arith, e)), (differ 32 (λ e. omega (arith, e)), tt))))

-- bytes that end with one
ends-feed : (front bytes : List ℕ) → bytes ≡ front ++ line_feed ∷ [] → IsEmptyOrEndsWith bytes line_feed
ends-feed front bytes is some =
    let size : length bytes ≡ length front + 1 = ap length is ∙ length-append front (line_feed ∷ []) in
    let last : length bytes - 1 ≡ length front = omega arith in
    ap (λ i. get_or bytes i 0) last ∙ ap (λ bs. get_or bs (length front) 0) is ∙ get_or-append_seam front line_feed [] 0

-- bytes that end with one have it in what is behind a shorter beginning
behind-feed : (before current others zs : List ℕ) → HasNoFeed current → before ++ current ≡ others ++ zs → length before < length others →
    IsEmptyOrEndsWith others line_feed → ⊥
behind-feed before current others zs none e longer ends =
    let front = longer-front before others current zs e (omega arith) in
    let size : length others ≡ length before + length front.0 = ap length front.1 ∙ length-append before front.0 in
    let some : 0 < length front.0 = omega arith in
    let at-end : length before + (length front.0 - 1) ≡ length others - 1 = omega arith in
    let last : get_or others (length others - 1) 0 ≡ line_feed = ends (omega arith) in
    let parts : current ≡ front.0 ++ zs = cancel before current (front.0 ++ zs) (e ∙ ap (λ bs. bs ++ zs) front.1 ∙ append_assoc before front.0 zs) in
    let many : length current ≡ length front.0 + length zs = ap length parts ∙ length-append front.0 zs in
    none (length front.0 - 1) 0 (omega arith)
    (ap (λ bs. get_or bs (length front.0 - 1) 0) parts ∙ get_or_append_left front.0 zs 0 (length front.0 - 1) (omega arith)
    ∙ sym (get_or-append-add before front.0 (length front.0 - 1) 0) ∙ ap (λ bs. get_or bs (length before + (length front.0 - 1)) 0) (sym front.1)
    ∙ ap (λ i. get_or others i 0) at-end ∙ last) where
      cancel : (xs ys zs : List ℕ) → xs ++ ys ≡ xs ++ zs → ys ≡ zs
      cancel [] ys zs e = e
      cancel (x ∷ xs) ys zs e = let tails : xs ++ ys ≡ xs ++ zs = cc in cancel xs ys zs tails

-- ---- lines

lines-append : (xs ys : List ℕ) → lines_in (xs ++ ys) ≡ lines_in xs + lines_in ys
lines-append xs ys = sum_by-append _ xs ys

feed-lines : (bytes : List ℕ) → HasNoFeed bytes → lines_in bytes ≡ 0
feed-lines [] none = refl
feed-lines (c ∷ cs) none =
    let other : ¬ (c ≡ line_feed) = All-head (λ (c : ℕ). ¬ (c ≡ line_feed)) c cs none in
    let test : (c == line_feed) ≡ false = ne_eqb c line_feed other in
    sum_by-cons (λ x. cond (x == line_feed) 1 0) c cs ∙ ap (λ t. cond t 1 0 + lines_in cs) test
    ∙ ap (λ n. 0 + n) (feed-lines cs (All-tail (λ (c : ℕ). ¬ (c ≡ line_feed)) c cs none))

-- bytes without one, and one behind them
one-line-in : (front : List ℕ) → HasNoFeed front → lines_in (front ++ line_feed ∷ []) ≡ 1
one-line-in front none = lines-append front (line_feed ∷ []) ∙ ap (λ n. n + 1) (feed-lines front none)

-- the parts of a text that end with line feeds
line-front : (line : RecordLine) → line_text line ≡ (decimal line.handler ++ (codes " " ++ decimal line.turns)) ++ line_feed ∷ []
line-front line = simp append_assoc

first-front : (version : Version) → first_line version ≡ (title ++ decimal (version_number version)) ++ line_feed ∷ []
first-front version = sym (append_assoc title (decimal (version_number version)) (line_feed ∷ []))

last-front : (n : ℕ) → last_line n ≡ (codes "end " ++ decimal n) ++ line_feed ∷ []
last-front n = sym (append_assoc (codes "end ") (decimal n) (line_feed ∷ []))

flat-front : (front : List ℕ) (lines : List RecordLine) →
    (more : List ℕ) × ((front ++ line_feed ∷ []) ++ flat_map line_text lines ≡ more ++ line_feed ∷ [])
flat-front front [] = (front, append-nil (front ++ line_feed ∷ []))
flat-front front (line ∷ lines) =
    let own = decimal line.handler ++ (codes " " ++ decimal line.turns) in
    let next = flat-front ((front ++ line_feed ∷ []) ++ own) lines in (
      next.0,
      sym (append_assoc (front ++ line_feed ∷ []) (line_text line) (flat_map line_text lines))
          ∙ ap (λ bs. ((front ++ line_feed ∷ []) ++ bs) ++ flat_map line_text lines) (line-front line)
          ∙ ap (λ bs. bs ++ flat_map line_text lines) (sym (append_assoc (front ++ line_feed ∷ []) own (line_feed ∷ []))) ∙ next.1,
    )

head-front : (version : Version) (lines : List RecordLine) → (front : List ℕ) × (head_of version lines ≡ front ++ line_feed ∷ [])
head-front version lines =
    let front = flat-front (title ++ decimal (version_number version)) lines in
    (front.0, ap (λ bs. bs ++ flat_map line_text lines) (first-front version) ∙ front.1)

text-front : (version : Version) (lines : List RecordLine) → (front : List ℕ) × (text_of version lines ≡ front ++ line_feed ∷ [])
text-front version lines = (
  head_of version lines ++ (codes "end " ++ decimal (length lines)),
  text-head version lines ∙ ap (λ bs. head_of version lines ++ bs) (last-front (length lines))
      ∙ sym (append_assoc (head_of version lines) (codes "end " ++ decimal (length lines)) (line_feed ∷ [])),
)

-- how many they are
number-feed : (version : Version) → HasNoFeed (decimal (version_number version))
number-feed One = decimal-feed 1 (omega arith)
number-feed Two = decimal-feed 2 (omega arith)

flat-lines : (lines : List RecordLine) → AreSmall lines → lines_in (flat_map line_text lines) ≡ length lines
flat-lines [] small = refl
flat-lines (line ∷ lines) small =
    let own = decimal line.handler ++ (codes " " ++ decimal line.turns) in
    let none = append-feed (decimal line.handler) (codes " " ++ decimal line.turns) (decimal-feed line.handler (omega (arith, small.0.0)))
    (append-feed (codes " ") (decimal line.turns) space-feed (decimal-feed line.turns (omega (arith, small.0.1)))) in
    let one : lines_in (line_text line) ≡ 1 = ap (λ bs. lines_in bs) (line-front line) ∙ one-line-in own none in
    let parts = lines-append (line_text line) (flat_map line_text lines) in
    let others = flat-lines lines small.1 in
    omega (arith, one, parts, others)

head-lines : (version : Version) (lines : List RecordLine) → IsRecord version lines → lines_in (head_of version lines) ≡ length lines + 1
head-lines version lines is =
    let own = title ++ decimal (version_number version) in
    let one : lines_in (first_line version) ≡ 1 =
    ap (λ bs. lines_in bs) (first-front version) ∙ one-line-in own (append-feed title (decimal (version_number version)) title-feed (number-feed version)) in
    let parts = lines-append (first_line version) (flat_map line_text lines) in
    let others = flat-lines lines (record-small version lines is) in
    omega (arith, one, parts, others)

last-feed : (version : Version) (lines : List RecordLine) → IsRecord version lines → HasNoFeed (codes "end " ++ decimal (length lines))
last-feed version lines is =
    let few : length lines ≤ most_lines = is.few in
    append-feed (codes "end ") (decimal (length lines)) end-feed (decimal-feed (length lines) (omega (arith, few)))

text-lines : (version : Version) (lines : List RecordLine) → IsRecord version lines → lines_in (text_of version lines) ≡ length lines + 2
text-lines version lines is =
    let one : lines_in (last_line (length lines)) ≡ 1 =
    ap (λ bs. lines_in bs) (last-front (length lines)) ∙ one-line-in (codes "end " ++ decimal (length lines)) (last-feed version lines is) in
    let parts = lines-append (head_of version lines) (last_line (length lines)) in
    let whole : lines_in (text_of version lines) ≡ lines_in (head_of version lines ++ last_line (length lines)) = ap (λ bs. lines_in bs) (text-head version lines) in
    let others = head-lines version lines is in
    omega (arith, one, parts, whole, others)

-- a part of the last line has no line feed
part-feed : (version : Version) (lines : List RecordLine) (read : ℕ) → IsRecord version lines → read < length (last_line (length lines)) →
    HasNoFeed (take read (last_line (length lines)))
part-feed version lines read is within =
    let own = codes "end " ++ decimal (length lines) in
    let size : length (last_line (length lines)) ≡ length own + 1 = ap length (last-front (length lines)) ∙ length-append own (line_feed ∷ []) in
    let same : take read (last_line (length lines)) ≡ take read own =
    ap (take read) (last-front (length lines)) ∙ take-append-le read own (line_feed ∷ []) (omega arith) in
    let P : List ℕ → Type 0 = λ bs. HasNoFeed bs in
    subst P (sym same) (All-take (λ (c : ℕ). ¬ (c ≡ line_feed)) read own (last-feed version lines is))

-- ---- the line at fault

-- Where no fitting lines are longer than what was read of the text, the line after the whole ones that were read is at fault.
fault-of : (text before current bytes tail : List ℕ) (line : ℕ) → bytes ≡ before ++ current → HasNoFeed current → AreFitting before →
    line ≡ lines_in before + 1 → text ≡ bytes ++ tail →
    ((others after : List ℕ) → text ≡ others ++ after → BeginsRecord others → length others ≤ length bytes) → ¬ IsRecordText text →
    IsAtFault text line
fault-of text before current bytes tail line parted none fitting number is longer no-record = record {
  before = before;
  rest = current ++ tail;
  parts = is ∙ ap (λ bs. bs ++ tail) parted ∙ append_assoc before current tail;
  fitting = fitting;
  longest = λ others after parts fits.
      let within = longer others after parts fits.1 in
      let all = longer-front others bytes after tail (sym parts ∙ is) within in
      let no-longer : length before < length others → ⊥ = λ more.
      behind-feed before current others all.0 none (sym parted ∙ all.1) more fits.0 in
      omega (arith, no-longer);
  number = number;
  no_record = no-record;
}

-- ---- what was read

-- The whole lines that were read, and what was read of the next one.
pub record Parts (version : Version) (lines : List RecordLine) (e : Expected) : Type 0 where
  pub before : List ℕ
  pub current : List ℕ
  pub parted : bytes_read version lines e ≡ before ++ current
  pub none : HasNoFeed current
  pub fitting : AreFitting before
  pub number : line_at (length lines) e ≡ lines_in before + 1

nothing-fits : AreFitting []
nothing-fits = (λ some. absurd (omega arith), part-begins Two [] [] (text_of Two []) (record-empty Two) refl)

head-fits : (version : Version) (lines : List RecordLine) → IsRecord version lines → AreFitting (head_of version lines)
head-fits version lines is =
    let front = head-front version lines in
    (ends-feed front.0 (head_of version lines) front.1, part-begins version lines (head_of version lines) (last_line (length lines)) is (text-head version lines))

first-parts : (version : Version) (lines : List RecordLine) (e : Expected) → line_at (length lines) e ≡ 1 → HasNoFeed (bytes_read version lines e) →
    Parts version lines e
first-parts version lines e one none = record {
  before = [];
  current = bytes_read version lines e;
  parted = refl;
  none = none;
  fitting = nothing-fits;
  number = one;
}

open-parts : (version : Version) (lines : List RecordLine) (e : Expected) (current : List ℕ) → IsRecord version lines →
    line_at (length lines) e ≡ length lines + 2 → bytes_read version lines e ≡ head_of version lines ++ current → HasNoFeed current →
    Parts version lines e
open-parts version lines e current is number parted none =
    let count = head-lines version lines is in
    record { before = head_of version lines; current = current; parted = parted; none = none; fitting = head-fits version lines is; number = omega (arith, count, number) }

few-handlers : (version : Version) → most_handlers version ≤ 512
few-handlers One = omega arith
few-handlers Two = omega arith

no-bytes : HasNoFeed []
no-bytes = All-nil (λ (c : ℕ). ¬ (c ≡ line_feed))

parts-of : (version : Version) (lines : List RecordLine) (e : Expected) → IsRecord version lines → IsOpen version lines e → Parts version lines e
parts-of version lines (expected.Title read) is left =
    first-parts version lines (expected.Title read) refl (All-take (λ (c : ℕ). ¬ (c ≡ line_feed)) read title title-feed)
parts-of version lines expected.VersionNumber is left = first-parts version lines expected.VersionNumber refl title-feed
parts-of version lines expected.VersionEnd is left =
    first-parts version lines expected.VersionEnd refl (append-feed title (decimal (version_number version)) title-feed (number-feed version))
parts-of version lines expected.Line is left =
    open-parts version lines expected.Line [] is refl (sym (append-nil (head_of version lines))) no-bytes
parts-of version lines (expected.Handler number) is left =
    let few = few-handlers version in
    open-parts version lines (expected.Handler number) (decimal number) is refl refl (decimal-feed number (omega (arith, left.1, few)))
parts-of version lines (expected.Turns handler) is left =
    let few = few-handlers version in
    open-parts version lines (expected.Turns handler) (decimal handler ++ codes " ") is refl refl
    (append-feed (decimal handler) (codes " ") (decimal-feed handler (omega (arith, left.1, few))) space-feed)
parts-of version lines (expected.MoreTurns handler number) is left =
    let few = few-handlers version in
    open-parts version lines (expected.MoreTurns handler number) (decimal handler ++ (codes " " ++ decimal number)) is refl refl
    (append-feed (decimal handler) (codes " " ++ decimal number) (decimal-feed handler (omega (arith, left.1, few)))
    (append-feed (codes " ") (decimal number) space-feed (decimal-feed number (omega (arith, left.3)))))
parts-of version lines (expected.LastLine read) is left =
    open-parts version lines (expected.LastLine read) (take read (last_line (length lines))) is refl refl (part-feed version lines read is left.1)
parts-of version lines expected.Nothing is left =
    let front = text-front version lines in
    let count = text-lines version lines is in
    record {
      before = text_of version lines;
      current = [];
      parted = sym (append-nil (text_of version lines));
      none = no-bytes;
      fitting = (ends-feed front.0 (text_of version lines) front.1, part-begins version lines (text_of version lines) [] is (sym (append-nil (text_of version lines))));
      number = omega (arith, count);
    }

-- a byte that fits no record is at fault
pub misfit-fault : (version : Version) (lines : List RecordLine) (e : Expected) (byte : ℕ) (rest : List ℕ) → IsRecord version lines → IsOpen version lines e →
    ¬ BeginsRecord (bytes_read version lines e ++ byte ∷ []) → IsAtFault (bytes_read version lines e ++ (byte ∷ rest)) (line_at (length lines) e)
misfit-fault version lines e byte rest is left misfit =
    let p = parts-of version lines e is left in
    let bytes = bytes_read version lines e in
    let whole = append_assoc bytes (byte ∷ []) rest in
    let P : List ℕ → Type 0 = λ bs. BeginsRecord bs in
    let Q : List ℕ → Type 0 = λ bs. IsRecordText bs in
    fault-of (bytes ++ (byte ∷ rest)) p.before p.current bytes (byte ∷ rest) (line_at (length lines) e) p.parted p.none p.fitting p.number refl
    (λ others after parts begins.
    let size = length-append bytes (byte ∷ []) in
    let no-longer : length bytes < length others → ⊥ = λ more.
    (let front = longer-front (bytes ++ byte ∷ []) others rest after (whole ∙ parts) (omega (arith, size, more)) in
    misfit (front-begins (bytes ++ byte ∷ []) front.0 (subst P front.1 begins))) in
    omega (arith, no-longer))
    (λ text. misfit (rest, subst Q (sym whole) text))

-- and where the text ends too early, the line that isn't whole
pub end-fault : (version : Version) (lines : List RecordLine) (e : Expected) → IsRecord version lines → IsOpen version lines e →
    ¬ (e ≡ expected.Nothing) → IsAtFault (bytes_read version lines e) (line_at (length lines) e)
end-fault version lines e is left more =
    let p = parts-of version lines e is left in
    let bytes = bytes_read version lines e in
    let goes = open-goes version lines e is left more in
    let P : List ℕ → Type 0 = λ bs. BeginsRecord (bs ++ goes.0 ∷ []) in
    fault-of bytes p.before p.current bytes [] (line_at (length lines) e) p.parted p.none p.fitting p.number (sym (append-nil bytes))
    (λ others after parts begins.
    let size : length bytes ≡ length others + length after = ap length parts ∙ length-append others after in
    omega (arith, size))
    (λ text. all-next text.0 text.1 goes.0 text.2.0 (subst P text.2.1 goes.1))
