-- How the lines of a source text lie in its files.
use Rattle.std.proofs.Common.{◌≡◌, ◌+◌, ◌-◌, ◌<◌, ◌≤◌, ◌∷◌, ◌++◌, ◌∙◌, ◌⊎◌, [], ℕ, zero, suc, inl, inr, List, Option, Some, None, IfSome, Bool, true, false, not, cond, length, take, get_or, reverse, refl, sym, ap, subst, arith, append_assoc, count_by}
use Rattle.std.specs.List.{prefix_len, suffix_len}
use Rattle.std.proofs.Math.Seq.{take-append-add}
use Rattle.std.proofs.lemmas.List.{length-take-le, take-append-le, reverse-append}
use Rattle.std.proofs.lemmas.List.Sums.{count_by_more_yes, count_by_more_no, suffix_len-take_yes, suffix_len-take_no, sum_by-append, sum_by-cons, sum_by-take-le}
use Rattle.std.proofs.lemmas.Bool.{cases_lt}
use Rattle.std.proofs.lemmas.Bool.Decides.{nat_tests}
use Rattle.std.proofs.lemmas.Grind.{common_steps}
use Rattle.sc_source.specs.Source.{File, Place, column_after, is_line_feed, joined, line_after, line_feed, place_in, place_of}
use Rattle.sc_places.specs.Lines.{Begins, IsInLine, is_in_line}
use Rattle.sc_places.specs.declared.lines.Line.{Line}

-- how many line feeds are before a byte
abbrev feeds : List ℕ → ℕ → ℕ
feeds text n = count_by is_line_feed (take n text)

-- ---- texts

prefix_stop : (xs ys : List ℕ) → prefix_len is_in_line (xs ++ line_feed ∷ ys) ≡ prefix_len is_in_line xs
prefix_stop [] ys = refl
prefix_stop (x ∷ xs) ys = rw (prefix_stop xs ys) refl

-- a line begins after the last line feed
suffix_stop : (xs ys : List ℕ) → suffix_len is_in_line (xs ++ line_feed ∷ ys) ≡ suffix_len is_in_line ys
suffix_stop xs ys =
    ap (prefix_len is_in_line) (reverse-append xs (line_feed ∷ ys)
    ∙ ap (λ l. l ++ reverse xs) (reverse-append (line_feed ∷ []) ys) ∙ append_assoc (reverse ys) (line_feed ∷ []) (reverse xs))
    ∙ prefix_stop (reverse ys) (reverse xs)

-- a byte after a text is so many bytes after its line feed
take_next : (text rest : List ℕ) (o : ℕ) → length text < o →
    take o (text ++ (line_feed ∷ rest)) ≡ text ++ (line_feed ∷ take (o - (length text + 1)) rest)
take_next text rest o past =
    let at : o ≡ length text + suc (o - (length text + 1)) = omega arith in
    ap (λ n. take n (text ++ (line_feed ∷ rest))) at ∙ take-append-add text (line_feed ∷ rest) (suc (o - (length text + 1)))

feeds_next : (text rest : List ℕ) (o : ℕ) → length text < o →
    feeds (text ++ (line_feed ∷ rest)) o ≡ count_by is_line_feed text + 1 + feeds rest (o - (length text + 1))
feeds_next text rest o past =
    let after : List ℕ = take (o - (length text + 1)) rest in
    let all : count_by is_line_feed (text ++ (line_feed ∷ after)) ≡ count_by is_line_feed text + count_by is_line_feed (line_feed ∷ after) =
    sum_by-append (λ c. cond (is_line_feed c) 1 0) text (line_feed ∷ after) in
    let one : count_by is_line_feed (line_feed ∷ after) ≡ 1 + count_by is_line_feed after =
    sum_by-cons (λ c. cond (is_line_feed c) 1 0) line_feed after in
    ap (count_by is_line_feed) (take_next text rest o past) ∙ omega (arith, all, one)

-- a byte that ends no line
line_more : (text : List ℕ) (n : ℕ) → n < length text → is_line_feed (get_or text n 0) ≡ false →
    suffix_len is_in_line (take (n + 1) text) ≡ 1 + suffix_len is_in_line (take n text)
line_more text n lt e =
    let same : n + 1 - 1 ≡ n = omega arith in
    subst (λ k. suffix_len is_in_line (take (n + 1) text) ≡ 1 + suffix_len is_in_line (take k text)) same
    (suffix_len-take_yes is_in_line text (n + 1) 0 (omega arith) (omega arith) (ap (λ k. is_in_line (get_or text k 0)) same ∙ ap not e))

-- a byte that ends a line
line_none : (text : List ℕ) (n : ℕ) → n < length text → is_line_feed (get_or text n 0) ≡ true → suffix_len is_in_line (take (n + 1) text) ≡ 0
line_none text n lt e =
    let same : n + 1 - 1 ≡ n = omega arith in
    suffix_len-take_no is_in_line text (n + 1) 0 (omega arith) (omega arith) (ap (λ k. is_in_line (get_or text k 0)) same ∙ ap not e)

-- Between these bytes is no line feed, and so many bytes are.
abbrev AreInLine : List ℕ → ℕ → ℕ → ℕ → Type 0
AreInLine text n last k =
    (suffix_len is_in_line (take last text) ≡ suffix_len is_in_line (take n text) + k) × (feeds text last ≡ feeds text n)

one_more : (text : List ℕ) (n last k : ℕ) → last < length text → (k ≤ suffix_len is_in_line (take last text) → AreInLine text n last k) →
    suc k ≤ suffix_len is_in_line (take (last + 1) text) → AreInLine text n (last + 1) (suc k)
one_more text n last k lt rest long = by (is_line_feed (get_or text last 0)) refl
  where
    by : (b : Bool) → is_line_feed (get_or text last 0) ≡ b → AreInLine text n (last + 1) (suc k)
    by true e = let none = line_none text last lt e in absurd (omega (arith, none, long))
    by false e =
        let more = line_more text last lt e in
        let before = rest (omega (arith, more, long)) in
        (omega (arith, more, before.0), count_by_more_no is_line_feed text last 0 lt e ∙ before.1)

in_line : (text : List ℕ) (n k : ℕ) → n + k ≤ length text → k ≤ suffix_len is_in_line (take (n + k) text) → AreInLine text n (n + k) k
in_line text n zero le long =
    let same : n ≡ n + 0 = omega arith in
    subst (λ m. AreInLine text n m 0) same (omega arith, refl)
in_line text n (suc k) le long =
    let same : n + k + 1 ≡ n + suc k = omega arith in
    subst (λ m. AreInLine text n m (suc k)) same
    (one_more text n (n + k) k (omega arith) (in_line text n k (omega arith)) (subst (λ m. suc k ≤ suffix_len is_in_line (take m text)) (sym same) long))

-- a line that begins at a byte begins after a line feed
after_feed : (text : List ℕ) (n : ℕ) → n < length text → suffix_len is_in_line (take (n + 1) text) ≡ 0 → feeds text (n + 1) ≡ feeds text n + 1
after_feed text n lt none = by (is_line_feed (get_or text n 0)) refl
  where
    by : (b : Bool) → is_line_feed (get_or text n 0) ≡ b → feeds text (n + 1) ≡ feeds text n + 1
    by true e = count_by_more_yes is_line_feed text n 0 lt e
    by false e = let more = line_more text n lt e in absurd (omega (arith, more, none))

-- ---- places

here : (f : File) (fs : List File) (o : ℕ) → o ≤ length f.text → place_of (f ∷ fs) o ≡ Some (place_in f o)
here f fs o le = grind (arith, nat_tests)

next : (f : File) (fs : List File) (o : ℕ) → length f.text < o → place_of (f ∷ fs) o ≡ place_of fs (o - (length f.text + 1))
next f fs o past = grind (arith, nat_tests)

feeds_here : (text rest : List ℕ) (o : ℕ) → o ≤ length text → feeds (text ++ rest) o ≡ feeds text o
feeds_here text rest o le = ap (count_by is_line_feed) (take-append-le o text rest le)

if_some : {P Q : Place → Type 0} (r : Option Place) → ((p : Place) → P p → Q p) → IfSome r P → IfSome r Q
if_some None f h = tt
if_some (Some p) f h = f p h

-- a line's number is 1 at least, and no greater in its file than in all files
abbrev IsNumberAt : List File → ℕ → Place → Type 0
IsNumberAt fs o p = (0 < p.line) × (p.line ≤ 1 + feeds (joined fs) o)

numbers : (fs : List File) (o : ℕ) → IfSome (place_of fs o) (IsNumberAt fs o)
numbers [] o = tt
numbers (f ∷ fs) o = by (cases_lt (length f.text) o) (numbers fs (o - (length f.text + 1)))
  where
    by : (length f.text < o) ⊎ (o ≤ length f.text) →
        IfSome (place_of fs (o - (length f.text + 1))) (IsNumberAt fs (o - (length f.text + 1))) → IfSome (place_of (f ∷ fs) o) (IsNumberAt (f ∷ fs) o)
    by (inl past) rest =
        let more = feeds_next f.text (joined fs) o past in
        subst (λ r. IfSome r (IsNumberAt (f ∷ fs) o)) (sym (next f fs o past))
        (if_some (place_of fs (o - (length f.text + 1))) (λ p h. (h.0, omega (arith, more, h.1))) rest)
    by (inr le) rest =
        let same = feeds_here f.text (line_feed ∷ joined fs) o le in
        subst (λ r. IfSome r (IsNumberAt (f ∷ fs) o)) (sym (here f fs o le)) (omega arith, omega (arith, same))

-- An earlier byte is in the same file if fewer line feeds are between than the number of the line.
abbrev IsBack : List File → ℕ → ℕ → Place → Type 0
IsBack fs a o p = feeds (joined fs) o < p.line + feeds (joined fs) a → place_of fs a ≡ Some (record {
  file = p.file;
  line = p.line + feeds (joined fs) a - feeds (joined fs) o;
  column = column_after (take a (joined fs));
})

abbrev at : List ℕ → ℕ → ℕ → Option Place
at file line column = Some (record { file = file; line = line; column = column })

back_here : (f : File) (fs : List File) (a o : ℕ) → a ≤ o → o ≤ length f.text → IsBack (f ∷ fs) a o (place_in f o)
back_here f fs a o before le within =
    let first : take a (joined (f ∷ fs)) ≡ take a f.text = take-append-le a f.text (line_feed ∷ joined fs) (omega arith) in
    let one = feeds_here f.text (line_feed ∷ joined fs) a (omega arith) in
    let other = feeds_here f.text (line_feed ∷ joined fs) o le in
    here f fs a (omega arith)
    ∙ ap (λ n. at f.name n (column_after (take a f.text))) (omega (arith, one, other))
    ∙ ap (λ t. at f.name (line_after (take o f.text) + feeds (joined (f ∷ fs)) a - feeds (joined (f ∷ fs)) o) (column_after t)) (sym first)

back_next : (f : File) (fs : List File) (a o : ℕ) (p : Place) → a ≤ o → length f.text < a →
    IsBack fs (a - (length f.text + 1)) (o - (length f.text + 1)) p → IsBack (f ∷ fs) a o p
back_next f fs a o p before past rest within =
    let one = feeds_next f.text (joined fs) a past in
    let other = feeds_next f.text (joined fs) o (omega arith) in
    let column : column_after (take (a - (length f.text + 1)) (joined fs)) ≡ column_after (take a (joined (f ∷ fs))) =
    ap (λ n. 1 + n) (sym (ap (suffix_len is_in_line) (take_next f.text (joined fs) a past)
    ∙ suffix_stop f.text (take (a - (length f.text + 1)) (joined fs)))) in
    next f fs a past ∙ rest (omega (arith, one, other, within))
    ∙ ap (λ n. at p.file n (column_after (take (a - (length f.text + 1)) (joined fs)))) (omega (arith, one, other))
    ∙ ap (λ n. at p.file (p.line + feeds (joined (f ∷ fs)) a - feeds (joined (f ∷ fs)) o) n) column

-- a byte of an earlier file is further back
back_far : (f : File) (fs : List File) (a o : ℕ) (p : Place) → a ≤ length f.text → length f.text < o →
    IsNumberAt fs (o - (length f.text + 1)) p → IsBack (f ∷ fs) a o p
back_far f fs a o p le past number within =
    let one = feeds_here f.text (line_feed ∷ joined fs) a le in
    let other = feeds_next f.text (joined fs) o past in
    let few : feeds f.text a ≤ count_by is_line_feed f.text = sum_by-take-le (λ c. cond (is_line_feed c) 1 0) f.text a in
    absurd (omega (arith, one, other, few, number.1, within))

back : (fs : List File) (a o : ℕ) → a ≤ o → IfSome (place_of fs o) (IsBack fs a o)
back [] a o before = tt
back (f ∷ fs) a o before = by (cases_lt (length f.text) o) (cases_lt (length f.text) a) (back fs (a - (length f.text + 1)) (o - (length f.text + 1)) (omega arith))
  where
    by : (length f.text < o) ⊎ (o ≤ length f.text) → (length f.text < a) ⊎ (a ≤ length f.text) →
        IfSome (place_of fs (o - (length f.text + 1))) (IsBack fs (a - (length f.text + 1)) (o - (length f.text + 1))) →
        IfSome (place_of (f ∷ fs) o) (IsBack (f ∷ fs) a o)
    by (inr le) of_a rest = subst (λ r. IfSome r (IsBack (f ∷ fs) a o)) (sym (here f fs o le)) (back_here f fs a o before le)
    by (inl past) (inl later) rest =
        subst (λ r. IfSome r (IsBack (f ∷ fs) a o)) (sym (next f fs o past))
        (if_some (place_of fs (o - (length f.text + 1))) (λ p. back_next f fs a o p before later) rest)
    by (inl past) (inr le) rest =
        subst (λ r. IfSome r (IsBack (f ∷ fs) a o)) (sym (next f fs o past))
        (if_some (place_of fs (o - (length f.text + 1))) (λ p. back_far f fs a o p le past) (numbers fs (o - (length f.text + 1))))

-- ---- lines

-- a number that the source gives
pub number_asked : (fs : List File) (o : ℕ) (file : List ℕ) (line column : ℕ) → place_of fs o ≡ at file line column → IsInLine fs o file line
number_asked fs o file line column e =
    let h : IsNumberAt fs o (record { file = file; line = line; column = column }) = subst (λ r. IfSome r (IsNumberAt fs o)) e (numbers fs o) in
    record { counted = h.0; column = column; place = e }

abbrev column_at : Option Place → ℕ
column_at None = 0
column_at (Some p) = p.column

-- the line before one that isn't the first of its file
pub number_before : (fs : List File) (last : ℕ) (file : List ℕ) (line : ℕ) → last < length (joined fs) → 1 < line →
    place_of fs (last + 1) ≡ at file line 1 → IsInLine fs last file (line - 1)
number_before fs last file line lt more e =
    let place : Place = record { file = file; line = line; column = 1 } in
    let itself : IsBack fs (last + 1) (last + 1) place = subst (λ r. IfSome r (IsBack fs (last + 1) (last + 1))) e (back fs (last + 1) (last + 1) (omega arith)) in
    let before : IsBack fs last (last + 1) place = subst (λ r. IfSome r (IsBack fs last (last + 1))) e (back fs last (last + 1) (omega arith)) in
    let first : 1 ≡ column_after (take (last + 1) (joined fs)) = ap column_at (sym e ∙ itself (omega arith)) in
    let feed = after_feed (joined fs) last lt (omega (arith, first)) in
    record {
      counted = omega arith;
      column = column_after (take last (joined fs));
      place = before (omega (arith, feed)) ∙ ap (λ n. at file n (column_after (take last (joined fs)))) (omega (arith, feed));
    }

pub begins_at : (fs : List File) (offset : ℕ) (l : Line) → Begins fs offset l → place_of fs offset ≡ at l.file.now l.number 1
begins_at fs offset l h = h.0 offset (omega (arith, h.1)) h.2 ∙ ap (λ n. at l.file.now l.number n) (omega (arith, h.1))

-- where the line begins that the last byte is in
pub starts : (fs : List File) (text : List ℕ) (start last : ℕ) → text ≡ joined fs → last ≤ length (joined fs) →
    start + suffix_len is_in_line (take last text) ≡ length (take last text) → start + suffix_len is_in_line (take last (joined fs)) ≡ last
starts fs text start last e le h = (rw e at h) ∙ length-take-le last (joined fs) le

-- a line is known by its last byte
pub line_to : (fs : List File) (file : List ℕ) (line start last : ℕ) → last ≤ length (joined fs) →
    start + suffix_len is_in_line (take last (joined fs)) ≡ last → IsInLine fs last file line →
    (o : ℕ) → start ≤ o → o < last + 1 → place_of fs o ≡ at file line (o - start + 1)
line_to fs file line start last le begins known o from to =
    let all : o + (last - o) ≡ last = omega arith in
    let text : List ℕ = joined fs in
    let on = in_line text o (last - o) (omega arith) (subst (λ n. last - o ≤ suffix_len is_in_line (take n text)) (sym all) (omega (arith, begins))) in
    let length_of : suffix_len is_in_line (take last text) ≡ suffix_len is_in_line (take o text) + (last - o) =
    subst (λ n. suffix_len is_in_line (take n text) ≡ suffix_len is_in_line (take o text) + (last - o)) all on.0 in
    let same : feeds text last ≡ feeds text o = subst (λ n. feeds text n ≡ feeds text o) all on.1 in
    let place : Place = record { file = file; line = line; column = known.column } in
    let before : IsBack fs o last place = subst (λ r. IfSome r (IsBack fs o last)) known.place (back fs o last (omega arith)) in
    before (omega (arith, same, known.counted))
    ∙ ap (λ n. at file n (column_after (take o text))) (omega (arith, same))
    ∙ ap (λ n. at file line n) (omega (arith, begins, length_of))
