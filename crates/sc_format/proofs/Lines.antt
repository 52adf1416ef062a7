-- The lines of a gap that is white space and comments.
use Rattle.std.proofs.Common.{append_assoc, append-nil, ◌≡◌, ℕ, ◌+◌, ◌<◌, suc, Bool, true, false, IsTrue, IsFalse, if◌then◌else◌, ◌==◌, ◌&&◌, not, List, [], ◌∷◌, ◌++◌, length, drop, map, refl, ap, sym, ◌∙◌, subst, arith}
use Rattle.std.specs.List.{list_all, prefix_len}
use Rattle.sc_text.specs.Characters.{begins_with, is_comment_part, is_white_space, line_feed}
use Rattle.sc_text.specs.Spelling.{IsGap, white_space, comment}
use Rattle.sc_format.specs.Elements.{COMMENT, Element, Has, comment_first, white_first}
use Rattle.sc_format.specs.Gaps.{Gap, Remark, comment_then, comments_of, gap_of, gap_of_lines, is_empty, lines_of, onto, remark_then, remarks_of, trimmed, trimmed_end}
use Rattle.sc_format.specs.Internal.{lines_after}

-- white space and comments, before this rest of the text
pub data IsGaps : List ℕ → List ℕ → Type 0 where
  none : {rest : List ℕ} → IsGaps [] rest
  more : {cs gs rest : List ℕ} → IsGap cs (gs ++ rest) → IsGaps gs rest → IsGaps (cs ++ gs) rest

-- a comment with no white space at its end
pub data IsComment : List ℕ → Type 0 where
  a_comment : {ds : List ℕ} → IsTrue (list_all is_comment_part ds) → trimmed_end (45 ∷ 45 ∷ ds) ≡ 45 ∷ 45 ∷ ds → IsComment (45 ∷ 45 ∷ ds)

-- a comment, or nothing
abbrev pub IsLine : List ℕ → Type 0
IsLine [] = Unit {0}
IsLine (c ∷ cs) = IsComment (c ∷ cs)

abbrev pub AreLines : List (List ℕ) → Type 0
AreLines [] = Unit {0}
AreLines (l ∷ ls) = IsLine (trimmed l) × AreLines ls

abbrev pub AreComments : List Remark → Type 0
AreComments [] = Unit {0}
AreComments (r ∷ rs) = IsComment r.text × AreComments rs

pub record IsWell (g : Gap) : Type 0 where
  pub beside : IsLine g.beside
  pub above : AreComments g.above

-- ---- the white space around a line

trimmed_again-at : (c : ℕ) (blank : Bool) (ts : List ℕ) → blank ≡ is_white_space c → trimmed_end ts ≡ ts →
    trimmed_end (if blank && is_empty ts then [] else c ∷ ts) ≡ (if blank && is_empty ts then [] else c ∷ ts)
trimmed_again-at c true [] p e = refl
trimmed_again-at c false [] p e = ap (λ (b : Bool). if b && is_empty [] then [] else c ∷ []) (sym p)
trimmed_again-at c true (d ∷ ds) p e =
    ap (λ (us : List ℕ). if is_white_space c && is_empty us then [] else c ∷ us) e
    ∙ ap (λ (b : Bool). if b && is_empty (d ∷ ds) then [] else c ∷ d ∷ ds) (sym p)
trimmed_again-at c false (d ∷ ds) p e =
    ap (λ (us : List ℕ). if is_white_space c && is_empty us then [] else c ∷ us) e
    ∙ ap (λ (b : Bool). if b && is_empty (d ∷ ds) then [] else c ∷ d ∷ ds) (sym p)

pub trimmed_again : (cs : List ℕ) → trimmed_end (trimmed_end cs) ≡ trimmed_end cs
trimmed_again [] = refl
trimmed_again (c ∷ cs) = trimmed_again-at c (is_white_space c) (trimmed_end cs) refl (trimmed_again cs)

trimmed_all-at : (p : ℕ → Bool) (c : ℕ) (cut : Bool) (ts : List ℕ) → IsTrue (p c && list_all p ts) → IsTrue (list_all p (if cut then [] else c ∷ ts))
trimmed_all-at p c true ts h = refl
trimmed_all-at p c false ts h = h

and-parts : (a b : Bool) → IsTrue (a && b) → IsTrue a × IsTrue b
and-parts true true h = (refl, refl)
and-parts true false h = (refl, h)
and-parts false true h = (h, refl)
and-parts false false h = (h, h)

and-both : (a b : Bool) → IsTrue a → IsTrue b → IsTrue (a && b)
and-both true true g h = refl
and-both true false g h = h
and-both false true g h = g
and-both false false g h = g

trimmed_all : (p : ℕ → Bool) (cs : List ℕ) → IsTrue (list_all p cs) → IsTrue (list_all p (trimmed_end cs))
trimmed_all p [] h = refl
trimmed_all p (c ∷ cs) h =
    let parts = and-parts (p c) (list_all p cs) h in
    trimmed_all-at p c (is_white_space c && is_empty (trimmed_end cs)) (trimmed_end cs)
    (and-both (p c) (list_all p (trimmed_end cs)) parts.0 (trimmed_all p cs parts.1))

-- white space before a line counts for nothing
pub trimmed-white : (c : ℕ) (cs : List ℕ) → IsTrue (is_white_space c) → trimmed (c ∷ cs) ≡ trimmed cs
trimmed-white c cs e =
    let n = prefix_len is_white_space cs in
    let s : 1 + n ≡ suc n = omega arith in
    ap (λ (b : Bool). trimmed_end (drop (if b then 1 + n else 0) (c ∷ cs))) e ∙ ap (λ (k : ℕ). trimmed_end (drop k (c ∷ cs))) s

pub trimmed-comment : (cs : List ℕ) → IsComment cs → trimmed cs ≡ cs
trimmed-comment [] i = elim i [ ]
trimmed-comment (c ∷ []) i = elim i [ ]
trimmed-comment (c ∷ d ∷ ds) (a_comment all e) = e

-- ---- lines

-- these bytes before the first line
abbrev pub before_first : List ℕ → List (List ℕ) → List (List ℕ)
before_first cs [] = cs ∷ []
before_first cs (l ∷ ls) = (cs ++ l) ∷ ls

onto-first : (c : ℕ) (cs : List ℕ) (ls : List (List ℕ)) → onto c (before_first cs ls) ≡ before_first (c ∷ cs) ls
onto-first c cs [] = refl
onto-first c cs (l ∷ ls) = refl

first-nil : (cs : List ℕ) → lines_of cs ≡ before_first [] (lines_of cs)
first-nil cs = some (lines_of cs) (lines-some cs)
  where
    some : (ls : List (List ℕ)) → 0 < length ls → ls ≡ before_first [] ls
    some [] h = absurd (omega arith)
    some (l ∷ ls) h = refl

    onto-some : (c : ℕ) (b : Bool) (ls : List (List ℕ)) → 0 < length (if b then [] ∷ ls else onto c ls)
    onto-some c true ls = omega arith
    onto-some c false [] = omega arith
    onto-some c false (l ∷ ls) = omega arith

    lines-some : (ds : List ℕ) → 0 < length (lines_of ds)
    lines-some [] = omega arith
    lines-some (d ∷ ds) = onto-some d (d == line_feed) (lines_of ds)

not-feed : (b : Bool) → IsTrue (not b) → b ≡ false
not-feed true h = sym h
not-feed false h = refl

-- what has no line feed goes before the first line of what follows
pub lines-before : (cs gs : List ℕ) → IsTrue (list_all is_comment_part cs) → lines_of (cs ++ gs) ≡ before_first cs (lines_of gs)
lines-before [] gs h = first-nil gs
lines-before (c ∷ cs) gs h =
    let parts = and-parts (is_comment_part c) (list_all is_comment_part cs) h in
    ap (λ (b : Bool). if b then [] ∷ lines_of (cs ++ gs) else onto c (lines_of (cs ++ gs))) (not-feed (c == line_feed) parts.0)
    ∙ ap (onto c) (lines-before cs gs parts.1) ∙ onto-first c cs (lines_of gs)

-- a text that is empty or begins with a line feed
abbrev pub Feeds : List ℕ → Type 0
Feeds [] = Unit {0}
Feeds (c ∷ cs) = c ≡ line_feed

pub lines-fed : (cs gs : List ℕ) → IsTrue (list_all is_comment_part cs) → Feeds gs → lines_of (cs ++ gs) ≡ cs ∷ lines_after gs
lines-fed cs [] h f = lines-before cs [] h ∙ ap (λ (us : List ℕ). us ∷ []) (append-nil cs)
lines-fed cs (g ∷ gs) h f =
    lines-before cs (g ∷ gs) h
    ∙ ap (λ (k : ℕ). before_first cs (if k == line_feed then [] ∷ lines_of gs else onto g (lines_of gs))) f
    ∙ ap (λ (us : List ℕ). us ∷ lines_of gs) (append-nil cs)

feeds-by : (gs rest : List ℕ) → IsFalse (begins_with is_comment_part (gs ++ rest)) → Feeds gs
feeds-by [] rest h = tt
feeds-by (g ∷ gs) rest h = feed (g == line_feed) refl h
  where
    feed : (b : Bool) → b ≡ (g == line_feed) → IsFalse (not b) → g ≡ line_feed
    feed true e h = grind arith
    feed false e h = cc

-- ---- comments

abbrev pub texts_of : List (List ℕ) → List (List ℕ)
texts_of [] = []
texts_of (l ∷ ls) = comment_then (trimmed l) (texts_of ls)

remark-texts : (b : Bool) (t : List ℕ) (ls : List (List ℕ)) → ((k : Bool) → map (λ r. r.text) (remarks_of k ls) ≡ texts_of ls) →
    map (λ r. r.text) (remark_then b t (remarks_of (is_empty t) ls)) ≡ comment_then t (texts_of ls)
remark-texts b [] ls h = h true
remark-texts b (c ∷ cs) ls h = ap (λ (us : List (List ℕ)). (c ∷ cs) ∷ us) (h false)

remarks-texts : (b : Bool) (ls : List (List ℕ)) → map (λ r. r.text) (remarks_of b ls) ≡ texts_of ls
remarks-texts b [] = refl
remarks-texts b (l ∷ ls) = remark-texts b (trimmed l) ls (λ (k : Bool). remarks-texts k ls)

pub comments-are : (ls : List (List ℕ)) → comments_of (gap_of_lines ls) ≡ texts_of ls
comments-are [] = refl
comments-are (l ∷ ls) = ap (comment_then (trimmed l)) (remarks-texts false ls)

remark-well : (b : Bool) (t : List ℕ) (ls : List (List ℕ)) → IsLine t → ((k : Bool) → AreComments (remarks_of k ls)) →
    AreComments (remark_then b t (remarks_of (is_empty t) ls))
remark-well b [] ls i h = h true
remark-well b (c ∷ cs) ls i h = (i, h false)

remarks-well : (b : Bool) (ls : List (List ℕ)) → AreLines ls → AreComments (remarks_of b ls)
remarks-well b [] h = tt
remarks-well b (l ∷ ls) h = remark-well b (trimmed l) ls h.0 (λ (k : Bool). remarks-well k ls h.1)

well-lines : (ls : List (List ℕ)) → AreLines ls → IsWell (gap_of_lines ls)
well-lines [] h = record { beside = tt; above = tt }
well-lines (l ∷ ls) h = record { beside = h.0; above = remarks-well false ls h.1 }

-- the lines of a gap
pub record Lined (g rest : List ℕ) : Type 0 where
  pub lines : AreLines (lines_of g)
  pub holds : (es : List Element) → Has rest es → Has (g ++ rest) (map COMMENT (texts_of (lines_of g)) ++ es)

white-lines : (c : ℕ) (b : Bool) (ls : List (List ℕ)) → IsTrue (is_white_space c) → AreLines ls →
    AreLines (if b then [] ∷ ls else onto c ls) × (texts_of (if b then [] ∷ ls else onto c ls) ≡ texts_of ls)
white-lines c true ls e h = ((tt, h), refl)
white-lines c false [] e h =
    let t : trimmed (c ∷ []) ≡ [] = trimmed-white c [] e in
    ((subst IsLine (sym t) tt, tt), ap (λ (u : List ℕ). comment_then u []) t)
white-lines c false (l ∷ ls) e h =
    let t : trimmed (c ∷ l) ≡ trimmed l = trimmed-white c l e in
    ((subst IsLine (sym t) h.0, h.1), ap (λ (u : List ℕ). comment_then u (texts_of ls)) t)

lines-nil : (gs : List ℕ) → Feeds gs → texts_of (lines_of gs) ≡ texts_of (lines_after gs)
lines-nil [] f = refl
lines-nil (g ∷ gs) f = ap (λ (k : ℕ). texts_of (if k == line_feed then [] ∷ lines_of gs else onto g (lines_of gs))) f

after-well : (gs : List ℕ) → Feeds gs → AreLines (lines_of gs) → AreLines (lines_after gs)
after-well [] f h = tt
after-well (g ∷ gs) f h = (subst (λ (k : ℕ). AreLines (if k == line_feed then [] ∷ lines_of gs else onto g (lines_of gs))) f h).1

pub lined : {g rest : List ℕ} → IsGaps g rest → Lined g rest
lined none = record { lines = (tt, tt); holds = λ es h. h }
lined (more {gs = gs} {rest = rest} (white_space {c} e) i) =
    let ih = lined i in
    let both = white-lines c (c == line_feed) (lines_of gs) e ih.lines in
    record {
      lines = both.0;
      holds = λ es h.
          subst (λ (ts : List (List ℕ)). Has (c ∷ (gs ++ rest)) (map COMMENT ts ++ es)) (sym both.1) (white_first {c = c} e (ih.holds es h));
    }
lined (more {gs = gs} {rest = rest} (comment {cs = ds} all stops) i) =
    let ih = lined i in
    let feeds = feeds-by gs rest stops in
    let lines : lines_of (45 ∷ 45 ∷ (ds ++ gs)) ≡ (45 ∷ 45 ∷ ds) ∷ lines_after gs = lines-fed (45 ∷ 45 ∷ ds) gs all feeds in
    let is : IsComment (45 ∷ 45 ∷ trimmed_end ds) = a_comment (trimmed_all is_comment_part ds all) (trimmed_again (45 ∷ 45 ∷ ds)) in
    record {
      lines = subst AreLines (sym lines) (is, after-well gs feeds ih.lines);
      holds = λ es h.
          subst (λ (ls : List (List ℕ)). Has ((45 ∷ 45 ∷ (ds ++ gs)) ++ rest) (map COMMENT (texts_of ls) ++ es)) (sym lines)
          (subst (λ (ts : List (List ℕ)). Has ((45 ∷ 45 ∷ (ds ++ gs)) ++ rest) (COMMENT (trimmed_end (45 ∷ 45 ∷ ds)) ∷ (map COMMENT ts ++ es)))
          (lines-nil gs feeds)
          (subst (λ (t : List ℕ). Has (45 ∷ 45 ∷ t) (COMMENT (trimmed_end (45 ∷ 45 ∷ ds)) ∷ (map COMMENT (texts_of (lines_of gs)) ++ es)))
          (sym (append_assoc ds gs rest)) (comment_first ds all stops (ih.holds es h))));
    }

pub well : {g rest : List ℕ} → IsGaps g rest → IsWell (gap_of g)
well {g} i = well-lines (lines_of g) (lined i).lines

pub holds : {g rest : List ℕ} → IsGaps g rest → (es : List Element) → Has rest es → Has (g ++ rest) (map COMMENT (comments_of (gap_of g)) ++ es)
holds {g} {rest} i es h =
    subst (λ (ts : List (List ℕ)). Has (g ++ rest) (map COMMENT ts ++ es)) (sym (comments-are (lines_of g))) ((lined i).holds es h)
