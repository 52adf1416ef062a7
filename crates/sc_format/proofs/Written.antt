-- A gap as it is written: it is read as the same gap.
use Rattle.std.proofs.Common.{append_assoc, append-nil, ◌≡◌, ℕ, ◌<◌, zero, suc, Bool, true, false, IsTrue, IsFalse, if◌then◌else◌, ◌==◌, ◌&&◌, ◌||◌, not, List, [], ◌∷◌, ◌++◌, length, map, refl, ap, sym, ◌∙◌, subst, arith}
use Rattle.std.specs.Prelude.{replicate}
use Rattle.std.specs.List.{list_all}
use Rattle.sc_text.specs.Characters.{begins_with, is_comment_part, is_white_space, line_feed, space, tab}
use Rattle.sc_text.specs.Spelling.{white_space, comment}
use Rattle.sc_format.specs.declared.layout.Blank.{Blank}
use Rattle.sc_format.specs.declared.layout.Blank.TheVariants as blank
use Rattle.sc_format.specs.declared.layout.Lead.{Lead}
use Rattle.sc_format.specs.declared.layout.Lead.TheVariants as lead
use Rattle.sc_format.specs.declared.layout.Want.{Want}
use Rattle.sc_format.specs.Gaps.{Gap, Remark, above_text, beside_text, comment_then, comments_of, remark_then, ends_apart, gap_of, gap_of_lines, has_comment, has_line, has_remark, inline_text, is_empty, is_line, keeps_blank, laid_gap, line_start, lines_of, remarks_of, tidied, trimmed, with_first, written}
use Rattle.sc_format.specs.Internal.{lines_after}
use Rattle.sc_format.proofs.Lines.{AreComments, Feeds, IsComment, IsGaps, IsLine, IsWell, a_comment, lines-fed, more, none, trimmed-comment, trimmed-white}

-- ---- lines that begin with tabs

tabs-parts : (n : ℕ) (cs : List ℕ) → IsTrue (list_all is_comment_part cs) → IsTrue (list_all is_comment_part (replicate n tab ++ cs))
tabs-parts zero cs h = h
tabs-parts (suc n) cs h = tabs-parts n cs h

tabs-trimmed : (n : ℕ) (cs : List ℕ) → trimmed (replicate n tab ++ cs) ≡ trimmed cs
tabs-trimmed zero cs = refl
tabs-trimmed (suc n) cs = trimmed-white tab (replicate n tab ++ cs) refl ∙ tabs-trimmed n cs

comment-parts : (cs : List ℕ) → IsComment cs → IsTrue (list_all is_comment_part cs)
comment-parts [] i = elim i [ ]
comment-parts (c ∷ []) i = elim i [ ]
comment-parts (c ∷ d ∷ ds) (a_comment all e) = all

comment-some : (cs : List ℕ) → IsComment cs → is_empty cs ≡ false
comment-some [] i = elim i [ ]
comment-some (c ∷ cs) i = refl

-- ---- what is read of the comments above, and of the end

remark-read : (b : Bool) (l t : List ℕ) (ls : List (List ℕ)) → trimmed l ≡ t → is_empty t ≡ false →
    remarks_of b (l ∷ ls) ≡ record { is_apart = b; text = t } ∷ remarks_of false ls
remark-read b l [] ls e n = let f : true ≡ false = n in cc
remark-read b l (c ∷ cs) ls e n = ap (λ (t : List ℕ). remark_then b t (remarks_of (is_empty t) ls)) e

ends-read : (one two : Bool) (l t : List ℕ) (ls : List (List ℕ)) → trimmed l ≡ t → is_empty t ≡ false →
    ends_apart one two (l ∷ ls) ≡ ends_apart false false ls
ends-read one two l [] ls e n = let f : true ≡ false = n in cc
ends-read true two l (c ∷ cs) ls e n = ap (λ (t : List ℕ). ends_apart (is_empty t) (true && is_empty t) ls) e
ends-read false two l (c ∷ cs) ls e n = ap (λ (t : List ℕ). ends_apart (is_empty t) (false && is_empty t) ls) e

-- the lines of a comment and of what comes after it
start-lines : (n : ℕ) (b : Bool) (cs rest : List ℕ) → IsTrue (list_all is_comment_part cs) → Feeds rest →
    lines_after (line_start n b ++ (cs ++ rest)) ≡ (if b then [] ∷ (replicate n tab ++ cs) ∷ lines_after rest else (replicate n tab ++ cs) ∷ lines_after rest)
start-lines n false cs rest h f =
    ap lines_of (sym (append_assoc (replicate n tab) cs rest)) ∙ lines-fed (replicate n tab ++ cs) rest (tabs-parts n cs h) f
start-lines n true cs rest h f =
    ap (λ (ls : List (List ℕ)). [] ∷ ls)
    (ap lines_of (sym (append_assoc (replicate n tab) cs rest)) ∙ lines-fed (replicate n tab ++ cs) rest (tabs-parts n cs h) f)

above-feeds : (n : ℕ) (rs : List Remark) (last : List ℕ) → Feeds last → Feeds (above_text n rs ++ last)
above-feeds n [] last f = f
above-feeds n (r ∷ rs) last f = refl

one-read : (n : ℕ) (r : Remark) (rest : List ℕ) → IsComment r.text → Feeds rest →
    remarks_of false (lines_after (line_start n r.is_apart ++ (r.text ++ rest))) ≡ r ∷ remarks_of false (lines_after rest)
one-read n r rest i f = go r.is_apart refl
  where
    go : (b : Bool) → b ≡ r.is_apart → remarks_of false (lines_after (line_start n r.is_apart ++ (r.text ++ rest))) ≡ r ∷ remarks_of false (lines_after rest)
    go b e =
        ap (remarks_of false) (start-lines n r.is_apart r.text rest (comment-parts r.text i) f) ∙ both r.is_apart
      where
        both : (b : Bool) → remarks_of false (if b then [] ∷ (replicate n tab ++ r.text) ∷ lines_after rest else (replicate n tab ++ r.text) ∷ lines_after rest)
            ≡ record { is_apart = b; text = r.text } ∷ remarks_of false (lines_after rest)
        both false = remark-read false (replicate n tab ++ r.text) r.text (lines_after rest) (tabs-trimmed n r.text ∙ trimmed-comment r.text i) (comment-some r.text i)
        both true = remark-read true (replicate n tab ++ r.text) r.text (lines_after rest) (tabs-trimmed n r.text ∙ trimmed-comment r.text i) (comment-some r.text i)

one-ends : (n : ℕ) (r : Remark) (rest : List ℕ) → IsComment r.text → Feeds rest →
    ends_apart false false (lines_after (line_start n r.is_apart ++ (r.text ++ rest))) ≡ ends_apart false false (lines_after rest)
one-ends n r rest i f =
    ap (ends_apart false false) (start-lines n r.is_apart r.text rest (comment-parts r.text i) f) ∙ both r.is_apart
  where
    both : (b : Bool) → ends_apart false false (if b then [] ∷ (replicate n tab ++ r.text) ∷ lines_after rest else (replicate n tab ++ r.text) ∷ lines_after rest)
        ≡ ends_apart false false (lines_after rest)
    both false = ends-read false false (replicate n tab ++ r.text) r.text (lines_after rest) (tabs-trimmed n r.text ∙ trimmed-comment r.text i) (comment-some r.text i)
    both true = ends-read true false (replicate n tab ++ r.text) r.text (lines_after rest) (tabs-trimmed n r.text ∙ trimmed-comment r.text i) (comment-some r.text i)

above-read : (n : ℕ) (rs : List Remark) (last : List ℕ) → AreComments rs → Feeds last → remarks_of false (lines_after last) ≡ [] →
    remarks_of false (lines_after (above_text n rs ++ last)) ≡ rs
above-read n [] last h f e = e
above-read n (r ∷ rs) last h f e =
    ap (λ (t : List ℕ). remarks_of false (lines_after t)) (append_assoc (line_start n r.is_apart) (r.text ++ above_text n rs) last
    ∙ ap (λ (t : List ℕ). line_start n r.is_apart ++ t) (append_assoc r.text (above_text n rs) last))
    ∙ one-read n r (above_text n rs ++ last) h.0 (above-feeds n rs last f) ∙ ap (λ (us : List Remark). r ∷ us) (above-read n rs last h.1 f e)

above-ends : (n : ℕ) (rs : List Remark) (last : List ℕ) → AreComments rs → Feeds last →
    ends_apart false false (lines_after (above_text n rs ++ last)) ≡ ends_apart false false (lines_after last)
above-ends n [] last h f = refl
above-ends n (r ∷ rs) last h f =
    ap (λ (t : List ℕ). ends_apart false false (lines_after t)) (append_assoc (line_start n r.is_apart) (r.text ++ above_text n rs) last
    ∙ ap (λ (t : List ℕ). line_start n r.is_apart ++ t) (append_assoc r.text (above_text n rs) last))
    ∙ one-ends n r (above_text n rs ++ last) h.0 (above-feeds n rs last f) ∙ above-ends n rs last h.1 f

tabs-lines : (n : ℕ) → lines_of (replicate n tab) ≡ replicate n tab ∷ []
tabs-lines n =
    ap lines_of (sym (append-nil (replicate n tab)))
    ∙ lines-fed (replicate n tab) [] (subst (λ (t : List ℕ). IsTrue (list_all is_comment_part t)) (append-nil (replicate n tab)) (tabs-parts n [] refl)) tt

tabs-none : (n : ℕ) → trimmed (replicate n tab) ≡ []
tabs-none n = ap trimmed (sym (append-nil (replicate n tab))) ∙ tabs-trimmed n []

start-none : (n : ℕ) (b : Bool) → remarks_of false (lines_after (line_start n b)) ≡ []
start-none n false =
    ap (remarks_of false) (tabs-lines n) ∙ ap (λ (t : List ℕ). remark_then false t []) (tabs-none n)
start-none n true =
    ap (λ (ls : List (List ℕ)). remarks_of true ls) (tabs-lines n) ∙ ap (λ (t : List ℕ). remark_then true t []) (tabs-none n)

start-ends : (n : ℕ) (b : Bool) → ends_apart false false (lines_after (line_start n b)) ≡ b
start-ends n false = ap (ends_apart false false) (tabs-lines n) ∙ ap (λ (t : List ℕ). false && is_empty t) (tabs-none n)
start-ends n true = ap (ends_apart true false) (tabs-lines n) ∙ ap (λ (t : List ℕ). true && is_empty t) (tabs-none n)

-- ---- the comment beside

beside-parts : (cs : List ℕ) → IsLine cs → IsTrue (list_all is_comment_part (beside_text cs))
beside-parts [] i = refl
beside-parts (c ∷ cs) i = comment-parts (c ∷ cs) i

beside-trimmed : (cs : List ℕ) → IsLine cs → trimmed (beside_text cs) ≡ cs
beside-trimmed [] i = refl
beside-trimmed (c ∷ cs) i = trimmed-white space (c ∷ cs) refl ∙ trimmed-comment (c ∷ cs) i

-- ---- the whole

lines-read : (n : ℕ) (g : Gap) → IsWell g → gap_of (beside_text g.beside ++ (above_text n g.above ++ line_start n g.is_apart)) ≡ g
lines-read n g h =
    let last = line_start n g.is_apart in
    ap gap_of_lines (lines-fed (beside_text g.beside) (above_text n g.above ++ last) (beside-parts g.beside h.beside) (above-feeds n g.above last refl))
    ∙ ap (λ (t : List ℕ). record { beside = t; above = remarks_of false (lines_after (above_text n g.above ++ last)); is_apart = ends_apart false false (lines_after (above_text n g.above ++ last)) }) (beside-trimmed g.beside h.beside)
    ∙ ap (λ (rs : List Remark). record { beside = g.beside; above = rs; is_apart = ends_apart false false (lines_after (above_text n g.above ++ last)) }) (above-read n g.above last h.above refl (start-none n g.is_apart))
    ∙ ap (λ (b : Bool). record { beside = g.beside; above = g.above; is_apart = b }) (above-ends n g.above last h.above refl ∙ start-ends n g.is_apart)

-- The gap has the empty lines that are wanted.
pub record IsTidy (w : Want) (g : Gap) : Type 0 where
  pub inline : has_line w g ≡ false → g.is_apart ≡ false

inline-read : (l : Lead) → is_line l ≡ false → gap_of (inline_text l) ≡ record { beside = []; above = []; is_apart = false }
inline-read lead.Line e = let f : true ≡ false = e in cc
inline-read lead.Close e = refl
inline-read lead.Apart e = refl

gap-is : (beside : List ℕ) (above : List Remark) (apart : Bool) → (not (is_empty beside) || has_remark above) ≡ false → apart ≡ false →
    record { beside = []; above = []; is_apart = false } ≡ (let g : Gap = record { beside = beside; above = above; is_apart = apart } in g)
gap-is [] [] apart e f = ap (λ (b : Bool). record { beside = []; above = []; is_apart = b }) (sym f)
gap-is [] (r ∷ rs) apart e f = let x : true ≡ false = e in cc
gap-is (c ∷ cs) above apart e f = let x : true ≡ false = e in cc

or-parts : (a b : Bool) → (a || b) ≡ false → (a ≡ false) × (b ≡ false)
or-parts true b e = let f : true ≡ false = e in cc
or-parts false b e = (refl, e)

written-line : (w : Want) (g : Gap) (b : Bool) → b ≡ has_line w g → IsWell g → IsTidy w g →
    gap_of (beside_text g.beside ++ (above_text w.indent g.above ++ (if b then line_start w.indent g.is_apart else inline_text w.lead))) ≡ g
written-line w g true e h t = lines-read w.indent g h
written-line w g false e h t =
    let parts = or-parts (is_line w.lead) (has_comment g) (sym e) in
    let same = gap-is g.beside g.above g.is_apart parts.1 (t.inline (sym e)) in
    ap (λ (x : Gap). gap_of (beside_text x.beside ++ (above_text w.indent x.above ++ inline_text w.lead))) (sym same)
    ∙ inline-read w.lead parts.0 ∙ same

pub written-read : (w : Want) (g : Gap) → IsWell g → IsTidy w g → gap_of (written w g) ≡ g
written-read w g h t = written-line w g (has_line w g) refl h t

-- ---- tidy gaps

first-remark : (b : Blank) (rs : List Remark) → has_remark (with_first b rs) ≡ has_remark rs
first-remark b [] = refl
first-remark b (r ∷ rs) = refl

first-well : (b : Blank) (rs : List Remark) → AreComments rs → AreComments (with_first b rs)
first-well b [] h = h
first-well b (r ∷ rs) h = h

first-texts : (b : Blank) (rs : List Remark) → map (λ r. r.text) (with_first b rs) ≡ map (λ r. r.text) rs
first-texts b [] = refl
first-texts b (r ∷ rs) = refl

first-again : (b : Blank) (rs : List Remark) → with_first b (with_first b rs) ≡ with_first b rs
first-again b [] = refl
first-again blank.Never (r ∷ rs) = refl
first-again blank.Kept (r ∷ rs) = refl
first-again blank.Always (r ∷ rs) = refl
first-again blank.Start (r ∷ rs) = refl

tidied-comment : (w : Want) (g : Gap) → has_comment (tidied w g) ≡ has_comment g
tidied-comment w g = ap (λ (b : Bool). not (is_empty g.beside) || b) (first-remark w.blank g.above)

tidied-line : (w : Want) (g : Gap) → has_line w (tidied w g) ≡ has_line w g
tidied-line w g = ap (λ (b : Bool). is_line w.lead || b) (tidied-comment w g)

pub tidied-well : (w : Want) (g : Gap) → IsWell g → IsWell (tidied w g)
tidied-well w g h = record { beside = h.beside; above = first-well w.blank g.above h.above }

false-and : (a b : Bool) → a ≡ false → (a && b) ≡ false
false-and true b e = let f : true ≡ false = e in cc
false-and false b e = refl

pub tidied-tidy : (w : Want) (g : Gap) → IsTidy w (tidied w g)
tidied-tidy w g = record { inline = λ e. false-and (has_line w g) (keeps_blank w.blank g) (sym (tidied-line w g) ∙ e) }

comments-again : (cs : List ℕ) (a b : List (List ℕ)) → a ≡ b → comment_then cs a ≡ comment_then cs b
comments-again cs a b e = ap (comment_then cs) e

pub tidied-comments : (w : Want) (g : Gap) → comments_of (tidied w g) ≡ comments_of g
tidied-comments w g = comments-again g.beside _ _ (first-texts w.blank g.above)

abbrev keeps-at : (b : Blank) (line said remark apart : Bool) → Bool
keeps-at blank.Never line said remark apart = line && false
keeps-at blank.Kept line said remark apart = line && apart
keeps-at blank.Always line said remark apart = line && (apart || not remark)
keeps-at blank.Start line said remark apart = line && (said && apart)

keeps-is : (b : Blank) (line : Bool) (g : Gap) → (line && keeps_blank b g) ≡ keeps-at b line (has_comment g) (has_remark g.above) g.is_apart
keeps-is blank.Never line g = refl
keeps-is blank.Kept line g = refl
keeps-is blank.Always line g = refl
keeps-is blank.Start line g = refl

keeps-again : (b : Blank) (line said remark apart : Bool) → keeps-at b line said remark (keeps-at b line said remark apart) ≡ keeps-at b line said remark apart
keeps-again blank.Never line said remark apart = refl
keeps-again blank.Kept true said remark apart = refl
keeps-again blank.Kept false said remark apart = refl
keeps-again blank.Always false said remark apart = refl
keeps-again blank.Always true said true true = refl
keeps-again blank.Always true said true false = refl
keeps-again blank.Always true said false true = refl
keeps-again blank.Always true said false false = refl
keeps-again blank.Start false said remark apart = refl
keeps-again blank.Start true true remark apart = refl
keeps-again blank.Start true false remark apart = refl

pub tidied-again : (w : Want) (g : Gap) → tidied w (tidied w g) ≡ tidied w g
tidied-again w g =
    let apart : (has_line w (tidied w g) && keeps_blank w.blank (tidied w g)) ≡ (has_line w g && keeps_blank w.blank g) =
    ap (λ (l : Bool). l && keeps_blank w.blank (tidied w g)) (tidied-line w g)
    ∙ keeps-is w.blank (has_line w g) (tidied w g)
    ∙ ap (λ (c : Bool). keeps-at w.blank (has_line w g) c (has_remark (with_first w.blank g.above)) (has_line w g && keeps_blank w.blank g)) (tidied-comment w g)
    ∙ ap (λ (r : Bool). keeps-at w.blank (has_line w g) (has_comment g) r (has_line w g && keeps_blank w.blank g)) (first-remark w.blank g.above)
    ∙ ap (keeps-at w.blank (has_line w g) (has_comment g) (has_remark g.above)) (keeps-is w.blank (has_line w g) g)
    ∙ keeps-again w.blank (has_line w g) (has_comment g) (has_remark g.above) g.is_apart
    ∙ sym (keeps-is w.blank (has_line w g) g)
    in
    ap (λ (rs : List Remark). record { beside = g.beside; above = rs; is_apart = has_line w (tidied w g) && keeps_blank w.blank (tidied w g) }) (first-again w.blank g.above)
    ∙ ap (λ (b : Bool). record { beside = g.beside; above = with_first w.blank g.above; is_apart = b }) apart

pub laid-read : (w : Want) (text : List ℕ) → IsWell (gap_of text) → gap_of (laid_gap w text) ≡ tidied w (gap_of text)
laid-read w text h = written-read w (tidied w (gap_of text)) (tidied-well w (gap_of text) h) (tidied-tidy w (gap_of text))

-- a gap that is written again stays
pub laid-again : (w : Want) (text : List ℕ) → IsWell (gap_of text) → laid_gap w (laid_gap w text) ≡ laid_gap w text
laid-again w text h = ap (λ (g : Gap). written w (tidied w g)) (laid-read w text h) ∙ ap (written w) (tidied-again w (gap_of text))

-- it has the same comments
pub laid-comments : (w : Want) (text : List ℕ) → IsWell (gap_of text) → comments_of (gap_of (laid_gap w text)) ≡ comments_of (gap_of text)
laid-comments w text h = ap comments_of (laid-read w text h) ∙ tidied-comments w (gap_of text)

-- ---- white space and comments

white-gap : (c : ℕ) (cs rest : List ℕ) → IsTrue (is_white_space c) → IsGaps cs rest → IsGaps (c ∷ cs) rest
white-gap c cs rest e i = more (white_space e) i

tabs-gaps : (n : ℕ) (cs rest : List ℕ) → IsGaps cs rest → IsGaps (replicate n tab ++ cs) rest
tabs-gaps zero cs rest i = i
tabs-gaps (suc n) cs rest i = white-gap tab (replicate n tab ++ cs) rest refl (tabs-gaps n cs rest i)

start-gaps : (n : ℕ) (b : Bool) (cs rest : List ℕ) → IsGaps cs rest → IsGaps (line_start n b ++ cs) rest
start-gaps n false cs rest i = white-gap line_feed (replicate n tab ++ cs) rest refl (tabs-gaps n cs rest i)
start-gaps n true cs rest i =
    white-gap line_feed (line_feed ∷ (replicate n tab ++ cs)) rest refl (white-gap line_feed (replicate n tab ++ cs) rest refl (tabs-gaps n cs rest i))

fed-stops : (gs rest : List ℕ) → Feeds gs → 0 < length gs → IsFalse (begins_with is_comment_part (gs ++ rest))
fed-stops [] rest f some = absurd (omega arith)
fed-stops (g ∷ gs) rest f some = ap (λ (k : ℕ). not (k == line_feed)) f

comment-gap : (cs gs rest : List ℕ) → IsComment cs → Feeds gs → 0 < length gs → IsGaps gs rest → IsGaps (cs ++ gs) rest
comment-gap [] gs rest i f some h = elim i [ ]
comment-gap (c ∷ []) gs rest i f some h = elim i [ ]
comment-gap (c ∷ d ∷ ds) gs rest (a_comment all e) f some h = more (comment all (fed-stops gs rest f some)) h

above-some : (n : ℕ) (rs : List Remark) (last : List ℕ) → 0 < length last → 0 < length (above_text n rs ++ last)
above-some n [] last h = h
above-some n (r ∷ rs) last h = omega arith

above-gaps : (n : ℕ) (rs : List Remark) (last rest : List ℕ) → AreComments rs → Feeds last → 0 < length last → IsGaps last rest → IsGaps (above_text n rs ++ last) rest
above-gaps n [] last rest h f some i = i
above-gaps n (r ∷ rs) last rest h f some i =
    subst (λ (t : List ℕ). IsGaps t rest)
    (sym (append_assoc (line_start n r.is_apart) (r.text ++ above_text n rs) last
    ∙ ap (λ (t : List ℕ). line_start n r.is_apart ++ t) (append_assoc r.text (above_text n rs) last)))
    (start-gaps n r.is_apart (r.text ++ (above_text n rs ++ last)) rest
    (comment-gap r.text (above_text n rs ++ last) rest h.0 (above-feeds n rs last f) (above-some n rs last some)
    (above-gaps n rs last rest h.1 f some i)))

beside-gaps : (cs gs rest : List ℕ) → IsLine cs → Feeds gs → 0 < length gs → IsGaps gs rest → IsGaps (beside_text cs ++ gs) rest
beside-gaps [] gs rest i f some h = h
beside-gaps (c ∷ cs) gs rest i f some h = white-gap space ((c ∷ cs) ++ gs) rest refl (comment-gap (c ∷ cs) gs rest i f some h)

start-alone : (n : ℕ) (b : Bool) (rest : List ℕ) → IsGaps (line_start n b) rest
start-alone n b rest = subst (λ (t : List ℕ). IsGaps t rest) (append-nil (line_start n b)) (start-gaps n b [] rest none)

inline-gaps : (l : Lead) (rest : List ℕ) → IsGaps (inline_text l) rest
inline-gaps lead.Line rest = none
inline-gaps lead.Close rest = none
inline-gaps lead.Apart rest = white-gap space [] rest refl none

written-gaps-at : (w : Want) (g : Gap) (b : Bool) (rest : List ℕ) → b ≡ has_line w g → IsWell g → IsTidy w g →
    IsGaps (beside_text g.beside ++ (above_text w.indent g.above ++ (if b then line_start w.indent g.is_apart else inline_text w.lead))) rest
written-gaps-at w g true rest e h t =
    let last = line_start w.indent g.is_apart in
    let some : 0 < length last = omega arith in
    beside-gaps g.beside (above_text w.indent g.above ++ last) rest h.beside (above-feeds w.indent g.above last refl)
    (above-some w.indent g.above last some) (above-gaps w.indent g.above last rest h.above refl some (start-alone w.indent g.is_apart rest))
written-gaps-at w g false rest e h t =
    let parts = or-parts (is_line w.lead) (has_comment g) (sym e) in
    let same = gap-is g.beside g.above g.is_apart parts.1 (t.inline (sym e)) in
    subst (λ (x : Gap). IsGaps (beside_text x.beside ++ (above_text w.indent x.above ++ inline_text w.lead)) rest) same (inline-gaps w.lead rest)

pub laid-gaps : (w : Want) (text rest : List ℕ) → IsWell (gap_of text) → IsGaps (laid_gap w text) rest
laid-gaps w text rest h =
    written-gaps-at w (tidied w (gap_of text)) (has_line w (tidied w (gap_of text))) rest refl (tidied-well w (gap_of text) h) (tidied-tidy w (gap_of text))
