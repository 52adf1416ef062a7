-- The lines of a gap, and the white space around them.
use Rattle.std.proofs.Common.{eq-eqb, ne_eqb, append_assoc, append-nil, add-one, drop-cons, get_or, ◌≡◌, ℕ, ◌+◌, ◌-◌, ◌≤◌, ◌<◌, suc, Bool, true, false, if◌then◌else◌, ◌==◌, ◌&&◌, not, List, [], ◌∷◌, ◌++◌, length, take, drop, map, refl, ap, sym, ◌∙◌, arith}
use Rattle.std.proofs.lemmas.Grind.{common_steps}
use Rattle.std.specs.List.{prefix_len}
use Rattle.sc_text.specs.Characters.{is_comment_part, is_white_space, line_feed}
use Rattle.std.proofs.lemmas.List.{drop_all}
use Rattle.sc_format.specs.declared.gap.Remark as code
use Rattle.sc_format.specs.declared.layout.Blank.{Blank}
use Rattle.sc_format.specs.Gaps.{Remark, above_text, first_apart, with_first, gap_of, gap_of_lines, ends_apart, line_start, remark_in, is_empty, lines_of, onto, remark_then, remarks_of, trimmed, trimmed_end}
use Rattle.sc_format.specs.Internal.{end_from, lines_after}

-- ---- the white space at the end

abbrev end_or : ℕ → ℕ → List ℕ → ℕ
end_or at end [] = end
end_or at end (c ∷ cs) = at + length (c ∷ cs)

end_step : (at end c : ℕ) (blank : Bool) (ts : List ℕ) → end_or (at + 1) (if blank then end else at + 1) ts ≡ end_or at end (if blank && is_empty ts then [] else c ∷ ts)
end_step at end c true [] = refl
end_step at end c false [] = refl
end_step at end c true (d ∷ ds) = omega arith
end_step at end c false (d ∷ ds) = omega arith

pub end_from-is : (at end : ℕ) (cs : List ℕ) → end_from at end cs ≡ end_or at end (trimmed_end cs)
end_from-is at end [] = refl
end_from-is at end (c ∷ cs) =
    end_from-is (at + 1) (if is_white_space c then end else at + 1) cs ∙ end_step at end c (is_white_space c) (trimmed_end cs)

end_or-start : (ts : List ℕ) → end_or 0 0 ts ≡ length ts
end_or-start [] = refl
end_or-start (c ∷ cs) = omega arith

pub end_from-start : (cs : List ℕ) → end_from 0 0 cs ≡ length (trimmed_end cs)
end_from-start cs = end_from-is 0 0 cs ∙ end_or-start (trimmed_end cs)

take_step : (c : ℕ) (cs ts : List ℕ) (cut : Bool) → take (length ts) cs ≡ ts → take (length (if cut then [] else c ∷ ts)) (c ∷ cs) ≡ (if cut then [] else c ∷ ts)
take_step c cs ts true e = refl
take_step c cs ts false e = ap (λ (us : List ℕ). c ∷ us) e

pub take-trimmed : (cs : List ℕ) → take (length (trimmed_end cs)) cs ≡ trimmed_end cs
take-trimmed [] = refl
take-trimmed (c ∷ cs) = take_step c cs (trimmed_end cs) (is_white_space c && is_empty (trimmed_end cs)) (take-trimmed cs)

-- ---- lines

-- the first line, and the others
abbrev pub parted : List ℕ → ℕ → List (List ℕ)
parted cs n = take n cs ∷ lines_after (drop n cs)

line_step : (c n : ℕ) (cs : List ℕ) (feed : Bool) → lines_of cs ≡ parted cs n →
    (if feed then [] ∷ lines_of cs else onto c (lines_of cs)) ≡ parted (c ∷ cs) (if not feed then 1 + n else 0)
line_step c n cs true e = refl
line_step c n cs false e = let s : 1 + n ≡ suc n = omega arith in rw s (ap (onto c) e)

pub lines_of-parted : (cs : List ℕ) → lines_of cs ≡ parted cs (prefix_len is_comment_part cs)
lines_of-parted [] = refl
lines_of-parted (c ∷ cs) = line_step c (prefix_len is_comment_part cs) cs (c == line_feed) (lines_of-parted cs)

pub trimmed-cut : (text begun cut : List ℕ) (n m : ℕ) → begun ≡ drop n text → n ≡ prefix_len is_white_space text →
    m ≡ length (trimmed_end begun) → cut ≡ take m begun → cut ≡ trimmed text
trimmed-cut text begun cut n m p q r s =
    s ∙ ap (λ (k : ℕ). take k begun) r ∙ take-trimmed begun ∙ ap trimmed_end (p ∙ ap (λ (k : ℕ). drop k text) q)

pub rest_all : {A : Type 0} (x : A) (xs : List A) → take (length (x ∷ xs) - 1) (drop 1 (x ∷ xs)) ≡ xs
rest_all x xs = grind (arith, common_steps)

pub lines_after-step : (rest begun line more : List ℕ) (n : ℕ) → 0 < length rest → begun ≡ take (length rest - 1) (drop 1 rest) →
    n ≡ prefix_len is_comment_part begun → line ≡ take n begun → more ≡ drop n begun →
    lines_after rest ≡ line ∷ lines_after more
lines_after-step [] begun line more n some p q r s = absurd (omega arith)
lines_after-step (c ∷ cs) begun line more n some p q r s =
    let e : begun ≡ cs = p ∙ rest_all c cs in
    let m : prefix_len is_comment_part cs ≡ n = ap (prefix_len is_comment_part) (sym e) ∙ sym q in
    lines_of-parted cs ∙ ap (parted cs) m ∙ ap (λ (ds : List ℕ). parted ds n) (sym e)
    ∙ ap (λ (l : List ℕ). l ∷ lines_after (drop n begun)) (sym r) ∙ ap (λ (ms : List ℕ). line ∷ lines_after ms) (sym s)

-- ---- a line more

empty_more : (one : Bool) (l : List ℕ) (ls : List (List ℕ)) → trimmed l ≡ [] → remarks_of one (l ∷ ls) ≡ remarks_of true ls
empty_more one l ls e = ap (λ (t : List ℕ). remark_then one t (remarks_of (is_empty t) ls)) e

empty_ends : (one two : Bool) (l : List ℕ) (ls : List (List ℕ)) → trimmed l ≡ [] → ends_apart one two (l ∷ ls) ≡ ends_apart true one ls
empty_ends true two l ls e = ap (λ (t : List ℕ). ends_apart (is_empty t) (true && is_empty t) ls) e
empty_ends false two l ls e = ap (λ (t : List ℕ). ends_apart (is_empty t) (false && is_empty t) ls) e

full_more : (one : Bool) (l : List ℕ) (ls : List (List ℕ)) (t : List ℕ) → trimmed l ≡ t → 0 < length t →
    remarks_of one (l ∷ ls) ≡ record { is_apart = one; text = t } ∷ remarks_of false ls
full_more one l ls [] e some = absurd (omega arith)
full_more one l ls (c ∷ cs) e some = ap (λ (t : List ℕ). remark_then one t (remarks_of (is_empty t) ls)) e

full_ends : (one two : Bool) (l : List ℕ) (ls : List (List ℕ)) (t : List ℕ) → trimmed l ≡ t → 0 < length t →
    ends_apart one two (l ∷ ls) ≡ ends_apart false false ls
full_ends one two l ls [] e some = absurd (omega arith)
full_ends true two l ls (c ∷ cs) e some = ap (λ (t : List ℕ). ends_apart (is_empty t) (true && is_empty t) ls) e
full_ends false two l ls (c ∷ cs) e some = ap (λ (t : List ℕ). ends_apart (is_empty t) (false && is_empty t) ls) e

pub comments-empty : (rs all : List Remark) (one : Bool) (rest l : List ℕ) (ls : List (List ℕ)) → lines_after rest ≡ l ∷ ls →
    trimmed l ≡ [] → rs ++ remarks_of one (lines_after rest) ≡ all → rs ++ remarks_of true ls ≡ all
comments-empty rs all one rest l ls p e was =
    sym (ap (λ (ms : List (List ℕ)). rs ++ remarks_of one ms) p ∙ ap (λ (us : List Remark). rs ++ us) (empty_more one l ls e)) ∙ was

pub ends-empty : (one two all : Bool) (rest l : List ℕ) (ls : List (List ℕ)) → lines_after rest ≡ l ∷ ls →
    trimmed l ≡ [] → ends_apart one two (lines_after rest) ≡ all → ends_apart true one ls ≡ all
ends-empty one two all rest l ls p e was = sym (ap (ends_apart one two) p ∙ empty_ends one two l ls e) ∙ was

pub comments-full : (rs all : List Remark) (one : Bool) (rest l t : List ℕ) (ls : List (List ℕ)) → lines_after rest ≡ l ∷ ls →
    trimmed l ≡ t → 0 < length t → rs ++ remarks_of one (lines_after rest) ≡ all →
    (rs ++ record { is_apart = one; text = t } ∷ []) ++ remarks_of false ls ≡ all
comments-full rs all one rest l t ls p e some was =
    append_assoc rs (record { is_apart = one; text = t } ∷ []) (remarks_of false ls)
    ∙ sym (ap (λ (ms : List (List ℕ)). rs ++ remarks_of one ms) p ∙ ap (λ (us : List Remark). rs ++ us) (full_more one l ls t e some)) ∙ was

pub ends-full : (one two all : Bool) (rest l t : List ℕ) (ls : List (List ℕ)) → lines_after rest ≡ l ∷ ls →
    trimmed l ≡ t → 0 < length t → ends_apart one two (lines_after rest) ≡ all → ends_apart false false ls ≡ all
ends-full one two all rest l t ls p e some was = sym (ap (ends_apart one two) p ∙ full_ends one two l ls t e some) ∙ was

-- ---- writing

regroup : (a b c d : List ℕ) → (a ++ (b ++ c)) ++ d ≡ a ++ (b ++ (c ++ d))
regroup a b c d = simp append_assoc

pub above-more : (n i : ℕ) (xs : List code.Remark) (d : code.Remark) (out out1 all : List ℕ) → i < length xs →
    out1 ≡ out ++ (line_start n (get_or xs i d).is_apart ++ (get_or xs i d).text.now) →
    out ++ above_text n (map remark_in (drop i xs)) ≡ all → out1 ++ above_text n (map remark_in (drop (i + 1) xs)) ≡ all
above-more n i xs d out out1 all h p was =
    let x = get_or xs i d in
    let rest = above_text n (map remark_in (drop (i + 1) xs)) in
    let e : drop i xs ≡ x ∷ drop (i + 1) xs = rw add-one (drop-cons xs i d h) in
    ap (λ (o : List ℕ). o ++ rest) p ∙ regroup out (line_start n x.is_apart) x.text.now rest
    ∙ sym (ap (λ (ys : List code.Remark). out ++ above_text n (map remark_in ys)) e) ∙ was

pub above-done : (n i : ℕ) (b : Blank) (xs : List code.Remark) (d : code.Remark) (apart : Bool) (out out1 out2 : List ℕ) →
    1 ≤ length xs → apart ≡ first_apart b (get_or xs 0 d).is_apart →
    out1 ≡ out ++ (line_start n apart ++ (get_or xs 0 d).text.now) →
    length (take (length xs - 1) (drop 1 xs)) ≤ i →
    out2 ++ above_text n (map remark_in (drop i (take (length xs - 1) (drop 1 xs))))
    ≡ out1 ++ above_text n (map remark_in (take (length xs - 1) (drop 1 xs))) →
    out2 ≡ out ++ above_text n (with_first b (map remark_in xs))
above-done n i b [] d apart out out1 out2 some p q le was = absurd (omega arith)
above-done n i b (x ∷ xs) d apart out out1 out2 some p q le was =
    let rest = take (length (x ∷ xs) - 1) (drop 1 (x ∷ xs)) in
    sym (append-nil out2) ∙ sym (ap (λ (ys : List code.Remark). out2 ++ above_text n (map remark_in ys)) (drop_all i rest le)) ∙ was
    ∙ ap (λ (ys : List code.Remark). out1 ++ above_text n (map remark_in ys)) (rest_all x xs)
    ∙ ap (λ (o : List ℕ). o ++ above_text n (map remark_in xs)) q
    ∙ regroup out (line_start n apart) x.text.now (above_text n (map remark_in xs))
    ∙ ap (λ (a : Bool). out ++ (line_start n a ++ (x.text.now ++ above_text n (map remark_in xs)))) p

-- ---- tests on lengths

pub nil-from : (xs : List ℕ) (b : Bool) → b ≡ (length xs == 0) → b ≡ true → xs ≡ []
nil-from [] b e t = refl
nil-from (x ∷ xs) b e t = let n : (length (x ∷ xs) == 0) ≡ false = ne_eqb _ _ (omega arith) in cc

pub some-from : (xs : List ℕ) (b : Bool) → b ≡ (length xs == 0) → b ≡ false → 0 < length xs
some-from [] b e t = let n : (length {A = ℕ} [] == 0) ≡ true = eq-eqb (length {A = ℕ} []) 0 refl in let f : true ≡ false = sym n ∙ sym e ∙ t in cc
some-from (x ∷ xs) b e t = omega arith

-- ---- all lines

-- what is read once no line is left
pub gap-read : (text first after cut rest : List ℕ) (n : ℕ) (rs : List Remark) (one two : Bool) →
    n ≡ prefix_len is_comment_part text → first ≡ take n text → after ≡ drop n text → cut ≡ trimmed first → rest ≡ [] →
    rs ++ remarks_of one (lines_after rest) ≡ remarks_of false (lines_after after) →
    ends_apart one two (lines_after rest) ≡ ends_apart false false (lines_after after) →
    record { beside = cut; above = rs; is_apart = two } ≡ gap_of text
gap-read text first after cut rest n rs one two p q r s none comments ends =
    let lines : lines_of text ≡ first ∷ lines_after after =
    lines_of-parted text ∙ ap (parted text) (sym p) ∙ ap (λ (l : List ℕ). l ∷ lines_after (drop n text)) (sym q)
    ∙ ap (λ (ms : List ℕ). first ∷ lines_after ms) (sym r)
    in
    let above : rs ≡ remarks_of false (lines_after after) =
    sym (append-nil rs) ∙ sym (ap (λ (t : List ℕ). rs ++ remarks_of one (lines_after t)) none) ∙ comments
    in
    let apart : two ≡ ends_apart false false (lines_after after) =
    sym (ap (λ (t : List ℕ). ends_apart one two (lines_after t)) none) ∙ ends
    in
    ap (λ (b : List ℕ). record { beside = b; above = rs; is_apart = two }) s
    ∙ ap (λ (us : List Remark). record { beside = trimmed first; above = us; is_apart = two }) above
    ∙ ap (λ (b : Bool). record { beside = trimmed first; above = remarks_of false (lines_after after); is_apart = b }) apart
    ∙ ap gap_of_lines (sym lines)
