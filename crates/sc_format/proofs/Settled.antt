-- A text in its layout has the same tokens and comments, and its layout is itself.
use Rattle.std.proofs.Common.{if◌then◌else◌, take, append-nil, ◌≡◌, ℕ, ◌+◌, ◌-◌, ◌<◌, Bool, true, ◌||◌, List, [], ◌∷◌, ◌++◌, length, drop, map, refl, ap, sym, ◌∙◌, subst, arith}
use Rattle.sc_text.specs.Characters.{line_feed}
use Rattle.sc_text.specs.Kind.{Kind}
use Rattle.sc_text.specs.Spelling.{Lexeme, white_space, comment, IsToken, Spells}
use Rattle.sc_format.specs.declared.layout.Blank.TheVariants as blank
use Rattle.sc_format.specs.declared.layout.State.{State}
use Rattle.sc_format.specs.declared.layout.Want.{Want}
use Rattle.sc_format.specs.Elements.{COMMENT, TOKEN, Element, Has, HaveSame, nothing, token_first}
use Rattle.sc_format.specs.Formatted.{IsLaidOut, laid, laid_out, wanted}
use Rattle.sc_format.specs.Gaps.{Remark, above_text, comments_of, gap_of, has_comment, has_line, inline_text, is_line, laid_gap, line_start, lines_of, tidied}
use Rattle.sc_format.specs.Layout.{after, line, role_of, start}
use Rattle.sc_format.proofs.Lines.{IsGaps, comments-are, holds, more, none, well}
use Rattle.sc_format.proofs.Reading.{rest_all}
use Rattle.sc_format.proofs.Splits.{IsSplit, part, part-laid, spelled-split, split, tail}
use Rattle.sc_format.proofs.Touching.{follows}
use Rattle.sc_format.proofs.Written.{laid-again, laid-comments, laid-gaps}

-- the output of a text from a place on
pub record IsSettled (text output : List ℕ) (place : ℕ) (s : State) (before : List ℕ) : Type 0 where
  pub tokens : List Lexeme
  pub split : IsSplit place output tokens
  pub again : laid output (place + 1) tokens s before ≡ output
  pub elements : List Element
  pub old : Has text elements
  pub new : Has output elements

-- a gap and its layout have the same comments
same-comments : (w : Want) (g rest : List ℕ) (es : List Element) → IsGaps g rest → Has rest es → (later : List ℕ) → Has later es →
    IsGaps (laid_gap w g) later → Has (laid_gap w g ++ later) (map COMMENT (comments_of (gap_of g)) ++ es)
same-comments w g rest es i h later u j =
    subst (λ (cs : List (List ℕ)). Has (laid_gap w g ++ later) (map COMMENT cs ++ es)) (laid-comments w g (well i)) (holds j es u)

tail-settled : (place : ℕ) (g : List ℕ) (s : State) (before : List ℕ) → IsGaps g [] → IsSettled g (laid_gap (line 0 blank.Never) g) place s before
tail-settled place g s before i =
    let w = line 0 blank.Never in
    let j = laid-gaps w g [] (well i) in
    record {
      tokens = [];
      split = tail j;
      again = laid-again w g (well i);
      elements = map COMMENT (comments_of (gap_of g)) ++ [];
      old = subst (λ (t : List ℕ). Has t (map COMMENT (comments_of (gap_of g)) ++ [])) (append-nil g) (holds i [] nothing);
      new = subst (λ (t : List ℕ). Has t (map COMMENT (comments_of (gap_of g)) ++ [])) (append-nil (laid_gap w g)) (same-comments w g [] [] i nothing [] nothing j);
    }

pub settled : {at : ℕ} {text : List ℕ} {ts : List Lexeme} → IsSplit at text ts → (from place : ℕ) → from ≡ at + 1 → (s : State) (before : List ℕ) →
    IsSettled text (laid text from ts s before) place s before
settled (tail {g = g} i) from place e s before = tail-settled place g s before i
settled (part {place = p0} {text} g v left l at next {ts} p q r i j h) from place e s before =
    let s1 = after s (role_of l) in
    let rest = laid left (next + 1) ts s1 v in
    let w = wanted s (role_of l) before v in
    let ih = settled h (next + 1) (place + length (laid_gap w g) + length v) refl s1 v in
    let gaps = laid-gaps w g (v ++ rest) (well i) in
    let one = follows h (next + 1) refl s1 l v left j in
    let out : laid text from (record { kind = l; span = record { start = at; end = next } } ∷ ts) s before ≡ laid_gap w g ++ (v ++ rest) =
    part-laid from text g v left l at next ts s before p (omega (arith, e, q)) r
    in
    let new_at = place + length (laid_gap w g) in
    subst (λ (o : List ℕ). IsSettled text o place s before) (sym out) (record {
      tokens = record { kind = l; span = record { start = new_at; end = new_at + length v } } ∷ ih.tokens;
      split = part (laid_gap w g) v rest l new_at (new_at + length v) refl refl refl gaps one ih.split;
      again =
          part-laid (place + 1) (laid_gap w g ++ (v ++ rest)) (laid_gap w g) v rest l new_at (new_at + length v) ih.tokens s before refl (omega arith) refl
          ∙ ap (λ (t : List ℕ). laid_gap w (laid_gap w g) ++ (v ++ t)) ih.again
          ∙ ap (λ (t : List ℕ). t ++ (v ++ rest)) (laid-again w g (well i));
      elements = map COMMENT (comments_of (gap_of g)) ++ TOKEN l v ∷ ih.elements;
      old = subst (λ (t : List ℕ). Has t (map COMMENT (comments_of (gap_of g)) ++ TOKEN l v ∷ ih.elements)) (sym p) (holds i (TOKEN l v ∷ ih.elements) (token_first j ih.old));
      new = same-comments w g (v ++ left) (TOKEN l v ∷ ih.elements) i (token_first j ih.old) (v ++ rest) (token_first one ih.new) gaps;
    })

-- ---- from the start on

-- what begins with a line feed is laid with one at its beginning
pub record Led (w : Want) (g : List ℕ) : Type 0 where
  pub rest : List ℕ
  pub is : laid_gap w (line_feed ∷ g) ≡ line_feed ∷ rest

above-led : (n : ℕ) (rs : List Remark) (apart : Bool) → (u : List ℕ) × (above_text n rs ++ line_start n apart ≡ line_feed ∷ u)
above-led n [] apart = (_, refl)
above-led n (r ∷ rs) apart = (_, refl)

line-led : (w : Want) (rs : List Remark) (apart b : Bool) → b ≡ true →
    (u : List ℕ) × (above_text w.indent rs ++ (if b then line_start w.indent apart else inline_text w.lead) ≡ line_feed ∷ u)
line-led w rs apart b e =
    let o = above-led w.indent rs apart in
    (o.0, ap (λ (x : Bool). above_text w.indent rs ++ (if x then line_start w.indent apart else inline_text w.lead)) e ∙ o.1)

or-true : (a b : Bool) → a ≡ true → (a || b) ≡ true
or-true a b e = ap (λ (x : Bool). x || b) e

pub led : (w : Want) (g : List ℕ) → is_line w.lead ≡ true → Led w g
led w g e =
    let x = tidied w (gap_of (line_feed ∷ g)) in
    let o = line-led w x.above x.is_apart (has_line w x) (or-true (is_line w.lead) (has_comment x) e) in
    record { rest = o.0; is = o.1 }

white-gaps : (g rest : List ℕ) → IsGaps g rest → IsGaps (line_feed ∷ g) rest
white-gaps g rest i = more (white_space {c = line_feed} refl) i

tail-is : (c d : ℕ) (cs ds : List ℕ) → c ∷ cs ≡ d ∷ ds → cs ≡ ds
tail-is c d cs ds e = ap (drop 1) e

gaps-tail : {x rest : List ℕ} → IsGaps x rest → (g : List ℕ) → x ≡ line_feed ∷ g → IsGaps g rest
gaps-tail none g e = absurd (let v : ⊥ = cc in v)
gaps-tail {rest = rest} (more {gs = gs} (white_space {c} h) i) g e = subst (λ (t : List ℕ). IsGaps t rest) (tail-is c line_feed gs g e) i
gaps-tail (more (comment all stops) i) g e = absurd (let v : ⊥ = cc in v)

led-comments : (g : List ℕ) → comments_of (gap_of (line_feed ∷ g)) ≡ comments_of (gap_of g)
led-comments g = comments-are (lines_of (line_feed ∷ g)) ∙ sym (comments-are (lines_of g))

-- the output of a text, with a line feed before it
pub record IsDone (text output : List ℕ) : Type 0 where
  pub tokens : List Lexeme
  pub split : IsSplit 0 output tokens
  pub again : line_feed ∷ output ≡ laid_out output tokens
  pub same : HaveSame text output

-- The first gap of a text has a line feed before it.
first-same : (w : Want) (g u rest later : List ℕ) (es : List Element) → laid_gap w (line_feed ∷ g) ≡ line_feed ∷ u → IsGaps g rest → IsGaps u later →
    Has later es → Has (u ++ later) (map COMMENT (comments_of (gap_of g)) ++ es)
first-same w g u rest later es e i j h =
    let cs : comments_of (gap_of u) ≡ comments_of (gap_of g) =
    sym (led-comments u) ∙ ap (λ (t : List ℕ). comments_of (gap_of t)) (sym e)
    ∙ laid-comments w (line_feed ∷ g) (well (white-gaps g rest i)) ∙ led-comments g
    in
    subst (λ (xs : List (List ℕ)). Has (u ++ later) (map COMMENT xs ++ es)) cs (holds j es h)

tail-done : (g output : List ℕ) → IsGaps g [] → line_feed ∷ output ≡ laid_gap (line 0 blank.Never) (line_feed ∷ g) → IsDone g output
tail-done g output i e =
    let w = line 0 blank.Never in
    let led_gaps = white-gaps g [] i in
    let j = gaps-tail (laid-gaps w (line_feed ∷ g) [] (well led_gaps)) output (sym e) in
    record {
      tokens = [];
      split = tail j;
      again = e ∙ sym (laid-again w (line_feed ∷ g) (well led_gaps)) ∙ ap (laid_gap w) (sym e);
      same = record {
        elements = map COMMENT (comments_of (gap_of g)) ++ [];
        before = subst (λ (t : List ℕ). Has t (map COMMENT (comments_of (gap_of g)) ++ [])) (append-nil g) (holds i [] nothing);
        after = subst (λ (t : List ℕ). Has t (map COMMENT (comments_of (gap_of g)) ++ [])) (append-nil output) (first-same w g output [] [] [] (sym e) i j nothing);
      };
    }

part-done : (text output g v left : List ℕ) (l : Kind) (at next : ℕ) (ts : List Lexeme) → text ≡ g ++ (v ++ left) → at ≡ 0 + length g → next ≡ at + length v →
    IsGaps g (v ++ left) → IsToken l v left → IsSplit next left ts →
    line_feed ∷ output ≡ laid_out text (record { kind = l; span = record { start = at; end = next } } ∷ ts) → IsDone text output
part-done text output g v left l at next ts p q r i j h e =
    let s1 = after start (role_of l) in
    let rest = laid left (next + 1) ts s1 v in
    let w = wanted start (role_of l) [] v in
    let first = led w g refl in
    let u = first.rest in
    let gaps = gaps-tail (laid-gaps w (line_feed ∷ g) (v ++ rest) (well (white-gaps g (v ++ left) i))) u first.is in
    let one = follows h (next + 1) refl s1 l v left j in
    let ih = settled h (next + 1) (length u + length v) refl s1 v in
    let out : line_feed ∷ output ≡ line_feed ∷ (u ++ (v ++ rest)) =
    e ∙ part-laid 0 (line_feed ∷ text) (line_feed ∷ g) v left l at next ts start [] (ap (λ (t : List ℕ). line_feed ∷ t) p) (omega (arith, q)) r
    ∙ ap (λ (t : List ℕ). t ++ (v ++ rest)) first.is
    in
    subst (λ (o : List ℕ). IsDone text o) (sym (tail-is line_feed line_feed output (u ++ (v ++ rest)) out)) (record {
      tokens = record { kind = l; span = record { start = length u; end = length u + length v } } ∷ ih.tokens;
      split = part u v rest l (length u) (length u + length v) refl (omega arith) refl gaps one ih.split;
      again = sym (
          part-laid 0 (line_feed ∷ (u ++ (v ++ rest))) (line_feed ∷ u) v rest l (length u) (length u + length v) ih.tokens start [] refl (omega arith) refl
          ∙ ap (λ (t : List ℕ). laid_gap w (line_feed ∷ u) ++ (v ++ t)) ih.again
          ∙ ap (λ (t : List ℕ). laid_gap w t ++ (v ++ rest)) (sym first.is)
          ∙ ap (λ (t : List ℕ). t ++ (v ++ rest)) (laid-again w (line_feed ∷ g) (well (white-gaps g (v ++ left) i)))
          ∙ ap (λ (t : List ℕ). t ++ (v ++ rest)) first.is);
      same = record {
        elements = map COMMENT (comments_of (gap_of g)) ++ TOKEN l v ∷ ih.elements;
        before = subst (λ (t : List ℕ). Has t (map COMMENT (comments_of (gap_of g)) ++ TOKEN l v ∷ ih.elements)) (sym p) (holds i (TOKEN l v ∷ ih.elements) (token_first j ih.old));
        after = first-same w g u (v ++ left) (v ++ rest) (TOKEN l v ∷ ih.elements) first.is i gaps (token_first one ih.new);
      };
    })

done : {place : ℕ} {text : List ℕ} {ts : List Lexeme} → IsSplit place text ts → place ≡ 0 → (output : List ℕ) → line_feed ∷ output ≡ laid_out text ts → IsDone text output
done (tail {g = g} i) z output e = tail-done g output i e
done (part {place} {text} g v left l at next {ts} p q r i j h) z output e =
    part-done text output g v left l at next ts p (q ∙ ap (λ (n : ℕ). n + length g) z) r i j h e

pub laid-same : (text output : List ℕ) (ts : List Lexeme) → Spells text ts → line_feed ∷ output ≡ laid_out text ts → HaveSame text output
laid-same text output ts s e = (done (split s refl) refl output e).same

pub laid-settled : (text output : List ℕ) (ts : List Lexeme) → Spells text ts → line_feed ∷ output ≡ laid_out text ts → IsLaidOut output output
laid-settled text output ts s e =
    let d = done (split s refl) refl output e in
    record { tokens = d.tokens; spelled = spelled-split d.split; laid = d.again }

-- ---- the output without its line feed

first-led : {place : ℕ} {text : List ℕ} {ts : List Lexeme} → IsSplit place text ts → place ≡ 0 → (u : List ℕ) × (laid_out text ts ≡ line_feed ∷ u)
first-led (tail {g = g} i) z = let o = led (line 0 blank.Never) g refl in (o.rest, o.is)
first-led (part {place} {text} g v left l at next {ts} p q r i j h) z =
    let s1 = after start (role_of l) in
    let o = led (wanted start (role_of l) [] v) g refl in (
      o.rest ++ (v ++ laid left (next + 1) ts s1 v),
      part-laid 0 (line_feed ∷ text) (line_feed ∷ g) v left l at next ts start [] (ap (λ (t : List ℕ). line_feed ∷ t) p) (omega (arith, q, z)) r
          ∙ ap (λ (t : List ℕ). t ++ (v ++ laid left (next + 1) ts s1 v)) o.is,
    )

cut-is : (xs ys : List ℕ) (c : ℕ) → xs ≡ c ∷ ys → take (length xs - 1) (drop 1 xs) ≡ ys
cut-is [] ys c e = absurd (let v : ⊥ = cc in v)
cut-is (x ∷ xs) ys c e = rest_all x xs ∙ tail-is x c xs ys e

-- the text with a line feed before it, in its layout, and what comes after its own line feed
pub record IsLed (text whole : List ℕ) (ts : List Lexeme) : Type 0 where
  pub some : 0 < length whole
  pub laid : line_feed ∷ take (length whole - 1) (drop 1 whole) ≡ laid_out text ts

pub laid-led : (text whole : List ℕ) (ts : List Lexeme) → Spells text ts → whole ≡ laid_out text ts → IsLed text whole ts
laid-led text whole ts s e =
    let o = first-led (split s refl) refl in
    let is : whole ≡ line_feed ∷ o.0 = e ∙ o.1 in
    record { some = omega (arith, ap length is); laid = ap (λ (t : List ℕ). line_feed ∷ t) (cut-is whole o.0 line_feed is) ∙ sym o.1 }
