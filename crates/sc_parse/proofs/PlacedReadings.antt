-- What is read stands where its tokens do: looks, names and types.
use Rattle.std.proofs.Common.{◌≡◌, ℕ, ◌||◌, Bool, true, false, List, [], ◌∷◌, ◌++◌, length, refl, ap, sym, ◌∙◌, subst, append_assoc, arith}
use Rattle.std.specs.Prelude.{map, if◌then◌else◌}
use Rattle.sc_text.specs.Kind.{Kind, NAME, INTEGER, STRING, TERMINAL, kind_of, kinds_of}
use Rattle.sc_text.specs.Spelling.{Lexeme, lexemes_of}
use Rattle.sc_text.specs.declared.token.Span.{Span}
use Rattle.sc_text.specs.declared.token.Token.{Token}
use Rattle.sc_text.specs.declared.token.Terminal.{Terminal}
use Rattle.sc_text.specs.declared.token.Terminal.TheVariants as terminal
use Rattle.sc_tree.specs.Plain.{Name}
use Rattle.sc_tree.specs.Grammar.Types.{handler_name}
use Rattle.sc_tree.specs.Internal.Reading.Looks as looks
use Rattle.sc_tree.specs.Internal.Reading.Looks.{Fault, ◌>>=◌}
use Rattle.std.proofs.Common.{zero, suc, append-nil}
use Rattle.sc_tree.proofs.Looks.{sees_is, sees_word_is}
use Rattle.sc_tree.proofs.ReadingSteps.{Holds, holds, nothing, holds_then, holds_if}
use Rattle.sc_parse.specs.Reading.Looks as reading
use Rattle.sc_parse.specs.Reading.Looks.{Ahead, Taken, kinds, left, past, last_past, rest_past, up_to, sees, expect, expect_word, skip, past_semicolons, skip_semicolons, past_all, past_operator, name, name_by, name_of, text, text_by, text_of}
use Rattle.sc_parse.specs.Reading.Types.{more_names, names, attachment, handler_of, handler_tag, declared_type, tested_type}
use Rattle.sc_parse.specs.Places as places
use Rattle.sc_parse.specs.Places.{Point, begin, begin_of, between, IsToken, IsWord, IsOptional, absent, present, AreWords, no_word, word, IsRow, no_part, separated, part, AreParts, none, another, IsOne, one, IsPlacedName, ArePlacedNames, IsTypeMark, IsPlacedTag, IsPlacedType, IsPlacedTest}
use Rattle.sc_parse.proofs.BareReadings.{kinds-past}

-- the point at which reading stands
abbrev pub spot : Ahead → Point
spot q = record { last = q.last; rest = lexemes_of q.rest }

-- ---- tokens

pub when : {A : Type 0} (P : A → Type 0) (b : Bool) (x y : A) → (b ≡ true → P x) → (b ≡ false → P y) → P (if b then x else y)
when P true x y when_true when_false = when_true refl
when P false x y when_true when_false = when_false refl

pub either : {C : Type 0} (a b : Bool) → a || b ≡ true → (a ≡ true → C) → (b ≡ true → C) → C
either true b e first second = first refl
either false b e first second = second e

pub begin_is : (q : Ahead) → reading.begin q ≡ begin (spot q)
begin_is q = go q.rest q.last.end
  where
    go : (ts : List Token) (end : ℕ) → reading.begin_of ts end ≡ begin_of (lexemes_of ts) end
    go [] end = refl
    go (t ∷ ts) end = refl

-- what stands from where the next token begins
pub begun : (q r : Ahead) → up_to (reading.begin q) r ≡ between (spot q) (spot r)
begun q r = ap (λ (n : ℕ). up_to n r) (begin_is q)

-- what stands from where the last token began
pub from_last : (k : Kind) (p : Point) (q : Ahead) → IsToken k q.last p (spot q) → q.last.start ≡ begin p
from_last k p q t = sym (ap (λ (ts : List Lexeme). begin_of ts p.last.end) t.next)

pub from_there : (k : Kind) (p : Point) (q r : Ahead) → IsToken k q.last p (spot q) → up_to q.last.start r ≡ between p (spot r)
from_there k p q r t = ap (λ (n : ℕ). up_to n r) (from_last k p q t)

pub step : (q : Ahead) (k : Kind) (r : List Kind) → kinds q ≡ k ∷ r → IsToken k (past q).last (spot q) (spot (past q))
step q k r e = go q.last q.rest e
  where
    go : (s : Span) (ts : List Token) → kinds_of ts ≡ k ∷ r →
        IsToken k (last_past s ts) (record { last = s; rest = lexemes_of ts }) (record { last = last_past s ts; rest = lexemes_of (rest_past ts) })
    go s [] e = absurd (omega (arith, ap length e))
    go s (t ∷ ts) e =
        let same : kind_of t.kind ≡ k = cc in
        let next : lexemes_of (t ∷ ts) ≡ record { kind = k; span = t.span } ∷ lexemes_of ts = ap (λ (k : Kind). record { kind = k; span = t.span } ∷ lexemes_of ts) same in
        record { next = next; last = refl }

pub seen : (m : Terminal) (q : Ahead) → sees m q ≡ true → IsToken (TERMINAL m) (past q).last (spot q) (spot (past q))
seen m q b = step q (TERMINAL m) (looks.past (kinds q)) (sees_is m (kinds q) b)

pub a_word : (m : Terminal) (q : Ahead) → sees m q ≡ true → IsWord m (spot q) (spot (past q))
a_word m q b = ((past q).last, seen m q b)

pub expected : (m : Terminal) (q : Ahead) → Holds (λ r. IsWord m (spot q) (spot r)) (expect m q)
unfolding expect
expected m q = holds_if (sees m q) _ _ (λ b. holds (a_word m q b)) (λ _. nothing)

pub expected_word : (w : List ℕ) (q : Ahead) → Holds (λ r. (s : Span) × IsToken (NAME w) s (spot q) (spot r)) (expect_word w q)
unfolding expect_word
expected_word w q = holds_if (reading.sees_word w q) _ _ (λ b. holds ((past q).last, step q (NAME w) (looks.past (kinds q)) (sees_word_is w (kinds q) b))) (λ _. nothing)

pub skipped : (m : Terminal) (q : Ahead) → IsOptional m (spot q) (spot (skip m q))
skipped m q = when (λ r. IsOptional m (spot q) (spot r)) (sees m q) _ _ (λ b. present (a_word m q b)) (λ _. absent)

pub data AreSemicolons : Point → Point → Type 0 where
  no_semicolon : {p : Point} → AreSemicolons p p
  one_more : {p q r : Point} → IsWord terminal.Semicolon p q → AreSemicolons q r → AreSemicolons p r

pub semicolons : (q : Ahead) → AreSemicolons (spot q) (spot (skip_semicolons q))
semicolons q = go q.last q.rest
  where
    go : (s : Span) (ts : List Token) → AreSemicolons (record { last = s; rest = lexemes_of ts }) (spot (past_semicolons s ts))
    go s [] = no_semicolon
    go s (t ∷ ts) =
        when (λ (r : Ahead). AreSemicolons (record { last = s; rest = lexemes_of (t ∷ ts) }) (spot r)) (looks.is_terminal terminal.Semicolon (kind_of t.kind)) _ _
        (λ b. one_more (a_word terminal.Semicolon (record { last = s; rest = t ∷ ts }) b) (go t.span ts)) (λ _. no_semicolon)

pub words : (ms : List Terminal) (q : Ahead) (r : List Kind) → kinds q ≡ map TERMINAL ms ++ r → AreWords ms (spot q) (spot (past_all ms q))
words [] q r e = no_word
words (m ∷ ms) q r e = word ((past q).last, step q (TERMINAL m) _ e) (words ms (past q) r (kinds-past q ∙ ap looks.past e))

pub named : (q : Ahead) → Holds (λ x. IsPlacedName x.0 (spot q) (spot x.1)) (name q)
named q = go q.last q.rest
  where
    by : (u : Span) (k : Kind) (s : Span) (r : List Token) →
        Holds (λ x. IsPlacedName x.0 (record { last = u; rest = record { kind = k; span = s } ∷ lexemes_of r }) (spot x.1)) (name_by k s r)
    by u (NAME x) s r = holds (record { next = refl; last = refl })
    by u (INTEGER n) s r = nothing
    by u (STRING x) s r = nothing
    by u (TERMINAL m) s r = nothing

    go : (u : Span) (ts : List Token) → Holds (λ x. IsPlacedName x.0 (record { last = u; rest = lexemes_of ts }) (spot x.1)) (name_of ts)
    go u [] = nothing
    go u (t ∷ ts) = by u (kind_of t.kind) t.span ts

pub texted : (q : Ahead) → Holds (λ x. (s : Span) × IsToken (STRING x.0) s (spot q) (spot x.1)) (text q)
texted q = go q.last q.rest
  where
    by : (u : Span) (k : Kind) (s : Span) (r : List Token) →
        Holds (λ x. (v : Span) × IsToken (STRING x.0) v (record { last = u; rest = record { kind = k; span = s } ∷ lexemes_of r }) (spot x.1)) (text_by k s r)
    by u (NAME x) s r = nothing
    by u (INTEGER n) s r = nothing
    by u (STRING x) s r = holds (s, record { next = refl; last = refl })
    by u (TERMINAL m) s r = nothing

    go : (u : Span) (ts : List Token) → Holds (λ x. (v : Span) × IsToken (STRING x.0) v (record { last = u; rest = lexemes_of ts }) (spot x.1)) (text_of ts)
    go u [] = nothing
    go u (t ∷ ts) = by u (kind_of t.kind) t.span ts

-- ---- rows

module _ {X : Type 0} (P : List X → Point → Point → Type 0) (m : Terminal) where
  pub row_along : {p q : Point} (xs ys : List X) → xs ≡ ys → IsRow P m xs p q → IsRow P m ys p q
  row_along {p} {q} xs ys e d = subst (λ (xs : List X). IsRow P m xs p q) e d

  pub row_append : {xs ys : List X} {p q r : Point} → IsRow P m xs p q → IsRow P m ys q r → IsRow P m (xs ++ ys) p r
  row_append no_part e = e
  row_append (separated w d) e = separated w (row_append d e)
  row_append {ys} (part {xs = cs} {ys = bs} d f) e = row_along (cs ++ (bs ++ ys)) ((cs ++ bs) ++ ys) (sym (append_assoc cs bs ys)) (part d (row_append f e))

  pub row_push : {xs ys : List X} {p q r : Point} → IsRow P m xs p q → P ys q r → IsRow P m (xs ++ ys) p r
  row_push {xs} {ys} d e = row_append d (row_along (ys ++ []) ys (append-nil ys) (part e no_part))

  pub row_separated : {xs : List X} {p q r : Point} → IsRow P m xs p q → IsWord m q r → IsRow P m xs p r
  row_separated no_part w = separated w no_part
  row_separated (separated v d) w = separated v (row_separated d w)
  row_separated (part d e) w = part d (row_separated e w)

  pub row_skipped : {xs : List X} {p : Point} (q : Ahead) → IsRow P m xs p (spot q) → IsRow P m xs p (spot (skip m q))
  row_skipped {xs} {p} q d = when (λ r. IsRow P m xs p (spot r)) (sees m q) _ _ (λ b. row_separated d (a_word m q b)) (λ _. d)

pub row_semicolons : {X : Type 0} (P : List X → Point → Point → Type 0) {xs : List X} {p q r : Point} → IsRow P terminal.Semicolon xs p q → AreSemicolons q r → IsRow P terminal.Semicolon xs p r
row_semicolons P d no_semicolon = d
row_semicolons P d (one_more w s) = row_semicolons P (row_separated P terminal.Semicolon d w) s

module _ {X : Type 0} (P : List X → Point → Point → Type 0) where
  parts_along : {p q : Point} (xs ys : List X) → xs ≡ ys → AreParts P xs p q → AreParts P ys p q
  parts_along {p} {q} xs ys e d = subst (λ (xs : List X). AreParts P xs p q) e d

  parts_append : {xs ys : List X} {p q r : Point} → AreParts P xs p q → AreParts P ys q r → AreParts P (xs ++ ys) p r
  parts_append none e = e
  parts_append {ys} (another {xs = cs} {ys = bs} d f) e = parts_along (cs ++ (bs ++ ys)) ((cs ++ bs) ++ ys) (sym (append_assoc cs bs ys)) (another d (parts_append f e))

  pub parts_push : {xs ys : List X} {p q r : Point} → AreParts P xs p q → P ys q r → AreParts P (xs ++ ys) p r
  parts_push {xs} {ys} d e = parts_append d (parts_along (ys ++ []) ys (append-nil ys) (another e none))

-- ---- names and types

push_name : {x : Name} {xs : List Name} {p q r u : Point} → ArePlacedNames xs p q → IsWord terminal.Comma q r → IsPlacedName x r u → ArePlacedNames (xs ++ x ∷ []) p u
push_name (places.one_name m) w n = places.more_names m w (places.one_name n)
push_name (places.more_names m v d) w n = places.more_names m v (push_name d w n)

pub place_more_names : (f : ℕ) (found : List Name) (q : Ahead) (p : Point) → ArePlacedNames found p (spot q) → Holds (λ x. ArePlacedNames x.0 p (spot x.1)) (more_names f found q)
unfolding more_names
place_more_names zero found q p d = holds d
place_more_names (suc f) found q p d =
    holds_if (sees terminal.Comma q) _ _
    (λ b. holds_then _ (named (past q)) λ x n. place_more_names f (found ++ x.0 ∷ []) x.1 p (push_name d (a_word terminal.Comma q b) n))
    (λ _. holds d)

pub place_names : (q : Ahead) → Holds (λ x. ArePlacedNames x.0 (spot q) (spot x.1)) (names q)
unfolding names
place_names q = holds_then _ (named q) λ x n. place_more_names (left x.1) (x.0 ∷ []) x.1 (spot q) (places.one_name n)

place_attachment : (q : Ahead) → IsTypeMark (spot q) (spot (attachment q).1)
unfolding attachment
place_attachment q =
    when (λ (r : Bool × Ahead). IsTypeMark (spot q) (spot r.1)) (sees terminal.Detachable q || sees terminal.Question q) _ _
    (λ b. either (sees terminal.Detachable q) (sees terminal.Question q) b (λ e. places.detachable (a_word terminal.Detachable q e)) (λ e. places.question (a_word terminal.Question q e)))
    (λ _.
    when (λ (r : Bool × Ahead). IsTypeMark (spot q) (spot r.1)) (sees terminal.Attached q || sees terminal.Exclamation q) _ _
    (λ b. either (sees terminal.Attached q) (sees terminal.Exclamation q) b (λ e. places.attached (a_word terminal.Attached q e)) (λ e. places.exclamation (a_word terminal.Exclamation q e)))
    (λ _. places.unmarked))

place_handler_tag : (q : Ahead) → Holds (λ x. IsPlacedTag x.0 (spot q) (spot x.1)) (handler_tag q)
unfolding handler_tag handler_of
place_handler_tag q =
    holds_if (sees terminal.Separate q) _ _
    (λ b. holds_if (sees terminal.Less (past q)) _ _
    (λ c. holds_then _ (named (past (past q))) λ x n. holds_then _ (expected terminal.Dot x.1) λ s d. holds_then _ (expected_word handler_name s) λ u h. holds_then _ (expected terminal.Greater u) λ r g.
    holds (places.handler_of (a_word terminal.Separate q b) (a_word terminal.Less (past q) c) n d h.1 g))
    (λ _. holds (places.separate (a_word terminal.Separate q b))))
    (λ _. holds places.own)

pub place_declared_type : (q : Ahead) → Holds (λ x. IsPlacedType x.0 (spot q) (spot x.1)) (declared_type q)
unfolding declared_type
place_declared_type q =
    holds_then _ (place_handler_tag (attachment q).1) λ g h. holds_then _ (named g.1) λ x n. holds (places.type (place_attachment q) h n (begun q x.1))

pub place_tested_type : (q : Ahead) → Holds (λ x. IsPlacedTest x.0 (spot q) (spot x.1)) (tested_type q)
unfolding tested_type
place_tested_type q =
    holds_if (sees terminal.OpenBrace q) _ _
    (λ b. holds_then _ (place_declared_type (past q)) λ t d. holds_then _ (expected terminal.CloseBrace t.1) λ r w. holds (places.tested_type (a_word terminal.OpenBrace q b) d w))
    (λ _. holds places.no_type)
