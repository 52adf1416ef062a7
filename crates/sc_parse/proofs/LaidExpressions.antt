-- Places of types and expressions, as a function of the tree without them and of the kept tokens.
use Rattle.std.proofs.Common.{◌≡◌, ℕ, Bool, true, false, List, [], ◌∷◌, Option, Some, None, refl, ap, sym, ◌∙◌}
use Rattle.std.specs.Prelude.{if◌then◌else◌}
use Rattle.sc_text.specs.Kind.{Kind, NAME, INTEGER, TERMINAL}
use Rattle.sc_text.specs.declared.token.Span.{Span}
use Rattle.sc_text.specs.declared.token.Terminal.{Terminal}
use Rattle.sc_text.specs.declared.token.Terminal.TheVariants as terminal
use Rattle.sc_tree.specs.declared.expression.UnaryOperator.{UnaryOperator}
use Rattle.sc_tree.specs.declared.expression.UnaryOperator.TheVariants as unary
use Rattle.sc_tree.specs.declared.expression.BinaryOperator.{BinaryOperator}
use Rattle.sc_tree.specs.declared.expression.BinaryOperator.TheVariants as binary
use Rattle.sc_tree.specs.Grammar.Operators.{prefix_of, terminals_of}
use Rattle.sc_tree.specs.Grammar.Types.{handler_name}
use Rattle.sc_tree.specs.Plain as plain
use Rattle.sc_tree.specs.Plain.{Name, HandlerTag, Own, Separate, HandlerOf, DeclaredType, Expr, Integer, Boolean, Void, Current, Call, Unary, Binary, ObjectTest, Target, no_target, target, Exprs, no_exprs, expr_then}
use Rattle.sc_tree.specs.Bare.{bare_name, bare_handler_tag, bare_type, bare_type_if_any, bare_expr, bare_exprs}
use Rattle.sc_tree.proofs.ReadingSteps.{choose_true, choose_false}
use Rattle.sc_parse.specs.Places as places
use Rattle.sc_parse.specs.Places.{Point, begin, between, IsToken, IsWord, AreWords, no_word, word, IsPlacedName, IsTypeMark, IsPlacedTag, IsPlacedType, IsPlacedTest, IsPlacedExpr, ArePlacedActuals, ArePlacedExprs}
use Rattle.sc_tree.specs.Properties.{span_of}
use Rattle.sc_parse.proofs.KeptTokens.{neither, side_of, Balanced, token_balanced, word_balanced, then_balanced, none_balanced, in_parentheses, group_is, leaves_out, Kept, ahead, kept_token, kept_word, word_left_out, first, first_group, rest, rest_token, rest_word, first_token, group_token, begins_with, begins_with_word, ends_with, span_is, past_words, past_words_is}

-- ---- names and types

abbrev pub laid_name : Name → List Kept → Name
laid_name x ks = record { text = x.text; span = first ks }

pub name_laid : {x : Name} {p q : Point} → IsPlacedName x p q → laid_name (bare_name x) (ahead p) ≡ x
name_laid {x} n = ap (λ (s : Span). record { text = x.text; span = s }) (first_token (NAME x.text) n refl)

abbrev pub laid_tag : HandlerTag → List Kept → HandlerTag × List Kept
laid_tag Own ks = (Own, ks)
laid_tag Separate ks = (Separate, rest ks)
laid_tag (HandlerOf x) ks = (HandlerOf (laid_name x (rest (rest ks))), rest (rest (rest (rest (rest (rest ks))))))

tag_laid : {g : HandlerTag} {p q : Point} → IsPlacedTag g p q → laid_tag (bare_handler_tag g) (ahead p) ≡ (g, ahead q)
tag_laid places.own = refl
tag_laid (places.separate w) = ap (λ (ks : List Kept). (Separate, ks)) (rest_word terminal.Separate w refl)
tag_laid (places.handler_of {x} a b n d h g) =
    rw (kept_word terminal.Separate a refl, kept_word terminal.Less b refl, kept_token (NAME x.text) n refl, kept_word terminal.Dot d refl, kept_token (NAME handler_name) h refl, kept_word terminal.Greater g refl) refl

abbrev pub is_mark_word : Terminal → Bool
is_mark_word terminal.Attached = true
is_mark_word terminal.Exclamation = true
is_mark_word terminal.Detachable = true
is_mark_word terminal.Question = true
is_mark_word _ = false

abbrev pub is_mark : Kind → Bool
is_mark (TERMINAL m) = is_mark_word m
is_mark _ = false

abbrev pub marked : List Kept → Bool
marked [] = false
marked (k ∷ ks) = is_mark k.kind

abbrev pub past_mark : List Kept → List Kept
past_mark ks = if marked ks then rest ks else ks

word_is_mark : (m : Terminal) {p q : Point} → IsWord m p q → leaves_out m ≡ false → is_mark_word m ≡ true →
    past_mark (ahead p) ≡ ahead q
word_is_mark m w e f = choose_true _ _ _ (ap marked (kept_word m w e) ∙ f) ∙ rest_word m w e

tag_unmarked : {g : HandlerTag} {x : Name} {p q r : Point} → IsPlacedTag g p q → IsPlacedName x q r →
    marked (ahead p) ≡ false
tag_unmarked {x} places.own n = ap marked (kept_token (NAME x.text) n refl)
tag_unmarked (places.separate w) n = ap marked (kept_word terminal.Separate w refl)
tag_unmarked (places.handler_of a b y d h g) n = ap marked (kept_word terminal.Separate a refl)

mark_past : {g : HandlerTag} {x : Name} {p q r u : Point} → IsTypeMark p q → IsPlacedTag g q r → IsPlacedName x r u →
    past_mark (ahead p) ≡ ahead q
mark_past places.unmarked g n = choose_false _ _ _ (tag_unmarked g n)
mark_past (places.attached w) g n = word_is_mark terminal.Attached w refl refl
mark_past (places.exclamation w) g n = word_is_mark terminal.Exclamation w refl refl
mark_past (places.detachable w) g n = word_is_mark terminal.Detachable w refl refl
mark_past (places.question w) g n = word_is_mark terminal.Question w refl refl

tag_begins : {g : HandlerTag} {x : Name} {p q r : Point} → IsPlacedTag g p q → IsPlacedName x q r →
    begin p ≡ (first (ahead p)).start
tag_begins {x} places.own n = begins_with (NAME x.text) n refl
tag_begins (places.separate w) n = begins_with_word terminal.Separate w refl
tag_begins (places.handler_of a b y d h g) n = begins_with_word terminal.Separate a refl

type_begins : {g : HandlerTag} {x : Name} {p q r u : Point} → IsTypeMark p q → IsPlacedTag g q r →
    IsPlacedName x r u → begin p ≡ (first (ahead p)).start
type_begins places.unmarked g n = tag_begins g n
type_begins (places.attached w) g n = begins_with_word terminal.Attached w refl
type_begins (places.exclamation w) g n = begins_with_word terminal.Exclamation w refl
type_begins (places.detachable w) g n = begins_with_word terminal.Detachable w refl
type_begins (places.question w) g n = begins_with_word terminal.Question w refl

abbrev pub type_at : Span → Bool → HandlerTag → Name → DeclaredType
type_at s b g x = record { span = s; is_detachable = b; tag = g; class = x }

-- the type of this tag, before its class's name
abbrev pub tagged : DeclaredType → List Kept → HandlerTag × List Kept → DeclaredType × List Kept
tagged t ks g = (type_at (record { start = (first ks).start; end = (first g.1).end }) t.is_detachable g.0 (laid_name t.class g.1), rest g.1)

abbrev pub laid_type : DeclaredType → List Kept → DeclaredType × List Kept
laid_type t ks = tagged t ks (laid_tag t.tag (past_mark ks))

pub type_laid : {t : DeclaredType} {p q : Point} → IsPlacedType t p q →
    laid_type (bare_type t) (ahead p) ≡ (t, ahead q)
type_laid (places.type {t} {p} {q} {r} {u} m g n e) =
    let s : t.span ≡ record { start = (first (ahead p)).start; end = (first (ahead r)).end } =
    span_is (ap (λ (s : Span). s.start) e ∙ type_begins m g n) (ap (λ (s : Span). s.end) e ∙ ends_with (NAME t.class.text) n refl) in
    ap (λ (ks : List Kept). tagged (bare_type t) (ahead p) (laid_tag (bare_handler_tag t.tag) ks)) (mark_past m g n)
    ∙ ap (tagged (bare_type t) (ahead p)) (tag_laid g)
    ∙ ap (λ (x : Name). (type_at (record { start = (first (ahead p)).start; end = (first (ahead r)).end }) t.is_detachable t.tag x, rest (ahead r))) (name_laid n)
    ∙ ap (λ (ks : List Kept). (type_at (record { start = (first (ahead p)).start; end = (first (ahead r)).end }) t.is_detachable t.tag t.class, ks)) (rest_token (NAME t.class.text) n refl)
    ∙ ap (λ (s : Span). (type_at s t.is_detachable t.tag t.class, ahead u)) (sym s)

-- the type that is tested for, and what follows its brace
abbrev pub in_braces : DeclaredType × List Kept → Option DeclaredType × List Kept
in_braces t = (Some t.0, rest t.1)

abbrev pub laid_test : Option DeclaredType → List Kept → Option DeclaredType × List Kept
laid_test None ks = (None, ks)
laid_test (Some t) ks = in_braces (laid_type t (rest ks))

test_laid : {o : Option DeclaredType} {p q : Point} → IsPlacedTest o p q →
    laid_test (bare_type_if_any o) (ahead p) ≡ (o, ahead q)
test_laid places.no_type = refl
test_laid (places.tested_type {t} o d c) =
    ap (λ (ks : List Kept). in_braces (laid_type (bare_type t) ks)) (rest_word terminal.OpenBrace o refl)
    ∙ ap in_braces (type_laid d)
    ∙ ap (λ (ks : List Kept). (Some t, ks)) (rest_word terminal.CloseBrace c refl)

-- ---- parentheses in them

name_balanced : {x : Name} {p q : Point} → IsPlacedName x p q → Balanced p q
name_balanced {x} n = token_balanced (NAME x.text) n refl

tag_balanced : {g : HandlerTag} {p q : Point} → IsPlacedTag g p q → Balanced p q
tag_balanced places.own = none_balanced
tag_balanced (places.separate w) = word_balanced terminal.Separate w refl
tag_balanced (places.handler_of a b n d h g) =
    then_balanced (word_balanced terminal.Separate a refl) (then_balanced (word_balanced terminal.Less b refl) (then_balanced (name_balanced n)
    (then_balanced (word_balanced terminal.Dot d refl) (then_balanced (token_balanced (NAME handler_name) h refl) (word_balanced terminal.Greater g refl)))))

mark_balanced : {p q : Point} → IsTypeMark p q → Balanced p q
mark_balanced places.unmarked = none_balanced
mark_balanced (places.attached w) = word_balanced terminal.Attached w refl
mark_balanced (places.exclamation w) = word_balanced terminal.Exclamation w refl
mark_balanced (places.detachable w) = word_balanced terminal.Detachable w refl
mark_balanced (places.question w) = word_balanced terminal.Question w refl

type_balanced : {t : DeclaredType} {p q : Point} → IsPlacedType t p q → Balanced p q
type_balanced (places.type m g n e) = then_balanced (mark_balanced m) (then_balanced (tag_balanced g) (name_balanced n))

test_balanced : {o : Option DeclaredType} {p q : Point} → IsPlacedTest o p q → Balanced p q
test_balanced places.no_type = none_balanced
test_balanced (places.tested_type o d c) = then_balanced (word_balanced terminal.OpenBrace o refl) (then_balanced (type_balanced d) (word_balanced terminal.CloseBrace c refl))

-- words that are no parentheses
data AreApart : List Terminal → Type 0 where
  no_terminal : AreApart []
  apart : {m : Terminal} {ms : List Terminal} → side_of m ≡ neither → AreApart ms → AreApart (m ∷ ms)

words_balanced : {ms : List Terminal} {p q : Point} → AreApart ms → AreWords ms p q → Balanced p q
words_balanced a no_word = none_balanced
words_balanced (apart e a) (word {m} w ws) = then_balanced (word_balanced m w e) (words_balanced a ws)

operator_apart : (op : BinaryOperator) → AreApart (terminals_of op)
operator_apart binary.Times = apart refl no_terminal
operator_apart binary.Quotient = apart refl no_terminal
operator_apart binary.Remainder = apart refl no_terminal
operator_apart binary.Plus = apart refl no_terminal
operator_apart binary.Minus = apart refl no_terminal
operator_apart binary.Equal = apart refl no_terminal
operator_apart binary.NotEqual = apart refl no_terminal
operator_apart binary.Less = apart refl no_terminal
operator_apart binary.Greater = apart refl no_terminal
operator_apart binary.LessEqual = apart refl no_terminal
operator_apart binary.GreaterEqual = apart refl no_terminal
operator_apart binary.And = apart refl no_terminal
operator_apart binary.AndThen = apart refl (apart refl no_terminal)
operator_apart binary.Or = apart refl no_terminal
operator_apart binary.OrElse = apart refl (apart refl no_terminal)
operator_apart binary.Xor = apart refl no_terminal
operator_apart binary.Implies = apart refl no_terminal

prefix_apart : (op : UnaryOperator) → side_of (prefix_of op) ≡ neither
prefix_apart unary.Not = refl
prefix_apart unary.Old = refl
prefix_apart unary.Plus = refl
prefix_apart unary.Minus = refl

prefix_kept : (op : UnaryOperator) → leaves_out (prefix_of op) ≡ false
prefix_kept unary.Not = refl
prefix_kept unary.Old = refl
prefix_kept unary.Plus = refl
prefix_kept unary.Minus = refl

mutual
  pub expr_balanced : {t : Expr} {p q : Point} → IsPlacedExpr t p q → Balanced p q
  expr_balanced (places.integer {n} t) = token_balanced (INTEGER n) t refl
  expr_balanced (places.true_constant t) = token_balanced (TERMINAL terminal.True) t refl
  expr_balanced (places.false_constant t) = token_balanced (TERMINAL terminal.False) t refl
  expr_balanced (places.void t) = token_balanced (TERMINAL terminal.Void) t refl
  expr_balanced (places.current t) = token_balanced (TERMINAL terminal.Current) t refl
  expr_balanced (places.result t) = token_balanced (TERMINAL terminal.Result) t refl
  expr_balanced (places.parenthesized o d c) = in_parentheses o (expr_balanced d) c
  expr_balanced (places.unqualified n d e) = then_balanced (name_balanced n) (actuals_balanced d)
  expr_balanced (places.qualified d w n es a b) = then_balanced (expr_balanced d) (then_balanced (word_balanced terminal.Dot w refl) (then_balanced (name_balanced n) (actuals_balanced es)))
  expr_balanced (places.object_test a o d w n e) =
      then_balanced (word_balanced terminal.Attached a refl) (then_balanced (test_balanced o) (then_balanced (expr_balanced d) (then_balanced (word_balanced terminal.As w refl) (name_balanced n))))
  expr_balanced (places.prefixed {op} w d a b) = then_balanced (word_balanced (prefix_of op) w (prefix_apart op)) (expr_balanced d)
  expr_balanced (places.infixed {op} d ws e a b) = then_balanced (expr_balanced d) (then_balanced (words_balanced (operator_apart op) ws) (expr_balanced e))

  actuals_balanced : {es : Exprs} {p q : Point} → ArePlacedActuals es p q → Balanced p q
  actuals_balanced places.no_actuals = none_balanced
  actuals_balanced (places.actuals o ds c) = in_parentheses o (exprs_balanced ds) c

  exprs_balanced : {es : Exprs} {p q : Point} → ArePlacedExprs es p q → Balanced p q
  exprs_balanced (places.one_expr d) = expr_balanced d
  exprs_balanced (places.more_exprs d w ds) = then_balanced (expr_balanced d) (then_balanced (word_balanced terminal.Comma w refl) (exprs_balanced ds))

-- ---- expressions

-- where a call ends: at its name, or where its actuals are closed
abbrev pub call_end : Exprs → List Kept → ℕ
call_end no_exprs ks = (first ks).end
call_end (expr_then e es) ks = first_group ks

abbrev pub target_start : Target → List Kept → ℕ
target_start no_target ks = (first ks).start
target_start (target t) ks = (span_of t).start

abbrev pub call_of : Target → ℕ → Name → Exprs → List Kept → Exprs × List Kept → Expr × List Kept
call_of t start x es ks r = (Call (record { start = start; end = call_end es ks }) t (laid_name x ks) r.0, r.1)

abbrev pub unary_of : UnaryOperator → ℕ → Expr × List Kept → Expr × List Kept
unary_of op start r = (Unary (record { start = start; end = (span_of r.0).end }) op r.0, r.1)

abbrev pub binary_of : BinaryOperator → Expr → Expr × List Kept → Expr × List Kept
binary_of op a r = (Binary (record { start = (span_of a).start; end = (span_of r.0).end }) op a r.0, r.1)

abbrev pub object_test_of : ℕ → Option DeclaredType → Name → Expr × List Kept → Expr × List Kept
object_test_of start o x r = (ObjectTest (record { start = start; end = (first (rest r.1)).end }) o r.0 (laid_name x (rest r.1)), rest (rest r.1))

abbrev pub expr_before : Expr → Exprs × List Kept → Exprs × List Kept
expr_before t r = (expr_then t r.0, r.1)

abbrev pub dotted : Expr × List Kept → Target × List Kept
dotted r = (target r.0, rest r.1)

unfoldable mutual
  pub laid : Expr → List Kept → Expr × List Kept
  laid (Integer s n) ks = (Integer (first ks) n, rest ks)
  laid (Boolean s b) ks = (Boolean (first ks) b, rest ks)
  laid (Void s) ks = (Void (first ks), rest ks)
  laid (Current s) ks = (Current (first ks), rest ks)
  laid (plain.Result s) ks = (plain.Result (first ks), rest ks)
  laid (Call s t x es) ks = call_of (laid_target t ks).0 (target_start (laid_target t ks).0 ks) x es (laid_target t ks).1 (laid_exprs es (rest (laid_target t ks).1))
  laid (Unary s op a) ks = unary_of op (first ks).start (laid a (rest ks))
  laid (Binary s op a b) ks = binary_of op (laid a ks).0 (laid b (past_words (terminals_of op) (laid a ks).1))
  laid (ObjectTest s o t x) ks = object_test_of (first ks).start (laid_test o (rest ks)).0 x (laid t (laid_test o (rest ks)).1)

  pub laid_target : Target → List Kept → Target × List Kept
  laid_target no_target ks = (no_target, ks)
  laid_target (target t) ks = dotted (laid t ks)

  pub laid_exprs : Exprs → List Kept → Exprs × List Kept
  laid_exprs no_exprs ks = (no_exprs, ks)
  laid_exprs (expr_then t es) ks = expr_before (laid t ks).0 (laid_exprs es (laid t ks).1)

pub call_ends : {x : Name} {es : Exprs} {p q r : Point} → IsPlacedName x p q → ArePlacedActuals es q r →
    call_end (bare_exprs es) (ahead p) ≡ r.last.end
unfolding bare_expr
call_ends {x} n places.no_actuals = sym (ends_with (NAME x.text) n refl)
call_ends {x} n (places.actuals o (places.one_expr d) c) = group_token (NAME x.text) n refl
    ∙ group_is o (expr_balanced d) c
call_ends {x} n (places.actuals o (places.more_exprs d w ds) c) = group_token (NAME x.text) n refl
    ∙ group_is o (exprs_balanced (places.more_exprs d w ds)) c

call_laid : (t : Target) (start : ℕ) {x : Name} {es : Exprs} {s : Span} {p q r : Point} → IsPlacedName x p q →
    ArePlacedActuals es q r → laid_exprs (bare_exprs es) (ahead q) ≡ (es, ahead r) →
    s.start ≡ start → s.end ≡ r.last.end → call_of t start (bare_name x) (bare_exprs es) (ahead p) (laid_exprs (bare_exprs es) (rest (ahead p))) ≡ (Call s t x es, ahead r)
call_laid t start {x} {es} {s} {p} {q} {r} n d h a b =
    let k : Span = record { start = start; end = call_end (bare_exprs es) (ahead p) } in
    ap (λ (ks : List Kept). call_of t start (bare_name x) (bare_exprs es) (ahead p) (laid_exprs (bare_exprs es) ks)) (rest_token (NAME x.text) n refl)
    ∙ ap (call_of t start (bare_name x) (bare_exprs es) (ahead p)) h
    ∙ ap (λ (y : Name). (Call k t y es, ahead r)) (name_laid n)
    ∙ ap (λ (k : Span). (Call k t x es, ahead r)) (sym (span_is a (b ∙ sym (call_ends n d))))

mutual
  unfolding laid bare_expr

  pub expr_laid : {t : Expr} {p q : Point} → IsPlacedExpr t p q → laid (bare_expr t) (ahead p) ≡ (t, ahead q)
  expr_laid (places.integer {n} t) = ap (λ (ks : List Kept). (Integer (first ks) n, rest ks)) (kept_token (INTEGER n) t refl)
  expr_laid (places.true_constant t) = ap (λ (ks : List Kept). (Boolean (first ks) true, rest ks)) (kept_token (TERMINAL terminal.True) t refl)
  expr_laid (places.false_constant t) = ap (λ (ks : List Kept). (Boolean (first ks) false, rest ks)) (kept_token (TERMINAL terminal.False) t refl)
  expr_laid (places.void t) = ap (λ (ks : List Kept). (Void (first ks), rest ks)) (kept_token (TERMINAL terminal.Void) t refl)
  expr_laid (places.current t) = ap (λ (ks : List Kept). (Current (first ks), rest ks)) (kept_token (TERMINAL terminal.Current) t refl)
  expr_laid (places.result t) = ap (λ (ks : List Kept). (plain.Result (first ks), rest ks)) (kept_token (TERMINAL terminal.Result) t refl)
  expr_laid (places.parenthesized {t} o d c) =
      ap (laid (bare_expr t)) (word_left_out terminal.OpenParenthesis o refl) ∙ expr_laid d
      ∙ ap (λ (ks : List Kept). (t, ks)) (word_left_out terminal.CloseParenthesis c refl)
  expr_laid (places.unqualified {x} {p} n d e) =
      call_laid no_target (first (ahead p)).start n d (actuals_laid d) (ap (λ (s : Span). s.start) e ∙ begins_with (NAME x.text) n refl) (ap (λ (s : Span). s.end) e)
  expr_laid (places.qualified {t} {x} {es} {p} {r} d w n ds a b) =
      let G : Target × List Kept → Expr × List Kept = λ y. call_of y.0 (target_start y.0 (ahead p)) (bare_name x) (bare_exprs es) y.1 (laid_exprs (bare_exprs es) (rest y.1)) in
      ap G (ap dotted (expr_laid d) ∙ ap (λ (ks : List Kept). (target t, ks)) (rest_word terminal.Dot w refl))
      ∙ call_laid (target t) (span_of t).start n ds (actuals_laid ds) a b
  expr_laid (places.object_test {o} {t} {x} {s} {p} {q} {r} {u} {v} {w} a i d m n e) =
      let T : Option DeclaredType × List Kept → Expr × List Kept = λ y. object_test_of (first (ahead p)).start y.0 (bare_name x) (laid (bare_expr t) y.1) in
      ap (λ (ks : List Kept). T (laid_test (bare_type_if_any o) ks)) (rest_word terminal.Attached a refl)
      ∙ ap T (test_laid i)
      ∙ ap (object_test_of (first (ahead p)).start o (bare_name x)) (expr_laid d)
      ∙ ap (λ (ks : List Kept). (ObjectTest (record { start = (first (ahead p)).start; end = (first ks).end }) o t (laid_name (bare_name x) ks), rest ks)) (rest_word terminal.As m refl)
      ∙ ap (λ (y : Name). (ObjectTest (record { start = (first (ahead p)).start; end = (first (ahead v)).end }) o t y, rest (ahead v))) (name_laid n)
      ∙ ap (λ (ks : List Kept). (ObjectTest (record { start = (first (ahead p)).start; end = (first (ahead v)).end }) o t x, ks)) (rest_token (NAME x.text) n refl)
      ∙ ap (λ (k : Span). (ObjectTest k o t x, ahead w))
      (sym (span_is (ap (λ (s : Span). s.start) e ∙ begins_with_word terminal.Attached a refl) (ap (λ (s : Span). s.end) e ∙ ends_with (NAME x.text) n refl)))
  expr_laid (places.prefixed {op} {a} {s} {p} {q} {r} w d b e) =
      ap (λ (ks : List Kept). unary_of op (first (ahead p)).start (laid (bare_expr a) ks)) (rest_word (prefix_of op) w (prefix_kept op))
      ∙ ap (unary_of op (first (ahead p)).start) (expr_laid d)
      ∙ ap (λ (k : Span). (Unary k op a, ahead r)) (sym (span_is (b ∙ begins_with_word (prefix_of op) w (prefix_kept op)) e))
  expr_laid (places.infixed {op} {a} {b} {s} {p} {q} {r} {u} d ws e f g) =
      ap (λ (y : Expr × List Kept). binary_of op y.0 (laid (bare_expr b) (past_words (terminals_of op) y.1))) (expr_laid d)
      ∙ ap (λ (ks : List Kept). binary_of op a (laid (bare_expr b) ks)) (past_words_is ws)
      ∙ ap (binary_of op a) (expr_laid e) ∙ ap (λ (k : Span). (Binary k op a b, ahead u)) (sym (span_is f g))

  pub actuals_laid : {es : Exprs} {p q : Point} → ArePlacedActuals es p q →
      laid_exprs (bare_exprs es) (ahead p) ≡ (es, ahead q)
  actuals_laid places.no_actuals = refl
  actuals_laid (places.actuals {es} o ds c) =
      ap (laid_exprs (bare_exprs es)) (word_left_out terminal.OpenParenthesis o refl) ∙ exprs_laid ds
      ∙ ap (λ (ks : List Kept). (es, ks)) (word_left_out terminal.CloseParenthesis c refl)

  exprs_laid : {es : Exprs} {p q : Point} → ArePlacedExprs es p q →
      laid_exprs (bare_exprs es) (ahead p) ≡ (es, ahead q)
  exprs_laid (places.one_expr {t} d) = ap (λ (y : Expr × List Kept). expr_before y.0 (laid_exprs no_exprs y.1)) (expr_laid d)
  exprs_laid (places.more_exprs {t} {es} d w ds) =
      ap (λ (y : Expr × List Kept). expr_before y.0 (laid_exprs (bare_exprs es) y.1)) (expr_laid d)
      ∙ ap (λ (ks : List Kept). expr_before t (laid_exprs (bare_exprs es) ks)) (word_left_out terminal.Comma w refl)
      ∙ ap (expr_before t) (exprs_laid ds)
