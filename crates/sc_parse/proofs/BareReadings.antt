-- What is read with its places is, without them, what the grammar's own reading gives: looks, names and types.
use Rattle.std.proofs.Common.{◌≡◌, ℕ, zero, suc, ◌||◌, Bool, true, false, List, [], ◌∷◌, ◌++◌, length, Result, Ok, Err, refl, ap, sym, ◌∙◌}
use Rattle.std.specs.Prelude.{map, if◌then◌else◌}
use Rattle.std.proofs.lemmas.List.{map-append}
use Rattle.sc_text.specs.Kind.{Kind, NAME, INTEGER, STRING, TERMINAL, kind_of, kinds_of}
use Rattle.sc_text.specs.declared.token.Span.{Span}
use Rattle.sc_text.specs.declared.token.Token.{Token}
use Rattle.sc_text.specs.declared.token.Terminal.{Terminal}
use Rattle.sc_text.specs.declared.token.Terminal.TheVariants as terminal
use Rattle.sc_tree.specs.declared.expression.BinaryOperator.{BinaryOperator}
use Rattle.sc_tree.specs.Plain.{Name}
use Rattle.sc_tree.specs.Bare.{bare_name, bare_handler_tag, bare_type, bare_type_if_any}
use Rattle.sc_tree.specs.Grammar.Operators.{terminals_of}
use Rattle.sc_tree.specs.Grammar.Types.{handler_name, type_of}
use Rattle.sc_tree.specs.Internal.Reading.Looks as looks
use Rattle.sc_tree.specs.Internal.Reading.Looks.{Fault, ◌>>=◌}
use Rattle.sc_tree.specs.Internal.Reading.Types as unplaced
use Rattle.sc_tree.proofs.ViewLemmas.{length-kinds_of}
use Rattle.sc_parse.specs.Reading.Looks.{Ahead, kinds, left, past, rest_past, sees, expect, expect_word, skip, past_semicolons, skip_semicolons, past_all, past_operator, name, name_by, name_of, text, text_by, text_of}
use Rattle.sc_parse.specs.Reading.Types.{more_names, names, attachment, handler_of, handler_tag, declared_type, tested_type}

-- the same answer, with what was read made into something else
abbrev pub forget : {A B : Type 0} → (A → B) → Result A Fault → Result B Fault
forget f (Ok x) = Ok (f x)
forget f (Err e) = Err e

-- what was read, its nesting and what is left, without places
abbrev pub read : {A B : Type 0} → (A → B) → A × ℕ × Ahead → B × ℕ × List Kind
read f x = (f x.0, x.1, kinds x.2)

abbrev pub taken : {A B : Type 0} → (A → B) → A × Ahead → B × List Kind
taken f x = (f x.0, kinds x.1)

-- ---- answers in steps

pub forget_then : {A A' B B' : Type 0} (f : A → A') (g : B → B') (k : A → Result B Fault) (k' : A' → Result B' Fault) (a : Result A Fault) {b : Result A' Fault} →
    forget f a ≡ b → ((x : A) → forget g (k x) ≡ k' (f x)) → forget g (a >>= k) ≡ (b >>= k')
forget_then f g k k' (Ok x) e h = h x ∙ ap (λ b. b >>= k') e
forget_then f g k k' (Err d) e h = ap (λ b. b >>= k') e

pub forget_if : {A B : Type 0} (f : A → B) (c : Bool) {x y : A} {u v : B} → f x ≡ u → f y ≡ v → f (if c then x else y) ≡ (if c then u else v)
forget_if f true p q = p
forget_if f false p q = q

-- ---- looks

rest_is : (ts : List Token) → kinds_of (rest_past ts) ≡ looks.past (kinds_of ts)
rest_is [] = refl
rest_is (t ∷ ts) = refl

pub kinds-past : (q : Ahead) → kinds (past q) ≡ looks.past (kinds q)
kinds-past q = rest_is q.rest

pub kinds-past-past : (q : Ahead) → kinds (past (past q)) ≡ looks.past (looks.past (kinds q))
kinds-past-past q = kinds-past (past q) ∙ ap looks.past (kinds-past q)

-- a list's turns are as many as the tokens that are left
pub left_is : (q : Ahead) → left q ≡ length (kinds q)
left_is q = sym (length-kinds_of q.rest)

pub forget_expect : (m : Terminal) (q : Ahead) → forget kinds (expect m q) ≡ looks.expect m (kinds q)
unfolding expect looks.expect
forget_expect m q = forget_if (forget kinds) (sees m q) (ap Ok (kinds-past q)) refl

pub forget_expect_word : (w : List ℕ) (q : Ahead) → forget kinds (expect_word w q) ≡ looks.expect_word w (kinds q)
unfolding expect_word looks.expect_word
forget_expect_word w q = forget_if (forget kinds) (looks.sees_word w (kinds q)) (ap Ok (kinds-past q)) refl

pub kinds-skip : (m : Terminal) (q : Ahead) → kinds (skip m q) ≡ looks.skip m (kinds q)
kinds-skip m q = forget_if kinds (sees m q) (kinds-past q) refl

semicolons_are : (s : Span) (ts : List Token) → kinds (past_semicolons s ts) ≡ looks.skip_semicolons (kinds_of ts)
semicolons_are s [] = refl
semicolons_are s (t ∷ ts) = forget_if kinds (looks.is_terminal terminal.Semicolon (kind_of t.kind)) (semicolons_are t.span ts) refl

pub kinds-skip_semicolons : (q : Ahead) → kinds (skip_semicolons q) ≡ looks.skip_semicolons (kinds q)
kinds-skip_semicolons q = semicolons_are q.last q.rest

kinds-past_all : (ms : List Terminal) (q : Ahead) → kinds (past_all ms q) ≡ looks.past_all ms (kinds q)
kinds-past_all [] q = refl
kinds-past_all (m ∷ ms) q = kinds-past_all ms (past q) ∙ ap (looks.past_all ms) (kinds-past q)

pub kinds-past_operator : (op : BinaryOperator) (q : Ahead) → kinds (past_operator op q) ≡ looks.past_operator op (kinds q)
kinds-past_operator op q = kinds-past_all (terminals_of op) q

name_is : (k : Kind) (s : Span) (r : List Token) → forget (taken bare_name) (name_by k s r) ≡ looks.name_by k (kinds_of r)
name_is (NAME x) s r = refl
name_is (INTEGER n) s r = refl
name_is (STRING x) s r = refl
name_is (TERMINAL m) s r = refl

names_are : (ts : List Token) → forget (taken bare_name) (name_of ts) ≡ looks.name (kinds_of ts)
names_are [] = refl
names_are (t ∷ ts) = name_is (kind_of t.kind) t.span ts

pub forget_name : (q : Ahead) → forget (taken bare_name) (name q) ≡ looks.name (kinds q)
forget_name q = names_are q.rest

-- the name after the next token
pub forget_name_past : (q : Ahead) → forget (taken bare_name) (name (past q)) ≡ looks.name (looks.past (kinds q))
forget_name_past q = forget_name (past q) ∙ ap looks.name (kinds-past q)

-- what is read as it is
abbrev pub itself : {A : Type 0} → A → A
itself x = x

text_is : (k : Kind) (s : Span) (r : List Token) → forget (taken itself) (text_by k s r) ≡ looks.text_by k (kinds_of r)
text_is (NAME x) s r = refl
text_is (INTEGER n) s r = refl
text_is (STRING x) s r = refl
text_is (TERMINAL m) s r = refl

texts_are : (ts : List Token) → forget (taken itself) (text_of ts) ≡ looks.text (kinds_of ts)
texts_are [] = refl
texts_are (t ∷ ts) = text_is (kind_of t.kind) t.span ts

pub forget_text : (q : Ahead) → forget (taken itself) (text q) ≡ looks.text (kinds q)
forget_text q = texts_are q.rest

-- ---- names and types

pub forget_more_names : (f : ℕ) (found : List Name) (q : Ahead) → forget (taken (map bare_name)) (more_names f found q) ≡ unplaced.more_names f (map bare_name found) (kinds q)
unfolding more_names unplaced.more_names
forget_more_names zero found q = refl
forget_more_names (suc f) found q =
    forget_if (forget (taken (map bare_name))) (sees terminal.Comma q)
    (forget_then _ _ _ _ _ (forget_name_past q) λ x.
    forget_more_names f (found ++ x.0 ∷ []) x.1 ∙ ap (λ (ns : List Name). unplaced.more_names f ns (kinds x.1)) (map-append bare_name found (x.0 ∷ [])))
    refl

pub forget_names : (q : Ahead) → forget (taken (map bare_name)) (names q) ≡ unplaced.names (kinds q)
unfolding names unplaced.names
forget_names q =
    forget_then _ _ _ _ _ (forget_name q) λ x.
    forget_more_names (left x.1) (x.0 ∷ []) x.1 ∙ ap (λ (f : ℕ). unplaced.more_names f (bare_name x.0 ∷ []) (kinds x.1)) (left_is x.1)

pub forget_names_past : (q : Ahead) → forget (taken (map bare_name)) (names (past q)) ≡ unplaced.names (looks.past (kinds q))
forget_names_past q = forget_names (past q) ∙ ap unplaced.names (kinds-past q)

same_attachment : (q : Ahead) → taken itself (attachment q) ≡ unplaced.attachment (kinds q)
unfolding attachment unplaced.attachment
same_attachment q =
    forget_if (taken itself) (sees terminal.Detachable q || sees terminal.Question q) (ap (λ (r : List Kind). (true, r)) (kinds-past q))
    (forget_if (taken itself) (sees terminal.Attached q || sees terminal.Exclamation q) (ap (λ (r : List Kind). (false, r)) (kinds-past q)) refl)

forget_handler_of : (q : Ahead) → forget (taken bare_handler_tag) (handler_of q) ≡ unplaced.handler_of (kinds q)
unfolding handler_of unplaced.handler_of
forget_handler_of q =
    forget_if (forget (taken bare_handler_tag)) (sees terminal.Less q)
    (forget_then _ _ _ _ _ (forget_name_past q) λ x. forget_then _ _ _ _ _ (forget_expect terminal.Dot x.1) λ s. forget_then _ _ _ _ _ (forget_expect_word handler_name s) λ u.
    forget_then _ _ _ _ _ (forget_expect terminal.Greater u) λ r. refl)
    refl

forget_handler_tag : (q : Ahead) → forget (taken bare_handler_tag) (handler_tag q) ≡ unplaced.handler_tag (kinds q)
unfolding handler_tag unplaced.handler_tag
forget_handler_tag q =
    forget_if (forget (taken bare_handler_tag)) (sees terminal.Separate q) (forget_handler_of (past q) ∙ ap unplaced.handler_of (kinds-past q)) refl

pub forget_declared_type : (q : Ahead) → forget (taken bare_type) (declared_type q) ≡ unplaced.declared_type (kinds q)
unfolding declared_type unplaced.declared_type
forget_declared_type q =
    forget_then _ _ _ _ _ (forget_handler_tag (attachment q).1 ∙ ap (λ (a : Bool × List Kind). unplaced.handler_tag a.1) (same_attachment q)) λ g.
    forget_then _ _ _ _ _ (forget_name g.1) λ x. ap (λ (a : Bool × List Kind). Ok (type_of a.0 (bare_handler_tag g.0) (bare_name x.0), kinds x.1)) (same_attachment q)

pub forget_declared_type_past : (q : Ahead) → forget (taken bare_type) (declared_type (past q)) ≡ unplaced.declared_type (looks.past (kinds q))
forget_declared_type_past q = forget_declared_type (past q) ∙ ap unplaced.declared_type (kinds-past q)

pub forget_tested_type : (q : Ahead) → forget (taken bare_type_if_any) (tested_type q) ≡ unplaced.tested_type (kinds q)
unfolding tested_type unplaced.tested_type
forget_tested_type q =
    forget_if (forget (taken bare_type_if_any)) (sees terminal.OpenBrace q)
    (forget_then _ _ _ _ _ (forget_declared_type_past q) λ t. forget_then _ _ _ _ _ (forget_expect terminal.CloseBrace t.1) λ r. refl)
    refl
