-- The canonical tokens of types and expressions spell them.
use Rattle.std.proofs.Common.{◌≡◌, ℕ, zero, suc, ◌+◌, ◌-◌, ◌≤◌, ◌<◌, max, Bool, true, false, nat_le, List, [], ◌∷◌, ◌++◌, map, Option, refl, ap, sym, ◌∙◌, subst, arith, append-nil, append_assoc}
use Rattle.std.specs.Prelude.{if◌then◌else◌}
use Rattle.sc_text.specs.Kind.{Kind, NAME, TERMINAL}
use Rattle.sc_text.specs.declared.token.Terminal.TheVariants as terminal
use Rattle.sc_tree.specs.declared.expression.UnaryOperator.{UnaryOperator}
use Rattle.sc_tree.specs.declared.expression.BinaryOperator.{BinaryOperator}
use Rattle.sc_tree.specs.declared.expression.BinaryOperator.TheVariants as binary
use Rattle.sc_tree.specs.Plain as plain
use Rattle.sc_tree.specs.Plain.{Name, HandlerTag, DeclaredType, Expr, Integer, Boolean, Void, Current, Call, Unary, Binary, ObjectTest, Target, no_target, target, Exprs, no_exprs, expr_then}
use Rattle.sc_tree.specs.Bare.{nowhere, named}
use Rattle.sc_tree.specs.Grammar.{top, class_below, groups, prefix_of, spelling, terminals_of, IsNames, one_name, more_names, IsAttachment, unmarked, attached, exclamation, detachable, question, IsHandlerTag, own, separate, handler_of, IsType, type, IsTestedType, no_type, tested_type, IsPrimary, integer, true_constant, false_constant, void, parenthesized, chain, object_test, IsChain, current, result, unqualified, qualified, IsActuals, no_actuals, actuals, IsExprs, one_expr, more_exprs, IsExpr, primary, prefixed, tighter, left, alone}
use Rattle.sc_tree.specs.Canonical.Layout.{Part, word, tokens_of_parts}
use Rattle.sc_tree.specs.Canonical.Expressions.{names_parts, class_names_parts, name_part, class_name_part, handler_tag_parts, attachment_parts, type_parts, tested_type_parts, class_of_expr, left_class, in_class, expr_parts, actuals_parts, more_actuals_parts}
use Rattle.sc_tree.proofs.CanonicalTokens.{Keeps, same, each, added, dropped, both, before, Remains, Again, remains_along, again_along, kept_along, tokens-append, tokens-words}

-- ---- names and types

pub names_again : {xs : List Name} {c : List Kind} → IsNames xs c → Remains (IsNames xs) c (tokens_of_parts (names_parts xs))
names_again (one_name x) = record { spelled = one_name x; kept = same _ }
names_again (more_names x (one_name y)) = record { spelled = more_names x (one_name y); kept = same _ }
names_again (more_names x (more_names y d)) =
    let r = names_again (more_names y d) in
    record { spelled = more_names x r.spelled; kept = each (NAME x) (each (TERMINAL terminal.Comma) r.kept) }

pub class_names_again : {xs : List Name} {c : List Kind} → IsNames xs c → Remains (IsNames xs) c (tokens_of_parts (class_names_parts xs))
class_names_again (one_name x) = record { spelled = one_name x; kept = same _ }
class_names_again (more_names x (one_name y)) = record { spelled = more_names x (one_name y); kept = same _ }
class_names_again (more_names x (more_names y d)) =
    let r = class_names_again (more_names y d) in
    record { spelled = more_names x r.spelled; kept = each (NAME x) (each (TERMINAL terminal.Comma) r.kept) }

attachment_again : {d : Bool} {c : List Kind} → IsAttachment d c → Remains (IsAttachment d) c (tokens_of_parts (attachment_parts d))
attachment_again unmarked = record { spelled = unmarked; kept = same _ }
attachment_again attached = record { spelled = unmarked; kept = dropped _ (same _) }
attachment_again exclamation = record { spelled = unmarked; kept = dropped _ (same _) }
attachment_again detachable = record { spelled = detachable; kept = same _ }
attachment_again question = record { spelled = detachable; kept = dropped _ (added _ (same _)) }

handler_tag_again : {g : HandlerTag} {c : List Kind} → IsHandlerTag g c → Remains (IsHandlerTag g) c (tokens_of_parts (handler_tag_parts g))
handler_tag_again own = record { spelled = own; kept = same _ }
handler_tag_again separate = record { spelled = separate; kept = same _ }
handler_tag_again (handler_of x) = record { spelled = handler_of x; kept = same _ }

pub type_again : {t : DeclaredType} {c : List Kind} → IsType t c → Remains (IsType t) c (tokens_of_parts (type_parts t))
unfolding type_parts
type_again (type {d} {g} {cd} {cg} a b x) =
    let p = attachment_again a in
    let q = handler_tag_again b in
    remains_along (tokens-append (attachment_parts d) (handler_tag_parts g ++ class_name_part (named x) ∷ []) ∙ ap (λ e. tokens_of_parts (attachment_parts d) ++ e) (tokens-append (handler_tag_parts g) _))
    (record { spelled = type p.spelled q.spelled x; kept = both p.kept (both q.kept (same _)) })

pub tested_type_again : {t : Option DeclaredType} {c : List Kind} → IsTestedType t c → Remains (IsTestedType t) c (tokens_of_parts (tested_type_parts t))
tested_type_again no_type = record { spelled = no_type; kept = same _ }
tested_type_again (tested_type {t} d) =
    let r = type_again d in
    remains_along (ap (λ e. TERMINAL terminal.OpenBrace ∷ e) (tokens-append (type_parts t) _))
    (record { spelled = tested_type r.spelled; kept = each _ (both r.kept (same _)) })

-- ---- expressions

-- an expression, again, in parentheses where its class is too great
pub record AgainExpr (k : ℕ) (t : Expr) (c : List Kind) (h : ℕ) : Type 0 where
  pub nesting : ℕ
  pub low : nesting ≤ h
  pub lower : k < class_of_expr t → suc nesting ≤ h
  pub spelled : IsExpr (class_of_expr t) t (tokens_of_parts (expr_parts t)) nesting
  pub kept : Keeps c (tokens_of_parts (expr_parts t))

raised : (d k : ℕ) {t : Expr} {c : List Kind} {h : ℕ} → IsExpr k t c h → IsExpr (d + k) t c h
raised zero k {t = t} {c = c} {h = h} e = let z : k ≡ 0 + k = omega arith in subst (λ j. IsExpr j t c h) z e
raised (suc d) k {t = t} {c = c} {h = h} e = let z : suc (d + k) ≡ suc d + k = omega arith in subst (λ j. IsExpr j t c h) z (tighter (raised d k e))

raised_to : (j k : ℕ) {t : Expr} {c : List Kind} {h : ℕ} → j ≤ k → IsExpr j t c h → IsExpr k t c h
raised_to j k {t = t} {c = c} {h = h} p e = let z : (k - j) + j ≡ k = omega arith in subst (λ i. IsExpr i t c h) z (raised (k - j) j e)

under_small : (op : BinaryOperator) → class_below op ≤ 5
under_small binary.Times = omega arith
under_small binary.Quotient = omega arith
under_small binary.Remainder = omega arith
under_small binary.Plus = omega arith
under_small binary.Minus = omega arith
under_small binary.Equal = omega arith
under_small binary.NotEqual = omega arith
under_small binary.Less = omega arith
under_small binary.Greater = omega arith
under_small binary.LessEqual = omega arith
under_small binary.GreaterEqual = omega arith
under_small binary.And = omega arith
under_small binary.AndThen = omega arith
under_small binary.Or = omega arith
under_small binary.OrElse = omega arith
under_small binary.Xor = omega arith
under_small binary.Implies = omega arith

class_small : (t : Expr) → class_of_expr t ≤ 6
class_small (Binary s op a b) = omega (arith, under_small op)
class_small (Integer s n) = omega arith
class_small (Boolean s b) = omega arith
class_small (Void s) = omega arith
class_small (Current s) = omega arith
class_small (plain.Result s) = omega arith
class_small (Call s t n es) = omega arith
class_small (Unary s op a) = omega arith
class_small (ObjectTest s t a n) = omega arith

pub placed : {k : ℕ} {t : Expr} {c : List Kind} {h : ℕ} → AgainExpr k t c h →
    Again (IsExpr k t) c h (tokens_of_parts (in_class (class_of_expr t) k (expr_parts t)))
placed {k = k} {t = t} {c = c} {h = h} r = go (nat_le (class_of_expr t) k) refl
  where
    go : (b : Bool) → nat_le (class_of_expr t) k ≡ b →
        Again (IsExpr k t) c h (tokens_of_parts (if b then expr_parts t else word terminal.OpenParenthesis ∷ (expr_parts t ++ word terminal.CloseParenthesis ∷ [])))
    go true e = record { nesting = r.nesting; low = r.low; spelled = raised_to (class_of_expr t) k (grind arith) r.spelled; kept = r.kept }
    go false e =
        let above : k < class_of_expr t = grind arith in
        again_along (ap (λ d. TERMINAL terminal.OpenParenthesis ∷ d) (tokens-append (expr_parts t) _))
        (record {
          nesting = suc r.nesting;
          low = r.lower above;
          spelled = raised_to 0 k (omega arith) (primary (parenthesized (raised_to (class_of_expr t) 6 (class_small t) r.spelled)));
          kept = added _ (subst (λ x. Keeps x (tokens_of_parts (expr_parts t) ++ TERMINAL terminal.CloseParenthesis ∷ [])) (append-nil c) (both r.kept (added _ (same []))));
        })

-- a whole expression needs no parentheses
pub whole : {t : Expr} {c : List Kind} {h : ℕ} → AgainExpr top t c h → Again (IsExpr top t) c h (tokens_of_parts (expr_parts t))
whole {t = t} r = record { nesting = r.nesting; low = r.low; spelled = raised_to (class_of_expr t) 6 (class_small t) r.spelled; kept = r.kept }

-- ---- one lemma a rule

prefixed_again : (op : UnaryOperator) {t : Expr} {c : List Kind} {h : ℕ} → AgainExpr 0 t c h →
    AgainExpr 0 (Unary nowhere op t) (TERMINAL (prefix_of op) ∷ c) (suc h)
unfolding expr_parts
prefixed_again op r =
    let p = placed r in
    record {
      nesting = suc p.nesting;
      low = omega (arith, p.low);
      lower = λ x. absurd (omega (arith, x));
      spelled = prefixed op p.spelled;
      kept = each _ p.kept;
    }

tighter_again : {k : ℕ} {t : Expr} {c : List Kind} {h : ℕ} → AgainExpr k t c h → AgainExpr (suc k) t c h
tighter_again r = record { nesting = r.nesting; low = r.low; lower = λ x. r.lower (omega (arith, x)); spelled = r.spelled; kept = r.kept }

-- the tokens of an operator and its operands
binary_tokens : (op : BinaryOperator) (ps qs : List Part) →
    tokens_of_parts (ps ++ (map word (terminals_of op) ++ qs)) ≡ tokens_of_parts ps ++ (spelling op ++ tokens_of_parts qs)
binary_tokens op ps qs =
    tokens-append ps _
    ∙ ap (λ c. tokens_of_parts ps ++ c) (tokens-append (map word (terminals_of op)) qs ∙ ap (λ c. c ++ tokens_of_parts qs) (tokens-words (terminals_of op)))

binary_again : (op : BinaryOperator) {a b : Expr} {ca cb : List Kind} {ha hb : ℕ} →
    Again (IsExpr (left_class op) a) ca ha (tokens_of_parts (in_class (class_of_expr a) (left_class op) (expr_parts a))) →
    AgainExpr (class_below op) b cb hb →
    ((c d : List Kind) (m n : ℕ) → IsExpr (left_class op) a c m → IsExpr (class_below op) b d n → IsExpr (suc (class_below op)) (Binary nowhere op a b) (c ++ (spelling op ++ d)) (suc (max m n))) →
    AgainExpr (suc (class_below op)) (Binary nowhere op a b) (ca ++ (spelling op ++ cb)) (suc (max ha hb))
unfolding expr_parts
binary_again op {a = a} {b = b} p s rule =
    let q = placed s in
    let e = binary_tokens op (in_class (class_of_expr a) (left_class op) (expr_parts a)) (in_class (class_of_expr b) (class_below op) (expr_parts b)) in
    record {
      nesting = suc (max p.nesting q.nesting);
      low = omega (arith, p.low, q.low);
      lower = λ x. absurd (omega (arith, x));
      spelled = subst (λ d. IsExpr (suc (class_below op)) (Binary nowhere op a b) d (suc (max p.nesting q.nesting))) (sym e) (rule _ _ _ _ p.spelled q.spelled);
      kept = kept_along e (both p.kept (both (same (spelling op)) q.kept));
    }

left_again : (op : BinaryOperator) → groups (class_below op) ≡ true → {a b : Expr} {ca cb : List Kind} {ha hb : ℕ} → AgainExpr (suc (class_below op)) a ca ha →
    AgainExpr (class_below op) b cb hb →
    AgainExpr (suc (class_below op)) (Binary nowhere op a b) (ca ++ (spelling op ++ cb)) (suc (max ha hb))
left_again op g {a = a} {ca = ca} {ha = ha} p q =
    let e : left_class op ≡ suc (class_below op) = ap (λ x. if x then suc (class_below op) else class_below op) g in
    binary_again op (subst (λ k. Again (IsExpr k a) ca ha (tokens_of_parts (in_class (class_of_expr a) k (expr_parts a)))) (sym e) (placed p)) q
    (λ c d m n x y. left op g (subst (λ k. IsExpr k a c m) e x) y)

alone_again : (op : BinaryOperator) → groups (class_below op) ≡ false → {a b : Expr} {ca cb : List Kind} {ha hb : ℕ} → AgainExpr (class_below op) a ca ha →
    AgainExpr (class_below op) b cb hb →
    AgainExpr (suc (class_below op)) (Binary nowhere op a b) (ca ++ (spelling op ++ cb)) (suc (max ha hb))
alone_again op g {a = a} {ca = ca} {ha = ha} p q =
    let e : left_class op ≡ class_below op = ap (λ x. if x then suc (class_below op) else class_below op) g in
    binary_again op (subst (λ k. Again (IsExpr k a) ca ha (tokens_of_parts (in_class (class_of_expr a) k (expr_parts a)))) (sym e) (placed p)) q
    (λ c d m n x y. alone op g (subst (λ k. IsExpr k a c m) e x) y)

parenthesized_again : {t : Expr} {c : List Kind} {h : ℕ} → AgainExpr top t c h →
    AgainExpr 0 t (TERMINAL terminal.OpenParenthesis ∷ (c ++ TERMINAL terminal.CloseParenthesis ∷ [])) (suc h)
parenthesized_again r =
    record {
      nesting = r.nesting;
      low = omega (arith, r.low);
      lower = λ x. omega (arith, r.low);
      spelled = r.spelled;
      kept = dropped _ (before _ r.kept);
    }

chain_class : {t : Expr} {c : List Kind} {h : ℕ} → IsChain t c h → class_of_expr t ≡ 0
chain_class current = refl
chain_class result = refl
chain_class (unqualified x d) = refl
chain_class (qualified d x e) = refl

chain_again : {t : Expr} {c : List Kind} {h : ℕ} → IsChain t c h → Again (IsChain t) c h (tokens_of_parts (expr_parts t)) → AgainExpr 0 t c h
chain_again {t = t} d r =
    let e = chain_class d in
    record {
      nesting = r.nesting;
      low = r.low;
      lower = λ x. absurd (omega (arith, x, e));
      spelled = subst (λ k. IsExpr k t (tokens_of_parts (expr_parts t)) r.nesting) (sym e) (primary (chain r.spelled));
      kept = r.kept;
    }

object_test_again : {o : Option DeclaredType} {t : Expr} {co c : List Kind} {h : ℕ} → IsTestedType o co →
    Again (IsChain t) c h (tokens_of_parts (expr_parts t)) → (x : List ℕ) →
    AgainExpr 0 (ObjectTest nowhere o t (named x)) (TERMINAL terminal.Attached ∷ (co ++ (c ++ TERMINAL terminal.As ∷ NAME x ∷ []))) h
unfolding expr_parts
object_test_again {o = o} {t = t} d r x =
    let p = tested_type_again d in
    let rest = TERMINAL terminal.As ∷ NAME x ∷ [] in
    let e = ap (λ y. TERMINAL terminal.Attached ∷ y)
    (tokens-append (tested_type_parts o) (expr_parts t ++ word terminal.As ∷ name_part (named x) ∷ [])
    ∙ ap (λ y. tokens_of_parts (tested_type_parts o) ++ y) (tokens-append (expr_parts t) (word terminal.As ∷ name_part (named x) ∷ [])))
    in
    record {
      nesting = r.nesting;
      low = r.low;
      lower = λ y. absurd (omega (arith, y));
      spelled = subst (λ y. IsExpr 0 (ObjectTest nowhere o t (named x)) y r.nesting) (sym e) (primary (object_test p.spelled r.spelled x));
      kept = kept_along e (each _ (both p.kept (both r.kept (same rest))));
    }

unqualified_again : (x : List ℕ) {es : Exprs} {c : List Kind} {h : ℕ} → Again (IsActuals es) c h (tokens_of_parts (actuals_parts es)) →
    Again (IsChain (Call nowhere no_target (named x) es)) (NAME x ∷ c) h (tokens_of_parts (expr_parts (Call nowhere no_target (named x) es)))
unfolding expr_parts
unqualified_again x r = record { nesting = r.nesting; low = r.low; spelled = unqualified x r.spelled; kept = each _ r.kept }

qualified_again : {t : Expr} {ct : List Kind} {ht : ℕ} → Again (IsChain t) ct ht (tokens_of_parts (expr_parts t)) →
    (x : List ℕ) {es : Exprs} {c : List Kind} {h : ℕ} →
    Again (IsActuals es) c h (tokens_of_parts (actuals_parts es)) →
    Again (IsChain (Call nowhere (target t) (named x) es)) (ct ++ TERMINAL terminal.Dot ∷ NAME x ∷ c) (max (suc ht) h) (tokens_of_parts (expr_parts (Call nowhere (target t) (named x) es)))
unfolding expr_parts
qualified_again {t = t} p x {es = es} q =
    again_along (tokens-append (expr_parts t) (word terminal.Dot ∷ name_part (named x) ∷ actuals_parts es))
    (record {
      nesting = max (suc p.nesting) q.nesting;
      low = omega (arith, p.low, q.low);
      spelled = qualified p.spelled x q.spelled;
      kept = both p.kept (each _ (each _ q.kept));
    })

-- expressions with commas between them
exprs_parts : Exprs → List Part
exprs_parts no_exprs = []
exprs_parts (expr_then e es) = expr_parts e ++ more_actuals_parts es

more_is : {es : Exprs} {c : List Kind} {h : ℕ} → IsExprs es c h → more_actuals_parts es ≡ word terminal.Comma ∷ exprs_parts es
unfolding expr_parts exprs_parts
more_is (one_expr d) = refl
more_is (more_exprs d ds) = refl

actuals_is : {es : Exprs} {c : List Kind} {h : ℕ} → IsExprs es c h →
    actuals_parts es ≡ word terminal.OpenParenthesis ∷ (exprs_parts es ++ word terminal.CloseParenthesis ∷ [])
unfolding expr_parts exprs_parts
actuals_is (one_expr {t} d) = ap (λ ps. word terminal.OpenParenthesis ∷ ps) (sym (append_assoc (expr_parts t) [] _))
actuals_is (more_exprs {t} {es} d ds) = ap (λ ps. word terminal.OpenParenthesis ∷ ps) (sym (append_assoc (expr_parts t) (more_actuals_parts es) _))

actuals_again : {es : Exprs} {c : List Kind} {h : ℕ} → IsExprs es c h → Again (IsExprs es) c h (tokens_of_parts (exprs_parts es)) →
    Again (IsActuals es) (TERMINAL terminal.OpenParenthesis ∷ (c ++ TERMINAL terminal.CloseParenthesis ∷ [])) (suc h) (tokens_of_parts (actuals_parts es))
actuals_again {es = es} d r =
    again_along (ap tokens_of_parts (actuals_is d) ∙ ap (λ c. TERMINAL terminal.OpenParenthesis ∷ c) (tokens-append (exprs_parts es) _))
    (record { nesting = suc r.nesting; low = omega (arith, r.low); spelled = actuals r.spelled; kept = each _ (both r.kept (same _)) })

one_expr_again : {t : Expr} {c : List Kind} {h : ℕ} → AgainExpr top t c h →
    Again (IsExprs (expr_then t no_exprs)) c h (tokens_of_parts (exprs_parts (expr_then t no_exprs)))
unfolding expr_parts exprs_parts
one_expr_again {t = t} r =
    let p = whole r in
    again_along (ap tokens_of_parts (append-nil (expr_parts t))) (record { nesting = p.nesting; low = p.low; spelled = one_expr p.spelled; kept = p.kept })

more_exprs_again : {t : Expr} {es : Exprs} {c cs : List Kind} {h hs : ℕ} → IsExprs es cs hs → AgainExpr top t c h →
    Again (IsExprs es) cs hs (tokens_of_parts (exprs_parts es)) →
    Again (IsExprs (expr_then t es)) (c ++ TERMINAL terminal.Comma ∷ cs) (max h hs) (tokens_of_parts (exprs_parts (expr_then t es)))
unfolding exprs_parts
more_exprs_again {t = t} {es = es} d r q =
    let p = whole r in
    again_along (ap (λ ps. tokens_of_parts (expr_parts t ++ ps)) (more_is d) ∙ tokens-append (expr_parts t) (word terminal.Comma ∷ exprs_parts es))
    (record {
      nesting = max p.nesting q.nesting;
      low = omega (arith, p.low, q.low);
      spelled = more_exprs p.spelled q.spelled;
      kept = both p.kept (each _ q.kept);
    })

-- ---- all of them

mutual
  unfolding expr_parts

  primary_again : {t : Expr} {c : List Kind} {h : ℕ} → IsPrimary t c h → AgainExpr 0 t c h
  primary_again (integer n) = record { nesting = 0; low = omega arith; lower = λ x. absurd (omega (arith, x)); spelled = primary (integer n); kept = same _ }
  primary_again true_constant =
      record {
        nesting = 0;
        low = omega arith;
        lower = λ x. absurd (omega (arith, x));
        spelled = primary true_constant;
        kept = same _;
      }
  primary_again false_constant =
      record {
        nesting = 0;
        low = omega arith;
        lower = λ x. absurd (omega (arith, x));
        spelled = primary false_constant;
        kept = same _;
      }
  primary_again void = record { nesting = 0; low = omega arith; lower = λ x. absurd (omega (arith, x)); spelled = primary void; kept = same _ }
  primary_again (parenthesized d) = parenthesized_again (expr_again d)
  primary_again (chain d) = chain_again d (in_chain_again d)
  primary_again (object_test d e x) = object_test_again d (in_chain_again e) x

  pub in_chain_again : {t : Expr} {c : List Kind} {h : ℕ} → IsChain t c h → Again (IsChain t) c h (tokens_of_parts (expr_parts t))
  in_chain_again current = record { nesting = 0; low = omega arith; spelled = current; kept = same _ }
  in_chain_again result = record { nesting = 0; low = omega arith; spelled = result; kept = same _ }
  in_chain_again (unqualified x d) = unqualified_again x (all_actuals_again d)
  in_chain_again (qualified d x e) = qualified_again (in_chain_again d) x (all_actuals_again e)

  pub all_actuals_again : {es : Exprs} {c : List Kind} {h : ℕ} → IsActuals es c h → Again (IsActuals es) c h (tokens_of_parts (actuals_parts es))
  all_actuals_again no_actuals = record { nesting = 0; low = omega arith; spelled = no_actuals; kept = same _ }
  all_actuals_again (actuals d) = actuals_again d (exprs_again d)

  exprs_again : {es : Exprs} {c : List Kind} {h : ℕ} → IsExprs es c h → Again (IsExprs es) c h (tokens_of_parts (exprs_parts es))
  exprs_again (one_expr d) = one_expr_again (expr_again d)
  exprs_again (more_exprs d ds) = more_exprs_again ds (expr_again d) (exprs_again ds)

  pub expr_again : {k : ℕ} {t : Expr} {c : List Kind} {h : ℕ} → IsExpr k t c h → AgainExpr k t c h
  expr_again (primary d) = primary_again d
  expr_again (prefixed op d) = prefixed_again op (expr_again d)
  expr_again (tighter d) = tighter_again (expr_again d)
  expr_again (left op g d e) = left_again op g (expr_again d) (expr_again e)
  expr_again (alone op g d e) = alone_again op g (expr_again d) (expr_again e)

pub whole_again : {t : Expr} {c : List Kind} {h : ℕ} → IsExpr top t c h → Again (IsExpr top t) c h (tokens_of_parts (expr_parts t))
whole_again d = whole (expr_again d)
