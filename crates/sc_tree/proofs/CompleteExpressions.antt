-- Reading gives each tree that tokens spell, where what follows doesn't go on with it: expressions.
use Rattle.std.proofs.Common.{◌≡◌, ℕ, zero, suc, ◌+◌, ◌≤◌, ◌<◌, max, true, false, List, [], ◌∷◌, ◌++◌, length, Option, Ok, Err, refl, ap, sym, ◌∙◌, subst, append_assoc, length-append, arith, ◌⊎◌, inl, inr}
use Rattle.std.specs.Prelude.{nat_le, if◌then◌else◌}
use Rattle.sc_text.specs.Kind.{Kind, NAME, TERMINAL}
use Rattle.sc_text.specs.declared.token.Terminal.TheVariants as terminal
use Rattle.sc_tree.specs.Plain as plain
use Rattle.sc_tree.specs.Plain.{DeclaredType, Expr, Current, Call, ObjectTest, Target, no_target, target, Exprs, no_exprs, expr_then}
use Rattle.sc_tree.specs.Bare.{nowhere, named}
use Rattle.sc_tree.specs.Grammar as grammar
use Rattle.sc_tree.specs.Grammar.{class_below, groups, top, spelling, IsPrimary, IsChain, IsActuals, IsExprs, IsExpr}
use Rattle.sc_tree.specs.Internal.Reading.{Deep, Read, ◌>>=◌, same_terminal, sees, expect, name, tested_type, exprs_push, more_exprs, exprs, actuals, calling, chain_head, calls, chain, object_test, primary, level, expr, nested}
use Rattle.sc_tree.proofs.ReadingSteps.{behind_word, Comes, fits, deep, both, surely, lastly, along, needs, grown, bind_ok, bind_err, choose_true, choose_false, le_true, le_false}
use Rattle.sc_tree.proofs.Looks.{expect_self, sees_self}
use Rattle.sc_tree.proofs.Lists.{exprs_joined, exprs_joined-push, exprs_joined-none}
use Rattle.sc_tree.proofs.Follows.{Unlinked, Stops, fewer, operator_stops, Apart, apart_stops, chain_first, expr_begins}
use Rattle.sc_tree.proofs.CompleteTypes.{complete_tested_type}
use Rattle.sc_tree.proofs.OperandSteps.{Chained, alone_step, chain_read, expr_is, false_read, first_step, integer_read, le_or_lt, left_step, nested_comes, open_step, prefixed_step, primary_step, stop_step, true_read, void_read}

-- ---- actuals

pub ActualsRead : Exprs → List Kind → ℕ → Type 0
ActualsRead es c h = (r : List Kind) → Apart r → sees terminal.Comma r ≡ false → (n f : ℕ) (found : Exprs) (high : ℕ) → length (c ++ r) ≤ f → high < n →
    Comes n (suc h) (exprs_joined found es, max high h, r) (more_exprs (nested n) (suc f) found high (TERMINAL terminal.Comma ∷ (c ++ r)))

exprs_stay : (n f : ℕ) (found : Exprs) (high : ℕ) (r : List Kind) → sees terminal.Comma r ≡ false → more_exprs (nested n) f found high r ≡ Ok (found, high, r)
unfolding more_exprs
exprs_stay n zero found high r e = refl
exprs_stay n (suc f) found high r e = choose_false _ _ _ e

-- an expression behind a comma
comma_read : (n f : ℕ) (found : Exprs) (high : ℕ) (ts : List Kind) →
    more_exprs (nested n) (suc f) found high (TERMINAL terminal.Comma ∷ ts) ≡ (nested n top ts >>= λ x. more_exprs (nested n) f (exprs_push found x.0) (max high x.1) x.2)
unfolding more_exprs
comma_read n f found high ts = choose_true _ _ _ (sees_self terminal.Comma ts)

last_expr_step : (n f h : ℕ) (found : Exprs) (high : ℕ) (t : Expr) (ts r : List Kind) → sees terminal.Comma r ≡ false → Comes n (suc h) (t, h, r) (nested n top ts) →
    Comes n (suc h) (exprs_joined found (expr_then t no_exprs), max high h, r) (more_exprs (nested n) (suc f) found high (TERMINAL terminal.Comma ∷ ts))
last_expr_step n f h found high t ts r e d =
    let same : exprs_push found t ≡ exprs_joined found (expr_then t no_exprs) = sym (exprs_joined-none (exprs_push found t)) ∙ exprs_joined-push found t no_exprs in
    along n (suc h) (suc h) (exprs_push found t, max high h, r) _ _ _ refl (ap (λ (us : Exprs). (us, max high h, r)) same) (comma_read n f found high ts)
    (lastly n (suc h) (t, h, r) _ _ _ d (exprs_stay n f (exprs_push found t) (max high h) r e))

-- one expression behind a comma, and the rest of them
more_expr_step : (n f h hs : ℕ) (found : Exprs) (high : ℕ) (t : Expr) (us : Exprs) (ts r' r : List Kind) → high < n → Comes n (suc h) (t, h, r') (nested n top ts) →
    (max high h < n → Comes n (suc hs) (exprs_joined (exprs_push found t) us, max (max high h) hs, r) (more_exprs (nested n) f (exprs_push found t) (max high h) r')) →
    Comes n (suc (max h hs)) (exprs_joined found (expr_then t us), max high (max h hs), r) (more_exprs (nested n) (suc f) found high (TERMINAL terminal.Comma ∷ ts))
more_expr_step n f h hs found high t us ts r' r l d more =
    let v : max (suc h) (suc hs) ≡ suc (max h hs) = omega arith in
    grown n high (suc h) h (suc hs) hs (suc (max h hs)) t _ _ r' r _ _ _ (comma_read n f found high ts) (exprs_joined-push found t us) v d (λ p. more (omega arith))

more_expr_at : (n h hs : ℕ) (t : Expr) (us : Exprs) (c cs r : List Kind) → Comes n (suc h) (t, h, TERMINAL terminal.Comma ∷ (cs ++ r)) (nested n top (c ++ TERMINAL terminal.Comma ∷ (cs ++ r))) →
    ((f : ℕ) (found : Exprs) (high : ℕ) → length (cs ++ r) ≤ f → high < n → Comes n (suc hs) (exprs_joined found us, max high hs, r) (more_exprs (nested n) (suc f) found high (TERMINAL terminal.Comma ∷ (cs ++ r)))) →
    (f : ℕ) (found : Exprs) (high : ℕ) → length (c ++ TERMINAL terminal.Comma ∷ (cs ++ r)) ≤ f → high < n →
    Comes n (suc (max h hs)) (exprs_joined found (expr_then t us), max high (max h hs), r) (more_exprs (nested n) (suc f) found high (TERMINAL terminal.Comma ∷ (c ++ TERMINAL terminal.Comma ∷ (cs ++ r))))
more_expr_at n h hs t us c cs r d more zero found high len l = let e = length-append c (TERMINAL terminal.Comma ∷ (cs ++ r)) in absurd (omega arith)
more_expr_at n h hs t us c cs r d more (suc f) found high len l =
    let e = length-append c (TERMINAL terminal.Comma ∷ (cs ++ r)) in
    more_expr_step n (suc f) h hs found high t us _ (TERMINAL terminal.Comma ∷ (cs ++ r)) r l d (λ m. more f (exprs_push found t) (max high h) (omega arith) m)

-- the first expression of a list, and those behind it
abbrev then_exprs : ℕ → Expr × ℕ × List Kind → Read Exprs
then_exprs n x = more_exprs (nested n) (length x.2) (expr_then x.0 no_exprs) x.1 x.2

one_expr_step : (n h : ℕ) (t : Expr) (ts r : List Kind) → sees terminal.Comma r ≡ false → Comes n (suc h) (t, h, r) (nested n top ts) → Comes n (suc h) (expr_then t no_exprs, h, r) (exprs (nested n) ts)
unfolding exprs
one_expr_step n h t ts r e d = lastly n (suc h) (t, h, r) _ _ (then_exprs n) d (exprs_stay n (length r) (expr_then t no_exprs) h r e)

first_expr_step : (n h hs : ℕ) (t : Expr) (us : Exprs) (ts cs r : List Kind) → Comes n (suc h) (t, h, TERMINAL terminal.Comma ∷ (cs ++ r)) (nested n top ts) →
    (h < n → Comes n (suc hs) (expr_then t us, max h hs, r) (more_exprs (nested n) (suc (length (cs ++ r))) (expr_then t no_exprs) h (TERMINAL terminal.Comma ∷ (cs ++ r)))) →
    Comes n (suc (max h hs)) (expr_then t us, max h hs, r) (exprs (nested n) ts)
unfolding exprs
first_expr_step n h hs t us ts cs r d more =
    let v : max (suc h) (suc hs) ≡ suc (max h hs) = omega arith in
    needs n _ _ _ _ (expr_then t us) r _ v refl (both n (suc h) (suc hs) (t, h, TERMINAL terminal.Comma ∷ (cs ++ r)) (expr_then t us, max h hs, r) _ (then_exprs n) d (λ p. more (omega arith)))

no_actuals_read : (n : ℕ) (r : List Kind) → sees terminal.OpenParenthesis r ≡ false → actuals (nested n) r ≡ Ok (no_exprs, 0, r)
unfolding actuals
no_actuals_read n r e = choose_false _ _ _ e

actuals_step : (n h : ℕ) (es : Exprs) (ts r : List Kind) → Comes n (suc h) (es, h, TERMINAL terminal.CloseParenthesis ∷ r) (exprs (nested n) ts) → Comes n (suc h) (es, suc h, r) (actuals (nested n) (TERMINAL terminal.OpenParenthesis ∷ ts))
unfolding actuals same_terminal
actuals_step n h es ts r d = lastly n (suc h) (es, h, TERMINAL terminal.CloseParenthesis ∷ r) _ _ _ d (bind_ok _ r _ (expect_self terminal.CloseParenthesis r))

close_no_comma : (r : List Kind) → sees terminal.Comma (TERMINAL terminal.CloseParenthesis ∷ r) ≡ false
unfolding same_terminal
close_no_comma r = refl

-- ---- chains of calls

-- Reading has come so far, and goes on with the dots.
pub data Linked (room h : ℕ) (t : Expr) (r : List Kind) (a : Read Expr) : Type 0 where
  links : h ≤ room → (f : ℕ) → length r ≤ f → a ≡ calls (nested room) room f t h r → Linked room h t r a
  too_many : room < h → a ≡ Err Deep → Linked room h t r a

calls_stop : (n f : ℕ) (t : Expr) (h : ℕ) (r : List Kind) → sees terminal.Dot r ≡ false → calls (nested n) n f t h r ≡ Ok (t, h, r)
unfolding calls
calls_stop n zero t h r e = refl
calls_stop n (suc f) t h r e = choose_false _ _ _ e

linked_stop : (n h : ℕ) (t : Expr) (r : List Kind) (a : Read Expr) → sees terminal.Dot r ≡ false → Linked n h t r a → Comes n h (t, h, r) a
linked_stop n h t r a e (links p f len q) = fits p (q ∙ calls_stop n f t h r e)
linked_stop n h t r a e (too_many p q) = deep p q

calling_step : (n h : ℕ) (on : Target) (x : List ℕ) (es : Exprs) (ts r : List Kind) → Comes n h (es, h, r) (actuals (nested n) ts) → Comes n h (Call nowhere on (named x) es, h, r) (calling (nested n) on (NAME x ∷ ts))
unfolding calling
calling_step n h on x es ts r d = lastly n h (es, h, r) _ _ _ d refl

abbrev then_calls : ℕ → Expr × ℕ × List Kind → Read Expr
then_calls n x = calls (nested n) n (length x.2) x.0 x.1 x.2

current_link : (n : ℕ) (r : List Kind) → Linked n 0 (Current nowhere) r (chain (nested n) n (TERMINAL terminal.Current ∷ r))
unfolding chain chain_head same_terminal
current_link n r = links (omega arith) (length r) (omega arith) refl

result_link : (n : ℕ) (r : List Kind) → Linked n 0 (plain.Result nowhere) r (chain (nested n) n (TERMINAL terminal.Result ∷ r))
unfolding chain chain_head same_terminal
result_link n r = links (omega arith) (length r) (omega arith) refl

name_link : (n h : ℕ) (x : List ℕ) (es : Exprs) (ts r : List Kind) → Comes n h (Call nowhere no_target (named x) es, h, r) (calling (nested n) no_target (NAME x ∷ ts)) →
    Linked n h (Call nowhere no_target (named x) es) r (chain (nested n) n (NAME x ∷ ts))
unfolding chain chain_head
name_link n h x es ts r (fits p e) = links p (length r) (omega arith) (bind_ok _ _ (then_calls n) e)
name_link n h x es ts r (deep p e) = too_many p (bind_err _ _ (then_calls n) e)

-- the call behind a dot
dotted : (n f : ℕ) (t : Expr) (h : ℕ) (ts : List Kind) →
    calls (nested n) n (suc f) t h (TERMINAL terminal.Dot ∷ ts) ≡ (if nat_le n h then Err Deep else (calling (nested n) (target t) ts >>= λ x. calls (nested n) n f x.0 (max (suc h) x.1) x.2))
unfolding calls
dotted n f t h ts = choose_true _ _ _ (sees_self terminal.Dot ts)

abbrev next_calls : ℕ → ℕ → ℕ → Expr × ℕ × List Kind → Read Expr
next_calls n f h x = calls (nested n) n f x.0 (max (suc h) x.1) x.2

-- A dot behind its target, with a call that leaves fewer tokens.
module _ (n ht h : ℕ) (t u : Expr) (ts r : List Kind) (within : length r ≤ length ts) where
  dot_in : (f : ℕ) → length ts ≤ f → (a : Read Expr) → a ≡ calls (nested n) n (suc f) t ht (TERMINAL terminal.Dot ∷ ts) → (n ≤ ht) ⊎ (ht < n) → Comes n h (u, h, r) (calling (nested n) (target t) ts) → Linked n (max (suc ht) h) u r a
  dot_in f len a e (inl p) c = too_many (omega arith) (e ∙ dotted n f t ht ts ∙ choose_true _ _ _ (le_true n ht p))
  dot_in f len a e (inr p) (fits q d) = links (omega arith) f (omega arith) (e ∙ dotted n f t ht ts ∙ choose_false _ _ _ (le_false n ht p) ∙ bind_ok _ _ (next_calls n f ht) d)
  dot_in f len a e (inr p) (deep q d) = too_many (omega arith) (e ∙ dotted n f t ht ts ∙ choose_false _ _ _ (le_false n ht p) ∙ bind_err _ _ (next_calls n f ht) d)

  dot_at : (f : ℕ) → suc (length ts) ≤ f → (a : Read Expr) → a ≡ calls (nested n) n f t ht (TERMINAL terminal.Dot ∷ ts) → Comes n h (u, h, r) (calling (nested n) (target t) ts) → Linked n (max (suc ht) h) u r a
  dot_at zero len a e c = absurd (omega arith)
  dot_at (suc f) len a e c = dot_in f (omega arith) a e (le_or_lt n ht) c

  dot_step : (a : Read Expr) → Linked n ht t (TERMINAL terminal.Dot ∷ ts) a → Comes n h (u, h, r) (calling (nested n) (target t) ts) → Linked n (max (suc ht) h) u r a
  dot_step a (links p f len e) c = dot_at f len a e c
  dot_step a (too_many p e) c = too_many (omega arith) e

pub dot_no_actuals : (r : List Kind) → sees terminal.OpenParenthesis (TERMINAL terminal.Dot ∷ r) ≡ false
unfolding same_terminal
dot_no_actuals r = refl

longer_name : (x : List ℕ) (c r : List Kind) → length r ≤ length (NAME x ∷ (c ++ r))
longer_name x c r = let e = length-append c r in omega arith

-- ---- object tests

-- a chain of calls, and the name behind it
abbrev test_with : ℕ → Option DeclaredType × List Kind → Read Expr
test_with n o = chain (nested n) n o.1 >>= λ t. expect terminal.As t.2 >>= λ s. name s >>= λ x. Ok (ObjectTest nowhere o.0 t.0 x.0, t.1, x.1)

object_test_step : (n h : ℕ) (o : Option DeclaredType) (t : Expr) (x : List ℕ) (ts ts' r : List Kind) → tested_type ts ≡ Ok (o, ts') → Comes n h (t, h, TERMINAL terminal.As ∷ NAME x ∷ r) (chain (nested n) n ts') →
    Comes n h (ObjectTest nowhere o t (named x), h, r) (primary (nested n) n (TERMINAL terminal.Attached ∷ ts))
unfolding primary object_test same_terminal
object_test_step n h o t x ts ts' r e d = surely n h (o, ts') _ _ (test_with n) e (lastly n h (t, h, TERMINAL terminal.As ∷ NAME x ∷ r) _ _ _ d (bind_ok _ (NAME x ∷ r) _ (expect_self terminal.As (NAME x ∷ r))))

test_respelled : (co c r : List Kind) (j k : Kind) → (co ++ (c ++ j ∷ k ∷ [])) ++ r ≡ co ++ (c ++ j ∷ k ∷ r)
test_respelled co c r j k = simp append_assoc

-- ---- the law

longer : (a b : List Kind) → length b ≤ length (a ++ b)
longer a b = let e : length (a ++ b) ≡ length a + length b = length-append a b in omega arith

pub as_unlinked : (r : List Kind) → Unlinked (TERMINAL terminal.As ∷ r)
unfolding same_terminal
as_unlinked r = record { parenthesis = refl; dot = refl }

-- Reading an expression above a class that groups comes to its tree, and may go on with operators of the class.
abbrev pub Chains : ℕ → Expr → List Kind → ℕ → Type 0
Chains zero t c h = Unit {0}
Chains (suc k) t c h = groups k ≡ true → (r : List Kind) → Stops k r → (n : ℕ) → Chained n k h t r (level (nested n) n (suc k) (c ++ r))

-- `ca op cb r`, as it is read
respelled : (ca s cb r : List Kind) → (ca ++ (s ++ cb)) ++ r ≡ ca ++ (s ++ (cb ++ r))
respelled ca s cb r = simp append_assoc

mutual
  unfolding ActualsRead

  pub complete_primary : {t : Expr} {c : List Kind} {h : ℕ} → IsPrimary t c h → (r : List Kind) → Unlinked r → (n : ℕ) → Comes n h (t, h, r) (primary (nested n) n (c ++ r))
  complete_primary (grammar.integer v) r u n = fits (omega arith) (integer_read n v r)
  complete_primary grammar.true_constant r u n = fits (omega arith) (true_read n r)
  complete_primary grammar.false_constant r u n = fits (omega arith) (false_read n r)
  complete_primary grammar.void r u n = fits (omega arith) (void_read n r)
  complete_primary (grammar.parenthesized {t} {c} {h} d) r u n =
      rw (append_assoc c (TERMINAL terminal.CloseParenthesis ∷ []) r)
      (open_step n h t _ r (nested_comes h top _ _ (complete_level d (TERMINAL terminal.CloseParenthesis ∷ r) (apart_stops top _ refl)) n))
  complete_primary (grammar.chain {t} {c} {h} d) r u n =
      along n h h (t, h, r) (t, h, r) _ _ refl refl (chain_read n (c ++ r) (chain_first d r)) (linked_stop n h t r _ u.dot (linked d r u.parenthesis n))
  complete_primary (grammar.object_test {o} {t} {co} {c} {h} dt d x) r u n =
      rw (test_respelled co c r (TERMINAL terminal.As) (NAME x))
      (object_test_step n h o t x _ (c ++ TERMINAL terminal.As ∷ NAME x ∷ r) r (complete_tested_type dt (c ++ TERMINAL terminal.As ∷ NAME x ∷ r) (chain_first d _))
      (linked_stop n h t (TERMINAL terminal.As ∷ NAME x ∷ r) _ (as_unlinked (NAME x ∷ r)).dot (linked d (TERMINAL terminal.As ∷ NAME x ∷ r) (as_unlinked (NAME x ∷ r)).parenthesis n)))

  linked : {t : Expr} {c : List Kind} {h : ℕ} → IsChain t c h → (r : List Kind) → sees terminal.OpenParenthesis r ≡ false → (n : ℕ) → Linked n h t r (chain (nested n) n (c ++ r))
  linked grammar.current r e n = current_link n r
  linked grammar.result r e n = result_link n r
  linked (grammar.unqualified x {es} {c} {h} d) r e n = name_link n h x es (c ++ r) r (calling_step n h no_target x es (c ++ r) r (complete_actuals d r e n))
  linked (grammar.qualified {t} {ct} {ht} d x {es} {c} {h} da) r e n =
      rw (append_assoc ct (TERMINAL terminal.Dot ∷ NAME x ∷ c) r)
      (dot_step n ht h t (Call nowhere (target t) (named x) es) (NAME x ∷ (c ++ r)) r (longer_name x c r) _ (linked d (TERMINAL terminal.Dot ∷ NAME x ∷ (c ++ r)) (dot_no_actuals (NAME x ∷ (c ++ r))) n)
      (calling_step n h (target t) x es (c ++ r) r (complete_actuals da r e n)))

  pub complete_actuals : {es : Exprs} {c : List Kind} {h : ℕ} → IsActuals es c h → (r : List Kind) → sees terminal.OpenParenthesis r ≡ false → (n : ℕ) → Comes n h (es, h, r) (actuals (nested n) (c ++ r))
  complete_actuals grammar.no_actuals r e n = fits (omega arith) (no_actuals_read n r e)
  complete_actuals (grammar.actuals {es} {c} {h} d) r e n =
      rw (append_assoc c (TERMINAL terminal.CloseParenthesis ∷ []) r) (actuals_step n h es (c ++ TERMINAL terminal.CloseParenthesis ∷ r) r (complete_exprs d (TERMINAL terminal.CloseParenthesis ∷ r) refl (close_no_comma r) n))

  complete_exprs : {es : Exprs} {c : List Kind} {h : ℕ} → IsExprs es c h → (r : List Kind) → Apart r → sees terminal.Comma r ≡ false → (n : ℕ) → Comes n (suc h) (es, h, r) (exprs (nested n) (c ++ r))
  complete_exprs (grammar.one_expr {t} {c} {h} d) r a e n = one_expr_step n h t (c ++ r) r e (nested_comes h top _ _ (complete_level d r (apart_stops top r a)) n)
  complete_exprs (grammar.more_exprs {t} {es = us} {c} {cs} {h} {hs} d ds) r a e n =
      rw (behind_word c cs r (TERMINAL terminal.Comma))
      (first_expr_step n h hs t us _ cs r
      (nested_comes h top _ _ (complete_level d (TERMINAL terminal.Comma ∷ (cs ++ r)) (apart_stops top _ refl)) n) (λ l. behind_comma ds r a e n (length (cs ++ r)) (expr_then t no_exprs) h (omega arith) l))

  behind_comma : {es : Exprs} {c : List Kind} {h : ℕ} → IsExprs es c h → ActualsRead es c h
  behind_comma (grammar.one_expr {t} {c} {h} d) = λ r a e n f found high len l.
      last_expr_step n f h found high t (c ++ r) r e (nested_comes h top _ _ (complete_level d r (apart_stops top r a)) n)
  behind_comma (grammar.more_exprs {t} {es = us} {c} {cs} {h} {hs} d ds) = λ r a e n f found high len l.
      rw (behind_word c cs r (TERMINAL terminal.Comma))
      (more_expr_at n h hs t us c cs r (nested_comes h top _ _ (complete_level d (TERMINAL terminal.Comma ∷ (cs ++ r)) (apart_stops top _ refl)) n) (behind_comma ds r a e n) f found high
      (subst (λ (ts : List Kind). length ts ≤ f) (behind_word c cs r (TERMINAL terminal.Comma)) len) l)

  pub complete_level : {k : ℕ} {t : Expr} {c : List Kind} {h : ℕ} → IsExpr k t c h → (r : List Kind) → Stops k r → (n : ℕ) → Comes n h (t, h, r) (level (nested n) n k (c ++ r))
  complete_level (grammar.primary d) r s n = primary_step d r n (complete_primary d r s.unlinked n)
  complete_level (grammar.prefixed op {t} {c} {h} d) r s n = prefixed_step n h op t (c ++ r) r (nested_comes h 0 _ _ (complete_level d r s) n)
  complete_level (grammar.tighter {k} {t} {c} {h} d) r s n = stop_step n k h t r _ (s.no_operator k (omega arith)) (first_step n k h t r (c ++ r) (complete_level d r (fewer k r s) n))
  complete_level (grammar.left op g {a} {b} {ca} {cb} {ha} {hb} da db) r s n =
      rw (respelled ca (spelling op) cb r)
      (stop_step n (class_below op) _ _ r _ (s.no_operator (class_below op) (omega arith))
      (left_step op n ha hb a b (cb ++ r) r (expr_begins db r) (longer cb r) g _ (chained da g (spelling op ++ (cb ++ r)) (operator_stops op (cb ++ r)) n) (nested_comes hb (class_below op) _ _ (complete_level db r (fewer (class_below op) r s)) n)))
  complete_level (grammar.alone op g {a} {b} {ca} {cb} {ha} {hb} da db) r s n =
      rw (respelled ca (spelling op) cb r)
      (alone_step op n ha hb a b (cb ++ r) r (expr_begins db r) (longer cb r) g _
      (first_step n (class_below op) ha a (spelling op ++ (cb ++ r)) _ (complete_level da (spelling op ++ (cb ++ r)) (operator_stops op (cb ++ r)) n)) (nested_comes hb (class_below op) _ _ (complete_level db r (fewer (class_below op) r s)) n))

  chained : {k : ℕ} {t : Expr} {c : List Kind} {h : ℕ} → IsExpr k t c h → Chains k t c h
  chained (grammar.primary d) = tt
  chained (grammar.prefixed op d) = tt
  chained (grammar.tighter {k} {t} {c} {h} d) = λ g r s n. first_step n k h t r (c ++ r) (complete_level d r s n)
  chained (grammar.left op g {a} {b} {ca} {cb} {ha} {hb} da db) = λ g' r s n.
      rw (respelled ca (spelling op) cb r)
      (left_step op n ha hb a b (cb ++ r) r (expr_begins db r) (longer cb r) g _ (chained da g (spelling op ++ (cb ++ r)) (operator_stops op (cb ++ r)) n) (nested_comes hb (class_below op) _ _ (complete_level db r s) n))
  chained (grammar.alone op g da db) = λ g' r s n. let q : true ≡ false = sym g' ∙ g in cc

-- what follows is apart from an expression
pub complete_expr : {t : Expr} {c : List Kind} {h : ℕ} → IsExpr top t c h → (r : List Kind) → Apart r → (n : ℕ) → Comes n h (t, h, r) (expr n top (c ++ r))
complete_expr {t} {c} {h} d r a n = rw (expr_is n top (c ++ r)) (complete_level d r (apart_stops top r a) n)

pub complete_nested : {t : Expr} {c : List Kind} {h : ℕ} → IsExpr top t c h → (r : List Kind) → Apart r → (n : ℕ) → Comes n (suc h) (t, h, r) (nested n top (c ++ r))
complete_nested {t} {c} {h} d r a n = nested_comes h top (t, h, r) (c ++ r) (complete_level d r (apart_stops top r a)) n

pub complete_chain : {t : Expr} {c : List Kind} {h : ℕ} → IsChain t c h → (r : List Kind) → Unlinked r → (n : ℕ) → Comes n h (t, h, r) (chain (nested n) n (c ++ r))
complete_chain {t} {c} {h} d r u n = linked_stop n h t r _ u.dot (linked d r u.parenthesis n)
