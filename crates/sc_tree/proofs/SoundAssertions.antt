-- What reading gives, the tokens spell: assertions.
use Rattle.std.proofs.Common.{◌≡◌, ℕ, zero, suc, max, Bool, true, false, List, [], ◌∷◌, ◌++◌, length, Option, Some, None, Ok, refl, ap, sym, ◌∙◌, subst, append_assoc, append-nil, arith}
use Rattle.std.specs.Prelude.{if◌then◌else◌}
use Rattle.sc_text.specs.Kind.{Kind, NAME, INTEGER, STRING, TERMINAL}
use Rattle.sc_text.specs.declared.token.Terminal.TheVariants as terminal
use Rattle.sc_tree.specs.Plain.{Name, Clause}
use Rattle.sc_tree.specs.Bare.{named}
use Rattle.sc_tree.specs.Grammar as grammar
use Rattle.sc_text.specs.declared.token.Terminal.{Terminal}
use Rattle.sc_tree.specs.Grammar.{top, goes_on, IsClause, IsClauses, IsAssertion}
use Rattle.sc_tree.specs.Internal.Reading.{◌>>=◌, past, sees, skip_semicolons, begins_expr, tag_ahead, past_tag, expr, clause, clauses_from, clauses, assertion, nested_clauses}
use Rattle.sc_tree.proofs.ReadingSteps.{Holds, holds, nothing, holds_then, holds_if, holds_also, Added, through}
use Rattle.sc_tree.proofs.Looks.{sees_is}
use Rattle.sc_tree.proofs.Lists.{all_added, unskipped}
use Rattle.sc_tree.proofs.SoundExpressions.{Sound, sound_expr}

-- a tag stands first
data TagFirst (ts : List Kind) : Name → Type 0 where
  tag_first : (x : List ℕ) → ts ≡ NAME x ∷ TERMINAL terminal.Colon ∷ past (past ts) → TagFirst ts (named x)

tag_is : (ts : List Kind) (n : Name) → tag_ahead ts ≡ Some n → TagFirst ts n
tag_is [] n e = cc
tag_is (NAME x ∷ r) n e = go (sees terminal.Colon r) refl e
  where
    some_same : (m n : Name) → Some m ≡ Some n → m ≡ n
    some_same m n e = cc

    go : (b : Bool) → sees terminal.Colon r ≡ b → (if b then Some (named x) else None) ≡ Some n → TagFirst (NAME x ∷ r) n
    go true s e = subst (TagFirst (NAME x ∷ r)) (some_same (named x) n e) (tag_first x (ap (λ (r : List Kind). NAME x ∷ r) (sees_is terminal.Colon r s)))
    go false s e = cc
tag_is (INTEGER i ∷ r) n e = cc
tag_is (STRING s ∷ r) n e = cc
tag_is (TERMINAL m ∷ r) n e = cc

clause_by : (room : ℕ) (ts : List Kind) (o : Option Name) → tag_ahead ts ≡ o →
    Sound IsClause ts (expr room top (past_tag o ts) >>= λ t. Ok (record { tag = o; condition = t.0 }, t.1, t.2))
clause_by room ts None e = holds_then _ (sound_expr room top ts) λ t s. holds (record { tokens = s.tokens; same = s.same; is = grammar.untagged s.is })
clause_by room ts (Some n) e = by_tag n (tag_is ts n e)
  where
    by_tag : (n : Name) → TagFirst ts n → Sound IsClause ts (expr room top (past (past ts)) >>= λ t. Ok (record { tag = Some n; condition = t.0 }, t.1, t.2))
    by_tag _ (tag_first x q) =
        holds_then _ (sound_expr room top (past (past ts))) λ t s.
        holds (record { tokens = NAME x ∷ TERMINAL terminal.Colon ∷ s.tokens; same = through ts (NAME x ∷ TERMINAL terminal.Colon ∷ []) (past (past ts)) s.tokens t.2 q s.same; is = grammar.tagged x s.is })

sound_clause : (room : ℕ) (ts : List Kind) → Sound IsClause ts (clause room ts)
unfolding clause
sound_clause room ts = clause_by room ts (tag_ahead ts) refl

goes_on_before : (c r : List Kind) → goes_on (c ++ r) ≡ false → goes_on c ≡ false
goes_on_before [] r e = refl
goes_on_before (NAME x ∷ c) r e = e
goes_on_before (INTEGER n ∷ c) r e = e
goes_on_before (STRING s ∷ c) r e = e
goes_on_before (TERMINAL m ∷ c) r e = e

no_clause_added : (found : List Clause) (high : ℕ) (ts : List Kind) → Added ◌++◌ IsClauses found high ts (found, high, ts)
no_clause_added found high ts = record { more = []; tokens = []; nesting = 0; same = refl; is = grammar.no_clause; joined = sym (append-nil found); highest = omega arith }

sound_clauses_from : (room f : ℕ) (found : List Clause) (high : ℕ) (ts : List Kind) → Holds (Added ◌++◌ IsClauses found high ts) (clauses_from room f found high ts)
unfolding clauses_from
sound_clauses_from room zero found high ts = holds (no_clause_added found high ts)
sound_clauses_from room (suc f) found high ts =
    holds_if (begins_expr ts) _ _
    (λ b. holds_then _ (sound_clause room ts) λ x s. holds_if (goes_on x.2) _ _ (λ _. nothing) λ g.
    holds_also (sound_clauses_from room f (found ++ x.0 ∷ []) (max high x.1) (skip_semicolons x.2)) λ y a.
    let u = unskipped (λ c. IsClauses a.more c a.nesting) (λ c d. grammar.semicolon_clauses d) x.2 a.tokens y.2 a.same a.is in
    record {
      more = x.0 ∷ a.more;
      tokens = s.tokens ++ u.tokens;
      nesting = max x.1 a.nesting;
      same = through ts s.tokens x.2 u.tokens y.2 s.same u.same;
      is = grammar.clause s.is (goes_on_before u.tokens y.2 (ap goes_on (sym u.same) ∙ g)) u.is;
      joined = a.joined ∙ append_assoc found (x.0 ∷ []) a.more;
      highest = omega (arith, a.highest);
    })
    (λ _. holds (no_clause_added found high ts))

pub sound_clauses : (room : ℕ) (ts : List Kind) → Sound IsClauses ts (clauses room ts)
unfolding clauses
sound_clauses room ts =
    holds_also (sound_clauses_from room (length (skip_semicolons ts)) [] 0 (skip_semicolons ts)) λ x a.
    let s = all_added ◌++◌ IsClauses [] (λ xs. refl) (skip_semicolons ts) x a in
    let u = unskipped (λ c. IsClauses x.0 c x.1) (λ c d. grammar.semicolon_clauses d) ts s.tokens x.2 s.same s.is in
    record { tokens = u.tokens; same = u.same; is = u.is }

pub sound_assertion : (room : ℕ) (m : Terminal) (ts : List Kind) → Sound (IsAssertion m) ts (assertion room m ts)
unfolding assertion
sound_assertion room m ts =
    holds_if (sees m ts) _ _
    (λ b. holds_also (sound_clauses room (past ts)) λ x s.
    record { tokens = TERMINAL m ∷ s.tokens; same = through ts (TERMINAL m ∷ []) (past ts) s.tokens x.2 (sees_is m ts b) s.same; is = grammar.assertion s.is })
    (λ _. holds (record { tokens = []; same = refl; is = grammar.no_assertion }))

pub sound_nested_clauses : (room : ℕ) (ts : List Kind) → Sound IsClauses ts (nested_clauses room ts)
unfolding nested_clauses
sound_nested_clauses zero ts = nothing
sound_nested_clauses (suc n) ts = sound_clauses n ts
