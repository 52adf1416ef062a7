-- Clauses and instructions that are read with their places are, without them, those of the grammar's own reading.
use Rattle.std.proofs.Common.{◌≡◌, ℕ, zero, suc, max, ◌||◌, Bool, List, [], ◌∷◌, ◌++◌, length, Option, Some, None, Ok, Err, refl, ap, ◌∙◌}
use Rattle.std.specs.Prelude.{◌==◌, ◌&&◌, map, if◌then◌else◌}
use Rattle.std.proofs.lemmas.List.{map-append}
use Rattle.sc_text.specs.Kind.{Kind, NAME, INTEGER, STRING, TERMINAL, kind_of, kinds_of}
use Rattle.sc_text.specs.declared.token.Span.{Span}
use Rattle.sc_text.specs.declared.token.Token.{Token}
use Rattle.sc_text.specs.declared.token.Terminal.{Terminal}
use Rattle.sc_text.specs.declared.token.Terminal.TheVariants as terminal
use Rattle.sc_tree.specs.Grammar.Operators.{top}
use Rattle.sc_tree.specs.Grammar.Instructions.{print_name}
use Rattle.sc_tree.specs.Plain as plain
use Rattle.sc_tree.specs.Plain.{Name, Expr, Integer, Boolean, Void, Current, Call, Unary, Binary, ObjectTest, Variable, Clause, Head, Instr, Instrs, no_instrs, instr_then, Branches, no_branches, branch_then, Create}
use Rattle.sc_tree.specs.Bare.{nowhere, bare_expr, bare_tag, bare_clause, bare_head, bare_variable, bare_instr, bare_instrs, bare_branches}
use Rattle.sc_tree.specs.Internal.Reading.Looks as looks
use Rattle.sc_tree.specs.Internal.Reading.Looks.{Fault, Wrong, Deep, ◌>>=◌}
use Rattle.sc_tree.specs.Internal.Reading.Expressions as plain_expressions
use Rattle.sc_tree.specs.Internal.Reading.Assertions as plain_assertions
use Rattle.sc_tree.specs.Internal.Reading.Instructions as unplaced
use Rattle.sc_tree.specs.Internal.Reading.Instructions.{instrs_push, branches_push}
use Rattle.sc_parse.specs.Reading.Looks.{Ahead, Read, begin, kinds, left, past, sees, skip_semicolons, begins_expr, begins_instr, goes_on}
use Rattle.sc_parse.specs.Reading.Expressions.{nested}
use Rattle.sc_parse.specs.Reading.Assertions.{tag_by, tag_of, tag_ahead, past_tag, clause, clauses_from, clauses, assertion, nested_clauses}
use Rattle.sc_parse.specs.Reading.Instructions.{variable, assigns, prints, nested_chain, assignment, printing, called, routine_call, creation, branch, branches, other, conditional, iteration, checked, checking, head, more_heads, heads, block, instr, instrs_from, body, instrs}
use Rattle.sc_parse.proofs.BareReadings.{forget, read, taken, forget_then, forget_if, kinds-past, kinds-past-past, kinds-skip_semicolons, left_is, forget_expect, forget_name, forget_name_past, forget_text}
use Rattle.sc_parse.proofs.BareExpressions.{forget_actuals, forget_chain, forget_expr, forget_nested}

-- ---- clauses

tag_is : (k : Kind) (s : Span) (r : List Token) → bare_tag (tag_by k s r) ≡ plain_assertions.tag_by k (kinds_of r)
tag_is (NAME x) s r = forget_if bare_tag (looks.sees terminal.Colon (kinds_of r)) refl refl
tag_is (INTEGER n) s r = refl
tag_is (STRING x) s r = refl
tag_is (TERMINAL m) s r = refl

tags_are : (ts : List Token) → bare_tag (tag_of ts) ≡ plain_assertions.tag_ahead (kinds_of ts)
tags_are [] = refl
tags_are (t ∷ ts) = tag_is (kind_of t.kind) t.span ts

same_tag : (q : Ahead) → bare_tag (tag_ahead q) ≡ plain_assertions.tag_ahead (kinds q)
same_tag q = tags_are q.rest

kinds-past_tag : (t : Option Name) (q : Ahead) → kinds (past_tag t q) ≡ plain_assertions.past_tag (bare_tag t) (kinds q)
kinds-past_tag None q = refl
kinds-past_tag (Some x) q = kinds-past-past q

forget_clause : (room : ℕ) (q : Ahead) → forget (read bare_clause) (clause room q) ≡ plain_assertions.clause room (kinds q)
unfolding clause plain_assertions.clause
forget_clause room q =
    forget_then _ _ _ _ _
    (forget_expr room top (past_tag (tag_ahead q) q)
    ∙ ap (plain_expressions.expr room top) (kinds-past_tag (tag_ahead q) q ∙ ap (λ (t : Option Name). plain_assertions.past_tag t (kinds q)) (same_tag q)))
    λ t. ap (λ (o : Option Name). Ok (record { tag = o; condition = bare_expr t.0 }, t.1, kinds t.2)) (same_tag q)

forget_clauses_from : (room f : ℕ) (found : List Clause) (high : ℕ) (q : Ahead) →
    forget (read (map bare_clause)) (clauses_from room f found high q) ≡ plain_assertions.clauses_from room f (map bare_clause found) high (kinds q)
unfolding clauses_from plain_assertions.clauses_from
forget_clauses_from room zero found high q = refl
forget_clauses_from room (suc f) found high q =
    forget_if (forget (read (map bare_clause))) (begins_expr q)
    (forget_then _ _ _ _ _ (forget_clause room q) λ x.
    forget_if (forget (read (map bare_clause))) (goes_on x.2) refl
    (forget_clauses_from room f (found ++ x.0 ∷ []) (max high x.1) (skip_semicolons x.2)
    ∙ ap (λ (xs : List Clause). plain_assertions.clauses_from room f xs (max high x.1) (kinds (skip_semicolons x.2))) (map-append bare_clause found (x.0 ∷ []))
    ∙ ap (plain_assertions.clauses_from room f (map bare_clause found ++ bare_clause x.0 ∷ []) (max high x.1)) (kinds-skip_semicolons x.2)))
    refl

forget_clauses : (room : ℕ) (q : Ahead) → forget (read (map bare_clause)) (clauses room q) ≡ plain_assertions.clauses room (kinds q)
unfolding clauses plain_assertions.clauses
forget_clauses room q =
    forget_clauses_from room (left (skip_semicolons q)) [] 0 (skip_semicolons q)
    ∙ ap (λ (f : ℕ). plain_assertions.clauses_from room f [] 0 (kinds (skip_semicolons q))) (left_is (skip_semicolons q))
    ∙ ap (λ (r : List Kind). plain_assertions.clauses_from room (length r) [] 0 r) (kinds-skip_semicolons q)

pub forget_assertion : (room : ℕ) (m : Terminal) (q : Ahead) → forget (read (map bare_clause)) (assertion room m q) ≡ plain_assertions.assertion room m (kinds q)
unfolding assertion plain_assertions.assertion
forget_assertion room m q =
    forget_if (forget (read (map bare_clause))) (sees m q) (forget_clauses room (past q) ∙ ap (plain_assertions.clauses room) (kinds-past q)) refl

forget_nested_clauses : (room : ℕ) (q : Ahead) → forget (read (map bare_clause)) (nested_clauses room q) ≡ plain_assertions.nested_clauses room (kinds q)
unfolding nested_clauses plain_assertions.nested_clauses
forget_nested_clauses zero q = refl
forget_nested_clauses (suc n) q = forget_clauses n q

-- ---- instructions

bare_instrs-pushed : (is : Instrs) (i : Instr) → bare_instrs (instrs_push is i) ≡ instrs_push (bare_instrs is) (bare_instr i)
unfolding bare_instr
bare_instrs-pushed no_instrs i = refl
bare_instrs-pushed (instr_then j is) i = ap (instr_then (bare_instr j)) (bare_instrs-pushed is i)

bare_branches-pushed : (bs : Branches) (t : Expr) (b : Instrs) → bare_branches (branches_push bs t b) ≡ branches_push (bare_branches bs) (bare_expr t) (bare_instrs b)
unfolding bare_instr
bare_branches-pushed no_branches t b = refl
bare_branches-pushed (branch_then u c bs) t b = ap (branch_then (bare_expr u) (bare_instrs c)) (bare_branches-pushed bs t b)

forget_variable : (q : Ahead) → forget (taken bare_variable) (variable q) ≡ unplaced.variable (kinds q)
unfolding variable unplaced.variable
forget_variable q =
    forget_if (forget (taken bare_variable)) (sees terminal.Result q) (ap (λ (r : List Kind). Ok (plain.ResultVariable nowhere, r)) (kinds-past q))
    (forget_then _ _ _ _ _ (forget_name q) λ x. refl)

same_assigns : (q : Ahead) → assigns q ≡ unplaced.assigns (kinds q)
same_assigns q = ap (λ (r : List Kind). (looks.name_ahead (kinds q) || sees terminal.Result q) && looks.sees terminal.Becomes r) (kinds-past q)

same_prints : (q : Ahead) → prints q ≡ unplaced.prints (kinds q)
same_prints q =
    ap (λ (r : List Kind). looks.sees_word print_name (kinds q) && looks.sees terminal.OpenParenthesis r && looks.text_ahead (kinds (past (past q)))) (kinds-past q)
    ∙ ap (λ (r : List Kind). looks.sees_word print_name (kinds q) && looks.sees terminal.OpenParenthesis (looks.past (kinds q)) && looks.text_ahead r) (kinds-past-past q)

forget_nested_chain : (room : ℕ) (q : Ahead) → forget (read bare_expr) (nested_chain room q) ≡ unplaced.nested_chain room (kinds q)
unfolding nested_chain unplaced.nested_chain
forget_nested_chain zero q = refl
forget_nested_chain (suc n) q = forget_chain (nested n) (plain_expressions.nested n) (forget_nested n) n q

-- one of two, by a test that is told in two ways
either : {A B : Type 0} (f : A → B) (b c : Bool) → b ≡ c → {x y : A} {u v : B} → f x ≡ u → f y ≡ v → f (if b then x else y) ≡ (if c then u else v)
either f b c e {u} {v} p q = forget_if f b p q ∙ ap (λ (b : Bool). if b then u else v) e

-- The functions read alike what stands one deeper.
module _ (room : ℕ) (inner : Ahead → Read Instrs) (plain_inner : List Kind → looks.Read Instrs) (S : (q : Ahead) → forget (read bare_instrs) (inner q) ≡ plain_inner (kinds q)) where
  past_inner : (q : Ahead) → forget (read bare_instrs) (inner (past q)) ≡ plain_inner (looks.past (kinds q))
  past_inner q = S (past q) ∙ ap plain_inner (kinds-past q)

  forget_assignment : (q : Ahead) → forget (read bare_instr) (assignment room inner q) ≡ unplaced.assignment room plain_inner (kinds q)
  unfolding assignment unplaced.assignment bare_instr
  forget_assignment q =
      forget_then _ _ _ _ _ (forget_variable q) λ v. forget_then _ _ _ _ _ (forget_expect terminal.Becomes v.1) λ r. forget_then _ _ _ _ _ (forget_expr room top r) λ t. refl

  forget_printing : (start : ℕ) (q : Ahead) → forget (read bare_instr) (printing room inner start q) ≡ unplaced.printing room plain_inner (kinds q)
  unfolding printing unplaced.printing bare_instr
  forget_printing start q =
      forget_if (forget (read bare_instr)) (room == 0) refl
      (forget_then _ _ _ _ _ (forget_text q) λ s. forget_then _ _ _ _ _ (forget_expect terminal.CloseParenthesis s.1) λ r. refl)

  forget_called : (t : Expr) (h : ℕ) (q : Ahead) → forget (read bare_instr) (called room inner (t, h, q)) ≡ unplaced.called room plain_inner (bare_expr t, h, kinds q)
  unfolding bare_expr bare_instr
  forget_called (Integer s n) h q = refl
  forget_called (Boolean s b) h q = refl
  forget_called (Void s) h q = refl
  forget_called (Current s) h q = refl
  forget_called (plain.Result s) h q = refl
  forget_called (Call s t x es) h q = refl
  forget_called (Unary s op a) h q = refl
  forget_called (Binary s op a b) h q = refl
  forget_called (ObjectTest s o a x) h q = refl

  forget_routine_call : (q : Ahead) → forget (read bare_instr) (routine_call room inner q) ≡ unplaced.routine_call room plain_inner (kinds q)
  unfolding routine_call unplaced.routine_call
  forget_routine_call q = forget_then _ _ _ _ _ (forget_chain (nested room) (plain_expressions.nested room) (forget_nested room) room q) λ x. forget_called x.0 x.1 x.2

  forget_creation : (q : Ahead) → forget (read bare_instr) (creation room inner q) ≡ unplaced.creation room plain_inner (kinds q)
  unfolding creation unplaced.creation bare_instr
  forget_creation q =
      forget_then _ _ _ _ _ (forget_variable q) λ v.
      forget_if (forget (read bare_instr)) (sees terminal.Dot v.1)
      (forget_if (forget (read bare_instr)) (room == 0) refl
      (forget_then _ _ _ _ _ (forget_name_past v.1) λ x. forget_then _ _ _ _ _ (forget_actuals (nested room) (plain_expressions.nested room) (forget_nested room) x.1) λ es. refl))
      refl

  abbrev both : Expr × Instrs → Expr × Instrs
  both p = (bare_expr p.0, bare_instrs p.1)

  forget_branch : (q : Ahead) → forget (read both) (branch room inner q) ≡ unplaced.branch room plain_inner (kinds q)
  unfolding branch unplaced.branch
  forget_branch q = forget_then _ _ _ _ _ (forget_nested room top q) λ t. forget_then _ _ _ _ _ (forget_expect terminal.Then t.2) λ r. forget_then _ _ _ _ _ (S r) λ b. refl

  forget_branches : (f : ℕ) (found : Branches) (high : ℕ) (q : Ahead) →
      forget (read bare_branches) (branches room inner f found high q) ≡ unplaced.branches room plain_inner f (bare_branches found) high (kinds q)
  unfolding branches unplaced.branches
  forget_branches zero found high q = refl
  forget_branches (suc f) found high q =
      forget_if (forget (read bare_branches)) (sees terminal.Elseif q)
      (forget_then _ _ _ _ _ (forget_branch (past q) ∙ ap (unplaced.branch room plain_inner) (kinds-past q)) λ x.
      forget_branches f (branches_push found x.0.0 x.0.1) (max high x.1) x.2
      ∙ ap (λ (bs : Branches). unplaced.branches room plain_inner f bs (max high x.1) (kinds x.2)) (bare_branches-pushed found x.0.0 x.0.1))
      refl

  forget_other : (q : Ahead) → forget (read bare_instrs) (other room inner q) ≡ unplaced.other room plain_inner (kinds q)
  unfolding other unplaced.other bare_instr
  forget_other q = forget_if (forget (read bare_instrs)) (sees terminal.Else q) (past_inner q) refl

  forget_conditional : (q : Ahead) → forget (read bare_instr) (conditional room inner q) ≡ unplaced.conditional room plain_inner (kinds q)
  unfolding conditional unplaced.conditional bare_instr
  forget_conditional q =
      forget_then _ _ _ _ _ (forget_branch q) λ g.
      forget_then _ _ _ _ _ (forget_branches (left g.2) no_branches 0 g.2 ∙ ap (λ (f : ℕ). unplaced.branches room plain_inner f no_branches 0 (kinds g.2)) (left_is g.2)) λ bs.
      forget_then _ _ _ _ _ (forget_other bs.2) λ o. forget_then _ _ _ _ _ (forget_expect terminal.End o.2) λ r. refl

  forget_iteration : (q : Ahead) → forget (read bare_instr) (iteration room inner q) ≡ unplaced.iteration room plain_inner (kinds q)
  unfolding iteration unplaced.iteration bare_instr
  forget_iteration q =
      forget_then _ _ _ _ _ (S q) λ i. forget_then _ _ _ _ _ (forget_expect terminal.Until i.2) λ r. forget_then _ _ _ _ _ (forget_nested room top r) λ t.
      forget_then _ _ _ _ _ (forget_expect terminal.Loop t.2) λ s. forget_then _ _ _ _ _ (S s) λ b. forget_then _ _ _ _ _ (forget_expect terminal.End b.2) λ e. refl

  forget_checked : (q : Ahead) → forget (read (map bare_clause)) (checked room inner q) ≡ unplaced.checked room plain_inner (kinds q)
  unfolding checked unplaced.checked
  forget_checked q =
      forget_if (forget (read (map bare_clause))) (begins_expr q || sees terminal.Semicolon q) (forget_then _ _ _ _ _ (forget_nested_clauses room q) λ x. refl) refl

  forget_checking : (q : Ahead) → forget (read bare_instr) (checking room inner q) ≡ unplaced.checking room plain_inner (kinds q)
  unfolding checking unplaced.checking bare_instr
  forget_checking q = forget_then _ _ _ _ _ (forget_checked q) λ x. forget_then _ _ _ _ _ (forget_expect terminal.End x.2) λ r. refl

  forget_head : (q : Ahead) → forget (read bare_head) (head room inner q) ≡ unplaced.head room plain_inner (kinds q)
  unfolding head unplaced.head
  forget_head q =
      forget_then _ _ _ _ _ (forget_nested_chain room q) λ t. forget_then _ _ _ _ _ (forget_expect terminal.As t.2) λ r. forget_then _ _ _ _ _ (forget_name r) λ x. refl

  forget_more_heads : (f : ℕ) (found : List Head) (high : ℕ) (q : Ahead) →
      forget (read (map bare_head)) (more_heads room inner f found high q) ≡ unplaced.more_heads room plain_inner f (map bare_head found) high (kinds q)
  unfolding more_heads unplaced.more_heads
  forget_more_heads zero found high q = refl
  forget_more_heads (suc f) found high q =
      forget_if (forget (read (map bare_head))) (sees terminal.Comma q)
      (forget_then _ _ _ _ _ (forget_head (past q) ∙ ap (unplaced.head room plain_inner) (kinds-past q)) λ x.
      forget_more_heads f (found ++ x.0 ∷ []) (max high x.1) x.2
      ∙ ap (λ (xs : List Head). unplaced.more_heads room plain_inner f xs (max high x.1) (kinds x.2)) (map-append bare_head found (x.0 ∷ [])))
      refl

  forget_heads : (q : Ahead) → forget (read (map bare_head)) (heads room inner q) ≡ unplaced.heads room plain_inner (kinds q)
  unfolding heads unplaced.heads
  forget_heads q =
      forget_then _ _ _ _ _ (forget_head q) λ x.
      forget_more_heads (left x.2) (x.0 ∷ []) x.1 x.2 ∙ ap (λ (f : ℕ). unplaced.more_heads room plain_inner f (bare_head x.0 ∷ []) x.1 (kinds x.2)) (left_is x.2)

  forget_block : (q : Ahead) → forget (read bare_instr) (block room inner q) ≡ unplaced.block room plain_inner (kinds q)
  unfolding block unplaced.block bare_instr
  forget_block q =
      forget_then _ _ _ _ _ (forget_heads q) λ xs. forget_then _ _ _ _ _ (forget_expect terminal.Do xs.2) λ r. forget_then _ _ _ _ _ (S r) λ b.
      forget_then _ _ _ _ _ (forget_expect terminal.End b.2) λ e. refl

  forget_instr : (q : Ahead) → forget (read bare_instr) (instr room inner q) ≡ unplaced.instr room plain_inner (kinds q)
  unfolding instr unplaced.instr
  forget_instr q =
      let F = forget (read bare_instr) in
      forget_if F (sees terminal.If q) (forget_conditional (past q) ∙ ap (unplaced.conditional room plain_inner) (kinds-past q))
      (forget_if F (sees terminal.From q) (forget_iteration (past q) ∙ ap (unplaced.iteration room plain_inner) (kinds-past q))
      (forget_if F (sees terminal.Check q) (forget_checking (past q) ∙ ap (unplaced.checking room plain_inner) (kinds-past q))
      (forget_if F (sees terminal.Create q) (forget_creation (past q) ∙ ap (unplaced.creation room plain_inner) (kinds-past q))
      (forget_if F (sees terminal.Separate q) (forget_block (past q) ∙ ap (unplaced.block room plain_inner) (kinds-past q))
      (either F (assigns q) (unplaced.assigns (kinds q)) (same_assigns q) (forget_assignment q)
      (either F (prints q) (unplaced.prints (kinds q)) (same_prints q) (forget_printing (begin q) (past (past q)) ∙ ap (unplaced.printing room plain_inner) (kinds-past-past q))
      (forget_routine_call q)))))))

  forget_instrs_from : (f : ℕ) (found : Instrs) (high : ℕ) (q : Ahead) →
      forget (read bare_instrs) (instrs_from room inner f found high q) ≡ unplaced.instrs_from room plain_inner f (bare_instrs found) high (kinds q)
  unfolding instrs_from unplaced.instrs_from
  forget_instrs_from zero found high q = refl
  forget_instrs_from (suc f) found high q =
      forget_if (forget (read bare_instrs)) (begins_instr q)
      (forget_then _ _ _ _ _ (forget_instr q) λ x.
      forget_instrs_from f (instrs_push found x.0) (max high x.1) (skip_semicolons x.2)
      ∙ ap (λ (is : Instrs). unplaced.instrs_from room plain_inner f is (max high x.1) (kinds (skip_semicolons x.2))) (bare_instrs-pushed found x.0)
      ∙ ap (unplaced.instrs_from room plain_inner f (instrs_push (bare_instrs found) (bare_instr x.0)) (max high x.1)) (kinds-skip_semicolons x.2))
      refl

  forget_body : (q : Ahead) → forget (read bare_instrs) (body room inner q) ≡ unplaced.body room plain_inner (kinds q)
  unfolding body unplaced.body bare_instr
  forget_body q =
      forget_instrs_from (left (skip_semicolons q)) no_instrs 0 (skip_semicolons q)
      ∙ ap (λ (f : ℕ). unplaced.instrs_from room plain_inner f no_instrs 0 (kinds (skip_semicolons q))) (left_is (skip_semicolons q))
      ∙ ap (λ (r : List Kind). unplaced.instrs_from room plain_inner (length r) no_instrs 0 r) (kinds-skip_semicolons q)

pub forget_instrs : (n : ℕ) (q : Ahead) → forget (read bare_instrs) (instrs n q) ≡ unplaced.instrs n (kinds q)
unfolding instrs unplaced.instrs
forget_instrs zero q = forget_body zero (λ q. Err Deep) (λ r. Err Deep) (λ q. refl) q
forget_instrs (suc n) q = forget_body (suc n) (instrs n) (unplaced.instrs n) (forget_instrs n) q
