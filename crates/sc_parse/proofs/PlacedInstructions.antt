-- Clauses and instructions that are read stand where their tokens do.
use Rattle.std.proofs.Common.{◌≡◌, ℕ, zero, suc, max, ◌||◌, Bool, true, false, List, [], ◌∷◌, ◌++◌, Option, Some, None, Ok, Err, refl, ap, sym, ◌∙◌, subst}
use Rattle.std.specs.Prelude.{◌==◌, ◌&&◌, if◌then◌else◌}
use Rattle.sc_text.specs.Kind.{Kind, NAME, INTEGER, STRING, TERMINAL, kind_of, kinds_of}
use Rattle.sc_text.specs.Spelling.{lexemes_of}
use Rattle.sc_text.specs.declared.token.Span.{Span}
use Rattle.sc_text.specs.declared.token.Token.{Token}
use Rattle.sc_text.specs.declared.token.Terminal.{Terminal}
use Rattle.sc_text.specs.declared.token.Terminal.TheVariants as terminal
use Rattle.sc_tree.specs.Grammar.Operators.{top}
use Rattle.sc_tree.specs.Grammar.Instructions.{print_name}
use Rattle.sc_tree.specs.Plain as plain
use Rattle.sc_tree.specs.Plain.{Name, Expr, Integer, Boolean, Void, Current, Call, Unary, Binary, ObjectTest, Variable, Clause, Head, Instr, Instrs, no_instrs, Branches, no_branches}
use Rattle.sc_tree.specs.Internal.Reading.Looks as looks
use Rattle.sc_tree.specs.Internal.Reading.Looks.{Fault, Wrong, Deep, ◌>>=◌}
use Rattle.sc_tree.specs.Internal.Reading.Instructions.{instrs_push, branches_push}
use Rattle.sc_tree.proofs.Looks.{sees_word_is}
use Rattle.sc_tree.proofs.ReadingSteps.{Holds, holds, nothing, holds_then, holds_if, holds_also}
use Rattle.sc_parse.specs.Reading.Looks as reading
use Rattle.sc_parse.specs.Reading.Looks.{Ahead, Read, kinds, left, past, sees, skip_semicolons, begins_expr, begins_instr, goes_on, up_to}
use Rattle.sc_parse.specs.Reading.Expressions.{expr, nested}
use Rattle.sc_parse.specs.Reading.Assertions.{tag_by, tag_of, tag_ahead, past_tag, clause, clauses_from, clauses, assertion, nested_clauses}
use Rattle.sc_parse.specs.Reading.Instructions.{variable, assigns, prints, nested_chain, assignment, printing, called, routine_call, creation, branch, branches, other, conditional, iteration, checked, checking, head, more_heads, heads, block, instr, instrs_from, body, instrs}
use Rattle.sc_parse.specs.Places as places
use Rattle.sc_parse.specs.Places.{Point, begin, IsToken, IsWord, IsRow, no_part, part, IsOne, one, IsPlacedName, IsPlacedExpr, IsPlacedClause, ArePlacedClauses, IsPlacedAssertion, IsPlacedVariable, IsPlacedHead, ArePlacedHeads, IsPlacedInstr, ArePlacedInstrs, ArePlacedBranches, IsPlacedElse}
use Rattle.sc_parse.proofs.PlacedReadings.{spot, step, seen, a_word, expected, named, texted, begin_is, from_there, AreSemicolons, no_semicolon, one_more, semicolons, row_push, row_separated, row_semicolons}
use Rattle.sc_parse.proofs.PlacedExpressions.{PlacesExpr, place_actuals, place_chain, place_expr, place_nested}

-- ---- clauses

-- a name is a tag where a colon is seen behind it
abbrev tag_with : Kind → Span → Bool → Option Name
tag_with (NAME x) s b = if b then Some (record { text = x; span = s }) else None
tag_with _ s b = None

tag_with_is : (k : Kind) (s : Span) (r : List Token) → tag_with k s (looks.sees terminal.Colon (kinds_of r)) ≡ tag_by k s r
tag_with_is (NAME x) s r = refl
tag_with_is (INTEGER n) s r = refl
tag_with_is (STRING x) s r = refl
tag_with_is (TERMINAL m) s r = refl

-- the tag that begins here, and its colon
tagged : (q : Ahead) (x : Name) → tag_ahead q ≡ Some x → IsPlacedName x (spot q) (spot (past q)) × IsWord terminal.Colon (spot (past q)) (spot (past (past q)))
tagged q x e = go q.last q.rest e
  where
    by : (u : Span) (k : Kind) (s : Span) (r : List Token) (b : Bool) → looks.sees terminal.Colon (kinds_of r) ≡ b → tag_with k s b ≡ Some x →
        IsToken (NAME x.text) x.span (record { last = u; rest = record { kind = k; span = s } ∷ lexemes_of r }) (spot (record { last = s; rest = r }))
        × IsWord terminal.Colon (spot (record { last = s; rest = r })) (spot (past (record { last = s; rest = r })))
    by u (NAME y) s r true b e =
        let same : record { text = y; span = s } ≡ x = cc in (
          subst (λ (x : Name). IsToken (NAME x.text) x.span (record { last = u; rest = record { kind = NAME y; span = s } ∷ lexemes_of r }) (spot (record { last = s; rest = r }))) same
              (record { next = refl; last = refl }),
          a_word terminal.Colon (record { last = s; rest = r }) b,
        )
    by u (NAME y) s r false b e = cc
    by u (INTEGER n) s r c b e = cc
    by u (STRING y) s r c b e = cc
    by u (TERMINAL m) s r c b e = cc

    go : (u : Span) (ts : List Token) → tag_of ts ≡ Some x →
        IsPlacedName x (spot (record { last = u; rest = ts })) (spot (past (record { last = u; rest = ts })))
        × IsWord terminal.Colon (spot (past (record { last = u; rest = ts }))) (spot (past (past (record { last = u; rest = ts }))))
    go u [] e = cc
    go u (t ∷ ts) e = by u (kind_of t.kind) t.span ts (looks.sees terminal.Colon (kinds_of ts)) refl (tag_with_is (kind_of t.kind) t.span ts ∙ e)

place_clause : (room : ℕ) (q : Ahead) → Holds (λ x. IsPlacedClause x.0 (spot q) (spot x.2)) (clause room q)
unfolding clause
place_clause room q = go (tag_ahead q) refl
  where
    go : (o : Option Name) → tag_ahead q ≡ o → Holds (λ (x : Clause × ℕ × Ahead). IsPlacedClause x.0 (spot q) (spot x.2)) (expr room top (past_tag o q) >>= λ t. Ok (record { tag = o; condition = t.0 }, t.1, t.2))
    go None e = holds_then _ (place_expr room top q) λ t d. holds (places.untagged d)
    go (Some x) e = let n = tagged q x e in holds_then _ (place_expr room top (past (past q))) λ t d. holds (places.tagged n.0 n.1 d)

place_clauses_from : (room f : ℕ) (found : List Clause) (high : ℕ) (q : Ahead) (p : Point) → ArePlacedClauses found p (spot q) →
    Holds (λ x. ArePlacedClauses x.0 p (spot x.2)) (clauses_from room f found high q)
unfolding clauses_from
place_clauses_from room zero found high q p d = holds d
place_clauses_from room (suc f) found high q p d =
    holds_if (begins_expr q) _ _
    (λ _. holds_then _ (place_clause room q) λ x e.
    holds_if (goes_on x.2) _ _ (λ _. nothing)
    (λ _. place_clauses_from room f (found ++ x.0 ∷ []) (max high x.1) (skip_semicolons x.2) p (row_semicolons _ (row_push _ _ d (one e)) (semicolons x.2))))
    (λ _. holds d)

place_clauses : (room : ℕ) (q : Ahead) → Holds (λ x. ArePlacedClauses x.0 (spot q) (spot x.2)) (clauses room q)
unfolding clauses
place_clauses room q = place_clauses_from room (left (skip_semicolons q)) [] 0 (skip_semicolons q) (spot q) (row_semicolons _ no_part (semicolons q))

pub place_assertion : (room : ℕ) (m : Terminal) (q : Ahead) → Holds (λ x. IsPlacedAssertion m x.0 (spot q) (spot x.2)) (assertion room m q)
unfolding assertion
place_assertion room m q =
    holds_if (sees m q) _ _ (λ b. holds_also (place_clauses room (past q)) λ x d. places.assertion (a_word m q b) d) (λ _. holds places.no_assertion)

place_nested_clauses : (room : ℕ) (q : Ahead) → Holds (λ x. ArePlacedClauses x.0 (spot q) (spot x.2)) (nested_clauses room q)
unfolding nested_clauses
place_nested_clauses zero q = nothing
place_nested_clauses (suc n) q = place_clauses n q

-- ---- lists of instructions

after_semicolons : {is : Instrs} {p q r : Point} → AreSemicolons p q → ArePlacedInstrs is q r → ArePlacedInstrs is p r
after_semicolons no_semicolon d = d
after_semicolons (one_more w s) d = places.separated w (after_semicolons s d)

push_instr : {is : Instrs} {i : Instr} {p q r u : Point} → ArePlacedInstrs is p q → IsPlacedInstr i q r → AreSemicolons r u → ArePlacedInstrs (instrs_push is i) p u
push_instr places.no_instr e s = places.instr e (after_semicolons s places.no_instr)
push_instr (places.separated w d) e s = places.separated w (push_instr d e s)
push_instr (places.instr d ds) e s = places.instr d (push_instr ds e s)

push_branch : {bs : Branches} {t : Expr} {b : Instrs} {p q r u v w : Point} →
    ArePlacedBranches bs p q → IsWord terminal.Elseif q r → IsPlacedExpr t r u → IsWord terminal.Then u v → ArePlacedInstrs b v w → ArePlacedBranches (branches_push bs t b) p w
push_branch places.no_branch w d v e = places.branch w d v e places.no_branch
push_branch (places.branch x c y a bs) w d v e = places.branch x c y a (push_branch bs w d v e)

place_variable : (q : Ahead) → Holds (λ x. IsPlacedVariable x.0 (spot q) (spot x.1)) (variable q)
unfolding variable
place_variable q =
    holds_if (sees terminal.Result q) _ _ (λ b. holds (places.result_variable (seen terminal.Result q b))) (λ _. holds_then _ (named q) λ x n. holds (places.named_variable n))

place_nested_chain : (room : ℕ) (q : Ahead) → Holds (PlacesExpr (spot q)) (nested_chain room q)
unfolding nested_chain
place_nested_chain zero q = nothing
place_nested_chain (suc n) q = place_chain (nested n) (place_nested n) n q

first_true : (a b c : Bool) → a && b && c ≡ true → a ≡ true
first_true true b c e = refl
first_true false true c e = e
first_true false false c e = e

second_true : (a b c : Bool) → a && b && c ≡ true → b ≡ true
second_true true true c e = refl
second_true true false c e = e
second_true false true c e = refl
second_true false false c e = e

-- what `print (` leaves to be read
printed : (q : Ahead) → prints q ≡ true → IsToken (NAME print_name) (past q).last (spot q) (spot (past q)) × IsWord terminal.OpenParenthesis (spot (past q)) (spot (past (past q)))
printed q e =
    let a : looks.sees_word print_name (kinds q) ≡ true = first_true _ _ _ e in
    let b : sees terminal.OpenParenthesis (past q) ≡ true = second_true _ _ _ e in
    (step q (NAME print_name) (looks.past (kinds q)) (sees_word_is print_name (kinds q) a), a_word terminal.OpenParenthesis (past q) b)

-- instructions, from this point on
abbrev pub PlacesInstrs : Point → Instrs × ℕ × Ahead → Type 0
PlacesInstrs p x = ArePlacedInstrs x.0 p (spot x.2)

abbrev PlacesInstr : Point → Instr × ℕ × Ahead → Type 0
PlacesInstr p x = IsPlacedInstr x.0 p (spot x.2)

-- a condition and what stands under it
abbrev PlacesBranch : Point → (Expr × Instrs) × ℕ × Ahead → Type 0
PlacesBranch p x = (q : Point) × ((r : Point) × (IsPlacedExpr x.0.0 p q × IsWord terminal.Then q r × ArePlacedInstrs x.0.1 r (spot x.2)))

-- What stands one deeper is placed.
module _ (room : ℕ) (inner : Ahead → Read Instrs) (S : (q : Ahead) → Holds (PlacesInstrs (spot q)) (inner q)) where
  place_assignment : (q : Ahead) → Holds (PlacesInstr (spot q)) (assignment room inner q)
  unfolding assignment
  place_assignment q =
      holds_then _ (place_variable q) λ v d. holds_then _ (expected terminal.Becomes v.1) λ r w. holds_then _ (place_expr room top r) λ t e.
      holds (places.assign d w e (begin_is q) refl)

  place_printing : (p q : Ahead) → prints p ≡ true → q ≡ past (past p) → Holds (PlacesInstr (spot p)) (printing room inner (reading.begin p) q)
  unfolding printing
  place_printing p q e w =
      let k = printed p e in
      let v : IsWord terminal.OpenParenthesis (spot (past p)) (spot q) = subst (λ (q : Ahead). IsWord terminal.OpenParenthesis (spot (past p)) (spot q)) (sym w) k.1 in
      holds_if (room == 0) _ _ (λ _. nothing)
      (λ _. holds_then _ (texted q) λ s t. holds_then _ (expected terminal.CloseParenthesis s.1) λ r c.
      holds (places.print_text k.0 v t.1 c (ap (λ (n : ℕ). up_to n r) (begin_is p))))

  place_called : (p : Point) (t : Expr) (h : ℕ) (q : Ahead) → IsPlacedExpr t p (spot q) → Holds (PlacesInstr p) (called room inner (t, h, q))
  place_called p (Integer s n) h q d = nothing
  place_called p (Boolean s b) h q d = nothing
  place_called p (Void s) h q d = nothing
  place_called p (Current s) h q d = nothing
  place_called p (plain.Result s) h q d = nothing
  place_called p (Call s t x es) h q d = holds (places.call d)
  place_called p (Unary s op a) h q d = nothing
  place_called p (Binary s op a b) h q d = nothing
  place_called p (ObjectTest s o a x) h q d = nothing

  place_routine_call : (q : Ahead) → Holds (PlacesInstr (spot q)) (routine_call room inner q)
  unfolding routine_call
  place_routine_call q = holds_then _ (place_chain (nested room) (place_nested room) room q) λ x d. place_called (spot q) x.0 x.1 x.2 d

  place_creation : (p : Point) (q : Ahead) → IsToken (TERMINAL terminal.Create) q.last p (spot q) → Holds (PlacesInstr p) (creation room inner q)
  unfolding creation
  place_creation p q k =
      holds_then _ (place_variable q) λ v d.
      holds_if (sees terminal.Dot v.1) _ _
      (λ b. holds_if (room == 0) _ _ (λ _. nothing)
      (λ _. holds_then _ (named (past v.1)) λ x n. holds_then _ (place_actuals (nested room) (place_nested room) x.1) λ es e.
      holds (places.create (q.last, k) d (places.creation_call (a_word terminal.Dot v.1 b) n e) (from_there _ p q es.2 k))))
      (λ _. holds (places.create (q.last, k) d places.no_call (from_there _ p q v.1 k)))

  place_branch : (q : Ahead) → Holds (PlacesBranch (spot q)) (branch room inner q)
  unfolding branch
  place_branch q =
      holds_then _ (place_nested room top q) λ t d. holds_then _ (expected terminal.Then t.2) λ r w. holds_then _ (S r) λ b e. holds (spot t.2, (spot r, (d, w, e)))

  place_branches : (f : ℕ) (found : Branches) (high : ℕ) (q : Ahead) (p : Point) → ArePlacedBranches found p (spot q) →
      Holds (λ x. ArePlacedBranches x.0 p (spot x.2)) (branches room inner f found high q)
  unfolding branches
  place_branches zero found high q p d = holds d
  place_branches (suc f) found high q p d =
      holds_if (sees terminal.Elseif q) _ _
      (λ b. holds_then _ (place_branch (past q)) λ x g.
      place_branches f (branches_push found x.0.0 x.0.1) (max high x.1) x.2 p (push_branch d (a_word terminal.Elseif q b) g.1.1.0 g.1.1.1 g.1.1.2))
      (λ _. holds d)

  place_other : (q : Ahead) → Holds (λ x. IsPlacedElse x.0 (spot q) (spot x.2)) (other room inner q)
  unfolding other
  place_other q = holds_if (sees terminal.Else q) _ _ (λ b. holds_also (S (past q)) λ x d. places.otherwise (a_word terminal.Else q b) d) (λ _. holds places.no_else)

  place_conditional : (p : Point) (q : Ahead) → IsToken (TERMINAL terminal.If) q.last p (spot q) → Holds (PlacesInstr p) (conditional room inner q)
  unfolding conditional
  place_conditional p q k =
      holds_then _ (place_branch q) λ g d. holds_then _ (place_branches (left g.2) no_branches 0 g.2 (spot g.2) places.no_branch) λ bs e.
      holds_then _ (place_other bs.2) λ o u. holds_then _ (expected terminal.End o.2) λ r w.
      holds (places.conditional {i = record { condition = g.0.0; body = g.0.1; branches = bs.0; other = o.0 }} (q.last, k) d.1.1.0 d.1.1.1 d.1.1.2 e u w (from_there _ p q r k))

  place_iteration : (p : Point) (q : Ahead) → IsToken (TERMINAL terminal.From) q.last p (spot q) → Holds (PlacesInstr p) (iteration room inner q)
  unfolding iteration
  place_iteration p q k =
      holds_then _ (S q) λ i d. holds_then _ (expected terminal.Until i.2) λ r w. holds_then _ (place_nested room top r) λ t e. holds_then _ (expected terminal.Loop t.2) λ s v.
      holds_then _ (S s) λ b g. holds_then _ (expected terminal.End b.2) λ u y. holds (places.loop {i = record { initial = i.0; until = t.0; body = b.0 }} (q.last, k) d w e v g y (from_there _ p q u k))

  place_checked : (q : Ahead) → Holds (λ x. ArePlacedClauses x.0 (spot q) (spot x.2)) (checked room inner q)
  unfolding checked
  place_checked q =
      holds_if (begins_expr q || sees terminal.Semicolon q) _ _ (λ _. holds_then _ (place_nested_clauses room q) λ x d. holds d) (λ _. holds no_part)

  place_checking : (p : Point) (q : Ahead) → IsToken (TERMINAL terminal.Check) q.last p (spot q) → Holds (PlacesInstr p) (checking room inner q)
  unfolding checking
  place_checking p q k =
      holds_then _ (place_checked q) λ x d. holds_then _ (expected terminal.End x.2) λ r w. holds (places.check (q.last, k) d w (from_there _ p q r k))

  place_head : (q : Ahead) → Holds (λ x. IsPlacedHead x.0 (spot q) (spot x.2)) (head room inner q)
  unfolding head
  place_head q =
      holds_then _ (place_nested_chain room q) λ t d. holds_then _ (expected terminal.As t.2) λ r w. holds_then _ (named r) λ x n. holds (places.head d w n)

  place_more_heads : (f : ℕ) (found : List Head) (high : ℕ) (q : Ahead) (p : Point) → ArePlacedHeads found p (spot q) →
      Holds (λ x. ArePlacedHeads x.0 p (spot x.2)) (more_heads room inner f found high q)
  unfolding more_heads
  place_more_heads zero found high q p d = holds d
  place_more_heads (suc f) found high q p d =
      holds_if (sees terminal.Comma q) _ _
      (λ b. holds_then _ (place_head (past q)) λ x e.
      place_more_heads f (found ++ x.0 ∷ []) (max high x.1) x.2 p (row_push _ _ (row_separated _ _ d (a_word terminal.Comma q b)) (one e)))
      (λ _. holds d)

  place_heads : (q : Ahead) → Holds (λ x. ArePlacedHeads x.0 (spot q) (spot x.2)) (heads room inner q)
  unfolding heads
  place_heads q = holds_then _ (place_head q) λ x d. place_more_heads (left x.2) (x.0 ∷ []) x.1 x.2 (spot q) (part (one d) no_part)

  place_block : (p : Point) (q : Ahead) → IsToken (TERMINAL terminal.Separate) q.last p (spot q) → Holds (PlacesInstr p) (block room inner q)
  unfolding block
  place_block p q k =
      holds_then _ (place_heads q) λ xs d. holds_then _ (expected terminal.Do xs.2) λ r w. holds_then _ (S r) λ b e. holds_then _ (expected terminal.End b.2) λ u v.
      holds (places.block {i = record { heads = xs.0; body = b.0 }} (q.last, k) d w e v (from_there _ p q u k))

  place_instr : (q : Ahead) → Holds (PlacesInstr (spot q)) (instr room inner q)
  unfolding instr
  place_instr q =
      holds_if (sees terminal.If q) _ _ (λ b. place_conditional (spot q) (past q) (seen terminal.If q b))
      (λ _. holds_if (sees terminal.From q) _ _ (λ b. place_iteration (spot q) (past q) (seen terminal.From q b))
      (λ _. holds_if (sees terminal.Check q) _ _ (λ b. place_checking (spot q) (past q) (seen terminal.Check q b))
      (λ _. holds_if (sees terminal.Create q) _ _ (λ b. place_creation (spot q) (past q) (seen terminal.Create q b))
      (λ _. holds_if (sees terminal.Separate q) _ _ (λ b. place_block (spot q) (past q) (seen terminal.Separate q b))
      (λ _. holds_if (assigns q) _ _ (λ _. place_assignment q)
      (λ _. holds_if (prints q) _ _ (λ b. place_printing q (past (past q)) b refl)
      (λ _. place_routine_call q)))))))

  place_instrs_from : (f : ℕ) (found : Instrs) (high : ℕ) (q : Ahead) (p : Point) → ArePlacedInstrs found p (spot q) → Holds (PlacesInstrs p) (instrs_from room inner f found high q)
  unfolding instrs_from
  place_instrs_from zero found high q p d = holds d
  place_instrs_from (suc f) found high q p d =
      holds_if (begins_instr q) _ _
      (λ _. holds_then _ (place_instr q) λ x e. place_instrs_from f (instrs_push found x.0) (max high x.1) (skip_semicolons x.2) p (push_instr d e (semicolons x.2)))
      (λ _. holds d)

  place_body : (q : Ahead) → Holds (PlacesInstrs (spot q)) (body room inner q)
  unfolding body
  place_body q = place_instrs_from (left (skip_semicolons q)) no_instrs 0 (skip_semicolons q) (spot q) (after_semicolons (semicolons q) places.no_instr)

pub place_instrs : (n : ℕ) (q : Ahead) → Holds (PlacesInstrs (spot q)) (instrs n q)
unfolding instrs
place_instrs zero q = place_body zero (λ q. Err Deep) (λ q. nothing) q
place_instrs (suc n) q = place_body (suc n) (instrs n) (place_instrs n) q
