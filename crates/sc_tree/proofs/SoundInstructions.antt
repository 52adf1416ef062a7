-- What reading gives, the tokens spell: instructions.
use Rattle.std.proofs.Common.{append-nil, subst, Ok, ◌≡◌, ℕ, zero, suc, max, Bool, true, false, List, [], ◌∷◌, ◌++◌, length, Some, Err, refl, ap, sym, ◌∙◌, append_assoc, arith}
use Rattle.std.specs.Prelude.{◌&&◌, ◌||◌, ◌==◌}
use Rattle.sc_text.specs.Kind.{Kind, NAME, STRING, TERMINAL}
use Rattle.sc_text.specs.declared.token.Terminal.TheVariants as terminal
use Rattle.sc_tree.specs.Plain as plain
use Rattle.sc_tree.specs.Plain.{PrintText, Clause, Name, Expr, Call, Variable, Named, Head, Instr, Assign, CallRoutine, Create, If, Loop, Check, Block, Instrs, no_instrs, instr_then, Branches, no_branches, branch_then}
use Rattle.sc_tree.specs.Bare.{nowhere}
use Rattle.sc_tree.specs.Grammar as grammar
use Rattle.sc_tree.specs.Grammar.{top, print_name, around, IsExpr, IsChain, IsClauses, IsVariable, IsHead, IsHeads, IsInstr, IsInstrs, IsBranches, IsElse}
use Rattle.sc_tree.specs.Internal.Reading.{begins_instr, Deep, Read, past, same_terminal, sees, skip_semicolons, begins_expr, text_ahead, sees_word, nested, instrs_push, branches_push, variable, assigns, prints, nested_chain, assignment, printing, called, routine_call, creation, branch, branches, other, conditional, iteration, checked, checking, head, more_heads, heads, block, instr, instrs_from, body, instrs}
use Rattle.sc_tree.proofs.ReadingSteps.{not_both, Holds, holds, nothing, holds_then, holds_if, holds_also, Spelled, Begins, Added, through}
use Rattle.sc_tree.proofs.Looks.{sees_is, sees_word_is, expect_holds, name_holds, first_name, TextFirst, text_first, text_holds}
use Rattle.sc_tree.proofs.Lists.{instrs_joined, instrs_joined-push, instrs_joined-none, branches_joined, branches_joined-push, branches_joined-none, told, all_added, unskipped}
use Rattle.sc_tree.proofs.SoundExpressions.{Sound, sound_actuals, sound_chain, sound_expr, sound_nested}
use Rattle.sc_tree.proofs.SoundAssertions.{sound_nested_clauses}

both_true : (a b : Bool) → (a && b) ≡ true → (a ≡ true) × (b ≡ true)
both_true true b e = (refl, e)
both_true false b e = cc

sound_variable : (ts : List Kind) → Holds (Begins IsVariable ts) (variable ts)
unfolding variable
sound_variable ts =
    holds_if (sees terminal.Result ts) _ _ (λ b. holds (record { tokens = TERMINAL terminal.Result ∷ []; same = sees_is terminal.Result ts b; is = grammar.result_variable })) λ _.
    holds_then _ (name_holds ts) λ x n.
    let y = first_name ts x n in
    holds (record { tokens = NAME y.0 ∷ []; same = y.1; is = subst (λ (n : Name). IsVariable (Named n) (NAME y.0 ∷ [])) (sym y.2) (grammar.named_variable y.0) })

-- `print (` stands first
prints_is : (ts : List Kind) → prints ts ≡ true → ts ≡ NAME print_name ∷ TERMINAL terminal.OpenParenthesis ∷ past (past ts)
prints_is ts e =
    let p = both_true (sees_word print_name ts && sees terminal.OpenParenthesis (past ts)) (text_ahead (past (past ts))) e in
    let q = both_true (sees_word print_name ts) (sees terminal.OpenParenthesis (past ts)) p.0 in
    sees_word_is print_name ts q.0 ∙ ap (λ (r : List Kind). NAME print_name ∷ r) (sees_is terminal.OpenParenthesis (past ts) q.1)

sound_called : (room : ℕ) (inner : List Kind → Read Instrs) (ts : List Kind) (x : Expr × ℕ × List Kind) → Spelled IsChain ts x → Sound IsInstr ts (called room inner x)
sound_called room inner ts (plain.Integer s n, h, r) d = nothing
sound_called room inner ts (plain.Boolean s b, h, r) d = nothing
sound_called room inner ts (plain.Void s, h, r) d = nothing
sound_called room inner ts (plain.Current s, h, r) d = nothing
sound_called room inner ts (plain.Result s, h, r) d = nothing
sound_called room inner ts (Call s t x es, h, r) d = holds (record { tokens = d.tokens; same = d.same; is = grammar.call d.is })
sound_called room inner ts (plain.Unary s op a, h, r) d = nothing
sound_called room inner ts (plain.Binary s op a b, h, r) d = nothing
sound_called room inner ts (plain.ObjectTest s o t x, h, r) d = nothing

sound_nested_chain : (n : ℕ) (ts : List Kind) → Sound IsChain ts (nested_chain n ts)
unfolding nested_chain
sound_nested_chain zero ts = nothing
sound_nested_chain (suc n) ts = sound_chain (nested n) (sound_nested n) n ts

abbrev as_head : Expr → Name → Head
as_head t x = record { value = t; name = x }

-- heads behind a first one, and their commas
record HeadsAfter (found : List Head) (high : ℕ) (ts : List Kind) (x : List Head × ℕ × List Kind) : Type 0 where
  pub more : List Head
  pub tokens : List Kind
  pub nesting : ℕ
  pub same : ts ≡ tokens ++ x.2
  pub is : (y : Head) (c : List Kind) (h : ℕ) → IsHead y c h → IsHeads (y ∷ more) (c ++ tokens) (max h nesting)
  pub joined : x.0 ≡ found ++ more
  pub highest : x.1 ≡ max high nesting

first_head_alone : (y : Head) (c : List Kind) (h : ℕ) → IsHead y c h → IsHeads (y ∷ []) (c ++ []) (max h 0)
first_head_alone y c h d =
    let w : h ≡ max h 0 = omega arith in
    subst (λ (h : ℕ). IsHeads (y ∷ []) (c ++ []) h) w (subst (λ (c : List Kind). IsHeads (y ∷ []) c h) (sym (append-nil c)) (grammar.one_head d))

no_head_after : (found : List Head) (high : ℕ) (ts : List Kind) → HeadsAfter found high ts (found, high, ts)
no_head_after found high ts = record { more = []; tokens = []; nesting = 0; same = refl; is = first_head_alone; joined = sym (append-nil found); highest = omega arith }

head_after : (found : List Head) (high : ℕ) (ts : List Kind) (x : Head × ℕ × List Kind) (y : List Head × ℕ × List Kind) → ts ≡ TERMINAL terminal.Comma ∷ past ts → Spelled IsHead (past ts) x → HeadsAfter (found ++ x.0 ∷ []) (max high x.1) x.2 y →
    HeadsAfter found high ts y
head_after found high ts x y e s a =
    record {
      more = x.0 ∷ a.more;
      tokens = TERMINAL terminal.Comma ∷ (s.tokens ++ a.tokens);
      nesting = max x.1 a.nesting;
      same = through ts (TERMINAL terminal.Comma ∷ []) (past ts) (s.tokens ++ a.tokens) y.2 e (through (past ts) s.tokens x.2 a.tokens y.2 s.same a.same);
      is = λ t c h d. grammar.more_heads d (a.is x.0 s.tokens x.1 s.is);
      joined = a.joined ∙ append_assoc found (x.0 ∷ []) a.more;
      highest = omega (arith, a.highest);
    }

heads_begin : (ts : List Kind) (x : Head × ℕ × List Kind) (y : List Head × ℕ × List Kind) → Spelled IsHead ts x → HeadsAfter (x.0 ∷ []) x.1 x.2 y → Spelled IsHeads ts y
heads_begin ts x y s a =
    record {
      tokens = s.tokens ++ a.tokens;
      same = through ts s.tokens x.2 a.tokens y.2 s.same a.same;
      is = told IsHeads _ _ _ _ _ (sym a.joined) (sym a.highest) (a.is x.0 s.tokens x.1 s.is);
    }

-- whether something stands in a `check`
abbrev holds_clauses : List Kind → Bool
holds_clauses ts = begins_expr ts || sees terminal.Semicolon ts

-- the clauses of a `check`, and the nesting that they have in it
data Checked (ts : List Kind) (x : List Clause × ℕ × List Kind) : Type 0 where
  some : (c : List Kind) (h : ℕ) → holds_clauses ts ≡ true → ts ≡ c ++ x.2 → IsClauses x.0 c h → x.1 ≡ suc h → Checked ts x
  none : ts ≡ x.2 → x.0 ≡ [] → x.1 ≡ 0 → Checked ts x

end_holds_none : (r : List Kind) → holds_clauses (TERMINAL terminal.End ∷ r) ≡ false
unfolding same_terminal
end_holds_none r = refl

around_some : (ts c rest : List Kind) (h : ℕ) → holds_clauses ts ≡ true → ts ≡ c ++ TERMINAL terminal.End ∷ rest → around c h ≡ suc h
around_some ts [] rest h b e = absurd (not_both b (ap holds_clauses e ∙ end_holds_none rest))
around_some ts (k ∷ c) rest h b e = refl

sound_checked : (room : ℕ) (inner : List Kind → Read Instrs) (ts : List Kind) → Holds (Checked ts) (checked room inner ts)
unfolding checked
sound_checked room inner ts =
    holds_if (begins_expr ts || sees terminal.Semicolon ts) _ _ (λ b. holds_then _ (sound_nested_clauses room ts) λ x s. holds (some s.tokens x.1 b s.same s.is refl)) (λ _. holds (none refl refl refl))

-- a condition and what stands under it
record Guard (ts : List Kind) (x : (Expr × Instrs) × ℕ × List Kind) : Type 0 where
  pub before : List Kind
  pub behind : List Kind
  pub outer : ℕ
  pub inner : ℕ
  pub same : ts ≡ (before ++ TERMINAL terminal.Then ∷ behind) ++ x.2
  pub condition : IsExpr top x.0.0 before outer
  pub body : IsInstrs x.0.1 behind inner
  pub highest : x.1 ≡ max outer inner

-- `if c then cb cs co end`, as it is read
if_respelled : (c cb cs co r : List Kind) (s t : Kind) → ((c ++ s ∷ cb) ++ (cs ++ (co ++ t ∷ []))) ++ r ≡ (c ++ s ∷ (cb ++ (cs ++ (co ++ t ∷ [])))) ++ r
if_respelled c cb cs co r s t = simp append_assoc

branch_respelled : (c cb cs r : List Kind) (s : Kind) → ((c ++ s ∷ cb) ++ cs) ++ r ≡ (c ++ s ∷ (cb ++ cs)) ++ r
branch_respelled c cb cs r s = simp append_assoc

no_branch_added : (found : Branches) (high : ℕ) (ts : List Kind) → Added branches_joined IsBranches found high ts (found, high, ts)
no_branch_added found high ts =
    record { more = no_branches; tokens = []; nesting = 0; same = refl; is = grammar.no_branch; joined = sym (branches_joined-none found); highest = omega arith }

no_instr_added : (found : Instrs) (high : ℕ) (ts : List Kind) → Added instrs_joined IsInstrs found high ts (found, high, ts)
no_instr_added found high ts =
    record { more = no_instrs; tokens = []; nesting = 0; same = refl; is = grammar.no_instr; joined = sym (instrs_joined-none found); highest = omega arith }

-- The function is sound that reads instructions one deeper.
module _ (room : ℕ) (inner : List Kind → Read Instrs) (S : (ts : List Kind) → Sound IsInstrs ts (inner ts)) where
  sound_assignment : (ts : List Kind) → Sound IsInstr ts (assignment room inner ts)
  unfolding assignment
  sound_assignment ts =
      holds_then _ (sound_variable ts) λ v sv. holds_then _ (expect_holds terminal.Becomes v.1) λ r q. holds_then _ (sound_expr room top r) λ t s.
      holds (record {
        tokens = sv.tokens ++ TERMINAL terminal.Becomes ∷ s.tokens;
        same = through ts sv.tokens v.1 (TERMINAL terminal.Becomes ∷ s.tokens) t.2 sv.same (through v.1 (TERMINAL terminal.Becomes ∷ []) r s.tokens t.2 q s.same);
        is = grammar.assign sv.is s.is;
      })

  sound_printing : (ts r : List Kind) → ts ≡ NAME print_name ∷ TERMINAL terminal.OpenParenthesis ∷ r → Sound IsInstr ts (printing room inner r)
  unfolding printing
  sound_printing ts r e = holds_if (room == 0) _ _ (λ _. nothing) λ _. holds_then _ (text_holds r) λ s f. holds_then _ (expect_holds terminal.CloseParenthesis s.1) λ rest q. of_text s f rest q
    where
      of_text : (s : List ℕ × List Kind) → TextFirst r s → (rest : List Kind) → s.1 ≡ TERMINAL terminal.CloseParenthesis ∷ rest → Sound IsInstr ts (Ok (PrintText nowhere s.0, 1, rest))
      of_text _ (text_first s r' p) rest q =
          holds (record {
            tokens = NAME print_name ∷ TERMINAL terminal.OpenParenthesis ∷ STRING s ∷ TERMINAL terminal.CloseParenthesis ∷ [];
            same = through ts (NAME print_name ∷ TERMINAL terminal.OpenParenthesis ∷ []) r (STRING s ∷ TERMINAL terminal.CloseParenthesis ∷ []) rest e (p ∙ ap (λ (r : List Kind). STRING s ∷ r) q);
            is = grammar.print_text s;
          })

  sound_routine_call : (ts : List Kind) → Sound IsInstr ts (routine_call room inner ts)
  unfolding routine_call
  sound_routine_call ts = holds_then _ (sound_chain (nested room) (sound_nested room) room ts) (sound_called room inner ts)

  sound_creation : (ts r : List Kind) → ts ≡ TERMINAL terminal.Create ∷ r → Sound IsInstr ts (creation room inner r)
  unfolding creation
  sound_creation ts r e =
      holds_then _ (sound_variable r) λ v sv. holds_if (sees terminal.Dot v.1) _ _
      (λ b. holds_if (room == 0) _ _ (λ _. nothing) λ _. holds_then _ (name_holds (past v.1)) λ x n. holds_then _ (sound_actuals (nested room) (sound_nested room) x.1) λ es s.
      let y = first_name (past v.1) x n in
      holds (record {
        tokens = TERMINAL terminal.Create ∷ (sv.tokens ++ TERMINAL terminal.Dot ∷ NAME y.0 ∷ s.tokens);
        same = through ts (TERMINAL terminal.Create ∷ []) r (sv.tokens ++ TERMINAL terminal.Dot ∷ NAME y.0 ∷ s.tokens) es.2 e
            (through r sv.tokens v.1 (TERMINAL terminal.Dot ∷ NAME y.0 ∷ s.tokens) es.2 sv.same
            (through v.1 (TERMINAL terminal.Dot ∷ []) (past v.1) (NAME y.0 ∷ s.tokens) es.2 (sees_is terminal.Dot v.1 b) (through (past v.1) (NAME y.0 ∷ []) x.1 s.tokens es.2 y.1 s.same)));
        is = told IsInstr _ _ _ _ _ (ap (λ (n : Name). Create nowhere (record { variable = v.0; call = Some (record { name = n; actuals = es.0 }) })) (sym y.2)) refl (grammar.create_by sv.is y.0 s.is);
      }))
      (λ _. holds (record { tokens = TERMINAL terminal.Create ∷ sv.tokens; same = through ts (TERMINAL terminal.Create ∷ []) r sv.tokens v.1 e sv.same; is = grammar.create sv.is }))

  sound_branch : (ts : List Kind) → Holds (Guard ts) (branch room inner ts)
  unfolding branch
  sound_branch ts =
      holds_then _ (sound_nested room top ts) λ t st. holds_then _ (expect_holds terminal.Then t.2) λ r q. holds_then _ (S r) λ b sb.
      holds (record {
        before = st.tokens;
        behind = sb.tokens;
        outer = t.1;
        inner = b.1;
        same = through ts st.tokens t.2 (TERMINAL terminal.Then ∷ sb.tokens) b.2 st.same (through t.2 (TERMINAL terminal.Then ∷ []) r sb.tokens b.2 q sb.same);
        condition = st.is;
        body = sb.is;
        highest = refl;
      })

  sound_branches : (f : ℕ) (found : Branches) (high : ℕ) (ts : List Kind) → Holds (Added branches_joined IsBranches found high ts) (branches room inner f found high ts)
  unfolding branches
  sound_branches zero found high ts = holds (no_branch_added found high ts)
  sound_branches (suc f) found high ts =
      holds_if _ _ _
      (λ b. holds_then _ (sound_branch (past ts)) λ x g. holds_also (sound_branches f (branches_push found x.0.0 x.0.1) (max high x.1) x.2) λ y a.
      record {
        more = branch_then x.0.0 x.0.1 a.more;
        tokens = TERMINAL terminal.Elseif ∷ (g.before ++ TERMINAL terminal.Then ∷ (g.behind ++ a.tokens));
        nesting = max (max g.outer g.inner) a.nesting;
        same = through ts (TERMINAL terminal.Elseif ∷ []) (past ts) _ y.2 (sees_is terminal.Elseif ts b)
            (through (past ts) (g.before ++ TERMINAL terminal.Then ∷ g.behind) x.2 a.tokens y.2 g.same a.same ∙ branch_respelled g.before g.behind a.tokens y.2 (TERMINAL terminal.Then));
        is = grammar.branch g.condition g.body a.is;
        joined = a.joined ∙ branches_joined-push found x.0.0 x.0.1 a.more;
        highest = omega (arith, a.highest, g.highest);
      })
      (λ _. holds (no_branch_added found high ts))

  sound_other : (ts : List Kind) → Sound IsElse ts (other room inner ts)
  unfolding other
  sound_other ts =
      holds_if _ _ _
      (λ b. holds_also (S (past ts)) λ x s.
      record { tokens = TERMINAL terminal.Else ∷ s.tokens; same = through ts (TERMINAL terminal.Else ∷ []) (past ts) s.tokens x.2 (sees_is terminal.Else ts b) s.same; is = grammar.otherwise s.is })
      (λ _. holds (record { tokens = []; same = refl; is = grammar.no_else }))

  sound_conditional : (ts0 ts : List Kind) → ts0 ≡ TERMINAL terminal.If ∷ ts → Sound IsInstr ts0 (conditional room inner ts)
  unfolding conditional
  sound_conditional ts0 ts e =
      holds_then _ (sound_branch ts) λ g sg. holds_then _ (sound_branches (length g.2) no_branches 0 g.2) λ bs sb. holds_then _ (sound_other bs.2) λ o so.
      holds_then _ (expect_holds terminal.End o.2) λ rest q.
      holds (record {
        tokens = TERMINAL terminal.If ∷ (sg.before ++ TERMINAL terminal.Then ∷ (sg.behind ++ (sb.tokens ++ (so.tokens ++ TERMINAL terminal.End ∷ []))));
        same = through ts0 (TERMINAL terminal.If ∷ []) ts _ rest e
            (through ts (sg.before ++ TERMINAL terminal.Then ∷ sg.behind) g.2 _ rest sg.same (through g.2 sb.tokens bs.2 _ rest sb.same (through bs.2 so.tokens o.2 (TERMINAL terminal.End ∷ []) rest so.same q))
            ∙ if_respelled sg.before sg.behind sb.tokens so.tokens rest (TERMINAL terminal.Then) (TERMINAL terminal.End));
        is = told IsInstr _ _ _ _ _ (ap (λ (bs : Branches). If nowhere g.0.0 g.0.1 bs o.0) (sym sb.joined)) (omega (arith, sg.highest, sb.highest)) (grammar.conditional sg.condition sg.body sb.is so.is);
      })

  sound_loop : (ts0 ts : List Kind) → ts0 ≡ TERMINAL terminal.From ∷ ts → Sound IsInstr ts0 (iteration room inner ts)
  unfolding iteration
  sound_loop ts0 ts e =
      holds_then _ (S ts) λ i si. holds_then _ (expect_holds terminal.Until i.2) λ r q. holds_then _ (sound_nested room top r) λ t st.
      holds_then _ (expect_holds terminal.Loop t.2) λ s p. holds_then _ (S s) λ b sb. holds_then _ (expect_holds terminal.End b.2) λ rest d.
      holds (record {
        tokens = TERMINAL terminal.From ∷ (si.tokens ++ TERMINAL terminal.Until ∷ (st.tokens ++ TERMINAL terminal.Loop ∷ (sb.tokens ++ TERMINAL terminal.End ∷ [])));
        same = through ts0 (TERMINAL terminal.From ∷ []) ts (si.tokens ++ TERMINAL terminal.Until ∷ (st.tokens ++ TERMINAL terminal.Loop ∷ (sb.tokens ++ TERMINAL terminal.End ∷ []))) rest e
            (through ts si.tokens i.2 (TERMINAL terminal.Until ∷ (st.tokens ++ TERMINAL terminal.Loop ∷ (sb.tokens ++ TERMINAL terminal.End ∷ []))) rest si.same
            (through i.2 (TERMINAL terminal.Until ∷ []) r (st.tokens ++ TERMINAL terminal.Loop ∷ (sb.tokens ++ TERMINAL terminal.End ∷ [])) rest q
            (through r st.tokens t.2 (TERMINAL terminal.Loop ∷ (sb.tokens ++ TERMINAL terminal.End ∷ [])) rest st.same
            (through t.2 (TERMINAL terminal.Loop ∷ []) s (sb.tokens ++ TERMINAL terminal.End ∷ []) rest p (through s sb.tokens b.2 (TERMINAL terminal.End ∷ []) rest sb.same d)))));
        is = grammar.loop si.is st.is sb.is;
      })

  sound_checking : (ts0 ts : List Kind) → ts0 ≡ TERMINAL terminal.Check ∷ ts → Sound IsInstr ts0 (checking room inner ts)
  unfolding checking
  sound_checking ts0 ts e = holds_then _ (sound_checked room inner ts) λ x k. holds_then _ (expect_holds terminal.End x.2) λ rest q. by_clauses x k rest q
    where
      by_clauses : (x : List Clause × ℕ × List Kind) → Checked ts x → (rest : List Kind) → x.2 ≡ TERMINAL terminal.End ∷ rest → Sound IsInstr ts0 (Ok (Check nowhere x.0, x.1, rest))
      by_clauses x (some c h b p d w) rest q =
          holds (record {
            tokens = TERMINAL terminal.Check ∷ (c ++ TERMINAL terminal.End ∷ []);
            same = through ts0 (TERMINAL terminal.Check ∷ []) ts (c ++ TERMINAL terminal.End ∷ []) rest e (through ts c x.2 (TERMINAL terminal.End ∷ []) rest p q);
            is = told IsInstr _ _ _ _ _ refl (around_some ts c rest h b (p ∙ ap (λ (r : List Kind). c ++ r) q) ∙ sym w) (grammar.check d);
          })
      by_clauses x (none p d w) rest q =
          holds (record {
            tokens = TERMINAL terminal.Check ∷ TERMINAL terminal.End ∷ [];
            same = through ts0 (TERMINAL terminal.Check ∷ []) ts (TERMINAL terminal.End ∷ []) rest e (p ∙ q);
            is = told IsInstr _ _ _ _ _ (ap (Check nowhere) (sym d)) (sym w) (grammar.check grammar.no_clause);
          })

  sound_head : (ts : List Kind) → Sound IsHead ts (head room inner ts)
  unfolding head
  sound_head ts =
      holds_then _ (sound_nested_chain room ts) λ t s. holds_then _ (expect_holds terminal.As t.2) λ r q. holds_then _ (name_holds r) λ x n.
      let y = first_name r x n in
      holds (record {
        tokens = s.tokens ++ TERMINAL terminal.As ∷ NAME y.0 ∷ [];
        same = through ts s.tokens t.2 (TERMINAL terminal.As ∷ NAME y.0 ∷ []) x.1 s.same (q ∙ ap (λ (r : List Kind). TERMINAL terminal.As ∷ r) y.1);
        is = told IsHead _ _ _ _ _ (ap (λ (n : Name). as_head t.0 n) (sym y.2)) refl (grammar.head s.is y.0);
      })

  sound_more_heads : (f : ℕ) (found : List Head) (high : ℕ) (ts : List Kind) → Holds (HeadsAfter found high ts) (more_heads room inner f found high ts)
  unfolding more_heads
  sound_more_heads zero found high ts = holds (no_head_after found high ts)
  sound_more_heads (suc f) found high ts =
      holds_if (sees terminal.Comma ts) _ _
      (λ b. holds_then _ (sound_head (past ts)) λ x s. holds_also (sound_more_heads f (found ++ x.0 ∷ []) (max high x.1) x.2) λ y a. head_after found high ts x y (sees_is terminal.Comma ts b) s a)
      (λ _. holds (no_head_after found high ts))

  sound_heads : (ts : List Kind) → Sound IsHeads ts (heads room inner ts)
  unfolding heads
  sound_heads ts = holds_then _ (sound_head ts) λ x s. holds_also (sound_more_heads (length x.2) (x.0 ∷ []) x.1 x.2) λ y a. heads_begin ts x y s a

  sound_block : (ts0 ts : List Kind) → ts0 ≡ TERMINAL terminal.Separate ∷ ts → Sound IsInstr ts0 (block room inner ts)
  unfolding block
  sound_block ts0 ts e =
      holds_then _ (sound_heads ts) λ xs sx. holds_then _ (expect_holds terminal.Do xs.2) λ r q. holds_then _ (S r) λ b sb. holds_then _ (expect_holds terminal.End b.2) λ rest d.
      holds (record {
        tokens = TERMINAL terminal.Separate ∷ (sx.tokens ++ TERMINAL terminal.Do ∷ (sb.tokens ++ TERMINAL terminal.End ∷ []));
        same = through ts0 (TERMINAL terminal.Separate ∷ []) ts (sx.tokens ++ TERMINAL terminal.Do ∷ (sb.tokens ++ TERMINAL terminal.End ∷ [])) rest e
            (through ts sx.tokens xs.2 (TERMINAL terminal.Do ∷ (sb.tokens ++ TERMINAL terminal.End ∷ [])) rest sx.same
            (through xs.2 (TERMINAL terminal.Do ∷ []) r (sb.tokens ++ TERMINAL terminal.End ∷ []) rest q (through r sb.tokens b.2 (TERMINAL terminal.End ∷ []) rest sb.same d)));
        is = grammar.block sx.is sb.is;
      })

  sound_instr : (ts : List Kind) → Sound IsInstr ts (instr room inner ts)
  unfolding instr
  sound_instr ts =
      holds_if _ _ _ (λ b. sound_conditional ts (past ts) (sees_is terminal.If ts b)) λ _.
      holds_if _ _ _ (λ b. sound_loop ts (past ts) (sees_is terminal.From ts b)) λ _.
      holds_if _ _ _ (λ b. sound_checking ts (past ts) (sees_is terminal.Check ts b)) λ _.
      holds_if _ _ _ (λ b. sound_creation ts (past ts) (sees_is terminal.Create ts b)) λ _.
      holds_if _ _ _ (λ b. sound_block ts (past ts) (sees_is terminal.Separate ts b)) λ _.
      holds_if (assigns ts) _ _ (λ b. sound_assignment ts) λ _.
      holds_if (prints ts) _ _ (λ b. sound_printing ts (past (past ts)) (prints_is ts b)) λ _. sound_routine_call ts

  sound_instrs_from : (f : ℕ) (found : Instrs) (high : ℕ) (ts : List Kind) → Holds (Added instrs_joined IsInstrs found high ts) (instrs_from room inner f found high ts)
  unfolding instrs_from
  sound_instrs_from zero found high ts = holds (no_instr_added found high ts)
  sound_instrs_from (suc f) found high ts =
      holds_if (begins_instr ts) _ _
      (λ b. holds_then _ (sound_instr ts) λ x s. holds_also (sound_instrs_from f (instrs_push found x.0) (max high x.1) (skip_semicolons x.2)) λ y a.
      let u = unskipped (λ c. IsInstrs a.more c a.nesting) (λ c d. grammar.semicolon_instrs d) x.2 a.tokens y.2 a.same a.is in
      record {
        more = instr_then x.0 a.more;
        tokens = s.tokens ++ u.tokens;
        nesting = max x.1 a.nesting;
        same = through ts s.tokens x.2 u.tokens y.2 s.same u.same;
        is = grammar.instr s.is u.is;
        joined = a.joined ∙ instrs_joined-push found x.0 a.more;
        highest = omega (arith, a.highest);
      })
      (λ _. holds (no_instr_added found high ts))

  sound_body : (ts : List Kind) → Sound IsInstrs ts (body room inner ts)
  unfolding body
  sound_body ts =
      holds_also (sound_instrs_from (length (skip_semicolons ts)) no_instrs 0 (skip_semicolons ts)) λ x a.
      let s = all_added instrs_joined IsInstrs no_instrs (λ is. refl) (skip_semicolons ts) x a in
      let u = unskipped (λ c. IsInstrs x.0 c x.1) (λ c d. grammar.semicolon_instrs d) ts s.tokens x.2 s.same s.is in
      record { tokens = u.tokens; same = u.same; is = u.is }

pub sound_instrs : (n : ℕ) (ts : List Kind) → Sound IsInstrs ts (instrs n ts)
unfolding instrs
sound_instrs zero ts = sound_body zero (λ ts. Err Deep) (λ ts. nothing) ts
sound_instrs (suc n) ts = sound_body (suc n) (instrs n) (sound_instrs n) ts
