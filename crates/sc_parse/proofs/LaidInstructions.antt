-- Places of clauses and instructions, as a function of the tree without them and of the kept tokens.
use Rattle.std.proofs.Common.{◌≡◌, ℕ, true, false, List, [], ◌∷◌, Option, Some, None, refl, ap, sym, ◌∙◌, map}
use Rattle.sc_text.specs.Kind.{NAME, STRING, TERMINAL}
use Rattle.sc_text.specs.declared.token.Span.{Span}
use Rattle.sc_text.specs.declared.token.Terminal.{Terminal}
use Rattle.sc_text.specs.declared.token.Terminal.TheVariants as terminal
use Rattle.sc_tree.specs.Grammar.Instructions.{print_name}
use Rattle.sc_tree.specs.Plain.{Name, Expr, Call, Variable, Named, ResultVariable, CreationCall, Clause, Head, Instr, Assign, PrintText, CallRoutine, Create, If, Loop, Check, Block, Instrs, no_instrs, instr_then, Branches, no_branches, branch_then}
use Rattle.sc_tree.specs.Bare.{nowhere, bare_name, bare_expr, bare_exprs, bare_variable, bare_creation_call, bare_clause, bare_head, bare_instr, bare_instrs, bare_branches}
use Rattle.sc_parse.specs.Places as places
use Rattle.sc_parse.specs.Places.{Point, begin, between, IsToken, IsWord, IsRow, no_part, part, AreParts, IsOne, one, IsPlacedClause, ArePlacedClauses, IsPlacedAssertion, IsPlacedVariable, IsPlacedCreationCall, IsPlacedHead, ArePlacedHeads, IsPlacedInstr, ArePlacedInstrs, ArePlacedBranches, IsPlacedElse}
use Rattle.sc_tree.specs.Properties.{span_of}
use Rattle.sc_parse.proofs.KeptTokens.{token_balanced, group_is, leaves_out, Kept, ahead, kept_token, word_left_out, first, first_group, rest, rest_token, rest_word, group_token, begins_with, begins_with_word, ends_with, span_is}
use Rattle.sc_parse.proofs.LaidExpressions.{laid_name, name_laid, call_end, call_ends, laid, laid_exprs, expr_laid, actuals_laid}

-- ---- one part after the other

unfoldable pub next : {A B : Type 0} → A × List Kept → (A → List Kept → B × List Kept) → B × List Kept
next r k = k r.0 r.1

pub next_is : {A B : Type 0} {r : A × List Kept} {a : A} {ks : List Kept} {y : B × List Kept} (k : A → List Kept → B × List Kept) → r ≡ (a, ks) → k a ks ≡ y → next r k ≡ y
unfolding next
next_is k e h = ap (λ r. next r k) e ∙ h

abbrev pub laid_list : {X : Type 0} → (X → List Kept → X × List Kept) → List X → List Kept → List X × List Kept
laid_list f [] ks = ([], ks)
laid_list f (x ∷ xs) ks = next (f x ks) λ y ls. next (laid_list f xs ls) λ ys ms. (y ∷ ys, ms)

pub row_laid : {X : Type 0} {Is : X → Point → Point → Type 0} (m : Terminal) → leaves_out m ≡ true →
    (bare : X → X) (f : X → List Kept → X × List Kept) →
    ((x : X) (p q : Point) → Is x p q → f (bare x) (ahead p) ≡ (x, ahead q)) →
    {xs : List X} {p q : Point} → IsRow (IsOne Is) m xs p q → laid_list f (map bare xs) (ahead p) ≡ (xs, ahead q)
row_laid m e bare f each no_part = refl
row_laid m e bare f each (places.separated {xs} w d) = ap (laid_list f (map bare xs)) (word_left_out m w e)
    ∙ row_laid m e bare f each d
row_laid m e bare f each (part (one d) ds) = next_is _ (each _ _ _ d) (next_is _ (row_laid m e bare f each ds) refl)

pub parts_laid : {X : Type 0} {Is : X → Point → Point → Type 0} (bare : X → X) (f : X → List Kept → X × List Kept) →
    ((x : X) (p q : Point) → Is x p q → f (bare x) (ahead p) ≡ (x, ahead q)) →
    {xs : List X} {p q : Point} → AreParts (IsOne Is) xs p q → laid_list f (map bare xs) (ahead p) ≡ (xs, ahead q)
parts_laid bare f each places.none = refl
parts_laid bare f each (places.another (one d) ds) = next_is _ (each _ _ _ d) (next_is _ (parts_laid bare f each ds) refl)

-- ---- clauses

abbrev pub laid_clause_tag : Option Name → List Kept → Option Name × List Kept
laid_clause_tag None ks = (None, ks)
laid_clause_tag (Some x) ks = (Some (laid_name x ks), rest (rest ks))

abbrev pub laid_clause : Clause → List Kept → Clause × List Kept
laid_clause c ks = next (laid_clause_tag c.tag ks) λ o ls. next (laid c.condition ls) λ t ms. (record { tag = o; condition = t }, ms)

clause_laid : {c : Clause} {p q : Point} → IsPlacedClause c p q → laid_clause (bare_clause c) (ahead p) ≡ (c, ahead q)
clause_laid (places.untagged d) = next_is _ refl (next_is _ (expr_laid d) refl)
clause_laid (places.tagged {x} {p} n w d) =
    next_is _
    (ap (λ (y : Name). (Some y, rest (rest (ahead p)))) (name_laid n) ∙ ap (λ (ks : List Kept). (Some x, rest ks)) (rest_token (NAME x.text) n refl)
    ∙ ap (λ (ks : List Kept). (Some x, ks)) (rest_word terminal.Colon w refl))
    (next_is _ (expr_laid d) refl)

abbrev pub laid_clauses : List Clause → List Kept → List Clause × List Kept
laid_clauses = laid_list laid_clause

pub clauses_laid : {xs : List Clause} {p q : Point} → ArePlacedClauses xs p q →
    laid_clauses (map bare_clause xs) (ahead p) ≡ (xs, ahead q)
clauses_laid d = row_laid terminal.Semicolon refl bare_clause laid_clause (λ x p q d. clause_laid d) d

pub assertion_laid : (m : Terminal) → leaves_out m ≡ true → {xs : List Clause} {p q : Point} →
    IsPlacedAssertion m xs p q → laid_clauses (map bare_clause xs) (ahead p) ≡ (xs, ahead q)
assertion_laid m e places.no_assertion = refl
assertion_laid m e (places.assertion {xs} w d) = ap (laid_clauses (map bare_clause xs)) (word_left_out m w e)
    ∙ clauses_laid d

-- ---- variables, creations and heads

abbrev pub laid_variable : Variable → List Kept → Variable × List Kept
laid_variable (Named x) ks = (Named (laid_name x ks), rest ks)
laid_variable (ResultVariable s) ks = (ResultVariable (first ks), rest ks)

variable_laid : {v : Variable} {p q : Point} → IsPlacedVariable v p q →
    laid_variable (bare_variable v) (ahead p) ≡ (v, ahead q)
variable_laid (places.named_variable {x} {p} n) = ap (λ (y : Name). (Named y, rest (ahead p))) (name_laid n)
    ∙ ap (λ (ks : List Kept). (Named x, ks)) (rest_token (NAME x.text) n refl)
variable_laid (places.result_variable t) = ap (λ (ks : List Kept). (ResultVariable (first ks), rest ks)) (kept_token (TERMINAL terminal.Result) t refl)

variable_begins : {v : Variable} {p q : Point} → IsPlacedVariable v p q → begin p ≡ (first (ahead p)).start
variable_begins (places.named_variable {x} n) = begins_with (NAME x.text) n refl
variable_begins (places.result_variable t) = begins_with (TERMINAL terminal.Result) t refl

variable_ends : {v : Variable} {p q : Point} → IsPlacedVariable v p q → (first (ahead p)).end ≡ q.last.end
variable_ends (places.named_variable {x} n) = sym (ends_with (NAME x.text) n refl)
variable_ends (places.result_variable t) = sym (ends_with (TERMINAL terminal.Result) t refl)

variable_rest : {v : Variable} {p q : Point} → IsPlacedVariable v p q → rest (ahead p) ≡ ahead q
variable_rest (places.named_variable {x} n) = rest_token (NAME x.text) n refl
variable_rest (places.result_variable t) = rest_token (TERMINAL terminal.Result) t refl

abbrev pub laid_creation_call : Option CreationCall → List Kept → Option CreationCall × List Kept
laid_creation_call None ks = (None, ks)
laid_creation_call (Some c) ks = next (laid_exprs c.actuals (rest (rest ks))) λ es ls. (Some (record { name = laid_name c.name (rest ks); actuals = es }), ls)

creation_call_laid : {c : Option CreationCall} {p q : Point} → IsPlacedCreationCall c p q →
    laid_creation_call (bare_creation_call c) (ahead p) ≡ (c, ahead q)
creation_call_laid places.no_call = refl
creation_call_laid (places.creation_call {c} {p} {q} {r} {u} w n ds) =
    next_is _ (ap (λ (ks : List Kept). laid_exprs (bare_exprs c.actuals) (rest ks)) (rest_word terminal.Dot w refl) ∙ ap (laid_exprs (bare_exprs c.actuals)) (rest_token (NAME c.name.text) n refl) ∙ actuals_laid ds)
    (ap (λ (ks : List Kept). (Some (record { name = laid_name (bare_name c.name) ks; actuals = c.actuals }), ahead u)) (rest_word terminal.Dot w refl)
    ∙ ap (λ (y : Name). (Some (record { name = y; actuals = c.actuals }), ahead u)) (name_laid n))

-- where a creation ends, from its variable on
abbrev pub creation_end : Option CreationCall → List Kept → ℕ
creation_end None ks = (first ks).end
creation_end (Some c) ks = call_end c.actuals (rest (rest ks))

creation_ends : {v : Variable} {c : Option CreationCall} {p q r : Point} → IsPlacedVariable v p q →
    IsPlacedCreationCall c q r → creation_end (bare_creation_call c) (ahead p) ≡ r.last.end
creation_ends d places.no_call = variable_ends d
creation_ends d (places.creation_call {c} w n ds) =
    ap (λ (ks : List Kept). call_end (bare_exprs c.actuals) (rest ks)) (variable_rest d)
    ∙ ap (call_end (bare_exprs c.actuals)) (rest_word terminal.Dot w refl) ∙ call_ends n ds

abbrev pub laid_head : Head → List Kept → Head × List Kept
laid_head h ks = next (laid h.value ks) λ t ls. (record { value = t; name = laid_name h.name (rest ls) }, rest (rest ls))

head_laid : {h : Head} {p q : Point} → IsPlacedHead h p q → laid_head (bare_head h) (ahead p) ≡ (h, ahead q)
head_laid (places.head {t} {x} {p} {q} {r} {u} d w n) =
    next_is _ (expr_laid d)
    (ap (λ (ks : List Kept). (record { value = t; name = laid_name (bare_name x) ks }, rest ks)) (rest_word terminal.As w refl)
    ∙ ap (λ (y : Name). (record { value = t; name = y }, rest (ahead r))) (name_laid n)
    ∙ ap (λ (ks : List Kept). (record { value = t; name = x }, ks)) (rest_token (NAME x.text) n refl))

abbrev pub laid_heads : List Head → List Kept → List Head × List Kept
laid_heads = laid_list laid_head

heads_laid : {xs : List Head} {p q : Point} → ArePlacedHeads xs p q →
    laid_heads (map bare_head xs) (ahead p) ≡ (xs, ahead q)
heads_laid d = row_laid terminal.Comma refl bare_head laid_head (λ x p q d. head_laid d) d

-- ---- instructions

-- from the first token to the next
abbrev pub up_to_next : List Kept → List Kept → Span
up_to_next ks ls = record { start = (first ks).start; end = (first ls).end }

abbrev pub as_instr : Expr → List Kept → Instr × List Kept
as_instr (Call s t x es) ks = (CallRoutine s t x es, ks)
as_instr _ ks = (PrintText nowhere [], ks)

unfoldable mutual
  pub laid_instr : Instr → List Kept → Instr × List Kept
  laid_instr (Assign s v t) ks = next (laid_variable v ks) λ w ls. next (laid t (rest ls)) λ u ms. (Assign (record { start = (first ks).start; end = (span_of u).end }) w u, ms)
  laid_instr (PrintText s text) ks = (PrintText (record { start = (first ks).start; end = first_group ks }) text, rest (rest ks))
  laid_instr (CallRoutine s t x es) ks = next (laid (Call s t x es) ks) as_instr
  laid_instr (Create s c) ks =
      next (laid_variable c.variable (rest ks)) λ v ls. next (laid_creation_call c.call ls) λ o ms.
      (Create (record { start = (first ks).start; end = creation_end c.call (rest ks) }) (record { variable = v; call = o }), ms)
  laid_instr (If s t b bs o) ks =
      next (laid t (rest ks)) λ t' k1. next (laid_instrs b (rest k1)) λ b' k2. next (laid_branches bs k2) λ bs' k3. next (laid_instrs o k3) λ o' k4.
      (If (up_to_next ks k4) t' b' bs' o', rest k4)
  laid_instr (Loop s i t b) ks =
      next (laid_instrs i (rest ks)) λ i' k1. next (laid t (rest k1)) λ t' k2. next (laid_instrs b (rest k2)) λ b' k3. (Loop (up_to_next ks k3) i' t' b', rest k3)
  laid_instr (Check s xs) ks = next (laid_clauses xs (rest ks)) λ ys k1. (Check (up_to_next ks k1) ys, rest k1)
  laid_instr (Block s hs b) ks = next (laid_heads hs (rest ks)) λ hs' k1. next (laid_instrs b (rest k1)) λ b' k2. (Block (up_to_next ks k2) hs' b', rest k2)

  pub laid_instrs : Instrs → List Kept → Instrs × List Kept
  laid_instrs no_instrs ks = (no_instrs, ks)
  laid_instrs (instr_then i is) ks = next (laid_instr i ks) λ j k1. next (laid_instrs is k1) λ js k2. (instr_then j js, k2)

  pub laid_branches : Branches → List Kept → Branches × List Kept
  laid_branches no_branches ks = (no_branches, ks)
  laid_branches (branch_then t b bs) ks =
      next (laid t (rest ks)) λ t' k1. next (laid_instrs b (rest k1)) λ b' k2. next (laid_branches bs k2) λ bs' k3. (branch_then t' b' bs', k3)

-- an instruction that begins with a word and stands up to its `end`
ended : (P : Span → Instr) (m : Terminal) {s : Span} {p q r u : Point} → IsWord m p q → leaves_out m ≡ false →
    IsWord terminal.End r u → s ≡ between p u →
    ◌≡◌ {A = Instr × List Kept} (P (up_to_next (ahead p) (ahead r)), rest (ahead r)) (P s, ahead u)
ended P m {s} {p} {q} {r} {u} w l v e =
    ap (λ (ks : List Kept). (P (up_to_next (ahead p) (ahead r)), ks)) (rest_word terminal.End v refl)
    ∙ ap (λ (k : Span). (P k, ahead u)) (sym (span_is (ap (λ (s : Span). s.start) e ∙ begins_with_word m w l) (ap (λ (s : Span). s.end) e ∙ ends_with (TERMINAL terminal.End) v.1 refl)))

mutual
  unfolding laid_instr bare_instr bare_expr

  pub instr_laid : {i : Instr} {p q : Point} → IsPlacedInstr i p q →
      laid_instr (bare_instr i) (ahead p) ≡ (i, ahead q)
  instr_laid (places.assign {v} {t} {s} {p} {q} {r} {u} d w e a b) =
      next_is _ (variable_laid d) (next_is _ (ap (laid (bare_expr t)) (rest_word terminal.Becomes w refl) ∙ expr_laid e)
      (ap (λ (k : Span). (Assign k v t, ahead u)) (sym (span_is (a ∙ variable_begins d) b))))
  instr_laid (places.print_text {text} {p} {q} {r} {u} {v} n o t c e) =
      let k : Span = record { start = (first (ahead p)).start; end = first_group (ahead p) } in
      ap (λ (ks : List Kept). (PrintText k text, rest ks)) (rest_token (NAME print_name) n refl ∙ word_left_out terminal.OpenParenthesis o refl)
      ∙ ap (λ (ks : List Kept). (PrintText k text, ks)) (rest_token (STRING text) t refl ∙ word_left_out terminal.CloseParenthesis c refl)
      ∙ ap (λ (k : Span). (PrintText k text, ahead v))
      (sym (span_is (ap (λ (s : Span). s.start) e ∙ begins_with (NAME print_name) n refl)
      (ap (λ (s : Span). s.end) e ∙ sym (group_token (NAME print_name) n refl ∙ group_is o (token_balanced (STRING text) t refl) c))))
  instr_laid (places.call d) = next_is as_instr (expr_laid d) refl
  instr_laid (places.create {c} {s} {p} {q} {r} {u} w d o e) =
      next_is _ (ap (laid_variable (bare_variable c.variable)) (rest_word terminal.Create w refl) ∙ variable_laid d) (next_is _ (creation_call_laid o)
      (ap (λ (k : Span). (Create k c, ahead u))
      (sym (span_is (ap (λ (s : Span). s.start) e ∙ begins_with_word terminal.Create w refl)
      (ap (λ (s : Span). s.end) e ∙ sym (ap (creation_end (bare_creation_call c.call)) (rest_word terminal.Create w refl) ∙ creation_ends d o))))))
  instr_laid (places.conditional {i} w d v b bs o z e) =
      next_is _ (ap (laid (bare_expr i.condition)) (rest_word terminal.If w refl) ∙ expr_laid d)
      (next_is _ (ap (laid_instrs (bare_instrs i.body)) (rest_word terminal.Then v refl) ∙ instrs_laid b) (next_is _ (branches_laid bs) (next_is _ (else_laid o)
      (ended (λ s. If s i.condition i.body i.branches i.other) terminal.If w refl z e))))
  instr_laid (places.loop {i} w a u d v b z e) =
      next_is _ (ap (laid_instrs (bare_instrs i.initial)) (rest_word terminal.From w refl) ∙ instrs_laid a)
      (next_is _ (ap (laid (bare_expr i.until)) (rest_word terminal.Until u refl) ∙ expr_laid d)
      (next_is _ (ap (laid_instrs (bare_instrs i.body)) (rest_word terminal.Loop v refl) ∙ instrs_laid b)
      (ended (λ s. Loop s i.initial i.until i.body) terminal.From w refl z e)))
  instr_laid (places.check {xs} w d z e) =
      next_is _ (ap (laid_clauses (map bare_clause xs)) (rest_word terminal.Check w refl) ∙ clauses_laid d) (ended (λ s. Check s xs) terminal.Check w refl z e)
  instr_laid (places.block {i} w d v b z e) =
      next_is _ (ap (laid_heads (map bare_head i.heads)) (rest_word terminal.Separate w refl) ∙ heads_laid d)
      (next_is _ (ap (laid_instrs (bare_instrs i.body)) (rest_word terminal.Do v refl) ∙ instrs_laid b) (ended (λ s. Block s i.heads i.body) terminal.Separate w refl z e))

  pub instrs_laid : {is : Instrs} {p q : Point} → ArePlacedInstrs is p q →
      laid_instrs (bare_instrs is) (ahead p) ≡ (is, ahead q)
  instrs_laid places.no_instr = refl
  instrs_laid (places.separated {is} w d) = ap (laid_instrs (bare_instrs is)) (word_left_out terminal.Semicolon w refl) ∙ instrs_laid d
  instrs_laid (places.instr d ds) = next_is _ (instr_laid d) (next_is _ (instrs_laid ds) refl)

  branches_laid : {bs : Branches} {p q : Point} → ArePlacedBranches bs p q →
      laid_branches (bare_branches bs) (ahead p) ≡ (bs, ahead q)
  branches_laid places.no_branch = refl
  branches_laid (places.branch {t} {body} w d v b bs) =
      next_is _ (ap (laid (bare_expr t)) (rest_word terminal.Elseif w refl) ∙ expr_laid d)
      (next_is _ (ap (laid_instrs (bare_instrs body)) (rest_word terminal.Then v refl) ∙ instrs_laid b) (next_is _ (branches_laid bs) refl))

  else_laid : {is : Instrs} {p q : Point} → IsPlacedElse is p q →
      laid_instrs (bare_instrs is) (ahead p) ≡ (is, ahead q)
  else_laid places.no_else = refl
  else_laid (places.otherwise {is} w d) = ap (laid_instrs (bare_instrs is)) (word_left_out terminal.Else w refl)
      ∙ instrs_laid d
