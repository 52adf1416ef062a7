-- What is read in parts: object tests, constructs, routines and classes.
use Rattle.std.proofs.Common.{◌≡◌, ℕ, suc, ◌<◌, max, Bool, true, false, List, [], ◌∷◌, Option, Some, None, Result, Ok, Err, refl, ap, sym, ◌∙◌}
use Rattle.std.specs.Prelude.{◌==◌, if◌then◌else◌}
use Rattle.sc_text.specs.declared.token.Terminal.{Terminal}
use Rattle.sc_text.specs.declared.token.Terminal.TheVariants as terminal
use Rattle.sc_tree.specs.Grammar.Classes.{routine_of, ends_class}
use Rattle.sc_tree.specs.Grammar.Operators.{top}
use Rattle.sc_tree.specs.Plain.{Name, DeclaredType, Declaration, Clause, Expr, Exprs, ObjectTest, Variable, CreationCall, Head, Instr, Create, If, Loop, Block, Instrs, no_instrs, Branches, no_branches, Feature, Parent, ClassMark, Class}
use Rattle.sc_tree.specs.Internal.Reading.Looks.{Fault, Deep, ◌>>=◌}
use Rattle.sc_tree.proofs.ReadingSteps.{bind_ok, choose_true, choose_false}
use Rattle.sc_parse.proofs.Steps.{not_zero}
use Rattle.sc_parse.specs.Reading.Looks.{Ahead, up_to, Read, past, sees, expect, skip, name, left}
use Rattle.sc_parse.specs.Reading.Assertions.{assertion}
use Rattle.sc_parse.specs.Reading.Types.{tested_type}
use Rattle.sc_parse.specs.Reading.Expressions.{actuals, chain, object_test, nested}
use Rattle.sc_parse.specs.Reading.Instructions.{variable, creation, branch, branches, other, conditional, iteration, nested_chain, head, heads, block, instrs, nested_instrs}
use Rattle.sc_parse.specs.Reading.Classes.{locals, routine, parents, creators, sections, past_note, class_of, class_marked}
use Rattle.sc_parse.specs.Reading.Reads.{named_ahead, inside_ahead, condition_ahead, creation_call_ahead, other_ahead, opening_ahead, closing_ahead, header_ahead, members_ahead}

bind_assoc : {A B C : Type 0} (a : Result A Fault) (f : A → Result B Fault) (g : B → Result C Fault) → ((a >>= f) >>= g) ≡ (a >>= λ x. f x >>= g)
bind_assoc (Ok x) f g = refl
bind_assoc (Err e) f g = refl

bind_same : {A B : Type 0} (a : Result A Fault) (f g : A → Result B Fault) → ((x : A) → f x ≡ g x) → (a >>= f) ≡ (a >>= g)
bind_same (Ok x) f g h = h x
bind_same (Err e) f g h = refl

-- a routine of what stands before its body, and of the body with what follows it
abbrev pub routine_with : List Name → Name → List Declaration → Option DeclaredType → (List Clause × List Declaration) × ℕ × Ahead → (Instrs × List Clause) × ℕ × Ahead → Read (List Feature)
routine_with es x fs t a b = Ok (routine_of es x (record { formals = fs; result_type = t; precondition = a.0.0; locals = a.0.1; body = b.0.0; postcondition = b.0.1 }) ∷ [], max a.1 b.1, b.2)

abbrev pub after_opening : ℕ → List Name → Name → List Declaration → Option DeclaredType → (List Clause × List Declaration) × ℕ × Ahead → Read (List Feature)
after_opening room es x fs t a = closing_ahead room a.2 >>= routine_with es x fs t a

pub routine_is : (room : ℕ) (es : List Name) (x : Name) (fs : List Declaration) (t : Option DeclaredType) (ts : Ahead) → routine room es x fs t ts ≡ (opening_ahead room ts >>= after_opening room es x fs t)
unfolding routine
routine_is room es x fs t ts =
    let K = after_opening room es x fs t in
    sym
    (bind_assoc (assertion room terminal.Require (skip terminal.Is ts)) _ K ∙ bind_same _ _ _ λ pre.
    bind_assoc (locals pre.2) _ K ∙ bind_same _ _ _ λ ls.
    bind_assoc (expect terminal.Do ls.1) _ K ∙ bind_same _ _ _ λ r.
    bind_assoc (instrs room r) _ (routine_with es x fs t ((pre.0, ls.0), pre.1, r)) ∙ bind_same _ _ _ λ b.
    bind_assoc (assertion room terminal.Ensure b.2) _ (routine_with es x fs t ((pre.0, ls.0), pre.1, r)) ∙ bind_same _ _ _ λ post.
    bind_assoc (expect terminal.End post.2) _ (routine_with es x fs t ((pre.0, ls.0), pre.1, r)))

-- a class of its mark, of what stands before its features, and of the rest
abbrev pub class_with : ℕ → Option ClassMark → Name × (List Parent × List Name) → (List Feature × List Clause) × ℕ × Ahead → Read Class
class_with start m a b = Ok (class_of (up_to start b.2) m a.0 a.1.0 a.1.1 b.0.0 b.0.1, b.1, b.2)

abbrev pub after_header : ℕ → ℕ → Option ClassMark → (Name × (List Parent × List Name)) × Ahead → Read Class
after_header room start m a = members_ahead room a.1 >>= class_with start m a.0

pub class_is : (room start : ℕ) (m : Option ClassMark) (ts : Ahead) → class_marked room start m ts ≡ (header_ahead ts >>= after_header room start m)
unfolding class_marked
class_is room start m ts =
    let K = after_header room start m in
    sym
    (bind_assoc (expect terminal.Class ts) _ K ∙ bind_same _ _ _ λ r.
    bind_assoc (name r) _ K ∙ bind_same _ _ _ λ x.
    bind_assoc (parents x.1) _ K ∙ bind_same _ _ _ λ ps.
    bind_assoc (creators ps.1) _ K ∙ bind_same _ _ _ λ ns.
    bind_assoc (sections room ns.1) _ (class_with start m (x.0, (ps.0, ns.0))) ∙ bind_same _ _ _ λ fs.
    bind_assoc (assertion room terminal.Invariant fs.2) _ (class_with start m (x.0, (ps.0, ns.0))) ∙ bind_same _ _ _ λ is.
    bind_assoc (expect terminal.End (past_note ends_class is.2)) _ (class_with start m (x.0, (ps.0, ns.0))))

-- ---- object tests and constructs

abbrev pub object_test_with : Ahead → Option DeclaredType → Expr × ℕ × Ahead → Name × Ahead → Read Expr
object_test_with ts o t x = Ok (ObjectTest (up_to ts.last.start x.1) o t.0 x.0, t.1, x.1)

abbrev test_steps : Ahead → Option DeclaredType → Expr × ℕ × Ahead → Read Expr
test_steps ts o t = expect terminal.As t.2 >>= λ (r : Ahead). name r >>= object_test_with ts o t

abbrev pub after_tested : Ahead → Option DeclaredType → Expr × ℕ × Ahead → Read Expr
after_tested ts o t = named_ahead t.2 >>= object_test_with ts o t

abbrev pub after_type : (ℕ → Ahead → Read Expr) → ℕ → Ahead → Option DeclaredType × Ahead → Read Expr
after_type inner room ts o = chain inner room o.1 >>= after_tested ts o.0

pub object_test_is : (inner : ℕ → Ahead → Read Expr) (room : ℕ) (ts : Ahead) → object_test inner room ts ≡ (tested_type ts >>= after_type inner room ts)
unfolding object_test
object_test_is inner room ts =
    bind_same (tested_type ts) (λ (o : Option DeclaredType × Ahead). chain inner room o.1 >>= test_steps ts o.0) (after_type inner room ts) λ (o : Option DeclaredType × Ahead).
    bind_same (chain inner room o.1) (test_steps ts o.0) (after_tested ts o.0) λ (t : Expr × ℕ × Ahead).
    sym (bind_assoc (expect terminal.As t.2) name (object_test_with ts o.0 t))

pub object_test_read : (inner : ℕ → Ahead → Read Expr) (room : ℕ) (ts : Ahead) (o : Option DeclaredType) (r : Ahead) (t : Expr) (h : ℕ) (s : Ahead) (x : Name) (rest : Ahead) (e : Expr) →
    tested_type ts ≡ Ok (o, r) → chain inner room r ≡ Ok (t, h, s) → named_ahead s ≡ Ok (x, rest) → e ≡ ObjectTest (up_to ts.last.start rest) o t x → object_test inner room ts ≡ Ok (e, h, rest)
object_test_read inner room ts o r t h s x rest e p q v y =
    object_test_is inner room ts ∙ bind_ok _ _ (after_type inner room ts) p ∙ bind_ok _ _ (after_tested ts o) q ∙ bind_ok _ _ (object_test_with ts o (t, h, s)) v
    ∙ ap (λ (e : Expr). Ok (e, h, rest)) (sym y)

-- a value that is chosen, and what is made of it
made_if : {A B : Type 0} (b : Bool) (x y : Result A Fault) (g : A → Result B Fault) (u v : Result B Fault) → (x >>= g) ≡ u → (y >>= g) ≡ v → ((if b then x else y) >>= g) ≡ (if b then u else v)
made_if true x y g u v p q = p
made_if false x y g u v p q = q

abbrev pub created : Ahead → Variable × Ahead → Option CreationCall × ℕ × Ahead → Read Instr
created ts v c = Ok (Create (up_to ts.last.start c.2) (record { variable = v.0; call = c.0 }), c.1, c.2)

abbrev pub after_variable : ℕ → Ahead → Variable × Ahead → Read Instr
after_variable room ts v = creation_call_ahead room v.1 >>= created ts v

pub creation_is : (room : ℕ) (inner : Ahead → Read Instrs) (ts : Ahead) → creation room inner ts ≡ (variable ts >>= after_variable room ts)
unfolding creation
creation_is room inner ts =
    bind_same (variable ts) _ (after_variable room ts) λ (v : Variable × Ahead).
    sym
    (made_if (sees terminal.Dot v.1) _ _ (created ts v) _ _
    (made_if (room == 0) _ _ (created ts v) _ _ refl
    (bind_assoc (name (past v.1)) _ (created ts v) ∙ bind_same _ _ _ λ (x : Name × Ahead). bind_assoc (actuals (nested room) x.1) _ (created ts v))) refl)

pub creation_read : (room : ℕ) (inner : Ahead → Read Instrs) (ts : Ahead) (v : Variable) (r : Ahead) (k : Option CreationCall) (h : ℕ) (rest : Ahead) (i : Instr) →
    variable ts ≡ Ok (v, r) → creation_call_ahead room r ≡ Ok (k, h, rest) → i ≡ Create (up_to ts.last.start rest) (record { variable = v; call = k }) → creation room inner ts ≡ Ok (i, h, rest)
creation_read room inner ts v r k h rest i p q e =
    creation_is room inner ts ∙ bind_ok _ _ (after_variable room ts) p ∙ bind_ok _ _ (created ts (v, r)) q ∙ ap (λ (i : Instr). Ok (i, h, rest)) (sym e)

abbrev pub after_called : ℕ → Name × Ahead → Read (Option CreationCall)
after_called room x = actuals (nested room) x.1 >>= λ (es : Exprs × ℕ × Ahead). Ok (Some (record { name = x.0; actuals = es.0 }), max 1 es.1, es.2)

module _ (room : ℕ) (ts : Ahead) (b : Bool) (q : b ≡ sees terminal.Dot ts) where
  pub no_creation_call : b ≡ false → creation_call_ahead room ts ≡ Ok (None, 0, ts)
  no_creation_call d = choose_false (sees terminal.Dot ts) _ _ (sym q ∙ d)

  pub deep_creation_call : b ≡ true → room ≡ 0 → creation_call_ahead room ts ≡ Err Deep
  deep_creation_call d z = choose_true (sees terminal.Dot ts) _ _ (sym q ∙ d) ∙ choose_true (room == 0) _ _ (ap (λ (n : ℕ). n == 0) z)

  pub creation_call_is : b ≡ true → 0 < room → (r : Ahead) → r ≡ past ts → creation_call_ahead room ts ≡ (name r >>= after_called room)
  creation_call_is d p r w =
      choose_true (sees terminal.Dot ts) _ _ (sym q ∙ d) ∙ choose_false (room == 0) _ _ (not_zero room p) ∙ ap (λ (r : Ahead). name r >>= after_called room) (sym w)

-- what was read up to a word, and what is made of it
read_up_to : {A B : Type 0} (a : Read A) (word : Terminal) (g : A × ℕ × Ahead → Read B) →
    ((a >>= λ (x : A × ℕ × Ahead). expect word x.2 >>= λ (r : Ahead). Ok (x.0, x.1, r)) >>= g) ≡ (a >>= λ (x : A × ℕ × Ahead). expect word x.2 >>= λ (r : Ahead). g (x.0, x.1, r))
read_up_to {A} {B} a word g =
    bind_assoc a (λ (x : A × ℕ × Ahead). expect word x.2 >>= λ (r : Ahead). Ok (x.0, x.1, r)) g
    ∙ bind_same a (λ (x : A × ℕ × Ahead). (expect word x.2 >>= λ (r : Ahead). Ok (x.0, x.1, r)) >>= g) (λ (x : A × ℕ × Ahead). expect word x.2 >>= λ (r : Ahead). g (x.0, x.1, r))
    λ (x : A × ℕ × Ahead). bind_assoc (expect word x.2) (λ (r : Ahead). Ok (x.0, x.1, r)) g

module _ (room : ℕ) (ts : Ahead) where
  abbrev pub branch_with : Expr × ℕ × Ahead → Instrs × ℕ × Ahead → Read (Expr × Instrs)
  branch_with t b = Ok ((t.0, b.0), max t.1 b.1, b.2)

  abbrev pub after_condition : Expr × ℕ × Ahead → Read (Expr × Instrs)
  after_condition t = nested_instrs room t.2 >>= branch_with t

  pub branch_is : branch room (nested_instrs room) ts ≡ (condition_ahead room terminal.Then ts >>= after_condition)
  unfolding branch
  branch_is = sym (read_up_to (nested room top ts) terminal.Then after_condition)

  pub branch_read : (t : Expr) (h : ℕ) (r : Ahead) (b : Instrs) (g : ℕ) (rest : Ahead) → condition_ahead room terminal.Then ts ≡ Ok (t, h, r) → nested_instrs room r ≡ Ok (b, g, rest) →
      branch room (nested_instrs room) ts ≡ Ok ((t, b), max h g, rest)
  branch_read t h r b g rest p q = branch_is ∙ bind_ok _ _ after_condition p ∙ bind_ok _ _ (branch_with (t, h, r)) q

  -- `else` with what stands under it, or nothing, up to the `end`
  pub other_there : sees terminal.Else ts ≡ true → other_ahead room ts ≡ inside_ahead room terminal.End (past ts)
  unfolding other
  other_there e =
      ap (λ (a : Read Instrs). a >>= λ (o : Instrs × ℕ × Ahead). expect terminal.End o.2 >>= λ (r : Ahead). Ok (o.0, o.1, r)) (choose_true (sees terminal.Else ts) _ _ e)

  abbrev pub no_other : Ahead → Read Instrs
  no_other r = Ok (no_instrs, 0, r)

  pub other_none : sees terminal.Else ts ≡ false → other_ahead room ts ≡ (expect terminal.End ts >>= no_other)
  unfolding other
  other_none e =
      ap (λ (a : Read Instrs). a >>= λ (o : Instrs × ℕ × Ahead). expect terminal.End o.2 >>= λ (r : Ahead). Ok (o.0, o.1, r)) (choose_false (sees terminal.Else ts) _ _ e)

  abbrev pub if_with : (Expr × Instrs) × ℕ × Ahead → Branches × ℕ × Ahead → Instrs × ℕ × Ahead → Read Instr
  if_with g bs o = Ok (If (up_to ts.last.start o.2) g.0.0 g.0.1 bs.0 o.0, suc (max g.1 (max bs.1 o.1)), o.2)

  abbrev pub after_branches : (Expr × Instrs) × ℕ × Ahead → Branches × ℕ × Ahead → Read Instr
  after_branches g bs = other_ahead room bs.2 >>= if_with g bs

  abbrev pub after_first : (Expr × Instrs) × ℕ × Ahead → Read Instr
  after_first g = branches room (nested_instrs room) (left g.2) no_branches 0 g.2 >>= after_branches g

  pub conditional_is : conditional room (nested_instrs room) ts ≡ (branch room (nested_instrs room) ts >>= after_first)
  unfolding conditional
  conditional_is =
      sym
      (bind_same (branch room (nested_instrs room) ts) after_first _ λ (g : (Expr × Instrs) × ℕ × Ahead).
      bind_same (branches room (nested_instrs room) (left g.2) no_branches 0 g.2) (after_branches g) _ λ (bs : Branches × ℕ × Ahead).
      read_up_to (other room (nested_instrs room) bs.2) terminal.End (if_with g bs))

  pub conditional_read : (g : Expr × Instrs) (hg : ℕ) (q : Ahead) (bs : Branches) (hb : ℕ) (r : Ahead) (o : Instrs) (ho : ℕ) (rest : Ahead) (i : Instr) →
      branch room (nested_instrs room) ts ≡ Ok (g, hg, q) → branches room (nested_instrs room) (left q) no_branches 0 q ≡ Ok (bs, hb, r) → other_ahead room r ≡ Ok (o, ho, rest) →
      i ≡ If (up_to ts.last.start rest) g.0 g.1 bs o → conditional room (nested_instrs room) ts ≡ Ok (i, suc (max hg (max hb ho)), rest)
  conditional_read g hg q bs hb r o ho rest i d e f w =
      conditional_is ∙ bind_ok _ _ after_first d ∙ bind_ok _ _ (after_branches (g, hg, q)) e ∙ bind_ok _ _ (if_with (g, hg, q) (bs, hb, r)) f
      ∙ ap (λ (i : Instr). Ok (i, suc (max hg (max hb ho)), rest)) (sym w)

  abbrev pub head_with : Expr × ℕ × Ahead → Name × Ahead → Read Head
  head_with t x = Ok (record { value = t.0; name = x.0 }, t.1, x.1)

  abbrev pub after_value : Expr × ℕ × Ahead → Read Head
  after_value t = named_ahead t.2 >>= head_with t

  pub head_is : head room (nested_instrs room) ts ≡ (nested_chain room ts >>= after_value)
  unfolding head
  head_is = bind_same _ _ _ λ (t : Expr × ℕ × Ahead). sym (bind_assoc (expect terminal.As t.2) name (head_with t))

  pub head_read : (t : Expr) (h : ℕ) (r : Ahead) (x : Name) (rest : Ahead) (k : Head) → nested_chain room ts ≡ Ok (t, h, r) → named_ahead r ≡ Ok (x, rest) → k ≡ record { value = t; name = x } →
      head room (nested_instrs room) ts ≡ Ok (k, h, rest)
  head_read t h r x rest k p q e =
      head_is ∙ bind_ok _ _ after_value p ∙ bind_ok _ _ (head_with (t, h, r)) q ∙ ap (λ (k : Head). Ok (k, h, rest)) (sym e)

  abbrev pub loop_with : Instrs × ℕ × Ahead → Expr × ℕ × Ahead → Instrs × ℕ × Ahead → Read Instr
  loop_with i t b = Ok (Loop (up_to ts.last.start b.2) i.0 t.0 b.0, suc (max i.1 (max t.1 b.1)), b.2)

  abbrev pub after_until : Instrs × ℕ × Ahead → Expr × ℕ × Ahead → Read Instr
  after_until i t = inside_ahead room terminal.End t.2 >>= loop_with i t

  abbrev pub after_initial : Instrs × ℕ × Ahead → Read Instr
  after_initial i = condition_ahead room terminal.Loop i.2 >>= after_until i

  pub iteration_is : iteration room (nested_instrs room) ts ≡ (inside_ahead room terminal.Until ts >>= after_initial)
  unfolding iteration
  iteration_is =
      sym
      (read_up_to (nested_instrs room ts) terminal.Until after_initial
      ∙ bind_same (nested_instrs room ts) (λ (i : Instrs × ℕ × Ahead). expect terminal.Until i.2 >>= λ (r : Ahead). after_initial (i.0, i.1, r)) _ λ (i : Instrs × ℕ × Ahead).
      bind_same (expect terminal.Until i.2) (λ (r : Ahead). after_initial (i.0, i.1, r)) _ λ (r : Ahead).
      read_up_to (nested room top r) terminal.Loop (after_until (i.0, i.1, r))
      ∙ bind_same (nested room top r) (λ (t : Expr × ℕ × Ahead). expect terminal.Loop t.2 >>= λ (s : Ahead). after_until (i.0, i.1, r) (t.0, t.1, s)) _ λ (t : Expr × ℕ × Ahead).
      bind_same (expect terminal.Loop t.2) (λ (s : Ahead). after_until (i.0, i.1, r) (t.0, t.1, s)) _ λ (s : Ahead).
      read_up_to (nested_instrs room s) terminal.End (loop_with (i.0, i.1, r) (t.0, t.1, s)))

  pub iteration_read : (a : Instrs) (ha : ℕ) (q : Ahead) (t : Expr) (ht : ℕ) (s : Ahead) (b : Instrs) (hb : ℕ) (rest : Ahead) (i : Instr) →
      inside_ahead room terminal.Until ts ≡ Ok (a, ha, q) → condition_ahead room terminal.Loop q ≡ Ok (t, ht, s) → inside_ahead room terminal.End s ≡ Ok (b, hb, rest) →
      i ≡ Loop (up_to ts.last.start rest) a t b → iteration room (nested_instrs room) ts ≡ Ok (i, suc (max ha (max ht hb)), rest)
  iteration_read a ha q t ht s b hb rest i d e f w =
      iteration_is ∙ bind_ok _ _ after_initial d ∙ bind_ok _ _ (after_until (a, ha, q)) e ∙ bind_ok _ _ (loop_with (a, ha, q) (t, ht, s)) f
      ∙ ap (λ (i : Instr). Ok (i, suc (max ha (max ht hb)), rest)) (sym w)

  abbrev pub block_with : List Head × ℕ × Ahead → Instrs × ℕ × Ahead → Read Instr
  block_with xs b = Ok (Block (up_to ts.last.start b.2) xs.0 b.0, suc (max xs.1 b.1), b.2)

  abbrev pub after_do : List Head × ℕ × Ahead → Ahead → Read Instr
  after_do xs r = inside_ahead room terminal.End r >>= block_with xs

  abbrev pub after_heads : List Head × ℕ × Ahead → Read Instr
  after_heads xs = expect terminal.Do xs.2 >>= after_do xs

  pub block_is : block room (nested_instrs room) ts ≡ (heads room (nested_instrs room) ts >>= after_heads)
  unfolding block
  block_is =
      sym
      (bind_same (heads room (nested_instrs room) ts) after_heads _ λ (xs : List Head × ℕ × Ahead).
      bind_same (expect terminal.Do xs.2) (after_do xs) _ λ (s : Ahead). read_up_to (nested_instrs room s) terminal.End (block_with xs))

  pub block_read : (hs : List Head) (h : ℕ) (q r : Ahead) (b : Instrs) (g : ℕ) (rest : Ahead) (i : Instr) →
      heads room (nested_instrs room) ts ≡ Ok (hs, h, q) → expect terminal.Do q ≡ Ok r → inside_ahead room terminal.End r ≡ Ok (b, g, rest) → i ≡ Block (up_to ts.last.start rest) hs b →
      block room (nested_instrs room) ts ≡ Ok (i, suc (max h g), rest)
  block_read hs h q r b g rest i d e f w =
      block_is ∙ bind_ok _ _ after_heads d ∙ bind_ok _ _ (after_do (hs, h, q)) e ∙ bind_ok _ _ (block_with (hs, h, q)) f ∙ ap (λ (i : Instr). Ok (i, suc (max h g), rest)) (sym w)
