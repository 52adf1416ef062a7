-- What the functions of `specs/Internal/ScopeSearch` give at each exit of the code that follows them.
use Rattle.std.proofs.Common.{◌≡◌, ◌<◌, ◌≤◌, ◌+◌, ℕ, Bool, true, false, cond, List, [], ◌∷◌, ◌++◌, Option, length, get_or, drop, map, refl, ap, sym, ◌∙◌}
use Rattle.std.specs.Prelude.{filter, nat_lt}
use Rattle.std.proofs.lemmas.List.{append_assoc, append-nil}
use Rattle.std.specs.declared.vec.Vec.{Vec}
use Rattle.std.specs.declared.alloc.Global.{Global}
use Rattle.sc_text.specs.declared.token.Span.{Span}
use Rattle.sc_tree.specs.declared.expression.Expr.{Expr}
use Rattle.sc_tree.specs.declared.expression.Expr.TheVariants as expr
use Rattle.sc_tree.specs.declared.expression.Call.{Call}
use Rattle.sc_tree.specs.declared.instruction.Head.{Head}
use Rattle.sc_tree.specs.declared.instruction.Instr.{Instr}
use Rattle.sc_tree.specs.declared.instruction.Instr.TheVariants as instr
use Rattle.sc_tree.specs.declared.instruction.Branch.{Branch}
use Rattle.sc_tree.specs.declared.instruction.Clause.{Clause}
use Rattle.sc_tree.specs.declared.declaration.Declaration.{Declaration}
use Rattle.sc_tree.specs.declared.system.Routine.{Routine}
use Rattle.sc_tree.specs.declared.system.FeatureKind.TheVariants as kind
use Rattle.std.specs.declared.boxed.Box.{Box}
use Rattle.sc_tree.specs.declared.expression.BinaryOperator.{BinaryOperator}
use Rattle.sc_tree.specs.declared.declaration.DeclaredType.{DeclaredType}
use Rattle.sc_tree.specs.declared.expression.Name as tree_name
use Rattle.sc_tree.specs.Plain.{Name}
use Rattle.sc_tree.specs.Plain as plain
use Rattle.sc_tree.specs.Properties.{is_and_then}
use Rattle.sc_tree.specs.View.{name_of, expr_of, target_of, exprs_of, clause_of, declaration_of, head_of, kind_of, instr_of, instrs_of, branches_of}
use Rattle.sc_tree.proofs.ViewLemmas.{expr_of-call, expr_of-binary, expr_of-object_test, instr_of-call, instr_of-if, instr_of-loop, instr_of-block}
use Rattle.sc_class.specs.Faults.Scopes.{tests_of, head_names, entity_names}
use Rattle.sc_class.specs.Internal.Places.{inserted, union}
use Rattle.sc_class.specs.Internal.ScopeSearch.{is_later_like, later_places, own_place, name_clash, names_clash, expr_clash, target_clash, exprs_clash, condition_clash, clauses_clash, values_clash, instr_clash, instrs_clash, branches_clash, kind_clash}
use Rattle.sc_class.proofs.Anys.{at, drop_end}
use Rattle.sc_class.proofs.PlaceLists.{union_none, union_one, union_append}

-- ---- one place

pub later_one : (ps : List Span) (m n : Name) → is_later_like m n ≡ true → inserted ps m.span ≡ union ps (later_places (m ∷ []) n)
later_one ps m n e = sym (ap (λ b. union ps (map (λ (m : Name). m.span) (cond b (m ∷ []) []))) e ∙ union_one ps m.span)

pub later_none : (ps : List Span) (m n : Name) → is_later_like m n ≡ false → ps ≡ union ps (later_places (m ∷ []) n)
later_none ps m n e = sym (ap (λ b. union ps (map (λ (m : Name). m.span) (cond b (m ∷ []) []))) e ∙ union_none ps)

pub later_cons : (n m : Name) (ms : List Name) → later_places (m ∷ ms) n ≡ later_places (m ∷ []) n ++ later_places ms n
later_cons n m ms = by (is_later_like m n) (filter (λ m. is_later_like m n) ms)
  where
    by : (b : Bool) (ks : List Name) → map (λ (m : Name). m.span) (cond b (m ∷ ks) ks) ≡ map (λ (m : Name). m.span) (cond b (m ∷ []) []) ++ map (λ (m : Name). m.span) ks
    by true ks = refl
    by false ks = refl

pub own_one : (ps : List Span) (p : Span) (n : Name) → nat_lt n.span.start p.start ≡ false → inserted ps n.span ≡ union ps (own_place p n)
own_one ps p n e = sym (ap (λ b. union ps (cond b [] (n.span ∷ []))) e ∙ union_one ps n.span)

pub own_none : (ps : List Span) (p : Span) (n : Name) → nat_lt n.span.start p.start ≡ true → ps ≡ union ps (own_place p n)
own_none ps p n e = sym (ap (λ b. union ps (cond b [] (n.span ∷ []))) e ∙ union_none ps)

-- ---- one after the other

pub two : (f g a b : List Span) → g ≡ union f a → union g b ≡ union f (a ++ b)
two f g a b i = ap (λ g. union g b) i ∙ sym (union_append f a b)

pub three : (f g h a b c : List Span) → g ≡ union f a → h ≡ union g b → union h c ≡ union f (a ++ (b ++ c))
three f g h a b c i j = two g h b c j ∙ two f g a (b ++ c) i

pub five : (f g h k l a b c d e : List Span) → g ≡ union f a → h ≡ union g b → k ≡ union h c → l ≡ union k d → union l e ≡ union f (a ++ (b ++ (c ++ (d ++ e))))
five f g h k l a b c d e i j m n = three h k l c d e m n ∙ three f g h a b (c ++ (d ++ e)) i j

-- ---- lists, from the element at an index on

-- a search g of a list, which goes by a search h of each element
module _ {A : Type 0} (g : List A → List Span) (h : A → List Span) (xs : List A) where
  pub search_more : ((x : A) (xs : List A) → g (x ∷ xs) ≡ h x ++ g xs) → (all found next : List Span) (k : ℕ) (x : A) →
      all ≡ union found (g (drop k xs)) → k < length xs → x ≡ get_or xs k x → next ≡ union found (h x) → all ≡ union next (g (drop (k + 1) xs))
  search_more cons all found next k x q l e n =
      q ∙ ap (λ ys. union found (g ys)) (at xs k x l e) ∙ ap (union found) (cons x (drop (k + 1) xs)) ∙ sym (two found next (h x) (g (drop (k + 1) xs)) n)

  pub search_end : g [] ≡ [] → (all found : List Span) (k : ℕ) → all ≡ union found (g (drop k xs)) → length xs ≤ k → found ≡ all
  search_end empty all found k q l = sym (q ∙ ap (λ ys. union found (g ys)) (drop_end xs k l) ∙ ap (union found) empty ∙ union_none found)

-- the names g of a list, one n of each element
module _ {A : Type 0} (g : List A → List Name) (n : A → Name) (xs : List A) where
  pub names_more : (fs : List Name) → ((x : A) (xs : List A) → g (x ∷ xs) ≡ n x ∷ g xs) → (all found next : List Span) (ns more : List Name) (k : ℕ) (x : A) →
      all ≡ union found (names_clash fs ns (g (drop k xs))) → k < length xs → x ≡ get_or xs k x → next ≡ union found (name_clash fs ns (n x)) → more ≡ ns ++ n x ∷ [] →
      all ≡ union next (names_clash fs more (g (drop (k + 1) xs)))
  unfolding names_clash
  names_more fs cons all found next ns more k x q l e o m =
      q ∙ ap (λ ys. union found (names_clash fs ns (g ys))) (at xs k x l e) ∙ ap (λ ms. union found (names_clash fs ns ms)) (cons x (drop (k + 1) xs))
      ∙ ap (λ ms. union found (name_clash fs ns (n x) ++ names_clash fs ms (g (drop (k + 1) xs)))) (sym m)
      ∙ sym (two found next (name_clash fs ns (n x)) (names_clash fs more (g (drop (k + 1) xs))) o)

  pub names_end : (fs : List Name) → g [] ≡ [] → (all found : List Span) (ns : List Name) (k : ℕ) → all ≡ union found (names_clash fs ns (g (drop k xs))) → length xs ≤ k → found ≡ all
  unfolding names_clash
  names_end fs empty all found ns k q l =
      sym (q ∙ ap (λ ys. union found (names_clash fs ns (g ys))) (drop_end xs k l) ∙ ap (λ ms. union found (names_clash fs ns ms)) empty ∙ union_none found)

  pub known_more : ((x : A) (xs : List A) → g (x ∷ xs) ≡ n x ∷ g xs) → (all ns more : List Name) (k : ℕ) (x : A) →
      all ≡ ns ++ g (drop k xs) → k < length xs → x ≡ get_or xs k x → more ≡ ns ++ n x ∷ [] → all ≡ more ++ g (drop (k + 1) xs)
  known_more cons all ns more k x q l e m =
      q ∙ ap (λ ys. ns ++ g ys) (at xs k x l e) ∙ ap (λ ms. ns ++ ms) (cons x (drop (k + 1) xs)) ∙ sym (append_assoc ns (n x ∷ []) (g (drop (k + 1) xs)))
      ∙ ap (λ ms. ms ++ g (drop (k + 1) xs)) (sym m)

  pub known_end : g [] ≡ [] → (all ns : List Name) (k : ℕ) → all ≡ ns ++ g (drop k xs) → length xs ≤ k → ns ≡ all
  known_end empty all ns k q l = sym (q ∙ ap (λ ys. ns ++ g ys) (drop_end xs k l) ∙ ap (λ ms. ns ++ ms) empty ∙ append-nil ns)

-- ---- calls and instructions in the tree in memory

pub call_found : (fs ns : List Name) (e : Expr) (k : Call) (es : List Expr) (a b : List Span) → e ≡ expr.Call k → es ≡ k.actuals.items →
    b ≡ union a (target_clash fs ns (target_of k.target)) → union b (exprs_clash fs ns (exprs_of es)) ≡ union a (expr_clash fs ns (expr_of e))
unfolding expr_clash
call_found fs ns e k es a b q w i =
    two a b (target_clash fs ns (target_of k.target)) (exprs_clash fs ns (exprs_of es)) i
    ∙ ap (union a) (ap (λ (es : List Expr). target_clash fs ns (target_of k.target) ++ exprs_clash fs ns (exprs_of es)) w
    ∙ sym (ap (λ (e : Expr). expr_clash fs ns (expr_of e)) q ∙ ap (expr_clash fs ns) (expr_of-call k)))

module _ (fs ns : List Name) (e : Expr) where
  pub binary_found : (s : Span) (op : BinaryOperator) (x y : Box Expr Global) (l r : Expr) (a b : List Span) → e ≡ expr.Binary s op x y → l ≡ x.value → r ≡ y.value →
      b ≡ union a (expr_clash fs ns (expr_of l)) → union b (expr_clash fs ns (expr_of r)) ≡ union a (expr_clash fs ns (expr_of e))
  unfolding expr_clash
  binary_found s op x y l r a b q u v i =
      two a b (expr_clash fs ns (expr_of l)) (expr_clash fs ns (expr_of r)) i
      ∙ ap (union a) (ap (λ (l : Expr). expr_clash fs ns (expr_of l) ++ expr_clash fs ns (expr_of r)) u ∙ ap (λ (r : Expr). expr_clash fs ns (expr_of x.value) ++ expr_clash fs ns (expr_of r)) v
      ∙ sym (ap (λ (e : Expr). expr_clash fs ns (expr_of e)) q ∙ ap (expr_clash fs ns) (expr_of-binary s op x y)))

  module _ (s : Span) (t : Option DeclaredType) (x : Box Expr Global) (n : tree_name.Name) (l : Expr) (a b : List Span) (q : e ≡ expr.ObjectTest s t x n) (u : l ≡ x.value) (i : b ≡ union a (expr_clash fs ns (expr_of l))) where
    tested : union b (name_clash fs ns (name_of n)) ≡ union a (expr_clash fs ns (expr_of x.value) ++ name_clash fs ns (name_of n))
    tested = two a b (expr_clash fs ns (expr_of l)) (name_clash fs ns (name_of n)) i ∙ ap (union a) (ap (λ (l : Expr). expr_clash fs ns (expr_of l) ++ name_clash fs ns (name_of n)) u)

    pub test_found : union b (name_clash fs ns (name_of n)) ≡ union a (expr_clash fs ns (expr_of e))
    unfolding expr_clash
    test_found = tested ∙ ap (union a) (sym (ap (λ (e : Expr). expr_clash fs ns (expr_of e)) q ∙ ap (expr_clash fs ns) (expr_of-object_test s t x n)))

    pub condition_test_found : union b (name_clash fs ns (name_of n)) ≡ union a (condition_clash fs ns (expr_of e))
    unfolding condition_clash
    condition_test_found = tested ∙ ap (union a) (sym (ap (λ (e : Expr). condition_clash fs ns (expr_of e)) q ∙ ap (condition_clash fs ns) (expr_of-object_test s t x n)))

  pub joined_found : (s : Span) (op : BinaryOperator) (x y : Box Expr Global) (l r : Expr) (more : List Name) (a b : List Span) → e ≡ expr.Binary s op x y → is_and_then op ≡ true → l ≡ x.value → r ≡ y.value → more ≡ ns ++ tests_of (expr_of l) →
      b ≡ union a (condition_clash fs ns (expr_of l)) → union b (condition_clash fs more (expr_of r)) ≡ union a (condition_clash fs ns (expr_of e))
  unfolding condition_clash
  joined_found s op x y l r more a b q t u v m i =
      two a b (condition_clash fs ns (expr_of l)) (condition_clash fs more (expr_of r)) i
      ∙ ap (union a) (ap (λ ms. condition_clash fs ns (expr_of l) ++ condition_clash fs ms (expr_of r)) m
      ∙ ap (λ (l : Expr). condition_clash fs ns (expr_of l) ++ condition_clash fs (ns ++ tests_of (expr_of l)) (expr_of r)) u
      ∙ ap (λ (r : Expr). condition_clash fs ns (expr_of x.value) ++ condition_clash fs (ns ++ tests_of (expr_of x.value)) (expr_of r)) v
      ∙ sym (ap (λ (e : Expr). condition_clash fs ns (expr_of e)) q ∙ ap (condition_clash fs ns) (expr_of-binary s op x y)
      ∙ ap (λ b. cond b (condition_clash fs ns (expr_of x.value) ++ condition_clash fs (ns ++ tests_of (expr_of x.value)) (expr_of y.value)) (expr_clash fs ns (plain.Binary s op (expr_of x.value) (expr_of y.value)))) t))

-- what is in scope in a block or under a condition goes out of it
pub under_found : (fs ns more : List Name) (e : plain.Expr) (is : plain.Instrs) (f g h : List Span) → more ≡ ns ++ tests_of e → g ≡ union f (condition_clash fs ns e) → h ≡ union g (instrs_clash fs more is) →
    h ≡ union f (condition_clash fs ns e ++ instrs_clash fs (ns ++ tests_of e) is)
under_found fs ns more e is f g h m i j =
    j ∙ ap (λ ms. union g (instrs_clash fs ms is)) m ∙ two f g (condition_clash fs ns e) (instrs_clash fs (ns ++ tests_of e) is) i

pub in_block_found : (fs ns more names : List Name) (hs : List plain.Head) (is : plain.Instrs) (f g h k : List Span) → more ≡ ns ++ names → g ≡ union f (values_clash fs ns hs) → h ≡ union g (names_clash fs ns names) →
    k ≡ union h (instrs_clash fs more is) → k ≡ union f (values_clash fs ns hs ++ (names_clash fs ns names ++ instrs_clash fs (ns ++ names) is))
in_block_found fs ns more names hs is f g h k m i j l =
    l ∙ ap (λ ms. union h (instrs_clash fs ms is)) m ∙ three f g h (values_clash fs ns hs) (names_clash fs ns names) (instrs_clash fs (ns ++ names) is) i j

pub routine_call_found : (fs ns : List Name) (i : Instr) (k : Call) (es : List Expr) (a b : List Span) → i ≡ instr.Call k → es ≡ k.actuals.items →
    b ≡ union a (target_clash fs ns (target_of k.target)) → union b (exprs_clash fs ns (exprs_of es)) ≡ union a (instr_clash fs ns (instr_of i))
unfolding instr_clash
routine_call_found fs ns i k es a b q w j =
    two a b (target_clash fs ns (target_of k.target)) (exprs_clash fs ns (exprs_of es)) j
    ∙ ap (union a) (ap (λ (es : List Expr). target_clash fs ns (target_of k.target) ++ exprs_clash fs ns (exprs_of es)) w
    ∙ sym (ap (λ (i : Instr). instr_clash fs ns (instr_of i)) q ∙ ap (instr_clash fs ns) (instr_of-call k)))

module _ (fs ns : List Name) (i : Instr) where
  pub if_found : (s : Span) (e : Expr) (body : Vec Instr Global) (branches : Vec Branch Global) (other : Vec Instr Global) (is os : List Instr) (bs : List Branch) (f g h : List Span) →
      i ≡ instr.If s e body branches other → is ≡ body.items → bs ≡ branches.items → os ≡ other.items →
      g ≡ union f (condition_clash fs ns (expr_of e) ++ instrs_clash fs (ns ++ tests_of (expr_of e)) (instrs_of is)) → h ≡ union g (branches_clash fs ns (branches_of bs)) →
      union h (instrs_clash fs ns (instrs_of os)) ≡ union f (instr_clash fs ns (instr_of i))
  unfolding instr_clash
  if_found s e body branches other is os bs f g h q u v w x y =
      let part : List Instr → List Span = λ is. condition_clash fs ns (expr_of e) ++ instrs_clash fs (ns ++ tests_of (expr_of e)) (instrs_of is) in
      three f g h (part is) (branches_clash fs ns (branches_of bs)) (instrs_clash fs ns (instrs_of os)) x y
      ∙ ap (union f) (ap (λ (is : List Instr). part is ++ (branches_clash fs ns (branches_of bs) ++ instrs_clash fs ns (instrs_of os))) u
      ∙ ap (λ (bs : List Branch). part body.items ++ (branches_clash fs ns (branches_of bs) ++ instrs_clash fs ns (instrs_of os))) v
      ∙ ap (λ (os : List Instr). part body.items ++ (branches_clash fs ns (branches_of branches.items) ++ instrs_clash fs ns (instrs_of os))) w
      ∙ sym (ap (λ (i : Instr). instr_clash fs ns (instr_of i)) q ∙ ap (instr_clash fs ns) (instr_of-if s e body branches other)))

  pub loop_found : (s : Span) (initial : Vec Instr Global) (e : Expr) (body : Vec Instr Global) (is js : List Instr) (f g h : List Span) →
      i ≡ instr.Loop s initial e body → is ≡ initial.items → js ≡ body.items → g ≡ union f (instrs_clash fs ns (instrs_of is)) → h ≡ union g (expr_clash fs ns (expr_of e)) →
      union h (instrs_clash fs ns (instrs_of js)) ≡ union f (instr_clash fs ns (instr_of i))
  unfolding instr_clash
  loop_found s initial e body is js f g h q u v x y =
      three f g h (instrs_clash fs ns (instrs_of is)) (expr_clash fs ns (expr_of e)) (instrs_clash fs ns (instrs_of js)) x y
      ∙ ap (union f) (ap (λ (is : List Instr). instrs_clash fs ns (instrs_of is) ++ (expr_clash fs ns (expr_of e) ++ instrs_clash fs ns (instrs_of js))) u
      ∙ ap (λ (js : List Instr). instrs_clash fs ns (instrs_of initial.items) ++ (expr_clash fs ns (expr_of e) ++ instrs_clash fs ns (instrs_of js))) v
      ∙ sym (ap (λ (i : Instr). instr_clash fs ns (instr_of i)) q ∙ ap (instr_clash fs ns) (instr_of-loop s initial e body)))

  pub block_found : (s : Span) (heads : Vec Head Global) (body : Vec Instr Global) (hs : List Head) (is : List Instr) (f : List Span) →
      i ≡ instr.Block s heads body → hs ≡ heads.items → is ≡ body.items →
      union f (values_clash fs ns (map head_of hs) ++ (names_clash fs ns (head_names (map head_of hs)) ++ instrs_clash fs (ns ++ head_names (map head_of hs)) (instrs_of is))) ≡ union f (instr_clash fs ns (instr_of i))
  unfolding instr_clash
  block_found s heads body hs is f q u v =
      let parts : List Head → List Instr → List Span = λ hs is. values_clash fs ns (map head_of hs) ++ (names_clash fs ns (head_names (map head_of hs)) ++ instrs_clash fs (ns ++ head_names (map head_of hs)) (instrs_of is)) in
      ap (union f) (ap (λ (hs : List Head). parts hs is) u ∙ ap (parts heads.items) v ∙ sym (ap (λ (i : Instr). instr_clash fs ns (instr_of i)) q ∙ ap (instr_clash fs ns) (instr_of-block s heads body)))

pub routine_found : (fs : List Name) (r : Routine) (ds ls : List Declaration) (ps qs : List Clause) (is : List Instr) (n0 n1 n2 : List Name) (f g h k l : List Span) →
    ds ≡ r.formals.items → ls ≡ r.locals.items → ps ≡ r.precondition.items → qs ≡ r.postcondition.items → is ≡ r.body.items →
    n0 ≡ [] → n1 ≡ n0 ++ entity_names (map declaration_of ds) → n2 ≡ n1 ++ entity_names (map declaration_of ls) →
    g ≡ union f (names_clash fs n0 (entity_names (map declaration_of ds))) → h ≡ union g (clauses_clash fs n1 (map clause_of ps)) → k ≡ union h (clauses_clash fs n1 (map clause_of qs)) →
    l ≡ union k (names_clash fs n1 (entity_names (map declaration_of ls))) → union l (instrs_clash fs n2 (instrs_of is)) ≡ union f (kind_clash fs (kind_of (kind.Routine r)))
unfolding kind_clash kind_of
routine_found fs r ds ls ps qs is n0 n1 n2 f g h k l s t u v w none some all x y z o =
    let names : List Declaration → List Name = λ ds. entity_names (map declaration_of ds) in
    let parts : List Declaration → List Declaration → List Clause → List Clause → List Instr → List Span =
    λ ds ls ps qs is. names_clash fs [] (names ds) ++ (clauses_clash fs (names ds) (map clause_of ps) ++ (clauses_clash fs (names ds) (map clause_of qs) ++ (names_clash fs (names ds) (names ls) ++ instrs_clash fs (names ds ++ names ls) (instrs_of is)))) in
    let outer : n1 ≡ names ds = some ∙ ap (λ ns. ns ++ names ds) none in
    let inner : n2 ≡ names ds ++ names ls = all ∙ ap (λ ns. ns ++ names ls) outer in
    ap (λ ns. union l (instrs_clash fs ns (instrs_of is))) inner
    ∙ five f g h k l (names_clash fs [] (names ds)) (clauses_clash fs (names ds) (map clause_of ps)) (clauses_clash fs (names ds) (map clause_of qs)) (names_clash fs (names ds) (names ls)) (instrs_clash fs (names ds ++ names ls) (instrs_of is))
    (x ∙ ap (λ ns. union f (names_clash fs ns (names ds))) none) (y ∙ ap (λ ns. union g (clauses_clash fs ns (map clause_of ps))) outer) (z ∙ ap (λ ns. union h (clauses_clash fs ns (map clause_of qs))) outer)
    (o ∙ ap (λ ns. union k (names_clash fs ns (names ls))) outer)
    ∙ ap (union f) (ap (λ (ds : List Declaration). parts ds ls ps qs is) s ∙ ap (λ (ls : List Declaration). parts r.formals.items ls ps qs is) t ∙ ap (λ (ps : List Clause). parts r.formals.items r.locals.items ps qs is) u
    ∙ ap (λ (qs : List Clause). parts r.formals.items r.locals.items r.precondition.items qs is) v ∙ ap (parts r.formals.items r.locals.items r.precondition.items r.postcondition.items) w)
