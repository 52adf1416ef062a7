-- The canonical text of a tree doesn't turn on the places of its nodes.
use Rattle.std.proofs.Common.{◌≡◌, ℕ, ◌+◌, ◌&&◌, Bool, List, [], ◌∷◌, ◌++◌, map, Option, None, Some, refl, ap, ◌∙◌}
use Rattle.std.specs.Prelude.{if◌then◌else◌}
use Rattle.std.specs.Str.{bytes_eq}
use Rattle.sc_text.specs.declared.token.Terminal.{Terminal}
use Rattle.sc_text.specs.declared.token.Terminal.TheVariants as terminal
use Rattle.sc_tree.specs.Plain as plain
use Rattle.sc_tree.specs.Plain.{Name, HandlerTag, Own, Separate, HandlerOf, DeclaredType, Declaration, Expr, Integer, Boolean, Void, Current, Call, Unary, Binary, ObjectTest, Target, no_target, target, Exprs, no_exprs, expr_then, Variable, Named, ResultVariable, CreationCall, Clause, Head, Instr, Assign, PrintText, CallRoutine, Create, If, Loop, Check, Block, Instrs, no_instrs, instr_then, Branches, no_branches, branch_then, RoutineDeclaration, FeatureKind, Attribute, Routine, Feature, Parent, ClassMark, Deferred, Expanded, Frozen, Class}
use Rattle.sc_tree.specs.Bare.{bare_name, bare_handler_tag, bare_type, bare_type_if_any, bare_declaration, bare_expr, bare_target, bare_exprs, bare_variable, bare_creation_call, bare_tag, bare_clause, bare_head, bare_instr, bare_instrs, bare_branches, bare_routine, bare_kind, bare_feature, bare_parent, bare_mark, bare_class}
use Rattle.sc_tree.specs.Grammar.{class_below, prefix_of, terminals_of}
use Rattle.sc_tree.specs.Canonical.Layout.{Part, Line, word, line, behind_each, separated}
use Rattle.sc_tree.specs.Canonical.Expressions.{name_part, class_name_part, names_parts, class_names_parts, handler_tag_parts, attachment_parts, type_parts, tested_type_parts, class_of_expr, left_class, in_class, expr_parts, behind_target, actuals_parts, more_actuals_parts, call_parts}
use Rattle.sc_tree.specs.Canonical.Instructions.{tag_parts, ending, clause_line, is_empty, clauses_lines, assertion_lines, variable_part, creation_call_parts, head_parts, heads_parts, guard_line, reservation_line, else_lines, instr_lines, instrs_lines, branches_lines}
use Rattle.sc_tree.specs.Canonical.Classes.{declaration_parts, formals_parts, result_type_parts, local_line, locals_lines, signature_line, routine_lines, kind_lines, feature_lines, same_names, exports_parts, section_line, further_feature_lines, further_features_lines, sections_lines, mark_parts, redefined_parts, parent_line, parents_lines, creators_lines, heading_line, class_lines, further_classes_lines, classes_lines}

-- ---- lists

behind_each-bare : {A : Type 0} (bare : A → A) (separator : Part) (parts : A → List Part) → ((x : A) → parts (bare x) ≡ parts x) → (xs : List A) →
    behind_each separator parts (map bare xs) ≡ behind_each separator parts xs
behind_each-bare bare separator parts e [] = refl
behind_each-bare bare separator parts e (x ∷ xs) =
    ap (λ ps. separator ∷ (ps ++ behind_each separator parts (map bare xs))) (e x)
    ∙ ap (λ ps. separator ∷ (parts x ++ ps)) (behind_each-bare bare separator parts e xs)

separated-bare : {A : Type 0} (bare : A → A) (separator : Part) (parts : A → List Part) → ((x : A) → parts (bare x) ≡ parts x) → (xs : List A) →
    separated separator parts (map bare xs) ≡ separated separator parts xs
separated-bare bare separator parts e [] = refl
separated-bare bare separator parts e (x ∷ xs) =
    ap (λ ps. ps ++ behind_each separator parts (map bare xs)) (e x) ∙ ap (λ ps. parts x ++ ps) (behind_each-bare bare separator parts e xs)

mapped-bare : {A : Type 0} (bare : A → A) (f : A → Line) → ((x : A) → f (bare x) ≡ f x) → (xs : List A) → map f (map bare xs) ≡ map f xs
mapped-bare bare f e [] = refl
mapped-bare bare f e (x ∷ xs) = ap (λ l. l ∷ map f (map bare xs)) (e x) ∙ ap (λ ls. f x ∷ ls) (mapped-bare bare f e xs)

names-bare : (xs : List Name) → names_parts (map bare_name xs) ≡ names_parts xs
names-bare xs = separated-bare bare_name (word terminal.Comma) (λ n. name_part n ∷ []) (λ n. refl) xs

class_names-bare : (xs : List Name) → class_names_parts (map bare_name xs) ≡ class_names_parts xs
class_names-bare xs = separated-bare bare_name (word terminal.Comma) (λ n. class_name_part n ∷ []) (λ n. refl) xs

-- ---- types and expressions

handler_tag-bare : (g : HandlerTag) → handler_tag_parts (bare_handler_tag g) ≡ handler_tag_parts g
handler_tag-bare Own = refl
handler_tag-bare Separate = refl
handler_tag-bare (HandlerOf n) = refl

type-bare : (t : DeclaredType) → type_parts (bare_type t) ≡ type_parts t
unfolding type_parts
type-bare t = ap (λ ps. attachment_parts t.is_detachable ++ (ps ++ class_name_part t.class ∷ [])) (handler_tag-bare t.tag)

tested_type-bare : (t : Option DeclaredType) → tested_type_parts (bare_type_if_any t) ≡ tested_type_parts t
tested_type-bare None = refl
tested_type-bare (Some t) = ap (λ ps. word terminal.OpenBrace ∷ (ps ++ word terminal.CloseBrace ∷ [])) (type-bare t)

class-bare : (e : Expr) → class_of_expr (bare_expr e) ≡ class_of_expr e
unfolding bare_expr
class-bare (Integer s n) = refl
class-bare (Boolean s b) = refl
class-bare (Void s) = refl
class-bare (Current s) = refl
class-bare (plain.Result s) = refl
class-bare (Call s t n es) = refl
class-bare (Unary s op a) = refl
class-bare (Binary s op a b) = refl
class-bare (ObjectTest s t a n) = refl

operand-bare : (e : Expr) (k : ℕ) → expr_parts (bare_expr e) ≡ expr_parts e →
    in_class (class_of_expr (bare_expr e)) k (expr_parts (bare_expr e)) ≡ in_class (class_of_expr e) k (expr_parts e)
operand-bare e k p = ap (λ c. in_class c k (expr_parts (bare_expr e))) (class-bare e) ∙ ap (λ ps. in_class (class_of_expr e) k ps) p

mutual
  unfolding expr_parts bare_expr

  expr-bare : (e : Expr) → expr_parts (bare_expr e) ≡ expr_parts e
  expr-bare (Integer s n) = refl
  expr-bare (Boolean s b) = refl
  expr-bare (Void s) = refl
  expr-bare (Current s) = refl
  expr-bare (plain.Result s) = refl
  expr-bare (Call s t n es) = target-bare t (name_part n ∷ actuals_parts (bare_exprs es)) ∙ ap (λ ps. behind_target t (name_part n ∷ ps)) (actuals-bare es)
  expr-bare (Unary s op a) = ap (λ ps. word (prefix_of op) ∷ ps) (operand-bare a 0 (expr-bare a))
  expr-bare (Binary s op a b) =
      ap (λ ps. ps ++ (map word (terminals_of op) ++ in_class (class_of_expr (bare_expr b)) (class_below op) (expr_parts (bare_expr b)))) (operand-bare a (left_class op) (expr-bare a))
      ∙ ap (λ ps. in_class (class_of_expr a) (left_class op) (expr_parts a) ++ (map word (terminals_of op) ++ ps)) (operand-bare b (class_below op) (expr-bare b))
  expr-bare (ObjectTest s t a n) =
      ap (λ ps. word terminal.Attached ∷ (ps ++ (expr_parts (bare_expr a) ++ word terminal.As ∷ name_part n ∷ []))) (tested_type-bare t)
      ∙ ap (λ ps. word terminal.Attached ∷ (tested_type_parts t ++ (ps ++ word terminal.As ∷ name_part n ∷ []))) (expr-bare a)

  target-bare : (t : Target) (ps : List Part) → behind_target (bare_target t) ps ≡ behind_target t ps
  target-bare no_target ps = refl
  target-bare (target a) ps = ap (λ qs. qs ++ word terminal.Dot ∷ ps) (expr-bare a)

  actuals-bare : (es : Exprs) → actuals_parts (bare_exprs es) ≡ actuals_parts es
  actuals-bare no_exprs = refl
  actuals-bare (expr_then e es) =
      ap (λ ps. word terminal.OpenParenthesis ∷ (ps ++ (more_actuals_parts (bare_exprs es) ++ word terminal.CloseParenthesis ∷ []))) (expr-bare e)
      ∙ ap (λ ps. word terminal.OpenParenthesis ∷ (expr_parts e ++ (ps ++ word terminal.CloseParenthesis ∷ []))) (more_actuals-bare es)

  more_actuals-bare : (es : Exprs) → more_actuals_parts (bare_exprs es) ≡ more_actuals_parts es
  more_actuals-bare no_exprs = refl
  more_actuals-bare (expr_then e es) =
      ap (λ ps. word terminal.Comma ∷ (ps ++ more_actuals_parts (bare_exprs es))) (expr-bare e)
      ∙ ap (λ ps. word terminal.Comma ∷ (expr_parts e ++ ps)) (more_actuals-bare es)

call-bare : (t : Target) (n : Name) (es : Exprs) → call_parts (bare_target t) (bare_name n) (bare_exprs es) ≡ call_parts t n es
unfolding expr_parts bare_expr
call-bare t n es = target-bare t (name_part n ∷ actuals_parts (bare_exprs es)) ∙ ap (λ ps. behind_target t (name_part n ∷ ps)) (actuals-bare es)

-- ---- clauses and instructions

tag-bare : (o : Option Name) → tag_parts (bare_tag o) ≡ tag_parts o
tag-bare None = refl
tag-bare (Some n) = refl

clause-bare : (n : ℕ) (x : Clause) (is_last : Bool) → clause_line n (bare_clause x) is_last ≡ clause_line n x is_last
unfolding clause_line
clause-bare n x is_last =
    ap (λ ps. line n (ps ++ (expr_parts (bare_expr x.condition) ++ ending is_last))) (tag-bare x.tag)
    ∙ ap (λ ps. line n (tag_parts x.tag ++ (ps ++ ending is_last))) (expr-bare x.condition)

empty-bare : (xs : List Clause) → is_empty (map bare_clause xs) ≡ is_empty xs
empty-bare [] = refl
empty-bare (x ∷ xs) = refl

clauses-bare : (n : ℕ) (xs : List Clause) → clauses_lines n (map bare_clause xs) ≡ clauses_lines n xs
clauses-bare n [] = refl
clauses-bare n (x ∷ xs) =
    ap (λ b. clause_line n (bare_clause x) b ∷ clauses_lines n (map bare_clause xs)) (empty-bare xs)
    ∙ ap (λ l. l ∷ clauses_lines n (map bare_clause xs)) (clause-bare n x (is_empty xs)) ∙ ap (λ ls. clause_line n x (is_empty xs) ∷ ls) (clauses-bare n xs)

assertion-bare : (n : ℕ) (m : Terminal) (xs : List Clause) → assertion_lines n m (map bare_clause xs) ≡ assertion_lines n m xs
assertion-bare n m [] = refl
assertion-bare n m (x ∷ xs) = ap (λ ls. line n (word m ∷ []) ∷ ls) (clauses-bare (n + 1) (x ∷ xs))

variable-bare : (v : Variable) → variable_part (bare_variable v) ≡ variable_part v
variable-bare (Named n) = refl
variable-bare (ResultVariable s) = refl

creation_call-bare : (c : Option CreationCall) → creation_call_parts (bare_creation_call c) ≡ creation_call_parts c
creation_call-bare None = refl
creation_call-bare (Some c) = ap (λ ps. word terminal.Dot ∷ name_part c.name ∷ ps) (actuals-bare c.actuals)

head-bare : (x : Head) → head_parts (bare_head x) ≡ head_parts x
unfolding head_parts
head-bare x = ap (λ ps. ps ++ word terminal.As ∷ name_part x.name ∷ []) (expr-bare x.value)

heads-bare : (xs : List Head) → heads_parts (map bare_head xs) ≡ heads_parts xs
heads-bare xs = separated-bare bare_head (word terminal.Comma) head_parts head-bare xs

guard-bare : (n : ℕ) (m : Terminal) (e : Expr) → guard_line n m (bare_expr e) ≡ guard_line n m e
guard-bare n m e = ap (λ ps. line n (word m ∷ (ps ++ word terminal.Then ∷ []))) (expr-bare e)

else-bare : (n : ℕ) (is : Instrs) → else_lines n (bare_instrs is) ≡ else_lines n is
unfolding bare_instr
else-bare n no_instrs = refl
else-bare n (instr_then i is) = refl

mutual
  unfolding instr_lines bare_instr

  instr-bare : (n : ℕ) (i : Instr) → instr_lines n (bare_instr i) ≡ instr_lines n i
  instr-bare n (Assign s v e) =
      ap (λ p. line n (p ∷ word terminal.Becomes ∷ expr_parts (bare_expr e)) ∷ []) (variable-bare v)
      ∙ ap (λ ps. line n (variable_part v ∷ word terminal.Becomes ∷ ps) ∷ []) (expr-bare e)
  instr-bare n (PrintText s t) = refl
  instr-bare n (CallRoutine s t x es) = ap (λ ps. line n ps ∷ []) (call-bare t x es)
  instr-bare n (Create s c) =
      ap (λ p. line n (word terminal.Create ∷ p ∷ creation_call_parts (bare_creation_call c.call)) ∷ []) (variable-bare c.variable)
      ∙ ap (λ ps. line n (word terminal.Create ∷ variable_part c.variable ∷ ps) ∷ []) (creation_call-bare c.call)
  instr-bare n (If s e body bs other) =
      let end = line n (word terminal.End ∷ []) ∷ [] in
      let guard = guard_line n terminal.If e in
      ap (λ l. l ∷ (instrs_lines (n + 1) (bare_instrs body) ++ (branches_lines n (bare_branches bs) ++ (else_lines n (bare_instrs other) ++ (instrs_lines (n + 1) (bare_instrs other) ++ end))))) (guard-bare n terminal.If e)
      ∙ ap (λ ls. guard ∷ (ls ++ (branches_lines n (bare_branches bs) ++ (else_lines n (bare_instrs other) ++ (instrs_lines (n + 1) (bare_instrs other) ++ end))))) (instrs-bare (n + 1) body)
      ∙ ap (λ ls. guard ∷ (instrs_lines (n + 1) body ++ (ls ++ (else_lines n (bare_instrs other) ++ (instrs_lines (n + 1) (bare_instrs other) ++ end))))) (branches-bare n bs)
      ∙ ap (λ ls. guard ∷ (instrs_lines (n + 1) body ++ (branches_lines n bs ++ (ls ++ (instrs_lines (n + 1) (bare_instrs other) ++ end))))) (else-bare n other)
      ∙ ap (λ ls. guard ∷ (instrs_lines (n + 1) body ++ (branches_lines n bs ++ (else_lines n other ++ (ls ++ end))))) (instrs-bare (n + 1) other)
  instr-bare n (Loop s initial e body) =
      let from = line n (word terminal.From ∷ []) in
      let until = line n (word terminal.Until ∷ []) in
      let turn = line n (word terminal.Loop ∷ []) in
      let end = line n (word terminal.End ∷ []) ∷ [] in
      ap (λ ls. from ∷ (ls ++ until ∷ line (n + 1) (expr_parts (bare_expr e)) ∷ turn ∷ (instrs_lines (n + 1) (bare_instrs body) ++ end))) (instrs-bare (n + 1) initial)
      ∙ ap (λ ps. from ∷ (instrs_lines (n + 1) initial ++ until ∷ line (n + 1) ps ∷ turn ∷ (instrs_lines (n + 1) (bare_instrs body) ++ end))) (expr-bare e)
      ∙ ap (λ ls. from ∷ (instrs_lines (n + 1) initial ++ until ∷ line (n + 1) (expr_parts e) ∷ turn ∷ (ls ++ end))) (instrs-bare (n + 1) body)
  instr-bare n (Check s xs) = ap (λ ls. line n (word terminal.Check ∷ []) ∷ (ls ++ line n (word terminal.End ∷ []) ∷ [])) (clauses-bare (n + 1) xs)
  instr-bare n (Block s xs body) =
      ap (λ ps. line n (word terminal.Separate ∷ (ps ++ word terminal.Do ∷ [])) ∷ (instrs_lines (n + 1) (bare_instrs body) ++ line n (word terminal.End ∷ []) ∷ [])) (heads-bare xs)
      ∙ ap (λ ls. reservation_line n xs ∷ (ls ++ line n (word terminal.End ∷ []) ∷ [])) (instrs-bare (n + 1) body)

  instrs-bare : (n : ℕ) (is : Instrs) → instrs_lines n (bare_instrs is) ≡ instrs_lines n is
  instrs-bare n no_instrs = refl
  instrs-bare n (instr_then i is) = ap (λ ls. ls ++ instrs_lines n (bare_instrs is)) (instr-bare n i) ∙ ap (λ ls. instr_lines n i ++ ls) (instrs-bare n is)

  branches-bare : (n : ℕ) (bs : Branches) → branches_lines n (bare_branches bs) ≡ branches_lines n bs
  branches-bare n no_branches = refl
  branches-bare n (branch_then e body bs) =
      ap (λ l. l ∷ (instrs_lines (n + 1) (bare_instrs body) ++ branches_lines n (bare_branches bs))) (guard-bare n terminal.Elseif e)
      ∙ ap (λ ls. guard_line n terminal.Elseif e ∷ (ls ++ branches_lines n (bare_branches bs))) (instrs-bare (n + 1) body)
      ∙ ap (λ ls. guard_line n terminal.Elseif e ∷ (instrs_lines (n + 1) body ++ ls)) (branches-bare n bs)

-- ---- features

declaration-bare : (d : Declaration) → declaration_parts (bare_declaration d) ≡ declaration_parts d
unfolding declaration_parts
declaration-bare d = ap (λ ps. name_part d.name ∷ word terminal.Colon ∷ ps) (type-bare d.declared_type)

formals-bare : (ds : List Declaration) → formals_parts (map bare_declaration ds) ≡ formals_parts ds
formals-bare [] = refl
formals-bare (d ∷ ds) =
    ap (λ ps. word terminal.OpenParenthesis ∷ (ps ++ word terminal.CloseParenthesis ∷ [])) (separated-bare bare_declaration (word terminal.Semicolon) declaration_parts declaration-bare (d ∷ ds))

result_type-bare : (t : Option DeclaredType) → result_type_parts (bare_type_if_any t) ≡ result_type_parts t
result_type-bare None = refl
result_type-bare (Some t) = ap (λ ps. word terminal.Colon ∷ ps) (type-bare t)

locals-bare : (ds : List Declaration) → locals_lines (map bare_declaration ds) ≡ locals_lines ds
locals-bare [] = refl
locals-bare (d ∷ ds) =
    ap (λ ls. line 2 (word terminal.Local ∷ []) ∷ ls) (mapped-bare bare_declaration local_line (λ x. ap (λ ps. line 3 ps) (declaration-bare x)) (d ∷ ds))

routine-bare : (x : Name) (r : RoutineDeclaration) → routine_lines (bare_name x) (bare_routine r) ≡ routine_lines x r
routine-bare x r =
    let begin = line 2 (word terminal.Do ∷ []) in
    let end = line 2 (word terminal.End ∷ []) ∷ [] in
    let rest : (ls ms ns os : List Line) → List Line = λ ls ms ns os. ls ++ (ms ++ begin ∷ (ns ++ (os ++ end))) in
    let body_lines = instrs_lines 3 (bare_instrs r.body) in
    let pre_lines = assertion_lines 2 terminal.Require (map bare_clause r.precondition) in
    let post_lines = assertion_lines 2 terminal.Ensure (map bare_clause r.postcondition) in
    let local_lines = locals_lines (map bare_declaration r.locals) in
    ap (λ ps. line 1 (name_part x ∷ (ps ++ result_type_parts (bare_type_if_any r.result_type))) ∷ rest pre_lines local_lines body_lines post_lines) (formals-bare r.formals)
    ∙ ap (λ ps. line 1 (name_part x ∷ (formals_parts r.formals ++ ps)) ∷ rest pre_lines local_lines body_lines post_lines) (result_type-bare r.result_type)
    ∙ ap (λ ls. signature_line x r ∷ rest ls local_lines body_lines post_lines) (assertion-bare 2 terminal.Require r.precondition)
    ∙ ap (λ ls. signature_line x r ∷ rest (assertion_lines 2 terminal.Require r.precondition) ls body_lines post_lines) (locals-bare r.locals)
    ∙ ap (λ ls. signature_line x r ∷ rest (assertion_lines 2 terminal.Require r.precondition) (locals_lines r.locals) ls post_lines) (instrs-bare 3 r.body)
    ∙ ap (λ ls. signature_line x r ∷ rest (assertion_lines 2 terminal.Require r.precondition) (locals_lines r.locals) (instrs_lines 3 r.body) ls) (assertion-bare 2 terminal.Ensure r.postcondition)

kind-bare : (x : Name) (k : FeatureKind) → kind_lines (bare_name x) (bare_kind k) ≡ kind_lines x k
kind-bare x (Attribute t) = ap (λ ps. line 1 (name_part x ∷ word terminal.Colon ∷ ps) ∷ []) (type-bare t)
kind-bare x (Routine r) = routine-bare x r

feature-bare : (f : Feature) → feature_lines (bare_feature f) ≡ feature_lines f
unfolding feature_lines
feature-bare f = kind-bare f.name f.kind

same_names-bare : (xs ys : List Name) → same_names (map bare_name xs) (map bare_name ys) ≡ same_names xs ys
same_names-bare [] [] = refl
same_names-bare [] (y ∷ ys) = refl
same_names-bare (x ∷ xs) [] = refl
same_names-bare (x ∷ xs) (y ∷ ys) = ap (λ b. bytes_eq x.text y.text && b) (same_names-bare xs ys)

exports-bare : (xs : List Name) → exports_parts (map bare_name xs) ≡ exports_parts xs
exports-bare [] = refl
exports-bare (x ∷ xs) = ap (λ ps. word terminal.OpenBrace ∷ (ps ++ word terminal.CloseBrace ∷ [])) (class_names-bare (x ∷ xs))

section-bare : (xs : List Name) → section_line (map bare_name xs) ≡ section_line xs
unfolding section_line
section-bare xs = ap (λ ps. line 0 (word terminal.Feature ∷ ps)) (exports-bare xs)

further_feature-bare : (es : List Name) (f : Feature) → further_feature_lines (map bare_name es) (bare_feature f) ≡ further_feature_lines es f
further_feature-bare es f =
    ap (λ b. if b then feature_lines (bare_feature f) else section_line (map bare_name f.exports) ∷ feature_lines (bare_feature f)) (same_names-bare es f.exports)
    ∙ ap (λ l. if same_names es f.exports then feature_lines (bare_feature f) else l ∷ feature_lines (bare_feature f)) (section-bare f.exports)
    ∙ ap (λ ls. if same_names es f.exports then ls else section_line f.exports ∷ ls) (feature-bare f)

further_features-bare : (es : List Name) (fs : List Feature) → further_features_lines (map bare_name es) (map bare_feature fs) ≡ further_features_lines es fs
further_features-bare es [] = refl
further_features-bare es (f ∷ fs) =
    ap (λ ls. ls ++ further_features_lines (map bare_name f.exports) (map bare_feature fs)) (further_feature-bare es f)
    ∙ ap (λ ls. further_feature_lines es f ++ ls) (further_features-bare f.exports fs)

sections-bare : (fs : List Feature) → sections_lines (map bare_feature fs) ≡ sections_lines fs
sections-bare [] = refl
sections-bare (f ∷ fs) =
    ap (λ l. l ∷ (feature_lines (bare_feature f) ++ further_features_lines (map bare_name f.exports) (map bare_feature fs))) (section-bare f.exports)
    ∙ ap (λ ls. section_line f.exports ∷ (ls ++ further_features_lines (map bare_name f.exports) (map bare_feature fs))) (feature-bare f)
    ∙ ap (λ ls. section_line f.exports ∷ (feature_lines f ++ ls)) (further_features-bare f.exports fs)

-- ---- classes

mark-bare : (m : Option ClassMark) → mark_parts (bare_mark m) ≡ mark_parts m
mark-bare None = refl
mark-bare (Some (Deferred s)) = refl
mark-bare (Some (Expanded s)) = refl
mark-bare (Some (Frozen s)) = refl

redefined-bare : (ns : List Name) → redefined_parts (map bare_name ns) ≡ redefined_parts ns
redefined-bare [] = refl
redefined-bare (n ∷ ns) = ap (λ ps. word terminal.Redefine ∷ (ps ++ word terminal.End ∷ [])) (names-bare (n ∷ ns))

parent-bare : (p : Parent) → parent_line (bare_parent p) ≡ parent_line p
unfolding parent_line
parent-bare p = ap (λ ps. line 1 (class_name_part p.name ∷ ps)) (redefined-bare p.redefined)

parents-bare : (ps : List Parent) → parents_lines (map bare_parent ps) ≡ parents_lines ps
parents-bare [] = refl
parents-bare (p ∷ ps) = ap (λ ls. line 0 (word terminal.Inherit ∷ []) ∷ ls) (mapped-bare bare_parent parent_line parent-bare (p ∷ ps))

creators-bare : (ns : List Name) → creators_lines (map bare_name ns) ≡ creators_lines ns
creators-bare [] = refl
creators-bare (n ∷ ns) = ap (λ ps. line 0 (word terminal.Create ∷ []) ∷ line 1 ps ∷ []) (names-bare (n ∷ ns))

class-lines-bare : (c : Class) → class_lines (bare_class c) ≡ class_lines c
unfolding class_lines
class-lines-bare c =
    let end = line 0 (word terminal.End ∷ []) ∷ [] in
    let heading = heading_line c.mark c.name in
    let features = sections_lines (map bare_feature c.features) in
    let clauses = assertion_lines 0 terminal.Invariant (map bare_clause c.invariant) in
    ap (λ ps. line 0 (ps ++ word terminal.Class ∷ class_name_part c.name ∷ []) ∷ (parents_lines (map bare_parent c.parents) ++ (creators_lines (map bare_name c.creators) ++ (features ++ (clauses ++ end))))) (mark-bare c.mark)
    ∙ ap (λ ls. heading ∷ (ls ++ (creators_lines (map bare_name c.creators) ++ (features ++ (clauses ++ end))))) (parents-bare c.parents)
    ∙ ap (λ ls. heading ∷ (parents_lines c.parents ++ (ls ++ (features ++ (clauses ++ end))))) (creators-bare c.creators)
    ∙ ap (λ ls. heading ∷ (parents_lines c.parents ++ (creators_lines c.creators ++ (ls ++ (clauses ++ end))))) (sections-bare c.features)
    ∙ ap (λ ls. heading ∷ (parents_lines c.parents ++ (creators_lines c.creators ++ (sections_lines c.features ++ (ls ++ end))))) (assertion-bare 0 terminal.Invariant c.invariant)

further_classes-bare : (cs : List Class) → further_classes_lines (map bare_class cs) ≡ further_classes_lines cs
further_classes-bare [] = refl
further_classes-bare (c ∷ cs) =
    ap (λ ls. line 0 [] ∷ (ls ++ further_classes_lines (map bare_class cs))) (class-lines-bare c)
    ∙ ap (λ ls. line 0 [] ∷ (class_lines c ++ ls)) (further_classes-bare cs)

pub classes-bare : (cs : List Class) → classes_lines (map bare_class cs) ≡ classes_lines cs
classes-bare [] = refl
classes-bare (c ∷ cs) =
    ap (λ ls. ls ++ further_classes_lines (map bare_class cs)) (class-lines-bare c) ∙ ap (λ ls. class_lines c ++ ls) (further_classes-bare cs)
