-- Where names clash in a class, as functions over the plain tree: the places of the faults. `fs` are the names of
-- the class's features, and `ns` those of the formals, locals, object tests and blocks that are known.
use Rattle.std.specs.Prelude.{◌≡◌, ◌≤◌, ℕ, Bool, List, [], ◌∷◌, ◌++◌, ◌&&◌, Option, Some, None, bytes_eq, filter, map, nat_lt, if◌then◌else◌}
use Rattle.sc_text.specs.declared.token.Span.{Span}
use Rattle.sc_tree.specs.Plain.{System, Class, Feature, FeatureKind, Attribute, Routine, Clause, Head, Name, CreationCall, Expr, Integer, Boolean, Void, Current, Result, Call, Unary, Binary, ObjectTest, Target, no_target, target, Exprs, no_exprs, expr_then, Instr, Assign, PrintText, CallRoutine, Create, If, Loop, Check, Block, Instrs, no_instrs, instr_then, Branches, no_branches, branch_then}
use Rattle.sc_tree.specs.Properties.{is_print, is_and_then}
use Rattle.sc_class.specs.declared.faults.scopes.features.Part.{Part}
use Rattle.sc_class.specs.declared.faults.scopes.features.Part.TheVariants.{All, Inherited}
use Rattle.sc_class.specs.Tables.Features.{redefined_names, not_redefined, inherited_features, features}
use Rattle.sc_class.specs.Faults.Scopes.{tests_of, head_names, entity_names, feature_names}
use Rattle.sc_class.specs.Internal.NameIndex.{place_among}

-- the names of these features of the class at a number
abbrev pub names_of_part : Part → System → ℕ → List Name
names_of_part All s k = feature_names (features s k)
names_of_part Inherited s k = feature_names (not_redefined (redefined_names s k) (inherited_features s k))

-- the first name is like the second one and stands after it in the text
abbrev pub is_later_like : Name → Name → Bool
is_later_like m n = bytes_eq m.text n.text && nat_lt n.span.start m.span.start

-- the places of those of the names
abbrev pub later_places : List Name → Name → List Span
later_places names n = map (λ m. m.span) (filter (λ m. is_later_like m n) names)

-- No name is like one that begins here or later, and stands after it.
abbrev pub NoneLater : ℕ → List Name → Type 0
NoneLater latest names = (n : Name) → latest ≤ n.span.start → later_places names n ≡ []

-- this name's place, but for one before the first that is like it
abbrev pub own_place : Span → Name → List Span
own_place first n = if nat_lt n.span.start first.start then [] else n.span ∷ []

-- the later one of this name's place and that of each that is like it; the first of those stands here, if there is one
abbrev pub like_places_from : Option Span → List Name → Name → List Span
like_places_from None names n = []
like_places_from (Some p) names n = own_place p n ++ later_places names n

abbrev pub like_places : List Name → Name → List Span
like_places names n = like_places_from (place_among n.text names) names n

abbrev pub print_place : Name → List Span
print_place n = if is_print n.text then n.span ∷ [] else []

-- where a name clashes with a known one
unfoldable pub name_clash : List Name → List Name → Name → List Span
name_clash fs ns n = print_place n ++ (like_places fs n ++ like_places ns n)

-- where one of these does; each is in scope after itself
unfoldable pub names_clash : List Name → List Name → List Name → List Span
names_clash fs ns [] = []
names_clash fs ns (m ∷ ms) = name_clash fs ns m ++ names_clash fs (ns ++ m ∷ []) ms

unfoldable mutual
  -- where the name of an object test in an expression does
  pub expr_clash : List Name → List Name → Expr → List Span
  expr_clash fs ns (Integer s i) = []
  expr_clash fs ns (Boolean s b) = []
  expr_clash fs ns (Void s) = []
  expr_clash fs ns (Current s) = []
  expr_clash fs ns (Result s) = []
  expr_clash fs ns (Call s t n es) = target_clash fs ns t ++ exprs_clash fs ns es
  expr_clash fs ns (Unary s op a) = expr_clash fs ns a
  expr_clash fs ns (Binary s op a b) = expr_clash fs ns a ++ expr_clash fs ns b
  expr_clash fs ns (ObjectTest s t e n) = expr_clash fs ns e ++ name_clash fs ns n

  pub target_clash : List Name → List Name → Target → List Span
  target_clash fs ns no_target = []
  target_clash fs ns (target e) = expr_clash fs ns e

  pub exprs_clash : List Name → List Name → Exprs → List Span
  exprs_clash fs ns no_exprs = []
  exprs_clash fs ns (expr_then e es) = expr_clash fs ns e ++ exprs_clash fs ns es

-- in the condition of an `if`
unfoldable pub condition_clash : List Name → List Name → Expr → List Span
condition_clash fs ns (Binary s op a b) =
    if is_and_then op then condition_clash fs ns a ++ condition_clash fs (ns ++ tests_of a) b
    else expr_clash fs ns (Binary s op a b)
condition_clash fs ns (ObjectTest s t e n) = expr_clash fs ns e ++ name_clash fs ns n
condition_clash fs ns (Integer s i) = expr_clash fs ns (Integer s i)
condition_clash fs ns (Boolean s b) = expr_clash fs ns (Boolean s b)
condition_clash fs ns (Void s) = expr_clash fs ns (Void s)
condition_clash fs ns (Current s) = expr_clash fs ns (Current s)
condition_clash fs ns (Result s) = expr_clash fs ns (Result s)
condition_clash fs ns (Call s t n es) = expr_clash fs ns (Call s t n es)
condition_clash fs ns (Unary s op a) = expr_clash fs ns (Unary s op a)

unfoldable pub clauses_clash : List Name → List Name → List Clause → List Span
clauses_clash fs ns [] = []
clauses_clash fs ns (k ∷ ks) = expr_clash fs ns k.condition ++ clauses_clash fs ns ks

-- in what the heads of a block reserve
unfoldable pub values_clash : List Name → List Name → List Head → List Span
values_clash fs ns [] = []
values_clash fs ns (h ∷ hs) = expr_clash fs ns h.value ++ values_clash fs ns hs

abbrev pub creation_clash : List Name → List Name → Option CreationCall → List Span
creation_clash fs ns None = []
creation_clash fs ns (Some c) = exprs_clash fs ns c.actuals

unfoldable mutual
  pub instr_clash : List Name → List Name → Instr → List Span
  instr_clash fs ns (Assign s v e) = expr_clash fs ns e
  instr_clash fs ns (PrintText s t) = []
  instr_clash fs ns (CallRoutine s t n es) = target_clash fs ns t ++ exprs_clash fs ns es
  instr_clash fs ns (Create s c) = creation_clash fs ns c.call
  instr_clash fs ns (If s e body branches other) =
      (condition_clash fs ns e ++ instrs_clash fs (ns ++ tests_of e) body) ++ (branches_clash fs ns branches ++ instrs_clash fs ns other)
  instr_clash fs ns (Loop s initial e body) =
      instrs_clash fs ns initial ++ (expr_clash fs ns e ++ instrs_clash fs ns body)
  instr_clash fs ns (Check s clauses) = clauses_clash fs ns clauses
  instr_clash fs ns (Block s heads body) =
      values_clash fs ns heads ++ (names_clash fs ns (head_names heads) ++ instrs_clash fs (ns ++ head_names heads) body)

  pub instrs_clash : List Name → List Name → Instrs → List Span
  instrs_clash fs ns no_instrs = []
  instrs_clash fs ns (instr_then i is) = instr_clash fs ns i ++ instrs_clash fs ns is

  pub branches_clash : List Name → List Name → Branches → List Span
  branches_clash fs ns no_branches = []
  branches_clash fs ns (branch_then e body bs) =
      (condition_clash fs ns e ++ instrs_clash fs (ns ++ tests_of e) body) ++ branches_clash fs ns bs

-- in a routine, in the order in which its names come into scope
unfoldable pub kind_clash : List Name → FeatureKind → List Span
kind_clash fs (Attribute t) = []
kind_clash fs (Routine r) =
    let formals = entity_names r.formals in
    let locals = entity_names r.locals in
    names_clash fs [] formals ++ (clauses_clash fs formals r.precondition ++ (clauses_clash fs formals r.postcondition
    ++ (names_clash fs formals locals ++ instrs_clash fs (formals ++ locals) r.body)))

unfoldable pub kinds_clash : List Name → List Feature → List Span
kinds_clash fs [] = []
kinds_clash fs (f ∷ more) = kind_clash fs f.kind ++ kinds_clash fs more

-- in the routines of a class and in its invariant
abbrev pub texts_clash : List Name → Class → List Span
texts_clash fs c = kinds_clash fs c.features ++ clauses_clash fs [] c.invariant

-- in the class at a number
abbrev pub class_clash : System → ℕ → Class → List Span
class_clash s k c =
    names_clash (names_of_part Inherited s k) [] (map (λ f. f.name) c.features)
    ++ texts_clash (names_of_part All s k) c
