-- What stands in a text, in its order, as far as a warning asks for it.
use Rattle.std.specs.Prelude.{ℕ, ◌+◌, Bool, true, false, not, ◌&&◌, nat_eq, List, [], ◌∷◌, ◌++◌, Option, Some, None, bytes_eq, flat_map, map}
use Rattle.std.specs.List.{list_any}
use Rattle.sc_tree.specs.Plain.{Name, Expr, Call, Unary, Binary, ObjectTest, Target, no_target, target, Exprs, no_exprs, expr_then, Variable, Named, ResultVariable, CreationCall, Clause, Head, Instr, Assign, PrintText, CallRoutine, Create, If, Loop, Check, Block, Instrs, no_instrs, instr_then, Branches, no_branches, branch_then}

pub data Site : Type 0 where
  -- a name without a target, in an expression or as what is created
  used : List ℕ → Site
  -- a name that is the target of a call
  asked : List ℕ → Site
  -- an actual: the name of the feature that is called, how many actuals are before it, and whether it is a name whose
  -- handler is reserved there
  passed : List ℕ → ℕ → Bool → Site
  -- the condition of an `if` or an `elseif`
  condition : Expr → Site
  -- the condition that ends a loop
  until : Expr → Site
  -- a clause of a `check`
  checked : Expr → Site

-- the names whose handlers are reserved
abbrev pub Names : Type 0
Names = List (List ℕ)

-- the name that the expression is, if it is nothing else
abbrev pub plain_name : Expr → Option (List ℕ)
plain_name (Call s no_target x no_exprs) = Some x.text
plain_name e = None

abbrev pub is_among_if_any : Names → Option (List ℕ) → Bool
is_among_if_any names None = false
is_among_if_any names (Some x) = list_any (bytes_eq x) names

abbrev pub is_reserved : Names → Expr → Bool
is_reserved names e = is_among_if_any names (plain_name e)

abbrev pub asked_if_any : Option (List ℕ) → List Site
asked_if_any None = []
asked_if_any (Some x) = asked x ∷ []

-- the actuals of a call of this feature; so many are before the first
abbrev pub sites_of_passing : Names → List ℕ → ℕ → Exprs → List Site
sites_of_passing names f i no_exprs = []
sites_of_passing names f i (expr_then e es) = passed f i (is_reserved names e) ∷ sites_of_passing names f (i + 1) es

unfoldable mutual
  pub sites_of : Names → Expr → List Site
  sites_of names (Call s t x es) =
      sites_of_target names t x ++ (sites_of_passing names x.text 0 es ++ sites_of_each names es)
  sites_of names (Unary s op a) = sites_of names a
  sites_of names (Binary s op a b) = sites_of names a ++ sites_of names b
  sites_of names (ObjectTest s t a x) = sites_of names a
  sites_of names e = []

  pub sites_of_target : Names → Target → Name → List Site
  sites_of_target names no_target x = used x.text ∷ []
  sites_of_target names (target a) x = asked_if_any (plain_name a) ++ sites_of names a

  pub sites_of_each : Names → Exprs → List Site
  sites_of_each names no_exprs = []
  sites_of_each names (expr_then e es) = sites_of names e ++ sites_of_each names es

abbrev pub sites_of_call : Names → Target → Name → Exprs → List Site
sites_of_call names t x es =
    sites_of_target names t x ++ (sites_of_passing names x.text 0 es ++ sites_of_each names es)

-- An object is created for what its creation does, too, so what is created counts as used.
abbrev pub sites_of_variable : Variable → List Site
sites_of_variable (Named x) = used x.text ∷ []
sites_of_variable (ResultVariable s) = []

abbrev pub sites_of_creation : Names → Option CreationCall → List Site
sites_of_creation names None = []
sites_of_creation names (Some c) = sites_of_passing names c.name.text 0 c.actuals ++ sites_of_each names c.actuals

abbrev pub sites_of_clause : Names → Clause → List Site
sites_of_clause names k = checked k.condition ∷ sites_of names k.condition

abbrev pub sites_of_head : Names → Head → List Site
sites_of_head names h = sites_of names h.value

-- in the body of a block these are reserved, too
abbrev pub names_of_heads : List Head → Names
names_of_heads = map (λ (h : Head). h.name.text)

unfoldable mutual
  pub sites_of_instr : Names → Instr → List Site
  sites_of_instr names (Assign s v e) = sites_of names e
  sites_of_instr names (PrintText s t) = []
  sites_of_instr names (CallRoutine s t x es) = sites_of_call names t x es
  sites_of_instr names (Create s c) = sites_of_variable c.variable ++ sites_of_creation names c.call
  sites_of_instr names (If s e body bs other) =
      ((condition e ∷ sites_of names e) ++ sites_of_instrs names body)
      ++ (sites_of_branches names bs ++ sites_of_instrs names other)
  sites_of_instr names (Loop s initial e body) =
      sites_of_instrs names initial ++ ((until e ∷ sites_of names e) ++ sites_of_instrs names body)
  sites_of_instr names (Check s ks) = flat_map (sites_of_clause names) ks
  sites_of_instr names (Block s hs body) =
      flat_map (sites_of_head names) hs ++ sites_of_instrs (names ++ names_of_heads hs) body

  pub sites_of_instrs : Names → Instrs → List Site
  sites_of_instrs names no_instrs = []
  sites_of_instrs names (instr_then i is) = sites_of_instr names i ++ sites_of_instrs names is

  pub sites_of_branches : Names → Branches → List Site
  sites_of_branches names no_branches = []
  sites_of_branches names (branch_then e body bs) =
      ((condition e ∷ sites_of names e) ++ sites_of_instrs names body) ++ sites_of_branches names bs

abbrev pub sites_of_branch : Names → Expr → Instrs → List Site
sites_of_branch names e body = (condition e ∷ sites_of names e) ++ sites_of_instrs names body

abbrev pub sites_of_block : Names → List Head → Instrs → List Site
sites_of_block names hs body = flat_map (sites_of_head names) hs ++ sites_of_instrs (names ++ names_of_heads hs) body

-- ---- what is looked for

abbrev pub same_truth : Bool → Bool → Bool
same_truth true b = b
same_truth false b = not b

-- the name, or an actual of the same number in a call of a feature of the same name, reserved or not as well
abbrev pub is_same : Site → Site → Bool
is_same (used x) (used y) = bytes_eq x y
is_same (asked x) (asked y) = bytes_eq x y
is_same (passed f i b) (passed g j c) = bytes_eq f g && (nat_eq i j && same_truth b c)
is_same s t = false

abbrev pub has : Site → List Site → Bool
has s sites = list_any (is_same s) sites
