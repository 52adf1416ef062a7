-- Names, operators and operands of `old` in flat code, with their types.
use Rattle.std.proofs.Common.{◌≡◌, ℕ, zero, suc, ◌+◌, Bool, true, false, List, [], ◌∷◌, ◌++◌, length, Option, Some, None, refl, sym, ap, ◌∙◌, subst, arith}
use Rattle.std.specs.Prelude.{◌&&◌, not, is_some, bytes_eq, slice_get, if◌then◌else◌}
use Rattle.std.specs.Option.{option_map}
use Rattle.sc_tree.specs.declared.expression.UnaryOperator.{UnaryOperator}
use Rattle.sc_tree.specs.declared.expression.UnaryOperator.TheVariants as unary
use Rattle.sc_tree.specs.declared.expression.BinaryOperator.{BinaryOperator}
use Rattle.sc_tree.specs.declared.expression.BinaryOperator.TheVariants as binary
use Rattle.sc_tree.specs.Plain as tree
use Rattle.sc_tree.specs.Plain.{Expr, Exprs}
use Rattle.sc_class.proofs.Items.{some_is}
use Rattle.sc_rules.specs.declared.entity_types.entity_type.EntityType.{EntityType}
use Rattle.sc_rules.specs.entity_types.Conformance.{integer, boolean}
use Rattle.sc_rules.specs.declared.position.Context.{Context}
use Rattle.sc_rules.specs.declared.position.Context.TheVariants as context
use Rattle.sc_rules.specs.declared.position.Position.{Position}
use Rattle.sc_rules.specs.declared.position.Position.TheVariants as spot
use Rattle.sc_rules.specs.Types as types
use Rattle.sc_rules.specs.Types.{gives_if, unary_result, binary_result}
use Rattle.sc_rules.specs.Positions.{is_ensure, is_condition, is_and_then, operand_position, shares_names}
use Rattle.sc_rules.specs.Names.{RoutineName, RoutineContext, Entity, Entities, entity_named, Signature, named}
use Rattle.sc_rules.specs.Typing as rule
use Rattle.sc_rules.specs.Typing.{Typing, typing, HasType, HasTypes, number, truth, current_object, result, call, untyped_target_call, unary, binary, and_then, test, implicit, explicit, old_stands}
use Rattle.sc_rules.specs.Laws.{AllDeclared, HasResult, are_typed}
use Rattle.sc_rules.proofs.OldOperands.{operand_of_old}
use Rattle.sc_rules.proofs.Typings.{every_typed}
use Rattle.sc_model.specs.Olds.{olds_of, olds_of_each}
use Rattle.sc_code.specs.Places.{Setting, slot_named, unary_type, binary_type}
use Rattle.sc_code.specs.Typed.{is_old}

-- ---- names

abbrev shifted : Option (ℕ × Option EntityType) → Option (ℕ × Option EntityType)
shifted found = option_map (λ (found : ℕ × Option EntityType). (suc found.0, found.1)) found

-- a name that is known has a slot
pub slot_there : (x : List ℕ) (n : Entities) (e : Entity) → entity_named x n ≡ Some e → (k : ℕ) × (slot_named x n ≡ Some (k, e.type))
slot_there x [] e i = cc
slot_there x (d ∷ n) e i = by (bytes_eq d.name x) (slot_there x n e) i
  where
    by : (b : Bool) → (entity_named x n ≡ Some e → (k : ℕ) × (slot_named x n ≡ Some (k, e.type))) →
        (if b then Some d else entity_named x n) ≡ Some e →
        (k : ℕ) × ((if b then Some (0, d.type) else shifted (slot_named x n)) ≡ Some (k, e.type))
    by true f i = (0, ap (λ (e : Entity). Some (0, e.type)) (some_is d e i))
    by false f i = (suc (f i).0, ap shifted (f i).1)

-- and another one has none
pub slot_missing : (x : List ℕ) (n : Entities) → entity_named x n ≡ None → slot_named x n ≡ None
slot_missing x [] i = refl
slot_missing x (d ∷ n) i = by (bytes_eq d.name x) (slot_missing x n) i
  where
    by : (b : Bool) → (entity_named x n ≡ None → slot_named x n ≡ None) → (if b then Some d else entity_named x n) ≡ None →
        (if b then Some (0, d.type) else shifted (slot_named x n)) ≡ None
    by true f i = cc
    by false f i = ap shifted (f i)

-- ---- operators

gives_is : (b : Bool) (u : EntityType) (r : Option EntityType) → option_map (λ (t : EntityType). Some t) (gives_if b u) ≡ Some r → r ≡ Some u
gives_is true u r e = sym (some_is (Some u) r e)
gives_is false u r e = cc

pub unary_gives : (op : UnaryOperator) (a : EntityType) (r : Option EntityType) → is_old op ≡ false → unary_result op (Some a) ≡ Some r →
    r ≡ Some (unary_type op)
unary_gives unary.Old a r o e = cc
unary_gives unary.Not a r o e = gives_is (types.is_boolean a.class) boolean r e
unary_gives unary.Plus a r o e = gives_is (types.is_integer a.class) integer r e
unary_gives unary.Minus a r o e = gives_is (types.is_integer a.class) integer r e

pub binary_gives : (op : BinaryOperator) (a b : EntityType) (r : Option EntityType) → binary_result op (Some a) (Some b) ≡ Some r →
    r ≡ Some (binary_type op)
binary_gives binary.Times a b r e = gives_is (types.is_integer a.class && types.is_integer b.class) integer r e
binary_gives binary.Quotient a b r e = gives_is (types.is_integer a.class && types.is_integer b.class) integer r e
binary_gives binary.Remainder a b r e = gives_is (types.is_integer a.class && types.is_integer b.class) integer r e
binary_gives binary.Plus a b r e = gives_is (types.is_integer a.class && types.is_integer b.class) integer r e
binary_gives binary.Minus a b r e = gives_is (types.is_integer a.class && types.is_integer b.class) integer r e
binary_gives binary.Equal a b r e = gives_is (types.is_comparable a.class b.class) boolean r e
binary_gives binary.NotEqual a b r e = gives_is (types.is_comparable a.class b.class) boolean r e
binary_gives binary.Less a b r e = gives_is (types.is_integer a.class && types.is_integer b.class) boolean r e
binary_gives binary.Greater a b r e = gives_is (types.is_integer a.class && types.is_integer b.class) boolean r e
binary_gives binary.LessEqual a b r e = gives_is (types.is_integer a.class && types.is_integer b.class) boolean r e
binary_gives binary.GreaterEqual a b r e = gives_is (types.is_integer a.class && types.is_integer b.class) boolean r e
binary_gives binary.And a b r e = gives_is (types.is_boolean a.class && types.is_boolean b.class) boolean r e
binary_gives binary.AndThen a b r e = gives_is (types.is_boolean a.class && types.is_boolean b.class) boolean r e
binary_gives binary.Or a b r e = gives_is (types.is_boolean a.class && types.is_boolean b.class) boolean r e
binary_gives binary.OrElse a b r e = gives_is (types.is_boolean a.class && types.is_boolean b.class) boolean r e
binary_gives binary.Xor a b r e = gives_is (types.is_boolean a.class && types.is_boolean b.class) boolean r e
binary_gives binary.Implies a b r e = gives_is (types.is_boolean a.class && types.is_boolean b.class) boolean r e

pub operands_plain : (op : BinaryOperator) → is_condition (operand_position op) ≡ false
operands_plain binary.Equal = refl
operands_plain binary.NotEqual = refl
operands_plain _ = refl

pub and_then_is : (op : BinaryOperator) → is_and_then op ≡ true → op ≡ binary.AndThen
and_then_is binary.AndThen e = refl
and_then_is _ e = cc

pub none_shared : (k : Position) (op : BinaryOperator) → is_condition k ≡ false → shares_names k op ≡ true → ⊥
none_shared spot.Plain op e f = cc
none_shared spot.Source op e f = cc
none_shared spot.Condition op e f = cc

pub ensured : (c : Context) (t : Typing) → old_stands c unary.Old t ≡ true → is_ensure c ≡ true
ensured c t e = by (is_ensure c) e
  where
    by : (b : Bool) → (b && not t.is_separate) ≡ true → b ≡ true
    by true e = refl
    by false e = cc

-- ---- lists

get_left : {A : Type 0} (xs ys : List A) (j : ℕ) (a : A) → slice_get xs j ≡ Some a → slice_get (xs ++ ys) j ≡ Some a
get_left [] ys j a e = cc
get_left (x ∷ xs) ys zero a e = e
get_left (x ∷ xs) ys (suc j) a e = get_left xs ys j a e

get_right : {A : Type 0} (xs ys : List A) (j : ℕ) → slice_get (xs ++ ys) (length xs + j) ≡ slice_get ys j
get_right [] ys j = ap (slice_get ys) (let e : 0 + j ≡ j = omega arith in e)
get_right (x ∷ xs) ys j =
    ap (slice_get (x ∷ (xs ++ ys))) (let e : suc (length xs) + j ≡ suc (length xs + j) = omega arith in e) ∙ get_right xs ys j

-- each item of the list
abbrev pub Each : {A : Type 0} → (A → Type 0) → List A → Type 0
Each {A} P xs = (j : ℕ) (a : A) → slice_get xs j ≡ Some a → P a

pub each_both : {A : Type 0} (P : A → Type 0) (xs ys : List A) → Each P xs → Each P ys → Each P (xs ++ ys)
each_both P [] ys f g j a e = g j a e
each_both P (x ∷ xs) ys f g zero a e = f zero a e
each_both P (x ∷ xs) ys f g (suc j) a e = each_both P xs ys (λ j. f (suc j)) g j a e

pub some_there : (o : Option EntityType) → is_some o ≡ true → (t : EntityType) × (o ≡ Some t)
some_there None e = cc
some_there (Some t) e = (t, refl)

pub untyped : (o : Option EntityType) → o ≡ None → is_some o ≡ true → ⊥
untyped None e i = cc
untyped (Some t) e i = cc

pub same_signature : (g k : Signature) → named g ≡ named k → g ≡ k
same_signature g k e = cc

-- the text as the rules judge it, where this test tells the pure functions
abbrev pub judged : (RoutineName → Bool) → Setting → RoutineContext
judged pure h = record { system = h.system; class = h.text.class; formals = h.text.formals; result = h.text.result; pure = pure }

-- ---- expressions

-- Where a text has a Result, its routine has one.
abbrev pub ResultKept : Setting → Type 0
ResultKept h = (t : Option EntityType) → h.text.result ≡ Some t → (u : EntityType) × (h.result ≡ Some u)

-- an operand of `old` of some type
abbrev pub OldTyped : RoutineContext → Entities → Expr → Type 0
OldTyped h n a = (t : EntityType) × (b : Bool) × HasType h context.Old spot.Plain n a (typing (Some t) b)

-- the expression has a type
abbrev pub SomeType : RoutineContext → Context → Position → Entities → Expr → Type 0
SomeType h c k n e = (t : EntityType) × (b : Bool) × HasType h c k n e (typing (Some t) b)

-- Each `old` is of its type.
mutual
  pub olds_typed : {h : RoutineContext} {c : Context} {k : Position} {n : Entities} {e : Expr} {r : Typing} → AllDeclared h.system → HasResult h →
      are_typed n ≡ true → HasType h c k n e r → is_condition k ≡ false → Each (OldTyped h n) (olds_of e)
  olds_typed all has w number k j a e = cc
  olds_typed all has w truth k j a e = cc
  olds_typed all has w (rule.void v) k j a e = cc
  olds_typed all has w current_object k j a e = cc
  olds_typed all has w (result v) k j a e = cc
  olds_typed all has w (call implicit u m ds f p l g pu xp) k j a e = each_old_typed all has w ds j a e
  olds_typed {h} {n} all has w (call {a = tree.target y} {es = es} (explicit d) u m ds f p l g pu xp) k j a e =
      each_both (OldTyped h n) (olds_of y) (olds_of_each es) (olds_typed all has w d refl) (each_old_typed all has w ds) j a e
  olds_typed {h} {n} all has w (untyped_target_call {a = y} {es = es} (explicit d) i ds) k j a e =
      each_both (OldTyped h n) (olds_of y) (olds_of_each es) (olds_typed all has w d refl) (each_old_typed all has w ds) j a e
  olds_typed {h} {c} {n} all has w (unary {op = unary.Old} {a = x} {t = t} d o i) k zero a e =
      let here = some_there t.type (every_typed all has w d) in
      let type = subst (λ o. HasType h context.Old spot.Plain n x (typing o t.is_separate)) here.1 (operand_of_old c d o) in
      subst (OldTyped h n) (some_is x a e) (here.0, t.is_separate, type)
  olds_typed all has w (unary {op = unary.Old} d o i) k (suc j) a e = cc
  olds_typed all has w (unary {op = unary.Not} d o i) k j a e = olds_typed all has w d refl j a e
  olds_typed all has w (unary {op = unary.Plus} d o i) k j a e = olds_typed all has w d refl j a e
  olds_typed all has w (unary {op = unary.Minus} d o i) k j a e = olds_typed all has w d refl j a e
  olds_typed {h} {n} all has w (binary {op = op} {a = x} {b = y} s d f i) k j a e =
      each_both (OldTyped h n) (olds_of x) (olds_of y) (olds_typed all has w d (operands_plain op)) (olds_typed all has w f (operands_plain op)) j a e
  olds_typed {k} all has w (and_then {op = op} s d g f i) q j a e = absurd (none_shared k op q s)
  olds_typed all has w (test i d) k j a e = cc

  each_old_typed : {h : RoutineContext} {c : Context} {n : Entities} {es : Exprs} {ts : List Typing} → AllDeclared h.system → HasResult h →
      are_typed n ≡ true → HasTypes h c n es ts → Each (OldTyped h n) (olds_of_each es)
  each_old_typed all has w rule.none j a e = cc
  each_old_typed {h} {n} all has w (rule.more {e = x} {es = es} d ds) j a e =
      each_both (OldTyped h n) (olds_of x) (olds_of_each es) (olds_typed all has w d refl) (each_old_typed all has w ds) j a e

-- the operand of `old` has its type at this number of those that are kept
abbrev pub OldKept : (RoutineName → Bool) → Setting → Entities → Expr → ℕ → Type 0
OldKept pure h n a i = (t : EntityType) × (b : Bool) × (slice_get h.olds i ≡ Some t) ×
    HasType (judged pure h) context.Old spot.Plain n a (typing (Some t) b)

-- these have theirs, the first at this number
abbrev pub OldsKept : (RoutineName → Bool) → Setting → Entities → ℕ → List Expr → Type 0
OldsKept pure h n i es = (j : ℕ) (a : Expr) → slice_get es j ≡ Some a → OldKept pure h n a (i + j)

pub kept_left : (pure : RoutineName → Bool) (h : Setting) (n : Entities) (i : ℕ) (xs ys : List Expr) → OldsKept pure h n i (xs ++ ys) →
    OldsKept pure h n i xs
kept_left pure h n i xs ys f j a e = f j a (get_left xs ys j a e)

pub kept_right : (pure : RoutineName → Bool) (h : Setting) (n : Entities) (i : ℕ) (xs ys : List Expr) → OldsKept pure h n i (xs ++ ys) →
    OldsKept pure h n (i + length xs) ys
kept_right pure h n i xs ys f j a e =
    let same : i + (length xs + j) ≡ i + length xs + j = omega arith in
    subst (OldKept pure h n a) same (f (length xs + j) a (get_right xs ys j ∙ e))
