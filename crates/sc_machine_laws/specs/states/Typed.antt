-- The tasks of a routine are typed as the rules say, with the names that are known and the types of the values.
use Rattle.std.specs.List.{list_all}
use Rattle.std.specs.Prelude.{◌&&◌, ◌+◌, ◌++◌, ◌<◌, Bool, Contains, List, None, Option, Some, [], false, length, map, not, slice_get, true, ℕ, ◌∷◌, ◌≡◌, ◌⊎◌}
use Rattle.sc_tree.specs.Plain.{Branches, Clause, Declaration, DeclaredType, Expr, Instrs, Name, System, Variable}
use Rattle.sc_tree.specs.declared.expression.BinaryOperator.{BinaryOperator}
use Rattle.sc_tree.specs.declared.expression.UnaryOperator.{UnaryOperator}
use Rattle.sc_class.specs.Tables.Conformance.{is_expanded}
use Rattle.sc_class.specs.Tables.Features.{DeclaredFeature, feature_named}
use Rattle.sc_class.specs.declared.identity.ClassId.TheVariants as class
use Rattle.sc_rules.specs.entity_types.Conformance.{boolean, conforms}
use Rattle.sc_rules.specs.declared.entity_types.entity_type.EntityType.{EntityType}
use Rattle.sc_rules.specs.declared.entity_types.tag.Reserved.TheVariants.{BlockName, Formal}
use Rattle.sc_rules.specs.declared.entity_types.tag.Tag.{Tag}
use Rattle.sc_rules.specs.declared.entity_types.tag.Tag.TheVariants as tag
use Rattle.sc_rules.specs.Laws.{are_declared}
use Rattle.sc_rules.specs.Names.{Entities, Entity, RoutineContext, RoutineName, Signature, assignee, assignee_type, block_type, blocks, current, entity, formals_known, locals_known, named, qualified_meaning, signature_of, test_type}
use Rattle.sc_rules.specs.Positions.{is_and_then, is_condition, is_ensure, is_old, operand_position}
use Rattle.sc_rules.specs.ScopeLaws.{is_nameable_if_any}
use Rattle.sc_rules.specs.Sites.{branches, instructions}
use Rattle.sc_rules.specs.SystemLaws.{Stands}
use Rattle.sc_rules.specs.Types.{binary_type, is_boolean, is_controlled, is_foreign, unary_type}
use Rattle.sc_rules.specs.Typing.{Gives, HasType, formals_take, typing}
use Rattle.sc_rules.specs.declared.position.Context.{Context}
use Rattle.sc_rules.specs.declared.position.Context.TheVariants as context
use Rattle.sc_rules.specs.declared.position.Position.{Position}
use Rattle.sc_rules.specs.declared.position.Position.TheVariants.{Condition, Plain}
use Rattle.sc_rules.specs.declared.position.Role.TheVariants as role
use Rattle.sc_model.specs.Environments.{is_formal}
use Rattle.sc_model.specs.Olds.{olds_of}
use Rattle.sc_model.specs.Routines.{Routine, Text, place_in}
use Rattle.sc_model.specs.Tasks.{ApplyBinary, ApplyUnary, AssignTo, Bind, CallQualified, CallUnqualified, Checked, Choose, Conclude, CreateBy, Declare, Do, EndLoop, Ensured, Eval, EvalRight, Forget, In, KeepOld, Leave, Open, Print, Repeat, Require, Required, Task}
use Rattle.sc_machine_laws.specs.states.Places.{is_routine}

-- What is known when tasks are left (`at`): their text, the names, the types of the `old`s that were kept, and
-- those of the values, the last one first. After a condition (`after`) its value lies on top of these: if it is
-- true the second names are known, if it is false the first and perhaps more.
pub data Known : Type 0 where
  at : Text → Entities → List EntityType → List EntityType → Known
  after : Text → Entities → Entities → List EntityType → List EntityType → Known

-- ---- tags

-- If the tag names a formal, this formal is one that a tag may name: an attached separate one.
abbrev pub names_formal : List Declaration → Tag → Bool
names_formal formals (tag.With (Formal i)) = is_nameable_if_any (slice_get formals i)
names_formal formals (tag.With (BlockName j)) = true
names_formal formals tag.Own = true
names_formal formals tag.Any = true
names_formal formals tag.None = true

abbrev pub type_names : List Declaration → Option EntityType → Bool
type_names formals None = true
type_names formals (Some t) = names_formal formals t.tag

-- The type is attached, and not of the current handler.
abbrev pub lent_type : Option EntityType → Bool
lent_type None = true
lent_type (Some t) = t.attached && is_foreign t.tag

abbrev pub is_lent : Option Entity → Bool
is_lent None = false
is_lent (Some e) = is_formal e.role && lent_type e.type

-- Each of these formals that a tag may name is at its number among the names, attached and separate. If the tag of
-- a name's type names a formal, it names one of these.
pub record ScopeStands (formals : List Declaration) (n : Entities) : Type 0 where
  pub formals_are : (i : ℕ) → is_nameable_if_any (slice_get formals i) ≡ true → is_lent (slice_get n i) ≡ true
  pub tags_name : list_all (λ (e : Entity). type_names formals e.type) n ≡ true

-- the text, as the rules of well-formed systems see it
abbrev pub context_in : System → (RoutineName → Bool) → Text → RoutineContext
context_in s pure t = record { system = s; class = t.class; formals = t.formals; result = t.result; pure = pure }

-- The names `m` are `n` and others, none of them a formal.
pub record Extends (n m : Entities) : Type 0 where
  pub more : Entities
  pub is_longer : m ≡ n ++ more
  pub no_formals : list_all (λ (e : Entity). not (is_formal e.role)) more ≡ true

-- These operands of `old`s were kept as values of their types. The first of them has the number `i`.
abbrev pub AreKept : System → Text → Entities → ℕ → List Expr → List EntityType → Type 0
AreKept s t n i es os = (j : ℕ) (a : Expr) → slice_get es j ≡ Some a →
    (u : EntityType) × (b : Bool) × HasType (place_in s t) context.Old Plain n a (typing (Some u) b)
    × (slice_get os (i + j) ≡ Some u)

-- The operands of the `old`s of the expression were kept.
abbrev pub OldsKept : System → Text → Entities → ℕ → Expr → List EntityType → Type 0
OldsKept s t n i e os = AreKept s t n i (olds_of e) os

-- Actuals of these types may be passed to what has the signature.
abbrev pub Takes : System → List EntityType → Signature → Type 0
Takes s ts g =
    (formals_take s g.target (map (λ (t : EntityType). Some t) ts) g.formals
    (map (λ (t : EntityType). Some t) ts) ≡ true) × (length ts ≡ length g.formals)

-- the types of values in the order of the text, put on `us`
abbrev pub stacked : List EntityType → List EntityType → List EntityType
stacked [] us = us
stacked (t ∷ ts) us = stacked ts (t ∷ us)

-- The call puts a value of the type that it gives on these values, if it gives one.
pub data Leaves : Option (Option EntityType) → List EntityType → List EntityType → Type 0 where
  nothing : {us : List EntityType} → Leaves None us us
  a_value : {t : EntityType} {us : List EntityType} → Leaves (Some (Some t)) us (t ∷ us)

-- The names of a block, with heads of these types, are added to the first names and give the second.
pub data Opens : Entities → List Name → List EntityType → Entities → Type 0 where
  no_more : {n : Entities} → Opens n [] [] n
  one_more : {n m : Entities} {x : Name} {xs : List Name} {t : EntityType} {ts : List EntityType} →
      Opens (n ++ entity x.text (block_type (blocks n) (Some t)) role.Block ∷ []) xs ts m → Opens n (x ∷ xs) (t ∷ ts) m

-- An object may be created for an entity of the type, on the current handler or on a new one.
pub data IsMade (s : System) (h : RoutineContext) (t : EntityType) (ts : List EntityType) : Option
    (List ℕ) → Type 0 where
  without : {k : ℕ} → k < length s.classes → t.class ≡ class.Declared k → (t.tag ≡ tag.Own) ⊎ (t.tag ≡ tag.Any) →
      ts ≡ [] → IsMade s h t ts None
  by : {k : ℕ} {x : List ℕ} {g : Signature} → k < length s.classes → t.class ≡ class.Declared k →
      (t.tag ≡ tag.Own) ⊎ (t.tag ≡ tag.Any) →
      qualified_meaning h t x ≡ named g → g.gives ≡ None → Takes s ts g → IsMade s h t ts (Some x)

-- The expression has the type `a`.
abbrev pub IsOf : System → Text → Context → Position → Entities → Expr → EntityType → Type 0
IsOf s t c k n e a = (b : Bool) × HasType (place_in s t) c k n e (typing (Some a) b)

abbrev pub IsBoolean : EntityType → Type 0
IsBoolean a = is_boolean a.class ≡ true

-- The routine begins, in the text of its contract: only its formals are known, and no `old` is kept.
abbrev pub IsAtEntry : System → Routine → Text → Entities → List EntityType → Type 0
IsAtEntry s r t n os = (t ≡ r.contract) × (n ≡ formals_known s r.text.formals) × (os ≡ [])

pub data IsTyped (s : System) (pure : RoutineName → Bool) (r : Routine) : List Task → Known → Type 0 where
  -- texts, bodies and names
  done : {t : Text} {n : Entities} {os : List EntityType} → t ≡ r.contract → IsTyped s pure r [] (at t n os [])
  in_text : {k : List Task} {t u : Text} {n : Entities} {os : List EntityType} → (u ≡ r.text) ⊎ (u ≡ r.contract) →
      IsTyped s pure r k (at u n os []) → IsTyped s pure r (In u ∷ k) (at t n os [])
  body : {k : List Task} {t : Text} {n : Entities} {os : List EntityType} {is : Instrs} → t ≡ r.text →
      Stands s pure (context_in s pure t) (instructions n is) → IsTyped s pure r k (at t n os []) →
      IsTyped s pure r (Do is ∷ k) (at t n os [])
  declare : {k : List Task} {t : Text} {n : Entities} {os : List EntityType} {ls : List Declaration} → t ≡ r.text →
      are_declared s t.formals ls ≡ true →
      IsTyped s pure r k (at t (n ++ locals_known s t.formals ls) os []) →
      IsTyped s pure r (Declare ls ∷ k) (at t n os [])
  forget : {k : List Task} {t : Text} {n m : Entities} {os : List EntityType} {d : ℕ} → d ≡ length n → Extends n m →
      IsTyped s pure r k (at t n os []) → IsTyped s pure r (Forget d ∷ k) (at t m os [])
  -- expressions
  eval : {k : List Task} {t : Text} {n : Entities} {os vs : List EntityType} {i : ℕ} {e : Expr} {a : EntityType}
      (c : Context) (q : Position) →
      is_condition q ≡ false → IsOf s t c q n e a → OldsKept s t n i e os → IsTyped s pure r k (at t n os (a ∷ vs)) →
      IsTyped s pure r (Eval i e ∷ k) (at t n os vs)
  condition : {k : List Task} {t : Text} {n m : Entities} {os vs : List EntityType} {i : ℕ} {e : Expr} {a : EntityType}
      (c : Context) →
      is_ensure c ≡ false → IsOf s t c Condition n e a → IsBoolean a → Gives (place_in s t) c n e m →
      IsTyped s pure r k (after t n m os vs) →
      IsTyped s pure r (Eval i e ∷ k) (at t n os vs)
  apply_unary : {k : List Task} {t : Text} {n : Entities} {os vs : List EntityType} {op : UnaryOperator}
      {a b : EntityType} →
      is_old op ≡ false → unary_type op a ≡ Some b → IsTyped s pure r k (at t n os (b ∷ vs)) →
      IsTyped s pure r (ApplyUnary op ∷ k) (at t n os (a ∷ vs))
  eval_right : {k : List Task} {t : Text} {n : Entities} {os vs : List EntityType} {op : BinaryOperator} {i : ℕ}
      {e : Expr} {a b u : EntityType} (c : Context) →
      IsOf s t c (operand_position op) n e b → OldsKept s t n i e os → binary_type op a b ≡ Some u →
      IsTyped s pure r k (at t n os (u ∷ vs)) → IsTyped s pure r (EvalRight op i e ∷ k) (at t n os (a ∷ vs))
  right_condition : {k : List Task} {t : Text} {n m o : Entities} {os vs : List EntityType} {op : BinaryOperator}
      {i : ℕ} {e : Expr} {a : EntityType} (c : Context) →
      is_and_then op ≡ true → is_ensure c ≡ false → IsOf s t c Condition m e a → IsBoolean a →
      Gives (place_in s t) c m e o → Extends n m →
      IsTyped s pure r k (after t n o os vs) → IsTyped s pure r (EvalRight op i e ∷ k) (after t n m os vs)
  apply_binary : {k : List Task} {t : Text} {n : Entities} {os vs : List EntityType} {op : BinaryOperator}
      {a b u : EntityType} →
      binary_type op a b ≡ Some u → IsTyped s pure r k (at t n os (u ∷ vs)) →
      IsTyped s pure r (ApplyBinary op ∷ k) (at t n os (b ∷ a ∷ vs))
  conclude : {k : List Task} {t : Text} {n : Entities} {os vs : List EntityType} {a : EntityType} → IsBoolean a →
      IsTyped s pure r k (at t n os (boolean ∷ vs)) → IsTyped s pure r (Conclude ∷ k) (at t n os (a ∷ vs))
  conclude_condition : {k : List Task} {t : Text} {n m o : Entities} {os vs : List EntityType} → Extends n m →
      IsTyped s pure r k (after t n o os vs) → IsTyped s pure r (Conclude ∷ k) (after t m o os vs)
  bind : {k : List Task} {t : Text} {n o : Entities} {os vs : List EntityType} {d : Option DeclaredType} {x : List ℕ}
      {a b : EntityType} →
      test_type (place_in s t) d (Some a) ≡ Some b → names_formal r.text.formals b.tag ≡ true → Extends o n →
      IsTyped s pure r k (after t o (n ++ entity x (Some b) role.Test ∷ []) os vs) →
      IsTyped s pure r (Bind d x ∷ k) (at t n os (a ∷ vs))
  call_unqualified : {k : List Task} {t : Text} {n : Entities} {os vs us ws : List EntityType} (ts : List EntityType)
      {x : List ℕ} {i : ℕ} {f : DeclaredFeature} →
      feature_named s (class.Declared t.class) x ≡ Some f → is_routine f.feature.kind ≡ true →
      Takes s ts (signature_of s (current (place_in s t)) f) → i ≡ length ts →
      vs ≡ stacked ts us → Leaves (signature_of s (current (place_in s t)) f).gives us ws →
      IsTyped s pure r k (at t n os ws) →
      IsTyped s pure r (CallUnqualified x i ∷ k) (at t n os vs)
  call_qualified : {k : List Task} {t : Text} {n : Entities} {os vs us ws : List EntityType} (ts : List EntityType)
      (a : EntityType) {x : List ℕ} {i : ℕ} {f : DeclaredFeature} →
      is_controlled a ≡ true → names_formal r.text.formals a.tag ≡ true → feature_named s a.class x ≡ Some f →
      Takes s ts (signature_of s a f) → i ≡ length ts →
      vs ≡ stacked ts (a ∷ us) → Leaves (signature_of s a f).gives us ws → IsTyped s pure r k (at t n os ws) →
      IsTyped s pure r (CallQualified x i ∷ k) (at t n os vs)
  -- instructions
  assign : {k : List Task} {t : Text} {n : Entities} {os : List EntityType} {v : Variable}
      {a u : EntityType} → t ≡ r.text →
      assignee_type (assignee (place_in s t) n v) ≡ Some u → conforms s a u ≡ true → IsTyped s pure r k (at t n os []) →
      IsTyped s pure r (AssignTo v ∷ k) (at t n os (a ∷ []))
  print : {k : List Task} {t : Text} {n : Entities} {os : List EntityType} {a : EntityType} →
      is_expanded a.class ≡ true →
      IsTyped s pure r k (at t n os []) → IsTyped s pure r (Print ∷ k) (at t n os (a ∷ []))
  choose : {k : List Task} {t : Text} {n m : Entities} {os : List EntityType} {d : ℕ} {is other : Instrs}
      {bs : Branches} → t ≡ r.text → d ≡ length n → Extends n m →
      Stands s pure (context_in s pure t) (instructions m is) → Stands s pure (context_in s pure t) (branches n bs) →
      Stands s pure (context_in s pure t) (instructions n other) → IsTyped s pure r k (at t n os []) →
      IsTyped s pure r (Choose d is bs other ∷ k) (after t n m os [])
  repeat : {k : List Task} {t : Text} {n : Entities} {os : List EntityType} {e : Expr} {a : EntityType}
      {is : Instrs} → t ≡ r.text →
      IsOf s t context.Body Plain n e a → IsBoolean a → Stands s pure (context_in s pure t) (instructions n is) →
      IsTyped s pure r k (at t n os []) → IsTyped s pure r (Repeat e is ∷ k) (at t n os [])
  end_loop : {k : List Task} {t : Text} {n : Entities} {os : List EntityType} {e : Expr} {a b : EntityType}
      {is : Instrs} → t ≡ r.text → IsBoolean b →
      IsOf s t context.Body Plain n e a → IsBoolean a → Stands s pure (context_in s pure t) (instructions n is) →
      IsTyped s pure r k (at t n os []) → IsTyped s pure r (EndLoop e is ∷ k) (at t n os (b ∷ []))
  create : {k : List Task} {t : Text} {n : Entities} {os vs : List EntityType} (ts : List EntityType) {v : Variable}
      {x : Option (List ℕ)} {i : ℕ} {u : EntityType} → t ≡ r.text →
      assignee_type (assignee (place_in s t) n v) ≡ Some u → IsMade s (place_in s t) u ts x → i ≡ length ts →
      vs ≡ stacked ts [] →
      IsTyped s pure r k (at t n os []) → IsTyped s pure r (CreateBy v x i ∷ k) (at t n os vs)
  open_block : {k : List Task} {t : Text} {n m : Entities} {os vs : List EntityType} (ts : List EntityType)
      {xs : List Name} {is : Instrs} → t ≡ r.text → Opens n xs ts m →
      list_all (λ (t : EntityType). t.attached) ts ≡ true → Stands s pure (context_in s pure t) (instructions m is) →
      vs ≡ stacked ts [] → IsTyped s pure r k (at t n os []) → IsTyped s pure r (Open xs is ∷ k) (at t n os vs)
  leave_block : {k : List Task} {t : Text} {n m : Entities} {os : List EntityType} {d : ℕ} → t ≡ r.text →
      d ≡ length n → Extends n m →
      IsTyped s pure r k (at t n os []) → IsTyped s pure r (Leave d ∷ k) (at t m os [])
  -- contracts
  checked : {k : List Task} {t : Text} {n : Entities} {os : List EntityType} {a : EntityType} → IsBoolean a →
      IsTyped s pure r k (at t n os []) → IsTyped s pure r (Checked ∷ k) (at t n os (a ∷ []))
  require : {k : List Task} {t : Text} {n : Entities} {os : List EntityType} {ks : List Clause} → IsAtEntry s r t n os →
      ((q : Clause) → Contains ks q → (a : EntityType) × IsOf s t context.Require Plain n q.condition a × IsBoolean a) →
      IsTyped s pure r k (at t n os []) → IsTyped s pure r (Require ks ∷ k) (at t n os [])
  required : {k : List Task} {t : Text} {n : Entities} {os : List EntityType} {q : Clause} {a : EntityType} →
      IsAtEntry s r t n os → IsBoolean a →
      IsTyped s pure r k (at t n os []) → IsTyped s pure r (Required q ∷ k) (at t n os (a ∷ []))
  keep_old : {k : List Task} {t : Text} {n : Entities} {os : List EntityType} {a : EntityType} →
      list_all (λ (e : Entity). is_formal e.role) n ≡ true →
      IsTyped s pure r k (at t n (os ++ a ∷ []) []) → IsTyped s pure r (KeepOld ∷ k) (at t n os (a ∷ []))
  ensured : {k : List Task} {t : Text} {n : Entities} {os : List EntityType} {a : EntityType} → IsBoolean a →
      IsTyped s pure r k (at t n os []) → IsTyped s pure r (Ensured ∷ k) (at t n os (a ∷ []))
  -- the value of any expression may be that of a condition that gives no names
  settled_choice : {k : List Task} {t : Text} {n m : Entities} {os vs : List EntityType} {a : EntityType} {d : ℕ}
      {is other : Instrs} {bs : Branches} → IsBoolean a →
      Extends n m → IsTyped s pure r (Choose d is bs other ∷ k) (after t n m os vs) →
      IsTyped s pure r (Choose d is bs other ∷ k) (at t m os (a ∷ vs))
  settled_right : {k : List Task} {t : Text} {n m : Entities} {os vs : List EntityType} {a : EntityType}
      {op : BinaryOperator} {i : ℕ} {e : Expr} → IsBoolean a →
      Extends n m → IsTyped s pure r (EvalRight op i e ∷ k) (after t n m os vs) →
      IsTyped s pure r (EvalRight op i e ∷ k) (at t m os (a ∷ vs))
  settled_conclusion : {k : List Task} {t : Text} {n m : Entities} {os vs : List EntityType}
      {a : EntityType} → IsBoolean a →
      Extends n m → IsTyped s pure r (Conclude ∷ k) (after t n m os vs) →
      IsTyped s pure r (Conclude ∷ k) (at t m os (a ∷ vs))
