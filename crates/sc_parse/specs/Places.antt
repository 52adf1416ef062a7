-- Where the parts of a tree stand. Each part is laid over the tokens that it is read from: a name stands where its
-- token does, any other part from the beginning of its first token to the end of its last. Parentheses around an
-- expression leave nothing in the tree: a part that begins or ends with such an expression begins or ends where that
-- one does. Which tokens may stand where, and how operators bind, is the grammar's to say.
use Rattle.std.specs.Prelude.{◌≡◌, ℕ, ℤ, Bool, true, false, List, [], ◌∷◌, ◌++◌, Option, None, Some, map}
use Rattle.sc_text.specs.Kind.{Kind, NAME, INTEGER, STRING, TERMINAL}
use Rattle.sc_text.specs.Spelling.{Lexeme}
use Rattle.sc_text.specs.declared.token.Span.{Span}
use Rattle.sc_text.specs.declared.token.Terminal.{Terminal}
use Rattle.sc_text.specs.declared.token.Terminal.TheVariants as terminal
use Rattle.sc_tree.specs.declared.expression.UnaryOperator.{UnaryOperator}
use Rattle.sc_tree.specs.declared.expression.BinaryOperator.{BinaryOperator}
use Rattle.sc_tree.specs.Grammar.Operators.{prefix_of, terminals_of}
use Rattle.sc_tree.specs.Grammar.Types.{handler_name}
use Rattle.sc_tree.specs.Grammar.Instructions.{print_name}
use Rattle.sc_tree.specs.Grammar.Classes.{declared_as, attribute_of, routine_of, none_name, exported_to, heads_class, ends_class}
use Rattle.sc_tree.specs.Properties.{span_of}
use Rattle.sc_tree.specs.Plain as plain
use Rattle.sc_tree.specs.Plain.{Name, HandlerTag, Own, Separate, HandlerOf, DeclaredType, Declaration, Expr, Integer, Boolean, Void, Current, Call, Unary, Binary, ObjectTest, Target, no_target, target, Exprs, no_exprs, expr_then, Variable, Named, ResultVariable, CreationCall, Creation, Clause, Head, Instr, Assign, PrintText, CallRoutine, Create, Check, Conditional, if_instr, Iteration, loop_instr, SeparateBlock, block_instr, RoutineDeclaration, Instrs, no_instrs, instr_then, Branches, no_branches, branch_then, Feature, Parent, ClassMark, Deferred, Expanded, Frozen, Class, System}

-- a point between two tokens: where the one before it stands, and the ones behind it
pub record Point : Type 0 where
  pub last : Span
  pub rest : List Lexeme

abbrev pub begin_of : List Lexeme → ℕ → ℕ
begin_of [] end = end
begin_of (t ∷ ts) end = t.span.start

-- where the token behind a point begins
abbrev pub begin : Point → ℕ
begin p = begin_of p.rest p.last.end

-- from the beginning of the first token behind one point to the end of the last one before another
abbrev pub between : Point → Point → Span
between p q = record { start = begin p; end = q.last.end }

-- Between the points stands one token, of this kind and here.
pub record IsToken (k : Kind) (s : Span) (p q : Point) : Type 0 where
  pub next : p.rest ≡ record { kind = k; span = s } ∷ q.rest
  pub last : q.last ≡ s

-- Between the points stands this reserved word or symbol.
abbrev pub IsWord : Terminal → Point → Point → Type 0
IsWord m p q = (s : Span) × IsToken (TERMINAL m) s p q

pub data IsOptional (m : Terminal) : Point → Point → Type 0 where
  absent : {p : Point} → IsOptional m p p
  present : {p q : Point} → IsWord m p q → IsOptional m p q

pub data AreWords : List Terminal → Point → Point → Type 0 where
  no_word : {p : Point} → AreWords [] p p
  word : {m : Terminal} {ms : List Terminal} {p q r : Point} → IsWord m p q → AreWords ms q r → AreWords (m ∷ ms) p r

-- parts one after the other, each of which gives some of the list, with separators between them
pub data IsRow {X : Type 0} (Part : List X → Point → Point → Type 0) (separator : Terminal)
    : List X → Point → Point → Type 0 where
  no_part : {p : Point} → IsRow Part separator [] p p
  separated : {xs : List X} {p q r : Point} → IsWord separator p q → IsRow Part separator xs q r →
      IsRow Part separator xs p r
  part : {xs ys : List X} {p q r : Point} → Part xs p q → IsRow Part separator ys q r →
      IsRow Part separator (xs ++ ys) p r

-- the same, with nothing between them
pub data AreParts {X : Type 0} (Part : List X → Point → Point → Type 0) : List X → Point → Point → Type 0 where
  none : {p : Point} → AreParts Part [] p p
  another : {xs ys : List X} {p q r : Point} → Part xs p q → AreParts Part ys q r → AreParts Part (xs ++ ys) p r

-- a part that is one of the list
pub data IsOne {X : Type 0} (Is : X → Point → Point → Type 0) : List X → Point → Point → Type 0 where
  one : {x : X} {p q : Point} → Is x p q → IsOne Is (x ∷ []) p q

-- ---- names and types

abbrev pub IsPlacedName : Name → Point → Point → Type 0
IsPlacedName x p q = IsToken (NAME x.text) x.span p q

-- at least one
pub data ArePlacedNames : List Name → Point → Point → Type 0 where
  one_name : {x : Name} {p q : Point} → IsPlacedName x p q → ArePlacedNames (x ∷ []) p q
  more_names : {x : Name} {xs : List Name} {p q r u : Point} → IsPlacedName x p q → IsWord terminal.Comma q r →
      ArePlacedNames xs r u → ArePlacedNames (x ∷ xs) p u

pub data IsTypeMark : Point → Point → Type 0 where
  unmarked : {p : Point} → IsTypeMark p p
  attached : {p q : Point} → IsWord terminal.Attached p q → IsTypeMark p q
  exclamation : {p q : Point} → IsWord terminal.Exclamation p q → IsTypeMark p q
  detachable : {p q : Point} → IsWord terminal.Detachable p q → IsTypeMark p q
  question : {p q : Point} → IsWord terminal.Question p q → IsTypeMark p q

pub data IsPlacedTag : HandlerTag → Point → Point → Type 0 where
  own : {p : Point} → IsPlacedTag Own p p
  separate : {p q : Point} → IsWord terminal.Separate p q → IsPlacedTag Separate p q
  handler_of : {x : Name} {s : Span} {p q r u v w z : Point} →
      IsWord terminal.Separate p q → IsWord terminal.Less q r → IsPlacedName x r u → IsWord terminal.Dot u v →
      IsToken (NAME handler_name) s v w → IsWord terminal.Greater w z →
      IsPlacedTag (HandlerOf x) p z

pub data IsPlacedType : DeclaredType → Point → Point → Type 0 where
  type : {t : DeclaredType} {p q r u : Point} → IsTypeMark p q → IsPlacedTag t.tag q r → IsPlacedName t.class r u →
      t.span ≡ between p u → IsPlacedType t p u

pub data IsPlacedTest : Option DeclaredType → Point → Point → Type 0 where
  no_type : {p : Point} → IsPlacedTest None p p
  tested_type : {t : DeclaredType} {p q r u : Point} → IsWord terminal.OpenBrace p q → IsPlacedType t q r →
      IsWord terminal.CloseBrace r u → IsPlacedTest (Some t) p u

-- ---- expressions

mutual
  pub data IsPlacedExpr : Expr → Point → Point → Type 0 where
    integer : {n : ℤ} {s : Span} {p q : Point} → IsToken (INTEGER n) s p q → IsPlacedExpr (Integer s n) p q
    true_constant : {s : Span} {p q : Point} → IsToken (TERMINAL terminal.True) s p q →
        IsPlacedExpr (Boolean s true) p q
    false_constant : {s : Span} {p q : Point} → IsToken (TERMINAL terminal.False) s p q →
        IsPlacedExpr (Boolean s false) p q
    void : {s : Span} {p q : Point} → IsToken (TERMINAL terminal.Void) s p q → IsPlacedExpr (Void s) p q
    current : {s : Span} {p q : Point} → IsToken (TERMINAL terminal.Current) s p q → IsPlacedExpr (Current s) p q
    result : {s : Span} {p q : Point} → IsToken (TERMINAL terminal.Result) s p q → IsPlacedExpr (plain.Result s) p q
    parenthesized : {t : Expr} {p q r u : Point} → IsWord terminal.OpenParenthesis p q → IsPlacedExpr t q r →
        IsWord terminal.CloseParenthesis r u → IsPlacedExpr t p u
    unqualified : {x : Name} {es : Exprs} {s : Span} {p q r : Point} → IsPlacedName x p q → ArePlacedActuals es q r →
        s ≡ between p r → IsPlacedExpr (Call s no_target x es) p r
    qualified : {t : Expr} {x : Name} {es : Exprs} {s : Span} {p q r u v : Point} → IsPlacedExpr t p q →
        IsWord terminal.Dot q r → IsPlacedName x r u → ArePlacedActuals es u v → s.start ≡ (span_of t).start →
        s.end ≡ v.last.end → IsPlacedExpr (Call s (target t) x es) p v
    object_test : {o : Option DeclaredType} {t : Expr} {x : Name} {s : Span} {p q r u v w : Point} →
        IsWord terminal.Attached p q → IsPlacedTest o q r → IsPlacedExpr t r u → IsWord terminal.As u v →
        IsPlacedName x v w → s ≡ between p w → IsPlacedExpr (ObjectTest s o t x) p w
    prefixed : {op : UnaryOperator} {a : Expr} {s : Span} {p q r : Point} → IsWord (prefix_of op) p q →
        IsPlacedExpr a q r → s.start ≡ begin p → s.end ≡ (span_of a).end → IsPlacedExpr (Unary s op a) p r
    infixed : {op : BinaryOperator} {a b : Expr} {s : Span} {p q r u : Point} → IsPlacedExpr a p q →
        AreWords (terminals_of op) q r → IsPlacedExpr b r u → s.start ≡ (span_of a).start → s.end ≡ (span_of b).end →
        IsPlacedExpr (Binary s op a b) p u

  pub data ArePlacedActuals : Exprs → Point → Point → Type 0 where
    no_actuals : {p : Point} → ArePlacedActuals no_exprs p p
    actuals : {es : Exprs} {p q r u : Point} → IsWord terminal.OpenParenthesis p q → ArePlacedExprs es q r →
        IsWord terminal.CloseParenthesis r u → ArePlacedActuals es p u

  -- at least one
  pub data ArePlacedExprs : Exprs → Point → Point → Type 0 where
    one_expr : {t : Expr} {p q : Point} → IsPlacedExpr t p q → ArePlacedExprs (expr_then t no_exprs) p q
    more_exprs : {t : Expr} {es : Exprs} {p q r u : Point} → IsPlacedExpr t p q → IsWord terminal.Comma q r →
        ArePlacedExprs es r u → ArePlacedExprs (expr_then t es) p u

-- ---- clauses

pub data IsPlacedClause : Clause → Point → Point → Type 0 where
  untagged : {t : Expr} {p q : Point} → IsPlacedExpr t p q → IsPlacedClause (record { tag = None; condition = t }) p q
  tagged : {x : Name} {t : Expr} {p q r u : Point} → IsPlacedName x p q → IsWord terminal.Colon q r →
      IsPlacedExpr t r u → IsPlacedClause (record { tag = Some x; condition = t }) p u

abbrev pub ArePlacedClauses : List Clause → Point → Point → Type 0
ArePlacedClauses = IsRow (IsOne IsPlacedClause) terminal.Semicolon

-- clauses under this word, if it stands there
pub data IsPlacedAssertion (m : Terminal) : List Clause → Point → Point → Type 0 where
  no_assertion : {p : Point} → IsPlacedAssertion m [] p p
  assertion : {xs : List Clause} {p q r : Point} → IsWord m p q → ArePlacedClauses xs q r → IsPlacedAssertion m xs p r

-- ---- instructions

pub data IsPlacedVariable : Variable → Point → Point → Type 0 where
  named_variable : {x : Name} {p q : Point} → IsPlacedName x p q → IsPlacedVariable (Named x) p q
  result_variable : {s : Span} {p q : Point} → IsToken (TERMINAL terminal.Result) s p q →
      IsPlacedVariable (ResultVariable s) p q

-- the call by which an object is created, if there is one
pub data IsPlacedCreationCall : Option CreationCall → Point → Point → Type 0 where
  no_call : {p : Point} → IsPlacedCreationCall None p p
  creation_call : {c : CreationCall} {p q r u : Point} → IsWord terminal.Dot p q → IsPlacedName c.name q r →
      ArePlacedActuals c.actuals r u → IsPlacedCreationCall (Some c) p u

pub data IsPlacedHead : Head → Point → Point → Type 0 where
  head : {t : Expr} {x : Name} {p q r u : Point} → IsPlacedExpr t p q → IsWord terminal.As q r → IsPlacedName x r u →
      IsPlacedHead (record { value = t; name = x }) p u

abbrev pub ArePlacedHeads : List Head → Point → Point → Type 0
ArePlacedHeads = IsRow (IsOne IsPlacedHead) terminal.Comma

mutual
  pub data IsPlacedInstr : Instr → Point → Point → Type 0 where
    assign : {v : Variable} {t : Expr} {s : Span} {p q r u : Point} → IsPlacedVariable v p q →
        IsWord terminal.Becomes q r → IsPlacedExpr t r u → s.start ≡ begin p → s.end ≡ (span_of t).end →
        IsPlacedInstr (Assign s v t) p u
    print_text : {text : List ℕ} {s n m : Span} {p q r u v : Point} →
        IsToken (NAME print_name) n p q → IsWord terminal.OpenParenthesis q r → IsToken (STRING text) m r u →
        IsWord terminal.CloseParenthesis u v → s ≡ between p v → IsPlacedInstr (PrintText s text) p v
    call : {s : Span} {t : Target} {x : Name} {es : Exprs} {p q : Point} → IsPlacedExpr (Call s t x es) p q →
        IsPlacedInstr (CallRoutine s t x es) p q
    create : {c : Creation} {s : Span} {p q r u : Point} →
        IsWord terminal.Create p q → IsPlacedVariable c.variable q r → IsPlacedCreationCall c.call r u →
        s ≡ between p u → IsPlacedInstr (Create s c) p u
    conditional : {i : Conditional} {s : Span} {p q r u v w y z : Point} →
        IsWord terminal.If p q → IsPlacedExpr i.condition q r → IsWord terminal.Then r u → ArePlacedInstrs i.body u v →
        ArePlacedBranches i.branches v w → IsPlacedElse i.other w y → IsWord terminal.End y z →
        s ≡ between p z → IsPlacedInstr (if_instr s i) p z
    loop : {i : Iteration} {s : Span} {p q r u v w y z : Point} →
        IsWord terminal.From p q → ArePlacedInstrs i.initial q r → IsWord terminal.Until r u →
        IsPlacedExpr i.until u v → IsWord terminal.Loop v w → ArePlacedInstrs i.body w y → IsWord terminal.End y z →
        s ≡ between p z → IsPlacedInstr (loop_instr s i) p z
    check : {xs : List Clause} {s : Span} {p q r u : Point} →
        IsWord terminal.Check p q → ArePlacedClauses xs q r → IsWord terminal.End r u → s ≡ between p u →
        IsPlacedInstr (Check s xs) p u
    block : {i : SeparateBlock} {s : Span} {p q r u v w : Point} →
        IsWord terminal.Separate p q → ArePlacedHeads i.heads q r → IsWord terminal.Do r u →
        ArePlacedInstrs i.body u v → IsWord terminal.End v w → s ≡ between p w → IsPlacedInstr (block_instr s i) p w

  pub data ArePlacedInstrs : Instrs → Point → Point → Type 0 where
    no_instr : {p : Point} → ArePlacedInstrs no_instrs p p
    separated : {is : Instrs} {p q r : Point} → IsWord terminal.Semicolon p q → ArePlacedInstrs is q r →
        ArePlacedInstrs is p r
    instr : {i : Instr} {is : Instrs} {p q r : Point} → IsPlacedInstr i p q → ArePlacedInstrs is q r →
        ArePlacedInstrs (instr_then i is) p r

  pub data ArePlacedBranches : Branches → Point → Point → Type 0 where
    no_branch : {p : Point} → ArePlacedBranches no_branches p p
    branch : {t : Expr} {body : Instrs} {bs : Branches} {p q r u v w : Point} →
        IsWord terminal.Elseif p q → IsPlacedExpr t q r → IsWord terminal.Then r u → ArePlacedInstrs body u v →
        ArePlacedBranches bs v w → ArePlacedBranches (branch_then t body bs) p w

  pub data IsPlacedElse : Instrs → Point → Point → Type 0 where
    no_else : {p : Point} → IsPlacedElse no_instrs p p
    otherwise : {is : Instrs} {p q r : Point} → IsWord terminal.Else p q → ArePlacedInstrs is q r → IsPlacedElse is p r

-- ---- formals and locals

-- Of `a, b: INTEGER` each name is one.
pub data IsPlacedDeclaration : List Declaration → Point → Point → Type 0 where
  declaration : {xs : List Name} {t : DeclaredType} {p q r u : Point} → ArePlacedNames xs p q →
      IsWord terminal.Colon q r → IsPlacedType t r u → IsPlacedDeclaration (map (declared_as t) xs) p u

abbrev pub ArePlacedDeclarations : List Declaration → Point → Point → Type 0
ArePlacedDeclarations = IsRow IsPlacedDeclaration terminal.Semicolon

pub data ArePlacedFormals : List Declaration → Point → Point → Type 0 where
  no_formals : {p : Point} → ArePlacedFormals [] p p
  formals : {ds : List Declaration} {p q r u : Point} → IsWord terminal.OpenParenthesis p q →
      ArePlacedDeclarations ds q r → IsWord terminal.CloseParenthesis r u → ArePlacedFormals ds p u

pub data ArePlacedLocals : List Declaration → Point → Point → Type 0 where
  no_locals : {p : Point} → ArePlacedLocals [] p p
  locals : {ds : List Declaration} {p q r : Point} → IsWord terminal.Local p q → ArePlacedDeclarations ds q r →
      ArePlacedLocals ds p r

pub data IsPlacedResult : Option DeclaredType → Point → Point → Type 0 where
  no_result : {p : Point} → IsPlacedResult None p p
  result_type : {t : DeclaredType} {p q r : Point} → IsWord terminal.Colon p q → IsPlacedType t q r →
      IsPlacedResult (Some t) p r

-- ---- features

-- Of `a, b: INTEGER` each name is a feature.
pub data IsPlacedFeature (es : List Name) : List Feature → Point → Point → Type 0 where
  attributes : {xs : List Name} {t : DeclaredType} {p q r u : Point} → ArePlacedNames xs p q →
      IsWord terminal.Colon q r → IsPlacedType t r u → IsPlacedFeature es (map (attribute_of es t) xs) p u
  attribute : {x : Name} {t : DeclaredType} {p q r u : Point} → IsPlacedName x p q → ArePlacedFormals [] q r →
      IsPlacedResult (Some t) r u → IsPlacedFeature es (attribute_of es t x ∷ []) p u
  routine : {x : Name} {d : RoutineDeclaration} {p q r u v w y z a b c : Point} →
      IsPlacedName x p q → ArePlacedFormals d.formals q r → IsPlacedResult d.result_type r u →
      IsOptional terminal.Is u v → IsPlacedAssertion terminal.Require d.precondition v w →
      ArePlacedLocals d.locals w y → IsWord terminal.Do y z → ArePlacedInstrs d.body z a →
      IsPlacedAssertion terminal.Ensure d.postcondition a b → IsWord terminal.End b c →
      IsPlacedFeature es (routine_of es x d ∷ []) p c

-- The list `{}` leaves the name NONE, at the braces.
pub data ArePlacedExports : List Name → Point → Point → Type 0 where
  no_exports : {p : Point} → ArePlacedExports [] p p
  empty_exports : {p q r : Point} → IsWord terminal.OpenBrace p q → IsWord terminal.CloseBrace q r →
      ArePlacedExports (record { text = none_name; span = between p r } ∷ []) p r
  exports : {xs : List Name} {p q r u : Point} → IsWord terminal.OpenBrace p q → ArePlacedNames xs q r →
      IsWord terminal.CloseBrace r u → ArePlacedExports (exported_to xs) p u

pub data IsPlacedSection : List Feature → Point → Point → Type 0 where
  section : {es : List Name} {fs : List Feature} {p q r u : Point} →
      IsWord terminal.Feature p q → ArePlacedExports es q r → IsRow (IsPlacedFeature es) terminal.Semicolon fs r u →
      IsPlacedSection fs p u

-- ---- classes

-- tokens among which the test finds none
pub data AreFree (stops : Kind → Bool) : Point → Point → Type 0 where
  no_token : {p : Point} → AreFree stops p p
  token : {k : Kind} {s : Span} {p q r : Point} → IsToken k s p q → stops k ≡ false → AreFree stops q r →
      AreFree stops p r

-- a note of such tokens, if any
pub data IsPlacedNote (stops : Kind → Bool) : Point → Point → Type 0 where
  no_note : {p : Point} → IsPlacedNote stops p p
  note : {p q r : Point} → IsWord terminal.Note p q → AreFree stops q r → IsPlacedNote stops p r
  indexing : {p q r : Point} → IsWord terminal.Indexing p q → AreFree stops q r → IsPlacedNote stops p r

pub data IsPlacedMark : Option ClassMark → Point → Point → Type 0 where
  no_mark : {p : Point} → IsPlacedMark None p p
  deferred : {s : Span} {p q : Point} → IsToken (TERMINAL terminal.Deferred) s p q →
      IsPlacedMark (Some (Deferred s)) p q
  expanded : {s : Span} {p q : Point} → IsToken (TERMINAL terminal.Expanded) s p q →
      IsPlacedMark (Some (Expanded s)) p q
  frozen : {s : Span} {p q : Point} → IsToken (TERMINAL terminal.Frozen) s p q → IsPlacedMark (Some (Frozen s)) p q

pub data IsPlacedParent : Parent → Point → Point → Type 0 where
  plain_parent : {x : Name} {p q : Point} → IsPlacedName x p q →
      IsPlacedParent (record { name = x; redefined = [] }) p q
  redefining : {x : Name} {ns : List Name} {p q r u v : Point} → IsPlacedName x p q → IsWord terminal.Redefine q r →
      ArePlacedNames ns r u → IsWord terminal.End u v → IsPlacedParent (record { name = x; redefined = ns }) p v

pub data ArePlacedParents : List Parent → Point → Point → Type 0 where
  no_parents : {p : Point} → ArePlacedParents [] p p
  parents : {ps : List Parent} {p q r : Point} → IsWord terminal.Inherit p q →
      IsRow (IsOne IsPlacedParent) terminal.Semicolon ps q r → ArePlacedParents ps p r

pub data ArePlacedCreators : List Name → Point → Point → Type 0 where
  no_creator : {p : Point} → ArePlacedCreators [] p p
  creators : {xs : List Name} {p q r : Point} → IsWord terminal.Create p q → ArePlacedNames xs q r →
      ArePlacedCreators xs p r

-- A class stands from its first word after a note to its `end`.
pub data IsPlacedClass : Class → Point → Point → Type 0 where
  class : {k : Class} {p q r u v w y z a b c : Point} →
      IsPlacedNote heads_class p q → IsPlacedMark k.mark q r → IsWord terminal.Class r u → IsPlacedName k.name u v →
      ArePlacedParents k.parents v w → ArePlacedCreators k.creators w y →
      AreParts IsPlacedSection k.features y z → IsPlacedAssertion terminal.Invariant k.invariant z a →
      IsPlacedNote ends_class a b → IsWord terminal.End b c →
      k.span ≡ between q c → IsPlacedClass k p c

-- the point before the first token
abbrev pub opening : List Lexeme → Point
opening ts = record { last = record { start = 0; end = 0 }; rest = ts }

-- Each part of the system stands where its tokens do, and all tokens are its.
pub data IsPlaced (s : System) (ts : List Lexeme) : Type 0 where
  placed : {p : Point} → AreParts (IsOne IsPlacedClass) s.classes (opening ts) p → p.rest ≡ [] → IsPlaced s ts
