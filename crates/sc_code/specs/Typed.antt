-- Texts whose expressions have the types that their code is emitted by, and whose object tests stand in conditions
-- alone.
use Rattle.std.specs.Prelude.{◌≡◌, ℕ, ℤ, ◌+◌, List, [], ◌∷◌, Bool, true, false, Option, Some, None, slice_get}
use Rattle.sc_text.specs.declared.token.Span.{Span}
use Rattle.sc_tree.specs.declared.expression.UnaryOperator.{UnaryOperator}
use Rattle.sc_tree.specs.declared.expression.UnaryOperator.TheVariants as unary
use Rattle.sc_tree.specs.declared.expression.BinaryOperator.{BinaryOperator}
use Rattle.sc_tree.specs.declared.expression.BinaryOperator.TheVariants as binary
use Rattle.sc_tree.specs.Plain as tree
use Rattle.sc_tree.specs.Plain.{DeclaredType, RoutineDeclaration, Name, Variable, Named, ResultVariable, Creation, Expr, Exprs, no_exprs, expr_then, Head, Clause, Instr, Instrs, no_instrs, instr_then, Branches, no_branches, branch_then}
use Rattle.sc_class.specs.declared.identity.ClassId.TheVariants as class
use Rattle.sc_tree.specs.Properties.{is_print}
use Rattle.sc_class.specs.Tables.Features.{DeclaredFeature, feature_named}
use Rattle.sc_rules.specs.declared.entity_types.tag.Tag.TheVariants as tag
use Rattle.sc_rules.specs.declared.entity_types.entity_type.EntityType.{EntityType}
use Rattle.sc_rules.specs.entity_types.Conformance.{void, integer, boolean}
use Rattle.sc_rules.specs.Names.{Entities, to_local, to_attribute, assignee, current, given_type, signature_of, test_type}
use Rattle.sc_model.specs.Olds.{olds_in}
use Rattle.sc_model.specs.Instructions.{actuals_of}
use Rattle.sc_code.specs.Places.{Setting, here, slot_named, unary_type, binary_type, names_given, with_heads, head_types, with_old}
use Rattle.sc_code.specs.Emitted.{names_of}

abbrev pub is_old : UnaryOperator → Bool
is_old unary.Old = true
is_old unary.Not = false
is_old unary.Plus = false
is_old unary.Minus = false

mutual
  -- The expression has no object test, and its value is of the type.
  pub data IsTyped (h : Setting) (n : Entities) : ℕ → Expr → EntityType → Type 0 where
    integer_value : {i : ℕ} {q : Span} {z : ℤ} → IsTyped h n i (tree.Integer q z) integer
    boolean_value : {i : ℕ} {q : Span} {b : Bool} → IsTyped h n i (tree.Boolean q b) boolean
    void_value : {i : ℕ} {q : Span} → IsTyped h n i (tree.Void q) void
    current_object : {i : ℕ} {q : Span} → IsTyped h n i (tree.Current q) (current (here h))
    -- a contract that is kept may give Result a wider type than its routine does
    result : {i : ℕ} {q : Span} {t u : EntityType} → h.result ≡ Some u → h.text.result ≡ Some (Some t) →
        IsTyped h n i (tree.Result q) t
    entity_value : {i k : ℕ} {q : Span} {x : Name} {es : Exprs} {t : EntityType} →
        slot_named x.text n ≡ Some (k, Some t) →
        IsTyped h n i (tree.Call q tree.no_target x es) t
    attribute : {i : ℕ} {q : Span} {x : Name} {es : Exprs} {f : DeclaredFeature} {d : DeclaredType} {t : EntityType} →
        slot_named x.text n ≡ None →
        feature_named h.system (class.Declared h.text.class) x.text ≡ Some f → f.feature.kind ≡ tree.Attribute d →
        given_type h.system (current (here h)) d ≡ Some t → IsTyped h n i (tree.Call q tree.no_target x es) t
    routine : {i : ℕ} {q : Span} {x : Name} {es : Exprs} {f : DeclaredFeature} {r : RoutineDeclaration} {t : EntityType}
        {ts : List EntityType} →
        slot_named x.text n ≡ None → feature_named h.system (class.Declared h.text.class) x.text ≡ Some f →
        f.feature.kind ≡ tree.Routine r →
        (signature_of h.system (current (here h)) f).gives ≡ Some (Some t) → AreTyped h n i es ts →
        IsTyped h n i (tree.Call q tree.no_target x es) t
    feature : {i : ℕ} {q : Span} {a : Expr} {x : Name} {es : Exprs} {f : DeclaredFeature} {t u : EntityType}
        {ts : List EntityType} →
        IsTyped h n i a u → feature_named h.system u.class x.text ≡ Some f →
        (signature_of h.system u f).gives ≡ Some (Some t) →
        AreTyped h n (i + olds_in a) es ts → IsTyped h n i (tree.Call q (tree.target a) x es) t
    old : {i : ℕ} {q : Span} {a : Expr} {t : EntityType} → slice_get h.olds i ≡ Some t →
        IsTyped h n i (tree.Unary q unary.Old a) t
    unary_operation : {i : ℕ} {q : Span} {op : UnaryOperator} {a : Expr} {t : EntityType} → is_old op ≡ false →
        IsTyped h n i a t →
        IsTyped h n i (tree.Unary q op a) (unary_type op)
    binary_operation : {i : ℕ} {q : Span} {op : BinaryOperator} {a b : Expr} {t u : EntityType} → IsTyped h n i a t →
        IsTyped h n (i + olds_in a) b u →
        IsTyped h n i (tree.Binary q op a b) (binary_type op)

  pub data AreTyped (h : Setting) (n : Entities) : ℕ → Exprs → List EntityType → Type 0 where
    none : {i : ℕ} → AreTyped h n i no_exprs []
    more : {i : ℕ} {e : Expr} {es : Exprs} {t : EntityType} {ts : List EntityType} → IsTyped h n i e t →
        AreTyped h n (i + olds_in e) es ts →
        AreTyped h n i (expr_then e es) (t ∷ ts)

-- The condition of an `if`: object tests, joined by `and then`, and other expressions.
pub data IsCondition (h : Setting) : Entities → ℕ → Expr → Type 0 where
  test : {n : Entities} {i : ℕ} {q : Span} {d : Option DeclaredType} {a : Expr} {x : Name} {t u : EntityType} →
      IsTyped h n i a t →
      test_type (here h) d (Some t) ≡ Some u → IsCondition h n i (tree.ObjectTest q d a x)
  both : {n : Entities} {i : ℕ} {q : Span} {a b : Expr} → IsCondition h n i a →
      IsCondition h (names_given h n i a) (i + olds_in a) b →
      IsCondition h n i (tree.Binary q binary.AndThen a b)
  plain : {n : Entities} {i : ℕ} {e : Expr} {t : EntityType} → IsTyped h n i e t → IsCondition h n i e

pub data AreHeads (h : Setting) (n : Entities) : List Head → List EntityType → Type 0 where
  no_head : AreHeads h n [] []
  more_heads : {d : Head} {ds : List Head} {t : EntityType} {ts : List EntityType} → IsTyped h n 0 d.value t →
      AreHeads h n ds ts →
      AreHeads h n (d ∷ ds) (t ∷ ts)

-- clauses that know no `old`
pub data AreClauses (h : Setting) (n : Entities) : List Clause → Type 0 where
  no_clause : AreClauses h n []
  more_clauses : {k : Clause} {ks : List Clause} {t : EntityType} → IsTyped h n 0 k.condition t → AreClauses h n ks →
      AreClauses h n (k ∷ ks)

-- clauses of a postcondition
pub data AreEnsured (h : Setting) (n : Entities) : ℕ → List Clause → Type 0 where
  no_ensured : {i : ℕ} → AreEnsured h n i []
  more_ensured : {i : ℕ} {k : Clause} {ks : List Clause} {t : EntityType} → IsTyped h n i k.condition t →
      AreEnsured h n (i + olds_in k.condition) ks → AreEnsured h n i (k ∷ ks)

pub data AreOlds : Setting → Entities → List Expr → List EntityType → Type 0 where
  no_old : {h : Setting} {n : Entities} → AreOlds h n [] []
  more_olds : {h : Setting} {n : Entities} {e : Expr} {es : List Expr} {t : EntityType} {ts : List EntityType} →
      IsTyped h n 0 e t →
      AreOlds (with_old h (Some t)) n es ts → AreOlds h n (e ∷ es) (t ∷ ts)

-- What a variable of the type stands for: a local, an attribute or Result.
pub data IsVariable (h : Setting) (n : Entities) : Variable → EntityType → Type 0 where
  local : {k : ℕ} {x : Name} {t : EntityType} {u : Option EntityType} →
      assignee (here h) n (Named x) ≡ to_local (Some t) →
      slot_named x.text n ≡ Some (k, u) → IsVariable h n (Named x) t
  own_attribute : {x : Name} {t : EntityType} → assignee (here h) n (Named x) ≡ to_attribute (Some t) →
      IsVariable h n (Named x) t
  own_result : {q : Span} {t : EntityType} → h.text.result ≡ Some (Some t) → h.result ≡ Some t →
      IsVariable h n (ResultVariable q) t

mutual
  pub data IsInstr (h : Setting) : Entities → Instr → Type 0 where
    assign : {n : Entities} {q : Span} {v : Variable} {e : Expr} {t u : EntityType} → IsTyped h n 0 e t →
        IsVariable h n v u → IsInstr h n (tree.Assign q v e)
    print_text : {n : Entities} {q : Span} {text : List ℕ} → IsInstr h n (tree.PrintText q text)
    print : {n : Entities} {q : Span} {x : Name} {e : Expr} {t : EntityType} → is_print x.text ≡ true →
        IsTyped h n 0 e t →
        IsInstr h n (tree.CallRoutine q tree.no_target x (expr_then e no_exprs))
    call : {n : Entities} {q : Span} {x : Name} {es : Exprs} {f : DeclaredFeature} {ts : List EntityType} →
        is_print x.text ≡ false →
        feature_named h.system (class.Declared h.text.class) x.text ≡ Some f →
        (signature_of h.system (current (here h)) f).gives ≡ None →
        AreTyped h n 0 es ts → IsInstr h n (tree.CallRoutine q tree.no_target x es)
    call_on : {n : Entities} {q : Span} {a : Expr} {x : Name} {es : Exprs} {f : DeclaredFeature} {u : EntityType}
        {ts : List EntityType} →
        IsTyped h n 0 a u → feature_named h.system u.class x.text ≡ Some f → (signature_of h.system u f).gives ≡ None →
        AreTyped h n 0 es ts →
        IsInstr h n (tree.CallRoutine q (tree.target a) x es)
    create : {n : Entities} {q : Span} {c : Creation} {t : EntityType} {k : ℕ} {ts : List EntityType} →
        AreTyped h n 0 (actuals_of c.call) ts →
        IsVariable h n c.variable t → t.tag ≡ tag.Own → t.class ≡ class.Declared k → IsInstr h n (tree.Create q c)
    create_handler : {n : Entities} {q : Span} {c : Creation} {t : EntityType} {k : ℕ} {ts : List EntityType} →
        AreTyped h n 0 (actuals_of c.call) ts →
        IsVariable h n c.variable t → t.tag ≡ tag.Any → t.class ≡ class.Declared k → IsInstr h n (tree.Create q c)
    conditional : {n : Entities} {q : Span} {e : Expr} {body other : Instrs} {bs : Branches} → IsCondition h n 0 e →
        AreInstrs h (names_given h n 0 e) body →
        AreBranches h n bs → AreInstrs h n other → IsInstr h n (tree.If q e body bs other)
    loop : {n : Entities} {q : Span} {e : Expr} {initial body : Instrs} {t : EntityType} → AreInstrs h n initial →
        IsTyped h n 0 e t → AreInstrs h n body →
        IsInstr h n (tree.Loop q initial e body)
    check : {n : Entities} {q : Span} {ks : List Clause} → AreClauses h n ks → IsInstr h n (tree.Check q ks)
    block : {n : Entities} {q : Span} {ds : List Head} {body : Instrs} {ts : List EntityType} → AreHeads h n ds ts →
        AreInstrs h (with_heads (names_of ds) (head_types h n ds) n) body → IsInstr h n (tree.Block q ds body)

  pub data AreInstrs (h : Setting) : Entities → Instrs → Type 0 where
    no_instr : {n : Entities} → AreInstrs h n no_instrs
    more_instrs : {n : Entities} {i : Instr} {is : Instrs} → IsInstr h n i → AreInstrs h n is →
        AreInstrs h n (instr_then i is)

  pub data AreBranches (h : Setting) : Entities → Branches → Type 0 where
    no_branch : {n : Entities} → AreBranches h n no_branches
    more_branches : {n : Entities} {e : Expr} {body : Instrs} {bs : Branches} → IsCondition h n 0 e →
        AreInstrs h (names_given h n 0 e) body →
        AreBranches h n bs → AreBranches h n (branch_then e body bs)
