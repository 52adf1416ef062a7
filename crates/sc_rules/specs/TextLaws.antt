-- Laws of the contracts, invariants, conditions and separate blocks of well-formed systems.
use Rattle.std.specs.Prelude.{◌≡◌, ℕ, Bool, true, Some, Contains, slice_get}
use Rattle.sc_text.specs.declared.token.Span.{Span}
use Rattle.sc_tree.specs.Plain.{Class, Clause, Head, Name, Expr, Target, Exprs, SeparateBlock, block_instr}
use Rattle.sc_class.specs.Tables.Conformance.{is_expanded}
use Rattle.sc_rules.specs.declared.entity_types.entity_type.EntityType.{EntityType}
use Rattle.sc_rules.specs.entity_types.Conformance.{conforms}
use Rattle.sc_rules.specs.declared.position.Context.{Context}
use Rattle.sc_rules.specs.declared.position.Context.TheVariants as context
use Rattle.sc_rules.specs.declared.position.Position.{Position}
use Rattle.sc_rules.specs.declared.position.Position.TheVariants.{Plain, Condition, Source}
use Rattle.sc_rules.specs.declared.position.Use.{Use}
use Rattle.sc_rules.specs.Types.{is_boolean}
use Rattle.sc_rules.specs.Names.{RoutineContext, Entities, of_expanded, Signature, named, meaning_of}
use Rattle.sc_rules.specs.Typing.{Typing, typing, HasType, HasReceiver, Gives}
use Rattle.sc_rules.specs.Sites.{Site, expression, instruction, Reserves}
use Rattle.sc_rules.specs.CallRules.{ActualAt}
use Rattle.sc_rules.specs.TextRules.{separate_any}
use Rattle.sc_rules.specs.SystemRules.{is_formula}
use Rattle.sc_rules.specs.SystemLaws.{IsText, Stands, WhereWellFormed, CallsWith}

-- Each head of a separate block is an attached reference.
abbrev pub HeadsConform : Type 0
HeadsConform = WhereWellFormed λ s pure. (h : RoutineContext) (n : Entities) (p : Span) (block : SeparateBlock) →
    Stands s pure h (instruction n (block_instr p block)) → (d : Head) → Contains block.heads d →
    (t : EntityType) (is_separate : Bool) →
    HasType h context.Body Plain n d.value (typing (Some t) is_separate) → conforms h.system t separate_any ≡ true

-- What takes a value of an expanded class alone, as `print` does, is given one.
abbrev pub PrintTakesValues : Type 0
PrintTakesValues = WhereWellFormed λ s pure. (h : RoutineContext) (b : Site) (u : Use) (c : Context) (n : Entities)
    (a : Target) (x : Name) (es : Exprs) →
    Stands s pure h b → CallsWith b u c n a x es → (r : Typing) (g : Signature) → HasReceiver h c n a r →
    meaning_of h n a r.type x ≡ named g →
    (i : ℕ) (e : Expr) (t : EntityType) (is_separate : Bool) → ActualAt e es i →
    slice_get g.formals i ≡ Some of_expanded →
    HasType h c Source n e (typing (Some t) is_separate) → is_expanded t.class ≡ true

-- Each clause of a contract or an invariant is of type BOOLEAN (ECMA-367, 8.9.2).
abbrev pub ClausesAreBoolean : Type 0
ClausesAreBoolean = WhereWellFormed λ s pure. (h : RoutineContext) (c : Context) (k : Position) (n : Entities)
    (e : Expr) →
    IsText s pure h (expression c k n e) → (t : EntityType) (is_separate : Bool) →
    HasType h c k n e (typing (Some t) is_separate) →
    is_boolean t.class ≡ true

-- Each clause of an invariant is a formula over the attributes of its class.
abbrev pub InvariantsAreFormulas : Type 0
InvariantsAreFormulas = WhereWellFormed λ s pure. (k : ℕ) (c : Class) (q : Clause) → slice_get s.classes k ≡ Some c →
    Contains c.invariant q →
    is_formula s k q.condition ≡ true

-- Each condition binds its names, and they are in scope wherever it holds.
abbrev pub ConditionsGive : Type 0
ConditionsGive = WhereWellFormed λ s pure. (h : RoutineContext) (c : Context) (n : Entities) (e : Expr) →
    Stands s pure h (expression c Condition n e) →
    (m : Entities) × Gives h c n e m

-- Each separate block gives names, which are known in its body.
abbrev pub BlocksReserve : Type 0
BlocksReserve = WhereWellFormed λ s pure. (h : RoutineContext) (n : Entities) (p : Span) (block : SeparateBlock) →
    Stands s pure h (instruction n (block_instr p block)) → (m : Entities) × Reserves h n n block.heads m
