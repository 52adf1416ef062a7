-- Which fault is told first, computed for texts of which near rules would tell another.
use Rattle.std.proofs.Common.{◌≡◌, ℕ, Bool, true, false, List, [], ◌∷◌, Option, Some, None, Err, refl}
use Rattle.std.specs.Prelude.{codes, pos}
use Rattle.sc_text.specs.declared.token.Span.{Span}
use Rattle.sc_tree.specs.declared.expression.UnaryOperator.TheVariants as unary
use Rattle.sc_tree.specs.declared.expression.BinaryOperator.TheVariants as binary
use Rattle.sc_tree.specs.Plain as plain
use Rattle.sc_tree.specs.Plain.{Feature, Name, Declaration, DeclaredType, HandlerTag, Own, Separate, HandlerOf, Expr, Exprs, no_exprs, expr_then, no_target, target, Instr, no_instrs}
use Rattle.sc_class.specs.declared.identity.ClassId.TheVariants as class
use Rattle.sc_rules.specs.declared.entity_types.tag.Reserved.TheVariants.{Formal}
use Rattle.sc_rules.specs.declared.entity_types.tag.Tag.TheVariants as tag
use Rattle.sc_rules.specs.declared.rule.Rule.TheVariants.{UnknownName, WrongArity, ArgumentType, PreconditionArgument, OldPlace}
use Rattle.sc_rules.specs.declared.position.Context.{Context}
use Rattle.sc_rules.specs.declared.position.Context.TheVariants as context
use Rattle.sc_rules.specs.declared.position.Position.TheVariants.{Plain}
use Rattle.sc_rules.specs.declared.position.Role.TheVariants as role
use Rattle.sc_rules.specs.Names.{RoutineContext, Entities, entity}
use Rattle.sc_rules.specs.Typing.{Typing}
use Rattle.sc_rules.specs.Judging.{Judged, fault, judge, judge_receiver, judged_actuals}
use Rattle.sc_rules.specs.JudgingText.{judge_instr}

-- ---- texts

abbrev at : ℕ → Span
at n = record { start = n; end = n }

abbrev name : List ℕ → ℕ → Name
name x n = record { text = x; span = at n }

abbrev type : Bool → HandlerTag → List ℕ → DeclaredType
type b g c = record { span = at 0; is_detachable = b; tag = g; class = name c 0 }

abbrev formal : List ℕ → DeclaredType → Declaration
formal x t = record { name = name x 0; declared_type = t }

abbrev routine : List ℕ → List Declaration → Option DeclaredType → Feature
routine x formals result =
    record {
      exports = [];
      name = name x 0;
      kind = plain.Routine (record { formals = formals; result_type = result; precondition = []; locals = []; body = no_instrs; postcondition = [] });
    }

-- asks (y: detachable A): INTEGER
abbrev asks : Feature
asks = routine (codes "asks") (formal (codes "y") (type true Own (codes "a")) ∷ []) (Some (type false Own (codes "integer")))

-- two (p: separate <q.handler> ANY; q: separate ANY)
abbrev two : Feature
two = routine (codes "two") (formal (codes "p") (type false (HandlerOf (name (codes "q") 0)) (codes "any")) ∷ formal (codes "q") (type false Separate (codes "any")) ∷ []) None

-- three (p: separate <r.handler> A; q: A; r: separate A)
abbrev three : Feature
three = routine (codes "three") (formal (codes "p") (type false (HandlerOf (name (codes "r") 0)) (codes "a")) ∷ formal (codes "q") (type false Own (codes "a")) ∷ formal (codes "r") (type false Separate (codes "a")) ∷ []) None

-- maybe (p: detachable separate <q.handler> A; q: separate A)
abbrev maybe : Feature
maybe = routine (codes "maybe") (formal (codes "p") (type true (HandlerOf (name (codes "q") 0)) (codes "a")) ∷ formal (codes "q") (type false Separate (codes "a")) ∷ []) None

-- in a procedure of the class A that has these features
abbrev here : RoutineContext
here =
    record {
      system = record {
        classes = record { span = at 0; mark = None; name = name (codes "a") 0; parents = []; creators = []; features = asks ∷ two ∷ three ∷ maybe ∷ []; invariant = [] } ∷ [];
      };
      class = 0;
      formals = [];
      result = None;
      pure = λ f. true;
    }

-- an attached formal x of type separate A
abbrev known : Entities
known = entity (codes "x") (Some (record { attached = true; tag = tag.With (Formal 0); class = class.Declared 0 })) role.Formal ∷ []

abbrev one : ℕ → Expr
one n = plain.Integer (at n) (pos 1)

abbrev void : ℕ → Expr
void n = plain.Void (at n)

abbrev entity_at : List ℕ → ℕ → Expr
entity_at x n = plain.Call (at n) no_target (name x n) no_exprs

-- x.asks (e)
abbrev asked : Expr → Expr
asked e = plain.Call (at 3) (target (entity_at (codes "x") 3)) (name (codes "asks") 4) (expr_then e no_exprs)

abbrev old_at : ℕ → Expr → Expr
old_at n e = plain.Unary (at n) unary.Old e

abbrev sum : Expr → Expr → Expr
sum a b = plain.Binary (at 2) binary.Plus a b

abbrev judged : Context → Expr → Judged Typing
judged c e = judge here c Plain known e

-- ---- `old`

-- in a precondition the reference that a separate call passes is told before the `old` around it
reference_below_old : judged context.Require (old_at 1 (asked (void 5))) ≡ Err (fault PreconditionArgument (at 5))
unfolding judge judge_receiver judged_actuals
reference_below_old = refl

-- and before a name that stands behind it and isn't known
reference_before_name : judged context.Require (old_at 1 (sum (asked (void 5)) (entity_at (codes "m") 6))) ≡ Err (fault PreconditionArgument (at 5))
unfolding judge judge_receiver judged_actuals
reference_before_name = refl

-- but behind one that stands in front of it
name_before_reference : judged context.Require (old_at 1 (sum (entity_at (codes "m") 2) (asked (void 5)))) ≡ Err (fault UnknownName (at 2))
unfolding judge judge_receiver judged_actuals
name_before_reference = refl

reference_below_two : judged context.Require (old_at 0 (old_at 1 (asked (void 5)))) ≡ Err (fault PreconditionArgument (at 5))
unfolding judge judge_receiver judged_actuals
reference_below_two = refl

-- the inner one of two
old_below_old : judged context.Require (old_at 0 (old_at 1 (one 2))) ≡ Err (fault OldPlace (at 1))
unfolding judge
old_below_old = refl

-- elsewhere the `old` is at fault
old_in_ensure : judged context.Ensure (old_at 1 (asked (void 5))) ≡ Err (fault OldPlace (at 1))
unfolding judge judge_receiver judged_actuals
old_in_ensure = refl

old_in_check : judged context.Check (old_at 1 (asked (void 5))) ≡ Err (fault OldPlace (at 1))
unfolding judge judge_receiver judged_actuals
old_in_check = refl

old_in_body : judged context.Body (old_at 1 (asked (void 5))) ≡ Err (fault OldPlace (at 1))
unfolding judge judge_receiver judged_actuals
old_in_body = refl

-- ---- missing actuals

abbrev called : List ℕ → Exprs → Instr
called x es = plain.CallRoutine (at 0) no_target (name x 1) es

-- two (1)
value_beside_none : judge_instr here known (called (codes "two") (expr_then (one 2) no_exprs)) ≡ Err (fault ArgumentType (at 2))
unfolding judge judge_receiver judged_actuals judge_instr
value_beside_none = refl

-- two (x)
reference_beside_none : judge_instr here known (called (codes "two") (expr_then (entity_at (codes "x") 2) no_exprs)) ≡ Err (fault ArgumentType (at 2))
unfolding judge judge_receiver judged_actuals judge_instr
reference_beside_none = refl

-- three (1, 1)
first_of_two : judge_instr here known (called (codes "three") (expr_then (one 2) (expr_then (one 3) no_exprs))) ≡ Err (fault ArgumentType (at 2))
unfolding judge judge_receiver judged_actuals judge_instr
first_of_two = refl

-- maybe (Void): Void is of any handler
void_beside_none : judge_instr here known (called (codes "maybe") (expr_then (void 2) no_exprs)) ≡ Err (fault WrongArity (at 1))
unfolding judge judge_receiver judged_actuals judge_instr
void_beside_none = refl

-- two (1, m): the mistake is in the actual that the tag names
value_beside_mistake : judge_instr here known (called (codes "two") (expr_then (one 2) (expr_then (entity_at (codes "m") 3) no_exprs))) ≡ Err (fault UnknownName (at 3))
unfolding judge judge_receiver judged_actuals judge_instr
value_beside_mistake = refl
