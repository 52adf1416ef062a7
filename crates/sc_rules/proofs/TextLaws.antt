-- The laws of contracts, invariants, conditions and separate blocks of well-formed systems.
use Rattle.std.proofs.Common.{◌≡◌, ◌<◌, ℕ, zero, suc, Bool, true, false, List, [], ◌∷◌, ◌++◌, length, Some, refl, subst, arith}
use Rattle.std.specs.Prelude.{Any, Contains, slice_get}
use Rattle.sc_text.specs.declared.token.Span.{Span}
use Rattle.sc_tree.specs.Plain.{Routine, Head, Expr, Exprs, block_instr}
use Rattle.sc_class.specs.Tables.Conformance.{is_expanded}
use Rattle.sc_rules.specs.declared.entity_types.entity_type.EntityType.{EntityType}
use Rattle.sc_rules.specs.entity_types.Conformance.{conforms}
use Rattle.sc_rules.specs.declared.rule.Rule.{Rule}
use Rattle.sc_rules.specs.declared.position.Context.{Context}
use Rattle.sc_rules.specs.declared.position.Context.TheVariants as context
use Rattle.sc_rules.specs.declared.position.Position.TheVariants.{Plain, Source}
use Rattle.sc_rules.specs.declared.position.Role.TheVariants as role
use Rattle.sc_rules.specs.Types.{is_boolean}
use Rattle.sc_rules.specs.Positions.{span_of}
use Rattle.sc_rules.specs.Names.{RoutineContext, Entities, entity, blocks, block_type, FormalType, of_expanded}
use Rattle.sc_rules.specs.Typing.{Typing, typing, HasType}
use Rattle.sc_rules.specs.Sites.{expression, instruction, Reserves, no_more, one_more, head_part, itself, inside}
use Rattle.sc_rules.specs.CallRules.{ActualAt, actual_here, actual_later, Untaken, reference, Mismatches, first_pair, later_pair, argument}
use Rattle.sc_rules.specs.TextRules.{separate_any, head, not_boolean, clause_type, at_instruction}
use Rattle.sc_rules.specs.SystemRules.{may_be_formula, in_class, in_invariant, form, in_invariant_clause, precondition, postcondition}
use Rattle.sc_rules.specs.TextLaws.{HeadsConform, PrintTakesValues, ClausesAreBoolean, InvariantsAreFormulas, ConditionsGive, BlocksReserve}
use Rattle.sc_rules.specs.Judging.{Judged}
use Rattle.sc_rules.specs.SystemLaws as laws
use Rattle.sc_rules.specs.SystemLaws.{IsText, Stands, stands_in, WhereWellFormed, CallsWith}
use Rattle.sc_rules.proofs.Refusals.{Gave, gave, refuses}
use Rattle.sc_rules.proofs.Sound.{told, told_given}
use Rattle.sc_rules.proofs.TypeLaws.{declared}
use Rattle.sc_rules.proofs.Formulas.{formula_if_may}
use Rattle.sc_rules.proofs.WellFormed.{further, feature_fails, none_fails, none_at, call_fails}

holds : (b : Bool) → (b ≡ false → ⊥) → b ≡ true
holds true f = refl
holds false f = absurd (f refl)

one_of : {A : Type 0} (P : A → Type 0) (xs : List A) (x : A) → Contains xs x → P x → Any P xs
one_of P xs x (k, l, e) p = (k, x, l, e, p)

gave_only : {A : Type 0} {Q : A → Type 0} {P : Rule → Span → Type 0} {j : Judged A} → Gave Q P j →
    ((r : Rule) (p : Span) → P r p → ⊥) → (x : A) × Q x
gave_only (gave {x} q) n = (x, q)
gave_only (refuses {f} p) n = absurd (n f.rule f.span p)

pub heads_conform : HeadsConform
heads_conform s pure w i h n p block v d m t b j = holds (conforms h.system t separate_any)
    (λ f. none_at w i v _ _ (at_instruction (head m j f)))

mismatch_at : {h : RoutineContext} {c : Context} {n : Entities} {all : Exprs} {t : EntityType} {e : Expr} {es : Exprs}
    {i : ℕ} → ActualAt e es i →
    (fs : List FormalType) (f : FormalType) →
    slice_get fs i ≡ Some f → (a : EntityType) (b : Bool) → HasType h c Source n e (typing (Some a) b) →
    Untaken h c n all t f a → Mismatches h c n all t fs es (span_of e)
mismatch_at actual_here [] f j a b d u = cc
mismatch_at {h} {c} {n} {all} {t} actual_here (g ∷ fs) f j a b d u =
    first_pair d (subst (λ f. Untaken h c n all t f a) (same_formal g f j) u)
  where
    same_formal : (g f : FormalType) → Some g ≡ Some f → f ≡ g
    same_formal g f j = cc
mismatch_at (actual_later k) [] f j a b d u = cc
mismatch_at (actual_later k) (g ∷ fs) f j a b d u = later_pair (mismatch_at k fs f j a b d u)

pub print_takes_values : PrintTakesValues
print_takes_values s pure w i h b u c n a x es v j r g d m k e t q l o z =
    holds (is_expanded t.class) (λ f. none_at w i v _ _ (call_fails j _ (span_of e) (argument d m (mismatch_at l g.formals of_expanded o t q z (reference f)))))

pub clauses_are_boolean : ClausesAreBoolean
clauses_are_boolean s pure w i h c k n e (laws.precondition {f} {routine} j m z l) t b d =
    holds (is_boolean t.class) (λ u. w _ _ (feature_fails s pure _ _ f (Routine routine) _ _ i j m z
    (precondition (one_of _ routine.precondition _ l (clause_type (not_boolean d u))))))
clauses_are_boolean s pure w i h c k n e (laws.postcondition {f} {routine} j m z l) t b d =
    holds (is_boolean t.class) (λ u. w _ _ (feature_fails s pure _ _ f (Routine routine) _ _ i j m z
    (postcondition (one_of _ routine.postcondition _ l (clause_type (not_boolean d u))))))
clauses_are_boolean s pure w i h c k n e (laws.invariant {c = class} j l) t b d =
    holds (is_boolean t.class) (λ u. w _ _ (in_class i j (in_invariant (one_of _ class.invariant _ l (in_invariant_clause (clause_type (not_boolean d u)))))))

pub invariants_are_formulas : InvariantsAreFormulas
invariants_are_formulas s pure w i k c q j l =
    formula_if_may s (declared s pure i w) k q.condition
    (holds (may_be_formula s k q.condition) (λ f. w _ _ (in_class i j (in_invariant (one_of _ c.invariant q l (form f))))))

pub conditions_give : ConditionsGive
conditions_give s pure w i h c n e v = gave_only (told_given h c n e) (none_fails w i v)

first_of : {A : Type 0} (x : A) (xs : List A) → Contains (x ∷ xs) x
first_of x xs = (zero, omega arith, refl)

later_of : {A : Type 0} (x y : A) (xs : List A) → Contains xs x → Contains (y ∷ xs) x
later_of x y xs (k, l, e) = (suc k, more l, e)
  where
    more : k < length xs → suc k < suc (length xs)
    more l = omega (arith, l)

reserved : (h : RoutineContext) (n m : Entities) (ds : List Head) →
    ((d : Head) → Contains ds d → (t : Typing) × HasType h context.Body Plain n d.value t) →
    (o : Entities) × Reserves h n m ds o
reserved h n m [] f = (m, no_more)
reserved h n m (d ∷ ds) f = behind (f d (first_of d ds)) (λ k. reserved h n k ds (λ x l. f x (later_of x d ds l)))
  where
    more : (t : Typing) → HasType h context.Body Plain n d.value t →
        (o : Entities) × Reserves h n (m ++ entity d.name.text (block_type (blocks m) t.type) role.Block ∷ []) ds o →
        (o : Entities) × Reserves h n m (d ∷ ds) o
    more t z (o, y) = (o, one_more z y)

    behind : (t : Typing) × HasType h context.Body Plain n d.value t →
        ((k : Entities) → (o : Entities) × Reserves h n k ds o) → (o : Entities) × Reserves h n m (d ∷ ds) o
    behind (t, z) g = more t z (g (m ++ entity d.name.text (block_type (blocks m) t.type) role.Block ∷ []))

pub blocks_reserve : BlocksReserve
blocks_reserve s pure w i h n p block v =
    reserved h n n block.heads (λ d l. gave_only (told h context.Body Plain n d.value) (none_fails w i (at_head d l v)))
  where
    at_head : (d : Head) → Contains block.heads d → Stands s pure h (instruction n (block_instr p block)) →
        Stands s pure h (expression context.Body Plain n d.value)
    at_head d l (stands_in t u) = stands_in t (further u (inside (head_part l) itself))
