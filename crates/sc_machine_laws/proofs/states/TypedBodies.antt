-- A routine begins typed, also where it keeps the contract of a routine that it redefines, and its formals are bound to what fits.
use Rattle.std.specs.List.{list_all}
use Rattle.std.specs.Prelude.{Contains, length, slice_get}
use Rattle.std.proofs.Common.{◌+◌, ◌++◌, Bool, List, Some, [], ap, append-nil, append_assoc, arith, false, inl, inr, not, refl, subst, suc, sym, true, zero, ℕ, ◌∙◌, ◌∷◌, ◌≡◌}
use Rattle.sc_tree.specs.Plain as tree
use Rattle.sc_tree.specs.Plain.{Clause, Declaration, Expr, Exprs, System}
use Rattle.sc_tree.specs.declared.expression.BinaryOperator.{BinaryOperator}
use Rattle.sc_tree.specs.declared.expression.UnaryOperator.TheVariants as unary
use Rattle.sc_rules.specs.declared.entity_types.entity_type.EntityType.{EntityType}
use Rattle.sc_rules.specs.Laws.{AllDeclared, HasResult, are_declared, are_typed}
use Rattle.sc_rules.specs.Names.{Entities, Entity, RoutineName, formal_entities, formals_known, locals_known}
use Rattle.sc_rules.specs.Positions.{is_condition, shares_names}
use Rattle.sc_rules.specs.Sites.{instructions}
use Rattle.sc_rules.specs.SystemLaws.{Stands}
use Rattle.sc_rules.specs.Types.{is_boolean}
use Rattle.sc_rules.specs.Typing as typing
use Rattle.sc_rules.specs.Typing.{HasType, HasTypes, Typing, typing}
use Rattle.sc_rules.specs.declared.position.Context.{Context}
use Rattle.sc_rules.specs.declared.position.Context.TheVariants as context
use Rattle.sc_rules.specs.declared.position.Position.{Position}
use Rattle.sc_rules.specs.declared.position.Position.TheVariants.{Condition, Plain, Source}
use Rattle.sc_rules.proofs.OldOperands.{operand_of_old}
use Rattle.sc_rules.proofs.Typings.{every_typed}
use Rattle.sc_model.specs.Environments.{is_formal}
use Rattle.sc_model.specs.Olds.{olds_in, olds_of, olds_of_clauses, olds_of_each}
use Rattle.sc_model.specs.Routines.{Routine, Text, place_in}
use Rattle.sc_model.specs.Tasks.{Declare, Do, Forget, In, Task, ensures, keeps_olds, requires, tasks_of}
use Rattle.sc_machine_laws.specs.states.Points.{Each}
use Rattle.sc_machine_laws.specs.states.Typed as typed
use Rattle.sc_machine_laws.specs.states.Typed.{AreKept, IsOf, IsTyped, at, context_in}
use Rattle.sc_machine_laws.proofs.states.Applications.{plain_operand}
use Rattle.sc_machine_laws.proofs.states.Lists.{each_append}
use Rattle.sc_machine_laws.proofs.states.Names.{some_there}
use Rattle.sc_machine_laws.proofs.states.Olds.{kept_back, kept_front, kept_outside}

-- ---- `old`s

-- an operand of `old` has a type
abbrev IsOldTyped : System → Text → Entities → Expr → Type 0
IsOldTyped s t n a = (u : EntityType) × (b : Bool) × HasType (place_in s t) context.Old Plain n a (typing (Some u) b)

not_joined : (q : Position) (op : BinaryOperator) → is_condition q ≡ false → shares_names q op ≡ true → ⊥
not_joined Plain op e f = cc
not_joined Source op e f = cc
not_joined Condition op e f = cc

module _ (s : System) (declared_all : AllDeclared s) (t : Text) (has : HasResult (place_in s t)) (n : Entities) (n_typed : are_typed n ≡ true) where
  mutual
    olds_typed : {c : Context} {q : Position} {e : Expr} {y : Typing} → is_condition q ≡ false → HasType (place_in s t) c q n e y → Each (IsOldTyped s t n) (olds_of e)
    olds_typed i typing.number = tt
    olds_typed i typing.truth = tt
    olds_typed i (typing.void e) = tt
    olds_typed i typing.current_object = tt
    olds_typed i (typing.result e) = tt
    olds_typed i (typing.call typing.implicit m z ds f p l v y w) = each_old_typed ds
    olds_typed i (typing.call {a = tree.target a} {es} (typing.explicit d) m z ds f p l v y w) =
        each_append (IsOldTyped s t n) (olds_of a) (olds_of_each es) (olds_typed refl d) (each_old_typed ds)
    olds_typed i (typing.untyped_target_call {a} {es} (typing.explicit d) e ds) = each_append (IsOldTyped s t n) (olds_of a) (olds_of_each es) (olds_typed refl d) (each_old_typed ds)
    olds_typed {c} i (typing.unary {op = unary.Old} {a} {t = y} d o e) = (of_type (some_there y.type (every_typed declared_all has n_typed d)), tt)
      where
        of_type : (u : EntityType) × (y.type ≡ Some u) → IsOldTyped s t n a
        of_type (u, i) = (u, y.is_separate, subst (λ o. HasType (place_in s t) context.Old Plain n a (typing o y.is_separate)) i (operand_of_old c d o))
    olds_typed i (typing.unary {op = unary.Not} d o e) = olds_typed refl d
    olds_typed i (typing.unary {op = unary.Plus} d o e) = olds_typed refl d
    olds_typed i (typing.unary {op = unary.Minus} d o e) = olds_typed refl d
    olds_typed i (typing.binary {op} {a} {b} j d d' e) = each_append (IsOldTyped s t n) (olds_of a) (olds_of b) (olds_typed (plain_operand op) d) (olds_typed (plain_operand op) d')
    olds_typed {q} i (typing.and_then {op} j d g d' e) = absurd (not_joined q op i j)
    olds_typed i (typing.test e d) = cc

    each_old_typed : {c : Context} {es : Exprs} {ts : List Typing} → HasTypes (place_in s t) c n es ts → Each (IsOldTyped s t n) (olds_of_each es)
    each_old_typed typing.none = tt
    each_old_typed (typing.more {e} {es} d ds) = each_append (IsOldTyped s t n) (olds_of e) (olds_of_each es) (olds_typed refl d) (each_old_typed ds)

  -- values of `old` of these types are kept
  record OldsThere (es : List Expr) : Type 0 where
    pub types : List EntityType
    pub kept : AreKept s t n 0 es types
    pub typed : (pure : RoutineName → Bool) (r : Routine) (os : List EntityType) (k : List Task) → IsTyped s pure r k (at t n (os ++ types) []) → IsTyped s pure r (keeps_olds es ++ k) (at t n os [])

  olds_there : list_all (λ (e : Entity). is_formal e.role) n ≡ true → (es : List Expr) → Each (IsOldTyped s t n) es → OldsThere es
  olds_there w [] f = record { types = []; kept = λ j a e. cc; typed = λ pure r os k d. subst (λ os. IsTyped s pure r k (at t n os [])) (append-nil os) d }
  olds_there w (e ∷ es) f = of_rest f.0 (olds_there w es f.1)
    where
      of_rest : IsOldTyped s t n e → OldsThere es → OldsThere (e ∷ es)
      of_rest (u, b, d) z = record {
        types = u ∷ z.types;
        kept = kept;
        typed = λ pure r os k f. typed.eval context.Old Plain refl (b, d) (kept_outside s t n os 0 refl d)
            (typed.keep_old w (z.typed pure r (os ++ u ∷ []) k (subst (λ os. IsTyped s pure r k (at t n os [])) (sym (append_assoc os (u ∷ []) z.types)) f)));
      }
        where
          kept : AreKept s t n 0 (e ∷ es) (u ∷ z.types)
          kept zero a i = let q : e ≡ a = cc in (u, b, subst (λ a. HasType (place_in s t) context.Old Plain n a (typing (Some u) b)) q d, refl)
          kept (suc j) a i = let f = z.kept j a i in let q : 0 + suc j ≡ suc (0 + j) = omega arith in (f.0, f.1, f.2, ap (slice_get (u ∷ z.types)) q ∙ f.3)

  -- a clause is a truth value
  abbrev IsClause : Context → Clause → Type 0
  IsClause c q = (a : EntityType) × IsOf s t c Plain n q.condition a × (is_boolean a.class ≡ true)

  clauses_olds : (ks : List Clause) → ((q : Clause) → Contains ks q → IsClause context.Ensure q) → Each (IsOldTyped s t n) (olds_of_clauses ks)
  clauses_olds [] f = tt
  clauses_olds (k ∷ ks) f = each_append (IsOldTyped s t n) (olds_of k.condition) (olds_of_clauses ks) (olds_typed refl (f k (zero, omega arith, refl)).1.1)
      (clauses_olds ks (λ q i. f q (suc i.0, omega (arith, i.1), i.2)))

  ensures_typed : (pure : RoutineName → Bool) (r : Routine) → t ≡ r.contract → (os : List EntityType) (i : ℕ) (ks : List Clause) → ((q : Clause) → Contains ks q → IsClause context.Ensure q) →
      AreKept s t n i (olds_of_clauses ks) os → IsTyped s pure r (ensures i ks) (at t n os [])
  ensures_typed pure r own os i [] f k = typed.done own
  ensures_typed pure r own os i (c ∷ ks) f k =
      let z = f c (zero, omega arith, refl) in
      typed.eval context.Ensure Plain refl z.1 (kept_front s t n os i (olds_of c.condition) (olds_of_clauses ks) k)
      (typed.ensured z.2 (ensures_typed pure r own os (i + olds_in c.condition) ks (λ q i. f q (suc i.0, omega (arith, i.1), i.2))
      (kept_back s t n os i (olds_of c.condition) (olds_of_clauses ks) k)))

-- ---- names

formals_alone_known : (s : System) (all : List Declaration) (i : ℕ) (ds : List Declaration) → list_all (λ (e : Entity). is_formal e.role) (formal_entities s all i ds) ≡ true
formals_alone_known s all i [] = refl
formals_alone_known s all i (d ∷ ds) = formals_alone_known s all (i + 1) ds

no_formals_known : (s : System) (formals ds : List Declaration) → list_all (λ (e : Entity). not (is_formal e.role)) (locals_known s formals ds) ≡ true
no_formals_known s formals [] = refl
no_formals_known s formals (d ∷ ds) = no_formals_known s formals ds

formals_length : (s : System) (all : List Declaration) (i : ℕ) (ds : List Declaration) → length ds ≡ length (formal_entities s all i ds)
formals_length s all i [] = refl
formals_length s all i (d ∷ ds) = ap suc (formals_length s all (i + 1) ds)

-- ---- a routine

module _ (s : System) (pure : RoutineName → Bool) (r : Routine) (declared_all : AllDeclared s) (has : HasResult (place_in s r.contract)) (names_typed : are_typed (formals_known s r.text.formals) ≡ true)
    (requires_stand : (q : Clause) → Contains r.require q → IsClause s declared_all r.contract has (formals_known s r.text.formals) names_typed context.Require q)
    (ensures_stand : (q : Clause) → Contains r.ensure q → IsClause s declared_all r.contract has (formals_known s r.text.formals) names_typed context.Ensure q)
    (locals_declared : are_declared s r.text.formals r.locals ≡ true)
    (body_stands : Stands s pure (context_in s pure r.text) (instructions (formals_known s r.text.formals ++ locals_known s r.text.formals r.locals) r.body)) where
  rest : List Task
  rest = In r.text ∷ Declare r.locals ∷ Do r.body ∷ Forget (length r.text.formals) ∷ In r.contract ∷ ensures 0 r.ensure

  body_typed : (os : List EntityType) → AreKept s r.contract (formals_known s r.text.formals) 0 (olds_of_clauses r.ensure) os →
      IsTyped s pure r (In r.text ∷ Declare r.locals ∷ Do r.body ∷ Forget (length r.text.formals) ∷ In r.contract ∷ ensures 0 r.ensure) (at r.contract (formals_known s r.text.formals) os [])
  body_typed os k = typed.in_text (inl refl) (typed.declare refl locals_declared (typed.body refl body_stands
      (typed.forget (formals_length s r.text.formals 0 r.text.formals)
      (record { more = locals_known s r.text.formals r.locals; is_longer = refl; no_formals = no_formals_known s r.text.formals r.locals })
      (typed.in_text (inr refl) (ensures_typed s declared_all r.contract has (formals_known s r.text.formals) names_typed pure r refl os 0 r.ensure ensures_stand k)))))

  -- The tasks of an entry are typed by the formals, in the text of the contract.
  pub entry_typed : IsTyped s pure r (tasks_of r) (at r.contract (formals_known s r.text.formals) [] [])
  entry_typed = of_olds (olds_there s declared_all r.contract has (formals_known s r.text.formals) names_typed (formals_alone_known s r.text.formals 0 r.text.formals) (olds_of_clauses r.ensure)
      (clauses_olds s declared_all r.contract has (formals_known s r.text.formals) names_typed r.ensure ensures_stand))
    where
      required_typed : (ks : List Clause) (k : List Task) → ((q : Clause) → Contains ks q → IsClause s declared_all r.contract has (formals_known s r.text.formals) names_typed context.Require q) →
          IsTyped s pure r k (at r.contract (formals_known s r.text.formals) [] []) → IsTyped s pure r (requires ks ++ k) (at r.contract (formals_known s r.text.formals) [] [])
      required_typed [] k c d = d
      required_typed (q ∷ ks) k c d = typed.require (refl, refl, refl) c d

      of_olds : OldsThere s declared_all r.contract has (formals_known s r.text.formals) names_typed (olds_of_clauses r.ensure) → IsTyped s pure r (tasks_of r) (at r.contract (formals_known s r.text.formals) [] [])
      of_olds z =
          subst (λ k. IsTyped s pure r k (at r.contract (formals_known s r.text.formals) [] []))
          (sym (append_assoc (requires r.require) (keeps_olds (olds_of_clauses r.ensure)) (In r.text ∷ Declare r.locals ∷ Do r.body ∷ Forget (length r.text.formals) ∷ In r.contract ∷ ensures 0 r.ensure)))
          (required_typed r.require (keeps_olds (olds_of_clauses r.ensure) ++ In r.text ∷ Declare r.locals ∷ Do r.body ∷ Forget (length r.text.formals) ∷ In r.contract ∷ ensures 0 r.ensure) requires_stand
          (z.typed pure r [] (In r.text ∷ Declare r.locals ∷ Do r.body ∷ Forget (length r.text.formals) ∷ In r.contract ∷ ensures 0 r.ensure) (body_typed z.types z.kept)))
