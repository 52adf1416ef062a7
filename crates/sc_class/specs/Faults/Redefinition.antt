-- Redefinition of inherited routines (ECMA-367, 8.10).
use Rattle.std.specs.Prelude.{◌≡◌, ℕ, Bool, true, false, List, [], ◌∷◌, ◌&&◌, Option, Some, None, Any, bytes_eq}
use Rattle.sc_text.specs.declared.token.Span.{Span}
use Rattle.sc_tree.specs.Plain.{System, Class, FeatureKind, Attribute, Routine, Declaration, DeclaredType, Clause, Name}
use Rattle.sc_class.specs.Tables.Features.{DeclaredFeature, declared_features, redefined_by, inherited_features, named_among}
use Rattle.sc_class.specs.Tables.Conformance.{is_same_type, type_conforms}

abbrev pub is_same_formal : Declaration → Declaration → Bool
is_same_formal d e = bytes_eq d.name.text e.name.text && is_same_type d.declared_type e.declared_type

-- equal names and types, one by one
abbrev pub is_same_formals : List Declaration → List Declaration → Bool
is_same_formals [] [] = true
is_same_formals [] (e ∷ es) = false
is_same_formals (d ∷ ds) [] = false
is_same_formals (d ∷ ds) (e ∷ es) = is_same_formal d e && is_same_formals ds es

-- a procedure by a procedure, a function by one whose result conforms
abbrev pub result_fits : System → Option DeclaredType → Option DeclaredType → Bool
result_fits s None None = true
result_fits s None (Some u) = false
result_fits s (Some t) None = false
result_fits s (Some t) (Some u) = type_conforms s t u

-- there is no clause
abbrev pub is_empty_contract : List Clause → Bool
is_empty_contract [] = true
is_empty_contract (k ∷ ks) = false

-- The first can redefine the second: both are routines with equal formals, its result fits, and it has no contract
-- of its own.
abbrev pub can_redefine : System → FeatureKind → FeatureKind → Bool
can_redefine s (Routine r) (Routine q) =
    is_same_formals r.formals q.formals && result_fits s r.result_type q.result_type
    && is_empty_contract r.precondition && is_empty_contract r.postcondition
can_redefine s (Routine r) (Attribute t) = false
can_redefine s (Attribute t) g = false

-- A name that the class at the number lists under `redefine` isn't inherited or isn't declared again, or what is
-- declared can't redefine what is inherited.
pub data NameBadlyRedefined (s : System) (k : ℕ) (n : Name) : Span → Type 0 where
  not_inherited : named_among n.text (inherited_features s k) ≡ None → NameBadlyRedefined s k n n.span
  not_declared : named_among n.text (declared_features s k) ≡ None → NameBadlyRedefined s k n n.span
  does_not_fit : {f g : DeclaredFeature} → named_among n.text (declared_features s k) ≡ Some f →
      named_among n.text (inherited_features s k) ≡ Some g → can_redefine s f.feature.kind g.feature.kind ≡ false →
      NameBadlyRedefined s k n f.feature.name.span

abbrev pub BadlyRedefines : System → ℕ → Class → Span → Type 0
BadlyRedefines s k c p = Any (λ n. NameBadlyRedefined s k n p) (redefined_by c)
