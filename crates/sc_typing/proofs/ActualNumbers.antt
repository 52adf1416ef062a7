-- Actuals and formals, read by number.
use Rattle.std.proofs.Common.{◌≡◌, ℕ, zero, suc, true, List, [], ◌∷◌, drop, map, Option, Some, None, refl, ap, ◌∙◌}
use Rattle.std.specs.Prelude.{Bool, false, not, is_some, slice_get}
use Rattle.std.specs.Option.{option_map, option_map_or}
use Rattle.std.specs.Borrow.{Bor}
use Rattle.std.proofs.lemmas.Option.{slice_get-map}
use Rattle.sc_tree.specs.declared.declaration.Declaration.{Declaration}
use Rattle.sc_tree.specs.Plain as plain
use Rattle.sc_tree.specs.View.{declaration_of, type_of}
use Rattle.sc_rules.specs.declared.entity_types.entity_type.EntityType.{EntityType}
use Rattle.sc_rules.specs.Types.{declared_type}
use Rattle.sc_rules.specs.Names.{FormalType, formal_type}
use Rattle.sc_rules.specs.Typing.{is_untyped, takes_if_any}
use Rattle.sc_rules.specs.Judging as judging
use Rattle.sc_rules.specs.Judging.{judged_type, is_taken}
use Rattle.sc_typing.specs.declared.routine_context.Formals.{Formals}
use Rattle.sc_typing.specs.declared.routine_context.Formals.TheVariants.{Declared}
use Rattle.sc_typing.specs.declared.expressions.typing.JudgedActual.{JudgedActual}
use Rattle.sc_typing.specs.Views.{formals_in, judged_in, actual_in, types_in}

-- the type of the actual at a number
pub type_at : (fs : List JudgedActual) (i : ℕ) (f : JudgedActual) → slice_get fs i ≡ Some f → slice_get (types_in fs) i ≡ Some (judged_type (judged_in f.judged))
type_at fs i f e =
    slice_get-map (λ (r : judging.JudgedActual). judged_type r.1) (map actual_in fs) i
    ∙ ap (option_map (λ (r : judging.JudgedActual). judged_type r.1)) (slice_get-map actual_in fs i ∙ ap (option_map actual_in) e)

pub untyped-some : (t : Option EntityType) (b : Bool) → is_some t ≡ not b → b ≡ is_untyped (Some t)
untyped-some None true e = refl
untyped-some None false e = cc
untyped-some (Some t) true e = cc
untyped-some (Some t) false e = refl

-- the formal at a number
pub formal_is : (s : plain.System) (fs : Formals) (ds : Bor (List Declaration)) (i : ℕ) (d : Declaration) → fs ≡ Declared ds → slice_get ds.now i ≡ Some d →
    slice_get (formals_in s fs) i ≡ Some (formal_type (declared_type s (map declaration_of ds.now) (type_of d.declared_type)))
formal_is s fs ds i d e g =
    ap (λ fs. slice_get (formals_in s fs) i) e
    ∙ slice_get-map (λ (d : plain.Declaration). formal_type (declared_type s (map declaration_of ds.now) d.declared_type)) (map declaration_of ds.now) i
    ∙ ap (option_map (λ (d : plain.Declaration). formal_type (declared_type s (map declaration_of ds.now) d.declared_type))) (slice_get-map declaration_of ds.now i ∙ ap (option_map declaration_of) g)

-- an actual is taken by the formal at its number, if there is one
pub taken_at : (s : plain.System) (t : EntityType) (ts : List (Option EntityType)) (fs : List FormalType) (i : ℕ) (a : Option EntityType) →
    is_taken s t ts (drop i fs) a ≡ option_map_or (λ f. takes_if_any s t ts f a) (slice_get fs i) true
taken_at s t ts [] zero a = refl
taken_at s t ts [] (suc i) a = refl
taken_at s t ts (f ∷ fs) zero a = refl
taken_at s t ts (f ∷ fs) (suc i) a = taken_at s t ts fs i a
