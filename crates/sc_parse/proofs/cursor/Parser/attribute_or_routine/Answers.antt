use Rattle.std.proofs.Common.{◌≡◌, ℕ, zero, suc, ◌<◌, true, false, List, [], ◌∷◌, length, Option, Some, None, Ok, refl, ap, sym, ◌∙◌, map, arith}
use Rattle.std.specs.Prelude.{◌==◌, vec_len}
use Rattle.std.proofs.lemmas.Bool.{eqb-true, false≢true}
use Rattle.std.proofs.lemmas.List.{nil_from_length}
use Rattle.sc_parse.specs.Reading.Looks.{Ahead, Read}
use Rattle.sc_tree.specs.declared.declaration.Declaration.{Declaration}
use Rattle.sc_tree.specs.declared.declaration.DeclaredType.{DeclaredType}
use Rattle.sc_tree.specs.declared.system.FeatureKind.TheVariants as kind
use Rattle.sc_tree.specs.Plain as plain
use Rattle.sc_parse.specs.Reading.Classes as spec
use Rattle.sc_tree.specs.View.{declaration_of, kind_of}
use Rattle.sc_tree.proofs.ReadingSteps.{choose_true, choose_false}
use Rattle.sc_parse.specs.Reading.Reads.{ahead, type_if_any_in, features_in, feature_with}
use Rattle.sc_parse.proofs.Faults.{Gives-along}
use Rattle.sc_parse.proofs.Lists.{Gives-made}
use Rattle.sc_parse.proofs.cursor.Parser.attribute_or_routine.Goals as goal

attribute_read : (room : ℕ) (es : List plain.Name) (x : plain.Name) (formals : List Declaration) (t : Option DeclaredType) (d : DeclaredType)
    (ts : Ahead) (fs : List plain.Feature) →
    formals ≡ [] → t ≡ Some d → spec.begins_routine ts ≡ false → fs ≡ feature_with es x (kind.Attribute d) ∷ [] →
    spec.attribute_or_routine room es x (map declaration_of formals) (type_if_any_in t) ts ≡ Ok (fs, 0, ts)
unfolding kind_of
attribute_read room es x formals t d ts fs e s b q = rw (e, s, q) (choose_false (spec.begins_routine ts) _ _ b)

-- the same list of formals and what follows it, of a type that is there or not
abbrev read_as : ℕ → List plain.Name → plain.Name → Ahead → List Declaration → Option DeclaredType → Read (List plain.Feature)
read_as room es x ts formals t = spec.attribute_or_routine room es x (map declaration_of formals) (type_if_any_in t) ts

abbrev as_routine : ℕ → List plain.Name → plain.Name → Ahead → List Declaration → Option DeclaredType → Read (List plain.Feature)
as_routine room es x ts formals t = spec.routine room es x (map declaration_of formals) (type_if_any_in t) ts

module _ (room : ℕ) (es : List plain.Name) (x : plain.Name) (ts : Ahead) (t : Option DeclaredType) where
  none_read : (formals : List Declaration) → t ≡ None → read_as room es x ts formals t ≡ as_routine room es x ts formals None
  none_read [] e = ap (read_as room es x ts []) e
  none_read (f ∷ formals) e = ap (read_as room es x ts (f ∷ formals)) e

  module _ (d : DeclaredType) (e : t ≡ Some d) where
    formals_read : (formals : List Declaration) → 0 < length formals → read_as room es x ts formals t ≡ as_routine room es x ts formals (Some d)
    formals_read [] p = absurd (omega (arith, p))
    formals_read (f ∷ formals) p = ap (read_as room es x ts (f ∷ formals)) e

    begun_read : (formals : List Declaration) → spec.begins_routine ts ≡ true → read_as room es x ts formals t ≡ as_routine room es x ts formals (Some d)
    begun_read [] b = ap (read_as room es x ts []) e ∙ choose_true (spec.begins_routine ts) _ _ b
    begun_read (f ∷ formals) b = ap (read_as room es x ts (f ∷ formals)) e

not_zero : (n : ℕ) → false ≡ (n == 0) → 0 < n
not_zero zero e = absurd (false≢true e)
not_zero (suc n) e = omega arith

pub returns-in_default : goal.returns-in_default
returns-in_default c =
    Gives-along features_in _ _ c.routine.result _ (none_read c.args.room _ _ (ahead c.args.self.now) c.args.result_type c.args.formals.items c.in_default.is) c.routine.ensures

pub returns-then-not-is_empty : goal.returns-then-not-is_empty
returns-then-not-is_empty c =
    Gives-along features_in _ _ c.routine-then-not-is_empty.result _
    (formals_read c.args.room _ _ (ahead c.args.self.now) c.args.result_type _ c.in-Some.is c.args.formals.items (omega (arith, not_zero _ c.if-not-is_empty.ensures, c.args.formals.ok.0)))
    c.routine-then-not-is_empty.ensures

pub returns-then-begins_routine : goal.returns-then-begins_routine
returns-then-begins_routine c =
    Gives-along features_in _ _ c.routine-then-begins_routine.result _
    (begun_read c.args.room _ _ (ahead c.args.self.now) c.args.result_type _ c.in-Some.is c.args.formals.items (sym c.begins_routine.ensures ∙ c.if-begins_routine.true))
    c.routine-then-begins_routine.ensures

pub returns : goal.returns
returns c =
    let empty : vec_len c.args.formals ≡ 0 = eqb-true _ _ (sym c.is_empty.ensures ∙ c.if-not-is_empty.false) in
    let none : c.args.formals.items ≡ [] = nil_from_length c.args.formals.items (omega (arith, empty, c.args.formals.ok.0)) in
    Gives-made features_in _ c.one_feature.result _ 0 _ c.one_feature.ensures
    (attribute_read c.args.room _ _ c.args.formals.items _ _ (ahead c.args.self.now) _ none c.in-Some.is (sym c.begins_routine.ensures ∙ c.if-begins_routine.false) refl)
