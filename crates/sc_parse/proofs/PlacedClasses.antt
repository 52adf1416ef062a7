-- Systems that are read stand where their tokens do.
use Rattle.std.proofs.Common.{◌≡◌, ℕ, zero, suc, max, ◌||◌, Bool, true, List, [], ◌∷◌, ◌++◌, length, Option, Some, None, Result, Ok, refl, ap, sym, ◌∙◌, subst, append_assoc, append-nil}
use Rattle.sc_text.specs.Kind.{Kind, TERMINAL, kind_of}
use Rattle.sc_text.specs.Spelling.{lexemes_of}
use Rattle.sc_text.specs.declared.token.Span.{Span}
use Rattle.sc_text.specs.declared.token.Token.{Token}
use Rattle.sc_text.specs.declared.token.Terminal.TheVariants as terminal
use Rattle.sc_tree.specs.Grammar.Classes.{none_name, heads_class, ends_class}
use Rattle.sc_tree.specs.Plain.{Name, DeclaredType, Declaration, Feature, Parent, Class, ClassMark, System}
use Rattle.sc_tree.specs.Internal.Reading.Looks.{Fault}
use Rattle.sc_tree.proofs.ReadingSteps.{Holds, holds, nothing, holds_then, holds_if, holds_also}
use Rattle.sc_parse.specs.Reading.Looks as reading
use Rattle.sc_parse.specs.Reading.Looks.{Ahead, kinds, left, past, sees, sees_note, skip, skip_semicolons, name_ahead, up_to}
use Rattle.sc_parse.specs.Reading.Classes.{declaration, more_declarations, formals, locals_from, locals, result_type, begins_routine, export_list, exports, past_free, past_note, mark, parent, parents_from, parents, creators, is_done, class_of, routine, attribute_or_routine, attributes, feature, features_from, sections_from, sections, class_marked, class, classes_from, whole_of, opening, system}
use Rattle.sc_parse.specs.Places as places
use Rattle.sc_parse.specs.Places.{Point, begin, between, IsToken, IsWord, IsRow, no_part, part, AreParts, none, IsOne, one, IsPlacedName, ArePlacedNames, IsPlacedType, IsPlacedDeclaration, ArePlacedDeclarations, ArePlacedFormals, ArePlacedLocals, IsPlacedResult, IsPlacedFeature, ArePlacedExports, IsPlacedSection, AreFree, IsPlacedNote, IsPlacedMark, IsPlacedParent, ArePlacedParents, ArePlacedCreators, IsPlacedClass, IsPlaced}
use Rattle.sc_parse.proofs.PlacedReadings.{spot, when, either, seen, a_word, expected, named, begun, from_there, skipped, semicolons, row_push, row_skipped, row_semicolons, parts_push, place_more_names, place_names, place_declared_type}
use Rattle.sc_parse.proofs.PlacedInstructions.{place_assertion, place_instrs}

-- ---- formals and locals

place_declaration : (q : Ahead) → Holds (λ x. IsPlacedDeclaration x.0 (spot q) (spot x.1)) (declaration q)
unfolding declaration
place_declaration q =
    holds_then _ (place_names q) λ ns d. holds_then _ (expected terminal.Colon ns.1) λ r w. holds_then _ (place_declared_type r) λ t e. holds (places.declaration d w e)

place_more_declarations : (f : ℕ) (found : List Declaration) (q : Ahead) (p : Point) → ArePlacedDeclarations found p (spot q) →
    Holds (λ x. ArePlacedDeclarations x.0 p (spot x.1)) (more_declarations f found q)
unfolding more_declarations
place_more_declarations zero found q p d = holds d
place_more_declarations (suc f) found q p d =
    holds_if (sees terminal.Semicolon q || name_ahead q) _ _
    (λ _. holds_then _ (place_declaration (skip terminal.Semicolon q)) λ x e. place_more_declarations f (found ++ x.0) x.1 p (row_push _ _ (row_skipped _ _ q d) e))
    (λ _. holds d)

place_formals : (q : Ahead) → Holds (λ x. ArePlacedFormals x.0 (spot q) (spot x.1)) (formals q)
unfolding formals
place_formals q =
    holds_if (sees terminal.OpenParenthesis q) _ _
    (λ b. holds_then _ (place_declaration (past q)) λ x d. holds_then _ (place_more_declarations (left x.1) x.0 x.1 (spot (past q)) (row_push _ _ no_part d)) λ ds e.
    holds_then _ (expected terminal.CloseParenthesis ds.1) λ r w. holds (places.formals (a_word terminal.OpenParenthesis q b) e w))
    (λ _. holds places.no_formals)

place_locals_from : (f : ℕ) (found : List Declaration) (q : Ahead) (p : Point) → ArePlacedDeclarations found p (spot q) →
    Holds (λ x. ArePlacedDeclarations x.0 p (spot x.1)) (locals_from f found q)
unfolding locals_from
place_locals_from zero found q p d = holds d
place_locals_from (suc f) found q p d =
    holds_if (name_ahead q) _ _
    (λ _. holds_then _ (place_declaration q) λ x e. place_locals_from f (found ++ x.0) (skip terminal.Semicolon x.1) p (row_skipped _ _ x.1 (row_push _ _ d e)))
    (λ _. holds d)

place_locals : (q : Ahead) → Holds (λ x. ArePlacedLocals x.0 (spot q) (spot x.1)) (locals q)
unfolding locals
place_locals q =
    holds_if (sees terminal.Local q) _ _
    (λ b. holds_also (place_locals_from (left (past q)) [] (past q) (spot (past q)) no_part) λ x d. places.locals (a_word terminal.Local q b) d)
    (λ _. holds places.no_locals)

place_result_type : (q : Ahead) → Holds (λ x. IsPlacedResult x.0 (spot q) (spot x.1)) (result_type q)
unfolding result_type
place_result_type q =
    holds_if (sees terminal.Colon q) _ _ (λ b. holds_then _ (place_declared_type (past q)) λ t d. holds (places.result_type (a_word terminal.Colon q b) d)) (λ _. holds places.no_result)

-- ---- exports and heads of classes

braces : (p : Point) (q : Ahead) → IsToken (TERMINAL terminal.OpenBrace) q.last p (spot q) → sees terminal.CloseBrace q ≡ true →
    ArePlacedExports (record { text = none_name; span = up_to q.last.start (past q) } ∷ []) p (spot (past q))
braces p q k b =
    subst (λ (s : Span). ArePlacedExports (record { text = none_name; span = s } ∷ []) p (spot (past q))) (sym (from_there _ p q (past q) k))
    (places.empty_exports (q.last, k) (a_word terminal.CloseBrace q b))

place_exports : (q : Ahead) → Holds (λ x. ArePlacedExports x.0 (spot q) (spot x.1)) (exports q)
unfolding exports export_list
place_exports q =
    holds_if (sees terminal.OpenBrace q) _ _
    (λ b. holds_if (sees terminal.CloseBrace (past q)) _ _ (λ c. holds (braces (spot q) (past q) (seen terminal.OpenBrace q b) c))
    (λ _. holds_then _ (place_names (past q)) λ ns d. holds_then _ (expected terminal.CloseBrace ns.1) λ r w. holds (places.exports (a_word terminal.OpenBrace q b) d w)))
    (λ _. holds places.no_exports)

place_free : (stops : Kind → Bool) (s : Span) (ts : List Token) → AreFree stops (spot (record { last = s; rest = ts })) (spot (past_free stops s ts))
place_free stops s [] = places.no_token
place_free stops s (t ∷ ts) =
    when (λ (r : Ahead). AreFree stops (spot (record { last = s; rest = t ∷ ts })) (spot r)) (stops (kind_of t.kind)) _ _
    (λ _. places.no_token) (λ b. places.token (record { next = refl; last = refl }) b (place_free stops t.span ts))

place_note : (stops : Kind → Bool) (q : Ahead) → IsPlacedNote stops (spot q) (spot (past_note stops q))
place_note stops q =
    when (λ (r : Ahead). IsPlacedNote stops (spot q) (spot r)) (sees_note q) _ _
    (λ b. let free = place_free stops (past q).last (past q).rest in
    either (sees terminal.Note q) (sees terminal.Indexing q) b (λ e. places.note (a_word terminal.Note q e) free) (λ e. places.indexing (a_word terminal.Indexing q e) free))
    (λ _. places.no_note)

place_mark : (q : Ahead) → IsPlacedMark (mark q).0 (spot q) (spot (mark q).1)
unfolding mark
place_mark q =
    let P : Option ClassMark × Ahead → Type 0 = λ r. IsPlacedMark r.0 (spot q) (spot r.1) in
    when P (sees terminal.Deferred q) _ _ (λ b. places.deferred (seen terminal.Deferred q b))
    (λ _. when P (sees terminal.Expanded q) _ _ (λ b. places.expanded (seen terminal.Expanded q b))
    (λ _. when P (sees terminal.Frozen q) _ _ (λ b. places.frozen (seen terminal.Frozen q b)) (λ _. places.no_mark)))

place_parent : (q : Ahead) → Holds (λ x. IsPlacedParent x.0 (spot q) (spot x.1)) (parent q)
unfolding parent
place_parent q =
    holds_then _ (named q) λ x n.
    holds_if (sees terminal.Redefine x.1) _ _
    (λ b. holds_then _ (place_names (past x.1)) λ ns d. holds_then _ (expected terminal.End ns.1) λ r w. holds (places.redefining n (a_word terminal.Redefine x.1 b) d w))
    (λ _. holds (places.plain_parent n))

place_parents_from : (f : ℕ) (found : List Parent) (q : Ahead) (p : Point) → IsRow (IsOne IsPlacedParent) terminal.Semicolon found p (spot q) →
    Holds (λ x. IsRow (IsOne IsPlacedParent) terminal.Semicolon x.0 p (spot x.1)) (parents_from f found q)
unfolding parents_from
place_parents_from zero found q p d = holds d
place_parents_from (suc f) found q p d =
    holds_if (name_ahead q) _ _
    (λ _. holds_then _ (place_parent q) λ x e. place_parents_from f (found ++ x.0 ∷ []) (skip terminal.Semicolon x.1) p (row_skipped _ _ x.1 (row_push _ _ d (one e))))
    (λ _. holds d)

place_parents : (q : Ahead) → Holds (λ x. ArePlacedParents x.0 (spot q) (spot x.1)) (parents q)
unfolding parents
place_parents q =
    holds_if (sees terminal.Inherit q) _ _
    (λ b. holds_then _ (place_parent (past q)) λ x d.
    holds_also (place_parents_from (left x.1) (x.0 ∷ []) (skip terminal.Semicolon x.1) (spot (past q)) (row_skipped _ _ x.1 (part (one d) no_part))) λ y e.
    places.parents (a_word terminal.Inherit q b) e)
    (λ _. holds places.no_parents)

place_creators : (q : Ahead) → Holds (λ x. ArePlacedCreators x.0 (spot q) (spot x.1)) (creators q)
unfolding creators
place_creators q = holds_if (sees terminal.Create q) _ _ (λ b. holds_also (place_names (past q)) λ x d. places.creators (a_word terminal.Create q b) d) (λ _. holds places.no_creator)

-- ---- features and classes

-- features that are exported to these classes
abbrev ArePlacedFeatures : List Name → List Feature → Point → Point → Type 0
ArePlacedFeatures es = IsRow (IsPlacedFeature es) terminal.Semicolon

-- what was found before, and features behind it
data AddsFeatures (es : List Name) (base : List Feature) (p : Point) (x : List Feature × ℕ × Ahead) : Type 0 where
  adds : (more : List Feature) → x.0 ≡ base ++ more → ArePlacedFeatures es more p (spot x.2) → AddsFeatures es base p x

module _ (room : ℕ) where
  place_routine : (es : List Name) (x : Name) (fs : List Declaration) (t : Option DeclaredType) (q : Ahead) (p r s : Point) →
      IsPlacedName x p r → ArePlacedFormals fs r s → IsPlacedResult t s (spot q) → Holds (λ y. IsPlacedFeature es y.0 p (spot y.2)) (routine room es x fs t q)
  unfolding routine
  place_routine es x fs t q p r s n d e =
      holds_then _ (place_assertion room terminal.Require (skip terminal.Is q)) λ pre a. holds_then _ (place_locals pre.2) λ ls g. holds_then _ (expected terminal.Do ls.1) λ u w.
      holds_then _ (place_instrs room u) λ b i. holds_then _ (place_assertion room terminal.Ensure b.2) λ post c. holds_then _ (expected terminal.End post.2) λ v y.
      holds (places.routine {d = record { formals = fs; result_type = t; precondition = pre.0; locals = ls.0; body = b.0; postcondition = post.0 }} n d e (skipped terminal.Is q) a g w i c y)

  place_attribute_or_routine : (es : List Name) (x : Name) (fs : List Declaration) (t : Option DeclaredType) (q : Ahead) (p r s : Point) →
      IsPlacedName x p r → ArePlacedFormals fs r s → IsPlacedResult t s (spot q) → Holds (λ y. IsPlacedFeature es y.0 p (spot y.2)) (attribute_or_routine room es x fs t q)
  place_attribute_or_routine es x [] None q p r s n d e = place_routine es x [] None q p r s n d e
  place_attribute_or_routine es x (f ∷ fs) None q p r s n d e = place_routine es x (f ∷ fs) None q p r s n d e
  place_attribute_or_routine es x [] (Some t) q p r s n d e =
      holds_if (begins_routine q) _ _ (λ _. place_routine es x [] (Some t) q p r s n d e) (λ _. holds (places.attribute n d e))
  place_attribute_or_routine es x (f ∷ fs) (Some t) q p r s n d e = place_routine es x (f ∷ fs) (Some t) q p r s n d e

  place_feature : (es : List Name) (q : Ahead) → Holds (λ x. IsPlacedFeature es x.0 (spot q) (spot x.2)) (feature room es q)
  unfolding feature attributes
  place_feature es q =
      holds_then _ (named q) λ x n.
      holds_if (sees terminal.Comma x.1) _ _
      (λ _. holds_then _ (place_more_names (left x.1) (x.0 ∷ []) x.1 (spot q) (places.one_name n)) λ ns d. holds_then _ (expected terminal.Colon ns.1) λ s w. holds_then _ (place_declared_type s) λ t e.
      holds (places.attributes d w e))
      (λ _. holds_then _ (place_formals x.1) λ fs d. holds_then _ (place_result_type fs.1) λ t e. place_attribute_or_routine es x.0 fs.0 t.0 t.1 (spot q) (spot x.1) (spot fs.1) n d e)

  place_features_from : (es : List Name) (f : ℕ) (found : List Feature) (high : ℕ) (q : Ahead) (base more : List Feature) (p : Point) → found ≡ base ++ more → ArePlacedFeatures es more p (spot q) →
      Holds (AddsFeatures es base p) (features_from room es f found high q)
  unfolding features_from
  place_features_from es zero found high q base more p e d = holds (adds more e d)
  place_features_from es (suc f) found high q base more p e d =
      holds_if (name_ahead q) _ _
      (λ _. holds_then _ (place_feature es q) λ x g.
      place_features_from es f (found ++ x.0) (max high x.1) (skip_semicolons x.2) base (more ++ x.0) p (ap (λ (l : List Feature). l ++ x.0) e ∙ append_assoc base more x.0)
      (row_semicolons _ (row_push _ _ d g) (semicolons x.2)))
      (λ _. holds (adds more e d))

  added_section : (es : List Name) (found : List Feature) (p r s : Point) (q : Ahead) → AreParts IsPlacedSection found p (spot q) → IsWord terminal.Feature (spot q) r → ArePlacedExports es r s →
      (x : List Feature × ℕ × Ahead) → AddsFeatures es found s x → AreParts IsPlacedSection x.0 p (spot x.2)
  added_section es found p r s q d w e x (adds more g fs) =
      subst (λ (l : List Feature). AreParts IsPlacedSection l p (spot x.2)) (sym g) (parts_push IsPlacedSection d (places.section w e fs))

  place_sections_from : (f : ℕ) (found : List Feature) (high : ℕ) (q : Ahead) (p : Point) → AreParts IsPlacedSection found p (spot q) →
      Holds (λ x. AreParts IsPlacedSection x.0 p (spot x.2)) (sections_from room f found high q)
  unfolding sections_from
  place_sections_from zero found high q p d = holds d
  place_sections_from (suc f) found high q p d =
      holds_if (sees terminal.Feature q) _ _
      (λ b. holds_then _ (place_exports (past q)) λ es e.
      holds_then _ (place_features_from es.0 (left es.1) found high es.1 found [] (spot es.1) (sym (append-nil found)) no_part) λ x g.
      place_sections_from f x.0 x.1 x.2 p (added_section es.0 found p (spot (past q)) (spot es.1) q d (a_word terminal.Feature q b) e x g))
      (λ _. holds d)

  place_sections : (q : Ahead) → Holds (λ x. AreParts IsPlacedSection x.0 (spot q) (spot x.2)) (sections room q)
  unfolding sections
  place_sections q = place_sections_from (left q) [] 0 q (spot q) none

  place_class_marked : (m : Option ClassMark) (n q : Ahead) (p : Point) → IsPlacedNote heads_class p (spot n) → IsPlacedMark m (spot n) (spot q) →
      Holds (λ x. IsPlacedClass x.0 p (spot x.2)) (class_marked room (reading.begin n) m q)
  unfolding class_marked
  place_class_marked m n q p a b =
      holds_then _ (expected terminal.Class q) λ r w. holds_then _ (named r) λ x d. holds_then _ (place_parents x.1) λ ps e. holds_then _ (place_creators ps.1) λ ns g.
      holds_then _ (place_sections ns.1) λ fs h. holds_then _ (place_assertion room terminal.Invariant fs.2) λ is i.
      holds_then _ (expected terminal.End (past_note ends_class is.2)) λ u v.
      holds (places.class {k = class_of (up_to (reading.begin n) u) m x.0 ps.0 ns.0 fs.0 is.0} a b w d e g h i (place_note ends_class is.2) v (begun n u))

  place_class : (q : Ahead) → Holds (λ x. IsPlacedClass x.0 (spot q) (spot x.2)) (class room q)
  unfolding class
  place_class q = let n = past_note heads_class q in place_class_marked (mark n).0 n (mark n).1 (spot q) (place_note heads_class q) (place_mark n)

place_classes_from : (room f : ℕ) (found : List Class) (high : ℕ) (q : Ahead) (p : Point) → AreParts (IsOne IsPlacedClass) found p (spot q) →
    Holds (λ x. AreParts (IsOne IsPlacedClass) x.0 p (spot x.2)) (classes_from room f found high q)
unfolding classes_from
place_classes_from room zero found high q p d = holds d
place_classes_from room (suc f) found high q p d =
    holds_if (is_done q) _ _ (λ _. holds d)
    (λ _. holds_then _ (place_class room q) λ x e. place_classes_from room f (found ++ x.0 ∷ []) (max high x.1) x.2 p (parts_push _ d (one e)))

place_whole : (xs : List Class) (ts : List Token) (s : Span) (rest : List Token) → AreParts (IsOne IsPlacedClass) xs (places.opening (lexemes_of ts)) (spot (record { last = s; rest = rest })) →
    Holds (λ k. IsPlaced k (lexemes_of ts)) (whole_of xs rest)
place_whole xs ts s [] d = holds (places.placed d refl)
place_whole xs ts s (t ∷ rest) d = nothing

place_system : (room : ℕ) (ts : List Token) → Holds (λ k. IsPlaced k (lexemes_of ts)) (system room ts)
unfolding system
place_system room ts =
    holds_then _ (place_classes_from room (length ts) [] 0 (opening ts) (places.opening (lexemes_of ts)) none) λ x d. place_whole x.0 ts x.2.last x.2.rest d

-- what was read is placed
pub placed : (room : ℕ) (ts : List Token) (s : System) → system room ts ≡ Ok s → IsPlaced s (lexemes_of ts)
placed room ts s e = told (subst (λ (a : Result System Fault). Holds (λ k. IsPlaced k (lexemes_of ts)) a) e (place_system room ts))
  where
    told : Holds (λ k. IsPlaced k (lexemes_of ts)) (Ok s) → IsPlaced s (lexemes_of ts)
    told (holds d) = d
