-- Systems that are read with their places are, without them, those of the grammar's own reading.
use Rattle.std.proofs.Common.{◌≡◌, ℕ, zero, suc, max, ◌||◌, Bool, List, [], ◌∷◌, ◌++◌, length, Option, Some, None, Ok, refl, ap, sym, ◌∙◌}
use Rattle.std.specs.Prelude.{map}
use Rattle.std.specs.Str.{bytes_eq}
use Rattle.std.proofs.lemmas.List.{map-append}
use Rattle.sc_text.specs.Kind.{Kind, kind_of, kinds_of}
use Rattle.sc_text.specs.declared.token.Span.{Span}
use Rattle.sc_text.specs.declared.token.Token.{Token}
use Rattle.sc_text.specs.declared.token.Terminal.TheVariants as terminal
use Rattle.sc_tree.specs.Grammar.Classes.{declared_as, attribute_of, any_name, none_name, exported_to, heads_class, ends_class}
use Rattle.sc_tree.specs.Plain as plain
use Rattle.sc_tree.specs.Plain.{Name, DeclaredType, Declaration, Feature, Parent, Class, ClassMark}
use Rattle.sc_tree.specs.Bare.{nowhere, named, bare_name, bare_type, bare_type_if_any, bare_declaration, bare_feature, bare_parent, bare_mark, bare_class, bare_system}
use Rattle.sc_tree.specs.Internal.Reading.Looks as looks
use Rattle.sc_tree.specs.Internal.Reading.Looks.{Fault, Wrong, ◌>>=◌}
use Rattle.sc_tree.specs.Internal.Reading.Types as plain_types
use Rattle.sc_tree.specs.Internal.Reading.Assertions as plain_assertions
use Rattle.sc_tree.specs.Internal.Reading.Classes as unplaced
use Rattle.sc_tree.proofs.ViewLemmas.{length-kinds_of}
use Rattle.sc_parse.specs.Reading.Looks.{Ahead, begin, kinds, left, past, sees, sees_note, skip, skip_semicolons, name_ahead}
use Rattle.sc_parse.specs.Reading.Classes.{declaration, more_declarations, formals, locals_from, locals, result_type, begins_routine, export_list, exports, past_free, past_note, mark, parent, parents_from, parents, creators, is_done, routine, attribute_or_routine, attributes, feature, features_from, sections_from, sections, class_marked, class, classes_from, whole_of, opening, system}
use Rattle.sc_parse.proofs.BareReadings.{forget, read, taken, forget_then, forget_if, kinds-past, kinds-skip, kinds-skip_semicolons, left_is, forget_expect, forget_name, forget_more_names, forget_names, forget_names_past, forget_declared_type, forget_declared_type_past}
use Rattle.sc_parse.proofs.BareInstructions.{forget_assertion, forget_instrs}

-- ---- lists of names

same_map : {A B C D : Type 0} (f : C → D) (g : A → C) (h : A → B) (k : B → D) → ((x : A) → f (g x) ≡ k (h x)) → (xs : List A) → map f (map g xs) ≡ map k (map h xs)
same_map f g h k e [] = refl
same_map f g h k e (x ∷ xs) = ap (λ (y : _). y ∷ map f (map g xs)) (e x) ∙ ap (λ (ys : List _). k (h x) ∷ ys) (same_map f g h k e xs)

bare-declared : (t : DeclaredType) (xs : List Name) → map bare_declaration (map (declared_as t) xs) ≡ map (declared_as (bare_type t)) (map bare_name xs)
bare-declared t xs = same_map bare_declaration (declared_as t) bare_name (declared_as (bare_type t)) (λ x. refl) xs

bare-attributes : (es : List Name) (t : DeclaredType) (xs : List Name) → map bare_feature (map (attribute_of es t) xs) ≡ map (attribute_of (map bare_name es) (bare_type t)) (map bare_name xs)
bare-attributes es t xs = same_map bare_feature (attribute_of es t) bare_name (attribute_of (map bare_name es) (bare_type t)) (λ x. refl) xs

bare-exported : (xs : List Name) → map bare_name (exported_to xs) ≡ exported_to (map bare_name xs)
bare-exported [] = refl
bare-exported (x ∷ []) = forget_if (map bare_name) (bytes_eq x.text any_name) refl refl
bare-exported (x ∷ y ∷ xs) = refl

-- ---- formals and locals

forget_declaration : (q : Ahead) → forget (taken (map bare_declaration)) (declaration q) ≡ unplaced.declaration (kinds q)
unfolding declaration unplaced.declaration
forget_declaration q =
    forget_then _ _ _ _ _ (forget_names q) λ ns. forget_then _ _ _ _ _ (forget_expect terminal.Colon ns.1) λ r. forget_then _ _ _ _ _ (forget_declared_type r) λ t.
    ap (λ (ds : List Declaration). Ok (ds, kinds t.1)) (bare-declared t.0 ns.0)

forget_more_declarations : (f : ℕ) (found : List Declaration) (q : Ahead) →
    forget (taken (map bare_declaration)) (more_declarations f found q) ≡ unplaced.more_declarations f (map bare_declaration found) (kinds q)
unfolding more_declarations unplaced.more_declarations
forget_more_declarations zero found q = refl
forget_more_declarations (suc f) found q =
    forget_if (forget (taken (map bare_declaration))) (sees terminal.Semicolon q || name_ahead q)
    (forget_then _ _ _ _ _ (forget_declaration (skip terminal.Semicolon q) ∙ ap unplaced.declaration (kinds-skip terminal.Semicolon q)) λ d.
    forget_more_declarations f (found ++ d.0) d.1 ∙ ap (λ (ds : List Declaration). unplaced.more_declarations f ds (kinds d.1)) (map-append bare_declaration found d.0))
    refl

forget_formals : (q : Ahead) → forget (taken (map bare_declaration)) (formals q) ≡ unplaced.formals (kinds q)
unfolding formals unplaced.formals
forget_formals q =
    forget_if (forget (taken (map bare_declaration))) (sees terminal.OpenParenthesis q)
    (forget_then _ _ _ _ _ (forget_declaration (past q) ∙ ap unplaced.declaration (kinds-past q)) λ d.
    forget_then _ _ _ _ _ (forget_more_declarations (left d.1) d.0 d.1 ∙ ap (λ (f : ℕ). unplaced.more_declarations f (map bare_declaration d.0) (kinds d.1)) (left_is d.1)) λ ds.
    forget_then _ _ _ _ _ (forget_expect terminal.CloseParenthesis ds.1) λ r. refl)
    refl

forget_locals_from : (f : ℕ) (found : List Declaration) (q : Ahead) →
    forget (taken (map bare_declaration)) (locals_from f found q) ≡ unplaced.locals_from f (map bare_declaration found) (kinds q)
unfolding locals_from unplaced.locals_from
forget_locals_from zero found q = refl
forget_locals_from (suc f) found q =
    forget_if (forget (taken (map bare_declaration))) (name_ahead q)
    (forget_then _ _ _ _ _ (forget_declaration q) λ d.
    forget_locals_from f (found ++ d.0) (skip terminal.Semicolon d.1)
    ∙ ap (λ (ds : List Declaration). unplaced.locals_from f ds (kinds (skip terminal.Semicolon d.1))) (map-append bare_declaration found d.0)
    ∙ ap (unplaced.locals_from f (map bare_declaration found ++ map bare_declaration d.0)) (kinds-skip terminal.Semicolon d.1))
    refl

forget_locals : (q : Ahead) → forget (taken (map bare_declaration)) (locals q) ≡ unplaced.locals (kinds q)
unfolding locals unplaced.locals
forget_locals q =
    forget_if (forget (taken (map bare_declaration))) (sees terminal.Local q)
    (forget_locals_from (left (past q)) [] (past q) ∙ ap (λ (f : ℕ). unplaced.locals_from f [] (kinds (past q))) (left_is (past q))
    ∙ ap (λ (r : List Kind). unplaced.locals_from (length r) [] r) (kinds-past q))
    refl

forget_result_type : (q : Ahead) → forget (taken bare_type_if_any) (result_type q) ≡ unplaced.result_type (kinds q)
unfolding result_type unplaced.result_type
forget_result_type q =
    forget_if (forget (taken bare_type_if_any)) (sees terminal.Colon q) (forget_then _ _ _ _ _ (forget_declared_type_past q) λ t. refl) refl

-- ---- exports and heads of classes

forget_export_list : (q : Ahead) → forget (taken (map bare_name)) (export_list q) ≡ unplaced.export_list (kinds q)
unfolding export_list unplaced.export_list
forget_export_list q =
    forget_if (forget (taken (map bare_name))) (sees terminal.CloseBrace q) (ap (λ (r : List Kind). Ok (named none_name ∷ [], r)) (kinds-past q))
    (forget_then _ _ _ _ _ (forget_names q) λ ns. forget_then _ _ _ _ _ (forget_expect terminal.CloseBrace ns.1) λ r. ap (λ (xs : List Name). Ok (xs, kinds r)) (bare-exported ns.0))

forget_exports : (q : Ahead) → forget (taken (map bare_name)) (exports q) ≡ unplaced.exports (kinds q)
unfolding exports unplaced.exports
forget_exports q = forget_if (forget (taken (map bare_name))) (sees terminal.OpenBrace q) (forget_export_list (past q) ∙ ap unplaced.export_list (kinds-past q)) refl

free_is : (stops : Kind → Bool) (s : Span) (ts : List Token) → kinds (past_free stops s ts) ≡ unplaced.past_free stops (kinds_of ts)
free_is stops s [] = refl
free_is stops s (t ∷ ts) = forget_if kinds (stops (kind_of t.kind)) refl (free_is stops t.span ts)

kinds-past_note : (stops : Kind → Bool) (q : Ahead) → kinds (past_note stops q) ≡ unplaced.past_note stops (kinds q)
kinds-past_note stops q = forget_if kinds (sees_note q) (free_is stops (past q).last (past q).rest ∙ ap (unplaced.past_free stops) (kinds-past q)) refl

same_mark : (q : Ahead) → taken bare_mark (mark q) ≡ unplaced.mark (kinds q)
unfolding mark unplaced.mark
same_mark q =
    forget_if (taken bare_mark) (sees terminal.Deferred q) (ap (λ (r : List Kind). (Some (plain.Deferred nowhere), r)) (kinds-past q))
    (forget_if (taken bare_mark) (sees terminal.Expanded q) (ap (λ (r : List Kind). (Some (plain.Expanded nowhere), r)) (kinds-past q))
    (forget_if (taken bare_mark) (sees terminal.Frozen q) (ap (λ (r : List Kind). (Some (plain.Frozen nowhere), r)) (kinds-past q)) refl))

forget_parent : (q : Ahead) → forget (taken bare_parent) (parent q) ≡ unplaced.parent (kinds q)
unfolding parent unplaced.parent
forget_parent q =
    forget_then _ _ _ _ _ (forget_name q) λ x.
    forget_if (forget (taken bare_parent)) (sees terminal.Redefine x.1) (forget_then _ _ _ _ _ (forget_names_past x.1) λ ns. forget_then _ _ _ _ _ (forget_expect terminal.End ns.1) λ r. refl) refl

forget_parents_from : (f : ℕ) (found : List Parent) (q : Ahead) → forget (taken (map bare_parent)) (parents_from f found q) ≡ unplaced.parents_from f (map bare_parent found) (kinds q)
unfolding parents_from unplaced.parents_from
forget_parents_from zero found q = refl
forget_parents_from (suc f) found q =
    forget_if (forget (taken (map bare_parent))) (name_ahead q)
    (forget_then _ _ _ _ _ (forget_parent q) λ p.
    forget_parents_from f (found ++ p.0 ∷ []) (skip terminal.Semicolon p.1)
    ∙ ap (λ (ps : List Parent). unplaced.parents_from f ps (kinds (skip terminal.Semicolon p.1))) (map-append bare_parent found (p.0 ∷ []))
    ∙ ap (unplaced.parents_from f (map bare_parent found ++ bare_parent p.0 ∷ [])) (kinds-skip terminal.Semicolon p.1))
    refl

forget_parents : (q : Ahead) → forget (taken (map bare_parent)) (parents q) ≡ unplaced.parents (kinds q)
unfolding parents unplaced.parents
forget_parents q =
    forget_if (forget (taken (map bare_parent))) (sees terminal.Inherit q)
    (forget_then _ _ _ _ _ (forget_parent (past q) ∙ ap unplaced.parent (kinds-past q)) λ p.
    forget_parents_from (left p.1) (p.0 ∷ []) (skip terminal.Semicolon p.1)
    ∙ ap (λ (f : ℕ). unplaced.parents_from f (bare_parent p.0 ∷ []) (kinds (skip terminal.Semicolon p.1))) (left_is p.1)
    ∙ ap (unplaced.parents_from (length (kinds p.1)) (bare_parent p.0 ∷ [])) (kinds-skip terminal.Semicolon p.1))
    refl

forget_creators : (q : Ahead) → forget (taken (map bare_name)) (creators q) ≡ unplaced.creators (kinds q)
unfolding creators unplaced.creators
forget_creators q = forget_if (forget (taken (map bare_name))) (sees terminal.Create q) (forget_names_past q) refl

-- ---- features and classes

module _ (room : ℕ) where
  forget_routine : (es : List Name) (x : Name) (fs : List Declaration) (t : Option DeclaredType) (q : Ahead) →
      forget (read (map bare_feature)) (routine room es x fs t q) ≡ unplaced.routine room (map bare_name es) (bare_name x) (map bare_declaration fs) (bare_type_if_any t) (kinds q)
  unfolding routine unplaced.routine
  forget_routine es x fs t q =
      forget_then _ _ _ _ _ (forget_assertion room terminal.Require (skip terminal.Is q) ∙ ap (plain_assertions.assertion room terminal.Require) (kinds-skip terminal.Is q)) λ pre.
      forget_then _ _ _ _ _ (forget_locals pre.2) λ ls. forget_then _ _ _ _ _ (forget_expect terminal.Do ls.1) λ r. forget_then _ _ _ _ _ (forget_instrs room r) λ b.
      forget_then _ _ _ _ _ (forget_assertion room terminal.Ensure b.2) λ post. forget_then _ _ _ _ _ (forget_expect terminal.End post.2) λ e. refl

  forget_attribute_or_routine : (es : List Name) (x : Name) (fs : List Declaration) (t : Option DeclaredType) (q : Ahead) →
      forget (read (map bare_feature)) (attribute_or_routine room es x fs t q)
      ≡ unplaced.attribute_or_routine room (map bare_name es) (bare_name x) (map bare_declaration fs) (bare_type_if_any t) (kinds q)
  forget_attribute_or_routine es x [] None q = forget_routine es x [] None q
  forget_attribute_or_routine es x (f ∷ fs) None q = forget_routine es x (f ∷ fs) None q
  forget_attribute_or_routine es x [] (Some t) q = forget_if (forget (read (map bare_feature))) (begins_routine q) (forget_routine es x [] (Some t) q) refl
  forget_attribute_or_routine es x (f ∷ fs) (Some t) q = forget_routine es x (f ∷ fs) (Some t) q

  forget_attributes : (es : List Name) (x : Name) (q : Ahead) → forget (read (map bare_feature)) (attributes room es x q) ≡ unplaced.attributes room (map bare_name es) (bare_name x) (kinds q)
  unfolding attributes unplaced.attributes
  forget_attributes es x q =
      forget_then _ _ _ _ _ (forget_more_names (left q) (x ∷ []) q ∙ ap (λ (f : ℕ). plain_types.more_names f (bare_name x ∷ []) (kinds q)) (left_is q)) λ ns.
      forget_then _ _ _ _ _ (forget_expect terminal.Colon ns.1) λ s. forget_then _ _ _ _ _ (forget_declared_type s) λ t.
      ap (λ (fs : List Feature). Ok (fs, 0, kinds t.1)) (bare-attributes es t.0 ns.0)

  forget_feature : (es : List Name) (q : Ahead) → forget (read (map bare_feature)) (feature room es q) ≡ unplaced.feature room (map bare_name es) (kinds q)
  unfolding feature unplaced.feature
  forget_feature es q =
      forget_then _ _ _ _ _ (forget_name q) λ x.
      forget_if (forget (read (map bare_feature))) (sees terminal.Comma x.1) (forget_attributes es x.0 x.1)
      (forget_then _ _ _ _ _ (forget_formals x.1) λ fs. forget_then _ _ _ _ _ (forget_result_type fs.1) λ t. forget_attribute_or_routine es x.0 fs.0 t.0 t.1)

  forget_features_from : (es : List Name) (f : ℕ) (found : List Feature) (high : ℕ) (q : Ahead) →
      forget (read (map bare_feature)) (features_from room es f found high q) ≡ unplaced.features_from room (map bare_name es) f (map bare_feature found) high (kinds q)
  unfolding features_from unplaced.features_from
  forget_features_from es zero found high q = refl
  forget_features_from es (suc f) found high q =
      forget_if (forget (read (map bare_feature))) (name_ahead q)
      (forget_then _ _ _ _ _ (forget_feature es q) λ x.
      forget_features_from es f (found ++ x.0) (max high x.1) (skip_semicolons x.2)
      ∙ ap (λ (fs : List Feature). unplaced.features_from room (map bare_name es) f fs (max high x.1) (kinds (skip_semicolons x.2))) (map-append bare_feature found x.0)
      ∙ ap (unplaced.features_from room (map bare_name es) f (map bare_feature found ++ map bare_feature x.0) (max high x.1)) (kinds-skip_semicolons x.2))
      refl

  forget_sections_from : (f : ℕ) (found : List Feature) (high : ℕ) (q : Ahead) →
      forget (read (map bare_feature)) (sections_from room f found high q) ≡ unplaced.sections_from room f (map bare_feature found) high (kinds q)
  unfolding sections_from unplaced.sections_from
  forget_sections_from zero found high q = refl
  forget_sections_from (suc f) found high q =
      forget_if (forget (read (map bare_feature))) (sees terminal.Feature q)
      (forget_then _ _ _ _ _ (forget_exports (past q) ∙ ap unplaced.exports (kinds-past q)) λ es.
      forget_then _ _ _ _ _
      (forget_features_from es.0 (left es.1) found high es.1 ∙ ap (λ (g : ℕ). unplaced.features_from room (map bare_name es.0) g (map bare_feature found) high (kinds es.1)) (left_is es.1)) λ x.
      forget_sections_from f x.0 x.1 x.2)
      refl

  forget_sections : (q : Ahead) → forget (read (map bare_feature)) (sections room q) ≡ unplaced.sections room (kinds q)
  unfolding sections unplaced.sections
  forget_sections q = forget_sections_from (left q) [] 0 q ∙ ap (λ (f : ℕ). unplaced.sections_from room f [] 0 (kinds q)) (left_is q)

  forget_class_marked : (start : ℕ) (m : Option ClassMark) (q : Ahead) → forget (read bare_class) (class_marked room start m q) ≡ unplaced.class_marked room (bare_mark m) (kinds q)
  unfolding class_marked unplaced.class_marked
  forget_class_marked start m q =
      forget_then _ _ _ _ _ (forget_expect terminal.Class q) λ r. forget_then _ _ _ _ _ (forget_name r) λ x. forget_then _ _ _ _ _ (forget_parents x.1) λ ps.
      forget_then _ _ _ _ _ (forget_creators ps.1) λ ns. forget_then _ _ _ _ _ (forget_sections ns.1) λ fs. forget_then _ _ _ _ _ (forget_assertion room terminal.Invariant fs.2) λ is.
      forget_then _ _ _ _ _ (forget_expect terminal.End (past_note ends_class is.2) ∙ ap (looks.expect terminal.End) (kinds-past_note ends_class is.2)) λ e. refl

  forget_class : (q : Ahead) → forget (read bare_class) (class room q) ≡ unplaced.class room (kinds q)
  unfolding class unplaced.class
  forget_class q =
      let n = past_note heads_class q in
      forget_class_marked (begin n) (mark n).0 (mark n).1 ∙ ap (λ (m : Option ClassMark × List Kind). unplaced.class_marked room m.0 m.1) (same_mark n)
      ∙ ap (λ (r : List Kind). unplaced.class_marked room (unplaced.mark r).0 (unplaced.mark r).1) (kinds-past_note heads_class q)

done_is : (q : Ahead) → is_done q ≡ unplaced.is_done (kinds q)
done_is q = refl

forget_classes_from : (room f : ℕ) (found : List Class) (high : ℕ) (q : Ahead) →
    forget (read (map bare_class)) (classes_from room f found high q) ≡ unplaced.classes_from room f (map bare_class found) high (kinds q)
unfolding classes_from unplaced.classes_from
forget_classes_from room zero found high q = refl
forget_classes_from room (suc f) found high q =
    forget_if (forget (read (map bare_class))) (is_done q) refl
    (forget_then _ _ _ _ _ (forget_class room q) λ x.
    forget_classes_from room f (found ++ x.0 ∷ []) (max high x.1) x.2
    ∙ ap (λ (xs : List Class). unplaced.classes_from room f xs (max high x.1) (kinds x.2)) (map-append bare_class found (x.0 ∷ [])))

whole_is : (xs : List Class) (h : ℕ) (ts : List Token) → forget bare_system (whole_of xs ts) ≡ unplaced.whole (map bare_class xs, h, kinds_of ts)
whole_is xs h [] = refl
whole_is xs h (t ∷ ts) = refl

pub forget_system : (room : ℕ) (ts : List Token) → forget bare_system (system room ts) ≡ unplaced.system room (kinds_of ts)
unfolding system unplaced.system
forget_system room ts =
    forget_then _ _ _ _ _
    (forget_classes_from room (length ts) [] 0 (opening ts) ∙ ap (λ (f : ℕ). unplaced.classes_from room f [] 0 (kinds_of ts)) (sym (length-kinds_of ts))) λ x.
    whole_is x.0 x.1 x.2.rest
