-- A function that contracts may call has no formal whose handler it would reserve.
use Rattle.std.proofs.Common.{ℕ, ◌≡◌, ◌+◌, ◌&&◌, not, Bool, true, false, List, [], ◌∷◌, Option, Some, None, refl, sym, ap, subst, ◌∙◌}
use Rattle.std.specs.Prelude.{if◌then◌else◌, is_some, cond, filter, map}
use Rattle.std.specs.List.{list_all}
use Rattle.sc_text.proofs.Classes.{and_true}
use Rattle.sc_tree.specs.Plain.{System, Declaration, DeclaredType, Routine, HandlerTag, Own, Separate, HandlerOf}
use Rattle.sc_class.specs.declared.identity.ClassId.{ClassId}
use Rattle.sc_class.specs.Tables.Conformance.{is_expanded, type_class}
use Rattle.sc_rules.specs.declared.entity_types.entity_type.EntityType.{EntityType}
use Rattle.sc_rules.specs.declared.entity_types.tag.Reserved.TheVariants.{Formal}
use Rattle.sc_rules.specs.declared.entity_types.tag.Tag.{Tag}
use Rattle.sc_rules.specs.declared.entity_types.tag.Tag.TheVariants as tag
use Rattle.sc_rules.specs.entity_types.Tags.{is_any}
use Rattle.sc_rules.specs.declared.position.Role.TheVariants as role
use Rattle.sc_rules.specs.Names.{reserved}
use Rattle.sc_rules.specs.Purity.{reserves, routine_named, is_pure_candidate, is_pure_candidate_if_any, no_candidate}
use Rattle.sc_rules.specs.Types.{is_own, is_foreign, is_marked, declared_tag, typed, declared_type}
use Rattle.sc_model.specs.Environments.{Binding, bind, is_separate_formal, separate_formals, with_binding, formals_bound}
use Rattle.sc_model.specs.Values.{Value}
use Rattle.sc_machine_laws.specs.settlements.Pure.{PureReserveNothing}

no : {A : Type 0} → false ≡ true → A
no e = cc

-- ---- a formal that isn't reserved

-- what is declared is attached or not, and has the tag, as it is written
record IsTyped (t : DeclaredType) (g : Option Tag) (u : EntityType) : Type 0 where
  attached : u.attached ≡ not t.is_detachable
  tag_is : g ≡ Some u.tag

typed_so : (t : DeclaredType) (c : Option ClassId) (g : Option Tag) (u : EntityType) → typed t c g ≡ Some u → IsTyped t g u
typed_so t None g u e = cc
typed_so t (Some c) None u e = cc
typed_so t (Some c) (Some g) u e = by (is_expanded c && is_marked t) e
  where
    by : (b : Bool) → (if b then None else Some (record { attached = not t.is_detachable; tag = g; class = c })) ≡ Some u → IsTyped t (Some g) u
    by true i = cc
    by false i =
        let same : (record { attached = not t.is_detachable; tag = g; class = c }) ≡ u = cc in
        record { attached = sym (ap (λ (v : EntityType). v.attached) same); tag_is = ap (λ (v : EntityType). Some v.tag) same }

some_tag : (g h : Tag) → Some g ≡ Some h → g ≡ h
some_tag g h e = cc

-- a tag that is `own` stays so
own_foreign : (i : ℕ) (a : Bool) (g : Tag) → g ≡ tag.Own → is_foreign (if a && is_any g then tag.With (Formal i) else g) ≡ false
own_foreign i a g e = subst (λ (g : Tag). is_foreign (if a && is_any g then tag.With (Formal i) else g) ≡ false) (sym e) (by a)
  where
    by : (a : Bool) → is_foreign (if a && is_any tag.Own then tag.With (Formal i) else tag.Own) ≡ false
    by true = refl
    by false = refl

unattached : (a f c : Bool) → a ≡ false → (true && a && f && c) ≡ false
unattached true f c e = no (sym e)
unattached false true c e = refl
unattached false false c e = refl

unforeign : (a f c : Bool) → f ≡ false → (true && a && f && c) ≡ false
unforeign a true c e = no (sym e)
unforeign true false c e = refl
unforeign false false c e = refl

module _ (s : System) (all : List Declaration) (i : ℕ) (d : Declaration) (t : EntityType) (v : Value) where
  abbrev bound : Binding
  bound = bind d.name.text (reserved i t) role.Formal v

  plain : not (reserves d) ≡ true → declared_type s all d.declared_type ≡ Some t → is_separate_formal bound ≡ false
  plain e typed = detachable d.declared_type.is_detachable refl
    where
      so : IsTyped d.declared_type (declared_tag all d.declared_type.tag) t
      so = typed_so d.declared_type (type_class s d.declared_type.class.text) (declared_tag all d.declared_type.tag) t typed

      own : (g : HandlerTag) → d.declared_type.tag ≡ g → not (is_own g) ≡ false → t.tag ≡ tag.Own
      own Own j k = some_tag t.tag tag.Own (sym so.tag_is ∙ ap (λ (g : HandlerTag). declared_tag all g) j)
      own Separate j k = no (sym k)
      own (HandlerOf x) j k = no (sym k)

      not_false : (b : Bool) → not b ≡ true → b ≡ false
      not_false true j = no j
      not_false false j = refl

      detachable : (b : Bool) → d.declared_type.is_detachable ≡ b → is_separate_formal bound ≡ false
      detachable true j =
          unattached t.attached (is_foreign (reserved i t).tag) (not (is_expanded t.class)) (so.attached ∙ ap not j)
      detachable false j =
          let kept : (not d.declared_type.is_detachable && not (is_own d.declared_type.tag)) ≡ false = not_false (reserves d) e in
          let owned : not (is_own d.declared_type.tag) ≡ false = sym (ap (λ (b : Bool). not b && not (is_own d.declared_type.tag)) j) ∙ kept in
          unforeign t.attached (is_foreign (reserved i t).tag) (not (is_expanded t.class))
          (own_foreign i t.attached t.tag (own d.declared_type.tag refl owned))

none_reserved : (s : System) (all : List Declaration) (i : ℕ) (ds : List Declaration) (vs : List Value) (bs : List Binding) →
    list_all (λ (d : Declaration). not (reserves d)) ds ≡ true → formals_bound s all i ds vs ≡ Some bs → separate_formals bs ≡ []
none_reserved s all i [] [] bs e f = let same : [] ≡ bs = cc in ap separate_formals (sym same)
none_reserved s all i [] (v ∷ vs) bs e f = cc
none_reserved s all i (d ∷ ds) [] bs e f = cc
none_reserved s all i (d ∷ ds) (v ∷ vs) bs e f =
    let both = and_true (not (reserves d)) (list_all (λ (d : Declaration). not (reserves d)) ds) e in
    by (declared_type s all d.declared_type) (formals_bound s all (i + 1) ds vs) refl (λ cs j. none_reserved s all (i + 1) ds vs cs both.1 j) both.0 f
  where
    by : (o : Option EntityType) (rest : Option (List Binding)) → declared_type s all d.declared_type ≡ o →
        ((cs : List Binding) → rest ≡ Some cs → separate_formals cs ≡ []) → not (reserves d) ≡ true →
        with_binding o d.name.text i v rest ≡ Some bs → separate_formals bs ≡ []
    by None rest typed others e f = cc
    by (Some t) None typed others e f = cc
    by (Some t) (Some cs) typed others e f =
        let same : bind d.name.text (reserved i t) role.Formal v ∷ cs ≡ bs = cc in
        let b : Binding = bind d.name.text (reserved i t) role.Formal v in
        ap separate_formals (sym same)
        ∙ ap (λ (c : Bool). map (λ (b : Binding). b.value) (cond c (bind d.name.text (reserved i t) role.Formal v ∷ filter is_separate_formal cs) (filter is_separate_formal cs)))
        (plain s all i d t v e typed)
        ∙ others cs refl

-- ---- pure functions

pub pure_reserve_nothing : PureReserveNothing
pure_reserve_nothing s pure tells f is d routine named kind vs bs bound =
    none_reserved s routine.formals 0 routine.formals vs bs
    (and_true (is_some routine.result_type) (list_all (λ (d : Declaration). not (reserves d)) routine.formals) (by (is_pure_candidate (Routine routine)) refl)).1 bound
  where
    same : is_pure_candidate_if_any (routine_named s f) ≡ is_pure_candidate (Routine routine)
    same = ap is_pure_candidate_if_any named ∙ ap is_pure_candidate kind

    by : (b : Bool) → is_pure_candidate (Routine routine) ≡ b → b ≡ true
    by true e = refl
    by false e = let p = (tells f).0 is in absurd ((p.1 f p.2).0 (no_candidate (same ∙ e)))
