-- The actuals of a call that the rules let pass fit the formals, on the called object's handler.
use Rattle.std.specs.Option.{option_and_then, option_map}
use Rattle.std.specs.Prelude.{bytes_eq, if◌then◌else◌, is_some, length, map, slice_get}
use Rattle.std.proofs.Common.{◌&&◌, ◌+◌, Bool, List, None, Option, Some, [], ap, arith, false, not, refl, subst, suc, sym, true, zero, ◌||◌, ℕ, ◌∙◌, ◌∷◌, ◌≡◌}
use Rattle.std.proofs.lemmas.Option.{slice_get-map}
use Rattle.sc_tree.specs.Plain.{Declaration, DeclaredType, HandlerOf, HandlerTag, Own, Separate, System}
use Rattle.sc_class.specs.Tables.Conformance.{class_conforms, is_expanded, type_class}
use Rattle.sc_class.specs.declared.identity.ClassId.{ClassId}
use Rattle.sc_class.specs.declared.identity.ClassId.TheVariants as class
use Rattle.sc_rules.specs.entity_types.Conformance.{conforms}
use Rattle.sc_rules.specs.declared.entity_types.entity_type.EntityType.{EntityType}
use Rattle.sc_rules.specs.declared.entity_types.tag.Reserved.{Reserved}
use Rattle.sc_rules.specs.declared.entity_types.tag.Reserved.TheVariants.{BlockName, Formal}
use Rattle.sc_rules.specs.declared.entity_types.tag.Tag.{Tag}
use Rattle.sc_rules.specs.declared.entity_types.tag.Tag.TheVariants as tag
use Rattle.sc_rules.specs.entity_types.Combiners.{combined_argument, known_of, known_tag}
use Rattle.sc_rules.specs.declared.entity_types.known.Known.{Known}
use Rattle.sc_rules.specs.Names.{formal_type, of_type}
use Rattle.sc_rules.specs.Types.{declared_tag, declared_type, is_marked, is_nameable, is_own, is_separate, number_of_named, typed}
use Rattle.sc_rules.specs.Typing.{formals_take, is_untyped, known_handler, known_handlers, named_formal, names_untyped, takes, takes_if_any}
use Rattle.sc_model.specs.Fits.{Fits, Lies}
use Rattle.sc_model.specs.Values.{Attached, Boolean, Integer, Operand, Reference, Value, Void, handler_of}
use Rattle.sc_machine_laws.specs.states.Fitting.{ActualsFit, no_more, one_more}
use Rattle.sc_machine_laws.specs.states.Places.{of_actuals}
use Rattle.sc_machine_laws.specs.states.Points.{Each, types_of}
use Rattle.sc_machine_laws.proofs.states.Lists.{both}
use Rattle.sc_machine_laws.proofs.states.PassedValues as passing
use Rattle.sc_machine_laws.proofs.states.PassedValues.{FitsAs, IsPlain, IsTold, actual_fits, conforms_fits, known_lies}

-- ---- declared types

-- what a declared type is made of
pub record Declares (s : System) (formals : List Declaration) (d : DeclaredType) (t : EntityType) : Type 0 where
  pub class_is : type_class s d.class.text ≡ Some t.class
  pub tag_is : declared_tag formals d.tag ≡ Some t.tag
  pub mark_is : t.attached ≡ not d.is_detachable
  pub unmarked : (is_expanded t.class && is_marked d) ≡ false

pub declares : (s : System) (formals : List Declaration) (d : DeclaredType) (t : EntityType) → declared_type s formals d ≡ Some t → Declares s formals d t
declares s formals d t e = by (type_class s d.class.text) (declared_tag formals d.tag) refl refl e
  where
    made : (c : ClassId) (g : Tag) (b : Bool) → (is_expanded c && is_marked d) ≡ b → type_class s d.class.text ≡ Some c → declared_tag formals d.tag ≡ Some g →
        (if b then None else Some (record { attached = not d.is_detachable; tag = g; class = c })) ≡ Some t → Declares s formals d t
    made c g true m i j e = cc
    made c g false m i j e =
        let r : record { attached = not d.is_detachable; tag = g; class = c } ≡ t = cc in
        subst (Declares s formals d) r (record { class_is = i; tag_is = j; mark_is = refl; unmarked = m })

    by : (o : Option ClassId) (g : Option Tag) → type_class s d.class.text ≡ o → declared_tag formals d.tag ≡ g → typed d o g ≡ Some t → Declares s formals d t
    by None g i j e = cc
    by (Some c) None i j e = cc
    by (Some c) (Some g) i j e = made c g (is_expanded c && is_marked d) refl i j e

-- the type of a result or an attribute names nothing
pub plain_result : (s : System) (d : DeclaredType) (t : EntityType) → declared_type s [] d ≡ Some t → IsPlain t.tag
plain_result s d t e = by d.tag (declares s [] d t e).tag_is
  where
    by : (g : HandlerTag) → declared_tag [] g ≡ Some t.tag → IsPlain t.tag
    by Own e = let q : tag.Own ≡ t.tag = cc in subst IsPlain q passing.is_own
    by Separate e = let q : tag.Any ≡ t.tag = cc in subst IsPlain q passing.is_any
    by (HandlerOf x) e = cc

-- the formal that a tag names
record IsNamed (formals : List Declaration) (y : ℕ) : Type 0 where
  pub formal : Declaration
  pub is_there : slice_get formals y ≡ Some formal
  pub nameable : is_nameable formal ≡ true

named_later : {d : Declaration} {ds : List Declaration} {y : ℕ} → IsNamed ds y → IsNamed (d ∷ ds) (suc y)
named_later n = record { formal = n.formal; is_there = n.is_there; nameable = n.nameable }

named_at : (x : List ℕ) (ds : List Declaration) (y : ℕ) → number_of_named x ds ≡ Some y → IsNamed ds y
named_at x [] y e = cc
named_at x (d ∷ ds) y e = by (bytes_eq d.name.text x) (is_nameable d) refl (number_of_named x ds) (named_at x ds) e
  where
    by : (b c : Bool) → is_nameable d ≡ c → (o : Option ℕ) → ((y : ℕ) → o ≡ Some y → IsNamed ds y) →
        (if b then (if c then Some 0 else None) else option_map (λ i. i + 1) o) ≡ Some y → IsNamed (d ∷ ds) y
    by true true n o f e = let z : 0 ≡ y = cc in subst (IsNamed (d ∷ ds)) z (record { formal = d; is_there = refl; nameable = n })
    by true false n o f e = cc
    by false c n None f e = cc
    by false c n (Some j) f e =
        let z : j + 1 ≡ y = cc in
        let q : suc j ≡ y = omega (arith, z) in
        subst (IsNamed (d ∷ ds)) q (named_later (f j refl))

-- a tag that names a formal names one of the formals
tag_names : (s : System) (formals : List Declaration) (d : DeclaredType) (t : EntityType) (y : ℕ) → declared_type s formals d ≡ Some t → t.tag ≡ tag.With (Formal y) →
    IsNamed formals y
tag_names s formals d t y e n = by d.tag ((declares s formals d t e).tag_is ∙ ap (λ g. Some g) n)
  where
    of_number : (o : Option ℕ) → option_map (λ i. tag.With (Formal i)) o ≡ Some (tag.With (Formal y)) → o ≡ Some y
    of_number None e = cc
    of_number (Some i) e = cc

    by : (g : HandlerTag) → declared_tag formals g ≡ Some (tag.With (Formal y)) → IsNamed formals y
    by Own e = cc
    by Separate e = cc
    by (HandlerOf x) e = named_at x.text formals y (of_number (number_of_named x.text formals) e)

-- ---- pairs of formals and actuals

abbrev EachPair : (Declaration → Operand → Type 0) → List Declaration → List Operand → Type 0
EachPair R [] [] = Unit {0}
EachPair R (d ∷ ds) (u ∷ us) = R d u × EachPair R ds us
EachPair R ds us = ⊥

record PairAt (R : Declaration → Operand → Type 0) (us : List Operand) (d : Declaration) (y : ℕ) : Type 0 where
  pub actual : Operand
  pub is_there : slice_get us y ≡ Some actual
  pub pair : R d actual

pair_later : {R : Declaration → Operand → Type 0} {u : Operand} {us : List Operand} {d : Declaration} {y : ℕ} → PairAt R us d y → PairAt R (u ∷ us) d (suc y)
pair_later p = record { actual = p.actual; is_there = p.is_there; pair = p.pair }

pair_at : (R : Declaration → Operand → Type 0) (ds : List Declaration) (us : List Operand) (y : ℕ) (d : Declaration) → EachPair R ds us → slice_get ds y ≡ Some d → PairAt R us d y
pair_at R [] us y d p e = cc
pair_at R (c ∷ ds) [] y d p e = absurd p
pair_at R (c ∷ ds) (u ∷ us) zero d p e =
    let q : c ≡ d = cc in record { actual = u; is_there = refl; pair = subst (λ d. R d u) q p.0 }
pair_at R (c ∷ ds) (u ∷ us) (suc y) d p e = pair_later (pair_at R ds us y d p.1 e)

abbrev pub somes : List EntityType → List (Option EntityType)
somes ts = map (λ (t : EntityType). Some t) ts

module _ (s : System) (me k : ℕ) (of : Reserved → Option ℕ) (t : EntityType) (all : List Declaration) (every : List Operand) (l : Lies t.tag me of k) where
  tys : List (Option EntityType)
  tys = somes (types_of every)

  -- the formal is declared, the actual fits its own type, and it conforms to the combined one
  record Passes (d : Declaration) (u : Operand) : Type 0 where
    pub type : EntityType
    pub is_declared : declared_type s all d.declared_type ≡ Some type
    pub fits : Fits s me of u.value u.type
    pub taken : takes s t tys (of_type type) u.type ≡ true

  abbrev IsDeclared : Declaration → Type 0
  IsDeclared d = is_some (declared_type s all d.declared_type) ≡ true

  passes : (d : Declaration) (u : Operand) (o : Option EntityType) → declared_type s all d.declared_type ≡ o → is_some o ≡ true → Fits s me of u.value u.type →
      takes_if_any s t tys (formal_type o) (Some u.type) ≡ true → Passes d u
  passes d u None e i f m = cc
  passes d u (Some g) e i f m = record { type = g; is_declared = e; fits = f; taken = m }

  pairs : (ds : List Declaration) (us : List Operand) → length us ≡ length ds → Each IsDeclared ds → Each (FitsAs s me of) us →
      formals_take s t tys (map (λ (d : Declaration). formal_type (declared_type s all d.declared_type)) ds) (somes (types_of us)) ≡ true → EachPair Passes ds us
  pairs [] [] n i f e = tt
  pairs [] (u ∷ us) n i f e = cc
  pairs (d ∷ ds) [] n i f e = cc
  pairs (d ∷ ds) (u ∷ us) n i f e =
      let b = both (takes_if_any s t tys (formal_type (declared_type s all d.declared_type)) (Some u.type))
      (formals_take s t tys (map (λ (d : Declaration). formal_type (declared_type s all d.declared_type)) ds) (somes (types_of us))) e in
      (passes d u (declared_type s all d.declared_type) refl i.0 f.0 b.0, pairs ds us (by_length n) i.1 f.1 b.1)
    where
      by_length : {m n : ℕ} → suc m ≡ suc n → m ≡ n
      by_length e = omega (arith, e)

  abbrev vals : List Value
  vals = map (λ (u : Operand). u.value) every

  known_at : (y : ℕ) (u : Operand) → slice_get every y ≡ Some u → slice_get (known_handlers tys) y ≡ Some (known_of u.type.tag)
  unfolding tys
  known_at y u e =
      slice_get-map known_handler (somes (types_of every)) y
      ∙ ap (option_map known_handler) (slice_get-map (λ (t : EntityType). Some t) (types_of every) y
      ∙ ap (option_map (λ (t : EntityType). Some t)) (slice_get-map (λ (u : Operand). u.type) every y ∙ ap (option_map (λ (u : Operand). u.type)) e))

  typed_at : (y : ℕ) (u : Operand) → slice_get every y ≡ Some u → is_untyped (slice_get tys y) ≡ false
  unfolding tys
  typed_at y u e = ap is_untyped (slice_get-map (λ (t : EntityType). Some t) (types_of every) y
      ∙ ap (option_map (λ (t : EntityType). Some t)) (slice_get-map (λ (u : Operand). u.type) every y ∙ ap (option_map (λ (u : Operand). u.type)) e))

  handler_at : (y : ℕ) (u : Operand) → slice_get every y ≡ Some u → of_actuals vals (Formal y) ≡ handler_of u.value
  handler_at y u e = ap (option_and_then handler_of) (slice_get-map (λ (u : Operand). u.value) every y ∙ ap (option_map (λ (u : Operand). u.value)) e)

  -- an actual for a formal that a tag may name is an object
  record IsObject (u : Operand) : Type 0 where
    pub object : Reference
    pub value_is : u.value ≡ Attached object

  attached_object : (v : Value) (o : Reserved → Option ℕ) (g : EntityType) → g.attached ≡ true → is_expanded g.class ≡ false → Fits s k o v g →
      (q : Reference) × (v ≡ Attached q)
  attached_object (Integer z) o g a x f = absurd (integer_class g.class f x)
    where
      integer_class : (c : ClassId) → class_conforms s class.Integer c ≡ true → is_expanded c ≡ false → ⊥
      integer_class class.Integer e f = cc
      integer_class class.Boolean e f = cc
      integer_class class.Any e f = cc
      integer_class class.None e f = cc
      integer_class (class.Declared j) e f = cc
  attached_object (Boolean b) o g a x f = absurd (boolean_class g.class f x)
    where
      boolean_class : (c : ClassId) → class_conforms s class.Boolean c ≡ true → is_expanded c ≡ false → ⊥
      boolean_class class.Integer e f = cc
      boolean_class class.Boolean e f = cc
      boolean_class class.Any e f = cc
      boolean_class class.None e f = cc
      boolean_class (class.Declared j) e f = cc
  attached_object Void o g a x f = let y : true ≡ false = sym a ∙ f.0 in cc
  attached_object (Attached q) o g a x f = (q, refl)

  conforming : (g a : EntityType) (b : Bool) → names_untyped tys (named_formal g.tag) ≡ b → b ≡ false → takes s t tys (of_type g) a ≡ true →
      conforms s a (combined_argument t g (known_handlers tys)) ≡ true
  conforming g a b e i m = subst (λ b. (b || conforms s a (combined_argument t g (known_handlers tys))) ≡ true) (e ∙ i) m

  -- the nameable formal of a pair: attached, of tag `any`, and of a reference class
  record IsAny (g : EntityType) : Type 0 where
    pub attached_is : g.attached ≡ true
    pub tag_is : g.tag ≡ tag.Any
    pub class_is : is_expanded g.class ≡ false

  nameable_any : (d : Declaration) (g : EntityType) → is_nameable d ≡ true → declared_type s all d.declared_type ≡ Some g → IsAny g
  nameable_any d g n e = by d.declared_type.is_detachable d.declared_type.tag refl refl n
    where
      D : Declares s all d.declared_type g
      D = declares s all d.declared_type g e

      unexpanded : (b : Bool) → (b && true) ≡ false → b ≡ false
      unexpanded true e = cc
      unexpanded false e = refl

      same_tag : Some tag.Any ≡ Some g.tag → g.tag ≡ tag.Any
      same_tag e = cc

      by : (b : Bool) (h : HandlerTag) → d.declared_type.is_detachable ≡ b → d.declared_type.tag ≡ h → (not b && is_separate h) ≡ true → IsAny g
      by true h i j n = cc
      by false Own i j n = cc
      by false (HandlerOf x) i j n = cc
      by false Separate i j n = record {
        attached_is = D.mark_is ∙ ap not i;
        tag_is = same_tag (sym (ap (declared_tag all) j) ∙ D.tag_is);
        class_is = unexpanded (is_expanded g.class) (subst (λ b. (is_expanded g.class && b) ≡ false) marked D.unmarked);
      }
        where
          marked : is_marked d.declared_type ≡ true
          marked = ap (λ b. b || not (is_own d.declared_type.tag)) i ∙ ap (λ h. not (is_own h)) j

  any_untold : (g : Tag) (ks : List Known) → g ≡ tag.Any → IsTold me of (of_actuals vals) ks g
  any_untold g ks e y n a j i m = let x : tag.Any ≡ tag.With (Formal y) = sym e ∙ n in cc

  any_told : (g : Tag) → g ≡ tag.Any → names_untyped tys (named_formal g) ≡ false
  any_told g e = ap (λ g. names_untyped tys (named_formal g)) e

  -- an actual for a nameable formal is an object that fits its own type
  object_at : (d : Declaration) (u : Operand) → is_nameable d ≡ true → Passes d u → (q : Reference) × (u.value ≡ Attached q)
  object_at d u n p =
      let a : IsAny p.type = nameable_any d p.type n p.is_declared in
      attached_object u.value (of_actuals vals) p.type a.attached_is a.class_is
      (actual_fits s me k of (of_actuals vals) t p.type (known_handlers tys) u.value l (any_untold p.type.tag (known_handlers tys) a.tag_is)
      (conforms_fits s me of u.value u.type (combined_argument t p.type (known_handlers tys)) (conforming p.type u.type false (any_told p.type.tag a.tag_is) refl p.taken) p.fits))

  same_known : (a b : Known) → Some a ≡ Some b → a ≡ b
  same_known a b e = cc

  told_by : (u : Operand) (q : Reference) (j : ℕ) → Fits s me of u.value u.type → u.value ≡ Attached q → Lies (known_tag (known_of u.type.tag)) me of j → handler_of u.value ≡ Some j
  told_by u q j f e m =
      let g : Fits s me of (Attached q) u.type = subst (λ v. Fits s me of v u.type) e f in
      ap handler_of e ∙ ap (λ j. Some j) (sym (known_lies u.type.tag me q.handler j of g.1 m))

  told : EachPair Passes all every → (g : EntityType) (d : Declaration) → declared_type s all d.declared_type ≡ Some g → IsTold me of (of_actuals vals) (known_handlers tys) g.tag
  told p g d e y n a j i m =
      let f = tag_names s all d.declared_type g y e n in
      let at = pair_at Passes all every y f.formal p f.is_there in
      let o = object_at f.formal at.actual f.nameable at.pair in
      handler_at y at.actual at.is_there
      ∙ told_by at.actual o.0 j at.pair.fits o.1 (subst (λ a. Lies (known_tag a) me of j) (same_known a (known_of at.actual.type.tag) (sym i ∙ known_at y at.actual at.is_there)) m)

  is_told_at : EachPair Passes all every → (g : EntityType) (d : Declaration) → declared_type s all d.declared_type ≡ Some g → names_untyped tys (named_formal g.tag) ≡ false
  is_told_at p g d e = by g.tag refl
    where
      by : (h : Tag) → g.tag ≡ h → names_untyped tys (named_formal h) ≡ false
      by tag.Own n = refl
      by tag.Any n = refl
      by tag.None n = refl
      by (tag.With (BlockName y)) n = refl
      by (tag.With (Formal y)) n =
          let f = tag_names s all d.declared_type g y e n in
          let at = pair_at Passes all every y f.formal p f.is_there in
          typed_at y at.actual at.is_there

  pair_fits : EachPair Passes all every → (d : Declaration) (u : Operand) (q : Passes d u) → Fits s k (of_actuals vals) u.value q.type
  pair_fits p d u q =
      actual_fits s me k of (of_actuals vals) t q.type (known_handlers tys) u.value l (told p q.type d q.is_declared)
      (conforms_fits s me of u.value u.type (combined_argument t q.type (known_handlers tys)) (conforming q.type u.type false (is_told_at p q.type d q.is_declared) refl q.taken) q.fits)

  all_fit : EachPair Passes all every → (ds : List Declaration) (us : List Operand) → EachPair Passes ds us → ActualsFit s k all (of_actuals vals) ds (map (λ (u : Operand). u.value) us)
  all_fit p [] [] q = no_more
  all_fit p [] (u ∷ us) q = absurd q
  all_fit p (d ∷ ds) [] q = absurd q
  all_fit p (d ∷ ds) (u ∷ us) q = one_more q.0.is_declared (pair_fits p d u q.0) (all_fit p ds us q.1)

  -- The actuals fit the formals, on the called object's handler.
  pub actuals_fit : length every ≡ length all → Each IsDeclared all → Each (FitsAs s me of) every →
      formals_take s t (somes (types_of every)) (map (λ (d : Declaration). formal_type (declared_type s all d.declared_type)) all) (somes (types_of every)) ≡ true →
      ActualsFit s k all (of_actuals (map (λ (u : Operand). u.value) every)) all (map (λ (u : Operand). u.value) every)
  unfolding tys
  actuals_fit n i f e = let p = pairs all every n i f e in all_fit p all every p
