-- Values keep fitting: by types that conform, where a result is given back, where an actual is passed on, and where more names are known.
use Rattle.std.specs.Option.{option_map_or}
use Rattle.std.specs.Prelude.{if◌then◌else◌, slice_get}
use Rattle.std.proofs.Common.{◌&&◌, Bool, List, None, Option, Some, ap, false, refl, subst, sym, true, ℕ, ◌∙◌, ◌≡◌}
use Rattle.std.proofs.lemmas.Bool.{eqb-true}
use Rattle.sc_tree.specs.Plain.{System}
use Rattle.sc_class.specs.Tables.Conformance.{class_conforms, is_expanded}
use Rattle.sc_class.specs.declared.identity.ClassId.{ClassId}
use Rattle.sc_class.specs.declared.identity.ClassId.TheVariants as class
use Rattle.sc_rules.specs.entity_types.Conformance.{conforms, mark_conforms}
use Rattle.sc_rules.specs.entity_types.Tags.{is_same_reserved, tag_conforms}
use Rattle.sc_rules.specs.declared.entity_types.entity_type.EntityType.{EntityType}
use Rattle.sc_rules.specs.declared.entity_types.tag.Reserved.{Reserved}
use Rattle.sc_rules.specs.declared.entity_types.tag.Reserved.TheVariants.{BlockName, Formal}
use Rattle.sc_rules.specs.declared.entity_types.tag.Tag.{Tag}
use Rattle.sc_rules.specs.declared.entity_types.tag.Tag.TheVariants as tag
use Rattle.sc_rules.proofs.entity_types.ConformanceLemmas.{transitive}
use Rattle.sc_rules.specs.entity_types.Combiners.{argument_tag, combined_argument, combined_result, known_of, known_tag, result_tag}
use Rattle.sc_rules.specs.declared.entity_types.known.Known.{Known}
use Rattle.sc_model.specs.Fits.{Fits, Lies}
use Rattle.sc_model.specs.Values.{Attached, Boolean, Integer, Operand, Value, Void}
use Rattle.sc_machine_laws.specs.states.Places.{no_names}

-- ---- conformance

pub each : (a b c : Bool) → (a && b && c) ≡ true → (a ≡ true) × (b ≡ true) × (c ≡ true)
each true true true e = (refl, refl, refl)
each true true false e = cc
each true false c e = cc
each false b c e = cc

same_reserved : (x y : Reserved) → is_same_reserved x y ≡ true → x ≡ y
same_reserved (Formal i) (Formal j) e = ap (λ k. Formal k) (eqb-true i j e)
same_reserved (Formal i) (BlockName j) e = cc
same_reserved (BlockName i) (Formal j) e = cc
same_reserved (BlockName i) (BlockName j) e = ap (λ k. BlockName k) (eqb-true i j e)

-- an attached type of the current handler
own_type : ClassId → EntityType
own_type c = record { attached = true; tag = tag.Own; class = c }

class_over : (s : System) (a b c : ClassId) → class_conforms s a b ≡ true → class_conforms s b c ≡ true → class_conforms s a c ≡ true
unfolding own_type
class_over s a b c e f = (each (class_conforms s a c) true true (transitive s (own_type a) (own_type b) (own_type c) (with_tags (class_conforms s a b) e) (with_tags (class_conforms s b c) f))).0
  where
    with_tags : (d : Bool) → d ≡ true → (d && true && true) ≡ true
    with_tags true e = refl
    with_tags false e = cc

pub reference_over : (s : System) (a b : ClassId) → class_conforms s a b ≡ true → is_expanded a ≡ false → is_expanded b ≡ false
reference_over s class.Any class.Any e f = refl
reference_over s class.Any class.None e f = cc
reference_over s class.Any class.Integer e f = cc
reference_over s class.Any class.Boolean e f = cc
reference_over s class.Any (class.Declared k) e f = cc
reference_over s class.None class.Any e f = refl
reference_over s class.None class.None e f = refl
reference_over s class.None class.Integer e f = cc
reference_over s class.None class.Boolean e f = cc
reference_over s class.None (class.Declared k) e f = refl
reference_over s class.Integer b e f = cc
reference_over s class.Boolean b e f = cc
reference_over s (class.Declared k) class.Any e f = refl
reference_over s (class.Declared k) class.None e f = refl
reference_over s (class.Declared k) class.Integer e f = cc
reference_over s (class.Declared k) class.Boolean e f = cc
reference_over s (class.Declared k) (class.Declared j) e f = refl

-- an object's class is no expanded one
pub object_class : (s : System) (k : ℕ) (b : ClassId) → class_conforms s (class.Declared k) b ≡ true → is_expanded b ≡ false
object_class s k b e = reference_over s (class.Declared k) b e refl

detachable_over : (a b : Bool) → mark_conforms a b ≡ true → a ≡ false → b ≡ false
detachable_over true b e f = cc
detachable_over false true e f = cc
detachable_over false false e f = refl

lies_over : (t u : Tag) (me : ℕ) (of : Reserved → Option ℕ) (k : ℕ) → tag_conforms t u ≡ true → Lies t me of k → Lies u me of k
lies_over tag.None u me of k e l = absurd l
lies_over tag.Own tag.Own me of k e l = l
lies_over tag.Own tag.Any me of k e l = tt
lies_over tag.Own (tag.With y) me of k e l = cc
lies_over tag.Own tag.None me of k e l = cc
lies_over tag.Any tag.Any me of k e l = tt
lies_over tag.Any tag.Own me of k e l = cc
lies_over tag.Any (tag.With y) me of k e l = cc
lies_over tag.Any tag.None me of k e l = cc
lies_over (tag.With x) tag.Any me of k e l = tt
lies_over (tag.With x) (tag.With y) me of k e l = subst (λ z. of z ≡ Some k) (same_reserved x y e) l
lies_over (tag.With x) tag.Own me of k e l = cc
lies_over (tag.With x) tag.None me of k e l = cc

-- What fits a type fits each that it conforms to.
pub conforms_fits : (s : System) (me : ℕ) (of : Reserved → Option ℕ) (v : Value) (t u : EntityType) → conforms s t u ≡ true → Fits s me of v t → Fits s me of v u
conforms_fits s me of (Integer z) t u e f = class_over s class.Integer t.class u.class f (each (class_conforms s t.class u.class) (mark_conforms t.attached u.attached) (tag_conforms t.tag u.tag) e).0
conforms_fits s me of (Boolean b) t u e f = class_over s class.Boolean t.class u.class f (each (class_conforms s t.class u.class) (mark_conforms t.attached u.attached) (tag_conforms t.tag u.tag) e).0
conforms_fits s me of Void t u e f =
    let a = each (class_conforms s t.class u.class) (mark_conforms t.attached u.attached) (tag_conforms t.tag u.tag) e in
    (detachable_over t.attached u.attached a.1 f.0, reference_over s t.class u.class a.0 f.1)
conforms_fits s me of (Attached r) t u e f =
    let a = each (class_conforms s t.class u.class) (mark_conforms t.attached u.attached) (tag_conforms t.tag u.tag) e in
    (class_over s (class.Declared r.class) t.class u.class f.0 a.0, lies_over t.tag u.tag me of r.handler a.2 f.1)

-- ---- results

-- a tag that names nothing: of a result, an attribute
pub data IsPlain : Tag → Type 0 where
  is_own : IsPlain tag.Own
  is_any : IsPlain tag.Any

result_lies : (t g : Tag) (me k j : ℕ) (of : Reserved → Option ℕ) → IsPlain g → Lies t me of k → Lies g k no_names j → Lies (result_tag t g) me of j
result_lies tag.Own g me k j of is_own l m = m ∙ l
result_lies tag.Own g me k j of is_any l m = tt
result_lies tag.Any g me k j of is_own l m = tt
result_lies tag.Any g me k j of is_any l m = tt
result_lies (tag.With x) g me k j of is_own l m = l ∙ ap (λ k. Some k) (sym m)
result_lies (tag.With x) g me k j of is_any l m = tt
result_lies tag.None g me k j of p l m = absurd l

-- A value that fits a result's type on the target's handler fits the combined type, seen by the caller.
pub result_fits : (s : System) (me : ℕ) (of : Reserved → Option ℕ) (t g : EntityType) (k : ℕ) (v : Value) → IsPlain g.tag → Lies t.tag me of k →
    Fits s k no_names v g → Fits s me of v (combined_result t g)
result_fits s me of t g k v p l f = by (is_expanded g.class) refl v f
  where
    by : (b : Bool) → is_expanded g.class ≡ b → (v : Value) → Fits s k no_names v g →
        Fits s me of v (if b then record { attached = true; tag = tag.Own; class = g.class } else record { attached = g.attached; tag = result_tag t.tag g.tag; class = g.class })
    by true e (Integer z) f = f
    by true e (Boolean b) f = f
    by true e Void f = let x : false ≡ true = sym f.1 ∙ e in cc
    by true e (Attached r) f = let x : false ≡ true = sym (object_class s r.class g.class f.0) ∙ e in cc
    by false e (Integer z) f = f
    by false e (Boolean b) f = f
    by false e Void f = f
    by false e (Attached r) f = (f.0, result_lies t.tag g.tag me k r.handler of p l f.1)

-- the combined type has the result's class
pub combined_class : (t g : EntityType) → (combined_result t g).class ≡ g.class
combined_class t g = by (is_expanded g.class)
  where
    chosen : Bool → EntityType
    chosen b = if b then record { attached = true; tag = tag.Own; class = g.class } else record { attached = g.attached; tag = result_tag t.tag g.tag; class = g.class }

    by : (b : Bool) → (chosen b).class ≡ g.class
    by true = refl
    by false = refl

-- ---- actuals

same_handler : (a : Option ℕ) (j k : ℕ) → a ≡ Some j → a ≡ Some k → j ≡ k
same_handler a j k e f = cc

-- what is known of the target's handler is that of each value that lies there
pub known_lies : (t : Tag) (me k j : ℕ) (of : Reserved → Option ℕ) → Lies t me of k → Lies (known_tag (known_of t)) me of j → j ≡ k
known_lies tag.Own me k j of l m = m ∙ sym l
known_lies (tag.With x) me k j of l m = same_handler (of x) j k m l
known_lies tag.Any me k j of l m = absurd m
known_lies tag.None me k j of l m = absurd m

-- Where the formal's tag names the formal y, its actual is an object, and what is known of its handler is true.
abbrev pub IsTold : ℕ → (Reserved → Option ℕ) → (Reserved → Option ℕ) → List Known → Tag → Type 0
IsTold me of inner ks g = (y : ℕ) → g ≡ tag.With (Formal y) → (a : Known) (j : ℕ) → slice_get ks y ≡ Some a → Lies (known_tag a) me of j → inner (Formal y) ≡ Some j

actual_lies : (t g : Tag) (me k j : ℕ) (of inner : Reserved → Option ℕ) (ks : List Known) → Lies t me of k → IsTold me of inner ks g →
    Lies (argument_tag t g ks) me of j → Lies g k inner j
actual_lies t tag.Any me k j of inner ks l told m = tt
actual_lies t tag.Own me k j of inner ks l told m = known_lies t me k j of l m
actual_lies t (tag.With (Formal y)) me k j of inner ks l told m = by (slice_get ks y) refl m
  where
    by : (o : Option Known) → slice_get ks y ≡ o → Lies (option_map_or known_tag o tag.None) me of j → inner (Formal y) ≡ Some j
    by None e m = absurd m
    by (Some a) e m = told y refl a j e m
actual_lies t (tag.With (BlockName y)) me k j of inner ks l told m = absurd m
actual_lies t tag.None me k j of inner ks l told m = absurd m

-- An actual that fits the combined type fits the formal's, on the called object's handler.
pub actual_fits : (s : System) (me k : ℕ) (of inner : Reserved → Option ℕ) (t g : EntityType) (ks : List Known) (v : Value) → Lies t.tag me of k → IsTold me of inner ks g.tag →
    Fits s me of v (combined_argument t g ks) → Fits s k inner v g
actual_fits s me k of inner t g ks (Integer z) l told f = f
actual_fits s me k of inner t g ks (Boolean b) l told f = f
actual_fits s me k of inner t g ks Void l told f = f
actual_fits s me k of inner t g ks (Attached r) l told f = (f.0, by (is_expanded g.class) (object_class s r.class g.class f.0) f.1)
  where
    by : (b : Bool) → b ≡ false → Lies (if b then tag.Own else argument_tag t.tag g.tag ks) me of r.handler → Lies g.tag k inner r.handler
    by true e m = cc
    by false e m = actual_lies t.tag g.tag me k r.handler of inner ks l told m

-- an operand, seen with these names
abbrev pub FitsAs : System → ℕ → (Reserved → Option ℕ) → Operand → Type 0
FitsAs s me of u = Fits s me of u.value u.type

-- ---- more names

-- what the first names, the second does
abbrev pub Names : (Reserved → Option ℕ) → (Reserved → Option ℕ) → Type 0
Names of other = (x : Reserved) (k : ℕ) → of x ≡ Some k → other x ≡ Some k

pub lies_more : (g : Tag) (me k : ℕ) (of other : Reserved → Option ℕ) → Names of other → Lies g me of k → Lies g me other k
lies_more tag.Own me k of other m l = l
lies_more tag.Any me k of other m l = tt
lies_more tag.None me k of other m l = l
lies_more (tag.With x) me k of other m l = m x k l

pub fits_more : (s : System) (me : ℕ) (of other : Reserved → Option ℕ) (v : Value) (t : EntityType) → Names of other → Fits s me of v t → Fits s me other v t
fits_more s me of other (Integer z) t m f = f
fits_more s me of other (Boolean b) t m f = f
fits_more s me of other Void t m f = f
fits_more s me of other (Attached r) t m f = (f.0, lies_more t.tag me r.handler of other m f.1)

pub no_names_known : (of : Reserved → Option ℕ) → Names no_names of
no_names_known of x k e = cc

-- what fits a type that names nothing does so wherever it is seen from on its handler
pub fits_without : (s : System) (me : ℕ) (of : Reserved → Option ℕ) (v : Value) (t : EntityType) → IsPlain t.tag → Fits s me of v t → Fits s me no_names v t
fits_without s me of (Integer z) t p f = f
fits_without s me of (Boolean b) t p f = f
fits_without s me of Void t p f = f
fits_without s me of (Attached r) t p f = (f.0, lies t.tag p f.1)
  where
    lies : (g : Tag) → IsPlain g → Lies g me of r.handler → Lies g me no_names r.handler
    lies tag.Own p l = l
    lies tag.Any p l = tt
    lies (tag.With x) p l = elim p [ ]
    lies tag.None p l = l
