-- Conformance is reflexive and transitive, and follows what tags mean.
use Rattle.std.proofs.Common.{◌≡◌, ℕ, Bool, true, false, not, ◌&&◌, ◌⊎◌, inl, inr, refl, ap, subst}
use Rattle.std.specs.Prelude.{if◌then◌else◌}
use Rattle.std.proofs.lemmas.Bool.{eqb-true, eq-eqb}
use Rattle.sc_class.specs.Plain.{System}
use Rattle.sc_class.specs.declared.identity.ClassId.{ClassId}
use Rattle.sc_class.specs.declared.identity.ClassId.TheVariants as class
use Rattle.sc_class.specs.Tables.Conformance.{is_expanded, class_conforms}
use Rattle.sc_rules.specs.declared.entity_types.tag.Reserved.{Reserved}
use Rattle.sc_rules.specs.declared.entity_types.tag.Reserved.TheVariants.{Formal, BlockName}
use Rattle.sc_rules.specs.declared.entity_types.tag.Tag.{Tag}
use Rattle.sc_rules.specs.declared.entity_types.tag.Tag.TheVariants as tag
use Rattle.sc_rules.specs.entity_types.Tags.{is_same_reserved, tag_conforms}
use Rattle.sc_rules.specs.entity_types.Conformance.{mark_conforms}
use Rattle.sc_rules.specs.entity_types.Laws.{IsClassOf, IsWithin, ExpandedAlone, Reflexive, Transitive, AttachedOwn, VoidFits, TagsAreHandlers}
use Rattle.sc_class.proofs.Ancestry.{ancestor_itself, ancestor_of_ancestor}

-- ---- truth values

all_three : (a b c : Bool) → a ≡ true → b ≡ true → c ≡ true → (a && b && c) ≡ true
all_three true true true e f g = refl
all_three true true false e f g = g
all_three true false c e f g = cc
all_three false b c e f g = cc

each : (a b c : Bool) → (a && b && c) ≡ true → (a ≡ true) × (b ≡ true) × (c ≡ true)
each true true true e = (refl, refl, refl)
each true true false e = cc
each true false c e = cc
each false b c e = cc

-- ---- classes

class_itself : (s : System) (a : ClassId) → IsClassOf s a → class_conforms s a a ≡ true
class_itself s class.Any l = refl
class_itself s class.None l = refl
class_itself s class.Integer l = refl
class_itself s class.Boolean l = refl
class_itself s (class.Declared k) l = ancestor_itself s k l

-- INTEGER and BOOLEAN, on either side
pub expanded_alone : ExpandedAlone
expanded_alone s class.Integer b o = (only b, λ e. subst (λ b. class_conforms s class.Integer b ≡ true) e refl)
  where
    only : (b : ClassId) → class_conforms s class.Integer b ≡ true → class.Integer ≡ b
    only class.Integer e = refl
    only b e = cc
expanded_alone s class.Boolean b o = (only b, λ e. subst (λ b. class_conforms s class.Boolean b ≡ true) e refl)
  where
    only : (b : ClassId) → class_conforms s class.Boolean b ≡ true → class.Boolean ≡ b
    only class.Boolean e = refl
    only b e = cc
expanded_alone s (class.Declared k) class.Integer o = (λ e. cc, λ e. cc)
expanded_alone s (class.Declared k) class.Boolean o = (λ e. cc, λ e. cc)
expanded_alone s class.Any class.Integer o = (λ e. cc, λ e. cc)
expanded_alone s class.Any class.Boolean o = (λ e. cc, λ e. cc)
expanded_alone s class.None class.Integer o = (λ e. cc, λ e. cc)
expanded_alone s class.None class.Boolean o = (λ e. cc, λ e. cc)
expanded_alone s (class.Declared k) b (inl e) = cc
expanded_alone s class.Any b (inl e) = cc
expanded_alone s class.None b (inl e) = cc
expanded_alone s a (class.Declared k) (inr e) = cc
expanded_alone s a class.Any (inr e) = cc
expanded_alone s a class.None (inr e) = cc

class_over : (s : System) (a b c : ClassId) → class_conforms s a b ≡ true → class_conforms s b c ≡ true → class_conforms s a c ≡ true
class_over s (class.Declared k) (class.Declared j) (class.Declared i) e f = ancestor_of_ancestor s k j i e f
class_over s (class.Declared k) (class.Declared j) class.Any e f = refl
class_over s (class.Declared k) (class.Declared j) class.None e f = f
class_over s (class.Declared k) (class.Declared j) class.Integer e f = f
class_over s (class.Declared k) (class.Declared j) class.Boolean e f = f
class_over s (class.Declared k) class.Any class.Any e f = refl
class_over s (class.Declared k) class.Any _ e f = cc
class_over s (class.Declared k) class.None c e f = cc
class_over s (class.Declared k) class.Integer c e f = cc
class_over s (class.Declared k) class.Boolean c e f = cc
class_over s class.Any class.Any c e f = f
class_over s class.Any class.None c e f = cc
class_over s class.Any class.Integer c e f = cc
class_over s class.Any class.Boolean c e f = cc
class_over s class.Any (class.Declared j) c e f = cc
class_over s class.None class.Any class.Any e f = refl
class_over s class.None class.Any _ e f = cc
class_over s class.None class.None c e f = f
class_over s class.None class.Integer c e f = cc
class_over s class.None class.Boolean c e f = cc
class_over s class.None (class.Declared j) class.Any e f = refl
class_over s class.None (class.Declared j) (class.Declared i) e f = refl
class_over s class.None (class.Declared j) class.None e f = cc
class_over s class.None (class.Declared j) class.Integer e f = cc
class_over s class.None (class.Declared j) class.Boolean e f = cc
class_over s class.Integer class.Integer c e f = f
class_over s class.Integer class.Any c e f = cc
class_over s class.Integer class.None c e f = cc
class_over s class.Integer class.Boolean c e f = cc
class_over s class.Integer (class.Declared j) c e f = cc
class_over s class.Boolean class.Boolean c e f = f
class_over s class.Boolean class.Any c e f = cc
class_over s class.Boolean class.None c e f = cc
class_over s class.Boolean class.Integer c e f = cc
class_over s class.Boolean (class.Declared j) c e f = cc

-- ---- tags

same_reserved : (x y : Reserved) → is_same_reserved x y ≡ true → x ≡ y
same_reserved (Formal i) (Formal j) e = ap (λ k. Formal k) (eqb-true i j e)
same_reserved (Formal i) (BlockName j) e = cc
same_reserved (BlockName i) (Formal j) e = cc
same_reserved (BlockName i) (BlockName j) e = ap (λ k. BlockName k) (eqb-true i j e)

reserved_itself : (x : Reserved) → is_same_reserved x x ≡ true
reserved_itself (Formal i) = eq-eqb i i refl
reserved_itself (BlockName i) = eq-eqb i i refl

pub tag_within : (t u : Tag) → tag_conforms t u ≡ true → IsWithin t u
tag_within tag.None u e h of k l = absurd l
tag_within tag.Own tag.Own e h of k l = l
tag_within tag.Own tag.Any e h of k l = tt
tag_within tag.Own (tag.With y) e h of k l = cc
tag_within tag.Own tag.None e h of k l = cc
tag_within tag.Any tag.Any e h of k l = tt
tag_within tag.Any tag.Own e h of k l = cc
tag_within tag.Any (tag.With y) e h of k l = cc
tag_within tag.Any tag.None e h of k l = cc
tag_within (tag.With x) tag.Any e h of k l = tt
tag_within (tag.With x) (tag.With y) e h of k l = subst (λ z. k ≡ of z) (same_reserved x y e) l
tag_within (tag.With x) tag.Own e h of k l = cc
tag_within (tag.With x) tag.None e h of k l = cc

told_apart : (b : Bool) → ◌≡◌ {A = ℕ} 0 (if b then 0 else 1) → b ≡ true
told_apart true e = refl
told_apart false e = cc

pub within_tag : (t u : Tag) → IsWithin t u → tag_conforms t u ≡ true
within_tag tag.None tag.Own f = refl
within_tag tag.None tag.Any f = refl
within_tag tag.None tag.None f = refl
within_tag tag.None (tag.With y) f = refl
within_tag tag.Own tag.Own f = refl
within_tag tag.Own tag.Any f = refl
within_tag tag.Own tag.None f = absurd (f 0 (λ x. 0) 0 refl)
within_tag tag.Own (tag.With y) f = let e : ◌≡◌ {A = ℕ} 0 1 = f 0 (λ x. 1) 0 refl in cc
within_tag tag.Any tag.Any f = refl
within_tag tag.Any tag.None f = absurd (f 0 (λ x. 0) 0 tt)
within_tag tag.Any tag.Own f = let e : ◌≡◌ {A = ℕ} 1 0 = f 0 (λ x. 0) 1 tt in cc
within_tag tag.Any (tag.With y) f = let e : ◌≡◌ {A = ℕ} 1 0 = f 0 (λ x. 0) 1 tt in cc
within_tag (tag.With x) tag.Any f = refl
within_tag (tag.With x) tag.None f = absurd (f 0 (λ z. 0) 0 refl)
within_tag (tag.With x) tag.Own f = let e : ◌≡◌ {A = ℕ} 1 0 = f 0 (λ z. 1) 1 refl in cc
within_tag (tag.With x) (tag.With y) f =
    let at_x : ◌≡◌ {A = ℕ} 0 (if is_same_reserved x x then 0 else 1) = rw (reserved_itself x) refl in
    told_apart (is_same_reserved x y) (f 0 (λ z. if is_same_reserved x z then 0 else 1) 0 at_x)

tag_itself : (t : Tag) → tag_conforms t t ≡ true
tag_itself t = within_tag t t (λ h of k l. l)

tag_over : (t u v : Tag) → tag_conforms t u ≡ true → tag_conforms u v ≡ true → tag_conforms t v ≡ true
tag_over t u v e f = within_tag t v (λ h of k l. tag_within u v f h of k (tag_within t u e h of k l))

-- ---- types

mark_itself : (a : Bool) → mark_conforms a a ≡ true
mark_itself true = refl
mark_itself false = refl

mark_over : (a b c : Bool) → mark_conforms a b ≡ true → mark_conforms b c ≡ true → mark_conforms a c ≡ true
mark_over true b c e f = refl
mark_over false false c e f = f
mark_over false true c e f = cc

pub reflexive : Reflexive
reflexive s t l = all_three (class_conforms s t.class t.class) (mark_conforms t.attached t.attached) (tag_conforms t.tag t.tag) (class_itself s t.class l) (mark_itself t.attached) (tag_itself t.tag)

pub transitive : Transitive
transitive s t u v e f =
    let a = each (class_conforms s t.class u.class) (mark_conforms t.attached u.attached) (tag_conforms t.tag u.tag) e in
    let b = each (class_conforms s u.class v.class) (mark_conforms u.attached v.attached) (tag_conforms u.tag v.tag) f in
    all_three (class_conforms s t.class v.class) (mark_conforms t.attached v.attached) (tag_conforms t.tag v.tag) (class_over s t.class u.class v.class a.0 b.0) (mark_over t.attached u.attached v.attached a.1 b.1) (tag_over t.tag u.tag v.tag a.2 b.2)

own_or_none : (t : Tag) → tag_conforms t tag.Own ≡ true → (t ≡ tag.Own) ⊎ (t ≡ tag.None)
own_or_none tag.Own e = inl refl
own_or_none tag.None e = inr refl
own_or_none tag.Any e = cc
own_or_none (tag.With x) e = cc

attached_to_attached : (a : Bool) → mark_conforms a true ≡ true → a ≡ true
attached_to_attached true e = refl
attached_to_attached false e = cc

pub attached_own : AttachedOwn
attached_own s t u e attached own =
    let a = each (class_conforms s t.class u.class) (mark_conforms t.attached u.attached) (tag_conforms t.tag u.tag) e in
    (attached_to_attached t.attached (subst (λ b. mark_conforms t.attached b ≡ true) attached a.1), own_or_none t.tag (subst (λ v. tag_conforms t.tag v ≡ true) own a.2))

pub void_fits : VoidFits
void_fits s u = by (is_expanded u.class) u.attached u.tag
  where
    by : (b a : Bool) (t : Tag) → (not b && mark_conforms false a && tag_conforms tag.None t) ≡ (not a && not b)
    by true true t = refl
    by true false t = refl
    by false true t = refl
    by false false tag.Own = refl
    by false false tag.Any = refl
    by false false tag.None = refl
    by false false (tag.With x) = refl

pub tags_are_handlers : TagsAreHandlers
tags_are_handlers t u = (tag_within t u, within_tag t u)
