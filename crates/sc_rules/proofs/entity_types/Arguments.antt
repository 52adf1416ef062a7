-- The argument combiner takes no reference of any handler for one of its own, and gives the greatest tag that an actual may have.
use Rattle.std.proofs.Common.{◌≡◌, ℕ, Bool, true, false, List, Option, Some, None, ◌&&◌, refl, sym, subst, ◌∙◌}
use Rattle.std.specs.Prelude.{slice_get, if◌then◌else◌}
use Rattle.std.specs.Option.{option_map_or}
use Rattle.sc_tree.specs.Plain.{System}
use Rattle.sc_class.specs.declared.identity.ClassId.{ClassId}
use Rattle.sc_class.specs.declared.identity.ClassId.TheVariants as class
use Rattle.sc_class.specs.Tables.Conformance.{is_expanded, class_conforms}
use Rattle.sc_rules.specs.declared.entity_types.tag.Reserved.{Reserved}
use Rattle.sc_rules.specs.declared.entity_types.tag.Reserved.TheVariants.{Formal, BlockName}
use Rattle.sc_rules.specs.declared.entity_types.tag.Tag.{Tag}
use Rattle.sc_rules.specs.declared.entity_types.tag.Tag.TheVariants as tag
use Rattle.sc_rules.specs.entity_types.Tags.{tag_conforms}
use Rattle.sc_rules.specs.entity_types.Conformance.{mark_conforms}
use Rattle.sc_rules.specs.entity_types.Handlers.{LiesOn}
use Rattle.sc_rules.specs.entity_types.Laws.{IsWithin}
use Rattle.sc_rules.proofs.entity_types.ConformanceLemmas.{tag_within, within_tag}
use Rattle.sc_rules.specs.declared.entity_types.known.Known.{Known}
use Rattle.sc_rules.specs.declared.entity_types.known.Known.TheVariants as known
use Rattle.sc_rules.specs.entity_types.Combiners.{known_of, known_tag, argument_tag}
use Rattle.sc_rules.specs.entity_types.Calls.{IsTrueOf, IsActualTag}
use Rattle.sc_rules.specs.entity_types.CallLaws.{NoTraitor, ExactArgument}

-- ---- traitors

no_expanded : (s : System) (a b : ClassId) → is_expanded a ≡ false → is_expanded b ≡ true → class_conforms s a b ≡ false
no_expanded s class.Any class.Integer e f = refl
no_expanded s class.Any class.Boolean e f = refl
no_expanded s class.None class.Integer e f = refl
no_expanded s class.None class.Boolean e f = refl
no_expanded s (class.Declared k) class.Integer e f = refl
no_expanded s (class.Declared k) class.Boolean e f = refl
no_expanded s class.Integer b e f = cc
no_expanded s class.Boolean b e f = cc
no_expanded s class.Any class.Any e f = cc
no_expanded s class.Any class.None e f = cc
no_expanded s class.Any (class.Declared j) e f = cc
no_expanded s class.None class.Any e f = cc
no_expanded s class.None class.None e f = cc
no_expanded s class.None (class.Declared j) e f = cc
no_expanded s (class.Declared k) class.Any e f = cc
no_expanded s (class.Declared k) class.None e f = cc
no_expanded s (class.Declared k) (class.Declared j) e f = cc

-- what is known of one handler isn't any handler
any_apart : (a : Known) → tag_conforms tag.Any (known_tag a) ≡ false
any_apart known.Own = refl
any_apart (known.With x) = refl
any_apart known.Neither = refl

one_fails : (a b c : Bool) → a ≡ false → (a && b && c) ≡ false
one_fails true b c e = cc
one_fails false b c e = refl

last_fails : (a b c : Bool) → c ≡ false → (a && b && c) ≡ false
last_fails true true c e = e
last_fails true false c e = refl
last_fails false b c e = refl

pub no_traitor : NoTraitor
no_traitor s actual target formal actuals reference any own = by (is_expanded formal.class) refl
  where
    by : (b : Bool) → is_expanded formal.class ≡ b →
        (class_conforms s actual.class formal.class && mark_conforms actual.attached formal.attached && tag_conforms actual.tag (if b then tag.Own else argument_tag target.tag formal.tag actuals)) ≡ false
    by true e = one_fails (class_conforms s actual.class formal.class) (mark_conforms actual.attached formal.attached) (tag_conforms actual.tag tag.Own) (no_expanded s actual.class formal.class reference e)
    by false e =
        last_fails (class_conforms s actual.class formal.class) (mark_conforms actual.attached formal.attached) (tag_conforms actual.tag (argument_tag target.tag formal.tag actuals))
        (rw (any, own) (any_apart (known_of target.tag)))

-- ---- exactly the safe ones

-- an object of the known handler's tag is on that handler
known_handler : (a : Known) (caller handler object : ℕ) (of : Reserved → ℕ) → IsTrueOf a caller of handler → LiesOn (known_tag a) caller of object → object ≡ handler
known_handler known.Own caller handler object of true_of on = on ∙ sym true_of
known_handler (known.With x) caller handler object of true_of on = on ∙ sym true_of
known_handler known.Neither caller handler object of true_of on = absurd on

known_target : (t : Tag) (caller called : ℕ) (of : Reserved → ℕ) → LiesOn t caller of called → IsTrueOf (known_of t) caller of called
known_target tag.Own caller called of at = at
known_target tag.Any caller called of at = tt
known_target tag.None caller called of at = tt
known_target (tag.With x) caller called of at = at

known_actual : (o : Option Known) (caller handler object : ℕ) (of : Reserved → ℕ) → ((a : Known) → o ≡ Some a → IsTrueOf a caller of handler) → LiesOn (option_map_or known_tag o tag.None) caller of object → object ≡ handler
known_actual None caller handler object of all on = absurd on
known_actual (Some a) caller handler object of all on = known_handler a caller handler object of (all a refl) on

lies_there : (t f : Tag) (ks : List Known) → IsActualTag t f ks (argument_tag t f ks)
lies_there t tag.Any ks caller called object of inner at all on = tt
lies_there t tag.Own ks caller called object of inner at all on = known_handler (known_of t) caller called object of (known_target t caller called of at) on
lies_there t (tag.With (Formal y)) ks caller called object of inner at all on = known_actual (slice_get ks y) caller (inner (Formal y)) object of (all y) on
lies_there t (tag.With (BlockName y)) ks caller called object of inner at all on = absurd on
lies_there t tag.None ks caller called object of inner at all on = absurd on

-- a handler of which this is true; where nothing is known, the given one
abbrev some_handler : Known → ℕ → (Reserved → ℕ) → ℕ → ℕ
some_handler known.Own caller of other = caller
some_handler (known.With x) caller of other = of x
some_handler known.Neither caller of other = other

is_true_of_it : (a : Known) (caller other : ℕ) (of : Reserved → ℕ) → IsTrueOf a caller of (some_handler a caller of other)
is_true_of_it known.Own caller other of = refl
is_true_of_it (known.With x) caller other of = refl
is_true_of_it known.Neither caller other of = tt

abbrev actual_handler : Option Known → ℕ → (Reserved → ℕ) → ℕ → ℕ
actual_handler None caller of other = other
actual_handler (Some a) caller of other = some_handler a caller of other

is_true_of_actual : (o : Option Known) (caller other : ℕ) (of : Reserved → ℕ) (a : Known) → o ≡ Some a → IsTrueOf a caller of (actual_handler o caller of other)
is_true_of_actual None caller other of a e = cc
is_true_of_actual (Some b) caller other of a e = let same : b ≡ a = cc in subst (λ k. IsTrueOf a caller of (some_handler k caller of other)) (sym same) (is_true_of_it a caller other of)

-- handlers of the formals, as far as the caller knows them, and this other one for what it doesn't
abbrev handlers : List Known → ℕ → (Reserved → ℕ) → ℕ → Reserved → ℕ
handlers ks caller of other (Formal y) = actual_handler (slice_get ks y) caller of other
handlers ks caller of other (BlockName y) = other

-- A tag whose objects all lie on what is known of a handler, whichever it is, is its tag or Void's.
known_greatest : (a : Known) (v : Tag) → ((caller object other : ℕ) (of : Reserved → ℕ) → LiesOn v caller of object → object ≡ some_handler a caller of other) → IsWithin v (known_tag a)
known_greatest known.Own v f caller of object on = f caller object 0 of on
known_greatest (known.With x) v f caller of object on = f caller object 0 of on
known_greatest known.Neither v f caller of object on = let a = f caller object 0 of on in let b = f caller object 1 of on in cc

actual_greatest : (o : Option Known) (v : Tag) → ((caller object other : ℕ) (of : Reserved → ℕ) → LiesOn v caller of object → object ≡ actual_handler o caller of other) → IsWithin v (option_map_or known_tag o tag.None)
actual_greatest None v f caller of object on = let a = f caller object 0 of on in let b = f caller object 1 of on in cc
actual_greatest (Some a) v f caller of object on = known_greatest a v f caller of object on

-- a target of the tag may lie there
target_there : (t : Tag) → (t ≡ tag.None → ⊥) → (caller other : ℕ) (of : Reserved → ℕ) → LiesOn t caller of (some_handler (known_of t) caller of other)
target_there tag.Own no_void caller other of = refl
target_there tag.Any no_void caller other of = tt
target_there tag.None no_void caller other of = absurd (no_void refl)
target_there (tag.With x) no_void caller other of = refl

greatest : (t f v : Tag) (ks : List Known) → (t ≡ tag.None → ⊥) → IsActualTag t f ks v → IsWithin v (argument_tag t f ks)
greatest t f v ks no_void safe = by f safe
  where
    on_other : (f : Tag) → IsActualTag t f ks v → (caller object other : ℕ) (of : Reserved → ℕ) → LiesOn v caller of object → LiesOn f (some_handler (known_of t) caller of other) (handlers ks caller of other) object
    on_other f safe caller object other of on = safe caller (some_handler (known_of t) caller of other) object of (handlers ks caller of other) (target_there t no_void caller other of) (λ y. is_true_of_actual (slice_get ks y) caller other of) on

    by : (f : Tag) → IsActualTag t f ks v → IsWithin v (argument_tag t f ks)
    by tag.Any safe caller of object on = tt
    by tag.Own safe caller of object on = known_greatest (known_of t) v (on_other tag.Own safe) caller of object on
    by (tag.With (Formal y)) safe caller of object on = actual_greatest (slice_get ks y) v (on_other (tag.With (Formal y)) safe) caller of object on
    by (tag.With (BlockName y)) safe caller of object on = let a = on_other (tag.With (BlockName y)) safe caller object 0 of on in let b = on_other (tag.With (BlockName y)) safe caller object 1 of on in cc
    by tag.None safe caller of object on = on_other tag.None safe caller object 0 of on

pub exact_argument : ExactArgument
exact_argument t f v ks no_void = (
  λ e caller called object of inner at all on. lies_there t f ks caller called object of inner at all (tag_within v (argument_tag t f ks) e caller of object on),
  λ safe. within_tag v (argument_tag t f ks) (greatest t f v ks no_void safe),
)
