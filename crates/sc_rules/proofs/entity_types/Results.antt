-- The result combiner gives `own` to no result of a target elsewhere, and the least tag that a result may be taken for.
use Rattle.std.proofs.Common.{◌≡◌, Bool, true, false, refl, ◌∙◌}
use Rattle.std.specs.Prelude.{if◌then◌else◌}
use Rattle.sc_class.specs.Tables.Conformance.{is_expanded}
use Rattle.sc_rules.specs.declared.entity_types.tag.Tag.{Tag}
use Rattle.sc_rules.specs.declared.entity_types.tag.Tag.TheVariants as tag
use Rattle.sc_rules.specs.declared.entity_types.entity_type.EntityType.{EntityType}
use Rattle.sc_rules.specs.entity_types.Laws.{IsWithin}
use Rattle.sc_rules.proofs.entity_types.ConformanceLemmas.{tag_within, within_tag}
use Rattle.sc_rules.specs.entity_types.Combiners.{result_tag}
use Rattle.sc_rules.specs.entity_types.Calls.{IsResultTag}
use Rattle.sc_rules.specs.entity_types.CallLaws.{OwnResult, ExactResult}

own_from : (t r : Tag) → result_tag t r ≡ tag.Own → t ≡ tag.Own
own_from tag.Own r e = refl
own_from tag.Any tag.Own e = e
own_from tag.Any tag.Any e = cc
own_from tag.Any tag.None e = cc
own_from tag.Any (tag.With y) e = cc
own_from tag.None tag.Own e = e
own_from tag.None tag.Any e = cc
own_from tag.None tag.None e = cc
own_from tag.None (tag.With y) e = cc
own_from (tag.With x) tag.Own e = e
own_from (tag.With x) tag.Any e = cc
own_from (tag.With x) tag.None e = cc
own_from (tag.With x) (tag.With y) e = cc

otherwise_own : (b : Bool) (one other : EntityType) → b ≡ false → (if b then one else other).tag ≡ tag.Own → other.tag ≡ tag.Own
otherwise_own true one other e own = cc
otherwise_own false one other e own = own

pub own_result : OwnResult
own_result target result reference own =
    let expanded : EntityType = record { attached = true; tag = tag.Own; class = result.class } in
    let other : EntityType = record { attached = result.attached; tag = result_tag target.tag result.tag; class = result.class } in
    own_from target.tag result.tag (otherwise_own (is_expanded result.class) expanded other reference own)

-- A result lies where its combined tag says.
lies_there : (t r : Tag) → IsResultTag t r (result_tag t r)
lies_there tag.Own tag.Own caller called object of inner at same on = on ∙ at
lies_there tag.Own tag.Any caller called object of inner at same on = tt
lies_there tag.Own tag.None caller called object of inner at same on = on
lies_there tag.Own (tag.With y) caller called object of inner at same on = on ∙ same refl y
lies_there tag.Any tag.Own caller called object of inner at same on = tt
lies_there tag.Any tag.Any caller called object of inner at same on = tt
lies_there tag.Any tag.None caller called object of inner at same on = tt
lies_there tag.Any (tag.With y) caller called object of inner at same on = tt
lies_there tag.None r caller called object of inner at same on = absurd at
lies_there (tag.With x) tag.Own caller called object of inner at same on = on ∙ at
lies_there (tag.With x) tag.Any caller called object of inner at same on = tt
lies_there (tag.With x) tag.None caller called object of inner at same on = tt
lies_there (tag.With x) (tag.With y) caller called object of inner at same on = tt

-- Whatever lies where the combined tag says may be a result.
may_be : (t r u : Tag) → (t ≡ tag.None → ⊥) → (r ≡ tag.None → ⊥) → IsResultTag t r u → IsWithin (result_tag t r) u
may_be tag.Own tag.Own u t r f caller of object on = f caller caller object of of refl (λ e x. refl) on
may_be tag.Own tag.Any u t r f caller of object on = f caller caller object of of refl (λ e x. refl) tt
may_be tag.Own tag.None u t r f caller of object on = absurd (r refl)
may_be tag.Own (tag.With y) u t r f caller of object on = f caller caller object of of refl (λ e x. refl) on
may_be tag.Any tag.Own u t r f caller of object on = f caller object object of of tt (λ e x. refl) refl
may_be tag.Any tag.Any u t r f caller of object on = f caller object object of of tt (λ e x. refl) tt
may_be tag.Any tag.None u t r f caller of object on = absurd (r refl)
may_be tag.Any (tag.With y) u t r f caller of object on = f caller object object of (λ x. object) tt (λ (e : tag.Any ≡ tag.Own) x. absurd (cc)) refl
may_be tag.None r u t s f caller of object on = absurd (t refl)
may_be (tag.With x) tag.Own u t r f caller of object on = f caller object object of of on (λ e z. refl) refl
may_be (tag.With x) tag.Any u t r f caller of object on = f caller (of x) object of of refl (λ e z. refl) tt
may_be (tag.With x) tag.None u t r f caller of object on = absurd (r refl)
may_be (tag.With x) (tag.With y) u t r f caller of object on = f caller (of x) object of (λ z. object) refl (λ (e : tag.With x ≡ tag.Own) z. absurd (cc)) refl

pub exact_result : ExactResult
exact_result t r u no_target no_result = (
  λ e caller called object of inner at same on. tag_within (result_tag t r) u e caller of object (lies_there t r caller called object of inner at same on),
  λ f. within_tag (result_tag t r) u (may_be t r u no_target no_result f),
)
