-- A call as tags see it: the caller and the called routine each have a current handler, and handlers of formals and of
-- names of blocks.
use Rattle.std.specs.Prelude.{◌≡◌, ℕ, List, Some, slice_get}
use Rattle.sc_rules.specs.declared.entity_types.tag.Reserved.{Reserved}
use Rattle.sc_rules.specs.declared.entity_types.tag.Reserved.TheVariants.{Formal}
use Rattle.sc_rules.specs.declared.entity_types.tag.Tag.{Tag}
use Rattle.sc_rules.specs.declared.entity_types.tag.Tag.TheVariants as tag
use Rattle.sc_rules.specs.entity_types.Handlers.{LiesOn}
use Rattle.sc_rules.specs.declared.entity_types.known.Known.{Known}
use Rattle.sc_rules.specs.declared.entity_types.known.Known.TheVariants as known

-- Whatever lies where a result of this tag may, seen by the called routine, lies where this other tag says, seen by the
-- caller. Names in the result's tag are the caller's where the target is of its own handler; of others the caller knows
-- nothing.
abbrev pub IsResultTag : Tag → Tag → Tag → Type 0
IsResultTag target result seen =
    (caller called object : ℕ) (of inner : Reserved → ℕ) →
    LiesOn target caller of called → (target ≡ tag.Own → (x : Reserved) → inner x ≡ of x) →
    LiesOn result called inner object → LiesOn seen caller of object

-- what is known of an actual's handler is true of this one
abbrev pub IsTrueOf : Known → ℕ → (Reserved → ℕ) → ℕ → Type 0
IsTrueOf known.Own caller of handler = handler ≡ caller
IsTrueOf (known.With x) caller of handler = handler ≡ of x
IsTrueOf known.Neither caller of handler = Unit {0}

-- Whatever lies where an actual of this tag may, seen by the caller, lies where the formal's tag says, seen by the
-- called routine.
abbrev pub IsActualTag : Tag → Tag → List Known → Tag → Type 0
IsActualTag target formal actuals seen =
    (caller called object : ℕ) (of inner : Reserved → ℕ) →
    LiesOn target caller of called →
    ((y : ℕ) (a : Known) → slice_get actuals y ≡ Some a → IsTrueOf a caller of (inner (Formal y))) →
    LiesOn seen caller of object → LiesOn formal called inner object
