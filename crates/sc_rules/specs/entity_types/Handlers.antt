-- What tags mean: the handlers on which the objects lie that a type speaks of.
use Rattle.std.specs.Prelude.{◌≡◌, ℕ}
use Rattle.sc_rules.specs.declared.entity_types.tag.Reserved.{Reserved}
use Rattle.sc_rules.specs.declared.entity_types.tag.Tag.{Tag}
use Rattle.sc_rules.specs.declared.entity_types.tag.Tag.TheVariants as tag

-- An object of a type with this tag may lie on the handler, seen from the current one, where the formals and the names
-- of blocks have these handlers.
abbrev pub LiesOn : Tag → ℕ → (Reserved → ℕ) → ℕ → Type 0
LiesOn tag.Own current of handler = handler ≡ current
LiesOn tag.Any current of handler = Unit {0}
LiesOn (tag.With x) current of handler = handler ≡ of x
LiesOn tag.None current of handler = ⊥
