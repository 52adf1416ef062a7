-- What the code adds, as the proofs of its functions see it. Public contracts don't speak of it.
use Rattle.std.specs.Prelude.{map}
use Rattle.sc_rules.specs.declared.position.Position.TheVariants.{Plain}
use Rattle.sc_rules.specs.Judging.{judge, judged_type}
use Rattle.sc_typing.specs.Views.{entity_of}
use Rattle.sc_symbols.specs.declared.meanings.Renaming.{Renaming}
use Rattle.sc_symbols.specs.declared.scope.Scope.{Scope}
use Rattle.sc_symbols.specs.Renaming.{Renamed}
use Rattle.sc_symbols.specs.Scopes as plain

abbrev pub scope_of : Scope → plain.Scope
scope_of n = record { entities = map entity_of n.names.items; places = n.places.items }

-- the types that judging gives
abbrev pub judged : plain.TypeOf
judged h c n e = judged_type (judge h c Plain n e)

abbrev pub renamed_in : Renaming → Renamed
renamed_in r = record { uses = r.uses.now; old_length = r.old_length; new_length = r.new_length }
