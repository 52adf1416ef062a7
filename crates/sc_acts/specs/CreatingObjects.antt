-- What the creation of an object of the same handler does to a store, and what it wants.
use Rattle.std.specs.Prelude.{ℕ, ◌+◌, Option, Some, None, length, min, nat_lt, if◌then◌else◌}
use Rattle.sc_model.specs.declared.cause.Cause.TheVariants as cause
use Rattle.sc_region.specs.declared.job.Want.{Want}
use Rattle.sc_region.specs.declared.job.Want.TheVariants as want
use Rattle.sc_region.specs.declared.value.Reference.{Reference}
use Rattle.sc_region.specs.Frames.{top_activation}
use Rattle.sc_region.specs.Stores.{PlainStore, failed, max_objects, next_reference}
use Rattle.sc_acts.specs.Creating.{created, created_by}
use Rattle.sc_acts.specs.Entering.{asks_beginning}

-- the reference to the next object of a handler, or to the last that a number can name
abbrev pub nearest_reference : ℕ → ℕ → PlainStore → Reference
nearest_reference h class x = record { handler = h; number = min (length x.objects) 4294967294 + 1; class = class }

-- by the procedure of the name; if there are too many objects it fails for that, whatever the procedure is
abbrev pub created_by_name : Reference → ℕ → ℕ → PlainStore → PlainStore
created_by_name r name n x =
    if nat_lt (length x.objects) max_objects then created_by r name n x else failed cause.TooManyObjects x

-- by the procedure of the name, or without one
abbrev pub created_with : Option ℕ → Reference → ℕ → PlainStore → PlainStore
created_with None r n x = created r n x
created_with (Some name) r n x = created_by_name r name n x

-- The handler of this number creates an object of the class, with this number of actuals.
abbrev pub object_created : ℕ → ℕ → Option ℕ → ℕ → PlainStore → PlainStore
object_created h class procedure n x = created_with procedure (next_reference h class x) n x

-- what is asked where the store is this one afterwards, unless it fails
abbrev pub asks_created : Option ℕ → PlainStore → Want
asks_created None y = want.Continue
asks_created (Some name) y = asks_beginning y.program (top_activation y.frames)
