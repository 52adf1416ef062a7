-- The test of an object by what it says.
use Rattle.std.proofs.Common.{◌≡◌, Option, Some, None, Bool, true, false, refl}
use Rattle.std.specs.Prelude.{IsTrue, ◌↔◌}
use Rattle.sc_code.specs.declared.program.Image.{Image}
use Rattle.sc_region.specs.Values.{atoms_of}
use Rattle.sc_region.specs.Objects.{PlainObject}
use Rattle.sc_region.specs.Classes.{invariant_of, MeetsAt, object_meets}
use Rattle.sc_region.proofs.InvariantTests.{truth_is}

-- what says whether the object is there and meets its invariant is what the test gives
pub meets_is : (p : Image) (found : Option PlainObject) (b : Bool) → (IsTrue b ↔ MeetsAt p found) → b ≡ object_meets p found
meets_is p None true h = absurd (h.0 refl)
meets_is p None false h = refl
meets_is p (Some o) b h = truth_is b (invariant_of p o.class) (atoms_of o.attributes) h
