-- The rules' view of a text is the same, whichever functions are taken for pure.
use Rattle.std.proofs.Common.{◌≡◌, Option, Some, None, refl}
use Rattle.sc_tree.specs.Plain.{DeclaredType}
use Rattle.sc_rules.specs.declared.entity_types.entity_type.EntityType.{EntityType}
use Rattle.sc_rules.specs.Names.{test_type}
use Rattle.sc_typing.specs.Views.{routine_in}
use Rattle.sc_routines.specs.declared.setting.Setting.{Setting}
use Rattle.sc_code.specs.Places.{here}
use Rattle.sc_routines.specs.Settings.{setting_in}

pub test_type_here : (h : Setting) (d : Option DeclaredType) (t : Option EntityType) → test_type (routine_in h.context) d t ≡ test_type (here (setting_in h)) d t
test_type_here h None t = refl
test_type_here h (Some d) t = refl
