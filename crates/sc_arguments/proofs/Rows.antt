-- What words say, worked out.
use Rattle.std.proofs.Common.{◌≡◌, [], ◌∷◌, Some, None, true, false, codes, refl}
use Rattle.sc_arguments.specs.Asked.{asks_for_help, format_in, sought_named, test_format_named}
use Rattle.sc_arguments.specs.Words.{given_in, has_option, value_of}
use Rattle.sc_arguments.specs.declared.arguments.format.Format.TheVariants.{Json, Text}
use Rattle.sc_arguments.specs.declared.arguments.searching.Sought.TheVariants.{Any, Fails, Refused, Stuck}
use Rattle.sc_arguments.specs.declared.arguments.testing.TestFormat.TheVariants as tests

-- ---- the value of an option

in_the_next_word : value_of (codes "--root") (codes "a.e" ∷ codes "--root" ∷ codes "A.f" ∷ []) ≡ Some (codes "A.f")
in_the_next_word = refl

behind_equals : value_of (codes "--root") (codes "--root=A.f" ∷ codes "a.e" ∷ []) ≡ Some (codes "A.f")
behind_equals = refl

with_another_sign : value_of (codes "--record") (codes "--record=a=b" ∷ []) ≡ Some (codes "a=b")
with_another_sign = refl

of_no_letters : value_of (codes "--record") (codes "--record=" ∷ codes "a.e" ∷ []) ≡ Some []
of_no_letters = refl

that_is_a_file : value_of (codes "--record") (codes "--record" ∷ codes "-" ∷ codes "a.e" ∷ []) ≡ Some (codes "-")
that_is_a_file = refl

behind_the_end : value_of (codes "--root") (codes "--" ∷ codes "--root" ∷ codes "A.f" ∷ []) ≡ None
behind_the_end = refl

of_another : value_of (codes "--root") (codes "--record" ∷ codes "--root" ∷ codes "a.e" ∷ []) ≡ None
of_another = refl

behind_another : value_of (codes "--turns") (codes "--record" ∷ codes "--turns" ∷ codes "--turns" ∷ codes "5" ∷ []) ≡ Some (codes "5")
behind_another = refl

of_a_longer_name : value_of (codes "--for") (codes "--format" ∷ codes "json" ∷ []) ≡ None
of_a_longer_name = refl

of_a_longer_name_with_equals : value_of (codes "--for") (codes "--format=json" ∷ []) ≡ None
of_a_longer_name_with_equals = refl

-- ---- whether an option is used

audited : has_option (codes "--audit") (codes "a.e" ∷ codes "--audit" ∷ []) ≡ true
audited = refl

audited_by_no_value : has_option (codes "--audit") (codes "--record" ∷ codes "--audit" ∷ codes "a.e" ∷ []) ≡ false
audited_by_no_value = refl

audited_by_no_file : has_option (codes "--audit") (codes "--" ∷ codes "--audit" ∷ []) ≡ false
audited_by_no_file = refl

audited_by_no_beginning : has_option (codes "--audit") (codes "--audits" ∷ []) ≡ false
audited_by_no_beginning = refl

-- ---- what values name

lines : format_in (codes "a.e" ∷ []) ≡ Text
lines = refl

lines_asked_for : format_in (codes "--format" ∷ codes "text" ∷ []) ≡ Text
lines_asked_for = refl

object : format_in (codes "a.e" ∷ codes "--format=json" ∷ []) ≡ Json
object = refl

no_object : format_in (codes "json" ∷ codes "--root" ∷ codes "json" ∷ []) ≡ Text
no_object = refl

stuck : sought_named (codes "stuck") ≡ Stuck
stuck = refl

fails : sought_named (codes "fails") ≡ Fails
fails = refl

refused : sought_named (codes "refused") ≡ Refused
refused = refl

any : sought_named (codes "any") ≡ Any
any = refl

-- ---- what is given

files : given_in false (codes "--root" ∷ codes "A.f" ∷ codes "a.e" ∷ codes "--audit" ∷ codes "-" ∷ codes "--" ∷ codes "--b.e" ∷ [])
    ≡ codes "a.e" ∷ codes "-" ∷ codes "--b.e" ∷ []
files = refl

-- ---- help

by_a_command : asks_for_help (codes "scoop" ∷ codes "help" ∷ codes "run" ∷ []) ≡ true
by_a_command = refl

by_an_option : asks_for_help (codes "scoop" ∷ codes "run" ∷ codes "a.e" ∷ codes "--help" ∷ []) ≡ true
by_an_option = refl

by_a_short_option : asks_for_help (codes "scoop" ∷ codes "run" ∷ codes "-hV" ∷ []) ≡ true
by_a_short_option = refl

by_no_file : asks_for_help (codes "scoop" ∷ codes "check" ∷ codes "help" ∷ codes "--" ∷ codes "-h" ∷ []) ≡ false
by_no_file = refl

by_no_value : asks_for_help (codes "scoop" ∷ codes "run" ∷ codes "--record" ∷ codes "-h" ∷ codes "a.e" ∷ []) ≡ false
by_no_value = refl

-- ---- tests

value_of_a_class : given_in false (codes "--root-class" ∷ codes "A" ∷ codes "a.e" ∷ []) ≡ codes "a.e" ∷ []
value_of_a_class = refl

class_is_no_root : value_of (codes "--root") (codes "--root-class" ∷ codes "A" ∷ []) ≡ None
class_is_no_root = refl

lines_of_a_protocol : test_format_named (codes "tap") ≡ tests.Tap
lines_of_a_protocol = refl

lines_of_any_other : test_format_named (codes "xml") ≡ tests.Text
lines_of_any_other = refl
