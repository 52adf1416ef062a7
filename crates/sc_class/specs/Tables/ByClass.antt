-- What the tables of a system say of a class, be it declared in the text or one that every system has.
use Rattle.std.specs.Prelude.{ℕ, List, [], length, nat_lt, if◌then◌else◌}
use Rattle.sc_tree.specs.Plain.{System, Clause}
use Rattle.sc_class.specs.declared.identity.ClassId.{ClassId}
use Rattle.sc_class.specs.declared.identity.ClassId.TheVariants as class
use Rattle.sc_class.specs.Tables.Ancestors.{ancestors}
use Rattle.sc_class.specs.Tables.Features.{DeclaredFeature, features, invariant_of}

-- the ancestors of a class that the text declares; a class that every system has has none there
abbrev pub ancestors_of : System → ClassId → List ℕ
ancestors_of s (class.Declared k) = if nat_lt k (length s.classes) then ancestors s k else []
ancestors_of s class.Any = []
ancestors_of s class.None = []
ancestors_of s class.Integer = []
ancestors_of s class.Boolean = []

-- the features of a class; a class that every system has has none but `print`
abbrev pub features_of : System → ClassId → List DeclaredFeature
features_of s (class.Declared k) = features s k
features_of s class.Any = []
features_of s class.None = []
features_of s class.Integer = []
features_of s class.Boolean = []

-- the joined invariant of a class; that of a class that every system has is empty
abbrev pub joined_invariant : System → ClassId → List Clause
joined_invariant s (class.Declared k) = invariant_of s k
joined_invariant s class.Any = []
joined_invariant s class.None = []
joined_invariant s class.Integer = []
joined_invariant s class.Boolean = []
