-- Lines of classes, each the parent of the next, with what is known by name of the last one's features, as the code
-- holds them.
use Rattle.std.specs.Prelude.{◌≡◌, ◌≤◌, ◌∷◌, ◌++◌, ℕ, List, [], Option, Some, None, bytes_eq, drop, length, map, unwrap_or, if◌then◌else◌}
use Rattle.std.specs.Borrow.{Bor}
use Rattle.std.specs.HashMap.{HashMap, get_by}
use Rattle.sc_text.specs.declared.token.Span.{Span}
use Rattle.sc_tree.specs.Plain.{System, Name}
use Rattle.sc_class.specs.declared.class_tables.line.NamedFeatures.{NamedFeatures}
use Rattle.sc_class.specs.declared.class_tables.line.Change.{Change}
use Rattle.sc_class.specs.declared.class_tables.line.Level.{Level}
use Rattle.sc_class.specs.declared.class_tables.line.Line.{Line}
use Rattle.sc_class.specs.declared.faults.scopes.features.Part.{Part}
use Rattle.sc_class.specs.declared.faults.scopes.features.Part.TheVariants.{All, Inherited}
use Rattle.sc_class.specs.Names.{is_listed}
use Rattle.sc_class.specs.Tables.Ancestors.{parent_number, ancestors, ancestors_from}
use Rattle.sc_class.specs.Tables.Declared.{declared_feature_names_at}
use Rattle.sc_class.specs.Tables.Features.{declared_features, redefined_names, features_along}
use Rattle.sc_class.specs.Internal.Found.{first_place}
use Rattle.sc_class.specs.Internal.NameIndex.{place_among}
use Rattle.sc_class.specs.Internal.KnownFeatures.{class_of_first, place_of_name}

abbrev pub no_features : NamedFeatures
no_features = record { class = None; place = None }

-- the features of this name of the first of these classes, each the parent of the one before it
abbrev pub named_along : System → List ℕ → List ℕ → NamedFeatures
named_along s ks x =
    record { class = class_of_first x (features_along s ks); place = place_of_name x (features_along s ks) }

-- the features of this name of a class, or of none, and of this number of classes on the way up from it
abbrev pub named_up : System → ℕ → Option ℕ → List ℕ → NamedFeatures
named_up s n o x = named_along s (ancestors_from n s o) x

-- the features of a name of a class that declares the first of them itself, or none, at this place, and keeps these
abbrev pub joined : Option ℕ → Option Span → NamedFeatures → NamedFeatures
joined None p above = above
joined (Some k) p above = record { class = Some k; place = first_place p above.place }

-- of these features of a name, those that a class doesn't redefine
abbrev pub kept_below : System → ℕ → List ℕ → NamedFeatures → NamedFeatures
kept_below s k x above = if is_listed x (redefined_names s k) then no_features else above

-- the features of this name of the class at a number, where those of its parent are these
abbrev pub with_own : System → ℕ → List ℕ → NamedFeatures → NamedFeatures
with_own s k x above =
    joined (class_of_first x (declared_features s k)) (place_among x (declared_feature_names_at s k))
    (kept_below s k x above)

-- the names that a class declares or redefines
abbrev pub listed_names : System → ℕ → List Name
listed_names s k = declared_feature_names_at s k ++ redefined_names s k

-- ---- what is known

-- what a map says of the features of a name
abbrev pub known_by : {S : Type 0} → List ℕ → HashMap (Bor (List ℕ)) NamedFeatures S → NamedFeatures
known_by x m = unwrap_or (get_by (λ k. bytes_eq x k.now) m) no_features

-- a name, and what is said of it
pub record Said : Type 0 where
  pub text : List ℕ
  pub features : NamedFeatures

-- what is known of a name after changes, if this was known before
abbrev pub put_in_turn : List ℕ → List Said → NamedFeatures → NamedFeatures
put_in_turn x [] f = f
put_in_turn x (c ∷ cs) f = put_in_turn x cs (if bytes_eq c.text x then c.features else f)

abbrev pub change_of : Change → Said
change_of c = record { text = c.text.now; features = c.features }

abbrev pub changes_of : List Change → List Said
changes_of cs = map change_of cs

-- these names, each with what is said of it
abbrev pub said_of : (List ℕ → NamedFeatures) → List Name → List Said
said_of f ns = map (λ n. record { text = n.text; features = f n.text }) ns

-- the name in the class at the number, if this is known of it in its parent
abbrev pub said_below : System → ℕ → Said → Said
said_below s k c = record { text = c.text; features = with_own s k c.text c.features }

-- the names of a level's class, with their features in the class above it, if there is one
abbrev pub above_in : System → ℕ → ℕ → List Said
above_in s n k = said_of (named_up s n (parent_number s k)) (listed_names s k)

-- ---- lines

-- There are at most this number of classes on the way up from a class.
abbrev pub IsWhole : System → ℕ → Option ℕ → Type 0
IsWhole s n o = (m : ℕ) → n ≤ m → ancestors_from m s o ≡ ancestors_from n s o

-- The levels are those of the classes down to this one, or of none.
pub data IsLine (s : System) : Option ℕ → List Level → Type 0 where
  no_classes : IsLine s None []
  one_more : {o : Option ℕ} {levels : List Level} (l : Level) → o ≡ parent_number s l.class → IsLine s o levels →
      IsWhole s (length levels) o → changes_of l.above.items ≡ above_in s (length levels) l.class →
      IsLine s (Some l.class) (levels ++ l ∷ [])

-- The levels are those of the classes down to this one, or of none, and what is known is what that class has.
pub record StandsAt (s : System) (o : Option ℕ) (levels : List Level) (known : List ℕ → NamedFeatures) : Type 0 where
  pub is_line : IsLine s o levels
  pub is_whole : IsWhole s (length levels) o
  pub is_known : (x : List ℕ) → known x ≡ named_up s (length levels) o x

-- The line is one, and what is known in it is what its last class has.
abbrev pub Stands : System → Line → Type 0
Stands s line = StandsAt s line.class line.levels.items (λ x. known_by x line.known)

-- If the first line ends at the parent of the class at the number, the second ends at that class.
abbrev pub GoesOn : System → ℕ → Line → Line → Type 0
GoesOn s k line line' = Stands s line → line.class ≡ parent_number s k → Stands s line'

-- What the line knows is what the first of these classes has, each the parent of the one before it.
abbrev pub KnowsAlong : System → List ℕ → Line → Type 0
KnowsAlong s ks line = (x : List ℕ) → known_by x line.known ≡ named_along s ks x

-- What is known in the line is what the class at the number inherits.
abbrev pub KnowsAbove : System → ℕ → Line → Type 0
KnowsAbove s k line = KnowsAlong s (drop 1 (ancestors s k)) line

-- What is known in the line is what the class at the number has.
abbrev pub KnowsAll : System → ℕ → Line → Type 0
KnowsAll s k line = KnowsAlong s (ancestors s k) line

-- What is known in the line is what this part of the features of the class at the number is found by.
abbrev pub KnowsPart : Part → System → ℕ → Line → Type 0
KnowsPart All s k line = KnowsAll s k line
KnowsPart Inherited s k line = KnowsAbove s k line
