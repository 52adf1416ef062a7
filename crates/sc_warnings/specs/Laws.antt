-- What the list says of locals, both ways.
use Rattle.std.specs.Prelude.{◌≡◌, ◌⊎◌, ◌↔◌, true, List, [], ◌∷◌}
use Rattle.sc_tree.specs.Plain.{System, Class, Feature, Routine, RoutineDeclaration, Declaration}
use Rattle.sc_warnings.specs.declared.warning.Warning.{Warning}
use Rattle.sc_warnings.specs.declared.warning.WarningKind.TheVariants.{UnreadLocal}
use Rattle.sc_warnings.specs.Warnings.{is_unread, sites_of_body, warnings_of}

abbrev pub IsOneOf : {A : Type 0} → List A → A → Type 0
IsOneOf [] x = ⊥
IsOneOf (y ∷ ys) x = (x ≡ y) ⊎ IsOneOf ys x

-- It is about a local of a routine of the system, which is never read in the body.
pub record IsUnreadLocal (s : System) (w : Warning) : Type 0 where
  pub class : Class
  pub in_system : IsOneOf s.classes class
  pub feature : Feature
  pub in_class : IsOneOf class.features feature
  pub routine : RoutineDeclaration
  pub is_routine : feature.kind ≡ Routine routine
  pub local : Declaration
  pub in_routine : IsOneOf routine.locals local
  pub unread : is_unread (sites_of_body routine) local ≡ true
  pub is : w ≡ record { kind = UnreadLocal; span = local.name.span }

-- A warning of an unread local is one of the list exactly if there is such a local.
abbrev pub UnreadLocalsAreListed : Type 0
UnreadLocalsAreListed = (s : System) (w : Warning) → w.kind ≡ UnreadLocal → IsOneOf (warnings_of s) w ↔ IsUnreadLocal s w
