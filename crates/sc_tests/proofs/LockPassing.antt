-- Which calls and creations pass locks.
use Rattle.std.proofs.Common.{ℕ, ◌≡◌, Bool, true, false, List, [], ◌∷◌, Option, Some, None, ap, refl}
use Rattle.std.specs.Prelude.{◌&&◌, not, codes, map}
use Rattle.sc_tree.specs.Plain.{System, Class, DeclaredType}
use Rattle.sc_class.specs.Tables.Conformance.{is_expanded}
use Rattle.sc_rules.specs.declared.entity_types.tag.Tag.TheVariants as tag
use Rattle.sc_rules.specs.declared.entity_types.entity_type.EntityType.{EntityType}
use Rattle.sc_rules.specs.entity_types.Conformance.{integer}
use Rattle.sc_rules.specs.Types.{is_controlled}
use Rattle.sc_rules.specs.Names.{of_type}
use Rattle.sc_model.specs.Calls.{passes_one}
use Rattle.sc_model.proofs.Texts.{separate, declared, the_current, entity, call, call_on, create, create_by, attribute, procedure, application, system}
use Rattle.sc_model.proofs.Texts as text
use Rattle.sc_model.proofs.PlayedTurns.{played}
use Rattle.sc_tests.proofs.Conformances.{attached, detachable, first, x}

-- ---- an actual and its formal

-- no rights go to a formal that isn't attached, whatever its actual is
pub detachable_formals_get_none : (f a : EntityType) → f.attached ≡ false → passes_one (of_type f) a ≡ false
detachable_formals_get_none f a e = ap (λ (b : Bool). b && is_controlled a && not (is_expanded a.class)) e

-- of the current handler, of a reserved one, of any; not attached; and no reference
abbrev actuals : List EntityType
actuals = attached tag.Own first ∷ attached x first ∷ attached tag.Any first ∷ detachable tag.Own first ∷ detachable x first ∷ integer ∷ []

abbrev pass_to : EntityType → List Bool
pass_to f = map (passes_one (of_type f)) actuals

pub to_an_attached_formal : pass_to (attached tag.Any first) ≡ true ∷ true ∷ false ∷ false ∷ false ∷ false ∷ []
to_an_attached_formal = refl

pub to_a_detachable_formal : pass_to (detachable tag.Any first) ≡ false ∷ false ∷ false ∷ false ∷ false ∷ false ∷ []
to_a_detachable_formal = refl

-- ---- systems: Current goes to a formal of this type

abbrev application_type : DeclaredType
application_type = separate (codes "application")

abbrev detachable_type : DeclaredType
detachable_type = record application_type { is_detachable = true }

abbrev worker : List (List ℕ) → DeclaredType → Class
worker creators t = text.class (codes "worker") creators (procedure (codes "serve") (declared (codes "a") t ∷ []) [] ∷ []) []

abbrev calling : DeclaredType → System
calling t = system (application
    (attribute (codes "w") (separate (codes "worker"))
    ∷ procedure (codes "make") [] (create (codes "w") ∷ call (codes "go") (entity (codes "w") ∷ []) ∷ [])
    ∷ procedure (codes "go") (declared (codes "x") (separate (codes "worker")) ∷ []) (call_on (codes "x") (codes "serve") (the_current ∷ []) ∷ []) ∷ []) []
    ∷ worker [] t ∷ [])

abbrev creating : DeclaredType → System
creating t = system (application
    (attribute (codes "w") (separate (codes "worker"))
    ∷ procedure (codes "make") [] (create_by (codes "w") (codes "serve") (the_current ∷ []) ∷ []) ∷ []) []
    ∷ worker (codes "serve" ∷ []) t ∷ [])

-- who may push on the waiting stack of handler 0 after these turns
abbrev top_after : List ℕ → System → Option ℕ
top_after hs s = (played s hs).rights.top 0

-- the turns of handler 0 are: take, create, enter `go`, reserve, and ask or post
pub calls_pass : map (top_after (0 ∷ 0 ∷ 0 ∷ 1 ∷ 0 ∷ 0 ∷ [])) (calling application_type ∷ calling detachable_type ∷ []) ≡ Some 1 ∷ None ∷ []
calls_pass = refl

-- take and create
pub creations_pass : map (top_after (0 ∷ 0 ∷ [])) (creating application_type ∷ creating detachable_type ∷ []) ≡ Some 1 ∷ None ∷ []
creations_pass = refl
