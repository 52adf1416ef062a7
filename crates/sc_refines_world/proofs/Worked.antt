-- States and turns, worked out, that have parts of the headline.
use Rattle.std.proofs.Common.{ℕ, ◌≡◌, zero, suc, true, false, [], ◌∷◌, Option, Some, None, refl, ap, sym, ◌∙◌, arith}
use Rattle.std.specs.Option.{option_map}
use Rattle.std.specs.Prelude.{Contains}
use Rattle.sc_text.specs.declared.token.Span.{Span}
use Rattle.sc_tree.specs.Plain.{Declaration, System}
use Rattle.sc_rules.specs.declared.entity_types.entity_type.EntityType.{EntityType}
use Rattle.sc_rules.specs.Names.{Entity, entity, reserved}
use Rattle.sc_rules.specs.Types.{declared_type}
use Rattle.sc_rules.specs.declared.position.Role.TheVariants as role
use Rattle.sc_model.specs.Environments.{bind, is_formal}
use Rattle.sc_model.specs.Handlers.{Called, Frame, Makes, Request, Runs, World, new_handler}
use Rattle.sc_model.specs.Objects.{fresh_object}
use Rattle.sc_model.specs.Steps.{Unqualified}
use Rattle.sc_model.specs.Turns.{turn}
use Rattle.sc_model.specs.Values.{Value}
use Rattle.sc_refines_world.specs.Moving as moving
use Rattle.sc_refines_world.specs.Moving.{FramesMove, take_next}
use Rattle.sc_refines_world.specs.Texts.{IsBehindFormals, KnowsItsText}
use Rattle.sc_refines_world.proofs.BadStates.{broken}
use Rattle.sc_refines_world.proofs.SmallStates.{alone, frame, request, routine, text}

-- ---- a request is done at once

-- a system of one class, which has nothing
abbrev plain : Span → System
plain q = record { classes = record (broken q) { invariant = [] } ∷ [] }

abbrev object_asked : Request
object_asked = record (request 1 0 false) { errand = Makes None }

abbrev asked : World
asked = alone (record new_handler { queue = object_asked ∷ request 1 0 true ∷ [] })

-- Its handler makes the object, and the next request stands yet.
pub makes_at_once : (most : ℕ) (q : Span) → ((turn most (plain q) 0 asked).handlers 0).objects ≡ fresh_object (plain q) 0 ∷ []
makes_at_once most q = refl

pub next_stands : (most : ℕ) (q : Span) → ((turn most (plain q) 0 asked).handlers 0).queue ≡ request 1 0 true ∷ []
next_stands most q = refl

pub takes_at_once : (most : ℕ) (q : Span) → FramesMove (plain q) asked 0 (asked.handlers 0) ((turn most (plain q) 0 asked).handlers 0)
takes_at_once most q = take_next {r = object_asked} refl refl refl refl (moving.IsTaken.done (moving.AsksForNone.object refl) refl)

-- ---- a frame knows its text

-- A frame with one formal and, in its body, one local, each of the type that the text gives it.
abbrev knowing : Declaration → Declaration → EntityType → EntityType → Value → Value → Frame
knowing d l t u v w = record (frame (Called Unqualified) Runs) {
  routine = record routine { text = record text { formals = d ∷ [] }; locals = l ∷ [] };
  environment = bind d.name.text (reserved 0 t) role.Formal v ∷ bind l.name.text u role.Local w ∷ [];
}

pub knows_its_text : (s : System) (d l : Declaration) (t u : EntityType) (v w : Value) → declared_type s (d ∷ []) d.declared_type ≡ Some t →
    declared_type s (d ∷ []) l.declared_type ≡ Some u → KnowsItsText s (knowing d l t u v w)
knows_its_text s d l t u v w of_formal of_local = record {
  others = local ∷ [];
  names_are = ap (λ (o : Option EntityType). entity d.name.text (option_map (reserved 0) o) role.Formal ∷ local ∷ []) (sym of_formal);
  others_are = λ e i. of_one e i;
}
  where
    local : Entity
    local = entity l.name.text (Some u) role.Local

    declared : entity l.name.text (declared_type s (d ∷ []) l.declared_type) role.Local ≡ local
    declared = ap (λ (o : Option EntityType). entity l.name.text o role.Local) of_local

    of_one : (e : Entity) → Contains (local ∷ []) e → IsBehindFormals s (record routine { text = record text { formals = d ∷ [] }; locals = l ∷ [] }) e
    of_one e (zero, less, is) = record {
      is_no_formal = ap (λ (x : Entity). is_formal x.role) (sym is);
      local_is_declared = λ i. (zero, omega arith, declared ∙ is);
    }
    of_one e (suc i, less, is) = absurd (omega (arith, less))
