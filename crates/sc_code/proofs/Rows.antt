-- Routines with the code that they have.
use Rattle.std.proofs.Common.{ℕ, ◌≡◌, true, false, List, [], ◌∷◌, Option, Some, None, refl}
use Rattle.std.specs.Prelude.{pos, codes}
use Rattle.std.specs.Option.{option_map}
use Rattle.sc_tree.specs.declared.expression.BinaryOperator.TheVariants as binary
use Rattle.sc_tree.specs.Plain as tree
use Rattle.sc_tree.specs.Plain.{System}
use Rattle.sc_model.specs.Routines.{Routine, routine_named}
use Rattle.sc_model.proofs.Texts as text
use Rattle.sc_model.proofs.Texts.{nowhere, integer, own, declared, number, entity, both, body, create_by, routine, procedure, class, application, system}
use Rattle.sc_code.specs.Operations.{Operation, PushInteger, PushSlot, PushAttribute, ApplyBinary, StoreAttribute, Print, Jump, EndLoop, Demand, Start, Create, Exit}
use Rattle.sc_code.specs.Typed.{no_clause, no_old, no_ensured, no_instr, more_instrs, loop, binary_operation, attribute, integer_value, assign, own_attribute, print}
use Rattle.sc_code.specs.Lowered.{IsTypedRoutine}
use Rattle.sc_code.specs.Emitted.{routine_code, routine_depth, routine_slots}

-- the code of the routine of the name of the class at the number, with its operands and its slots
abbrev lowered : System → ℕ → List ℕ → Option (List Operation × ℕ × ℕ)
lowered s k x = option_map (λ (r : Routine). (routine_code s r, routine_depth s r, routine_slots s r)) (routine_named s k x)

-- sums printed until there are three
abbrev counting : System
counting = system (application
    (text.attribute (codes "n") integer
    ∷ procedure (codes "make") []
    (tree.Loop nowhere (body []) (both (entity (codes "n")) binary.Equal (number (pos 3)))
    (body (text.assign (codes "n") (both (entity (codes "n")) binary.Plus (number (pos 1))) ∷ text.print (both (entity (codes "n")) binary.Plus (number (pos 1))) ∷ [])) ∷ []) ∷ [])
    [] ∷ [])

pub counting_is :
    lowered counting 0 (codes "make")
    ≡ Some (
      Jump 8
          ∷ PushAttribute (codes "n") true ∷ PushInteger (pos 1) ∷ ApplyBinary binary.Plus ∷ StoreAttribute (codes "n")
          ∷ PushAttribute (codes "n") true ∷ PushInteger (pos 1) ∷ ApplyBinary binary.Plus ∷ Print
          ∷ PushAttribute (codes "n") true ∷ PushInteger (pos 3) ∷ ApplyBinary binary.Equal ∷ EndLoop 11 ∷ Exit ∷ [],
      2,
      0,
    )
counting_is = refl

-- each expression of the routine has its type, where there is such a routine
abbrev AreTypedIn : System → Option Routine → Type 0
AreTypedIn s None = ⊥
AreTypedIn s (Some r) = IsTypedRoutine s r

pub counting_is_typed : AreTypedIn counting (routine_named counting 0 (codes "make"))
counting_is_typed = record {
  precondition = no_clause;
  olds = no_old;
  body = more_instrs
      (loop no_instr (binary_operation (attribute refl refl refl refl) integer_value)
      (more_instrs (assign (binary_operation (attribute refl refl refl refl) integer_value) (own_attribute refl))
      (more_instrs (print refl (binary_operation (attribute refl refl refl refl) integer_value)) no_instr)))
      no_instr;
  postcondition = no_ensured;
}

-- an object is made by a procedure with a precondition
abbrev making : System
making = system (
    application (text.attribute (codes "c") (own (codes "cell")) ∷ procedure (codes "make") [] (create_by (codes "c") (codes "set") (number (pos 4) ∷ []) ∷ []) ∷ []) []
    ∷ class (codes "cell") (codes "set" ∷ [])
    (text.attribute (codes "item") integer
    ∷ routine (codes "set") (declared (codes "v") integer ∷ []) None (both (entity (codes "v")) binary.Greater (number (pos 0)) ∷ []) (text.assign (codes "item") (entity (codes "v")) ∷ []) ∷ []) []
    ∷ [])

pub making_is :
    lowered making 0 (codes "make")
    ≡ Some (PushInteger (pos 4) ∷ Create (record { class = 1; procedure = Some (codes "set"); count = 1; passes = false }) ∷ StoreAttribute (codes "c") ∷ Exit ∷ [], 1, 0)
making_is = refl

pub setting_is :
    lowered making 1 (codes "set")
    ≡ Some (
      PushSlot 0 true ∷ PushInteger (pos 0) ∷ ApplyBinary binary.Greater ∷ Demand (0 ∷ []) ∷ Start
          ∷ PushSlot 0 true ∷ StoreAttribute (codes "item") ∷ Exit ∷ [],
      2,
      1,
    )
setting_is = refl
