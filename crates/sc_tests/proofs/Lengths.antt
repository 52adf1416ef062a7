-- How long code is: what each program of a system has, so within how many instructions `lower_within` may lower it.
use Rattle.std.proofs.Common.{ℕ, ◌≡◌, ◌<◌, ◌≤◌, List, [], ◌∷◌, Option, Some, None, map, ap, arith}
use Rattle.std.specs.Prelude.{pos, codes}
use Rattle.std.specs.Option.{option_map}
use Rattle.sc_tree.specs.declared.expression.BinaryOperator.TheVariants as binary
use Rattle.sc_tree.specs.Plain.{System}
use Rattle.sc_model.proofs.Texts as text
use Rattle.sc_model.proofs.Texts.{integer, number, entity, both, procedure, application, system, root}
use Rattle.sc_code.specs.declared.program.Image.{Image}
use Rattle.sc_code.specs.Programs.{PlainRoutine, IsProgramOf, code_length, pool_of, routine_in}

-- the smallest run
abbrev counting : System
counting = system (application
    (text.attribute (codes "n") integer
    ∷ procedure (codes "make") [] (text.call (codes "raise") [] ∷ text.print (entity (codes "n")) ∷ [])
    ∷ procedure (codes "raise") [] (text.assign (codes "n") (both (entity (codes "n")) binary.Plus (number (pos 1))) ∷ []) ∷ [])
    (both (entity (codes "n")) binary.GreaterEqual (number (pos 0)) ∷ []) ∷ [])

-- the greatest number of operands of each routine
abbrev depths_in : Image → List (Option ℕ)
depths_in p = map (option_map (λ (r : PlainRoutine). r.depth)) (map (option_map (routine_in (pool_of p.pool))) p.routines.items)

-- What each program of the system is: it doesn't fit into 8 instructions, and what is too long for so many has more than they are.
pub record IsCounting (p : Image) : Type 0 where
  pub instructions : p.instructions ≡ 9
  pub depths : depths_in p ≡ None ∷ Some 1 ∷ Some 2 ∷ []
  pub too_long : p.instructions ≤ 8 → ⊥

pub programs_of_counting : (p : Image) → IsProgramOf counting root p → IsCounting p
programs_of_counting p q = record {
  instructions = q.instructions;
  depths = ap (map (option_map (λ (r : PlainRoutine). r.depth))) q.routines;
  too_long = λ few. omega (arith, few, q.instructions);
}

-- within 9 instructions the code isn't too long
pub counting_fits : 9 < code_length counting → ⊥
counting_fits more = omega (arith, more)
