-- The code of a conditional while the jumps after its parts aren't set.
use Rattle.std.specs.Prelude.{ℕ, suc, ◌+◌, ◌-◌, List, [], ◌∷◌, ◌++◌, length, slice_set}
use Rattle.sc_tree.specs.Plain.{Expr, Instrs, Branches, no_branches, branch_then}
use Rattle.sc_rules.specs.Names.{Entities}
use Rattle.sc_code.specs.Operations.{Operation, SkipIfFalse, Jump, EndLoop}
use Rattle.sc_code.specs.Places.{Setting, names_given}
use Rattle.sc_code.specs.Emitted.{expr_code, instrs_code}

-- a condition and what stands under it, with a jump that isn't set
abbrev pub open_branch : List Operation → List Operation → List Operation
open_branch condition body = condition ++ SkipIfFalse (length body + 1) ∷ (body ++ Jump 0 ∷ [])

-- the place of its jump
abbrev pub jump_of : ℕ → List Operation → List Operation → ℕ
jump_of place condition body = place + length condition + suc (length body)

-- the same of these in the text
abbrev pub branch_opened : Setting → Entities → Expr → Instrs → List Operation
branch_opened h n e body = open_branch (expr_code h n 0 e) (instrs_code h (names_given h n 0 e) body)

abbrev pub jump_behind : Setting → Entities → ℕ → Expr → Instrs → ℕ
jump_behind h n place e body = jump_of place (expr_code h n 0 e) (instrs_code h (names_given h n 0 e) body)

abbrev pub open_branches : Setting → Entities → Branches → List Operation
open_branches h n no_branches = []
open_branches h n (branch_then e body bs) = branch_opened h n e body ++ open_branches h n bs

-- the places of their jumps, where the first one's code begins at this place
abbrev pub jumps_of : Setting → Entities → ℕ → Branches → List ℕ
jumps_of h n place no_branches = []
jumps_of h n place (branch_then e body bs) =
    jump_behind h n place e body ∷ jumps_of h n (place + length (branch_opened h n e body)) bs

-- the jumps at these places go to the end of the code
abbrev pub landed : List ℕ → List Operation → List Operation
landed [] code = code
landed (p ∷ ps) code = landed ps (slice_set code p (Jump (length code - p - 1)))

-- The condition and the end of a loop after its body, which comes after the jump at this place. The jump goes to the
-- condition.
abbrev pub looped : ℕ → List Operation → List Operation → List Operation
looped jump until code =
    slice_set (code ++ (until ++ EndLoop ((length code - jump - 1) + length until) ∷ [])) jump
    (Jump (length code - jump - 1))
