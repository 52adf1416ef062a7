-- A semistrict operator's decision is written before the operand that it passes.
use Rattle.std.proofs.Common.{◌≡◌, ℕ, ◌+◌, ◌-◌, List, [], ◌∷◌, ◌++◌, true, length, sym, ap, ◌∙◌, arith, append_assoc, length-append}
use Rattle.std.specs.Prelude.{slice_set, if◌then◌else◌}
use Rattle.std.proofs.Math.Seq.{set-append_seam}
use Rattle.sc_tree.specs.declared.expression.BinaryOperator.{BinaryOperator}
use Rattle.sc_model.specs.Operators.{is_short}
use Rattle.sc_code.specs.Operations.{Operation, ApplyBinary, Decide, Conclude}
use Rattle.sc_code.specs.Emitted.{right_code}
use Rattle.sc_routines.specs.Parts.{opened}

pub decided : (op : BinaryOperator) (base right old : List Operation) (place passed : ℕ) → is_short op ≡ true → old ≡ base ++ (opened op ++ right) → place ≡ length base →
    passed ≡ length old - place → slice_set old place (Decide op passed) ++ Conclude ∷ [] ≡ base ++ right_code op right
decided op base right old place passed is_short_op e ep en =
    let all : old ≡ base ++ Decide op 0 ∷ right = e ∙ ap (λ t. base ++ ((if t then Decide op 0 ∷ [] else []) ++ right)) is_short_op in
    let size : passed ≡ length right + 1 = omega (arith, ap (λ (l : List Operation). length l) all, length-append base (Decide op 0 ∷ right)) in
    ap (λ (l : List Operation). slice_set l place (Decide op passed) ++ Conclude ∷ []) all
    ∙ ap (λ k. slice_set (base ++ Decide op 0 ∷ right) k (Decide op passed) ++ Conclude ∷ []) ep
    ∙ ap (λ (l : List Operation). l ++ Conclude ∷ []) (set-append_seam base (Decide op 0) right (Decide op passed))
    ∙ append_assoc base (Decide op passed ∷ right) (Conclude ∷ [])
    ∙ ap (λ k. base ++ Decide op k ∷ (right ++ Conclude ∷ [])) size
    ∙ sym (ap (λ t. base ++ (if t then Decide op (length right + 1) ∷ (right ++ Conclude ∷ []) else right ++ ApplyBinary op ∷ [])) is_short_op)
