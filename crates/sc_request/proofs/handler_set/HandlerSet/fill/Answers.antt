use Rattle.std.proofs.Common.{◌≡◌, ◌<◌, ◌/◌, ◌%◌, ◌==◌, ◌∙◌, ℕ, zero, suc, ap, refl, arith, slice_index_or}
use Rattle.std.proofs.lemmas.Nat.Bits.{bit_at_ones}
use Rattle.std.specs.Int.{bit_at}
use Rattle.std.specs.Prelude.{replicate}
use Rattle.sc_request.proofs.handler_set.HandlerSet.fill.Goals as goal

full_at : (i : ℕ) → i < 8 → ◌≡◌ {A = ℕ} (slice_index_or (replicate 8 18446744073709551615) i 0) 18446744073709551615
full_at zero l = refl
full_at (suc zero) l = refl
full_at (suc (suc zero)) l = refl
full_at (suc (suc (suc zero))) l = refl
full_at (suc (suc (suc (suc zero)))) l = refl
full_at (suc (suc (suc (suc (suc zero))))) l = refl
full_at (suc (suc (suc (suc (suc (suc zero)))))) l = refl
full_at (suc (suc (suc (suc (suc (suc (suc zero))))))) l = refl
full_at (suc (suc (suc (suc (suc (suc (suc (suc i)))))))) l = absurd (omega (arith, l))

pub returns : goal.returns
returns c = λ k below. ap (λ w. bit_at w (k % 64) == 1) (full_at (k / 64) (omega (arith, below))) ∙ ap (λ b. b == 1) (bit_at_ones 64 (k % 64) (omega arith))
