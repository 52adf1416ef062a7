-- Where a run ends whose handlers have printed more than they may.
use Rattle.std.proofs.Common.{◌≡◌, ◌≤◌, inl, inr, ℕ, List, Bool, true, Option, None, Some, sym, subst}
use Rattle.std.specs.Prelude.{IfSome}
use Rattle.std.specs.Bool.{OnTrue}
use Rattle.sc_code.specs.declared.program.Image.{Image}
use Rattle.sc_play.specs.Regions.{PlainRegion}
use Rattle.sc_plant.specs.declared.bounds.Bounds.{Bounds}
use Rattle.sc_plant.specs.declared.left.Left.{Left}
use Rattle.sc_plant.specs.Bounded.{ArePast, EndsBehind, IsBoundedRun}
use Rattle.sc_plant.specs.Left.{IsRun}
use Rattle.sc_recording.proofs.Endings.{on_true}

-- without a bound on what is printed a run ends after all turns that it may make
pub whole_run : (p : Image) (bounds : Bounds) (turns : ℕ) (left : Left) → bounds.output ≡ None → IsBoundedRun p bounds turns left →
    IsRun p bounds.turns left
whole_run p bounds turns left none run = elim run.ends [
  | inl all ↦ subst (λ (n : ℕ). IsRun p n left) all run.run
  | inr cut ↦ absurd (subst (λ (most : Option ℕ). ArePast most left.regions.items) none cut.1)
]

-- the turns that were made are those after which it ends, where the handlers are past the bound
pub cut_ends : (bounds : Bounds) (made : ℕ) (rs ss : List PlainRegion) (b : Bool) (r : Option ℕ) → made ≤ bounds.turns → b ≡ true →
    OnTrue b (ArePast bounds.output rs) → ss ≡ rs → IfSome r (λ n. n ≡ made) → IfSome r (λ n. EndsBehind bounds n ss)
cut_ends bounds made rs ss b None few is past same this = tt
cut_ends bounds made rs ss b (Some n) few is past same this =
    inr (subst (λ (k : ℕ). k ≤ bounds.turns) (sym this) few, subst (ArePast bounds.output) (sym same) (on_true b _ is past))

-- all that it may make are those after which it ends
pub whole_ends : (bounds : Bounds) (rs : List PlainRegion) (r : Option ℕ) → IfSome r (λ n. n ≡ bounds.turns) → IfSome r (λ n. EndsBehind bounds n rs)
whole_ends bounds rs None this = tt
whole_ends bounds rs (Some n) this = inl this
