-- The report of a run, and what an audit adds to it.
use Rattle.std.proofs.Common.{◌≡◌, ◌∙◌, ◌⊎◌, inl, inr, ℕ, Bool, true, false, List, [], ◌++◌, ap, append-nil}
use Rattle.sc_code.specs.declared.program.Image.{Image}
use Rattle.sc_model.specs.declared.status.Status.{Status}
use Rattle.sc_plant.specs.declared.left.Left.{Left}
use Rattle.sc_serve.specs.declared.serve.Exit.{Exit}
use Rattle.sc_serve.specs.Answer.{IsJudged}

-- what an audit adds to an empty report, it adds to any
pub judged_after : (program : Image) (is_audited : Bool) (left : Left) (report line output : List ℕ) (hows : List Status) (exit : Exit) →
    IsJudged program is_audited left [] hows line exit → output ≡ report ++ line → IsJudged program is_audited left report hows output exit
judged_after program false left report line output hows exit (none, status) all =
    (all ∙ ap (λ t. report ++ t) none ∙ append-nil report, status)
judged_after program true left report line output hows exit (inl (agrees, said, status)) all =
    inl (agrees, all ∙ ap (λ t. report ++ t) said, status)
judged_after program true left report line output hows exit (inr (fault, why, said, status)) all =
    inr (fault, why, all ∙ ap (λ t. report ++ t) said, status)

-- a text after a report, as both are in memory
pub reported : (report line held added output : List ℕ) → held ≡ report → added ≡ line → output ≡ held ++ added → output ≡ report ++ line
reported report line held added output same new all = all ∙ ap (λ t. t ++ added) same ∙ ap (λ t. report ++ t) new
