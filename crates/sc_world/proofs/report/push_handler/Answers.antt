use Rattle.std.proofs.Common.{◌≡◌, List, ℕ, ◌++◌, length, ap, ◌∙◌}
use Rattle.std.specs.Fmt.{decimal}
use Rattle.std.specs.Prelude.{codes}
use Rattle.sc_model.specs.Reports.{line_feed, status_text}
use Rattle.sc_world.proofs.ReportParts.{pieces}
use Rattle.sc_world.proofs.report.push_handler.Goals as goal

pub returns : goal.returns
returns c =
    let old = c.args.report.now.items in
    let status = status_text c.args.status in
    let beginning : c.as_bytes.result.now ≡ codes "handler " ++ (decimal c.args.number ++ codes " ") =
    c.as_bytes.ensures.value ∙ c.in_ok-beginning.ensures.ok in
    let counts : c.as_bytes-2.result.now ≡ codes " refused " ++ (decimal c.args.refused ++ (codes " output " ++ (decimal (length c.args.output.now) ++ line_feed))) =
    c.as_bytes-2.ensures.value ∙ c.in_ok-counts.ensures.ok in
    let named = c.in_ok-extend_from_slice.ensures.items ∙ ap (λ (t : List ℕ). old ++ t) beginning in
    let stands = c.in_ok-push_status.ensures ∙ ap (λ (t : List ℕ). t ++ status) named in
    let counted = c.in_ok-extend_from_slice-2.ensures.items ∙ ap (λ (t : List ℕ). t ++ c.as_bytes-2.result.now) stands
    ∙ ap (λ (t : List ℕ). ((old ++ (codes "handler " ++ (decimal c.args.number ++ codes " "))) ++ status) ++ t) counts in
    let printed = c.in_ok-extend_from_slice-3.ensures.items ∙ ap (λ (t : List ℕ). t ++ c.args.output.now) counted in
    c.in_ok-extend_from_slice-4.ensures.items ∙ ap (λ (t : List ℕ). t ++ line_feed) printed
    ∙ pieces old (codes "handler ") (decimal c.args.number) (codes " ") status (codes " refused ") (decimal c.args.refused) (codes " output ")
    (decimal (length c.args.output.now)) line_feed c.args.output.now
