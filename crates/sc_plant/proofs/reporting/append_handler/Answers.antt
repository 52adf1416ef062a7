use Rattle.std.proofs.Common.{◌≡◌, List, ℕ, ◌++◌, length, ap, ◌∙◌, arith}
use Rattle.std.specs.Fmt.{decimal}
use Rattle.std.specs.Prelude.{codes}
use Rattle.sc_model.specs.Reports.{line_feed, status_text}
use Rattle.sc_world.proofs.ReportParts.{pieces}
use Rattle.sc_plant.proofs.reporting.append_handler.Goals as goal

-- piece by piece
pub returns : goal.returns
returns c =
    let old = c.args.report.items in
    let status = status_text c.args.status in
    let output = c.args.output.items in
    let size : c.len-length.result ≡ length output = omega (arith, c.len-length.ensures) in
    let beginning : c.as_bytes.result.now ≡ codes "handler " ++ (decimal c.args.number ++ codes " ") =
    c.as_bytes.ensures.value ∙ c.in_ok-beginning.ensures.ok in
    let counts : c.as_bytes-2.result.now ≡ codes " refused " ++ (decimal c.args.refused ++ (codes " output " ++ (decimal (length output) ++ line_feed))) =
    c.as_bytes-2.ensures.value ∙ c.in_ok-counts.ensures.ok
    ∙ ap (λ (n : ℕ). codes " refused " ++ (decimal c.args.refused ++ (codes " output " ++ (decimal n ++ line_feed)))) size in
    let named = c.in_ok-extend_from_slice.ensures.items ∙ ap (λ (t : List ℕ). old ++ t) beginning in
    let stands = c.in_ok-push_status.ensures ∙ ap (λ (t : List ℕ). t ++ status) named in
    let counted = c.in_ok-extend_from_slice-2.ensures.items ∙ ap (λ (t : List ℕ). t ++ c.as_bytes-2.result.now) stands
    ∙ ap (λ (t : List ℕ). ((old ++ (codes "handler " ++ (decimal c.args.number ++ codes " "))) ++ status) ++ t) counts in
    let printed = c.in_ok-longer.ensures ∙ ap (λ (t : List ℕ). t ++ output) counted in
    c.in_ok-extend_from_slice-3.ensures.items ∙ ap (λ (t : List ℕ). t ++ line_feed) printed
    ∙ pieces old (codes "handler ") (decimal c.args.number) (codes " ") status (codes " refused ") (decimal c.args.refused) (codes " output ")
    (decimal (length output)) line_feed output
