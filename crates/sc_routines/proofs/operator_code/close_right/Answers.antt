use Rattle.std.proofs.Common.{◌≡◌, ◌-◌, ◌++◌, ◌∷◌, [], List, OnOk, Ok, Err, length, sym, ap, ◌∙◌}
use Rattle.sc_code.specs.Operations.{Operation, Conclude}
use Rattle.sc_code.specs.Emitted.{right_code}
use Rattle.sc_routines.specs.Parts.{opened}
use Rattle.sc_routines.proofs.Decisions.{decided}
use Rattle.sc_routines.proofs.operator_code.close_right.Goals as goal

pub returns-then-is_short : goal.returns-then-is_short
returns-then-is_short c =
    let op = c.args.operator in
    let old = c.args.code.now in
    elim c.push.result as (λ r. OnOk r (c.push.new.self ≡ c.set.new.self ++ Conclude ∷ []) →
    OnOk r ((base right : List Operation) → old ≡ base ++ (opened op ++ right) → c.args.place ≡ length base → c.push.new.self ≡ base ++ right_code op right)) [
      | Ok v ↦ λ added base right e ep.
          added ∙ ap (λ (l : List Operation). l ++ Conclude ∷ []) c.set.ensures
          ∙ decided op base right old c.args.place (c.len.result - c.args.place) (sym c.is_short.ensures ∙ c.if-is_short.true) e ep
          (ap (λ k. k - c.args.place) c.len.ensures)
      | Err x ↦ λ added. tt
    ] c.push.ensures
