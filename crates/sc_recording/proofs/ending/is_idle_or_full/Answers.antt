use Rattle.std.proofs.Common.{◌≡◌, ◌∙◌, inl, inr, sym, ap, arith}
use Rattle.sc_request.specs.Cores.{center_of}
use Rattle.sc_request.specs.Logs.{Center, next}
use Rattle.sc_request.specs.Tables.{out_total}
use Rattle.sc_recording.proofs.Dues.{is_idle, none_out}
use Rattle.sc_recording.proofs.ending.is_idle_or_full.Goals as goal

pub returns-then-is_idle-clause-over : goal.returns-then-is_idle-clause-over
returns-then-is_idle-clause-over c =
    let few = c.if-out_count-gt0.false in
    let total = c.out_count.ensures.total in
    let core = c.comes_again-is_idle.new.self in
    let none : out_total core.state.handlers.items ≡ 0 = omega (arith, few, total) in
    let same = c.comes_again-is_idle.ensures.center in
    let home = ap (λ (x : Center). x.out 0) (sym same) ∙ none_out core none 0 in
    record {
      few = omega (arith, c.if-turns-limit.false, c.in-Some.ensures);
      lines = omega (arith, c.if-lines-gt-MOST_LINES.false);
      home = none_out core none;
      ends = inl (ap (λ (x : Center). next x) same ∙ is_idle (next (center_of c.args.core.now)) c.comes_again-is_idle.result (c.comes_again-is_idle.ensures.home home) c.if-is_idle.true);
    }

pub returns-then-lines-eq-MOST_LINES-clause-over : goal.returns-then-lines-eq-MOST_LINES-clause-over
returns-then-lines-eq-MOST_LINES-clause-over c =
    let few = c.if-out_count-gt0.false in
    let total = c.out_count.ensures.total in
    let core = c.comes_again-is_idle.new.self in
    let none : out_total core.state.handlers.items ≡ 0 = omega (arith, few, total) in
    record {
      few = omega (arith, c.if-turns-limit.false, c.in-Some.ensures);
      lines = omega (arith, c.if-lines-gt-MOST_LINES.false);
      home = none_out core none;
      ends = inr (inr c.if-lines-eq-MOST_LINES.true);
    }

pub returns-then-turns-limit-2-clause-over : goal.returns-then-turns-limit-2-clause-over
returns-then-turns-limit-2-clause-over c =
    let few = c.if-out_count-gt0.false in
    let total = c.out_count.ensures.total in
    let core = c.comes_again-is_idle.new.self in
    let none : out_total core.state.handlers.items ≡ 0 = omega (arith, few, total) in
    record {
      few = omega (arith, c.if-turns-limit.false, c.in-Some.ensures);
      lines = omega (arith, c.if-lines-gt-MOST_LINES.false);
      home = none_out core none;
      ends = inr (inl (sym c.in-Some.ensures ∙ c.if-turns-limit-2.true));
    }
