use Rattle.std.proofs.Common.{◌∙◌, Bool, false, List, length, get_or, sym, ap}
use Rattle.sc_orders.specs.Edges.{Here}
use Rattle.sc_orders.proofs.Swept.{all_told}
use Rattle.sc_orders.proofs.edges.may_move.Goals as goal

pub loop-init : goal.loop-init
loop-init c =
    let same = c.in_ok-moves.ensures.items in
    record {
      count = ap length same;
      first = λ state e. ap (λ (bs : List Bool). get_or bs state false) same ∙ e;
      lead = λ state e. Here state (sym (ap (λ (bs : List Bool). get_or bs state false) same) ∙ e);
    }

pub returns-clause-leads : goal.returns-clause-leads
returns-clause-leads c = λ state. (
  c.sweep.ensures.lead c.args.busy.now c.loop.invariant.lead state,
  all_told c.args.edges.now c.args.busy.now c.sweep.new.moves.items state (λ s e. c.sweep.ensures.stay s (c.loop.invariant.first s e))
      (c.sweep.ensures.swept c.loop-test.false).1,
)
