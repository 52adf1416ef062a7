use Rattle.std.proofs.Common.{refl, rules, arith}
use Rattle.sc_request.proofs.Bits.{lowest, lowest_in_rest, none_in_rest, none_more, none_fewer, first_more}
use Rattle.sc_request.proofs.handler_set.HandlerSet.next_in.Goals as goal

pub returns-then-found-to-clause-first : goal.returns-then-found-to-clause-first
returns-then-found-to-clause-first c =
    let l = c.loop-word in
    let words = c.args.self.now.words in
    first_more words c.args.from l.at c.args.to _ l.invariant.from l.invariant.none
    (lowest_in_rest words l.at c.args.to _ refl (search rules) (omega (arith, c.if-rest-ne0.true)) c.if-found-to.true)

pub returns-else-found-to-clause-none : goal.returns-else-found-to-clause-none
returns-else-found-to-clause-none c = λ e.
    let l = c.loop-word in
    let words = c.args.self.now.words in
    none_fewer words c.args.from _ c.args.to c.if-found-to.false
    (none_more words c.args.from l.at _ l.invariant.none (lowest words l.at _ refl (search rules) (omega (arith, c.if-rest-ne0.true))).2)

pub loop-word-preserved : goal.loop-word-preserved
loop-word-preserved c =
    let l = c.loop-word in
    let words = c.args.self.now.words in
    record {
      from = omega (arith, l.invariant.from);
      words = omega (arith, l.invariant.words);
      none = none_more words c.args.from l.at _ l.invariant.none (none_in_rest words l.at _ refl c.if-rest-ne0.false);
    }
