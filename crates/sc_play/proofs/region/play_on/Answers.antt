use Rattle.std.proofs.Common.{◌≡◌, ◌+◌, ◌-◌, ◌<◌, inl, inr, Result, OnErr, Ok, Err, refl, sym, ◌∙◌, subst, arith}
use Rattle.sc_model.specs.declared.cause.Cause.{Cause}
use Rattle.sc_region.specs.declared.job.Want.{Want}
use Rattle.sc_region.specs.declared.job.Want.TheVariants as want
use Rattle.sc_region.specs.Stores.{PlainStore}
use Rattle.sc_play.specs.Turns.{IsAhead, Turns}
use Rattle.sc_play.proofs.MadeTurns.{are_turns, some_made}
use Rattle.sc_play.proofs.OneObject.{ahead_here, ahead_none, arrives_as, made_by_now, made_exactly, made_failing, made_next}
use Rattle.sc_play.proofs.region.play_on.Goals as goal

pub turn-requires : goal.turn-requires
turn-requires c = c.is_continue.ensures.0 c.if-not-is_continue.false

pub returns-then-not-is_continue-clause-ok : goal.returns-then-not-is_continue-clause-ok
returns-then-not-is_continue-clause-ok c =
    let some : 0 < c.loop-turns.turns = some_made c.loop-turns.turns (c.loop-turns.asked ≡ want.Continue) c.is_continue.result c.is_continue.ensures.1 c.if-not-is_continue.true c.loop-turns.invariant.asked in
    record {
      few = c.loop-turns.invariant.few;
      some = some;
      last = c.loop-turns.store;
      turns = λ t j z p. are_turns c.loop-turns.turns c.args.handler t j z c.loop-turns.store c.loop-turns.asked some (c.loop-turns.invariant.made t j z p);
      ends = inl refl;
    }

pub loop-turns-preserved : goal.loop-turns-preserved
loop-turns-preserved c =
    let now = c.run_current-now.result.0 in
    let nothing : c.loop-turns.asked ≡ want.Continue = c.is_continue.ensures.0 c.if-not-is_continue.false in
    let arrives = arrives_as now c.loop-turns.turns c.run_current-now.result.1 (Ok tt) c.loop-turns.store c.run_current-now.new.store c.in-Ok.is c.run_current-now.ensures.arrives in
    let more = c.run_current-now.ensures.made in
    let below : now < c.args.limit = omega (arith, c.run_current-now.ensures.few, c.if-now-limit.false) in
    record {
      some = omega (arith, c.loop-turns.invariant.some, more);
      few = omega (arith, below);
      made = λ t j z p.
          made_next c.loop-turns.turns now c.args.handler t j z c.loop-turns.store c.run_current-now.new.store c.turn.new.store c.loop-turns.asked c.turn.new.asked
          (c.loop-turns.invariant.made t j z p) nothing more arrives c.in-Ok-turn.ensures.ok;
      asked = λ e. absurd (omega (arith, e));
      store = λ e. absurd (omega (arith, e));
    }

pub returns-then-now-eq0-clause-err : goal.returns-then-now-eq0-clause-err
returns-then-now-eq0-clause-err c =
    let now = c.run_current-now.result.0 in
    let arrives = arrives_as now c.loop-turns.turns c.run_current-now.result.1 (Ok tt) c.loop-turns.store c.run_current-now.new.store c.in-Ok.is c.run_current-now.ensures.arrives in
    let none : c.loop-turns.turns ≡ 0 = omega (arith, c.run_current-now.ensures.made, c.if-now-eq0.true) in
    let no_more : now - c.loop-turns.turns ≡ 0 = omega (arith, none, c.if-now-eq0.true) in
    subst (λ (x : PlainStore). IsAhead x c.turn.new.store) (c.loop-turns.invariant.store none)
    (ahead_none (now - c.loop-turns.turns) c.loop-turns.store c.run_current-now.new.store c.turn.new.store arrives no_more c.in-Err-turn.ensures.err)

pub returns-else-now-eq0-clause-ok : goal.returns-else-now-eq0-clause-ok
returns-else-now-eq0-clause-ok c =
    let now = c.run_current-now.result.0 in
    let nothing : c.loop-turns.asked ≡ want.Continue = c.is_continue.ensures.0 c.if-not-is_continue.false in
    let kept : c.turn.new.asked ≡ c.loop-turns.asked = c.in-Err-turn.ensures.kept in
    let arrives = arrives_as now c.loop-turns.turns c.run_current-now.result.1 (Ok tt) c.loop-turns.store c.run_current-now.new.store c.in-Ok.is c.run_current-now.ensures.arrives in
    let more = c.run_current-now.ensures.made in
    let below : now < c.args.limit = omega (arith, c.run_current-now.ensures.few, c.if-now-limit.false) in
    let some : 0 < now = omega (arith, c.if-now-eq0.false) in
    record {
      few = omega (arith, below);
      some = some;
      last = arrives.last;
      turns = λ t j z p.
          subst (λ (w : Want). Turns c.args.handler t j z now arrives.last w) (sym (kept ∙ nothing))
          (are_turns now c.args.handler t j z arrives.last want.Continue some
          (made_by_now c.loop-turns.turns now c.args.handler t j z c.loop-turns.store c.run_current-now.new.store c.loop-turns.asked (Ok tt) (c.loop-turns.invariant.made t j z p) nothing more arrives));
      ends = inr (
        below,
        kept ∙ nothing,
        ahead_here (now - c.loop-turns.turns) c.loop-turns.store c.run_current-now.new.store c.turn.new.store arrives c.in-Err-turn.ensures.err,
      );
    }

pub returns-in-Err-clause-ok : goal.returns-in-Err-clause-ok
returns-in-Err-clause-ok c =
    let now = c.run_current-now.result.0 in
    let nothing : c.loop-turns.asked ≡ want.Continue = c.is_continue.ensures.0 c.if-not-is_continue.false in
    let arrives = arrives_as now c.loop-turns.turns c.run_current-now.result.1 (Err c.in-Err.why) c.loop-turns.store c.run_current-now.new.store c.in-Err.is c.run_current-now.ensures.arrives in
    let more = c.run_current-now.ensures.made in
    let below : now < c.args.limit = subst (λ (r : Result Unit Cause). OnErr r (now < c.args.limit)) c.in-Err.is c.run_current-now.ensures.failing in
    let some : 0 < now + 1 = omega arith in
    record {
      few = omega (arith, below);
      some = some;
      last = c.fail.new.store;
      turns = λ t j z p.
          are_turns (now + 1) c.args.handler t j z c.fail.new.store c.fail.new.asked some
          (made_failing c.loop-turns.turns now c.args.handler t j z c.loop-turns.store c.run_current-now.new.store c.fail.new.store c.loop-turns.asked c.fail.new.asked c.in-Err.why
          (c.loop-turns.invariant.made t j z p) nothing more arrives c.fail.ensures.store c.fail.ensures.want);
      ends = inl refl;
    }

pub returns-clause-ok : goal.returns-clause-ok
returns-clause-ok c =
    let some : 0 < c.loop-turns.turns = omega (arith, c.loop-turns-test.false, c.requires.some) in
    record {
      few = c.loop-turns.invariant.few;
      some = some;
      last = c.loop-turns.store;
      turns = λ t j z p. are_turns c.loop-turns.turns c.args.handler t j z c.loop-turns.store c.loop-turns.asked some (c.loop-turns.invariant.made t j z p);
      ends = inl refl;
    }

pub returns-then-now-limit-clause-ok : goal.returns-then-now-limit-clause-ok
returns-then-now-limit-clause-ok c =
    let now = c.run_current-now.result.0 in
    let nothing : c.loop-turns.asked ≡ want.Continue = c.is_continue.ensures.0 c.if-not-is_continue.false in
    let some : 0 < now = omega (arith, c.if-now-limit.true, c.requires.some) in
    let leads = c.run_current-now.ensures.exact c.if-now-limit.true in
    record {
      few = c.run_current-now.ensures.few;
      some = some;
      last = c.run_current-now.new.store;
      turns = λ t j z p.
          subst (λ (w : Want). Turns c.args.handler t j z now c.run_current-now.new.store w) (sym nothing)
          (are_turns now c.args.handler t j z c.run_current-now.new.store want.Continue some
          (made_exactly c.loop-turns.turns now c.args.handler t j z c.loop-turns.store c.run_current-now.new.store c.loop-turns.asked (c.loop-turns.invariant.made t j z p) nothing
          c.run_current-now.ensures.made leads));
      ends = inl refl;
    }
