use Rattle.std.proofs.Common.{Some, refl, subst, ap, ◌≡◌, ◌+◌, ◌∙◌, arith}
use Rattle.std.specs.Prelude.{Ok, Err}
use Rattle.sc_model.specs.declared.cause.Cause.TheVariants as cause
use Rattle.sc_interp.specs.declared.hops.Hop as outcome
use Rattle.sc_interp.specs.declared.hops.Hop.TheVariants as told
use Rattle.sc_interp.specs.Hopping.{IsNext, Passes}
use Rattle.sc_interp.specs.Playing.{Plays}
use Rattle.sc_interp.proofs.SilentMoves.{code_still, comes_after, comes_never, count_some, leads_after, next_stuck, remains_after}
use Rattle.sc_interp.proofs.SilentSteps.{next_other, next_step, passes_on, remains_on, remains_other}
use Rattle.sc_interp.specs.Told.{IsTold, OnComes}
use Rattle.sc_interp.proofs.hopping.moves_in.Goals.{in-Some-Ok, in-None+in_ok-hop_by-in-None+in-Passed}
use Rattle.sc_interp.proofs.hopping.moves_in.Goals as goal

pub next_in-requires : goal.next_in-requires
next_in-requires c = code_still c.args.store.now c.loop-passed.store c.args.code.now c.loop-passed.invariant.remains c.requires.code

pub returns-in_default-clause-comes : goal.returns-in_default-clause-comes
returns-in_default-clause-comes c =
    let y = c.loop-passed.store in
    comes_after c.loop-passed.passed (told.Failed cause.BadCode) c.args.store.now y y c.loop-passed.invariant.passes c.loop-passed.invariant.remains
    (next_stuck y y refl (subst (IsNext y) c.in_default.is c.next_in.ensures)) tt

pub returns-in-Some-Err-clause-comes : goal.returns-in-Some-Err-clause-comes
returns-in-Some-Err-clause-comes c =
    let y = c.loop-passed.store in
    let z = c.step_by.new.store in
    rw c.in-Some-Err.field-0-is
    (comes_after c.loop-passed.passed (told.Failed c.in-Some-Err.why) c.args.store.now y z c.loop-passed.invariant.passes c.loop-passed.invariant.remains
    (next_step c.args.me c.in-Some.count c.in-Some.operation c.step_by.result (Err c.in-Some-Err.why) y z (c.loop-passed.invariant.remains.current ∙ c.requires.current)
    (subst (IsNext y) c.in-Some.is c.next_in.ensures) (c.in-Some-Err.is ∙ ap (λ r. Some r) c.in-Some-Err.field-0-is) c.step_by.ensures.plays) tt)

pub returns-in-Some-Err-clause-remains : goal.returns-in-Some-Err-clause-remains
returns-in-Some-Err-clause-remains c = remains_after c.args.store.now c.loop-passed.store c.step_by.new.store c.loop-passed.invariant.remains c.step_by.ensures.remains

pub returns-in-Failed-clause-comes : goal.returns-in-Failed-clause-comes
returns-in-Failed-clause-comes c =
    let y = c.loop-passed.store in
    let w = c.step_by.new.store in
    let z = c.hop_by.new.store in
    let me = c.args.me in
    let n = c.in-Some.count in
    let o = c.in-Some.operation in
    comes_after c.loop-passed.passed (told.Failed c.in-Failed.why) c.args.store.now y z c.loop-passed.invariant.passes c.loop-passed.invariant.remains
    (next_other me n o (told.Failed c.in-Failed.why) y w z c.in-None.ensures.none (c.loop-passed.invariant.remains.current ∙ c.requires.current)
    (subst (IsNext y) c.in-Some.is c.next_in.ensures) (subst (λ (h : outcome.Hop). Plays me n o h w z) c.in-Failed.is c.in_ok-hop_by-in-None.ensures.plays)) tt

pub returns-in-Failed-clause-remains : goal.returns-in-Failed-clause-remains
returns-in-Failed-clause-remains c =
    let y = c.loop-passed.store in
    let z = c.hop_by.new.store in
    remains_after c.args.store.now y z c.loop-passed.invariant.remains (remains_other y c.step_by.new.store z c.in-None.ensures.none c.hop_by.ensures.remains)

pub returns-in-Comes-clause-comes : goal.returns-in-Comes-clause-comes
returns-in-Comes-clause-comes c =
    let y = c.loop-passed.store in
    let w = c.step_by.new.store in
    let z = c.hop_by.new.store in
    let me = c.args.me in
    let n = c.in-Some.count in
    let o = c.in-Some.operation in
    comes_after c.loop-passed.passed (told.Comes c.in-Comes.act) c.args.store.now y z c.loop-passed.invariant.passes c.loop-passed.invariant.remains
    (next_other me n o (told.Comes c.in-Comes.act) y w z c.in-None.ensures.none (c.loop-passed.invariant.remains.current ∙ c.requires.current)
    (subst (IsNext y) c.in-Some.is c.next_in.ensures) (subst (λ (h : outcome.Hop). Plays me n o h w z) c.in-Comes.is c.in_ok-hop_by-in-None.ensures.plays)) tt

pub returns-in-Comes-clause-remains : goal.returns-in-Comes-clause-remains
returns-in-Comes-clause-remains c =
    let y = c.loop-passed.store in
    let z = c.hop_by.new.store in
    remains_after c.args.store.now y z c.loop-passed.invariant.remains (remains_other y c.step_by.new.store z c.in-None.ensures.none c.hop_by.ensures.remains)

pub returns-in-Comes-clause-told : goal.returns-in-Comes-clause-told
returns-in-Comes-clause-told c = subst (λ h. IsTold h c.hop_by.new.store) c.in-Comes.is c.in_ok-hop_by-in-None.ensures.told

pub loop-passed-preserved : goal.loop-passed-preserved
loop-passed-preserved c =
    let n = c.loop-passed.passed in
    let x = c.args.store.now in
    let y = c.loop-passed.store in
    let next = c.match-step_by.store in
    elim c.match-step_by.branch [
      | in-Some-Ok w ↦
          let z = c.step_by.new.store in
          record {
            passes = passes_on n x y z next w.store-is c.loop-passed.invariant.passes c.loop-passed.invariant.remains
                (next_step c.args.me c.in-Some.count c.in-Some.operation c.step_by.result (Ok tt) y z (c.loop-passed.invariant.remains.current ∙ c.requires.current)
                (subst (IsNext y) c.in-Some.is c.next_in.ensures) (w.in-Some-Ok.is ∙ ap (λ r. Some r) w.in-Some-Ok.field-0-is) c.step_by.ensures.plays);
            remains = remains_on x y z next w.store-is c.loop-passed.invariant.remains c.step_by.ensures.remains;
          }
      | in-None+in_ok-hop_by-in-None+in-Passed w ↦
          let before = c.step_by.new.store in
          let z = w.hop_by.new.store in
          let me = c.args.me in
          let count = c.in-Some.count in
          let o = c.in-Some.operation in
          record {
            passes = passes_on n x y z next w.store-is c.loop-passed.invariant.passes c.loop-passed.invariant.remains
                (next_other me count o told.Passed y before z w.in-None.ensures.none (c.loop-passed.invariant.remains.current ∙ c.requires.current)
                (subst (IsNext y) c.in-Some.is c.next_in.ensures) (subst (λ (h : outcome.Hop). Plays me count o h before z) w.in-Passed.is w.in_ok-hop_by-in-None.ensures.plays));
            remains = remains_on x y z next w.store-is c.loop-passed.invariant.remains (remains_other y before z w.in-None.ensures.none w.hop_by.ensures.remains);
          }
    ]

pub returns-clause-comes : goal.returns-clause-comes
returns-clause-comes c =
    let x = c.args.store.now in
    let y = c.loop-passed.store in
    let all : c.loop-passed.passed ≡ c.operation_count-count.result + 1 = omega (arith, c.loop-passed-test.false, c.loop-passed.auto.passed-end) in
    comes_never c.operation_count-count.result (told.Failed cause.BadCode) x y
    (count_some x c.args.code.now c.operation_count-count.result c.requires.code c.operation_count-count.ensures.count)
    (subst (λ n. Passes n x y) all c.loop-passed.invariant.passes)

pub returns-in-Comes-clause-leads : goal.returns-in-Comes-clause-leads
returns-in-Comes-clause-leads c =
    let x = c.args.store.now in
    let y = c.loop-passed.store in
    let z = c.hop_by.new.store in
    let kept : z ≡ c.step_by.new.store = subst (λ h. OnComes h (z ≡ c.step_by.new.store)) c.in-Comes.is c.in_ok-hop_by-in-None.ensures.kept in
    leads_after c.loop-passed.passed x y z c.loop-passed.invariant.passes (kept ∙ c.in-None.ensures.none)
