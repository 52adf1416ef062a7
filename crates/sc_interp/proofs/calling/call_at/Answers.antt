use Rattle.std.proofs.Common.{true, false, ap, sym, ◌∙◌}
use Rattle.std.specs.Option.{option_and_then, option_map}
use Rattle.sc_code.specs.declared.program.ConstantPool.{ConstantPool}
use Rattle.sc_code.specs.Programs.{pool_of}
use Rattle.sc_code.specs.View.{call_of}
use Rattle.sc_interp.specs.Standing.{call_in}
use Rattle.sc_acts.proofs.Slices.{lent_at}
use Rattle.sc_interp.proofs.Pools.{call_by, name_told}
use Rattle.sc_interp.proofs.calling.call_at.Goals as goal

pub returns-in_err-site-clause-site : goal.returns-in_err-site-clause-site
returns-in_err-site-clause-site c =
    let p = c.args.program.now.image.pool in
    ap (option_map (call_in (pool_of p))) c.from_residual.ensures
    ∙ ap (option_and_then (call_of (pool_of p))) (sym (lent_at c.deref.result.now p.calls.items c.args.number c.get.result _ c.get.ensures.lookup
    (c.deref.ensures.value ∙ ap (λ (q : ConstantPool). q.calls.items) c.pool-pool.ensures) c.in_err-site.was))

pub returns-then-has_name-clause-site : goal.returns-then-has_name-clause-site
returns-then-has_name-clause-site c =
    let p = c.args.program.now.image.pool in
    let at = lent_at c.deref.result.now p.calls.items c.args.number c.get.result _ c.get.ensures.lookup
    (c.deref.ensures.value ∙ ap (λ (q : ConstantPool). q.calls.items) c.pool-pool.ensures) c.in_ok-site.was in
    sym (ap (option_and_then (call_of (pool_of p))) at ∙ call_by (pool_of p) _ true (name_told p c.pool-pool.result.now _ c.has_name.result true c.pool-pool.ensures c.if-has_name.true c.has_name.ensures))

pub returns-then-has_name-clause-there : goal.returns-then-has_name-clause-there
returns-then-has_name-clause-there c =
    let p = c.args.program.now.image.pool in record {
      number = c.args.number;
      there = lent_at c.deref.result.now p.calls.items c.args.number c.get.result _ c.get.ensures.lookup
          (c.deref.ensures.value ∙ ap (λ (q : ConstantPool). q.calls.items) c.pool-pool.ensures) c.in_ok-site.was;
      named = name_told p c.pool-pool.result.now _ c.has_name.result true c.pool-pool.ensures c.if-has_name.true c.has_name.ensures;
    }

pub returns-else-has_name-clause-site : goal.returns-else-has_name-clause-site
returns-else-has_name-clause-site c =
    let p = c.args.program.now.image.pool in
    let at = lent_at c.deref.result.now p.calls.items c.args.number c.get.result _ c.get.ensures.lookup
    (c.deref.ensures.value ∙ ap (λ (q : ConstantPool). q.calls.items) c.pool-pool.ensures) c.in_ok-site.was in
    sym (ap (option_and_then (call_of (pool_of p))) at ∙ call_by (pool_of p) _ false (name_told p c.pool-pool.result.now _ c.has_name.result false c.pool-pool.ensures c.if-has_name.false c.has_name.ensures))
