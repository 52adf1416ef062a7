use Rattle.std.proofs.Common.{true, false, ap, sym, ◌∙◌}
use Rattle.std.specs.Option.{option_and_then, option_map}
use Rattle.sc_code.specs.declared.program.ConstantPool.{ConstantPool}
use Rattle.sc_code.specs.Programs.{pool_of}
use Rattle.sc_code.specs.View.{creation_of}
use Rattle.sc_interp.specs.Standing.{creation_in}
use Rattle.sc_acts.proofs.Slices.{lent_at}
use Rattle.sc_interp.proofs.Pools.{creation_by, procedure_there, procedure_told}
use Rattle.sc_interp.proofs.calling.creation_at.Goals as goal

pub returns-in_err-site-clause-site : goal.returns-in_err-site-clause-site
returns-in_err-site-clause-site c =
    let p = c.args.program.now.image.pool in
    ap (option_map (creation_in (pool_of p))) c.from_residual.ensures
    ∙ ap (option_and_then (creation_of (pool_of p))) (sym (lent_at c.deref.result.now p.creations.items c.args.number c.get.result _ c.get.ensures.lookup
    (c.deref.ensures.value ∙ ap (λ (q : ConstantPool). q.creations.items) c.pool-pool.ensures) c.in_err-site.was))

pub returns-then-has_procedure-clause-site : goal.returns-then-has_procedure-clause-site
returns-then-has_procedure-clause-site c =
    let p = c.args.program.now.image.pool in
    let at = lent_at c.deref.result.now p.creations.items c.args.number c.get.result _ c.get.ensures.lookup
    (c.deref.ensures.value ∙ ap (λ (q : ConstantPool). q.creations.items) c.pool-pool.ensures) c.in_ok-site.was in
    sym (ap (option_and_then (creation_of (pool_of p))) at ∙ creation_by (pool_of p) _ true (procedure_told p c.pool-pool.result.now _ c.has_procedure.result true c.pool-pool.ensures c.if-has_procedure.true c.has_procedure.ensures))

pub returns-then-has_procedure-clause-there : goal.returns-then-has_procedure-clause-there
returns-then-has_procedure-clause-there c =
    let p = c.args.program.now.image.pool in record {
      number = c.args.number;
      there = lent_at c.deref.result.now p.creations.items c.args.number c.get.result _ c.get.ensures.lookup
          (c.deref.ensures.value ∙ ap (λ (q : ConstantPool). q.creations.items) c.pool-pool.ensures) c.in_ok-site.was;
      named = procedure_there c.args.program.now.image _ (procedure_told p c.pool-pool.result.now _ c.has_procedure.result true c.pool-pool.ensures c.if-has_procedure.true c.has_procedure.ensures);
    }

pub returns-else-has_procedure-clause-site : goal.returns-else-has_procedure-clause-site
returns-else-has_procedure-clause-site c =
    let p = c.args.program.now.image.pool in
    let at = lent_at c.deref.result.now p.creations.items c.args.number c.get.result _ c.get.ensures.lookup
    (c.deref.ensures.value ∙ ap (λ (q : ConstantPool). q.creations.items) c.pool-pool.ensures) c.in_ok-site.was in
    sym (ap (option_and_then (creation_of (pool_of p))) at ∙ creation_by (pool_of p) _ false (procedure_told p c.pool-pool.result.now _ c.has_procedure.result false c.pool-pool.ensures c.if-has_procedure.false c.has_procedure.ensures))
