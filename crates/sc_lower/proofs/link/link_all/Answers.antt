use Rattle.std.proofs.Common.{ap, ◌∙◌, map}
use Rattle.sc_lower.specs.Pools.{pool_in}
use Rattle.sc_code.specs.View.{operation_of}
use Rattle.sc_routines.specs.Unlinked.{operation_in}
use Rattle.sc_lower.proofs.FittingTables.{read_fits}
use Rattle.sc_lower.proofs.Kept.{grows_not, grows_further, operations_more}
use Rattle.sc_lower.proofs.link.link_all.Goals as goal

pub loop-sited-init : goal.loop-sited-init
loop-sited-init c =
    let p = pool_in c.args.linker.now in
    (ap (map (operation_of p)) c.in_ok-operations.ensures.items, grows_not p)

pub loop-sited-preserved : goal.loop-sited-preserved
loop-sited-preserved c =
    let p = pool_in c.loop-sited.linker in
    let q = pool_in c.link.new.linker in (
      ap (map (operation_of q)) c.in_ok-push.ensures.items
          ∙ operations_more operation_in p q c.in_ok-link.ensures.grows c.loop-sited.operations.items c.in_ok-link.field-0 c.args.code.now c.loop-sited.sited-index c.sited-item.result
          c.loop-sited.invariant.0 c.loop-sited-test.true c.sited-item.is c.in_ok-link.ensures.linked,
      grows_further (pool_in c.args.linker.now) p q c.loop-sited.invariant.1 c.in_ok-link.ensures.grows,
    )

pub link-requires : goal.link-requires
link-requires c = read_fits operation_in c.args.code.now c.loop-sited.sited-index c.sited-item.result c.loop-sited-test.true c.sited-item.is c.requires
