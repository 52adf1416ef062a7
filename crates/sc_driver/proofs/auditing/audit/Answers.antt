use Rattle.sc_lockpass.specs.Versions.{most_handlers}
use Rattle.sc_world.specs.Views.{world_of}
use Rattle.sc_driver.proofs.auditing.audit.Goals as goal

pub returns-in-Some-first_that_differs-clause-fault : goal.returns-in-Some-first_that_differs-clause-fault
returns-in-Some-first_that_differs-clause-fault c = record {
  is_record = rw c.deref.ensures.value at c.in_default.ensures.none;
  world = world_of c.in-Ok.world;
  leads = rw c.deref-2.ensures.value at c.in-Ok.ensures;
  differs = rw c.deref-3.ensures.value at c.in-Some-first_that_differs.ensures.some (most_handlers c.args.left.now.version);
}

pub returns-clause-yes : goal.returns-clause-yes
returns-clause-yes c = record {
  is_record = rw c.deref.ensures.value at c.in_default.ensures.none;
  world = world_of c.in-Ok.world;
  leads = rw c.deref-2.ensures.value at c.in-Ok.ensures;
  same = rw c.deref-3.ensures.value at c.in-None.ensures.none (most_handlers c.args.left.now.version);
}
