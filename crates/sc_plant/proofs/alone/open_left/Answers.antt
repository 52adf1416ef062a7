use Rattle.std.proofs.Common.{◌<◌, List, Some, refl, sym, ap, subst, ◌∙◌, arith}
use Rattle.std.proofs.lemmas.List.Elements.{All-nil}
use Rattle.sc_handler.specs.declared.settlement.Settlement.{Settlement}
use Rattle.sc_request.specs.Cores.{log_of}
use Rattle.sc_request.specs.Logs.{Center}
use Rattle.sc_lockpass.specs.declared.version.Version.TheVariants.{Two}
use Rattle.sc_world.specs.Worlds.{max_handlers}
use Rattle.sc_recording.specs.Due.{AreBelow}
use Rattle.sc_recording.specs.Recorded.{lines_of}
use Rattle.sc_plant.proofs.OnWay.{new_own}
use Rattle.sc_plant.proofs.Openings.{plays_opened}
use Rattle.sc_plant.proofs.Ordered.{opens_in_order}
use Rattle.sc_plant.proofs.alone.open_left.Goals as goal

pub returns-clause-on : goal.returns-clause-on
returns-clause-on c =
    let p = c.args.program.now.image in
    let core = c.in_ok-core.core in
    let log = c.in_ok-core.ensures.log in
    record {
      version = refl;
      rights = c.in_ok-core.ensures.version;
      count = omega (arith, c.in_ok-regions.ensures.count, c.in_ok-regions.regions.ok.0);
      plays = plays_opened p p (Some p) core refl refl c.in_ok-core.ensures.center log;
      below = subst AreBelow (sym log) (All-nil (λ (e : Settlement). e.handler < max_handlers));
      lines = c.new.ensures.items ∙ sym (ap (λ (es : List Settlement). lines_of es) log);
      home = λ h. ap (λ (x : Center). x.out h) c.in_ok-core.ensures.center;
      regions = new_own p (log_of core) c.in_ok-regions.regions.items log c.in_ok-regions.ensures.new;
    }

pub returns-clause-order : goal.returns-clause-order
returns-clause-order c = λ n. opens_in_order c.args.program.now.image n c.in_ok-core.core c.in_ok-core.ensures.log c.in_ok-core.ensures.center
