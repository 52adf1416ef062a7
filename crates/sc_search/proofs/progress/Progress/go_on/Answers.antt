use Rattle.sc_lockpass.specs.Versions.{most_handlers}
use Rattle.sc_search.proofs.progress.Progress.go_on.Goals as goal

pub returns-clause-reached : goal.returns-clause-reached
returns-clause-reached c = record {
  reached = c.requires.reached.reached;
  stored = c.requires.reached.stored;
  of = c.in_ok-go_on.ensures.of c.args.subject.program.now.image (most_handlers c.args.subject.version) c.requires.reached.of;
}
