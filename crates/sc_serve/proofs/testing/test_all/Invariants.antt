use Rattle.std.proofs.Common.{map, take}
use Rattle.sc_class.specs.View.{root_of}
use Rattle.sc_source.specs.Source.{joined}
use Rattle.sc_serve.specs.Tests.{AreResultsOf}
use Rattle.sc_serve.proofs.testing.test_all.Given as goal

-- the tests before have their results
abbrev pub invariant-loop-root : goal.invariant-loop-root
invariant-loop-root g l = AreResultsOf (joined l.source) l.options (map root_of (take l.root-index l.roots)) l.results.items
