use Rattle.sc_class.specs.View.{root_of}
use Rattle.sc_lower.specs.Lowerings.{image_of}
use Rattle.sc_serve.proofs.TestLemmas.{played}
use Rattle.sc_serve.proofs.testing.test_loaded.Goals as goal

-- the result is that of its program
pub returns : goal.returns
returns g c = λ loaded.
    played c.args.options.now c.args.source.now (root_of c.args.root.now) (image_of c.args.program.now) c.in_ok-test.test loaded
    c.in_ok-test.ensures.played c.in_ok-test.ensures.named
