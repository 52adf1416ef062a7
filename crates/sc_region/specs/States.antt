-- What the code's state stands for.
use Rattle.sc_region.specs.declared.state.State.{State}
use Rattle.sc_region.specs.Stores.{PlainStore}

abbrev pub state_of : State → PlainStore
state_of s =
    record {
      program = s.program.now.image;
      objects = s.objects;
      frames = s.stack;
      output = s.output.items;
      failure = s.failure;
    }
