-- What holds in every state that is reached, and how a run opens.
use Rattle.std.specs.Prelude.{List, [], ◌∷◌, None, false}
use Rattle.sc_machine_laws.specs.states.World.{Request, Handler, World, put}
use Rattle.sc_machine_laws.specs.states.Steps.{Steps}
use Rattle.sc_machine_laws.specs.states.Consistent.{IsConsistent}
use Rattle.sc_machine_laws.specs.states.Provided.{IsProvided}
use Rattle.sc_machine_laws.specs.states.Served.{IsServed}
use Rattle.sc_machine_laws.specs.states.Returns.{IsReturnable}

pub record IsLawful (w : World) : Type 0 where
  pub consistent : IsConsistent w
  pub provided : IsProvided w
  pub served : IsServed w
  pub returnable : IsReturnable w

-- a handler without frames, with these requests in its queue
abbrev pub resting : List Request → Handler
resting rs = record { stack = []; requests = rs; callback = None; answer = None; failed = false }

abbrev pub root : Request
root = record { number = 0; poster = 0; waited = false; passed = None; asked = None }

-- Handler 0 has the root request. No handler holds a right.
abbrev pub opening : World
opening =
    record {
      handlers = put 0 (resting (root ∷ [])) (λ k. resting []);
      queue = λ k. [];
      top = λ k. [];
      next = 1;
      asks = None;
    }

abbrev pub IsReached : World → Type 0
IsReached w = Steps opening w
