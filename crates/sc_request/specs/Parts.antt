-- What is kept of single handlers, and the state that such parts make.
use Rattle.std.specs.Prelude.{◌<◌, ℕ, List, [], Option, Some, None, get_or, map, slice_get, slice_index}
use Rattle.std.specs.List.{All}
use Rattle.sc_handler.specs.Handlers.{Handler, State, new_handler}
use Rattle.sc_handler.specs.Canonical.{canon, canon_handler}
use Rattle.sc_handler.specs.InMemory.{handler_of}
use Rattle.sc_request.specs.declared.parts.Part as coded

-- a handler as it is read, and who may post to it and push on its waiting stack
pub record PlainPart : Type 0 where
  pub handler : Handler
  pub queue : Option ℕ
  pub top : Option ℕ

-- the part of a handler that was asked for nothing yet
abbrev pub new_part : PlainPart
new_part = record { handler = new_handler; queue = None; top = None }

-- no session has ended
abbrev pub none_ended : ℕ → ℕ
none_ended = slice_index []

abbrev pub part_of : coded.Part → PlainPart
part_of p = record {
  handler = canon_handler none_ended (handler_of p.handler);
  queue = p.holders.queue;
  top = p.holders.top;
}

-- the part of the handler of the number in the state
abbrev pub part_at : ℕ → State → PlainPart
part_at h s = record { handler = (canon s).handlers h; queue = s.rights.queue h; top = s.rights.top h }

-- ---- the state of parts

abbrev pub part_in : Option PlainPart → PlainPart
part_in None = new_part
part_in (Some p) = p

-- the state of so many handlers, with these parts by number, and new handlers past them
abbrev pub state_with : ℕ → List PlainPart → State
state_with count ps = record {
  count = count;
  handlers = λ k. (part_in (slice_get ps k)).handler;
  rights = record { queue = λ k. (part_in (slice_get ps k)).queue; top = λ k. (part_in (slice_get ps k)).top };
}

-- ---- numbers of parts

-- the values of the numbers, of which there are as many
abbrev pub means : {X : Type 0} → List X → X → List ℕ → List X
means values d numbers = map (λ number. get_or values number d) numbers

abbrev pub AreWithin : List ℕ → ℕ → Type 0
AreWithin numbers count = All (λ number. number < count) numbers

-- the parts of the numbers
abbrev pub parts_in : List coded.Part → List ℕ → List PlainPart
parts_in table numbers = means (map part_of table) new_part numbers

-- Each handler that a part of them is to reserve, or reserved last, is one of so many.
abbrev pub NameBelow : ℕ → List PlainPart → Type 0
NameBelow count ps = All (λ (p : PlainPart). All (λ k. k < count) p.handler.entry) ps
