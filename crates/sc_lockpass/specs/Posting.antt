-- Where a request goes: a callback on top of its target's waiting stack, all else at its queue's end.
use Rattle.std.specs.Prelude.{Bool, true, false, List, ◌++◌}

-- the queue, after the request in this node is posted
abbrev pub queued : {A : Type 0} → Bool → List A → List A → List A
queued true node queue = queue
queued false node queue = queue ++ node

-- the callback, after the request in this node is posted
abbrev pub called_back : {A : Type 0} → Bool → List A → List A → List A
called_back true node callback = node
called_back false node callback = callback
