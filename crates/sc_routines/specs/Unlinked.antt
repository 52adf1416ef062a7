-- The operation that one in memory is before its names have numbers.
use Rattle.std.specs.Option.{option_map, option_copied}
use Rattle.sc_routines.specs.declared.unlinked.UnlinkedCall.{UnlinkedCall}
use Rattle.sc_routines.specs.declared.unlinked.UnlinkedCreation.{UnlinkedCreation}
use Rattle.sc_routines.specs.declared.unlinked.UnlinkedOperation.{UnlinkedOperation}
use Rattle.sc_routines.specs.declared.unlinked.UnlinkedOperation.TheVariants as op
use Rattle.sc_routines.specs.declared.code.SitedOperation.{SitedOperation}
use Rattle.sc_code.specs.View.{default_value, tested_of}
use Rattle.sc_code.specs.Operations as plain

abbrev pub unlinked_call : UnlinkedCall → plain.CallSite
unlinked_call c = record { name = c.name.now; count = c.count; gives = c.gives; is_own = c.is_own; passes = c.passes }

abbrev pub unlinked_creation : UnlinkedCreation → plain.CreationSite
unlinked_creation c =
    record { class = c.class; procedure = option_copied c.procedure; count = c.count; passes = c.passes }

abbrev pub unlinked : UnlinkedOperation → plain.Operation
unlinked (op.PushInteger z) = plain.PushInteger z
unlinked (op.PushBoolean b) = plain.PushBoolean b
unlinked op.PushVoid = plain.PushVoid
unlinked op.PushCurrent = plain.PushCurrent
unlinked (op.PushResult a) = plain.PushResult a
unlinked (op.PushSlot k a) = plain.PushSlot k a
unlinked (op.PushAttribute x a) = plain.PushAttribute x.now a
unlinked (op.PushOld k) = plain.PushOld k
unlinked (op.ApplyUnary operator) = plain.ApplyUnary operator
unlinked (op.ApplyBinary operator) = plain.ApplyBinary operator
unlinked (op.Decide operator n) = plain.Decide operator n
unlinked op.Conclude = plain.Conclude
unlinked (op.Test t k) = plain.Test (option_map tested_of t) k
unlinked (op.CallRoutine c) = plain.CallRoutine (unlinked_call c)
unlinked (op.CallFeature c) = plain.CallFeature (unlinked_call c)
unlinked (op.StoreSlot k) = plain.StoreSlot k
unlinked (op.StoreAttribute x) = plain.StoreAttribute x.now
unlinked op.StoreResult = plain.StoreResult
unlinked (op.Initialize k v) = plain.Initialize k (default_value v)
unlinked op.KeepOld = plain.KeepOld
unlinked op.Print = plain.Print
unlinked (op.PrintText x) = plain.PrintText x.now
unlinked (op.SkipIfFalse n) = plain.SkipIfFalse n
unlinked (op.Jump n) = plain.Jump n
unlinked (op.EndLoop n) = plain.EndLoop n
unlinked (op.Expect why) = plain.Expect why
unlinked (op.Demand formals) = plain.Demand formals.items
unlinked op.Start = plain.Start
unlinked (op.Create c) = plain.Create (unlinked_creation c)
unlinked (op.CreateHandler c) = plain.CreateHandler (unlinked_creation c)
unlinked (op.Open first count) = plain.Open first count
unlinked op.Leave = plain.Leave
unlinked op.Exit = plain.Exit

-- the operation without what it was made of
abbrev pub operation_in : SitedOperation → plain.Operation
operation_in o = unlinked o.operation
