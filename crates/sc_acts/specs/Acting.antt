-- What each visible operation makes of the store of a handler, and what it asks.
use Rattle.std.specs.Prelude.{ℕ}
use Rattle.std.specs.Fmt.{signed_decimal}
use Rattle.sc_model.specs.Instructions.{boolean_text}
use Rattle.sc_code.specs.Programs.{pool_of}
use Rattle.sc_region.specs.declared.job.Want.{Want}
use Rattle.sc_region.specs.declared.job.Want.TheVariants as want
use Rattle.sc_region.specs.Frames.{top_activation}
use Rattle.sc_region.specs.Stores.{PlainStore, printed}
use Rattle.sc_acts.specs.declared.act.Act.{Act}
use Rattle.sc_acts.specs.declared.act.Act.TheVariants as act
use Rattle.sc_acts.specs.Entering.{asks_beginning, called}
use Rattle.sc_acts.specs.Exiting.{asks_exiting, exited}
use Rattle.sc_acts.specs.Refusing.{asks_refusing, refused}
use Rattle.sc_acts.specs.Tables.{formals_at, listed}
use Rattle.sc_region.specs.Calls.{on_top, past}
use Rattle.sc_acts.specs.Turning.{round_ended, unless_failed}
use Rattle.sc_acts.specs.Requesting.{asks_requesting, requested}
use Rattle.sc_acts.specs.CreatingHandlers.{asks_creating, handler_created}
use Rattle.sc_acts.specs.CreatingObjects.{asks_created, object_created}
use Rattle.sc_acts.specs.Leaving.{asks_leaving, block_left}
use Rattle.sc_acts.specs.Blocks.{asks_opening, opened}

-- What the operation makes of the store of the handler of this number.
abbrev pub acted : ℕ → Act → PlainStore → PlainStore
acted h (act.PrintInteger z) x = on_top (past 1) (printed (signed_decimal z) x)
acted h (act.PrintBoolean b) x = on_top (past 1) (printed (boolean_text b) x)
acted h (act.PrintText k) x = on_top (past 0) (printed (listed (pool_of x.program.pool).texts k) x)
acted h (act.Until back) x = on_top (round_ended back) x
acted h (act.Enter calling me name n gives) x = called calling me name n gives x
acted h (act.Request c) x = requested h c x
acted h (act.Create class procedure n) x = object_created h class procedure n x
acted h (act.CreateHandler c) x = handler_created h c x
acted h act.Start x = on_top (past 0) x
acted h (act.Refuse k) x = refused k x
acted h (act.Open first n) x = opened first n x
acted h act.Leave x = block_left x
acted h act.Exit x = exited x

-- what it asks, unless the handler fails, where the store was the first one before and is the second one after
abbrev pub asks_acted : ℕ → Act → PlainStore → PlainStore → Want
asks_acted h (act.PrintInteger z) x y = want.Continue
asks_acted h (act.PrintBoolean b) x y = want.Continue
asks_acted h (act.PrintText k) x y = want.Continue
asks_acted h (act.Until back) x y = want.Continue
asks_acted h (act.Enter calling me name n gives) x y = asks_beginning y.program (top_activation y.frames)
asks_acted h (act.Request c) x y = asks_requesting h c (top_activation x.frames)
asks_acted h (act.Create class procedure n) x y = asks_created procedure y
asks_acted h (act.CreateHandler c) x y = asks_creating c (top_activation x.frames)
asks_acted h act.Start x y = want.Continue
asks_acted h (act.Refuse k) x y = asks_refusing (formals_at x.program k) (top_activation x.frames)
asks_acted h (act.Open first n) x y = asks_opening first n (top_activation x.frames)
asks_acted h act.Leave x y = asks_leaving (top_activation x.frames)
asks_acted h act.Exit x y = asks_exiting (top_activation x.frames)

-- What the turn asks.
abbrev pub asks_acting : ℕ → Act → PlainStore → PlainStore → Want
asks_acting h a x y = unless_failed y.failure (asks_acted h a x y)
