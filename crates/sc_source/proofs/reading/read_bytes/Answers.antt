use Rattle.std.specs.Prelude.{⊤}
use Rattle.std.proofs.Common.{rules, true, ◌≡◌, ◌+◌, ◌<◌, ◌≤◌, ℕ, List, ◌++◌, IfSome, length, arith, refl}
use Rattle.sc_source.specs.Source.{unmarked}
use Rattle.sc_source.proofs.JoiningLemmas.{long-told, not-short, of-known, short-told, takes-in-all, told-of, whole-told}
use Rattle.sc_source.proofs.reading.read_bytes.Goals as goal

pub returns-then-least_length-room-clause-err : goal.returns-then-least_length-room-clause-err
returns-then-least_length-room-clause-err g c =
    let all : (rest : List ℕ) → c.least_length.result ≤ length (unmarked (c.loop.bytes.items ++ rest)) =
    rw c.as_slice.ensures.value at c.least_length.ensures.least in
    long-told c.args.room c.least_length.result _ _ c.loop.bytes.items c.loop.invariant.taken all c.if-least_length-room.true

pub returns-then-least_length-room-clause-fits : goal.returns-then-least_length-room-clause-fits
returns-then-least_length-room-clause-fits g c = not-short c.args.room _ (returns-then-least_length-room-clause-err g c)

pub returns-then-least_length-room-clause-too_long : goal.returns-then-least_length-room-clause-too_long
returns-then-least_length-room-clause-too_long g c = of-known (λ told. c.args.room ≤ length (unmarked told) → true ≡ true) _ (λ told long. refl)

pub returns-then-least_length-room-clause-taken : goal.returns-then-least_length-room-clause-taken
returns-then-least_length-room-clause-taken g c = (c.loop.bytes.items, (c.loop.invariant.within, c.loop.invariant.taken))

pub returns-in_err-read_block-clause-taken : goal.returns-in_err-read_block-clause-taken
returns-in_err-read_block-clause-taken g c =
    takes-in-all (c.args.room + 3) _ _ _ _ c.loop.bytes.items c.read_block.new.bytes.items c.loop.invariant.taken c.read_block.ensures.taken
    (omega arith)

pub returns-in-End-clause-ok : goal.returns-in-End-clause-ok
returns-in-End-clause-ok g c =
    whole-told _ _ _ _ c.loop.bytes.items c.read_block.new.bytes.items c.loop.invariant.taken c.read_block.ensures.taken
    ((c.in_ok-read_block.ensures.end c.in-End.is).1)

pub returns-in-End-clause-fits : goal.returns-in-End-clause-fits
returns-in-End-clause-fits g c = of-known (λ told. length (unmarked told) < c.args.room → ⊤) _ (λ told short. tt)

pub returns-in-End-clause-too_long : goal.returns-in-End-clause-too_long
returns-in-End-clause-too_long g c =
    let whole : IfSome (g.R.Read.remaining c.args.reader.now) (λ told. c.read_block.new.bytes.items ≡ told) =
    whole-told _ _ _ _ c.loop.bytes.items c.read_block.new.bytes.items c.loop.invariant.taken c.read_block.ensures.taken
    ((c.in_ok-read_block.ensures.end c.in-End.is).1) in
    let short : length (unmarked c.read_block.new.bytes.items) < c.args.room = search rules in
    short-told c.args.room _ c.read_block.new.bytes.items whole short

pub returns-in-End-clause-taken : goal.returns-in-End-clause-taken
returns-in-End-clause-taken g c =
    takes-in-all (c.args.room + 3) _ _ _ _ c.loop.bytes.items c.read_block.new.bytes.items c.loop.invariant.taken c.read_block.ensures.taken
    (omega arith)

pub returns-in-End-2-clause-err : goal.returns-in-End-2-clause-err
returns-in-End-2-clause-err g c =
    let whole : IfSome (g.R.Read.remaining c.args.reader.now) (λ told. c.read_block.new.bytes.items ≡ told) =
    whole-told _ _ _ _ c.loop.bytes.items c.read_block.new.bytes.items c.loop.invariant.taken c.read_block.ensures.taken
    ((c.in_ok-read_block.ensures.end c.in-End.is).1) in
    let long : c.args.room ≤ length (unmarked c.read_block.new.bytes.items) = search rules in
    told-of (λ told. c.args.room ≤ length (unmarked told)) _ _ whole long

pub returns-in-End-2-clause-fits : goal.returns-in-End-2-clause-fits
returns-in-End-2-clause-fits g c = not-short c.args.room _ (returns-in-End-2-clause-err g c)

pub returns-in-End-2-clause-too_long : goal.returns-in-End-2-clause-too_long
returns-in-End-2-clause-too_long g c = of-known (λ told. c.args.room ≤ length (unmarked told) → true ≡ true) _ (λ told long. refl)

pub returns-in-End-2-clause-taken : goal.returns-in-End-2-clause-taken
returns-in-End-2-clause-taken g c =
    takes-in-all (c.args.room + 3) _ _ _ _ c.loop.bytes.items c.read_block.new.bytes.items c.loop.invariant.taken c.read_block.ensures.taken
    (omega arith)
