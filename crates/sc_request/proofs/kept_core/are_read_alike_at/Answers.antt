use Rattle.std.proofs.Common.{length, refl, sym}
use Rattle.std.proofs.lemmas.Option.{slice_get_past, slice_get_read}
use Rattle.sc_request.proofs.KeptCores.{fresh_there, none_there, there_fresh}
use Rattle.sc_request.proofs.kept_core.are_read_alike_at.Goals as goal

pub returns-in-Some-None : goal.returns-in-Some-None
returns-in-Some-None c =
    let xs = c.args.handlers.now in
    let ys = c.args.others.now in
    let k = c.args.place in
    let x = c.in-Some-None.handler.now in
    let here = c.in-Some-None.ensures.lookup in
    let there = c.in-Some-None.ensures'.lookup in
    fresh_there xs ys c.args.sessions.now c.args.their_sessions.now k x c.is_fresh.result (sym (slice_get_read xs (length xs) k x refl here.3.0 here.1))
    (sym (slice_get_past ys k there.3)) c.is_fresh.ensures

pub returns-in-None-Some : goal.returns-in-None-Some
returns-in-None-Some c =
    let xs = c.args.handlers.now in
    let ys = c.args.others.now in
    let k = c.args.place in
    let y = c.in-None-Some.other.now in
    let here = c.in-None-Some.ensures.lookup in
    let there = c.in-None-Some.ensures'.lookup in
    there_fresh xs ys c.args.sessions.now c.args.their_sessions.now k y c.is_fresh-in-None-Some.result (sym (slice_get_past xs k here.3))
    (sym (slice_get_read ys (length ys) k y refl there.3.0 there.1)) c.is_fresh-in-None-Some.ensures

pub returns-in-None-None : goal.returns-in-None-None
returns-in-None-None c =
    let xs = c.args.handlers.now in
    let ys = c.args.others.now in
    let k = c.args.place in
    none_there xs ys c.args.sessions.now c.args.their_sessions.now k (sym (slice_get_past xs k c.in-None-None.ensures.lookup.3))
    (sym (slice_get_past ys k c.in-None-None.ensures'.lookup.3))
