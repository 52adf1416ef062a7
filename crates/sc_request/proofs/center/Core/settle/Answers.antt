use Rattle.std.proofs.Common.{◌≡◌, ◌∙◌, ◌++◌, ◌∷◌, [], List, ap, arith, sym, true}
use Rattle.std.specs.Prelude.{Result, Ok, Err, OnErr, is_some}
use Rattle.std.specs.Result.{is_err}
use Rattle.sc_lockpass.specs.Versions.{most_handlers}
use Rattle.sc_lockpass.specs.declared.version.Version.{Version}
use Rattle.sc_handler.specs.declared.settlement.Settlement.{Settlement}
use Rattle.sc_request.specs.Cores.{center_of}
use Rattle.sc_request.specs.Logs.{Center, settles}
use Rattle.sc_handler.specs.Logged.{settlement}
use Rattle.sc_request.proofs.Settles.{out_counted}
use Rattle.sc_request.proofs.JobKinds.{some_of}
use Rattle.sc_request.proofs.center.Core.settle.Goals as goal

on_err : {A B : Type 0} (r : Result A B) (P : Type 0) → is_err r ≡ true → OnErr r P → P
on_err (Ok u) P e f = cc
on_err (Err x) P e f = f

pub returns-then-is_err-clause-short : goal.returns-then-is_err-clause-short
returns-then-is_err-clause-short c = λ r.
    let s = c.args.self.now in
    let counted = s.counted in
    let job = some_of ((center_of s).out c.args.handler) (sym c.is_out.ensures ∙ c.if-not-is_out.false) in
    let out = out_counted s.state.handlers.items c.args.handler job.0 job.1 in
    let places = r.places in
    absurd (on_err c.make_room_for_one.result _ (sym c.is_err.ensures.value ∙ c.if-is_err.true) c.make_room_for_one.ensures.room
    (omega (arith, counted, out, places)) (record {
      entries = omega (arith, counted, out, r.entries);
      packed = omega (arith, counted, out, r.packed);
      values = omega (arith, counted, out, r.values);
      packed_numbers = omega (arith, counted, out, r.packed_numbers);
      value_numbers = omega (arith, counted, out, r.value_numbers);
    }))

pub settle_out-requires-clause-out : goal.settle_out-requires-clause-out
settle_out-requires-clause-out c =
    ap (λ (m : Center). is_some (m.out c.args.handler)) c.make_room_for_one.ensures.center ∙ sym c.is_out.ensures ∙ c.if-not-is_out.false

pub returns-clause-center : goal.returns-clause-center
returns-clause-center c = λ j is.
    let s = c.args.self.now in
    let mid = c.make_room_for_one.new.self in
    c.settle_out.ensures.center j (ap (λ (m : Center). m.out c.args.handler) c.make_room_for_one.ensures.center ∙ is)
    ∙ ap (λ (v : Version). settles (most_handlers v) c.args.handler j c.args.turns c.args.want.now (center_of mid)) c.make_room_for_one.ensures.version
    ∙ ap (λ (m : Center). settles (most_handlers s.state.rights.version) c.args.handler j c.args.turns c.args.want.now m) c.make_room_for_one.ensures.center

pub returns-clause-log : goal.returns-clause-log
returns-clause-log c = λ j is.
    c.settle_out.ensures.log j (ap (λ (m : Center). m.out c.args.handler) c.make_room_for_one.ensures.center ∙ is)
    ∙ ap (λ (l : List Settlement). l ++ settlement c.args.handler j c.args.turns c.args.want.now ∷ []) c.make_room_for_one.ensures.log

pub returns-clause-room : goal.returns-clause-room
returns-clause-room c = λ n r. c.settle_out.ensures.room n (c.make_room_for_one.ensures.kept n r)
