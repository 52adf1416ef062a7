use Rattle.std.proofs.Common.{Bool, ◌<◌, ◌^◌, ◌-◌, arith, ◌∙◌, ap, sym}
use Rattle.sc_lockpass.specs.Versions.{most_handlers}
use Rattle.sc_lockpass.specs.declared.version.Version.{Version}
use Rattle.sc_handler.specs.Handlers.{State}
use Rattle.sc_request.specs.Places.{plain}
use Rattle.sc_request.specs.Settling.{creates_with}
use Rattle.sc_request.proofs.Created.{creates_so, new_queue, sessions_with}
use Rattle.sc_request.proofs.state.State.create.Goals as goal

pub create_passing-requires-clause-new : goal.create_passing-requires-clause-new
create_passing-requires-clause-new c =
    let s = plain c.args.self.now in
    ap (λ (z : State). (z.handlers s.count).queue) c.make.ensures.plain ∙ new_queue s.count c.args.handler s

pub create_alone-requires-clause-new : goal.create_alone-requires-clause-new
create_alone-requires-clause-new c =
    let s = plain c.args.self.now in
    ap (λ (z : State). (z.handlers s.count).queue) c.make.ensures.plain ∙ new_queue s.count c.args.handler s

pub create_alone-requires-clause-room : goal.create_alone-requires-clause-room
create_alone-requires-clause-room c = λ k.
    let s = plain c.args.self.now in
    let same = ap (λ (z : State). (z.handlers k).sessions) c.make.ensures.plain in
    let few = sessions_with s.count c.args.handler k (2 ^ 64 - 2) s (c.requires.sound.handlers k).sessions in
    omega (arith, same, few)

pub returns-then-passes-clause-plain : goal.returns-then-passes-clause-plain
returns-then-passes-clause-plain c =
    let s = plain c.args.self.now in
    let most = c.most_handlers.ensures ∙ ap (λ (v : Version). most_handlers v) c.version.ensures in
    let few = c.if-self-most_handlers.false in
    let below : s.count < most_handlers c.args.self.now.rights.version = omega (arith, most, few) in
    creates_so (most_handlers c.args.self.now.rights.version) c.args.handler c.args.class c.args.procedure c.args.actuals.now c.args.passes s (plain c.make.new.self)
    (plain c.create_passing.new.self) c.creation-request.result below c.make.ensures.plain c.creation-request.ensures
    (c.create_passing.ensures.plain ∙ ap (λ (b : Bool). creates_with b c.args.handler s.count c.creation-request.result (plain c.make.new.self)) (sym c.if-passes.true))

pub returns-else-passes-clause-plain : goal.returns-else-passes-clause-plain
returns-else-passes-clause-plain c =
    let s = plain c.args.self.now in
    let most = c.most_handlers.ensures ∙ ap (λ (v : Version). most_handlers v) c.version.ensures in
    let few = c.if-self-most_handlers.false in
    let below : s.count < most_handlers c.args.self.now.rights.version = omega (arith, most, few) in
    creates_so (most_handlers c.args.self.now.rights.version) c.args.handler c.args.class c.args.procedure c.args.actuals.now c.args.passes s (plain c.make.new.self)
    (plain c.create_alone.new.self) c.creation-request.result below c.make.ensures.plain c.creation-request.ensures
    (c.create_alone.ensures.plain ∙ ap (λ (b : Bool). creates_with b c.args.handler s.count c.creation-request.result (plain c.make.new.self)) (sym c.if-passes.false))
