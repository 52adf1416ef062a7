use Rattle.std.proofs.Common.{arith, map, subst, sym, List}
use Rattle.sc_handler.specs.Handlers.{Posted}
use Rattle.sc_handler.specs.InMemory.{posting_of}
use Rattle.sc_request.specs.Places.{plain}
use Rattle.sc_request.specs.Sound.{ArePlaced}
use Rattle.sc_request.proofs.Fallen.{failed_so, same_callback, same_queue, same_services, served_placed}
use Rattle.sc_request.proofs.state.State.fail.Goals as goal

pub let_go-requires-clause-room : goal.let_go-requires-clause-room
let_go-requires-clause-room c = λ k. let b = (c.requires.sound.handlers k).sessions in omega (arith, b)

pub tell_posters-requires : goal.tell_posters-requires
tell_posters-requires c =
    let s = plain c.args.self.now in
    let h = c.args.handler in
    subst (λ (ps : List Posted). ArePlaced ps) (sym (same_queue h s (plain c.let_go.new.self) (map posting_of c.fall_at-queue.result.queue) c.let_go.ensures.plain c.fall_at-queue.ensures.queue))
    (c.requires.sound.handlers h).queue

pub tell_posters-requires-2 : goal.tell_posters-requires-2
tell_posters-requires-2 c =
    let s = plain c.args.self.now in
    let h = c.args.handler in
    subst (λ (ps : List Posted). ArePlaced ps) (sym (same_callback h s (plain c.let_go.new.self) (map posting_of c.fall_at-queue.result.callback) c.let_go.ensures.plain c.fall_at-queue.ensures.callback))
    (c.requires.sound.handlers h).callback

pub tell_posters-requires-3 : goal.tell_posters-requires-3
tell_posters-requires-3 c =
    let s = plain c.args.self.now in
    let h = c.args.handler in
    subst (λ (ps : List Posted). ArePlaced ps) (sym (same_services h s (plain c.let_go.new.self) (map posting_of c.fall_at-queue.result.services) c.let_go.ensures.plain c.fall_at-queue.ensures.services))
    (served_placed (s.handlers h).services (c.requires.sound.handlers h).services)

pub returns-clause-plain : goal.returns-clause-plain
returns-clause-plain c =
    let s = plain c.args.self.now in
    failed_so c.args.handler c.args.why s (plain c.let_go.new.self) (plain c.fall_at-queue.new.self) (plain c.tell_posters.new.self) (plain c.tell_posters-2.new.self) (plain c.tell_posters-3.new.self)
    (map posting_of c.fall_at-queue.result.queue) (map posting_of c.fall_at-queue.result.callback) (map posting_of c.fall_at-queue.result.services)
    c.let_go.ensures.plain c.fall_at-queue.ensures.plain c.fall_at-queue.ensures.queue c.fall_at-queue.ensures.callback c.fall_at-queue.ensures.services
    c.tell_posters.ensures.plain c.tell_posters-2.ensures.plain c.tell_posters-3.ensures.plain
