use Rattle.std.proofs.Common.{◌<◌, ◌^◌, ◌-◌, ◌∙◌, refl, subst, sym, length}
use Rattle.sc_handler.specs.Handlers.{State}
use Rattle.sc_handler.specs.InMemory.{answer_of, service_of}
use Rattle.sc_request.specs.Places.{plain}
use Rattle.sc_request.specs.Sound.{IsSound}
use Rattle.sc_request.proofs.Ended.{ended_is, ended_none, first_placed, none_first, not_popped, one_first}
use Rattle.sc_request.proofs.state.State.end.Goals as goal

pub fail-requires-clause-sound : goal.fail-requires-clause-sound
fail-requires-clause-sound c =
    let s = plain c.args.self.now in
    let h = c.args.handler in
    let never : 0 < length c.pop_service-service.result → ⊥ = λ l. let both = c.in_default.ensures.variant.1 l in cc in
    let none = none_first c.pop_service-service.result never ∙ c.pop_service-service.ensures.service in
    subst (λ (z : State). IsSound (2 ^ 64 - 2) (2 ^ 63) z)
    (sym (not_popped c.args.refused (s.handlers h).services h s (plain c.pop_service-service.new.self) none c.pop_service-service.ensures.plain)) c.requires.sound

pub returns-in_default-clause-plain : goal.returns-in_default-clause-plain
returns-in_default-clause-plain c =
    let s = plain c.args.self.now in
    let h = c.args.handler in
    let never : 0 < length c.pop_service-service.result → ⊥ = λ l. let both = c.in_default.ensures.variant.1 l in cc in
    let none = none_first c.pop_service-service.result never ∙ c.pop_service-service.ensures.service in
    ended_none c.args.refused (s.handlers h).services h c.args.reply c.args.released.now s (plain c.pop_service-service.new.self) (plain c.fail.new.self) none
    c.pop_service-service.ensures.plain c.fail.ensures.plain

pub finish-requires : goal.finish-requires
finish-requires c =
    let s = plain c.args.self.now in
    let h = c.args.handler in
    let first = c.in-Some.first.now in
    let is = one_first c.pop_service-service.result first (c.in-Some.ensures.variant.0 refl) c.in-Some.ensures.value ∙ c.pop_service-service.ensures.service in
    (first_placed (s.handlers h).services (service_of first) is (c.requires.sound.handlers h).services).poster

pub returns-clause-plain : goal.returns-clause-plain
returns-clause-plain c =
    let s = plain c.args.self.now in
    let h = c.args.handler in
    let first = c.in-Some.first.now in
    let is = one_first c.pop_service-service.result first (c.in-Some.ensures.variant.0 refl) c.in-Some.ensures.value ∙ c.pop_service-service.ensures.service in
    ended_is c.args.refused (s.handlers h).services h c.args.reply c.args.released.now s (plain c.pop_service-service.new.self) (plain c.end_sessions.new.self)
    (plain c.finish.new.self) (service_of first) (answer_of c.answer_by-answer.result) is c.pop_service-service.ensures.plain c.end_sessions.ensures.plain
    c.answer_by-answer.ensures c.finish.ensures.plain
