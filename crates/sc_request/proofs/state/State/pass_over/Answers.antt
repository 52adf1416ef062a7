use Rattle.std.proofs.Common.{List, subst, sym}
use Rattle.std.proofs.lemmas.Bool.{lt-ltb}
use Rattle.sc_request.specs.declared.handler_set.HandlerSet.{HandlerSet}
use Rattle.sc_request.specs.Crowds.{AreCrowds}
use Rattle.sc_request.specs.Places.{center_at, plain}
use Rattle.sc_request.proofs.Rounds.{none_of, tried_without}
use Rattle.sc_request.proofs.Waiters.{extended, joined}
use Rattle.sc_request.proofs.state.State.pass_over.Goals as goal

pub leave_out-requires-clause-candidates : goal.leave_out-requires-clause-candidates
leave_out-requires-clause-candidates c =
    let s = center_at 0 c.args.self.now in
    let h = c.args.handler in
    tried_without c.args.candidates.now.words c.remove.new.self.words s h c.requires.candidates (none_of h s c.requires.idle) c.remove.ensures

pub leave_out-requires-clause-crowds : goal.leave_out-requires-clause-crowds
leave_out-requires-clause-crowds c =
    let s = c.args.self.now in
    let h = c.args.handler in
    subst (λ (cs : List HandlerSet). AreCrowds cs s.count (plain s).handlers) (sym c.as_slice.ensures.value)
    (joined c.extend.new.crowds.items c.note.new.crowds.items s.count (plain s).handlers c.in-Some.needed h
    (extended c.args.crowds.now.items c.extend.new.crowds.items s.count (plain s).handlers c.requires.crowds c.extend.ensures) (lt-ltb h s.count c.requires.there)
    c.in-Some.ensures c.note.ensures)

pub returns-in-Some-clause-crowds : goal.returns-in-Some-clause-crowds
returns-in-Some-clause-crowds c =
    let s = c.args.self.now in
    let h = c.args.handler in
    joined c.extend.new.crowds.items c.note.new.crowds.items s.count (plain s).handlers c.in-Some.needed h
    (extended c.args.crowds.now.items c.extend.new.crowds.items s.count (plain s).handlers c.requires.crowds c.extend.ensures) (lt-ltb h s.count c.requires.there)
    c.in-Some.ensures c.note.ensures

pub returns-in_default-clause-candidates : goal.returns-in_default-clause-candidates
returns-in_default-clause-candidates c =
    let s = center_at 0 c.args.self.now in
    let h = c.args.handler in
    tried_without c.args.candidates.now.words c.remove.new.self.words s h c.requires.candidates (none_of h s c.requires.idle) c.remove.ensures
