use Rattle.std.proofs.Common.{◌≡◌}
use Rattle.sc_tree.specs.View.{system_of}
use Rattle.sc_class.specs.View.{root_of}
use Rattle.sc_frontend.specs.Texts.{IsRefusedFor}
use Rattle.sc_frontend.specs.Rejection.{out_of_memory}
use Rattle.sc_frontend.proofs.TextLemmas.{err-is, err-map, unreadable-refused, fault-refused, sound-in_memory}
use Rattle.sc_frontend.proofs.texts.check_text.Goals as goal

pub returns-in_err-system-clause-refused : goal.returns-in_err-system-clause-refused
returns-in_err-system-clause-refused c =
    err-is (IsRefusedFor c.args.text.now (root_of c.args.root.now)) c.from_residual.result _ c.from_residual.ensures.1
    (unreadable-refused c.args.text.now (root_of c.args.root.now) _ c.in_err-system.ensures.refused)

pub returns-in_err-system-clause-complete : goal.returns-in_err-system-clause-complete
returns-in_err-system-clause-complete c = λ must.
    err-is (λ e. e ≡ out_of_memory) c.from_residual.result _ c.from_residual.ensures.1 (c.in_err-system.ensures.found must.tree must.spelled)

pub returns-clause-accepted : goal.returns-clause-accepted
returns-clause-accepted c = λ ok.
    record { system = system_of c.in_ok-system.system; read = c.in_ok-system.ensures.read; sound = c.check_system-answer.ensures.sound ok }

-- what is at fault in the system that was read
pub returns-clause-refused : goal.returns-clause-refused
returns-clause-refused c =
    err-map c.check_system-answer.result
    (fault-refused c.args.text.now (root_of c.args.root.now) (system_of c.in_ok-system.system) c.in_ok-system.ensures.read)
    c.check_system-answer.ensures.fault

-- what must be accepted is sound
pub returns-clause-complete : goal.returns-clause-complete
returns-clause-complete c = λ must.
    err-map c.check_system-answer.result
    (sound-in_memory (system_of c.in_ok-system.system) (root_of c.args.root.now) (must.sound _ c.in_ok-system.ensures.read))
    c.check_system-answer.ensures.fault
