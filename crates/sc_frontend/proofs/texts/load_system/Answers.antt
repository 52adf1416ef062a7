use Rattle.std.proofs.Common.{◌≡◌}
use Rattle.sc_tree.specs.View.{system_of}
use Rattle.sc_class.specs.View.{root_of}
use Rattle.sc_frontend.specs.Texts.{IsNotRunFor}
use Rattle.sc_frontend.specs.Rejection.{out_of_memory}
use Rattle.sc_frontend.proofs.TextLemmas.{err-is, fault-refused, refused-not_run, sound-in_memory, lowering-not_run, short-in_memory}
use Rattle.sc_frontend.proofs.texts.load_system.Goals as goal

pub returns-in_err-checked-clause-refused : goal.returns-in_err-checked-clause-refused
returns-in_err-checked-clause-refused c = λ text is.
    err-is (IsNotRunFor text (root_of c.args.root.now)) c.from_residual.result _ c.from_residual.ensures.1
    (refused-not_run text (root_of c.args.root.now) _
    (fault-refused text (root_of c.args.root.now) (system_of c.args.system.now) is _ c.in_err-checked.ensures.fault))

-- what may be run is sound
pub returns-in_err-checked-clause-complete : goal.returns-in_err-checked-clause-complete
returns-in_err-checked-clause-complete c = λ must.
    err-is (λ e. e ≡ out_of_memory) c.from_residual.result _ c.from_residual.ensures.1
    (sound-in_memory (system_of c.args.system.now) (root_of c.args.root.now) must.sound _ c.in_err-checked.ensures.fault)

pub returns-in_err-lower-clause-refused : goal.returns-in_err-lower-clause-refused
returns-in_err-lower-clause-refused c = λ text is.
    err-is (IsNotRunFor text (root_of c.args.root.now)) c.from_residual-in_err-lower.result _ c.from_residual-in_err-lower.ensures.1
    (lowering-not_run text (root_of c.args.root.now) (system_of c.args.system.now) is c.in_ok-checked.ensures.sound _
    c.in_ok-checked.ensures.of_it _ c.in_err-lower.ensures.refused)

pub returns-in_err-lower-clause-complete : goal.returns-in_err-lower-clause-complete
returns-in_err-lower-clause-complete c = λ must.
    err-is (λ e. e ≡ out_of_memory) c.from_residual-in_err-lower.result _ c.from_residual-in_err-lower.ensures.1
    (short-in_memory (system_of c.args.system.now) (root_of c.args.root.now) must _ c.in_ok-checked.ensures.of_it _ c.in_err-lower.ensures.refused)

pub returns-clause-loaded : goal.returns-clause-loaded
returns-clause-loaded c = λ text is.
    record {
      system = system_of c.args.system.now;
      read = is;
      sound = c.in_ok-checked.ensures.sound;
      is_program = rw (c.in_ok-checked.ensures.of_it, c.in_ok-checked.ensures.rooted) at c.in_ok-lower.ensures.lowered;
      fits = c.in_ok-lower.ensures.fits_requests;
    }
