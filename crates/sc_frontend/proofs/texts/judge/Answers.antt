use Rattle.std.proofs.Common.{ap, subst, ◌∙◌}
use Rattle.sc_tree.specs.View.{system_of}
use Rattle.sc_class.specs.View.{root_of}
use Rattle.sc_rules.specs.SystemRules.{WellFormed}
use Rattle.sc_class.specs.SystemIn.{root_in, system_in}
use Rattle.sc_frontend.specs.Texts.{IsAtFault}
use Rattle.sc_frontend.proofs.TextLemmas.{err-is, class-fault, check-fault}
use Rattle.sc_frontend.proofs.texts.judge.Goals as goal

pub returns-in_err-classes-clause-fault : goal.returns-in_err-classes-clause-fault
returns-in_err-classes-clause-fault c =
    err-is (IsAtFault (system_of c.args.system.now) (root_of c.args.root.now)) c.from_residual.result _ c.from_residual.ensures.1
    (class-fault (system_of c.args.system.now) (root_of c.args.root.now) _ c.in_err-classes.ensures.fault)

pub returns-in_err-check-clause-fault : goal.returns-in_err-check-clause-fault
returns-in_err-check-clause-fault c =
    let same = c.in_ok-classes.ensures.of_it in
    err-is (IsAtFault (system_of c.args.system.now) (root_of c.args.root.now)) c.from_residual-in_err-check.result _ c.from_residual-in_err-check.ensures.1
    (check-fault (system_of c.args.system.now) (root_of c.args.root.now) c.in_ok-classes.ensures.faultless _ same _
    c.in_err-check.ensures.refused)

pub returns-clause-sound : goal.returns-clause-sound
returns-clause-sound c =
    let same = c.in_ok-classes.ensures.of_it in
    record {
      faultless = c.in_ok-classes.ensures.faultless;
      well_formed = subst WellFormed same c.in_ok-check.ensures.accepted;
    }

pub returns-clause-of_it : goal.returns-clause-of_it
returns-clause-of_it c = ap system_in c.in_ok-check.ensures.of_it ∙ c.in_ok-classes.ensures.of_it

pub returns-clause-rooted : goal.returns-clause-rooted
returns-clause-rooted c = ap root_in c.in_ok-check.ensures.of_it ∙ c.in_ok-classes.ensures.rooted
