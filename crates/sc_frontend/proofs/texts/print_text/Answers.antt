use Rattle.std.proofs.Common.{◌≡◌, ◌∙◌, ap, subst, sym}
use Rattle.sc_tree.specs.Bare.{bare_system}
use Rattle.sc_tree.specs.View.{system_of}
use Rattle.sc_tree.specs.Canonical.{canonical_text}
use Rattle.sc_frontend.specs.Texts.{IsUnreadable}
use Rattle.sc_frontend.specs.Rejection.{out_of_memory}
use Rattle.sc_frontend.proofs.TextLemmas.{canonical-bare, read-spelled, err-is, only-err-is, err-map, ok-map, both-map}
use Rattle.sc_frontend.proofs.texts.print_text.Goals as goal

pub returns-in_err-system-clause-refused : goal.returns-in_err-system-clause-refused
returns-in_err-system-clause-refused c = err-is (IsUnreadable c.args.text.now) c.from_residual.result _ c.from_residual.ensures.1 c.in_err-system.ensures.refused

pub returns-in_err-system-clause-complete : goal.returns-in_err-system-clause-complete
returns-in_err-system-clause-complete c = λ tree is.
    only-err-is _ c.from_residual.result _ out_of_memory c.from_residual.ensures.1 (c.in_err-system.ensures.found tree is)

pub returns-clause-printed : goal.returns-clause-printed
returns-clause-printed c =
    ok-map c.print_read-output.result
    (λ output printed. record {
      tree = bare_system (system_of c.in_ok-system.system);
      spelled = read-spelled c.args.text.now _ c.in_ok-system.ensures.read;
      printed = printed ∙ sym (canonical-bare (system_of c.in_ok-system.system));
    })
    c.print_read-output.ensures.printed

pub returns-clause-refused : goal.returns-clause-refused
returns-clause-refused c =
    err-map c.print_read-output.result (λ e memory. subst (IsUnreadable c.args.text.now) (sym memory) tt) c.print_read-output.ensures.memory

pub returns-clause-complete : goal.returns-clause-complete
returns-clause-complete c = λ tree is.
    both-map c.print_read-output.result
    (λ output printed. printed ∙ sym (canonical-bare (system_of c.in_ok-system.system)) ∙ ap canonical_text (c.in_ok-system.ensures.found tree is))
    (λ e memory. memory)
    c.print_read-output.ensures.printed c.print_read-output.ensures.memory
