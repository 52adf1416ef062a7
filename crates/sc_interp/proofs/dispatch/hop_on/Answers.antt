use Rattle.std.proofs.Common.{◌≡◌, ap, ◌∙◌}
use Rattle.std.proofs.lemmas.Result.{IfOk-weaker}
use Rattle.sc_code.specs.declared.operation.Operation.{Operation}
use Rattle.sc_code.specs.Programs.{pool_of}
use Rattle.sc_code.specs.View.{operation_of}
use Rattle.sc_code.specs.Machine.{hop_of}
use Rattle.sc_region.specs.Frames.{activation_of}
use Rattle.sc_interp.specs.Values.{reference_of}
use Rattle.sc_interp.specs.Standing.{state_of}
use Rattle.sc_interp.specs.Told.{IsDone, OnComes}
use Rattle.sc_interp.proofs.Told.{comes_done}
use Rattle.sc_interp.proofs.dispatch.hop_on.Goals as goal

pub returns-in-CallRoutine-clause-follows : goal.returns-in-CallRoutine-clause-follows
returns-in-CallRoutine-clause-follows c = λ s code objects serves fits.
    ap (λ (o : Operation). hop_of s code (reference_of c.args.me) (operation_of (pool_of c.args.program.now.image.pool) o) (state_of objects (activation_of c.args.activation.now))) c.in-CallRoutine.is
    ∙ c.call_routine.ensures.follows c.args.count s code objects serves fits

pub returns-in-Create-clause-follows : goal.returns-in-Create-clause-follows
returns-in-Create-clause-follows c = λ s code objects serves fits.
    ap (λ (o : Operation). hop_of s code (reference_of c.args.me) (operation_of (pool_of c.args.program.now.image.pool) o) (state_of objects (activation_of c.args.activation.now))) c.in-Create.is
    ∙ c.create.ensures.follows c.args.count s code objects serves fits

pub returns-in-CreateHandler-clause-follows : goal.returns-in-CreateHandler-clause-follows
returns-in-CreateHandler-clause-follows c = λ s code objects serves fits.
    ap (λ (o : Operation). hop_of s code (reference_of c.args.me) (operation_of (pool_of c.args.program.now.image.pool) o) (state_of objects (activation_of c.args.activation.now))) c.in-CreateHandler.is
    ∙ c.create_handler.ensures.follows c.args.count s code objects serves fits

pub returns-in-Demand-clause-follows : goal.returns-in-Demand-clause-follows
returns-in-Demand-clause-follows c = λ s code objects serves fits.
    ap (λ (o : Operation). hop_of s code (reference_of c.args.me) (operation_of (pool_of c.args.program.now.image.pool) o) (state_of objects (activation_of c.args.activation.now))) c.in-Demand.is
    ∙ c.demand.ensures.follows c.args.me s code objects serves fits

pub returns-in-PrintText-clause-follows : goal.returns-in-PrintText-clause-follows
returns-in-PrintText-clause-follows c = λ s code objects serves fits.
    ap (λ (o : Operation). hop_of s code (reference_of c.args.me) (operation_of (pool_of c.args.program.now.image.pool) o) (state_of objects (activation_of c.args.activation.now))) c.in-PrintText.is
    ∙ c.print_text.ensures.follows c.args.me c.args.count (activation_of c.args.activation.now) s code objects serves fits

pub returns-in-Test-clause-follows : goal.returns-in-Test-clause-follows
returns-in-Test-clause-follows c = λ s code objects serves fits.
    ap (λ (o : Operation). hop_of s code (reference_of c.args.me) (operation_of (pool_of c.args.program.now.image.pool) o) (state_of objects (activation_of c.args.activation.now))) c.in-Test.is
    ∙ c.test.ensures.follows s code objects serves fits

pub returns-in-Open-clause-follows : goal.returns-in-Open-clause-follows
returns-in-Open-clause-follows c = λ s code objects serves fits.
    ap (λ (o : Operation). hop_of s code (reference_of c.args.me) (operation_of (pool_of c.args.program.now.image.pool) o) (state_of objects (activation_of c.args.activation.now))) c.in-Open.is
    ∙ c.open.ensures.follows c.args.me c.args.count s code objects serves fits

pub returns-in-KeepOld-clause-kept : goal.returns-in-KeepOld-clause-kept
returns-in-KeepOld-clause-kept c =
    let same : Type 0 = activation_of c.keep_old.new.activation ≡ activation_of c.args.activation.now in
    IfOk-weaker c.keep_old.result (λ h. IsDone h) (λ h. OnComes h same) (λ h done. comes_done h same done) c.keep_old.ensures.done

pub returns-in-Test-clause-kept : goal.returns-in-Test-clause-kept
returns-in-Test-clause-kept c = comes_done c.test.result _ c.test.ensures.done
