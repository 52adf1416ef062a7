use Rattle.std.proofs.Common.{◌≡◌, OnOk, sym, ap, ◌∙◌, subst}
use Rattle.sc_region.specs.declared.value.Reference.{Reference}
use Rattle.sc_region.specs.Stores.{PlainStore, next_reference}
use Rattle.sc_acts.specs.Creating.{created}
use Rattle.sc_acts.specs.CreatingObjects.{created_by_name, created_with}
use Rattle.sc_acts.proofs.Created.{created_nearest, created_by_name_nearest}
use Rattle.sc_acts.proofs.creating.create_object.Goals as goal

pub returns-in-None-clause-ok : goal.returns-in-None-clause-ok
returns-in-None-clause-ok c =
    let x = c.args.store.now in
    let next = next_reference c.args.handler c.args.class x in
    subst (λ (z : PlainStore). OnOk c.create.result (c.create.new.store ≡ z))
    (ap (λ (r : Reference). created r c.args.count x) c.next_reference-object.ensures ∙ created_nearest c.args.handler c.args.class c.args.count x
    ∙ ap (λ o. created_with o next c.args.count x) (sym c.in-None.is)) c.create.ensures.ok

pub returns-in-Some-clause-ok : goal.returns-in-Some-clause-ok
returns-in-Some-clause-ok c =
    let x = c.args.store.now in
    let next = next_reference c.args.handler c.args.class x in
    subst (λ (z : PlainStore). OnOk c.create_by_name.result (c.create_by_name.new.store ≡ z))
    (ap (λ (r : Reference). created_by_name r c.in-Some.name c.args.count x) c.next_reference-object.ensures
    ∙ created_by_name_nearest c.args.handler c.args.class c.in-Some.name c.args.count x
    ∙ ap (λ o. created_with o next c.args.count x) (sym c.in-Some.is)) c.create_by_name.ensures.ok
