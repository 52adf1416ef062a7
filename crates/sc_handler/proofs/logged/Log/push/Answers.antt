use Rattle.std.proofs.Common.{refl}
use Rattle.sc_handler.specs.declared.settlement.Settlement.{Settlement}
use Rattle.sc_handler.proofs.Entries.{adds, all_within, told_after}
use Rattle.sc_handler.proofs.logged.Log.push.Goals as goal

pub invariant_of-self-clause-within : goal.invariant_of-self-clause-within
invariant_of-self-clause-within c =
    let s = c.args.self.now in
    let st : Settlement = record { handler = c.args.handler; job = c.args.job.now; turns = c.args.turns; want = c.args.want.now } in
    all_within s.entries.items c.push_reserved.new.self.items st s.packed.items c.number_of.new.all.items s.values.items c.place_of.new.all.items _
    s.within
    (adds st s.packed.items c.number_of.new.all.items s.values.items c.place_of.new.all.items c.job_values.result.now c.want_values.result.now _ _
    c.job_values.ensures.values c.want_values.ensures.values refl c.number_of.ensures.kept c.place_of.ensures.kept c.number_of.ensures.there
    c.place_of.ensures.there c.place_of.ensures.within c.job_values.ensures.few c.want_values.ensures.few)
    c.push_reserved.ensures.items

pub returns-clause-settlements : goal.returns-clause-settlements
returns-clause-settlements c =
    let s = c.args.self.now in
    let st : Settlement = record { handler = c.args.handler; job = c.args.job.now; turns = c.args.turns; want = c.args.want.now } in
    told_after s.entries.items c.push_reserved.new.self.items st s.packed.items c.number_of.new.all.items s.values.items c.place_of.new.all.items _
    s.within
    (adds st s.packed.items c.number_of.new.all.items s.values.items c.place_of.new.all.items c.job_values.result.now c.want_values.result.now _ _
    c.job_values.ensures.values c.want_values.ensures.values refl c.number_of.ensures.kept c.place_of.ensures.kept c.number_of.ensures.there
    c.place_of.ensures.there c.place_of.ensures.within c.job_values.ensures.few c.want_values.ensures.few)
    c.push_reserved.ensures.items
