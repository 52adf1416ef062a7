use Rattle.std.proofs.Common.{◌≡◌, Some, ap, refl, sym, ◌∙◌, subst}
use Rattle.std.specs.Option.{option_map}
use Rattle.sc_region.specs.Frames.{top_current}
use Rattle.sc_region.specs.Lending.{KeepsCurrents, given_back}
use Rattle.sc_region.specs.Objects.{object_numbered, object_of}
use Rattle.sc_region.specs.States.{state_of}
use Rattle.sc_region.specs.Stores.{PlainStore}
use Rattle.sc_region.specs.declared.object.Object.{Object}
use Rattle.std.proofs.Common.{MutBor}
use Rattle.sc_region.proofs.SettledObjects.{lent_keeps}
use Rattle.sc_region.proofs.Placed.{refilled}
use Rattle.sc_region.proofs.store.Store.with_current.Goals as goal

pub invariant_of-self-2 : goal.invariant_of-self-2
invariant_of-self-2 g c =
    let me = c.in_ok-current.current in
    let x = state_of c.self.inside.state in
    let current : top_current x.frames ≡ Some me = sym c.current.ensures ∙ c.in_ok-current.was in
    let there : object_numbered me.number x.objects ≡ Some (object_of c.in_ok-object.object.now) =
    sym c.get_mut.ensures.value ∙ ap (option_map (λ (o : MutBor Object). object_of o.now)) (c.in_ok-object.was) in
    let keeps : KeepsCurrents g.F.FnOnce c.args.run x = subst (λ (q : PlainStore). KeepsCurrents g.F.FnOnce c.args.run q) (sym c.self.view_is) c.requires.keeps in
    lent_keeps x me _ c.run.new.arg2 current
    (keeps me (object_of c.in_ok-object.object.now) c.run.result c.run.new.arg2 c.run.new.arg3 current there
    (record { frames = _; attributes = _; shown = (refl, c.deref_mut.ensures.value); frames_after = _; attributes_after = _; met = c.run.ensures; left = (refl, refl) }))
    c.self.invariant

pub returns-clause-some : goal.returns-clause-some
returns-clause-some g c =
    let vs = c.in_ok-object.object.now.attributes in
    rw (← c.self.view_is) (record {
      me = c.in_ok-current.current;
      object = object_of c.in_ok-object.object.now;
      frames = c.run.new.arg2;
      attributes = c.run.new.arg3;
      current = sym c.current.ensures ∙ c.in_ok-current.was;
      there = sym c.get_mut.ensures.value ∙ ap (option_map (λ (o : MutBor Object). object_of o.now)) (c.in_ok-object.was);
      leaves = record { frames = _; attributes = _; shown = (refl, c.deref_mut.ensures.value); frames_after = _; attributes_after = _; met = c.run.ensures; left = (refl, refl) };
      given = λ e. ap (λ us. given_back c.in_ok-current.current.number (object_of c.in_ok-object.object.now) c.run.new.arg2 us (state_of c.self.inside.state)) (refilled vs.items c.run.new.arg3 vs.len (sym vs.ok.0) e);
    })
