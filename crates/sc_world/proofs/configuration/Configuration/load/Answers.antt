use Rattle.std.proofs.Common.{◌≡◌, ◌∙◌, ℕ, ap, sym, length, arith}
use Rattle.std.specs.Prelude.{slice_get}
use Rattle.sc_lockpass.specs.Versions.{most_handlers}
use Rattle.sc_play.specs.Contents.{contents_at}
use Rattle.sc_world.specs.Loading.{contents_after, contents_by, held_in}
use Rattle.sc_world.specs.Views.{world_in}
use Rattle.sc_world.specs.Worlds.{world_with}
use Rattle.sc_world.proofs.LoadedWorlds.{loaded_kept, loaded_linked, loaded_of, named}
use Rattle.sc_world.proofs.UnusedHandlers.{loaded_unused, regions_past}
use Rattle.sc_world.proofs.configuration.Configuration.load.Goals as goal

pub load-requires-clause-named : goal.load-requires-clause-named
load-requires-clause-named c = named (world_in c.args.self.now) c.args.tables c.args.state c.requires.loadable

pub load-requires-clause-at_home : goal.load-requires-clause-at_home
load-requires-clause-at_home c = λ h far. c.requires.loadable.of.nobody_out h

pub put_regions-requires-clause-new : goal.put_regions-requires-clause-new
put_regions-requires-clause-new c =
    let s = c.args.self.now in regions_past s.used s.regions.items (omega (arith, s.places, s.regions.ok.0)) s.unused.regions

pub invariant_of-self-2 : goal.invariant_of-self-2
invariant_of-self-2 c =
    let old = world_in c.args.self.now in
    let v = world_with c.load.new.self c.put_regions.new.regions.items in
    let xs = c.args.self.now.regions in
    let ys = c.put_regions.new.regions in
    let cs = c.in_ok-changes.changes.items in
    let same_most : v.most ≡ old.most = ap most_handlers c.in_ok-load.ensures.version in
    let many : length ys.items ≡ length xs.items = omega (arith, c.put_regions.ensures.len, xs.ok.0, ys.ok.0) in
    let holds : (h : ℕ) → contents_at v.regions h ≡ held_in h (slice_get (contents_by c.args.tables.regions.now c.args.state.regions.now) h) = λ h.
    c.put_regions.ensures.contents h ∙ ap (λ zs. contents_after h zs (slice_get cs h)) (sym c.deref.ensures.value)
    ∙ c.in_ok-changes.ensures.contents h in
    record {
      places = c.put_regions.ensures.len ∙ c.args.self.now.places;
      few = c.requires.loadable.few;
      unused = loaded_unused c.args.tables c.args.state v.center ys.items _ (omega arith) c.requires.loadable.as_many
          c.in_ok-load.ensures.state holds;
      linked = loaded_linked old c.args.tables c.args.state c.requires.loadable v cs same_most c.in_ok-load.ensures.state c.in_ok-load.ensures.home many holds
          c.in_ok-changes.ensures.programs c.put_regions.ensures.programs;
    }

pub returns-clause-of : goal.returns-clause-of
returns-clause-of c =
    let old = world_in c.args.self.now in
    let v = world_with c.load.new.self c.put_regions.new.regions.items in
    let xs = c.args.self.now.regions in
    let ys = c.put_regions.new.regions in
    let cs = c.in_ok-changes.changes.items in
    let same_most : v.most ≡ old.most = ap most_handlers c.in_ok-load.ensures.version in
    let many : length ys.items ≡ length xs.items = omega (arith, c.put_regions.ensures.len, xs.ok.0, ys.ok.0) in
    let holds : (h : ℕ) → contents_at v.regions h ≡ held_in h (slice_get (contents_by c.args.tables.regions.now c.args.state.regions.now) h) = λ h.
    c.put_regions.ensures.contents h ∙ ap (λ zs. contents_after h zs (slice_get cs h)) (sym c.deref.ensures.value)
    ∙ c.in_ok-changes.ensures.contents h in
    loaded_of old c.args.tables c.args.state c.requires.loadable v cs same_most c.in_ok-load.ensures.state c.in_ok-load.ensures.home many holds
    c.in_ok-changes.ensures.programs c.put_regions.ensures.programs

pub returns-clause-kept : goal.returns-clause-kept
returns-clause-kept c =
    let old = world_in c.args.self.now in
    let v = world_with c.load.new.self c.put_regions.new.regions.items in
    let xs = c.args.self.now.regions in
    let ys = c.put_regions.new.regions in
    let cs = c.in_ok-changes.changes.items in
    let same_most : v.most ≡ old.most = ap most_handlers c.in_ok-load.ensures.version in
    let many : length ys.items ≡ length xs.items = omega (arith, c.put_regions.ensures.len, xs.ok.0, ys.ok.0) in
    let holds : (h : ℕ) → contents_at v.regions h ≡ held_in h (slice_get (contents_by c.args.tables.regions.now c.args.state.regions.now) h) = λ h.
    c.put_regions.ensures.contents h ∙ ap (λ zs. contents_after h zs (slice_get cs h)) (sym c.deref.ensures.value)
    ∙ c.in_ok-changes.ensures.contents h in
    loaded_kept old c.args.tables c.args.state c.requires.loadable v cs same_most c.in_ok-load.ensures.state c.in_ok-load.ensures.home many holds
    c.in_ok-changes.ensures.programs c.put_regions.ensures.programs
