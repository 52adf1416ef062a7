use Rattle.std.proofs.Common.{◌≡◌, false, true, Some, ap, sym, ◌∙◌, arith}
use Rattle.sc_code.specs.declared.program.Image.{Image}
use Rattle.sc_play.specs.Regions.{outcome}
use Rattle.sc_worklog.specs.LoggedRegions.{entries_of, region_of}
use Rattle.sc_plant.proofs.Slots.{played_made}
use Rattle.sc_plant.proofs.slot.Slot.play_job.Goals as goal

pub invariant_of-self-else-is_continue : goal.invariant_of-self-else-is_continue
invariant_of-self-else-is_continue g c = record {
  program = c.args.self.now.program ∙ ap (λ (p : Image). Some p) (sym c.in-Ok.ensures.ok.program);
  made = λ whole.
      played_made c.args.limit c.args.job.now (outcome (region_of c.args.self.now.region).handler c.in-Ok.turns c.play_asking.new.asked)
      (entries_of c.args.self.now.region) (entries_of c.play_asking.new.self)
      (region_of c.args.self.now.region) (region_of c.play_asking.new.self) c.in-Ok.ensures.ok
      (λ cut. let bad : false ≡ true = sym c.if-is_continue.false ∙ c.is_continue.ensures.1 cut.1 in cc)
      c.in-Ok.ensures.logged (c.args.self.now.made whole);
}

pub invariant_of-self-else-turns-limit : goal.invariant_of-self-else-turns-limit
invariant_of-self-else-turns-limit g c = record {
  program = c.args.self.now.program ∙ ap (λ (p : Image). Some p) (sym c.in-Ok.ensures.ok.program);
  made = λ whole.
      let all = c.if-turns-limit.false in
      played_made c.args.limit c.args.job.now (outcome (region_of c.args.self.now.region).handler c.in-Ok.turns c.play_asking.new.asked)
      (entries_of c.args.self.now.region) (entries_of c.play_asking.new.self)
      (region_of c.args.self.now.region) (region_of c.play_asking.new.self) c.in-Ok.ensures.ok
      (λ cut. let few = cut.0 in absurd (omega (arith, all, few)))
      c.in-Ok.ensures.logged (c.args.self.now.made whole);
}
