use Rattle.std.proofs.Common.{◌∙◌, ◌∷◌, [], map, ap, refl}
use Rattle.sc_request.specs.Parts.{part_of}
use Rattle.sc_world.specs.Views.{world_in}
use Rattle.sc_world.specs.declared.loading.Numbers.{Numbers}
use Rattle.sc_world.specs.declared.loading.Tables.{Tables}
use Rattle.sc_chance.proofs.Openings.{loadable, on_ok, opens}
use Rattle.sc_chance.proofs.stage.Stage.reopen.Goals as goal

pub load-requires : goal.load-requires
load-requires c = record {
  loadable =
      loadable c.args.program.now.image _ _ (c.deref.ensures.value ∙ c.requires.regions)
      (ap (λ ps. map part_of ps) c.deref-2.ensures.value ∙ c.requires.parts) refl refl refl
      c.openings_are_of_their_program.ensures c.openings_are_linked.ensures c.worlds_are_kept_by_numbers.ensures
      (world_in c.args.self.now.configuration) c.requires.of;
}

pub returns-clause-stage : goal.returns-clause-stage
returns-clause-stage c = on_ok c.load.result c.load.ensures.of
    (λ stays. record { of = stays c.args.program.now.image 512 c.requires.of; regions = c.requires.regions; parts = c.requires.parts })

pub returns-clause-opening : goal.returns-clause-opening
returns-clause-opening c =
    let given : Tables = record {
      regions = record { ref_ptr = (0, 0); now = c.deref.result.now };
      parts = record { ref_ptr = (0, 0); now = c.deref-2.result.now };
    } in
    let first : Numbers = record {
      count = 1;
      regions = record { ref_ptr = (0, 0); now = 0 ∷ [] };
      parts = record { ref_ptr = (0, 0); now = 0 ∷ [] };
    } in
    on_ok c.load.result c.load.ensures.kept
    (opens c.args.program.now.image given first (c.deref.ensures.value ∙ c.requires.regions)
    (ap (λ ps. map part_of ps) c.deref-2.ensures.value ∙ c.requires.parts) refl refl refl c.worlds_are_kept_by_numbers.ensures _)
