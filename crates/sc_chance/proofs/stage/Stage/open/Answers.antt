use Rattle.std.proofs.Common.{◌∙◌, ◌++◌, [], ◌∷◌, map, ap, subst, sym}
use Rattle.sc_lockpass.specs.declared.version.Version.TheVariants.{Two}
use Rattle.sc_play.specs.Regions.{PlainRegion}
use Rattle.sc_request.specs.Parts.{part_at, part_of}
use Rattle.sc_request.specs.Logs.{Center}
use Rattle.sc_world.specs.Kept.{IsOf}
use Rattle.sc_world.specs.Worlds.{PlainWorld}
use Rattle.sc_chance.proofs.stage.Stage.open.Goals as goal

pub returns : goal.returns
returns c = record {
  of =
      subst (λ (w : PlainWorld). IsOf c.args.program.now.image 512 w) (sym c.in_ok-configuration.ensures)
      (c.openings_are_of_their_program.ensures c.args.program.now.image Two);
  regions =
      c.in_ok-push.ensures.items ∙ ap (λ xs. xs ++ c.new.result ∷ []) c.new-regions.ensures.items
      ∙ ap (λ (x : PlainRegion). x ∷ []) c.new.ensures;
  parts =
      ap (λ xs. map part_of xs) (c.in_ok-push-2.ensures.items ∙ ap (λ xs. xs ++ c.in_ok-part.field-0 ∷ []) c.new-parts.ensures.items)
      ∙ ap (λ x. x ∷ []) (c.in_ok-part.ensures ∙ ap (λ (d : Center). part_at 0 d.state) c.core.ensures.center
      ∙ ap (λ (w : PlainWorld). part_at 0 w.center.state) c.in_ok-configuration.ensures);
}
