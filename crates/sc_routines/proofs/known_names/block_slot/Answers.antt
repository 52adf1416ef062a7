use Rattle.std.proofs.Common.{◌≡◌, ℕ, suc, ◌+◌, drop, map, ap, sym, ◌∙◌, arith}
use Rattle.std.specs.Prelude.{slice_get}
use Rattle.std.specs.Option.{option_map}
use Rattle.sc_typing.specs.Views.{entity_of}
use Rattle.sc_code.specs.Emitted.{block_slots}
use Rattle.sc_routines.proofs.Blocks.{passed_block, passed_other}
use Rattle.sc_routines.proofs.known_names.block_slot.Goals.{then-is_block+else-left-eq0, else-is_block}
use Rattle.sc_routines.proofs.known_names.block_slot.Goals as goal

pub loop-slot-preserved : goal.loop-slot-preserved
loop-slot-preserved c =
    let names = c.args.names.now in
    let slot = c.loop-slot.slot in
    elim c.if-is_block.branch [
      | then-is_block+else-left-eq0 w ↦
          let one_less : c.loop-slot.left ≡ suc c.if-is_block.left = omega (arith, w.left-is, w.if-left-eq0.false) in
          c.loop-slot.invariant ∙ ap (λ (k : ℕ). option_map (λ k. slot + k) (slice_get (block_slots (map entity_of (drop slot names))) k)) one_less
          ∙ passed_block names slot c.if-is_block.left _ c.loop-slot-test.true (sym c.is_block.ensures ∙ w.if-is_block.true)
      | else-is_block w ↦
          c.loop-slot.invariant ∙ passed_other names slot c.loop-slot.left _ c.loop-slot-test.true (sym c.is_block.ensures ∙ w.if-is_block.false)
          ∙ ap (λ (k : ℕ). option_map (λ k. slot + 1 + k) (slice_get (block_slots (map entity_of (drop (slot + 1) names))) k)) (sym w.left-is)
    ]
