use Rattle.std.proofs.Common.{◌+◌, ◌<◌, length, take, ap, ◌∙◌, arith}
use Rattle.std.proofs.Math.ListN.{length-set}
use Rattle.std.specs.Prelude.{slice_set}
use Rattle.sc_formula.specs.declared.atom.Atom.{Atom}
use Rattle.sc_region.proofs.FilledSlots.{filled}
use Rattle.sc_region.proofs.state.fill.Goals as goal

pub loop-place-preserved : goal.loop-place-preserved
loop-place-preserved c =
    let atoms = c.loop-place.atoms in
    let i = c.loop-place.place in
    let room : i < length atoms = omega (arith, c.loop-place.invariant.room, c.loop-place-test.true) in
    record {
      so_far =
          ap (λ (a : Atom). take (i + 1) (slice_set atoms i a)) c.atom.ensures
          ∙ filled atoms c.args.attributes.now i _ room c.loop-place-test.true c.loop-place.invariant.so_far;
      room = omega (arith, c.loop-place.invariant.room, length-set atoms i c.atom.result);
    }
