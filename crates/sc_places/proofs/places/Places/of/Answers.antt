use Rattle.std.proofs.Common.{arith, sym, subst}
use Rattle.std.specs.List.{All}
use Rattle.std.proofs.lemmas.List.Elements.{All-push}
use Rattle.sc_places.specs.Lines.{IsLine}
use Rattle.sc_places.proofs.places.Places.of.Goals as goal

pub loop-preserved : goal.loop-preserved
loop-preserved c = record {
  within = omega (arith, c.in-Some.ensures.1, c.loop.invariant.within);
  next = c.in-Some.ensures.0;
  lines = subst (All (IsLine c.args.source.now)) (sym c.in_ok-push.ensures.items)
      (All-push (IsLine c.args.source.now) c.loop.lines.items c.in-Some.line c.loop.invariant.lines c.in-Some.ensures.0.0);
}
