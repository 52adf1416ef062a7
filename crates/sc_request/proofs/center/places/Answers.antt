use Rattle.std.proofs.Common.{List, [], ◌∷◌, ◌++◌, ap, ◌∙◌, arith}
use Rattle.std.proofs.lemmas.List.{replicate_more}
use Rattle.std.specs.Prelude.{replicate}
use Rattle.sc_handler.specs.declared.handler.Handler as coded
use Rattle.sc_handler.specs.InMemory.{asked, fresh}
use Rattle.sc_request.proofs.center.places.Goals as goal

pub loop-k-preserved : goal.loop-k-preserved
loop-k-preserved c = record {
  items =
      c.push_reserved.ensures.items
      ∙ ap (λ (xs : List coded.Handler). xs ++ c.new.result ∷ []) c.loop-k.invariant.items
      ∙ ap (λ (x : coded.Handler). asked c.args.root ∷ (replicate c.loop-k._k fresh ++ x ∷ [])) c.new.ensures
      ∙ ap (λ (xs : List coded.Handler). asked c.args.root ∷ xs) (replicate_more c.loop-k._k fresh);
  len = omega (arith, c.push_reserved.ensures.len, c.loop-k.invariant.len);
  room = omega (arith, c.push_reserved.ensures.capacity, c.loop-k.invariant.room);
}
