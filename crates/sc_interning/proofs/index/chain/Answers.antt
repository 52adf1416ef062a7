use Rattle.std.proofs.Common.{◌∙◌, length, refl, subst, arith, List}
use Rattle.std.proofs.lemmas.List.{take_all}
use Rattle.sc_interning.specs.declared.index.Link.{Link}
use Rattle.sc_interning.specs.Chains.{AreChained}
use Rattle.sc_interning.proofs.Chained.{chained_empty, chained_next, same_hashes}
use Rattle.sc_interning.proofs.index.chain.Goals as goal

pub loop-number-init : goal.loop-number-init
loop-number-init c = record { chained = chained_empty _ c.args.firsts.now refl c.requires.none; hashes = refl }

pub loop-number-preserved : goal.loop-number-preserved
loop-number-preserved c = record {
  chained = chained_next c.loop-number.links c.loop-number.firsts c.loop-number.number _ _ c.loop-number.invariant.chained (omega arith) (omega arith) refl;
  hashes = same_hashes c.loop-number.links c.loop-number.number _ _ ∙ c.loop-number.invariant.hashes;
}

pub returns-clause-chained : goal.returns-clause-chained
returns-clause-chained c =
    subst (λ (ls : List Link). AreChained (length c.loop-number.firsts) ls c.loop-number.firsts)
    (take_all c.loop-number.number c.loop-number.links (omega arith)) c.loop-number.invariant.chained

pub returns-clause-hashes : goal.returns-clause-hashes
returns-clause-hashes c = c.loop-number.invariant.hashes
