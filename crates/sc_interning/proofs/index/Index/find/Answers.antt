use Rattle.std.proofs.Common.{◌≡◌, ◌<◌, ◌-◌, ◌%◌, ◌∙◌, ℕ, length, get_or, ap, arith}
use Rattle.std.proofs.lemmas.List.{get_or_default}
use Rattle.sc_interning.specs.declared.index.Link.{Link}
use Rattle.sc_interning.specs.Chains.{nowhere}
use Rattle.sc_interning.proofs.Chained.{hash_count, misses_all, misses_first, misses_next}
use Rattle.sc_interning.proofs.index.Index.find.Goals.{else-link-hash-via-else-link-hash, else-link-hash-via-then-link-hash+else-fits}
use Rattle.sc_interning.proofs.index.Index.find.Goals as goal

pub loop-at-init : goal.loop-at-init
loop-at-init g c =
    let self = c.args.self.now in
    let count : c.len.result ≡ length self.firsts.items = omega (arith, c.len.ensures, self.firsts.ok.0) in
    let there : c.args.hash % length self.firsts.items < length self.firsts.items = omega (arith, self.some) in
    misses_first self.links.items (length self.firsts.items) c.args.hash (g.P.Probe.Fits c.args.probe.now) self.firsts.items c.index-at.result.now self.chained there
    (c.index-at.ensures ∙ ap (λ (n : ℕ). get_or self.firsts.items (c.args.hash % n) c.index-at.result.now) count
    ∙ get_or_default self.firsts.items (c.args.hash % length self.firsts.items) c.index-at.result.now 0 there)

pub index-link-requires : goal.index-link-requires
index-link-requires g c = omega (arith, c.loop-at.invariant.few, c.args.self.now.links.ok.0)

pub fits-requires : goal.fits-requires
fits-requires g c = omega (arith, c.requires, c.loop-at.invariant.few, hash_count c.args.self.now.links.items)

pub returns-then-fits-clause-within : goal.returns-then-fits-clause-within
returns-then-fits-clause-within g c = omega (arith, c.loop-at.invariant.few, hash_count c.args.self.now.links.items)

next : goal.loop-at-preserved
next g c =
    let self = c.args.self.now in
    let at = c.loop-at.at in
    let below : at - 1 < length self.links.items = omega (arith, c.loop-at.invariant.few) in
    let link : c.index-link.result.now ≡ get_or self.links.items (at - 1) nowhere =
    c.index-link.ensures ∙ get_or_default self.links.items (at - 1) c.index-link.result.now nowhere below in
    misses_next self.links.items (length self.firsts.items) c.args.hash (g.P.Probe.Fits c.args.probe.now) self.firsts.items at (at - 1) c.index-link.result.now
    self.chained c.loop-at.invariant (omega arith) link
    (elim c.else-link-hash.branch [
      | else-link-hash-via-then-link-hash+else-fits w ↦ λ same fits.
          let yes = w.fits.ensures.1 fits in
          let no = w.if-fits.false in cc
      | else-link-hash-via-else-link-hash w ↦ λ same fits. absurd (w.if-link-hash.false same)
    ])

pub loop-at-smaller : goal.loop-at-smaller
loop-at-smaller g c =
    let self = c.args.self.now in
    let at = c.loop-at.at in
    let below : at - 1 < length self.links.items = omega (arith, c.loop-at.invariant.few) in
    let link : c.index-link.result.now ≡ get_or self.links.items (at - 1) nowhere =
    c.index-link.ensures ∙ get_or_default self.links.items (at - 1) c.index-link.result.now nowhere below in
    let few = (self.chained.nexts (at - 1) below).few in
    omega (arith, few, ap (λ (l : Link). l.next) link)

pub loop-at-preserved : goal.loop-at-preserved
loop-at-preserved g c = next g c

pub returns-clause-none : goal.returns-clause-none
returns-clause-none g c =
    let self = c.args.self.now in
    misses_all self.links.items (length self.firsts.items) c.args.hash (g.P.Probe.Fits c.args.probe.now) c.loop-at.at c.loop-at-test.false c.loop-at.invariant
