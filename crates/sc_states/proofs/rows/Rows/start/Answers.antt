use Rattle.std.proofs.Common.{◌≡◌, ◌<◌, ◌-◌, ◌∙◌, suc, length, sym, ap, arith}
use Rattle.std.proofs.lemmas.List.{get_or_default}
use Rattle.sc_states.specs.Cuts.{start_at}
use Rattle.sc_states.proofs.Cuts.{length_cut, start_first, start_next}
use Rattle.sc_states.proofs.rows.Rows.start.Goals as goal

pub index-requires : goal.index-requires
index-requires g c = omega (arith, c.requires, length_cut 0 c.args.self.now.ends.items c.args.self.now.flat.items, c.args.self.now.ends.ok.0)

pub returns-then-number-eq0 : goal.returns-then-number-eq0
returns-then-number-eq0 g c =
    sym (ap (start_at 0 c.args.self.now.ends.items) c.if-number-eq0.true ∙ start_first 0 c.args.self.now.ends.items)

pub returns-else-number-eq0 : goal.returns-else-number-eq0
returns-else-number-eq0 g c =
    let ends = c.args.self.now.ends.items in
    let n = c.args.number in
    let below : n - 1 < length ends = omega (arith, c.requires, length_cut 0 ends c.args.self.now.flat.items) in
    let e : suc (n - 1) ≡ n = omega arith in
    c.index.ensures ∙ get_or_default ends (n - 1) c.index.result.now 0 below ∙ sym (start_next 0 ends (n - 1) 0 below) ∙ ap (start_at 0 ends) e
