use Rattle.std.proofs.Common.{◌<◌, ◌∙◌, length, arith}
use Rattle.std.proofs.lemmas.List.{get_or_default}
use Rattle.sc_states.proofs.Cuts.{length_cut}
use Rattle.sc_states.proofs.rows.Rows.end.Goals as goal

pub index-requires : goal.index-requires
index-requires g c = omega (arith, c.requires, length_cut 0 c.args.self.now.ends.items c.args.self.now.flat.items, c.args.self.now.ends.ok.0)

pub returns : goal.returns
returns g c =
    let ends = c.args.self.now.ends.items in
    let below : c.args.number < length ends = omega (arith, c.requires, length_cut 0 ends c.args.self.now.flat.items) in
    c.index.ensures ∙ get_or_default ends c.args.number c.index.result.now 0 below
