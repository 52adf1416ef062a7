use Rattle.std.proofs.Common.{arith}
use Rattle.sc_states.proofs.Cuts.{length_cut}
use Rattle.sc_states.proofs.rows.Rows.len.Goals as goal

pub returns : goal.returns
returns g c = let s = c.args.self.now in omega (arith, c.len.ensures, s.ends.ok.0, length_cut 0 s.ends.items s.flat.items)
