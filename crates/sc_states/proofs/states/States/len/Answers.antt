use Rattle.std.proofs.Common.{◌≡◌, [], ◌∙◌, length, sym, ap, arith}
use Rattle.std.proofs.lemmas.List.{length-map}
use Rattle.sc_interning.specs.Views.{hashes_of}
use Rattle.sc_states.specs.Hashes.{hash_of}
use Rattle.sc_states.specs.RowViews.{rows_of}
use Rattle.sc_states.proofs.Walks.{orders_count}
use Rattle.sc_states.proofs.states.States.len.Goals as goal

pub returns-clause-orders : goal.returns-clause-orders
returns-clause-orders c =
    let s = c.args.self.now in
    let same : length (rows_of s.steps) ≡ length s.parents.items = omega (arith, s.stepped, s.counted) in
    let hashes : length (hashes_of s.index) ≡ length (rows_of s.tuples) = ap length (sym s.hashed) ∙ length-map (rows_of s.tuples) hash_of in
    omega (arith, orders_count [] s.parents.items (rows_of s.steps) same, s.stepped, c.len.ensures, hashes)
