use Rattle.std.proofs.Common.{◌≡◌, ◌<◌, ◌∙◌, ℕ, List, Some, length, get_or, sym, ap, arith}
use Rattle.std.specs.Prelude.{slice_range}
use Rattle.sc_states.specs.Cuts.{start_at}
use Rattle.sc_states.proofs.Cuts.{cut_at, end_within, length_cut, starts_before}
use Rattle.sc_states.proofs.rows.Rows.row.Goals as goal

pub part-requires-clause-up : goal.part-requires-clause-up
part-requires-clause-up g c =
    let self = c.args.self.now in
    let below : c.args.number < length self.ends.items = omega (arith, c.requires, length_cut 0 self.ends.items self.flat.items) in
    omega (arith, c.start.ensures, c.end.ensures, starts_before 0 self.ends.items (length self.flat.items) c.args.number 0 self.lie below)

pub part-requires-clause-within : goal.part-requires-clause-within
part-requires-clause-within g c =
    let self = c.args.self.now in
    let below : c.args.number < length self.ends.items = omega (arith, c.requires, length_cut 0 self.ends.items self.flat.items) in
    omega (arith, c.end.ensures, c.deref.ensures.len, self.flat.ok.0, end_within 0 self.ends.items (length self.flat.items) c.args.number 0 self.lie below)

pub returns : goal.returns
returns g c =
    let self = c.args.self.now in
    let below : c.args.number < length self.ends.items = omega (arith, c.requires, length_cut 0 self.ends.items self.flat.items) in
    let so : c.part.result.now ≡ slice_range self.flat.items (start_at 0 self.ends.items c.args.number) (get_or self.ends.items c.args.number 0) =
    c.part.ensures ∙ ap (λ (xs : List g.row.T.Denot). slice_range xs c.start.result c.end.result) c.deref.ensures.value
    ∙ ap (λ (n : ℕ). slice_range self.flat.items n c.end.result) c.start.ensures
    ∙ ap (λ (n : ℕ). slice_range self.flat.items (start_at 0 self.ends.items c.args.number) n) c.end.ensures in
    cut_at 0 self.ends.items self.flat.items c.args.number 0 below ∙ ap Some (sym so)
