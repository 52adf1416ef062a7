use Rattle.std.proofs.Common.{◌≡◌, ◌+◌, ◌++◌, ◌∷◌, [], ◌∙◌, ℕ, List, length, sym, ap, subst, arith, length-append}
use Rattle.sc_states.specs.Cuts.{IsCut, cut}
use Rattle.sc_states.proofs.Cuts.{cut_more, is_cut_more}
use Rattle.sc_states.proofs.rows.Rows.push.Goals as goal

pub invariant_of-self : goal.invariant_of-self
invariant_of-self g c =
    let s = c.args.self.now in
    let ends : c.push_reserved.new.self.items ≡ s.ends.items ++ (length s.flat.items + length c.args.row.now) ∷ [] =
    c.push_reserved.ensures.items ∙ ap (λ (n : ℕ). s.ends.items ++ n ∷ []) (omega (arith, c.len.ensures, s.flat.ok.0)) in
    let count : length c.append.new.flat.items ≡ length s.flat.items + length c.args.row.now =
    ap length c.append.ensures ∙ length-append s.flat.items c.args.row.now in
    record {
      lie = subst (λ (xs : List ℕ). IsCut 0 xs (length c.append.new.flat.items)) (sym ends)
          (is_cut_more 0 s.ends.items (length s.flat.items) (length c.append.new.flat.items) (length s.flat.items + length c.args.row.now) s.lie
          (omega (arith, count)) (sym count));
    }

pub returns : goal.returns
returns g c =
    let s = c.args.self.now in
    let ends : c.push_reserved.new.self.items ≡ s.ends.items ++ (length s.flat.items + length c.args.row.now) ∷ [] =
    c.push_reserved.ensures.items ∙ ap (λ (n : ℕ). s.ends.items ++ n ∷ []) (omega (arith, c.len.ensures, s.flat.ok.0)) in
    ap (λ (xs : List ℕ). cut 0 xs c.append.new.flat.items) ends
    ∙ ap (λ (xs : List g.row.T.Denot). cut 0 (s.ends.items ++ (length s.flat.items + length c.args.row.now) ∷ []) xs) c.append.ensures
    ∙ cut_more 0 s.ends.items s.flat.items c.args.row.now (length s.flat.items + length c.args.row.now) s.lie (omega arith)
