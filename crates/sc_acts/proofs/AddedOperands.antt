-- The last operands, added one by one.
use Rattle.std.proofs.Common.{◌≡◌, ℕ, ◌+◌, ◌-◌, ◌<◌, List, [], ◌∷◌, ◌++◌, Some, append-nil, sym, ap, ◌∙◌, arith}
use Rattle.std.proofs.lemmas.List.{append_assoc}
use Rattle.std.specs.Prelude.{slice_get}
use Rattle.sc_region.specs.declared.value.Value.{Value}
use Rattle.sc_region.specs.Calls.{last_values}
use Rattle.sc_acts.proofs.LastOperands.{taken_more}

-- the next one
pub added_more : (ws us new vs : List Value) (v : Value) (n i : ℕ) → i < n → slice_get vs (n - 1 - i) ≡ Some v → new ≡ us ++ v ∷ [] →
    us ++ last_values (n - i) vs ≡ ws → new ++ last_values (n - (i + 1)) vs ≡ ws
added_more ws us new vs v n i l e added before =
    let this : n - i ≡ n - 1 - i + 1 = omega (arith, l) in
    let others : n - (i + 1) ≡ n - 1 - i = omega (arith, l) in
    ap (λ xs. xs ++ last_values (n - (i + 1)) vs) added
    ∙ append_assoc us (v ∷ []) (last_values (n - (i + 1)) vs)
    ∙ ap (λ k. us ++ v ∷ last_values k vs) others
    ∙ ap (λ xs. us ++ xs) (sym (taken_more (n - 1 - i) [] vs v e))
    ∙ ap (λ k. us ++ last_values k vs) (sym this)
    ∙ before

-- all of them
pub added_all : (ws us vs : List Value) (k : ℕ) → k ≡ 0 → us ++ last_values k vs ≡ ws → us ≡ ws
added_all ws us vs k none all = sym (append-nil us) ∙ ap (λ m. us ++ last_values m vs) (sym none) ∙ all
