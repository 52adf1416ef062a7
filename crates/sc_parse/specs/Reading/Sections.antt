-- Features that are found under one `feature`.
use Rattle.std.specs.Prelude.{◌≡◌, ℕ, zero, suc, false, List, [], ◌∷◌}
use Rattle.sc_tree.specs.declared.system.Feature.{Feature}
use Rattle.sc_tree.specs.Plain as plain
use Rattle.sc_parse.specs.Reading.Reads.{names_in}

-- Each of these features has the export list.
abbrev pub AllExported : List plain.Name → List Feature → Type 0
AllExported es [] = Unit {0}
AllExported es (f ∷ fs) = (names_in f.exports.value ≡ es) × AllExported es fs

-- The earlier features, and behind them some that have the export list.
abbrev pub AddsExported : List plain.Name → List Feature → List Feature → Type 0
AddsExported es [] fs = AllExported es fs
AddsExported es (x ∷ xs) [] = ⊥
AddsExported es (x ∷ xs) (f ∷ fs) = (f ≡ x) × AddsExported es xs fs

-- The features, of which the one of this number begins what stands under its `feature`.
abbrev pub begun_at : ℕ → List Feature → List Feature
begun_at n [] = []
begun_at zero (f ∷ fs) = record f { is_further = false } ∷ fs
begun_at (suc n) (f ∷ fs) = f ∷ begun_at n fs
