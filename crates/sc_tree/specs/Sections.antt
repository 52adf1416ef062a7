-- Features under one `feature` have one export list.
use Rattle.std.specs.Prelude.{◌&&◌, ◌||◌, not, Bool, true, false, List, [], ◌∷◌, string_bytes}
use Rattle.std.specs.Str.{bytes_eq}
use Rattle.sc_tree.specs.declared.expression.Name.{Name}
use Rattle.sc_tree.specs.declared.system.Feature.{Feature}

-- whether two lists have equal names
abbrev pub same_list : List Name → List Name → Bool
same_list [] [] = true
same_list [] (y ∷ ys) = false
same_list (x ∷ xs) [] = false
same_list (x ∷ xs) (y ∷ ys) = bytes_eq (string_bytes x.text.value) (string_bytes y.text.value) && same_list xs ys

-- A feature under the same `feature` as the one before it has its export list.
abbrev pub shares_list : List Name → Feature → Bool
shares_list exports f = not f.is_further || same_list exports f.exports.value.items

abbrev pub further_share : List Name → List Feature → Bool
further_share exports [] = true
further_share exports (f ∷ fs) = shares_list exports f && further_share f.exports.value.items fs

-- The first of them has none before it.
abbrev pub share_lists : List Feature → Bool
share_lists [] = true
share_lists (f ∷ fs) = further_share f.exports.value.items fs
