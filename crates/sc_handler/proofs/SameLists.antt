-- Two lists, compared item by item by what a function reads of each.
use Rattle.std.proofs.Common.{◌≡◌, List, map}

-- The rests of two lists are alike exactly where the lists are.
pub record AreAsAlike {A B : Type 0} (f : A → B) (rest its_rest list its_list : List A) : Type 0 where
  pub wholes : map f rest ≡ map f its_rest → map f list ≡ map f its_list
  pub rests : map f list ≡ map f its_list → map f rest ≡ map f its_rest
