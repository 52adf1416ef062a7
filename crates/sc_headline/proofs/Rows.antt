-- Lists of turns, worked out: those of a record, and such as are padded.
use Rattle.std.proofs.Common.{◌≡◌, true, false, [], ◌∷◌, refl}
use Rattle.std.specs.Prelude.{codes, pos}
use Rattle.sc_tree.specs.Plain.{System}
use Rattle.sc_model.specs.Runs.{opening}
use Rattle.sc_model.proofs.Texts.{application, number, print, procedure, root, system}
use Rattle.sc_headline.specs.Headline.{HaveTurns}

-- The turns of the only handler are: take, print, exit.
abbrev printing : System
printing = system (application (procedure (codes "make") [] (print (number (pos 1)) ∷ []) ∷ []) [] ∷ [])

each_has_its_turn : HaveTurns 512 printing (0 ∷ 0 ∷ 0 ∷ []) (opening printing root)
each_has_its_turn = (refl, (refl, (refl, tt)))

-- a fourth one is none
not_at_the_end : HaveTurns 512 printing (0 ∷ 0 ∷ 0 ∷ 0 ∷ []) (opening printing root) → ⊥
not_at_the_end have = let no : false ≡ true = have.1.1.1.0 in cc

-- nor is one of a handler that there isn't
not_between : HaveTurns 512 printing (0 ∷ 1 ∷ 0 ∷ 0 ∷ []) (opening printing root) → ⊥
not_between have = let no : false ≡ true = have.1.0 in cc
