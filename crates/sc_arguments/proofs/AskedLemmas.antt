-- What all arguments ask for.
use Rattle.std.proofs.Common.{◌≡◌, ◌∙◌, ℕ, ◌==◌, ◌≤◌, ◌-◌, Bool, false, List, [], ◌∷◌, Bor, length, map, drop, take, get_or, slice_index_or, Result, Ok, Err, IfOk, sym, ap, subst, arith}
use Rattle.std.proofs.lemmas.Grind.{common_steps}
use Rattle.std.specs.List.{remove}
use Rattle.sc_arguments.specs.Asked.{IsAskedFor, IsAskedOf, asks_for_help, texts_of}
use Rattle.sc_arguments.specs.declared.arguments.Invocation.{Invocation}
use Rattle.sc_arguments.specs.declared.arguments.UsageFault.{UsageFault}

pub asked-for : {X : Type 0} (text : X → List ℕ) (arguments : List X) (command d : X) (words : List X) (name : List ℕ) (asks : Bool)
    (r : Result Invocation UsageFault) → 2 ≤ length arguments → command ≡ get_or arguments 1 d → words ≡ drop 2 arguments →
    name ≡ text command → asks ≡ asks_for_help (map text arguments) → asks ≡ false → IfOk r (IsAskedOf name (map text words)) →
    IfOk r (IsAskedFor (map text arguments))
asked-for text [] command d words name asks r few first rest same help free asked = absurd (omega (arith, few))
asked-for text (x ∷ []) command d words name asks r few first rest same help free asked = absurd (omega (arith, few))
asked-for text (x ∷ (y ∷ zs)) command d words name asks (Ok what) few first rest same help free asked =
    let P : List ℕ → Type 0 = λ n. IsAskedOf n (map text words) what in
    let Q : List (List ℕ) → Type 0 = λ ws. IsAskedOf (text y) ws what in
    (sym help ∙ free, subst Q (ap (map text) rest) (subst P (same ∙ ap text first) asked))
asked-for text (x ∷ (y ∷ zs)) command d words name asks (Err fault) few first rest same help free asked = tt

-- all words behind the command
pub words-behind : {X : Type 0} (arguments : List X) → take (length arguments - 2) (drop 2 arguments) ≡ drop 2 arguments
words-behind arguments = grind (arith, common_steps)

-- the first that is given, and the rest
pub first_apart : (given rest : List (Bor (List ℕ))) (first : Bor (List ℕ)) → (length given == 0) ≡ false → first ≡ slice_index_or given 0 first →
    rest ≡ remove given 0 → first.now ∷ texts_of rest ≡ texts_of given
first_apart [] rest first some is others = cc
first_apart (x ∷ xs) rest first some is others = ap (λ (f : Bor (List ℕ)). f.now ∷ texts_of rest) is ∙ ap (λ r. x.now ∷ texts_of r) others
