-- The names of a text, from those of its system.
use Rattle.std.proofs.Common.{◌≡◌, ℕ, List, Option, Some, None, Result, Ok, Err, IfOk, subst}
use Rattle.std.specs.Prelude.{IfSome}
use Rattle.std.specs.declared.vec.Vec.{Vec}
use Rattle.std.specs.declared.alloc.Global.{Global}
use Rattle.std.specs.declared.alloc.AllocError.{AllocError}
use Rattle.sc_tree.specs.Plain.{System}
use Rattle.sc_class.specs.ClassNames.{Root}
use Rattle.sc_class.specs.Faults.ClassRules.{IsFaultless}
use Rattle.sc_frontend.specs.Texts.{IsRead}
use Rattle.sc_symbols.specs.declared.symbol.Mention.{Mention}
use Rattle.sc_symbols.specs.Mentions.{AreMentions}
use Rattle.sc_symbols.specs.Texts.{AreNamesIn, AreNamesOf}

-- those of the system that was read
pub read_named : (text : List ℕ) (root : Root) (s : System) → IsRead text s → (r : Result (Option (Vec Mention Global)) AllocError) →
    IfOk r (λ o. IfSome o (λ ms. AreNamesOf s root ms.items)) → IfOk r (λ o. IfSome o (λ ms. AreNamesIn text root ms.items))
read_named text root s read (Ok (Some ms)) names = record { system = s; read = read; names = names }
read_named text root s read (Ok None) names = tt
read_named text root s read (Err e) names = tt

-- those of the tables of a system
pub system_named : (s t : System) (root : Root) (ms : List Mention) → IsFaultless s root → t ≡ s → AreMentions t ms → AreNamesOf s root ms
system_named s t root ms faultless same mentions =
    record { faultless = faultless; are_mentions = subst (λ (s : System). AreMentions s ms) same mentions }
