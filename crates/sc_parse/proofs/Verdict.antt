-- What reading gives is what the grammar says.
use Rattle.std.proofs.Common.{◌≡◌, ℕ, ◌≤◌, List, Result, Ok, Err, refl, sym, ◌∙◌, ap, arith}
use Rattle.std.specs.Prelude.{IfOk}
use Rattle.sc_text.specs.Kind.{kinds_of}
use Rattle.sc_text.specs.Spelling.{lexemes_of}
use Rattle.sc_text.specs.declared.token.Token.{Token}
use Rattle.sc_tree.specs.declared.system.System.{System}
use Rattle.sc_tree.specs.Bare.{bare_system}
use Rattle.sc_tree.specs.Grammar.Classes.{IsSystem}
use Rattle.sc_tree.specs.Plain as plain
use Rattle.sc_tree.specs.Internal.Reading.Looks.{Fault, Wrong, Deep}
use Rattle.sc_tree.specs.Internal.Reading.Classes as unplaced
use Rattle.sc_tree.proofs.Whole.{Answers, answers, answers_deep, complete_system, system_ok, system_wrong, system_deep}
use Rattle.sc_parse.specs.declared.fault.ParseFault.{ParseFault}
use Rattle.sc_parse.specs.declared.fault.ParseFault.TheVariants as fault
use Rattle.sc_parse.specs.Places.{IsPlaced}
use Rattle.sc_parse.specs.Parses.{ParsesWithin, IsParsedTo}
use Rattle.sc_parse.specs.Reading.Classes.{system}
use Rattle.sc_parse.specs.Reading.Reads.{ParsesAs, system_in}
use Rattle.sc_parse.proofs.BareReadings.{forget}
use Rattle.sc_parse.proofs.BareClasses.{forget_system}
use Rattle.sc_parse.proofs.PlacedClasses.{placed}

-- the answer, with its places forgotten
forgotten : (room : ℕ) (ts : List Token) (a : Result plain.System Fault) → system room ts ≡ a → unplaced.system room (kinds_of ts) ≡ forget bare_system a
forgotten room ts a q = sym (forget_system room ts) ∙ ap (forget bare_system) q

-- the answer tells the truth of the tokens
pub parses : (room : ℕ) (ts : List Token) (r : Result System ParseFault) → ParsesAs (system room ts) r → ParsesWithin room (kinds_of ts) r
parses room ts (Ok s) q = system_ok room (kinds_of ts) (bare_system (system_in s)) (forgotten room ts (Ok (system_in s)) q)
parses room ts (Err (fault.NotInGrammar span)) q = system_wrong room (kinds_of ts) (forgotten room ts (Err Wrong) q)
parses room ts (Err (fault.TooDeep span)) q = system_deep room (kinds_of ts) (forgotten room ts (Err Deep) q)
parses room ts (Err fault.OutOfMemory) q = tt

-- a tree that is nested at most so deep is found
pub found : (room : ℕ) (ts : List Token) (r : Result System ParseFault) → ParsesAs (system room ts) r → (t : plain.System) (h : ℕ) → h ≤ room → IsSystem t (kinds_of ts) h → IsParsedTo t r
found room ts (Ok s) q t h b d = go (complete_system d room)
  where
    go : Answers room h t (unplaced.system room (kinds_of ts)) → bare_system (system_in s) ≡ t
    go (answers p e) = let same : Ok (bare_system (system_in s)) ≡ Ok t = sym (forgotten room ts (Ok (system_in s)) q) ∙ e in cc
    go (answers_deep p e) = absurd (omega arith)
found room ts (Err (fault.NotInGrammar span)) q t h b d = absurd (system_wrong room (kinds_of ts) (forgotten room ts (Err Wrong) q) t h d)
found room ts (Err (fault.TooDeep span)) q t h b d = absurd (system_deep room (kinds_of ts) (forgotten room ts (Err Deep) q) t h b d)
found room ts (Err fault.OutOfMemory) q t h b d = refl

-- the parts of a tree that is answered stand where their tokens do
pub stands : (room : ℕ) (ts : List Token) (r : Result System ParseFault) → ParsesAs (system room ts) r → IfOk r (λ s. IsPlaced (system_in s) (lexemes_of ts))
stands room ts (Ok s) q = placed room ts (system_in s) q
stands room ts (Err e) q = tt
