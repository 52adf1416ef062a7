-- Values of the definitions, worked out by hand.
use Rattle.std.proofs.Common.{◌≡◌, ◌<◌, ℕ, zero, suc, [], ◌∷◌, refl, arith}
use Rattle.std.specs.List.{All}
use Rattle.sc_lockpass.specs.Versions.{most_handlers}
use Rattle.sc_lockpass.specs.declared.version.Version.TheVariants.{One, Two}
use Rattle.sc_audit.specs.declared.line.RecordLine.{RecordLine}
use Rattle.sc_driver.specs.Audits.{turns_of}
use Rattle.sc_driver.specs.Misfits.{IsFirstMisfit, IsLine}

abbrev line : ℕ → ℕ → RecordLine
line handler turns = record { handler = handler; turns = turns }

two_handlers : turns_of (line 0 2 ∷ line 1 1 ∷ line 0 1 ∷ []) ≡ 0 ∷ 0 ∷ 1 ∷ 0 ∷ []
two_handlers = refl

-- ---- lines of records

-- the last handler of the version takes all the turns that are left
last_turns : IsLine Two 3 (line 511 3)
last_turns = record { handler = omega arith; some = omega arith; few = omega arith }

one_turn_too_many : IsLine Two 2 (line 511 3) → ⊥
one_turn_too_many is = absurd (omega (arith, is.few))

no_turn : IsLine Two 3 (line 0 0) → ⊥
no_turn is = absurd (omega (arith, is.some))

no_handler : IsLine One 3 (line 64 1) → ⊥
no_handler is = absurd (omega (arith, is.handler))

alone : (P : RecordLine → Type 0) (l : RecordLine) → P l → All P (l ∷ [])
alone P l is zero d below = is
alone P l is (suc k) d below = absurd (omega (arith, below))

-- In version 1 there is no handler 64. The first of the two lines is the second of the text, so the third doesn't fit.
third_line : IsFirstMisfit One (line 0 2 ∷ line 64 1 ∷ []) 3
third_line = record {
  before = 1;
  number_is = refl;
  fits = record {
    handlers = alone (λ (l : RecordLine). l.handler < most_handlers One) (line 0 2) (omega arith);
    some = alone (λ (l : RecordLine). 0 < l.turns) (line 0 2) (omega arith);
    few = omega arith;
    short = omega arith;
  };
  misfit = λ r. let no : 64 < 64 = r.handlers 1 (line 0 0) (omega arith) in absurd (omega (arith, no));
}
