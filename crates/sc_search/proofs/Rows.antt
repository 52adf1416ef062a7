-- Values of the definitions, worked out by hand.
use Rattle.std.proofs.Common.{◌≡◌, ◌<◌, inl, inr, ℕ, zero, suc, true, false, [], ◌∷◌, refl, arith}
use Rattle.sc_audit.specs.declared.line.RecordLine.{RecordLine}
use Rattle.sc_model.specs.declared.cause.Cause.{Cause}
use Rattle.sc_model.specs.declared.status.Status.TheVariants.{Failed, Busy, Waiting, Free}
use Rattle.sc_handler.specs.Handlers.{State}
use Rattle.sc_search.specs.declared.aims.Aim.TheVariants as aim
use Rattle.sc_search.specs.Aims.{AreStuck, HasRefused, IsMetBy, SomeRefuses}
use Rattle.sc_search.specs.Found.{turns_of}

abbrev line : ℕ → ℕ → RecordLine
line handler turns = record { handler = handler; turns = turns }

-- ---- the turns of lines

two_handlers : turns_of (line 0 2 ∷ line 1 1 ∷ line 0 1 ∷ []) ≡ 0 ∷ 0 ∷ 1 ∷ 0 ∷ []
two_handlers = refl

-- ---- how handlers stand

-- nobody has anything to do, and the second waits
one_waits : AreStuck (Free ∷ Waiting ∷ [])
one_waits = record { idle = refl; waits = refl }

-- also where another one has failed
one_fails_one_waits : (why : Cause) → AreStuck (Failed why ∷ Waiting ∷ [])
one_fails_one_waits why = record { idle = refl; waits = refl }

-- somebody has something to do
one_is_busy : AreStuck (Busy ∷ Waiting ∷ []) → ⊥
one_is_busy stuck = let no : true ≡ false = stuck.idle in cc

-- nobody waits
all_are_free : AreStuck (Free ∷ Free ∷ []) → ⊥
all_are_free stuck = let no : false ≡ true = stuck.waits in cc

-- who has failed doesn't wait
one_fails : (why : Cause) → AreStuck (Failed why ∷ Free ∷ []) → ⊥
one_fails why stuck = let no : false ≡ true = stuck.waits in cc

one_fails_while_busy : (why : Cause) (s : State) → IsMetBy aim.Fails (Busy ∷ Failed why ∷ []) s
one_fails_while_busy why s = refl

none_fails : (s : State) → IsMetBy aim.Fails (Busy ∷ Waiting ∷ Free ∷ []) s → ⊥
none_fails s met = let no : false ≡ true = met in cc

one_of_three : (why : Cause) (s : State) → IsMetBy aim.Any (Busy ∷ Failed why ∷ []) s
one_of_three why s = inr (inl refl)

none_of_three : (s : State) → (HasRefused s → ⊥) → IsMetBy aim.Any (Free ∷ Free ∷ []) s → ⊥
none_of_three s no_refusal (inl stuck) = all_are_free stuck
none_of_three s no_refusal (inr (inl failed)) = let no : false ≡ true = failed in cc
none_of_three s no_refusal (inr (inr refused)) = no_refusal refused

-- ---- refused requests

-- how many the first handler has refused, and how many each of the others
abbrev refused_by : ℕ → ℕ → ℕ → ℕ
refused_by first others zero = first
refused_by first others (suc h) = others

second_refuses : SomeRefuses 2 (refused_by 0 1)
second_refuses = record { handler = 1; there = omega arith; some = omega arith }

-- a handler that there isn't
no_second : SomeRefuses 1 (refused_by 0 1) → ⊥
no_second one = by one.handler one.there one.some
  where
    by : (h : ℕ) → h < 1 → 0 < refused_by 0 1 h → ⊥
    by zero there some = absurd (omega (arith, some))
    by (suc h) there some = absurd (omega (arith, there))
