-- Turns on sound stores that stand for halves that fit.
use Rattle.std.proofs.Common.{◌≡◌, ◌<◌, ◌≤◌, ℕ, ◌+◌, Bool, true, false, List, refl, sym, ap, ◌∙◌, subst, arith}
use Rattle.std.proofs.lemmas.Bool.{ltb-false, ltb-true}
use Rattle.std.specs.Prelude.{nat_lt}
use Rattle.sc_tree.specs.Plain.{System}
use Rattle.sc_code.specs.declared.program.Image.{Image}
use Rattle.sc_code.specs.Programs.{pool_of}
use Rattle.sc_region.specs.declared.job.Job.{Job}
use Rattle.sc_region.specs.declared.job.Job.TheVariants as job
use Rattle.sc_region.specs.declared.job.Want.{Want}
use Rattle.sc_region.specs.declared.job.Want.TheVariants as want
use Rattle.sc_region.specs.Stores.{PlainStore}
use Rattle.sc_request.specs.Asked.{Numbering}
use Rattle.sc_refines_world.specs.regions.Laws.{ProgramsServe}
use Rattle.sc_refines_world.specs.regions.RegionHalves.{IsRegionOf}
use Rattle.sc_refines_world.specs.regions.RegionSteps.{IsProgramFor, first_want, names_of, next_want, numbering_by, task_of, want_after}
use Rattle.sc_refines_world.specs.regions.RegionTurns.{Half, Task, played, taken_turn}
use Rattle.sc_play.specs.Answering.{told}
use Rattle.sc_play.specs.Turns.{TurnUnder, Turns, first, more}
use Rattle.sc_play.proofs.Programs.{turns_keep}
use Rattle.sc_refines_world.specs.regions.Halves.{JobFits, PlayFits}
use Rattle.sc_refines_world.specs.regions.Placed.{SoundJobsAreTaken, SoundTurnsAreMade, SoundTurnsArePlayed, begun_when}
use Rattle.sc_refines_world.specs.regions.Sound.{IsSound}
use Rattle.sc_code.specs.RequestRoom.{FitsRequests}
use Rattle.sc_refines_world.specs.regions.Turns.{RefusesUnder, begun_half}
use Rattle.sc_refines_world.proofs.regions.Creators.{creators_are_told}
use Rattle.sc_refines_world.proofs.regions.PlacedTurns.{may_take, may_turn}
use Rattle.sc_refines_world.proofs.regions.JobTurns.{turn_more, want_more}
use Rattle.sc_refines_world.proofs.regions.SoundStores.{begun_sound, turns_keep_sound, under_sound}
use Rattle.sc_refines_world.proofs.regions.Turns.{jobs_are_taken, turns_are_made}

pub sound_turns_are_made : ProgramsServe → SoundTurnsAreMade
sound_turns_are_made serve h y z w t sound program s x is region fits =
    let made = turns_are_made serve h y z w t (may_turn serve h y sound program s x is region fits z w t) s x is region fits.in_contract in
    (turns_keep_sound h y z w t sound, made.0, made.1)

-- ---- the first turn under a job

-- a routine that goes on stands in its contract where it finds a clause false
refuses_so : (s : System) (h : ℕ) (names : List (List ℕ)) (j : Job) (x : Half) → JobFits s h names j x → RefusesUnder s j x
refuses_so s h names (job.Made k) x fits = fits.in_contract
refuses_so s h names job.Go x fits = fits.in_contract
refuses_so s h names (job.Take r) x fits = tt
refuses_so s h names (job.Reply v) x fits = tt
refuses_so s h names job.Failed x fits = tt
refuses_so s h names job.Refused x fits = tt
refuses_so s h names (job.Granted ks) x fits = tt

-- in a store in which it has begun
taken_so : ProgramsServe → (h : ℕ) (j : Job) (y z : PlainStore) (w : Want) → TurnUnder h j y z w → IsSound y → FitsRequests y.program → (s : System) (x : Half) → IsProgramFor s y.program →
    IsRegionOf s (begun_half j x) y → JobFits s h (names_of y) j x →
    IsSound z × IsRegionOf s (taken_turn s h (task_of (names_of y) j) x) z × (w ≡ first_want (numbering_by (names_of y)) s h (task_of (names_of y) j) x)
taken_so serve h j y z w t sound program s x is region fits =
    let may = may_take serve h j y sound program s x is region fits z w t in
    let made = jobs_are_taken serve h j y z w t may s x is region (refuses_so s h (names_of y) j x fits) in
    (under_sound h j y z w t sound, made.0, made.1)

pub sound_jobs_are_taken : ProgramsServe → SoundJobsAreTaken
sound_jobs_are_taken serve h true (job.Made k) y z w t sound program s x is region fits = taken_so serve h (job.Made k) y z w t sound program s x is region fits
sound_jobs_are_taken serve h false (job.Made k) y z w t sound program s x is region fits =
    taken_so serve h (job.Made k) (told k y) z w t (begun_sound false (job.Made k) y sound) program s x is (creators_are_told k y s x region) fits
sound_jobs_are_taken serve h is_told (job.Take r) y z w t sound program s x is region fits = taken_so serve h (job.Take r) y z w t sound program s x is region fits
sound_jobs_are_taken serve h is_told (job.Reply v) y z w t sound program s x is region fits = taken_so serve h (job.Reply v) y z w t sound program s x is region fits
sound_jobs_are_taken serve h is_told job.Failed y z w t sound program s x is region fits = taken_so serve h job.Failed y z w t sound program s x is region fits
sound_jobs_are_taken serve h is_told job.Refused y z w t sound program s x is region fits = taken_so serve h job.Refused y z w t sound program s x is region fits
sound_jobs_are_taken serve h is_told (job.Granted ks) y z w t sound program s x is region fits = taken_so serve h (job.Granted ks) y z w t sound program s x is region fits
sound_jobs_are_taken serve h is_told job.Go y z w t sound program s x is region fits = taken_so serve h job.Go y z w t sound program s x is region fits

-- ---- so many turns

module _ (serve : ProgramsServe) (h : ℕ) (is_told : Bool) (j : Job) (start : PlainStore) (sound : IsSound start) (program : FitsRequests start.program) (s : System) (x : Half)
    (is : IsProgramFor s start.program) (region : IsRegionOf s (begun_when is_told j x) start) (total : ℕ) (fits : PlayFits s h (names_of start) j total x) where
  abbrev task : Task
  task = task_of (names_of start) j

  abbrev names : Numbering
  names = numbering_by (names_of start)

  -- so many turns lead there, and ask this
  record SoundPlayed (n : ℕ) (z : PlainStore) (w : Want) : Type 0 where
    some : 0 < n
    sound_there : IsSound z
    leads : IsRegionOf s (played s h task n x) z
    asks : w ≡ want_after names s h task n x
    skipped : (k : ℕ) → 0 < k → k < n → want_after names s h task k x ≡ want.Continue

  all_skipped : (n : ℕ) (z : PlainStore) → SoundPlayed n z want.Continue → (k : ℕ) → 0 < k → k < n + 1 → want_after names s h task k x ≡ want.Continue
  all_skipped n z p k some few = by (nat_lt k n) refl
    where
      by : (b : Bool) → nat_lt k n ≡ b → want_after names s h task k x ≡ want.Continue
      by true e = p.skipped k some (ltb-true k n e)
      by false e =
          let past = ltb-false k n e in
          let same : k ≡ n = omega (arith, past, few) in
          ap (λ k. want_after names s h task k x) same ∙ sym p.asks

  plays : (n : ℕ) (z : PlainStore) (w : Want) (t : Turns h is_told j start n z w) → n ≤ total → SoundPlayed n z w
  plays _ _ _ (first {y} {w} t) few =
      let made = sound_jobs_are_taken serve h is_told j start y w t sound program s x is region fits.first in
      record { some = omega arith; sound_there = made.0; leads = made.1; asks = made.2; skipped = λ k some few. absurd (omega (arith, some, few)) }
  plays _ _ _ (more {n} {y} {z} {w} before t) few =
      let p = plays n y want.Continue before (omega (arith, few)) in
      let kept = turns_keep h is_told j start n y want.Continue before in
      let made = sound_turns_are_made serve h y z w t p.sound_there (subst FitsRequests (sym kept) program) s (played s h task n x) (subst (IsProgramFor s) (sym kept) is) p.leads
      (fits.later n p.some (omega (arith, few))) in
      record {
        some = omega arith;
        sound_there = made.0;
        leads = subst (λ half. IsRegionOf s half z) (turn_more s h task x n p.some) made.1;
        asks = made.2 ∙ ap (λ (q : Image). next_want (numbering_by (pool_of q.pool).names) s h (played s h task n x)) kept ∙ want_more s h task x names n p.some;
        skipped = all_skipped n y p;
      }

pub sound_turns_are_played : ProgramsServe → SoundTurnsArePlayed
sound_turns_are_played serve h is_told j limit n y z w t few sound program s x is region fits =
    let p = plays serve h is_told j y sound program s x is region n fits n z w t (omega arith) in
    (p.sound_there, p.leads, record { some = p.some; few = few; state = refl; asks = p.asks; none_skipped = p.skipped })
