-- Turns of a handler under a job.
use Rattle.std.proofs.Common.{◌≡◌, ◌<◌, ◌≤◌, ◌+◌, ℕ, zero, suc, Bool, true, false, refl, sym, ap, ◌∙◌, subst, arith}
use Rattle.std.proofs.lemmas.Bool.{ltb-false, ltb-true}
use Rattle.std.specs.Prelude.{nat_lt}
use Rattle.sc_tree.specs.Plain.{System}
use Rattle.sc_code.specs.declared.program.Image.{Image}
use Rattle.sc_code.specs.Programs.{pool_of}
use Rattle.sc_region.specs.declared.job.Job.{Job}
use Rattle.sc_region.specs.declared.job.Want.{Want}
use Rattle.sc_region.specs.declared.job.Want.TheVariants as want
use Rattle.sc_region.specs.Stores.{PlainStore}
use Rattle.sc_request.specs.Asked.{Numbering}
use Rattle.sc_refines_world.specs.regions.Laws.{ProgramsServe}
use Rattle.sc_refines_world.specs.regions.RegionHalves.{IsRegionOf}
use Rattle.sc_refines_world.specs.regions.RegionSteps.{IsProgramFor, names_of, next_want, numbering_by, task_of, want_after}
use Rattle.sc_refines_world.specs.regions.RegionTurns.{Half, Task, played, taken_turn, turn, turns_on}
use Rattle.sc_play.specs.Turns.{Turns, first, more}
use Rattle.sc_play.proofs.Programs.{turns_keep}
use Rattle.sc_refines_world.specs.regions.Playing.{MayPlay, PlaysInContract, TurnsArePlayed}
use Rattle.sc_refines_world.proofs.regions.Turns.{first_turns_are_made, turns_are_made}

-- ---- one turn more

last_turn : (s : System) (h : ℕ) (m : ℕ) (x : Half) → turn s h (turns_on m s h x) ≡ turns_on m s h (turn s h x)
last_turn s h zero x = refl
last_turn s h (suc m) x = last_turn s h m (turn s h x)

one_more : (m : ℕ) → suc (suc m) ≡ suc m + 1
one_more m = omega arith

module _ (s : System) (h : ℕ) (j : Task) (x : Half) where
  pub turn_more : (n : ℕ) → 0 < n → turn s h (played s h j n x) ≡ played s h j (n + 1) x
  turn_more zero some = absurd (omega (arith, some))
  turn_more (suc m) some = last_turn s h m (taken_turn s h j x) ∙ ap (λ k. played s h j k x) (one_more m)

  pub want_more : (names : Numbering) (n : ℕ) → 0 < n → next_want names s h (played s h j n x) ≡ want_after names s h j (n + 1) x
  want_more names zero some = absurd (omega (arith, some))
  want_more names (suc m) some = ap (λ k. want_after names s h j k x) (one_more m)

-- ---- so many turns

module _ (serve : ProgramsServe) (h : ℕ) (j : Job) (start : PlainStore) (s : System) (x : Half) (is : IsProgramFor s start.program) (region : IsRegionOf s x start)
    (total : ℕ) (in_contract : PlaysInContract s h j (task_of (names_of start) j) total x) where
  abbrev task : Task
  task = task_of (names_of start) j

  abbrev names : Numbering
  names = numbering_by (names_of start)

  -- so many turns lead there, and ask this
  pub record Played (n : ℕ) (z : PlainStore) (w : Want) : Type 0 where
    pub some : 0 < n
    pub leads : IsRegionOf s (played s h task n x) z
    pub asks : w ≡ want_after names s h task n x
    pub skipped : (k : ℕ) → 0 < k → k < n → want_after names s h task k x ≡ want.Continue

  all_skipped : (n : ℕ) (z : PlainStore) → Played n z want.Continue → (k : ℕ) → 0 < k → k < n + 1 → want_after names s h task k x ≡ want.Continue
  all_skipped n z p k some few = by (nat_lt k n) refl
    where
      by : (b : Bool) → nat_lt k n ≡ b → want_after names s h task k x ≡ want.Continue
      by true e = p.skipped k some (ltb-true k n e)
      by false e =
          let past = ltb-false k n e in
          let same : k ≡ n = omega (arith, past, few) in
          ap (λ k. want_after names s h task k x) same ∙ sym p.asks

  plays : (n : ℕ) (z : PlainStore) (w : Want) (t : Turns h false j start n z w) → MayPlay h j start n z w t → n ≤ total → Played n z w
  plays _ _ _ (first {y} {w} t) may fits =
      let made = first_turns_are_made serve h j start y w t may s x is region in_contract.first in
      record { some = omega arith; leads = made.0; asks = made.1; skipped = λ k some few. absurd (omega (arith, some, few)) }
  plays _ _ _ (more {n} {y} {z} {w} before t) may fits =
      let p = plays n y want.Continue before may.0 (omega (arith, fits)) in
      let program = turns_keep h false j start n y want.Continue before in
      let made = turns_are_made serve h y z w t may.1 s (played s h task n x) (subst (IsProgramFor s) (sym program) is) p.leads (in_contract.later n p.some (omega (arith, fits))) in
      record {
        some = omega arith;
        leads = subst (λ half. IsRegionOf s half z) (turn_more s h task x n p.some) made.0;
        asks = made.1 ∙ ap (λ (q : Image). next_want (numbering_by (pool_of q.pool).names) s h (played s h task n x)) program ∙ want_more s h task x names n p.some;
        skipped = all_skipped n y p;
      }

pub turns_are_played : ProgramsServe → TurnsArePlayed
turns_are_played serve h j limit n y z w t few may s x is region in_contract =
    let p = plays serve h j y s x is region n in_contract n z w t may (omega arith) in
    (p.leads, record { some = p.some; few = few; state = refl; asks = p.asks; none_skipped = p.skipped })
