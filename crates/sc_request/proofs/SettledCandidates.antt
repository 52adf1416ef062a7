-- Who may have something to do after a settlement.
use Rattle.std.proofs.Common.{◌≡◌, ◌==◌, ◌&&◌, ◌||◌, ◌<◌, ◌≤◌, ℕ, Bool, true, false, List, Option, Some, None, refl, sym, ap, ◌∙◌, inl, inr, arith}
use Rattle.std.proofs.lemmas.Bool.{and_parts, cases_Bool, or_left, or_right}
use Rattle.std.specs.Prelude.{is_some, nat_lt, if◌then◌else◌}
use Rattle.sc_lockpass.specs.Tables.{is_member}
use Rattle.sc_model.specs.declared.cause.Cause.{Cause}
use Rattle.sc_region.specs.declared.job.Job.{Job}
use Rattle.sc_region.specs.declared.job.Want.{Want}
use Rattle.sc_handler.specs.Picking.{job_of}
use Rattle.sc_handler.specs.Freeing.{frees}
use Rattle.sc_handler.specs.Handlers.{is_reserving}
use Rattle.sc_request.specs.Settling.{settled}
use Rattle.sc_request.specs.Candidates.{AreCandidates, AreReserving, touches}
use Rattle.sc_request.specs.Logs.{Center, pick_for, settles}
use Rattle.sc_request.proofs.Elsewhere.{same_job}
use Rattle.sc_request.proofs.GrantedReservations.{below_there}
use Rattle.sc_request.proofs.Quiet.{waiting_before}
use Rattle.sc_request.proofs.Untouched.{leaves_untouched, settled_count}

no_failure : (o : Option Cause) → is_some o ≡ false → o ≡ None
no_failure None e = refl
no_failure (Some why) e = cc

and_true : (b : Bool) → (b && true) ≡ b
and_true true = refl
and_true false = refl

both : (a b : Bool) → a ≡ true → b ≡ true → (a && b) ≡ true
both true true e f = refl
both true false e f = cc
both false b e f = cc

job_if : (out below below' : Bool) (o o' : Option Job) → below ≡ below' → (is_some o ≡ true → is_some o' ≡ true) →
    is_some (if out then None else (if below then o else None)) ≡ true → is_some (if out then None else (if below' then o' else None)) ≡ true
job_if true below below' o o' e f is = cc
job_if false true true o o' e f is = f is
job_if false true false o o' e f is = cc
job_if false false below' o o' e f is = cc

-- one that the settlement doesn't touch had something to do before, unless it waits to reserve what may be free now
pub had_job : (most h : ℕ) (j : Job) (turns : ℕ) (w : Want) (c : Center) (k : ℕ) → (k == h) ≡ false → touches h w c.state k ≡ false →
    ((settled most h j turns w c.state).handlers h).failure ≡ None →
    (frees j w && is_reserving ((settled most h j turns w c.state).handlers k).stage) ≡ false →
    is_some (pick_for k (settles most h j turns w c)) ≡ true → is_some (pick_for k c) ≡ true
had_job most h j turns w c k other untouched none still is =
    let t = settled most h j turns w c.state in
    let same = leaves_untouched most h j turns w c.state k other untouched none in
    let count = settled_count most h j turns w c.state k untouched in
    let now : is_some (if is_some (c.out k) then None else job_of k t) ≡ true = rw other at is in
    elim (cases_Bool (is_reserving (t.handlers k).stage)) [
      | inl waits ↦
          let quiet : frees j w ≡ false = sym (and_true (frees j w)) ∙ ap (λ b. frees j w && b) (sym waits) ∙ still in
          job_if (is_some (c.out k)) (nat_lt k t.count) (nat_lt k c.state.count) _ _ count (waiting_before most h j turns w c.state k quiet none same waits) now
      | inr apart ↦ ap (λ (o : Option Job). is_some (if is_some (c.out k) then None else o)) (sym (same_job k c.state t count same apart)) ∙ now
    ]

-- those that were touched, those that wait to reserve where something may be free for them, and all where the settled handler has failed
pub settled_candidates : (most h : ℕ) (j : Job) (turns : ℕ) (w : Want) (c : Center) (words mid reserving later : List ℕ) →
    (settled most h j turns w c.state).count ≤ 512 → AreCandidates words c → AreReserving reserving (settled most h j turns w c.state).handlers →
    ((k : ℕ) → k < 512 → is_member mid k ≡ (k == h || (touches h w c.state k || is_member words k))) →
    ((k : ℕ) → k < 512 → is_member later k ≡
    (is_some ((settled most h j turns w c.state).handlers h).failure || (is_member mid k || (frees j w && is_member reserving k)))) →
    AreCandidates later (settles most h j turns w c)
settled_candidates most h j turns w c words mid reserving later within all wait touched woken k is =
    let t = settled most h j turns w c.state in
    let l = below_there (settles most h j turns w c) k is in
    let below : k < 512 = omega (arith, l, within) in
    let failed = is_some (t.handlers h).failure in
    let rest = is_member mid k || (frees j w && is_member reserving k) in
    let in_mid : is_member mid k ≡ true → is_member later k ≡ true =
    λ m. woken k below ∙ or_right failed rest (or_left (is_member mid k) (frees j w && is_member reserving k) m) in
    elim (cases_Bool failed) [
      | inl fails ↦ woken k below ∙ or_left failed rest fails
      | inr stands ↦ elim (cases_Bool (frees j w && is_reserving (t.handlers k).stage)) [
        | inl freed ↦
            let parts = and_parts (frees j w) (is_reserving (t.handlers k).stage) freed in
            woken k below ∙ or_right failed rest (or_right (is_member mid k) (frees j w && is_member reserving k)
            (both (frees j w) (is_member reserving k) parts.0 (wait k parts.1)))
        | inr still ↦ elim (cases_Bool (k == h)) [
          | inl own ↦ in_mid (touched k below ∙ or_left (k == h) (touches h w c.state k || is_member words k) own)
          | inr other ↦ elim (cases_Bool (touches h w c.state k)) [
            | inl is_touched ↦ in_mid (touched k below ∙ or_right (k == h) (touches h w c.state k || is_member words k)
                (or_left (touches h w c.state k) (is_member words k) is_touched))
            | inr untouched ↦ in_mid (touched k below ∙ or_right (k == h) (touches h w c.state k || is_member words k)
                (or_right (touches h w c.state k) (is_member words k)
                (all k (had_job most h j turns w c k other untouched (no_failure (t.handlers h).failure stands) still is))))
          ]
        ]
      ]
    ]
