-- An audit's answer speaks of each run of the record.
use Rattle.std.proofs.Common.{◌≡◌, ◌<◌, ◌⊎◌, ℕ, List, Result, Ok, Err, inl, inr, refl, ap, subst}
use Rattle.std.proofs.Math.Logic.{∥∥₁_elim}
use Rattle.std.proofs.lemmas.Bool.{cases_order}
use Rattle.sc_class.specs.ClassNames.{Root}
use Rattle.sc_code.specs.declared.program.Image.{Image}
use Rattle.sc_world.specs.Worlds.{PlainWorld}
use Rattle.sc_plant.specs.declared.left.Left.{Left}
use Rattle.sc_plant.specs.Left.{world_of}
use Rattle.sc_driver.specs.declared.auditing.AuditFault.{AuditFault}
use Rattle.sc_driver.specs.declared.auditing.AuditFault.TheVariants.{BadRecord, Differs, OutOfMemory}
use Rattle.sc_driver.specs.Audits.{DiffersAt, IsAudited, LeadsTo, TellsWhy, turns_of}
use Rattle.sc_driver.specs.Laws.{MisfitsAreNoRecord, OneMisfit, RunsAuditYes}
use Rattle.sc_driver.specs.Misfits.{IsFirstMisfit}
use Rattle.sc_recording.specs.Same.{FirstDiffers, IsSame}
use Rattle.sc_frontend.specs.Texts.{IsLoaded}
use Rattle.sc_refines_world.specs.Functional.{RunsAreFunctional}
use Rattle.sc_headline.specs.Exactly.{AuditsAreExact, EndsApart, EndsInLeft, IsAnswer, IsExact, OneWorld, RunsAreAnsweredYes}

pub one_world : RunsAreFunctional → OneWorld
one_world functional text root program version handlers x y loaded first second =
    functional loaded.system root loaded.sound.faultless loaded.sound.well_formed program version handlers x y loaded.is_program loaded.fits first second

-- one handler is the least
least : (h k : ℕ) (w v : PlainWorld) → FirstDiffers h w v → FirstDiffers k w v → h ≡ k
least h k w v a b = by (cases_order h k)
  where
    by : (h ≡ k) ⊎ ((h < k) ⊎ (k < h)) → h ≡ k
    by (inl e) = e
    by (inr (inl l)) = absurd (a.differs (b.same_below h l))
    by (inr (inr l)) = absurd (b.differs (a.same_below k l))

module _ (one : OneWorld) (no_record : MisfitsAreNoRecord) (first : OneMisfit) (text : List ℕ) (root : Root) (p : Image) (left : Left) (loaded : IsLoaded text root p) where
  -- what holds of one world in which a run ends holds of each
  each : (Ends : PlainWorld → Type 0) (w : PlainWorld) → LeadsTo p left w → Ends w → (v : PlainWorld) → LeadsTo p left v → Ends v
  each Ends w leads ends v also = subst Ends (one text root p left.version (turns_of left.lines.items) w v loaded leads also) ends

  ends_in_left : IsAudited p left → EndsInLeft p left
  ends_in_left a = record { is_record = a.is_record; world = a.world; leads = a.leads; each = each (λ w. IsSame w (world_of left)) a.world a.leads a.same }

  ends_apart : (h : ℕ) → DiffersAt p left h → EndsApart p left h
  ends_apart h d = record { is_record = d.is_record; world = d.world; leads = d.leads; each = each (λ w. FirstDiffers h w (world_of left)) d.world d.leads d.differs }

  says_yes : (answer : Result Unit AuditFault) → IsAnswer p left answer → (answer ≡ Err OutOfMemory → ⊥) → EndsInLeft p left → answer ≡ Ok tt
  says_yes (Ok tt) is room e = refl
  says_yes (Err (BadRecord line)) is room e = absurd (no_record left.version left.lines.items line is.1 e.is_record)
  says_yes (Err (Differs h)) is room e = absurd (is.1.differs.differs (e.each is.1.world is.1.leads h is.1.differs.there))
  says_yes (Err OutOfMemory) is room e = absurd (room refl)

  says_differs : (answer : Result Unit AuditFault) (h : ℕ) → IsAnswer p left answer → (answer ≡ Err OutOfMemory → ⊥) → EndsApart p left h → answer ≡ Err (Differs h)
  says_differs (Ok tt) h is room e = let d = e.each is.0.world is.0.leads in absurd (d.differs (is.0.same h d.there))
  says_differs (Err (BadRecord line)) h is room e = absurd (no_record left.version left.lines.items line is.1 e.is_record)
  says_differs (Err (Differs k)) h is room e = ap (λ (i : ℕ). Err (Differs i)) (least k h is.1.world (world_of left) is.1.differs (e.each is.1.world is.1.leads))
  says_differs (Err OutOfMemory) h is room e = absurd (room refl)

  says_misfits : (answer : Result Unit AuditFault) (line : ℕ) → IsAnswer p left answer → (answer ≡ Err OutOfMemory → ⊥) → IsFirstMisfit left.version left.lines.items line → answer ≡ Err (BadRecord line)
  says_misfits (Ok tt) line is room m = absurd (no_record left.version left.lines.items line m is.0.is_record)
  says_misfits (Err (BadRecord other)) line is room m = ap (λ (i : ℕ). Err (BadRecord i)) (first left.version left.lines.items other line is.1 m)
  says_misfits (Err (Differs h)) line is room m = absurd (no_record left.version left.lines.items line m is.1.is_record)
  says_misfits (Err OutOfMemory) line is room m = absurd (room refl)

  -- what it tells where it is this answer
  tells : (answer : Result Unit AuditFault) (why : AuditFault) → IsAnswer p left answer → answer ≡ Err why → TellsWhy p left why
  tells answer why is e = (subst (IsAnswer p left) e is).1

  is_exact : (answer : Result Unit AuditFault) → IsAnswer p left answer → (answer ≡ Err OutOfMemory → ⊥) → IsExact p left answer
  is_exact answer is room = record {
    yes = (λ e. ends_in_left (subst (IsAnswer p left) e is).0, says_yes answer is room);
    differs = λ h. (λ e. ends_apart h (tells answer (Differs h) is e), says_differs answer h is room);
    misfits = λ line. (λ e. tells answer (BadRecord line) is e, says_misfits answer line is room);
  }

pub audits_are_exact : OneWorld → MisfitsAreNoRecord → OneMisfit → AuditsAreExact
audits_are_exact one no_record first text root p left answer loaded is room = is_exact one no_record first text root p left loaded answer is room

not_yes : (why : AuditFault) (answer : Result Unit AuditFault) → answer ≡ Err why → answer ≡ Ok tt → ⊥
not_yes why answer e d = cc

pub runs_are_answered_yes : OneWorld → MisfitsAreNoRecord → OneMisfit → RunsAuditYes → RunsAreAnsweredYes
runs_are_answered_yes one no_record first audits text root p limit left answer loaded few run is room = by answer is room
  where
    by : (r : Result Unit AuditFault) → IsAnswer p left r → (r ≡ Err OutOfMemory → ⊥) → r ≡ Ok tt
    by (Ok tt) told here = refl
    by (Err why) told here =
        absurd (∥∥₁_elim (audits p limit left few run) (λ a b. absurd a)
        (λ (a : IsAudited p left). not_yes why (Err why) refl
        (says_yes one no_record first text root p left loaded (Err why) told here (ends_in_left one no_record first text root p left loaded a))))
