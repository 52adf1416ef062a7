-- What is found, and what a whole search shows.
use Rattle.std.proofs.Common.{◌≡◌, ◌≤◌, ◌+◌, ◌*◌, ◌∙◌, ℕ, Bool, true, false, List, Option, Some, None, Result, Ok, Err, length, refl, sym, subst, arith}
use Rattle.std.specs.Prelude.{IfNone, IfOk, IfSome, min}
use Rattle.sc_lockpass.specs.declared.version.Version.{Version}
use Rattle.sc_audit.specs.declared.line.RecordLine.{RecordLine}
use Rattle.sc_code.specs.declared.program.Image.{Image}
use Rattle.sc_world.specs.Kept.{PlainKept}
use Rattle.sc_world.specs.Turning.{Runs}
use Rattle.sc_world.specs.Worlds.{PlainWorld, opened}
use Rattle.sc_states.specs.Views.{numbers_of, steps_of}
use Rattle.sc_search.specs.declared.aims.Aim.{Aim}
use Rattle.sc_search.specs.declared.limits.Limits.{Limits}
use Rattle.sc_search.specs.declared.progress.Progress.{Progress}
use Rattle.sc_search.specs.declared.progress.Stop.{Stop}
use Rattle.sc_search.specs.declared.verdict.Finding.TheVariants as finding
use Rattle.sc_search.specs.declared.verdict.Verdict.{Verdict}
use Rattle.sc_search.specs.Closed.{IsClosed}
use Rattle.sc_search.specs.Found.{EndsFirst, LeadsTo, RunsUnmet, turns_of}
use Rattle.sc_search.specs.Lengths.{IsLength}
use Rattle.sc_search.specs.Limits.{StaysWithin}
use Rattle.sc_search.specs.Memory.{bytes_of}
use Rattle.sc_search.specs.Verdicts.{IsShown}
use Rattle.sc_search.specs.Views.{states_of}
use Rattle.sc_search.specs.Waiting.{AreMoving, IsSought, seeks_stuck}
use Rattle.sc_search.proofs.OrderEnds.{unmet_runs}

pub leads : (p : Image) (v : Version) (a : Aim) (lines : List RecordLine) (turns : List ℕ) (w : PlainWorld) (Holds : PlainWorld → Type 0) →
    turns_of lines ≡ turns → RunsUnmet a turns (opened p v) w → Holds w → LeadsTo p v lines Holds
leads p v a lines turns w Holds same runs holds = record {
  world = w;
  runs = subst (λ (hs : List ℕ). Runs hs (opened p v) w) (sym same) (unmet_runs a turns (opened p v) w runs);
  holds = holds;
}

pub ends_first : (p : Image) (v : Version) (a : Aim) (lines : List RecordLine) (turns : List ℕ) (w : PlainWorld) →
    turns_of lines ≡ turns → RunsUnmet a turns (opened p v) w → IsSought p v a w → EndsFirst p v a lines
ends_first p v a lines turns w same runs sought = record {
  world = w;
  runs = subst (λ (hs : List ℕ). RunsUnmet a hs (opened p v) w) (sym same) runs;
  sought = sought;
}

-- ---- whole searches

abbrev nowhere : Option Stop
nowhere = None

never : {A : Type 0} → true ≡ false → A
never e = cc

pub never_none : {A X : Type 0} (x : X) → Some x ≡ None → A
never_none x e = cc

pub at_some : {X : Type 0} (P : X → Type 0) (o : Option X) (x : X) → o ≡ Some x → IfSome o P → IfSome (Some x) P
at_some P o x e is = subst (λ m. IfSome m P) e is

pub of_limit : {X E : Type 0} (P : X → Limits → Type 0) (r : Result X E) (n : Limits) → IfOk r (λ x. (l : Limits) → P x l) → IfOk r (λ x. P x n)
of_limit P (Ok x) n all = all n
of_limit P (Err e) n all = tt

module _ (p : Image) (v : Version) (a : Aim) (ks : List PlainKept) (b : Bool) where
  -- of states that are closed and in which no handler waits for good
  pub closed_shown : {E : Type 0} (r : Result Verdict E) → IsClosed p v a ks → AreMoving p v a ks →
      IfOk r (λ d. d.is_whole ≡ true → (b ≡ true) × (nowhere ≡ None) × (d.finding ≡ finding.Nothing)) →
      IfOk r (λ d. d.states ≡ min (length ks) 4294967295) → (joined : ℕ) → IfOk r (λ d. IsLength p v joined d.length) → IfOk r (IsShown p v a)
  closed_shown (Ok d) closed moving whole count joined long = λ e.
      record { nothing = (whole e).2; states = ks; number = count; closed = closed; moving = moving; joined = joined; long = long }
  closed_shown (Err e) closed moving whole count joined long = tt

  -- if stuck handlers aren't looked for, or the search stopped before
  pub other_shown : {E : Type 0} (r : Result Verdict E) (s : Option Stop) → IfNone s (IsClosed p v a ks) → (s ≡ None → seeks_stuck a ≡ true → ⊥) →
      IfOk r (λ d. d.is_whole ≡ true → (b ≡ true) × (s ≡ None) × (d.finding ≡ finding.Nothing)) →
      IfOk r (λ d. d.states ≡ min (length ks) 4294967295) → (joined : ℕ) → IfOk r (λ d. IsLength p v joined d.length) → IfOk r (IsShown p v a)
  other_shown (Ok d) None closed other whole count joined long =
      λ e. record { nothing = (whole e).2; states = ks; number = count; closed = closed; moving = λ seeks. absurd (other refl seeks); joined = joined; long = long }
  other_shown (Ok d) (Some s) closed other whole count joined long = λ e. never_none s (whole e).1
  other_shown (Err e) s closed other whole count joined long = tt

  -- one that found an order isn't whole
  pub found_shown : {E : Type 0} (r : Result Verdict E) → IfOk r (λ d. d.is_whole ≡ false) → IfOk r (IsShown p v a)
  found_shown (Ok d) not_whole = λ e. never (sym e ∙ not_whole)
  found_shown (Err e) not_whole = tt

-- ---- the memory that is taken

-- each state is counted
counts : (l n s e h states bytes : ℕ) → states ≡ min l 4294967295 →
    bytes ≡ min (64 * l + 10 * n + 4 * s + 24 * e + h) 18446744073709551615 → 64 * states ≤ bytes
counts l n s e h states bytes one other = omega (arith, one, other)

-- what a pass kept that was within the limits
pub stays : {E : Type 0} (r : Result Verdict E) (x : Progress) (limits : Limits) → bytes_of x ≤ limits.bytes →
    IfOk r (λ d. d.states ≡ min (length (states_of x)) 4294967295) → IfOk r (λ d. d.bytes ≡ bytes_of x) → IfOk r (StaysWithin limits)
stays (Ok d) x limits few states bytes = λ e. record {
  few = subst (λ (n : ℕ). n ≤ limits.bytes) (sym bytes) few;
  counted = counts (length (states_of x)) (numbers_of x.store.states) (steps_of x.store.states) (length x.edges.items) x.held d.states d.bytes states bytes;
}
stays (Err e) x limits few states bytes = tt

-- a search that stopped isn't whole
pub stopped_stays : {E : Type 0} (r : Result Verdict E) (b : Bool) (s : Stop) (limits : Limits) →
    IfOk r (λ d. d.is_whole ≡ true → (b ≡ true) × (Some s ≡ None) × (d.finding ≡ finding.Nothing)) → IfOk r (StaysWithin limits)
stopped_stays (Ok d) b s limits whole = λ e. never_none s (whole e).1
stopped_stays (Err e) b s limits whole = tt

-- nor is one that found an order
pub found_stays : {E : Type 0} (r : Result Verdict E) (limits : Limits) → IfOk r (λ d. d.is_whole ≡ false) → IfOk r (StaysWithin limits)
found_stays (Ok d) limits not_whole = λ e. never (sym e ∙ not_whole)
found_stays (Err e) limits not_whole = tt
