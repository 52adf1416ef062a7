-- Handlers that have a turn, and runs that make one turn more.
use Rattle.std.proofs.Common.{◌≡◌, ◌+◌, ◌<◌, ◌≤◌, ◌⊎◌, ◌++◌, ◌∙◌, inl, inr, ℕ, List, [], ◌∷◌, Bool, true, false, Option, Some, None, IfNone, IfSome, is_some, length, arith, refl, sym, ap, subst}
use Rattle.std.specs.Prelude.{nat_lt, if◌then◌else◌}
use Rattle.std.proofs.lemmas.Bool.{cases_lt}
use Rattle.std.proofs.lemmas.Bool.Decides.{nat_tests}
use Rattle.std.specs.List.{flat_map}
use Rattle.sc_lockpass.specs.declared.version.Version.TheVariants.{Two}
use Rattle.sc_audit.specs.Records.{most_lines, turns_of}
use Rattle.sc_audit.specs.declared.line.RecordLine.{RecordLine}
use Rattle.sc_code.specs.declared.program.Image.{Image}
use Rattle.sc_driver.specs.Execution.{IsThreadRun, line_turns}
use Rattle.sc_model.specs.declared.status.Status.{Status}
use Rattle.sc_region.specs.declared.job.Job.{Job}
use Rattle.sc_request.specs.Logs.{Center, first_from, first_with_job, next, pick_for, round}
use Rattle.sc_world.specs.Kept.{IsOf, KeptAlikeReadAlike, KeptAlikeTurnAlike, OpeningsAreOf, RunsStayOf, kept}
use Rattle.sc_world.specs.Reports.{report, statuses}
use Rattle.sc_world.specs.Turning.{IsTurn, MakeTurns}
use Rattle.sc_world.specs.Worlds.{PlainWorld, opened}
use Rattle.sc_chance.specs.Runs.{IsPlayed, IsReachedBy}

-- ---- who has a turn

-- a handler that isn't there has none
none_past : (b out : Bool) (o : Option Job) → b ≡ false → (if out then None else if b then o else None) ≡ None
none_past false true o e = refl
none_past false false o e = refl
none_past true out o e = cc

-- if none of those that there are has a turn, none has
pub none_of : (picked : Option ℕ) (c : Center) (n : ℕ) → IfNone picked ((h : ℕ) → h < n → pick_for h c ≡ None) → c.state.count ≤ n →
    IfNone picked ((h : ℕ) → pick_for h c ≡ None)
none_of (Some h) c n none all = tt
none_of None c n none all = λ h. elim (cases_lt h c.state.count) [
  | inl there ↦ none h (omega (arith, there, all))
  | inr past ↦
      let test : nat_lt h c.state.count ≡ false = grind (arith, nat_tests, past) in
      none_past (nat_lt h c.state.count) (is_some (c.out h)) _ test
]

-- ---- who is picked

-- of those up to this number the last one may take the place of the one before it, and else that one stays
pub picked_has : (c : Center) (n : ℕ) (before after : Option ℕ) → IfSome before (λ handler. is_some (pick_for handler c) ≡ true) →
    is_some (pick_for n c) ≡ true → (after ≡ Some n) ⊎ ((is_some before ≡ true) × (after ≡ before)) →
    IfSome after (λ handler. is_some (pick_for handler c) ≡ true)
picked_has c n before after has here (inl is) =
    subst (λ (o : Option ℕ). IfSome o (λ handler. is_some (pick_for handler c) ≡ true)) (sym is) here
picked_has c n before after has here (inr (some, is)) =
    subst (λ (o : Option ℕ). IfSome o (λ handler. is_some (pick_for handler c) ≡ true)) (sym is) has

some_is_no_none : (X : Type 0) (o : Option ℕ) → is_some o ≡ true → IfNone o X
some_is_no_none X None e = cc
some_is_no_none X (Some h) e = tt

pub picked_is_some : (X : Type 0) (n : ℕ) (before after : Option ℕ) → (after ≡ Some n) ⊎ ((is_some before ≡ true) × (after ≡ before)) → IfNone after X
picked_is_some X n before after (inl is) = subst (λ (o : Option ℕ). IfNone o X) (sym is) tt
picked_is_some X n before after (inr (some, is)) = subst (λ (o : Option ℕ). IfNone o X) (sym is) (some_is_no_none X before some)

none_has_none : (o : Option Job) → is_some o ≡ false → o ≡ None
none_has_none None e = refl
none_has_none (Some j) e = cc

-- if the one at this number has no turn either
pub none_up_to : (c : Center) (n : ℕ) (picked : Option ℕ) → IfNone picked ((h : ℕ) → h < n → pick_for h c ≡ None) →
    is_some (pick_for n c) ≡ false → IfNone picked ((h : ℕ) → h < n + 1 → pick_for h c ≡ None)
none_up_to c n (Some h) none here = tt
none_up_to c n None none here = λ h below. elim (cases_lt h n) [
  | inl before ↦ none h before
  | inr past ↦
      let same : h ≡ n = omega (arith, below, past) in
      subst (λ (k : ℕ). pick_for k c ≡ None) (sym same) (none_has_none (pick_for n c) here)
]

none_picked : (hs : List ℕ) (c : Center) → ((h : ℕ) → pick_for h c ≡ None) → first_with_job hs c ≡ None
none_picked [] c none = refl
none_picked (h ∷ hs) c none = ap (λ (o : Option Job). first_from h o (first_with_job hs c)) (none h) ∙ none_picked hs c none

none_next : (c : Center) → ((h : ℕ) → pick_for h c ≡ None) → next c ≡ None
none_next c none = none_picked (round c.state.count c.last) c none

-- ---- one more turn

more : (hs : List ℕ) (h : ℕ) (x y z : PlainWorld) → MakeTurns hs x y → is_some (pick_for h y.center) ≡ true → IsTurn h y z → MakeTurns (hs ++ h ∷ []) x z
more [] h x y z same has turn = subst (λ (w : PlainWorld). MakeTurns (h ∷ []) w z) same (has, z, turn, refl)
more (k ∷ hs) h x y z made has turn = (made.0, made.1, made.2, more hs h made.1 y z made.3 has turn)

pub reached_first : (p : Image) (w : PlainWorld) → OpeningsAreOf → IsOf p 512 w → kept w ≡ kept (opened p Two) → IsReachedBy p [] w
reached_first p w open_of of same = record {
  world = opened p Two;
  makes = refl;
  alike = record { of = of; its = open_of p Two; same = same };
}

pub reached_more : (p : Image) (hs ms : List ℕ) (h : ℕ) (w x : PlainWorld) → RunsStayOf → KeptAlikeReadAlike → KeptAlikeTurnAlike → ms ≡ hs ++ h ∷ [] →
    IsReachedBy p hs w → is_some (pick_for h w.center) ≡ true → IsTurn h w x → IsReachedBy p ms x
reached_more p hs ms h w x stay_of read_alike turn_alike same r has turn =
    let t = turn_alike p 512 w r.world r.alike h x turn in
    let its_has : is_some (pick_for h r.world.center) ≡ true =
    ap (λ (o : Option Job). is_some o) (sym ((read_alike p 512 w r.world r.alike).jobs h)) ∙ has in
    record {
      world = t.after;
      makes = subst (λ (ks : List ℕ). MakeTurns ks (opened p Two) t.after) (sym same) (more hs h (opened p Two) r.world t.after r.makes its_has t.turn);
      alike = record {
        of = stay_of p 512 (h ∷ []) w x r.alike.of (x, turn, refl);
        its = stay_of p 512 (h ∷ []) r.world t.after r.alike.its (t.after, t.turn, refl);
        same = sym t.kept;
      };
    }

-- ---- the end

-- none has a turn in one that is kept alike
pub ends_there : (p : Image) (hs : List ℕ) (w : PlainWorld) (c : Center) → KeptAlikeReadAlike → (r : IsReachedBy p hs w) → c ≡ w.center →
    ((h : ℕ) → pick_for h c ≡ None) → next r.world.center ≡ None
ends_there p hs w c read_alike r same none =
    none_next r.world.center
    (λ h. sym ((read_alike p 512 w r.world r.alike).jobs h) ∙ ap (λ (d : Center). pick_for h d) (sym same) ∙ none h)

pub ended : (p : Image) (limit : ℕ) (lines : List RecordLine) (w : PlainWorld) → (r : IsReachedBy p (flat_map line_turns lines) w) → turns_of lines ≤ limit →
    length lines ≤ most_lines → (next r.world.center ≡ None) ⊎ ((turns_of lines ≡ limit) ⊎ (length lines ≡ most_lines)) → IsPlayed p limit lines w
ended p limit lines w r few short ends = record { reached = r; few = few; short = short; ends = ends }

-- what is reported of one is reported of the other
pub run_of : (p : Image) (limit : ℕ) (lines : List RecordLine) (w : PlainWorld) (text : List ℕ) (hows : List Status) → KeptAlikeReadAlike →
    IsPlayed p limit lines w → text ≡ report w → hows ≡ statuses w → IsThreadRun p limit lines text hows
run_of p limit lines w text hows read_alike played told how =
    let r = played.reached in
    let read = read_alike p 512 w r.world r.alike in
    record {
      world = r.world;
      makes = r.makes;
      leaves = record { report_is = told ∙ read.report; statuses_are = how ∙ read.statuses };
      few = played.few;
      short = played.short;
      ends = played.ends;
    }
