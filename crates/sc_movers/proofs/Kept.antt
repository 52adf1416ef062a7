-- What is kept of worlds are the states of a machine.
use Rattle.std.proofs.Common.{◌≡◌, ◌∙◌, ◌++◌, ℕ, true, false, [], ◌∷◌, Option, Some, None, refl, sym, ap, subst}
use Rattle.std.specs.Prelude.{is_some, if◌then◌else◌}
use Rattle.sc_lockpass.specs.Versions.{most_handlers}
use Rattle.sc_lockpass.specs.declared.version.Version.{Version}
use Rattle.sc_tree.specs.Plain.{System}
use Rattle.sc_class.specs.ClassNames.{Root}
use Rattle.sc_class.specs.Faults.ClassRules.{IsFaultless}
use Rattle.sc_rules.specs.SystemRules.{WellFormed}
use Rattle.sc_code.specs.declared.program.Image.{Image}
use Rattle.sc_code.specs.Programs.{IsProgramOf}
use Rattle.sc_code.specs.RequestRoom.{FitsRequests}
use Rattle.sc_region.specs.declared.job.Job.{Job}
use Rattle.sc_handler.specs.Picking.{job_of}
use Rattle.sc_request.specs.Logs.{Center, pick_for, picked}
use Rattle.sc_counts.proofs.Jobs.{job_canon}
use Rattle.sc_orders.specs.Movers.{IsMachine}
use Rattle.sc_world.specs.Kept.{IsOf, KeptAlikeTurnAlike, OpeningsAreOf, PlainKept, RunsStayOf, TurnsTo, kept}
use Rattle.sc_world.specs.Turning.{IsTurn, Makes, TurnsUnder}
use Rattle.sc_world.specs.Worlds.{PlainWorld, opened}
use Rattle.sc_world.proofs.Runs.{runs-more}
use Rattle.sc_refines_world.specs.Anew.{IsPlayed}
use Rattle.sc_refines_world.specs.Functional.{RunsAreFunctional}
use Rattle.sc_movers.specs.Kept.{IsReached, Turn, has_failed, has_turn, never}
use Rattle.sc_movers.proofs.Failed.{failed_stays}

-- a handler that isn't out has its job to do
pub pick_is : (h : ℕ) (c : Center) → c.out h ≡ None → pick_for h c ≡ job_of h c.state
pick_is h c e = ap (λ (o : Option Job). if is_some o then None else job_of h c.state) e

-- a turn of a handler, by its job
pub data TurnCases (h : ℕ) (x y : PlainWorld) : Type 0 where
  Idles : job_of h x.center.state ≡ None → y ≡ x → TurnCases h x y
  Goes : (j : Job) → job_of h x.center.state ≡ Some j → Makes 1 h j 1 x y → TurnCases h x y

pub cases_turn : (h : ℕ) (x y : PlainWorld) → x.center.out h ≡ None → IsTurn h x y → TurnCases h x y
cases_turn h x y none turn = by (pick_for h x.center) refl turn
  where
    by : (o : Option Job) → pick_for h x.center ≡ o → TurnsUnder h o x y → TurnCases h x y
    by None e same = Idles (sym (pick_is h x.center none) ∙ e) same
    by (Some j) e makes = Goes j (sym (pick_is h x.center none) ∙ e) makes

pub turn_of_job : (h : ℕ) (j : Job) (x y : PlainWorld) → x.center.out h ≡ None → job_of h x.center.state ≡ Some j → Makes 1 h j 1 x y → IsTurn h x y
turn_of_job h j x y none due makes = subst (λ (o : Option Job). TurnsUnder h o x y) (sym (pick_is h x.center none ∙ due)) makes

no_job : (o : Option Job) → is_some o ≡ false → o ≡ None
no_job None e = refl
no_job (Some j) e = cc

-- which handlers there are, and what they are, when one is picked
pub picked_count : (h : ℕ) (j : Job) (c : Center) → (picked h j c).state.count ≡ c.state.count
picked_count h j c = refl

module _ (turn_alike : KeptAlikeTurnAlike) (open_of : OpeningsAreOf) (stay : RunsStayOf) (p : Image) (v : Version) where
  abbrev pub limit : ℕ
  limit = most_handlers v

  pub is_of : (w : PlainWorld) → IsPlayed p v w → IsOf p limit w
  is_of w played = stay p limit played.0 (opened p v) w (open_of p v) played.1

  pub plays_on : (h : ℕ) (w x : PlainWorld) → IsPlayed p v w → IsTurn h w x → IsPlayed p v x
  plays_on h w x played turn = (played.0 ++ h ∷ [], runs-more played.0 h (opened p v) w x played.1 turn)

  -- the same turn from another world of which the same is kept
  pub turn_from : (h : ℕ) (k l : PlainKept) (u : PlainWorld) → Turn p v h k l → IsPlayed p v u → kept u ≡ k → TurnsTo h u l
  turn_from h k l u t played same =
      let to = turn_alike p limit t.before u (record { of = is_of t.before t.played; its = is_of u played; same = t.kept_before ∙ sym same }) h t.after t.turn in
      record { after = to.after; turn = to.turn; kept = to.kept ∙ t.kept_after }

  -- what the handler has to do
  pub job_is : (h : ℕ) (k : PlainKept) (u : PlainWorld) → kept u ≡ k → job_of h u.center.state ≡ job_of h k.state
  job_is h k u same = sym (job_canon h u.center.state) ∙ ap (λ (m : PlainKept). job_of h m.state) same

  pub out_none : (h : ℕ) (w : PlainWorld) → IsPlayed p v w → w.center.out h ≡ None
  out_none h w played = (is_of w played).nobody_out h

  idles : (h : ℕ) (k : PlainKept) → IsReached p v k → has_turn h k ≡ false → Turn p v h k k
  idles h k r e =
      let none : job_of h r.world.center.state ≡ None = job_is h k r.world r.kept_is ∙ no_job (job_of h k.state) e in
      record {
        before = r.world;
        after = r.world;
        played = r.played;
        kept_before = r.kept_is;
        turn = subst (λ (o : Option Job). TurnsUnder h o r.world r.world) (sym (pick_is h r.world.center (out_none h r.world r.played) ∙ none)) refl;
        kept_after = r.kept_is;
      }

  reaches : (h : ℕ) (k l : PlainKept) → IsReached p v k → Turn p v h k l → IsReached p v l
  reaches h k l r t = record { world = t.after; played = plays_on h t.before t.after t.played t.turn; kept_is = t.kept_after }

  fails_still : (h : ℕ) (k l : PlainKept) → has_failed k ≡ true → Turn p v h k l → has_failed l ≡ true
  fails_still h k l e t =
      ap has_failed (sym t.kept_after) ∙ after (cases_turn h t.before t.after (out_none h t.before t.played) t.turn)
    where
      was : has_failed (kept t.before) ≡ true
      was = ap has_failed t.kept_before ∙ e

      after : TurnCases h t.before t.after → has_failed (kept t.after) ≡ true
      after (Idles none same) = ap (λ (w : PlainWorld). has_failed (kept w)) same ∙ was
      after (Goes j due makes) =
          ap (λ (c : Center). has_failed (kept (record t.before { center = c }))) makes.settles.center
          ∙ failed_stays t.before.most h 1 j j makes.settles.outcome.want (picked h j t.before.center).state t.before.center.state due refl refl was

  module _ (s : System) (root : Root) (one_run : RunsAreFunctional) (faultless : IsFaultless s root) (well : WellFormed s) (program : IsProgramOf s root p) (fits : FitsRequests p) where
    leads_to_one : (h : ℕ) (k l m : PlainKept) → Turn p v h k l → Turn p v h k m → l ≡ m
    leads_to_one h k l m t u =
        let to = turn_from h k l u.before t u.played u.kept_before in
        let played = u.played in
        let same : to.after ≡ u.after =
        one_run s root faultless well p v (played.0 ++ h ∷ []) to.after u.after program fits
        (runs-more played.0 h (opened p v) u.before to.after played.1 to.turn) (runs-more played.0 h (opened p v) u.before u.after played.1 u.turn) in
        sym to.kept ∙ ap kept same ∙ u.kept_after

    pub kept_machine : IsMachine (Turn p v) has_turn has_failed (IsReached p v)
    kept_machine = record { one = leads_to_one; idle = idles; reached = reaches; stays_bad = fails_still }

    -- a machine in which nothing ends a search
    pub whole_machine : IsMachine (Turn p v) has_turn never (IsReached p v)
    whole_machine = record { one = leads_to_one; idle = idles; reached = reaches; stays_bad = λ h x y e t. e }
