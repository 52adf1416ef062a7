-- Movers are movers: their turns commute with those of others.
use Rattle.std.proofs.Common.{◌≡◌, ◌∙◌, ◌==◌, ◌&&◌, ℕ, Bool, true, false, Option, Some, None, refl, sym, ap}
use Rattle.std.specs.Prelude.{if◌then◌else◌, is_some}
use Rattle.std.proofs.Math.Path.{fun_ext}
use Rattle.std.proofs.lemmas.Bool.{ne_eqb}
use Rattle.sc_lockpass.specs.declared.version.Version.{Version}
use Rattle.sc_code.specs.declared.program.Image.{Image}
use Rattle.sc_region.specs.declared.job.Job.{Job}
use Rattle.sc_lockpass.specs.Rights.{is_among}
use Rattle.sc_handler.specs.Changes.{session_ended}
use Rattle.sc_handler.specs.Handlers.{Handler, State}
use Rattle.sc_handler.specs.Canonical.{canon}
use Rattle.sc_handler.specs.Picking.{job_of}
use Rattle.sc_play.specs.Contents.{Contents, contents_at}
use Rattle.sc_orders.specs.Movers.{AreMovers, Commute, Meet, ShowsBad}
use Rattle.sc_world.specs.Kept.{KeptAlikeTurnAlike, OpeningsAreOf, PlainKept, RunsStayOf, TurnsTo, kept}
use Rattle.sc_world.specs.Turning.{IsTurn, Makes}
use Rattle.sc_world.specs.Worlds.{PlainWorld}
use Rattle.sc_refines_world.specs.Anew.{IsPlayed}
use Rattle.sc_refines_world.specs.Functional.{RunsAreFunctional}
use Rattle.sc_movers.specs.Kept.{IsReached, Turn, has_failed, has_turn, never, some_below}
use Rattle.sc_movers.specs.Movers.{IsMover, IsMoverTurn, StaysSeen, TurnsAreMovers}
use Rattle.sc_movers.specs.Returned.{AllReturnOwn, AllUnlentWait, IdleHasNoTop, IdleHaveNoTops, NoIdleIsPushed, ReturnsAreOwn, ReturnsOwn, UnlentWait, UnlentWaits}
use Rattle.sc_movers.proofs.ChangedStates.{changed, true_false}
use Rattle.sc_movers.proofs.Kept.{Goes, Idles, TurnCases, cases_turn, is_of, job_is, kept_machine, out_none, plays_on, turn_from, turn_of_job, whole_machine}
use Rattle.sc_movers.proofs.MoveChanges.{AreThere, Move, change, failure_so, for, heard_at, hears_failure, hears_refused, hears_stage, moved_at, refused_so, sent_as, stage_so, stand_for, stands_as, takes_as, takes_failure, takes_refused, takes_stage}
use Rattle.sc_movers.proofs.MoverTurns.{after_own, after_state, are_there, before_own, both_kept, move, own_after, own_there, same_due, state_moved}

-- ---- movers

none_is_some : {A : Type 0} (o : Option Job) → o ≡ None → is_some o ≡ true → A
none_is_some None e t = cc
none_is_some (Some j) e t = cc

some_job : (o : Option Job) → is_some o ≡ true → (j : Job) × (o ≡ Some j)
some_job None e = true_false (sym e)
some_job (Some j) e = (j, refl)

module _ (turn_alike : KeptAlikeTurnAlike) (open_of : OpeningsAreOf) (stay : RunsStayOf) (p : Image) (v : Version) (returned : ReturnsAreOwn p v) (idle_tops : IdleHaveNoTops p v) (unlent_wait : UnlentWaits p v)
    (one : (h : ℕ) (k l m : PlainKept) → Turn p v h k l → Turn p v h k m → l ≡ m) (bad : PlainKept → Bool)
    (by_state : (k l : PlainKept) → k.state ≡ l.state → bad k ≡ bad l)
    (by_changed : (g : ℕ) (m : Move) (s : State) (c : ℕ → Contents) →
    bad (record { state = canon (changed (change g m) s); regions = c }) ≡ bad (record { state = canon s; regions = c })) where
  abbrev Meets : ℕ → ℕ → PlainKept → PlainKept → Type 0
  Meets g h k moved = Meet (Turn p v) has_turn bad (IsReached p v) (IsMover p v) g h k moved

  -- the mover's turn, between kept states
  own_turn : (g : ℕ) (k : PlainKept) → (o : IsMover p v g k) → Turn p v g k (kept o.after)
  own_turn g k o = record {
    before = o.before;
    after = o.after;
    played = o.played;
    kept_before = o.kept_is;
    turn = turn_of_job g o.own.job o.before o.after (out_none turn_alike open_of stay p v g o.before o.played) o.own.due o.own.makes;
    kept_after = refl;
  }

  own_played : (g : ℕ) (k : PlainKept) → (o : IsMover p v g k) → IsPlayed p v o.after
  unfolding own_turn
  own_played g k o = plays_on turn_alike open_of stay p v g o.before o.after o.played (own_turn g k o).turn

  has : (g : ℕ) (k : PlainKept) → IsReached p v k → bad k ≡ false → IsMover p v g k → has_turn g k ≡ true
  has g k r good o = ap is_some (sym (job_is turn_alike open_of stay p v g k o.before o.kept_is) ∙ o.own.due)

  are : (g : ℕ) (k : PlainKept) → (o : IsMover p v g k) → AreThere g (move g o.before o.after o.own) o.before.center.state
  are g k o = are_there g o.before o.after o.own (is_of turn_alike open_of stay p v o.before o.played).counted.rights (unlent_wait o.before o.played)

  module _ (g h : ℕ) (k moved : PlainKept) (meet : Meets g h k moved) where
    abbrev o : IsMover p v g k
    o = meet.mover

    abbrev own_are : AreThere g (move g o.before o.after o.own) o.before.center.state
    own_are = are g k o

    abbrev tops : IdleHasNoTop o.before.center.state
    tops = idle_tops o.before o.played

    abbrev unlent : UnlentWait o.before.center.state
    unlent = unlent_wait o.before o.played

    played_moved : IsPlayed p v o.after
    played_moved = own_played g k o

    kept_moved : kept o.after ≡ moved
    kept_moved = one g k (kept o.after) moved (own_turn g k o) meet.turn

    -- the other's job in the world before the mover's turn
    due_there : (j : Job) × (job_of h o.before.center.state ≡ Some j)
    due_there = some_job (job_of h o.before.center.state) (ap is_some (job_is turn_alike open_of stay p v h k o.before o.kept_is) ∙ meet.turn_of)

    -- it has it after the mover's turn, too
    still_due : (j : Job) → job_of h o.before.center.state ≡ Some j → job_of h o.after.center.state ≡ Some j
    still_due j due = same_due g h meet.differ j o.before o.after o.own own_are tops unlent due

    leaves : has_turn h moved ≡ true
    leaves = ap is_some (sym (job_is turn_alike open_of stay p v h moved o.after kept_moved) ∙ still_due due_there.0 due_there.1)

    -- the other's turn from the world before the mover's, with its job
    pub record OtherTurn (other : PlainKept) : Type 0 where
      pub job : Job
      pub world : PlainWorld
      pub due : job_of h o.before.center.state ≡ Some job
      pub makes : Makes 1 h job 1 o.before world
      pub turn : IsTurn h o.before world
      pub kept_is : kept world ≡ other

    other_turn : (other : PlainKept) → Turn p v h k other → OtherTurn other
    other_turn other t =
        let to : TurnsTo h o.before other = turn_from turn_alike open_of stay p v h k other o.before t o.played o.kept_is in
        by to.after to.turn to.kept (cases_turn h o.before to.after (out_none turn_alike open_of stay p v h o.before o.played) to.turn)
      where
        by : (y : PlainWorld) → IsTurn h o.before y → kept y ≡ other → TurnCases h o.before y → OtherTurn other
        by y turn same (Idles none is) = none_is_some (job_of h k.state) (sym (job_is turn_alike open_of stay p v h k o.before o.kept_is) ∙ none) meet.turn_of
        by y turn same (Goes j due makes) = record { job = j; world = y; due = due; makes = makes; turn = turn; kept_is = same }

    its_own : (other : PlainKept) → (there : OtherTurn other) → ReturnsOwn h there.job there.makes.settles.outcome.want o.before.center.state
    its_own other there = returned h there.job o.before there.world o.played there.due there.makes

    commutes : (other : PlainKept) → Turn p v h k other → Commute (Turn p v) (IsMover p v) g h moved other
    commutes other t =
        let there = other_turn other t in
        let known = its_own other there in
        let last = after_own g h meet.differ there.job o.before o.after o.own own_are tops unlent there.due there.world there.makes known in
        let own = own_after g h meet.differ there.job o.before o.after o.own own_are tops unlent there.due there.world there.makes known in
        let is_own = own_there g h meet.differ there.job o.before o.after o.own own_are tops unlent there.due there.world there.makes known in
        let played_other = plays_on turn_alike open_of stay p v h o.before there.world o.played there.turn in
        let mover : IsMover p v g other = record { before = there.world; after = own.world; played = played_other; kept_is = there.kept_is; own = is_own } in
        record {
          both = kept own.world;
          mover = mover;
          turn = own_turn g other mover;
          other_turn = record {
            before = o.after;
            after = last.world;
            played = played_moved;
            kept_before = kept_moved;
            turn = turn_of_job h there.job o.after last.world (out_none turn_alike open_of stay p v h o.after played_moved) (still_due there.job there.due) last.makes;
            kept_after = sym (both_kept g h meet.differ there.job o.before o.after o.own own_are tops unlent there.due there.world there.makes known (idle_tops there.world played_other));
          };
        }

    shows : (other : PlainKept) → Turn p v h k other → bad other ≡ true → ShowsBad (Turn p v) bad h moved
    shows other t is_bad =
        let there = other_turn other t in
        let known = its_own other there in
        let last = after_own g h meet.differ there.job o.before o.after o.own own_are tops unlent there.due there.world there.makes known in
        let state = after_state g h meet.differ there.job o.before o.after o.own own_are tops unlent there.due there.world there.makes known in
        let m : Move = move g o.before o.after o.own in
        let after : PlainKept = record { state = canon (changed (change g m) there.world.center.state); regions = contents_at there.world.regions } in
        record {
          world = kept last.world;
          turn = record {
            before = o.after;
            after = last.world;
            played = played_moved;
            kept_before = kept_moved;
            turn = turn_of_job h there.job o.after last.world (out_none turn_alike open_of stay p v h o.after played_moved) (still_due there.job there.due) last.makes;
            kept_after = refl;
          };
          is_bad =
              by_state (kept last.world) after (ap canon state)
              ∙ by_changed g m there.world.center.state (contents_at there.world.regions)
              ∙ ap bad there.kept_is ∙ is_bad;
        }

    goes : (after : PlainKept) → Turn p v h moved after → (other : PlainKept) × Turn p v h k other
    goes after t =
        let to : TurnsTo h o.after after = turn_from turn_alike open_of stay p v h moved after o.after t played_moved kept_moved in
        by to.after (cases_turn h o.after to.after (out_none turn_alike open_of stay p v h o.after played_moved) to.turn)
      where
        by : (y : PlainWorld) → TurnCases h o.after y → (other : PlainKept) × Turn p v h k other
        by y (Idles none is) = let no : Some due_there.0 ≡ None = sym (still_due due_there.0 due_there.1) ∙ none in cc
        by y (Goes j due makes) =
            let was = due_there.1 ∙ sym (still_due due_there.0 due_there.1) ∙ due in
            let first = before_own g h meet.differ j o.before o.after o.own own_are tops unlent was y makes in (
              kept first.world,
              record {
                before = o.before;
                after = first.world;
                played = o.played;
                kept_before = o.kept_is;
                turn = turn_of_job h j o.before first.world (out_none turn_alike open_of stay p v h o.before o.played) was first.makes;
                kept_after = refl;
              },
            )

  are_movers : AreMovers (Turn p v) has_turn bad (IsReached p v) (IsMover p v)
  are_movers = record {
    has = has;
    leaves = leaves;
    commute = λ g h k moved other meet t good. commutes g h k moved meet other t;
    shows = λ g h k moved other meet t is_bad. shows g h k moved meet other t is_bad;
    goes = λ g h k moved after meet t. goes g h k moved meet after t;
  }

-- ---- what is seen

seen : (g : ℕ) (x y : PlainWorld) → IdleHasNoTop x.center.state → IsMoverTurn g x y → StaysSeen g x y
seen g x y tops own =
    let same = state_moved g x y own tops in
    let m : Move = move g x y own in
    let t : State = x.center.state in
    let takes : ℕ → Bool = λ k. m.takes && k == g in
    let at : ℕ → Handler = λ k. moved_at g m k (t.handlers k) in
    record {
      count = ap (λ (s : State). s.count) same;
      failure = λ k.
          ap (λ (s : State). (s.handlers k).failure) same ∙ hears_failure (heard_at k m.answers) (takes_as (takes k) (at k)) ∙ takes_failure (takes k) (at k)
          ∙ failure_so (stand_for g k m.stand) (m.ends && is_among k m.frees) (for k m.sent) (t.handlers k);
      refused = λ k.
          ap (λ (s : State). (s.handlers k).refused) same ∙ hears_refused (heard_at k m.answers) (takes_as (takes k) (at k)) ∙ takes_refused (takes k) (at k)
          ∙ refused_so (stand_for g k m.stand) (m.ends && is_among k m.frees) (for k m.sent) (t.handlers k);
      others = λ k apart.
          ap (λ (s : State). (s.handlers k).stage) same
          ∙ hears_stage (heard_at k m.answers) (takes_as (takes k) (at k)) ∙ takes_stage (takes k) (at k)
          ∙ ap (λ (b : Bool). (stands_as (if b then m.stand else None) (session_ended (m.ends && is_among k m.frees) (sent_as (for k m.sent) (t.handlers k)))).stage) (ne_eqb k g apart)
          ∙ stage_so (m.ends && is_among k m.frees) (for k m.sent) (t.handlers k);
    }

failed_by_state : (k l : PlainKept) → k.state ≡ l.state → has_failed k ≡ has_failed l
failed_by_state k l e = ap (λ (s : State). some_below s.count (λ h. is_some (s.handlers h).failure)) e

failed_by_change : (g : ℕ) (m : Move) (s : State) (c : ℕ → Contents) →
    has_failed (record { state = canon (changed (change g m) s); regions = c }) ≡ has_failed (record { state = canon s; regions = c })
failed_by_change g m s c =
    ap (some_below s.count) (fun_ext (λ (k : ℕ). ap is_some (
    hears_failure (heard_at k m.answers) (takes_as (m.takes && k == g) (moved_at g m k (s.handlers k))) ∙ takes_failure (m.takes && k == g) (moved_at g m k (s.handlers k))
    ∙ failure_so (stand_for g k m.stand) (m.ends && is_among k m.frees) (for k m.sent) (s.handlers k))))

pub turns_are_movers : KeptAlikeTurnAlike → OpeningsAreOf → RunsStayOf → RunsAreFunctional → AllReturnOwn → NoIdleIsPushed → AllUnlentWait → TurnsAreMovers
turns_are_movers turn_alike open_of stay one_run return_own idle_pushed unlent_wait s root faultless well p v program fits =
    let machine = kept_machine turn_alike open_of stay p v s root one_run faultless well program fits in
    let whole = whole_machine turn_alike open_of stay p v s root one_run faultless well program fits in
    let returned = return_own s root faultless well p v program fits in
    let tops = idle_pushed s root faultless well p v program fits in
    let unlent = unlent_wait s root faultless well p v program fits in
    record {
      machine = machine;
      movers = are_movers turn_alike open_of stay p v returned tops unlent machine.one has_failed failed_by_state failed_by_change;
      whole_machine = whole;
      movers_anywhere = are_movers turn_alike open_of stay p v returned tops unlent machine.one never (λ k l e. refl) (λ g m s c. refl);
      played = own_played turn_alike open_of stay p v returned tops unlent machine.one never (λ k l e. refl) (λ g m s c. refl);
      turn = own_turn turn_alike open_of stay p v returned tops unlent machine.one never (λ k l e. refl) (λ g m s c. refl);
      stays = λ g k m. seen g m.before m.after (tops m.before m.played) m.own;
    }
