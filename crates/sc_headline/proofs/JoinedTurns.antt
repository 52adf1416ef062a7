-- A search that joins turns with others that may follow at once, beside the machine of what is kept.
use Rattle.std.proofs.Common.{◌≡◌, ◌<◌, ◌++◌, ◌∙◌, ◌||◌, inl, inr, ℕ, Bool, true, false, List, [], ◌∷◌, Option, Some, None, get_or, is_some, refl, sym, ap, subst, arith}
use Rattle.std.specs.List.{list_any, range_with_len}
use Rattle.std.specs.Prelude.{map, slice_set}
use Rattle.std.proofs.lemmas.Bool.{cases_lt}
use Rattle.std.proofs.lemmas.List.FromFn.{get_or-map-range_with_len, length-map-range_with_len}
use Rattle.std.proofs.lemmas.List.{get_or_past}
use Rattle.sc_lockpass.specs.Versions.{most_handlers}
use Rattle.sc_lockpass.specs.declared.version.Version.{Version}
use Rattle.sc_model.specs.declared.cause.Cause.{Cause}
use Rattle.sc_model.specs.declared.status.Status.{Status}
use Rattle.sc_model.specs.declared.status.Status.TheVariants.{Free}
use Rattle.sc_code.specs.declared.program.Image.{Image}
use Rattle.sc_region.specs.declared.job.Job.{Job}
use Rattle.sc_handler.specs.Handlers.{HandlerStage, State}
use Rattle.sc_handler.specs.Picking.{job_of, status_with}
use Rattle.sc_counts.proofs.Jobs.{job_canon}
use Rattle.sc_request.specs.Logs.{picked, settles, status_in}
use Rattle.sc_play.specs.Contents.{contents_at}
use Rattle.sc_orders.specs.Movers.{AreClosed, FindAll, IsStable, Kept, LeadsTo, Moved}
use Rattle.sc_orders.specs.Orders.{Leads, NeverMoves}
use Rattle.sc_orders.proofs.Movers.{closed_find_all}
use Rattle.sc_orders.proofs.Orders.{leads_split, never_at_all, one_end}
use Rattle.sc_world.specs.Kept.{IsOf, KeptAlikeReadAlike, OpeningsAreOf, PlainKept, RunsStayOf, kept}
use Rattle.sc_world.specs.Reports.{statuses}
use Rattle.sc_world.specs.Turning.{IsTurn}
use Rattle.sc_world.specs.Worlds.{PlainWorld, opened}
use Rattle.sc_world.proofs.Runs.{runs-more}
use Rattle.sc_refines_world.specs.Anew.{IsPlayed, RunsAnew}
use Rattle.sc_movers.specs.Kept.{IsReached, Turn, has_turn, never}
use Rattle.sc_movers.specs.Movers.{IsMover, Movers, StaysSeen}
use Rattle.sc_movers.proofs.Kept.{pick_is}
use Rattle.sc_search.specs.declared.aims.Aim.{Aim}
use Rattle.sc_search.specs.declared.aims.Aim.TheVariants as aim
use Rattle.sc_search.specs.Aims.{AreStuck, HasFailed, HasRefused, IsMet, tells_failure}
use Rattle.sc_search.specs.Closed.{IsAmong, IsClosed, IsTried}
use Rattle.sc_search.specs.Joined.{FollowsAtOnce, GoesOn}
use Rattle.sc_search.specs.Waiting.{AreMoving, IsAnewTurn, seeks_stuck}
use Rattle.sc_search.proofs.Waits.{idle_job}
use Rattle.sc_headline.proofs.Statuses.{busy_at, busy_needs, failed_alike, failures_alike, is_busy, is_waiting, moves_under, none_busy, waiting_is, waits_at}

abbrev state_of : PlainKept → State
state_of k = k.state

module _ (alike : KeptAlikeReadAlike) (open_of : OpeningsAreOf) (stay : RunsStayOf) (p : Image) (v : Version) where
  of_program : (w : PlainWorld) → IsPlayed p v w → IsOf p (most_handlers v) w
  of_program w played = stay p (most_handlers v) played.0 (opened p v) w (open_of p v) played.1

  -- they are those of each world with the same state
  by_state : (w u : PlainWorld) → IsPlayed p v w → IsPlayed p v u → (kept w).state ≡ (kept u).state → statuses w ≡ statuses u
  by_state w u played its same =
      let of = of_program w played in
      let its_of = of_program u its in
      let beside : PlainWorld = record u { regions = w.regions } in
      (alike p (most_handlers v) w beside (record {
        of = of;
        its = record {
          most = its_of.most;
          few = its_of.few;
          nobody_out = its_of.nobody_out;
          places = of.places;
          programs = of.programs;
          counted = its_of.counted;
        };
        same = λ i. record { state = same i; regions = contents_at w.regions };
      })).statuses

  met_by_state : (a : Aim) (w u : PlainWorld) → (kept w).state ≡ (kept u).state → statuses w ≡ statuses u → IsMet a w → IsMet a u
  met_by_state aim.Stuck w u state same met = subst AreStuck same met
  met_by_state aim.Fails w u state same met = subst HasFailed same met
  met_by_state aim.Refused w u state same met = subst HasRefused state met
  met_by_state aim.Any w u state same (inl stuck) = inl (subst AreStuck same stuck)
  met_by_state aim.Any w u state same (inr (inl failed)) = inr (inl (subst HasFailed same failed))
  met_by_state aim.Any w u state same (inr (inr refused)) = inr (inr (subst HasRefused state refused))

  idle_has_none : (h : ℕ) (w : PlainWorld) → IsPlayed p v w → busy_at h w ≡ false → has_turn h (kept w) ≡ false
  idle_has_none h w played idle =
      ap is_some (job_canon h w.center.state ∙ sym (pick_is h w.center ((of_program w played).nobody_out h)) ∙ idle_job p v aim.Any w h idle)

  busy_has : (h : ℕ) (w : PlainWorld) → IsPlayed p v w → busy_at h w ≡ true → has_turn h (kept w) ≡ true
  busy_has h w played busy = elim (cases_lt h w.center.state.count) [
    | inl few ↦
        let at : get_or (statuses w) h Free ≡ status_in h w.center =
        get_or-map-range_with_len (λ (k : ℕ). status_in k w.center) 0 w.center.state.count h h Free few (omega arith) in
        let some : (is_some (w.center.out h) || is_some (job_of h w.center.state)) ≡ true =
        busy_needs (w.center.state.handlers h).failure (is_some (w.center.out h) || is_some (job_of h w.center.state)) (w.center.state.handlers h).stage
        (sym (ap is_busy at) ∙ busy) in
        ap is_some (job_canon h w.center.state)
        ∙ ap (λ (o : Option Job). is_some o || is_some (job_of h w.center.state)) (sym ((of_program w played).nobody_out h)) ∙ some
    | inr past ↦
        let none : get_or (statuses w) h Free ≡ Free =
        get_or_past (statuses w) h Free (omega (arith, past, length-map-range_with_len (λ (k : ℕ). status_in k w.center) 0 w.center.state.count)) in
        let no : true ≡ false = sym busy ∙ ap is_busy none in
        cc
  ]

  -- ---- turns between what is kept

  module _ (own : Movers p v) where
    one : (h : ℕ) (k l m : PlainKept) → Turn p v h k l → Turn p v h k m → l ≡ m
    one = own.whole_machine.one

    turn_kept : (h : ℕ) (x y : PlainWorld) → IsPlayed p v x → IsTurn h x y → Turn p v h (kept x) (kept y)
    turn_kept h x y played turn = record { before = x; after = y; played = played; kept_before = refl; turn = turn; kept_after = refl }

    plays : (h : ℕ) (k l : PlainKept) → (t : Turn p v h k l) → IsPlayed p v t.after
    plays h k l t = (t.played.0 ++ h ∷ [], runs-more t.played.0 h (opened p v) t.before t.after t.played.1 t.turn)

    -- each in a world that is played anew
    anew_kept : (hs : List ℕ) (x : PlainWorld) (l : PlainKept) → IsPlayed p v x → Leads (Turn p v) hs (kept x) l →
        (y : PlainWorld) × IsPlayed p v y × RunsAnew p v hs x y × (kept y ≡ l)
    anew_kept [] x l played same = (x, played, (played, refl), sym same)
    anew_kept (h ∷ hs) x l played leads =
        let t = leads.1 in
        let rest = anew_kept hs t.after l (plays h (kept x) leads.0 t) (subst (λ (k : PlainKept). Leads (Turn p v) hs k l) (sym t.kept_after) leads.2) in
        (rest.0, rest.1, (t.before, t.after, t.played, t.kept_before, t.turn, rest.2), rest.3)

    kept_leads : (hs : List ℕ) (x y : PlainWorld) → Leads (IsAnewTurn p v) hs x y → Leads (Turn p v) hs (kept x) (kept y)
    kept_leads [] x y same = ap kept same
    kept_leads (h ∷ hs) x y leads =
        let t = leads.1 in (
          kept leads.0,
          record { before = t.before; after = leads.0; played = t.played; kept_before = t.alike; turn = t.turn; kept_after = refl },
          kept_leads hs leads.0 y leads.2,
        )

    anew_played : (hs : List ℕ) (x y : PlainWorld) → IsPlayed p v x → Leads (IsAnewTurn p v) hs x y → IsPlayed p v y
    anew_played [] x y played same = subst (IsPlayed p v) (sym same) played
    anew_played (h ∷ hs) x y played leads =
        let t = leads.1 in
        anew_played hs leads.0 y (t.played.0 ++ h ∷ [], runs-more t.played.0 h (opened p v) t.before leads.0 t.played.1 t.turn) leads.2

    -- a turn that may follow at once
    follows_mover : (h : ℕ) (x : PlainWorld) → IsPlayed p v x → FollowsAtOnce h x → IsMover p v h (kept x)
    follows_mover h x played asks =
        let wants = asks.wants in
        let few = wants.plays.few in
        let some = wants.plays.some in
        record {
          before = x;
          after = record {
            most = x.most;
            center = settles x.most h asks.job 1 wants.outcome.want (picked h asks.job x.center);
            regions = slice_set x.regions h wants.after;
          };
          played = played;
          kept_is = refl;
          own = record {
            job = asks.job;
            due = sym (pick_is h x.center ((of_program x played).nobody_out h)) ∙ asks.due;
            makes = record {
              before = asks.region;
              after = wants.after;
              stands = asks.stands;
              settles = record { outcome = wants.outcome; count = omega (arith, few, some); plays = wants.plays; center = refl };
              regions = refl;
              most = refl;
            };
            moves = moves_under h asks.job wants.outcome.want x.center.state asks.ready wants.follows;
          };
        }

    -- ---- what a mover leaves

    module _ (g : ℕ) (k l : PlainKept) (o : IsMover p v g k) (t : Turn p v g k l) where
      kept_after : kept o.after ≡ l
      kept_after = one g k (kept o.after) l (own.turn g k o) t

      seen : StaysSeen g o.before o.after
      seen = own.stays g k o

      -- it has a turn
      has_one : has_turn g (kept o.before) ≡ true
      has_one = ap is_some (job_canon g o.before.center.state ∙ o.own.due)

      is_busy_there : busy_at g o.before ≡ true
      is_busy_there = by (busy_at g o.before) refl
        where
          by : (b : Bool) → busy_at g o.before ≡ b → busy_at g o.before ≡ true
          by true e = e
          by false e = let no : true ≡ false = sym has_one ∙ idle_has_none g o.before o.played e in cc

      not_stuck : {A : Type 0} → AreStuck (statuses o.before) → A
      not_stuck stuck = let no : true ≡ false = sym is_busy_there ∙ none_busy _ (statuses o.before) g stuck.idle refl in cc

      failed_stays : HasFailed (statuses o.before) → HasFailed (statuses o.after)
      failed_stays failed =
          ap (λ (n : ℕ). tells_failure aim.Fails (map (λ h. status_in h o.after.center) (range_with_len 0 n))) seen.count
          ∙ failures_alike (λ h. status_in h o.after.center) (λ h. status_in h o.before.center) (λ h. failed_alike
          (is_some (o.after.center.out h) || is_some (job_of h o.after.center.state)) (is_some (o.before.center.out h) || is_some (job_of h o.before.center.state))
          (o.after.center.state.handlers h).stage (o.before.center.state.handlers h).stage
          (o.after.center.state.handlers h).failure (o.before.center.state.handlers h).failure (seen.failure h)) (range_with_len 0 o.before.center.state.count)
          ∙ failed

      refused_stays : HasRefused o.before.center.state → HasRefused o.after.center.state
      refused_stays refused =
          let there = refused.there in
          let some = refused.some in
          record { handler = refused.handler; there = omega (arith, there, seen.count); some = omega (arith, some, seen.refused refused.handler) }

      met_stays : (a : Aim) → IsMet a o.before → IsMet a o.after
      met_stays aim.Stuck stuck = not_stuck stuck
      met_stays aim.Fails failed = failed_stays failed
      met_stays aim.Refused refused = refused_stays refused
      met_stays aim.Any (inl stuck) = not_stuck stuck
      met_stays aim.Any (inr (inl failed)) = inr (inl (failed_stays failed))
      met_stays aim.Any (inr (inr refused)) = inr (inr (refused_stays refused))

      -- a handler that waits, and has no turn after it either, still waits
      waits_after : (h : ℕ) → has_turn h k ≡ false → has_turn h l ≡ false → waits_at h o.before ≡ true → waits_at h o.after ≡ true
      waits_after h none still waits =
          let x = o.before in
          let y = o.after in
          let was = waiting_is h x waits in
          let apart : h ≡ g → ⊥ = λ same.
          let no : true ≡ false = sym has_one ∙ ap (λ (n : ℕ). has_turn n (kept x)) (sym same) ∙ ap (has_turn h) o.kept_is ∙ none in cc in
          let no_job : is_some (job_of h y.center.state) ≡ false = sym (ap is_some (job_canon h y.center.state)) ∙ ap (has_turn h) kept_after ∙ still in
          let out : y.center.out h ≡ None = (of_program y (own.played g k o)).nobody_out h in
          let there = was.0 in
          let few : h < y.center.state.count = omega (arith, there, seen.count) in
          ap is_waiting (get_or-map-range_with_len (λ (i : ℕ). status_in i y.center) 0 y.center.state.count h h Free few (omega arith))
          ∙ ap (λ (b : Bool). is_waiting (status_with (y.center.state.handlers h).failure b (y.center.state.handlers h).stage))
          (ap (λ (m : Option Job). is_some m || is_some (job_of h y.center.state)) out ∙ no_job)
          ∙ ap (λ (c : Option Cause). is_waiting (status_with c false (y.center.state.handlers h).stage)) (seen.failure h ∙ was.1)
          ∙ ap (λ (z : HandlerStage). is_waiting (status_with None false z)) (seen.others h apart)
          ∙ was.2

    -- ---- states that are closed

    module _ (a : Aim) (ks : List PlainKept) (closed : IsClosed p v a ks) where
      abbrev Chain : PlainKept → Type 0
      Chain k = LeadsTo (Turn p v) never (IsMover p v) (IsAmong ks) k

      leads_on : (hs : List ℕ) (x y : PlainWorld) → IsPlayed p v x → GoesOn hs x y → Chain (kept y) → Chain (kept x)
      leads_on [] x y played same chain = subst (λ (w : PlainWorld). Chain (kept w)) same chain
      leads_on (h ∷ hs) x y played on chain =
          let next : IsPlayed p v on.1 = (played.0 ++ h ∷ [], runs-more played.0 h (opened p v) x on.1 played.1 on.2) in
          Moved (kept x) h (kept on.1) (follows_mover h x played on.0) (turn_kept h x on.1 played on.2) refl (leads_on hs on.1 y next on.3 chain)

      tried : (k : PlainKept) → IsAmong ks k → (h : ℕ) → IsTried p v closed.joined ks k h
      tried k among h = closed.tried among.number k among.stands h

      tried_turn : (k : PlainKept) (among : IsAmong ks k) (h : ℕ) → Turn p v h k (kept (tried k among h).turn.next)
      tried_turn k among h =
          let t = tried k among h in
          record {
            before = t.before;
            after = t.turn.next;
            played = (t.stands_in.handlers, t.stands_in.runs);
            kept_before = t.stands_in.kept;
            turn = t.turn.turn;
            kept_after = refl;
          }

      tried_chain : (k : PlainKept) (among : IsAmong ks k) (h : ℕ) → Chain (kept (tried k among h).turn.next)
      tried_chain k among h =
          let t = tried k among h in
          let hs = t.stands_in.handlers in
          let next : IsPlayed p v t.turn.next = (hs ++ h ∷ [], runs-more hs h (opened p v) t.before t.turn.next t.stands_in.runs t.turn.turn) in
          leads_on t.turn.on.handlers t.turn.next t.after next t.turn.on.goes_on (Kept (kept t.after) t.among)

      are_closed : AreClosed (Turn p v) has_turn never (IsReached p v) (IsMover p v) (kept (opened p v)) (IsAmong ks)
      are_closed = record {
        opens = Kept (kept (opened p v)) closed.opens;
        reached = λ k among.
            let u = closed.unmet among.number k among.stands in
            record { world = u.world; played = (u.stands_in.handlers, u.stands_in.runs); kept_is = u.stands_in.kept };
        good = λ k among. refl;
        goes = λ k among h has. (kept (tried k among h).turn.next, tried_turn k among h);
        good_turns = λ k among h has l t. refl;
        leads = λ k among h has l t. subst Chain (one h k (kept (tried k among h).turn.next) l (tried_turn k among h) t) (tried_chain k among h);
      }

      find : FindAll (Turn p v) never (IsMover p v) (kept (opened p v)) (IsAmong ks)
      find =
          closed_find_all (Turn p v) has_turn never (IsReached p v) own.whole_machine (IsMover p v) own.movers_anywhere (kept (opened p v)) (IsAmong ks) are_closed
          (record { world = opened p v; played = ([], refl); kept_is = refl })

      -- ---- what is looked for

      abbrev ShowsIt : PlainKept → Type 0
      ShowsIt k = (w : PlainWorld) × IsPlayed p v w × (kept w ≡ k) × IsMet a w

      shows_stay : IsStable (Turn p v) (IsMover p v) ShowsIt
      shows_stay g k l shown o t =
          let same : (kept shown.0).state ≡ (kept o.before).state = ap state_of shown.2 ∙ sym (ap state_of o.kept_is) in
          let met = met_by_state a shown.0 o.before same (by_state shown.0 o.before shown.1 o.played same) shown.3 in
          (o.after, own.played g k o, kept_after g k l o t, met_stays g k l o t a met)

      -- no order leads to worlds that all show it
      pub none_shows : (hs : List ℕ) → ((y : PlainWorld) → RunsAnew p v hs (opened p v) y → IsMet a y) → ⊥
      none_shows hs shows =
          let there = find.goes hs in
          let y = anew_kept hs (opened p v) there.0 ([], refl) there.1 in
          let found = find.found ShowsIt shows_stay hs there.0 there.1 (y.0, y.1, y.3, shows y.0 y.2) in
          let w = found.has in
          let u = closed.unmet found.kept.number found.world found.kept.stands in
          let its : IsPlayed p v u.world = (u.stands_in.handlers, u.stands_in.runs) in
          let same : (kept w.0).state ≡ (kept u.world).state = ap state_of (w.2 ∙ sym u.stands_in.kept) in
          u.unmet (met_by_state a w.0 u.world same (by_state w.0 u.world w.1 its same) w.3)

      -- ---- handlers that wait for good

      abbrev WaitsSo : ℕ → PlainKept → Type 0
      WaitsSo h k = (w : PlainWorld) × IsPlayed p v w × (kept w ≡ k) × (waits_at h w ≡ true) × NeverMoves (Turn p v) has_turn h k

      same_status : (h : ℕ) (w u : PlainWorld) → statuses w ≡ statuses u → waits_at h w ≡ true → waits_at h u ≡ true
      same_status h w u same waits = ap (λ (ss : List Status). is_waiting (get_or ss h Free)) (sym same) ∙ waits

      waits_stay : (h : ℕ) → IsStable (Turn p v) (IsMover p v) (WaitsSo h)
      waits_stay h g k l waits o t =
          let same : (kept waits.0).state ≡ (kept o.before).state = ap state_of waits.2 ∙ sym (ap state_of o.kept_is) in
          let never : NeverMoves (Turn p v) has_turn h l =
          λ hs.
          let n = waits.4 (g ∷ hs) in
          (n.0, subst (λ (m : PlainKept). Leads (Turn p v) hs m n.0) (one g k n.1.0 l n.1.1 t) n.1.2, n.2) in
          let now = waits.4 [] in
          let later = never [] in (
            o.after,
            own.played g k o,
            kept_after g k l o t,
            waits_after g k l o t h (ap (has_turn h) (sym now.1) ∙ now.2) (ap (has_turn h) (sym later.1) ∙ later.2)
                (same_status h waits.0 o.before (by_state waits.0 o.before waits.1 o.played same) waits.3),
            never,
          )

      never_moves : (hs : List ℕ) (h : ℕ) (k : PlainKept) → Leads (Turn p v) hs (kept (opened p v)) k →
          ((gs : List ℕ) (y : PlainWorld) → RunsAnew p v (hs ++ gs) (opened p v) y → busy_at h y ≡ false) → NeverMoves (Turn p v) has_turn h k
      never_moves hs h k leads idle gs =
          let all = find.goes (hs ++ gs) in
          let parts = leads_split (Turn p v) hs gs (kept (opened p v)) all.0 all.1 in
          let y = anew_kept (hs ++ gs) (opened p v) all.0 ([], refl) all.1 in (
            all.0,
            subst (λ (m : PlainKept). Leads (Turn p v) gs m all.0) (one_end (Turn p v) one hs (kept (opened p v)) parts.0 k parts.1 leads) parts.2,
            ap (has_turn h) (sym y.3) ∙ idle_has_none h y.0 y.1 (idle gs y.0 y.2),
          )

      -- no order leads to where a handler waits that no further turns give one
      pub none_waits : AreMoving p v a ks → seeks_stuck a ≡ true → (hs : List ℕ) (h : ℕ) →
          ((y : PlainWorld) → RunsAnew p v hs (opened p v) y → waits_at h y ≡ true) →
          ((gs : List ℕ) (y : PlainWorld) → RunsAnew p v (hs ++ gs) (opened p v) y → busy_at h y ≡ false) → ⊥
      none_waits moving seeks hs h waits idle =
          let there = find.goes hs in
          let y = anew_kept hs (opened p v) there.0 ([], refl) there.1 in
          let found = find.found (WaitsSo h) (waits_stay h) hs there.0 there.1 (y.0, y.1, y.3, waits y.0 y.2, never_moves hs h there.0 there.1 idle) in
          let w = found.has in
          let m = moving seeks found.kept.number found.world found.kept.stands in
          let same : (kept w.0).state ≡ (kept m.world).state = ap state_of (w.2 ∙ sym m.kept_is) in
          let on = m.moves h (same_status h w.0 m.world (by_state w.0 m.world w.1 m.played same) w.3) in
          let leads : Leads (Turn p v) on.handlers found.world (kept on.world) =
          subst (λ (k : PlainKept). Leads (Turn p v) on.handlers k (kept on.world)) m.kept_is (kept_leads on.handlers m.world on.world on.leads) in
          let idle_there = never_at_all (Turn p v) one has_turn h found.world w.4 on.handlers (kept on.world) leads in
          let no : true ≡ false = sym (busy_has h on.world (anew_played on.handlers m.world on.world m.played on.leads) on.turn) ∙ idle_there in
          cc
