-- Worlds that are loaded, and the worlds that were reached.
use Rattle.std.proofs.Common.{◌≡◌, ◌⊎◌, ◌≤◌, ◌<◌, ◌+◌, ◌++◌, ◌∷◌, [], ◌∙◌, ℕ, true, List, Option, Some, None, get_or, is_some, length, slice_get, refl, sym, ap, subst, append_assoc}
use Rattle.std.proofs.lemmas.List.{append-nil}
use Rattle.std.proofs.lemmas.Option.{get_or_from_slice_get}
use Rattle.sc_lockpass.specs.Versions.{most_handlers}
use Rattle.sc_lockpass.specs.declared.version.Version.{Version}
use Rattle.sc_model.specs.declared.status.Status.{Status}
use Rattle.sc_code.specs.declared.program.Image.{Image}
use Rattle.sc_region.specs.declared.job.Job.{Job}
use Rattle.sc_handler.specs.Canonical.{canon}
use Rattle.sc_request.specs.Logs.{pick_for}
use Rattle.sc_play.specs.Regions.{PlainRegion}
use Rattle.sc_world.specs.Free.{OpeningsAreLinked, RunsStayLinked}
use Rattle.sc_world.specs.Kept.{AreKeptAlike, IsOf, KeptAlikeReadAlike, KeptAlikeTurnAlike, OpeningsAreOf, PlainKept, RunsStayOf, kept}
use Rattle.sc_world.specs.Reports.{statuses}
use Rattle.sc_world.specs.Turning.{IsTurn, Runs}
use Rattle.sc_world.specs.Worlds.{PlainWorld, opened}
use Rattle.sc_world.proofs.KeptWorlds.{regions_are}
use Rattle.sc_world.proofs.Runs.{runs-more}
use Rattle.sc_search.specs.declared.aims.Aim.{Aim}
use Rattle.sc_search.specs.Aims.{IsMet}
use Rattle.sc_search.specs.Joined.{FollowsAtOnce, GoesOn, GoesOnUpTo}
use Rattle.sc_search.specs.Steps.{Keeps, Tries}
use Rattle.sc_search.specs.Stops.{AreReached, MeetsAfter}
use Rattle.sc_search.specs.Stored.{IsAlikeAfter, IsBacked}
use Rattle.sc_search.specs.Views.{Met}
use Rattle.sc_search.specs.Waiting.{IsPlayed}
use Rattle.sc_search.proofs.Joins.{goes_runs, same_follow, same_ready}
use Rattle.sc_search.proofs.KeptStates.{met_alike}
use Rattle.sc_search.proofs.Reasons.{there_is}
use Rattle.sc_search.proofs.TriedTurns.{plays_on, tries, tries_none}

module _ (open_of : OpeningsAreOf) (stay_of : RunsStayOf) (p : Image) (v : Version) where
  pub of_reached : (order : List ℕ) (w : PlainWorld) → Runs order (opened p v) w → IsOf p (most_handlers v) w
  of_reached order w runs = stay_of p (most_handlers v) order (opened p v) w (open_of p v) runs

  -- the world of a state was reached
  pub backed : (a : Aim) (ks : List PlainKept) (os : List (List ℕ)) (ts : List (List Status)) (turns number : ℕ) → OpeningsAreLinked → RunsStayLinked →
      AreReached p v a ks os ts turns → number < length ks → IsBacked p (most_handlers v) ks number
  backed a ks os ts turns number open_linked stay_linked so there =
      let k = there_is ks number there in
      let r = so.each number k.0 k.1 in
      record {
        world = r.world;
        its = of_reached r.order r.world r.runs;
        linked = stay_linked r.order (opened p v) r.world (open_linked p v) r.runs;
        stands = k.1 ∙ ap (λ (x : PlainKept). Some x) (sym r.kept_is);
      }

  -- a world in the state is kept as the one that the order led to
  pub after_order : (a : Aim) (ks : List PlainKept) (os : List (List ℕ)) (ts : List (List Status)) (turns number : ℕ) (w : PlainWorld) →
      AreReached p v a ks os ts turns → slice_get ks number ≡ Some (kept w) → IsAlikeAfter p v (get_or os number []) w
  after_order a ks os ts turns number w so at =
      let r = so.each number (kept w) at in
      record {
        world = r.world;
        runs = subst (λ (hs : List ℕ). Runs hs (opened p v) r.world) (sym (get_or_from_slice_get os number r.order [] r.stands)) r.runs;
        alike = r.kept_is;
      }

  pub after_opening : (w : PlainWorld) → w ≡ opened p v → IsAlikeAfter p v [] w
  after_opening w same = record { world = opened p v; runs = refl; alike = ap kept (sym same) }

  module _ (alike_turn : KeptAlikeTurnAlike) where
    -- one more turn
    pub after_turn : (order longer : List ℕ) (h : ℕ) (w x : PlainWorld) → longer ≡ order ++ h ∷ [] → IsOf p (most_handlers v) w → IsAlikeAfter p v order w → IsTurn h w x →
        IsAlikeAfter p v longer x
    after_turn order longer h w x same of a turn =
        let t = alike_turn p (most_handlers v) w a.world (record { of = of; its = of_reached order a.world a.runs; same = sym a.alike }) h x turn in
        record {
          world = t.after;
          runs = subst (λ (hs : List ℕ). Runs hs (opened p v) t.after) (sym same) (runs-more order h (opened p v) a.world t.after a.runs t.turn);
          alike = t.kept;
        }

    -- several turns
    pub after_turns : (order turns : List ℕ) (w x : PlainWorld) → IsOf p (most_handlers v) w → IsAlikeAfter p v order w → Runs turns w x → IsAlikeAfter p v (order ++ turns) x
    after_turns order [] w x of a same =
        subst (λ (u : PlainWorld). IsAlikeAfter p v (order ++ []) u) (sym same) (subst (λ (hs : List ℕ). IsAlikeAfter p v hs w) (sym (append-nil order)) a)
    after_turns order (h ∷ hs) w x of a runs =
        subst (λ (gs : List ℕ). IsAlikeAfter p v gs x) (append_assoc order (h ∷ []) hs)
        (after_turns (order ++ h ∷ []) hs runs.0 x (stay_of p (most_handlers v) (h ∷ []) w runs.0 of (runs.0, runs.1, refl))
        (after_turn order (order ++ h ∷ []) h w runs.0 refl of a runs.1) runs.2)

  module _ (alike_read : KeptAlikeReadAlike) where
    -- statuses are those of the world that was reached
    pub same_statuses : (order : List ℕ) (w : PlainWorld) → IsOf p (most_handlers v) w → (a : IsAlikeAfter p v order w) → statuses a.world ≡ statuses w
    same_statuses order w of a =
        (alike_read p (most_handlers v) a.world w (record { of = of_reached order a.world a.runs; its = of; same = a.alike })).statuses

    pub meets_after : (a : Aim) (order : List ℕ) (w : PlainWorld) → IsOf p (most_handlers v) w → IsAlikeAfter p v order w → IsMet a w → MeetsAfter p v a order
    meets_after a order w of after met = record {
      world = after.world;
      runs = after.runs;
      met = met_alike a w after.world (sym after.alike) (sym (same_statuses order w of after)) met;
    }

  -- what is kept of one is kept of the other
  pub keeps_alike : (a : Aim) (w u : PlainWorld) (from : Option ℕ) (turns : ℕ) (x y : Met) → kept w ≡ kept u → statuses w ≡ statuses u → Keeps a u from turns x y →
      Keeps a w from turns x y
  keeps_alike a w u from turns x y alike same k = record {
    among = record { number = k.among.number; stands = k.among.stands ∙ ap (λ (z : PlainKept). Some z) (sym alike) };
    grows = subst (λ (z : PlainKept). (y.states ≡ x.states) ⊎ (y.states ≡ x.states ++ z ∷ [])) (sym alike) k.grows;
    edge = k.edge;
    unmet = λ met. k.unmet (met_alike a w u alike same met);
  }

  module _ (alike_turn : KeptAlikeTurnAlike) (alike_read : KeptAlikeReadAlike) where
    -- what may follow at once in a world may so in one that is kept alike
    follows_alike : (h : ℕ) (x y : PlainWorld) → AreKeptAlike p (most_handlers v) x y → FollowsAtOnce h x → FollowsAtOnce h y
    follows_alike h x y alike asks =
        let wants = asks.wants in
        let states : canon y.center.state ≡ canon x.center.state = ap (λ (k : PlainKept). k.state) (sym alike.same) in
        record {
          job = asks.job;
          due = sym ((alike_read p (most_handlers v) x y alike).jobs h) ∙ asks.due;
          ready = same_ready h asks.job y.center.state x.center.state states ∙ asks.ready;
          region = asks.region;
          stands = ap (λ (rs : List PlainRegion). slice_get rs h) (sym (regions_are p (most_handlers v) x y alike)) ∙ asks.stands;
          wants = record {
            after = wants.after;
            outcome = wants.outcome;
            plays = wants.plays;
            follows = same_follow h asks.job wants.outcome.want y.center.state x.center.state states ∙ wants.follows;
          };
        }

    -- turns that follow at once stay in the program
    of_on : (hs : List ℕ) (x y : PlainWorld) → IsOf p (most_handlers v) x → GoesOn hs x y → IsOf p (most_handlers v) y
    of_on hs x y of on = stay_of p (most_handlers v) hs x y of (goes_runs hs x y on)

    -- they go on alike from a world that was played
    goes_alike : (hs : List ℕ) (x y w : PlainWorld) → IsOf p (most_handlers v) x → IsPlayed p v w → kept w ≡ kept x → GoesOn hs x y → (z : PlainWorld) × GoesOn hs w z × (kept z ≡ kept y)
    goes_alike [] x y w of played same on = (w, refl, same ∙ ap kept (sym on))
    goes_alike (h ∷ hs) x y w of played same on =
        let m = on.1 in
        let alike : AreKeptAlike p (most_handlers v) x w = record { of = of; its = of_reached played.0 w played.1; same = sym same } in
        let t = alike_turn p (most_handlers v) x w alike h m on.2 in
        let there : IsPlayed p v t.after = (played.0 ++ h ∷ [], runs-more played.0 h (opened p v) w t.after played.1 t.turn) in
        let rest = goes_alike hs m y t.after (stay_of p (most_handlers v) (h ∷ []) x m of (m, on.2, refl)) there t.kept on.3 in
        (rest.0, (follows_alike h x w alike on.0, t.after, t.turn, rest.1), rest.2)

    -- a turn in a loaded world, joined with others, is tried
    pub tries_alike : (a : Aim) (joined : ℕ) (order : List ℕ) (number h counted : ℕ) (w m u : PlainWorld) (x y : Met) → IsOf p (most_handlers v) w →
        IsOf p (most_handlers v) m → IsAlikeAfter p v order w → slice_get x.states number ≡ Some (kept w) → is_some (pick_for h w.center) ≡ true → IsTurn h w m →
        (on : GoesOnUpTo joined m u) → 1 + length on.handlers ≤ counted → Keeps a u (Some number) counted x y → Tries p v a joined x y number h
    tries_alike a joined order number h counted w m u x y of its after at job turn on few keeps =
        let start : AreKeptAlike p (most_handlers v) w after.world = record { of = of; its = of_reached order after.world after.runs; same = sym after.alike } in
        let t = alike_turn p (most_handlers v) w after.world start h m turn in
        let has_job : is_some (pick_for h after.world.center) ≡ true = ap (λ (j : Option Job). is_some j) (sym ((alike_read p (most_handlers v) w after.world start).jobs h)) ∙ job in
        let next : IsPlayed p v t.after = (order ++ h ∷ [], runs-more order h (opened p v) after.world t.after after.runs t.turn) in
        let last = goes_alike on.handlers m u t.after its next t.kept on.goes_on in
        let there : IsPlayed p v last.0 = plays_on p v on.handlers t.after last.0 next last.1 in
        let same : statuses last.0 ≡ statuses u =
        (alike_read p (most_handlers v) last.0 u (record { of = of_reached there.0 last.0 there.1; its = of_on on.handlers m u its on.goes_on; same = last.2 })).statuses in
        tries p v a joined order number h counted after.world last.0 x y after.runs (at ∙ ap (λ (z : PlainKept). Some z) (sym after.alike)) has_job
        (record { next = t.after; turn = t.turn; on = record { handlers = on.handlers; few = on.few; goes_on = last.1 } })
        few (keeps_alike a last.0 u (Some number) counted x y last.2 same keeps)

    -- without a job in a loaded world, none is tried
    pub tries_none_alike : (a : Aim) (joined : ℕ) (order : List ℕ) (number h : ℕ) (w : PlainWorld) (x : Met) → IsOf p (most_handlers v) w → IsAlikeAfter p v order w →
        slice_get x.states number ≡ Some (kept w) → pick_for h w.center ≡ None → Tries p v a joined x x number h
    tries_none_alike a joined order number h w x of after at none =
        tries_none p v a joined number h order after.world x
        (record { runs = after.runs; stands = at ∙ ap (λ (z : PlainKept). Some z) (sym after.alike) })
        (sym ((alike_read p (most_handlers v) w after.world (record { of = of; its = of_reached order after.world after.runs; same = sym after.alike })).jobs h) ∙ none)
