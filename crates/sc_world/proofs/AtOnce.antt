-- Turns of a handler that are made at once are its turns, one after the other.
use Rattle.std.proofs.Common.{◌≡◌, ◌<◌, ◌≤◌, ◌+◌, ◌==◌, inl, inr, ℕ, zero, suc, Bool, true, false, List, [], ◌∷◌, ◌++◌, Option, Some, None, is_some, replicate, slice_get, slice_set, refl, sym, ap, subst, ◌∙◌, arith}
use Rattle.std.proofs.lemmas.Bool.{eq-eqb}
use Rattle.std.proofs.lemmas.List.{take-replicate}
use Rattle.std.proofs.Math.Path.{fun_ext}
use Rattle.std.specs.Prelude.{if◌then◌else◌}
use Rattle.sc_region.specs.declared.job.Job.{Job}
use Rattle.sc_region.specs.declared.job.Job.TheVariants as job
use Rattle.sc_region.specs.declared.job.Outcome.{Outcome}
use Rattle.sc_region.specs.declared.job.Want.{Want}
use Rattle.sc_region.specs.declared.job.Want.TheVariants as want
use Rattle.sc_region.specs.Stores.{PlainStore}
use Rattle.sc_handler.specs.Fits.{goes_on}
use Rattle.sc_request.specs.Logs.{pick_for, picked, put_back, put_back_with, settles}
use Rattle.sc_play.specs.Regions.{EndsIn, PlainRegion}
use Rattle.sc_play.specs.Turns.{FirstTurn, IsAhead, TurnOf, Turns, first, more}
use Rattle.sc_play.proofs.Programs.{turns_keep}
use Rattle.sc_world.specs.UnderJob.{AreCutShort, MakesAll, MakesSome}
use Rattle.sc_world.specs.Turning.{HeldUpUnder, IsHeldUp, IsRefusedTurn, IsTurn, MakeTurns, Makes, Runs as RunsBy, StopsBehind, StopsShort, TurnsUnderJob}
use Rattle.sc_world.specs.Worlds.{PlainWorld}
use Rattle.sc_world.proofs.Runs.{made-more, made-run, runs-idle, runs-join, stops-again}
use Rattle.sc_world.proofs.SettledPicks.{set_same}
use Rattle.sc_world.proofs.MoreTurns.{asks_on, once_more, picks_again, set_again, turn_by, turns_some}

module _ (h : ℕ) (j : Job) (x : PlainWorld) (r : PlainRegion) (stands : slice_get x.regions h ≡ Some r) (picks : pick_for h x.center ≡ Some j) where
  abbrev pub region : PlainStore → PlainRegion
  region y = record r { store = y; is_told = false }

  -- the world after so many turns, the last of which asks this
  abbrev pub after : ℕ → PlainStore → Want → PlainWorld
  after n y w = record { most = x.most; center = settles x.most h j n w (picked h j x.center); regions = slice_set x.regions h (region y) }

  first_turn : (y : PlainStore) (w : Want) → FirstTurn r.handler r.is_told j r.store y w → IsTurn h x (after 1 y w)
  first_turn y w t = turn_by h j x (after 1 y w) picks (record {
    before = r;
    after = region y;
    stands = stands;
    settles = record {
      outcome = record { handler = r.handler; turns = 1; want = w };
      count = refl;
      plays = record {
        handler = refl;
        few = omega arith;
        some = omega arith;
        last = y;
        turns = first t;
        ends = inl refl;
        same = refl;
        program = turns_keep r.handler r.is_told j r.store 1 y w (first t);
      };
      center = refl;
    };
    regions = refl;
    most = refl;
  })

  further_turn : (n : ℕ) (y z : PlainStore) (w : Want) → Turns r.handler r.is_told j r.store n y want.Continue → TurnOf r.handler y z w →
      IsTurn h (after n y want.Continue) (after (n + 1) z w)
  further_turn n y z w ts t =
      let more_comes = asks_on r.handler r.is_told j r.store n y want.Continue ts refl in
      let k = turns_some r.handler r.is_told j r.store n y want.Continue ts in
      subst (λ (m : ℕ). IsTurn h (after m y want.Continue) (after (m + 1) z w)) (sym k.1)
      (turn_by h job.Go (after (suc k.0) y want.Continue) (after (suc k.0 + 1) z w) (picks_again x.most h j x.center picks more_comes k.0) (record {
        before = region y;
        after = region z;
        stands = set_same x.regions h r (region y) stands;
        settles = record {
          outcome = record { handler = r.handler; turns = 1; want = w };
          count = refl;
          plays = record {
            handler = refl;
            few = omega arith;
            some = omega arith;
            last = z;
            turns = first t;
            ends = inl refl;
            same = refl;
            program = turns_keep r.handler false job.Go y 1 z w (first t);
          };
          center = sym (once_more x.most h j x.center picks more_comes k.0 w);
        };
        regions = sym (set_again x.regions h (region y) (region z));
        most = refl;
      }))

  replicate_more : (n : ℕ) → replicate n h ++ h ∷ [] ≡ replicate (suc n) h
  replicate_more zero = refl
  replicate_more (suc n) = ap (λ (hs : List ℕ). h ∷ hs) (replicate_more n)

  replicate_one : (n : ℕ) → replicate n h ++ h ∷ [] ≡ replicate (n + 1) h
  replicate_one n = let e : suc n ≡ n + 1 = omega arith in replicate_more n ∙ ap (λ (k : ℕ). replicate k h) e

  -- behind turns that ask nothing it has something to do again
  has_more : (n : ℕ) (y : PlainStore) → Turns r.handler r.is_told j r.store n y want.Continue → is_some (pick_for h (after n y want.Continue).center) ≡ true
  has_more n y ts =
      let more_comes = asks_on r.handler r.is_told j r.store n y want.Continue ts refl in
      let k = turns_some r.handler r.is_told j r.store n y want.Continue ts in
      subst (λ (m : ℕ). is_some (pick_for h (after m y want.Continue).center) ≡ true) (sym k.1)
      (ap (λ (o : Option Job). is_some o) (picks_again x.most h j x.center picks more_comes k.0))

  -- so it makes each of its turns
  pub makes_turns : (n : ℕ) (y : PlainStore) (w : Want) → Turns r.handler r.is_told j r.store n y w → MakeTurns (replicate n h) x (after n y w)
  makes_turns _ _ _ (first {y} {w} t) = (ap (λ (o : Option Job). is_some o) picks, after 1 y w, first_turn y w t, refl)
  makes_turns _ _ _ (more {n} {y} {z} {w} ts t) =
      subst (λ (hs : List ℕ). MakeTurns hs x (after (n + 1) z w)) (replicate_one n)
      (made-more (replicate n h) h x (after n y want.Continue) (after (n + 1) z w) (makes_turns n y want.Continue ts) (has_more n y ts) (further_turn n y z w ts t))

  pub all_turns : (n : ℕ) (y : PlainStore) (w : Want) → Turns r.handler r.is_told j r.store n y w → RunsBy (replicate n h) x (after n y w)
  all_turns n y w ts = made-run (replicate n h) x (after n y w) (makes_turns n y w ts)

-- ---- what a handler makes under its job

module _ (limit h : ℕ) (j : Job) (turns : ℕ) (x y : PlainWorld) (picks : pick_for h x.center ≡ Some j) (m : Makes limit h j turns x y) where
  abbrev pub played : Outcome
  played = m.settles.outcome

  -- the region where its last turn left it
  abbrev pub stopped : PlainRegion
  stopped = record m.before { store = m.settles.plays.last; is_told = false }

  -- the world then
  abbrev pub there : PlainWorld
  there = after h j x m.before m.stands picks played.turns m.settles.plays.last played.want

  pub turns_there : RunsBy (replicate turns h) x there
  turns_there =
      subst (λ (n : ℕ). RunsBy (replicate n h) x there) m.settles.count
      (all_turns h j x m.before m.stands picks played.turns m.settles.plays.last played.want m.settles.plays.turns)

  pub center_there : y.center ≡ there.center
  center_there = m.settles.center ∙ ap (λ (n : ℕ). settles x.most h j n played.want (picked h j x.center)) (sym m.settles.count)

  pub same_region : m.after.store ≡ m.settles.plays.last → m.after ≡ stopped
  same_region e = m.settles.plays.same ∙ ap (λ (s : PlainStore). let z : PlainRegion = record m.before { store = s; is_told = false } in z) e

  pub same_there : m.after.store ≡ m.settles.plays.last → y ≡ there
  same_there e = λ i. record {
    most = m.most i;
    center = center_there i;
    regions = (m.regions ∙ ap (slice_set x.regions h) (same_region e)) i;
  }

  -- the handler makes its turns, and stands where the last one left it
  pub makes_runs : m.after.store ≡ m.settles.plays.last → RunsBy (replicate turns h) x y
  makes_runs e = subst (λ (z : PlainWorld). RunsBy (replicate turns h) x z) (sym (same_there e)) turns_there

  asks_nothing : played.want ≡ want.Continue → goes_on j ≡ true
  asks_nothing e = asks_on m.before.handler m.before.is_told j m.before.store played.turns m.settles.plays.last played.want m.settles.plays.turns e

  -- the handler goes on where nothing is asked, and is there again where that is undone
  back_there : there.center ≡ put_back h (picked h job.Go there.center)
  back_there = (λ i. record {
    state = there.center.state;
    out = fun_ext (λ k. by (k == h) (x.center.out k)) i;
    last = h;
  }) ∙ sym undone
    where
      by : (b : Bool) (o : Option Job) →
          (if b then None else (if b then Some j else o)) ≡ (if b then None else (if b then Some job.Go else (if b then None else (if b then Some j else o))))
      by true o = refl
      by false o = refl

      is_out : (picked h job.Go there.center).out h ≡ Some job.Go
      is_out = ap (λ (b : Bool). if b then Some job.Go else there.center.out h) (eq-eqb h h refl)

      undone : put_back h (picked h job.Go there.center) ≡ put_back_with h (Some job.Go) (picked h job.Go there.center)
      undone = ap (λ (o : Option Job). put_back_with h o (picked h job.Go there.center)) is_out

  pub goes_there : played.want ≡ want.Continue → pick_for h there.center ≡ Some job.Go
  goes_there e =
      let some = turns_some m.before.handler m.before.is_told j m.before.store played.turns m.settles.plays.last played.want m.settles.plays.turns in
      ap (λ (n : ℕ). pick_for h (settles x.most h j n played.want (picked h j x.center))) some.1
      ∙ ap (λ (w : Want). pick_for h (settles x.most h j (suc some.0) w (picked h j x.center))) e
      ∙ picks_again x.most h j x.center picks (asks_nothing e) some.0

  pub ahead_there : IsAhead m.settles.plays.last m.after.store → IsHeldUp h job.Go there y
  ahead_there ahead = record {
    before = stopped;
    after = m.after;
    stands = set_same x.regions h m.before stopped m.stands;
    put_back = record {
      refused = record { store = ahead; same = m.settles.plays.same; program = ahead.remains.program };
      center = center_there ∙ back_there;
    };
    regions = m.regions ∙ sym (set_again x.regions h stopped m.after);
    most = m.most;
  }

  -- memory was refused behind them
  stops_there : AreCutShort limit turns played.want → StopsShort limit h x y
  stops_there cut = record { made = turns; few = cut.0; before = there; runs = turns_there; refused = by m.settles.plays.ends }
    where
      by : EndsIn played.turns limit m.settles.plays.last played.want m.after.store → IsRefusedTurn h there y
      by (inl same) = inl (same_there same)
      by (inr (few, nothing, ahead)) = inr (subst (λ (o : Option Job). HeldUpUnder h o there y) (sym (goes_there cut.1)) (ahead_there ahead))

-- Where memory was refused to none of them, it stands where the last one left it.
ends_there : (n limit : ℕ) (x y : PlainStore) (w : Want) → (w ≡ want.Continue → n ≡ limit) → EndsIn n limit x w y → y ≡ x
ends_there n limit x y w all (inl same) = same
ends_there n limit x y w all (inr (few, nothing, ahead)) = absurd (omega (arith, few, all nothing))

pub all_run : (limit h : ℕ) (j : Job) (turns : ℕ) (x y : PlainWorld) → pick_for h x.center ≡ Some j → MakesAll limit h j turns x y → RunsBy (replicate turns h) x y
all_run limit h j turns x y picks m =
    let s = m.makes.settles in
    makes_runs limit h j turns x y picks m.makes
    (ends_there s.outcome.turns limit s.plays.last m.makes.after.store s.outcome.want (λ nothing. s.count ∙ m.all nothing) s.plays.ends)

pub some_stop : (limit h : ℕ) (j : Job) (turns : ℕ) (x y : PlainWorld) → pick_for h x.center ≡ Some j → MakesSome limit h j turns x y → StopsShort limit h x y
some_stop limit h j turns x y picks m = stops_there limit h j turns x y picks m.makes m.cut_short

-- ---- what a call of the world tells

pub all_told : (limit h : ℕ) (j : Job) (turns : ℕ) (x y : PlainWorld) → Some j ≡ pick_for h x.center → MakesAll limit h j turns x y → TurnsUnderJob limit h turns x y
all_told limit h j turns x y picks m =
    let count = m.makes.settles.count in
    let some = m.makes.settles.plays.some in
    record {
      few = omega (arith, count, m.makes.settles.plays.few);
      runs = all_run limit h j turns x y (sym picks) m;
      idle = λ none. absurd (omega (arith, none, count, some));
    }

pub none_told : (limit h : ℕ) (x y : PlainWorld) → None ≡ pick_for h x.center → y ≡ x → TurnsUnderJob limit h 0 x y
none_told limit h x y idle same = record {
  few = omega arith;
  runs = same;
  idle = λ none. ap (λ (z : PlainWorld). pick_for h z.center) same ∙ sym idle;
}

pub some_told : (limit h : ℕ) (j : Job) (turns : ℕ) (x y : PlainWorld) → Some j ≡ pick_for h x.center → MakesSome limit h j turns x y → StopsShort limit h x y
some_told limit h j turns x y picks m = some_stop limit h j turns x y (sym picks) m

pub refused_told : (limit h : ℕ) (x y : PlainWorld) → 1 ≤ limit → IsRefusedTurn h x y → StopsShort limit h x y
refused_told limit h x y some refused = record { made = 0; few = omega (arith, some); before = x; runs = refl; refused = refused }

-- ---- one row of turns behind another

replicate_behind : (m n h : ℕ) → replicate m h ++ replicate n h ≡ replicate (m + n) h
replicate_behind zero n h = let e : n ≡ 0 + n = omega arith in ap (λ (k : ℕ). replicate k h) e
replicate_behind (suc m) n h =
    let e : suc (m + n) ≡ suc m + n = omega arith in
    ap (λ (hs : List ℕ). h ∷ hs) (replicate_behind m n h) ∙ ap (λ (k : ℕ). replicate k h) e

-- turns behind others of the same handler
pub runs_on : (m n all h : ℕ) (x y z : PlainWorld) → m + n ≡ all → RunsBy (replicate m h) x y → RunsBy (replicate n h) y z → RunsBy (replicate all h) x z
runs_on m n all h x y z e before then_runs =
    subst (λ (hs : List ℕ). RunsBy hs x z) (replicate_behind m n h ∙ ap (λ (k : ℕ). replicate k h) e)
    (runs-join (replicate m h) (replicate n h) x y z before then_runs)

-- where it has nothing to do any more, further ones change nothing
pub runs_out : (m n all h : ℕ) (x y : PlainWorld) → m + n ≡ all → RunsBy (replicate m h) x y → None ≡ pick_for h y.center → RunsBy (replicate all h) x y
runs_out m n all h x y e before idle = runs_on m n all h x y y e before (runs-idle n h y idle)

-- and where memory is refused among them
pub stops_on : (m n all h : ℕ) (x y z : PlainWorld) → m + n ≡ all → RunsBy (replicate m h) x y → StopsShort n h y z →
    (k : ℕ) × StopsBehind k (replicate all h) x z
stops_on m n all h x y z e before stops =
    let few : m + stops.made < all = omega (arith, stops.few, e) in
    let few_or_all : m + stops.made ≤ all = omega (arith, few) in
    let made : RunsBy (replicate (m + stops.made) h) x stops.before = runs_on m stops.made (m + stops.made) h x y stops.before refl before stops.runs in (
      m + stops.made,
      stops-again all (m + stops.made) h x stops.before z few
          (subst (λ (hs : List ℕ). RunsBy hs x stops.before) (sym (take-replicate (m + stops.made) all h few_or_all)) made) stops.refused,
    )
