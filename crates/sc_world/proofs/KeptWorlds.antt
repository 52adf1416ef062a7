-- Worlds that are kept.
use Rattle.std.proofs.Common.{◌≡◌, ◌==◌, ◌∙◌, ◌-◌, ◌||◌, ◌++◌, ℕ, zero, suc, ◌<◌, ◌≤◌, Bool, true, false, List, [], ◌∷◌, Option, Some, None, inl, inr, length, map, take, slice_set, refl, sym, ap, subst, length-take, arith}
use Rattle.std.proofs.Math.Path.{fun_ext}
use Rattle.std.proofs.lemmas.Bool.{cases_eq, cases_lt}
use Rattle.std.proofs.lemmas.Option.{slice_get_past}
use Rattle.std.specs.Prelude.{slice_get, if◌then◌else◌}
use Rattle.std.specs.List.{range_with_len}
use Rattle.sc_lockpass.specs.declared.version.Version.{Version}
use Rattle.sc_lockpass.specs.declared.version.Version.TheVariants.{One, Two}
use Rattle.sc_lockpass.specs.Versions.{most_handlers}
use Rattle.sc_code.specs.declared.program.Image.{Image}
use Rattle.sc_region.specs.declared.job.Job.{Job}
use Rattle.sc_model.specs.Reports.{end_text, line_feed}
use Rattle.sc_handler.specs.Handlers.{State}
use Rattle.sc_handler.specs.Canonical.{canon}
use Rattle.sc_request.specs.Logs.{Center, pick_for, picked, put_back, put_back_with, root_of, settles, status_in}
use Rattle.sc_counts.specs.Counted.{IsCounted}
use Rattle.sc_counts.specs.Laws.{AlikeAreReadAlike, AlikeSettleAlike, IsReadAlike, OpeningsAreCounted, PicksStayCounted, PutBacksStayCounted, SettlementsStayCounted, SettlementsStayFew}
use Rattle.sc_play.specs.Contents.{Contents, contents_at, contents_in, contents_of, new_contents}
use Rattle.sc_play.specs.Regions.{PlainRegion, new_region}
use Rattle.sc_world.specs.Kept.{AreKeptAlike, AreReadAlike, AttemptsStayOf, IsOf, KeptAlikeReadAlike, KeptAlikeTurnAlike, OpeningsAreOf, PlainKept, RunsStayOf, TurnsTo, kept}
use Rattle.sc_world.specs.Reports.{handler_report, handlers_report, is_busy, output_in, report, report_of, some_is_busy, statuses}
use Rattle.sc_world.specs.Turning.{HeldUpUnder, IsHeldUp, IsRefusedTurn, Made, Makes, Refused, TurnsUnder}
use Rattle.sc_world.specs.Worlds.{PlainWorld, max_handlers, new_regions}
use Rattle.sc_world.proofs.Outs.{picked-out, turn-none, turn-some}

-- Where the whole could only be the same if this were, and this isn't, it is another one.
pub differs : {P Q : Type 0} (r : Bool) → r ≡ false → (r ≡ true → P) × (P → r ≡ true) → (Q → P) → (false ≡ true → Q) × (Q → false ≡ true)
differs r isnt both back = ((λ yes. (cc)), λ q. sym isnt ∙ both.1 (back q))

-- ---- regions

-- past all regions there are new ones
pub new_past : (xs : List PlainRegion) (h : ℕ) → length xs ≤ h → contents_at xs h ≡ new_contents h
new_past xs h past = ap (contents_in h) (slice_get_past xs h past)

-- from one place fewer on all are new, where the region there is new too
pub new_from_before : (xs : List PlainRegion) (n m : ℕ) → n ≡ suc m → contents_at xs m ≡ new_contents m → ((h : ℕ) → n ≤ h → contents_at xs h ≡ new_contents h) →
    (h : ℕ) → m ≤ h → contents_at xs h ≡ new_contents h
new_from_before xs n m one here beyond h past = elim (cases_lt m h) [
  | inl above ↦ beyond h (omega (arith, one, above))
  | inr up_to ↦ let e : h ≡ m = omega (arith, past, up_to) in rw e here
]

get_of_first : (xs : List PlainRegion) (n k : ℕ) → k < n → slice_get (take n xs) k ≡ slice_get xs k
get_of_first xs zero k l = absurd (omega (arith, l))
get_of_first [] (suc n) k l = refl
get_of_first (x ∷ xs) (suc n) zero l = refl
get_of_first (x ∷ xs) (suc n) (suc k) l = get_of_first xs n k (omega (arith, l))

-- Without those at the end that are new they hold the same.
same_first : (xs : List PlainRegion) (n : ℕ) (ys : List PlainRegion) → ys ≡ take n xs → ((h : ℕ) → n ≤ h → contents_at xs h ≡ new_contents h) → contents_at ys ≡ contents_at xs
same_first xs n ys of beyond = fun_ext (λ h. elim (cases_lt h n) [
  | inl below ↦ ap (λ zs. contents_at zs h) of ∙ ap (contents_in h) (get_of_first xs n h below)
  | inr past ↦ new_past ys h (omega (arith, ap length of, length-take n xs, past)) ∙ sym (beyond h past)
])

pub same_without_new : (xs zs : List PlainRegion) (n : ℕ) (ys : List PlainRegion) → zs ≡ xs → ys ≡ take n xs → ((h : ℕ) → n ≤ h → contents_at zs h ≡ new_contents h) →
    contents_at ys ≡ contents_at xs
same_without_new xs zs n ys are of beyond = same_first xs n ys of (λ h past. ap (λ rs. contents_at rs h) (sym are) ∙ beyond h past)

-- They hold the same where they do at each place before one past all.
pub same_everywhere : (xs ys : List PlainRegion) (n : ℕ) → length xs ≤ n → length ys ≤ n → ((h : ℕ) → h < n → contents_at xs h ≡ contents_at ys h) → contents_at xs ≡ contents_at ys
same_everywhere xs ys n few its_few each = fun_ext (λ h. elim (cases_lt h n) [
  | inl below ↦ each h below
  | inr past ↦ new_past xs h (omega (arith, few, past)) ∙ sym (new_past ys h (omega (arith, its_few, past)))
])

-- ---- of one program

region_is : (p : Image) (x y : PlainRegion) → x.store.program ≡ p → y.store.program ≡ p → contents_of x ≡ contents_of y → x ≡ y
region_is p x y e g same =
    let program : x.store.program ≡ y.store.program = e ∙ sym g in
    λ i. record {
      handler = (same i).handler;
      store = record {
        program = program i;
        objects = (same i).objects;
        frames = (same i).frames;
        output = (same i).output;
        failure = (same i).failure;
      };
      is_told = (same i).is_told;
    }

lists_are : (p : Image) (xs ys : List PlainRegion) → length xs ≡ length ys → ((h : ℕ) (x : PlainRegion) → slice_get xs h ≡ Some x → x.store.program ≡ p) →
    ((h : ℕ) (y : PlainRegion) → slice_get ys h ≡ Some y → y.store.program ≡ p) →
    ((h : ℕ) (x y : PlainRegion) → slice_get xs h ≡ Some x → slice_get ys h ≡ Some y → contents_of x ≡ contents_of y) → xs ≡ ys
lists_are p [] [] many of its each = refl
lists_are p [] (y ∷ ys) many of its each = absurd (omega (arith, many))
lists_are p (x ∷ xs) [] many of its each = absurd (omega (arith, many))
lists_are p (x ∷ xs) (y ∷ ys) many of its each =
    let head : x ≡ y = region_is p x y (of 0 x refl) (its 0 y refl) (each 0 x y refl refl) in
    let tail : xs ≡ ys = lists_are p xs ys (omega (arith, many)) (λ h. of (suc h)) (λ h. its (suc h)) (λ h. each (suc h)) in
    λ i. head i ∷ tail i

hold_alike : (xs ys : List PlainRegion) (h : ℕ) (x y : PlainRegion) → contents_at xs ≡ contents_at ys → slice_get xs h ≡ Some x → slice_get ys h ≡ Some y → contents_of x ≡ contents_of y
hold_alike xs ys h x y same there its_there = sym (ap (contents_in h) there) ∙ ap (λ (f : ℕ → Contents). f h) same ∙ ap (contents_in h) its_there

-- Worlds of one program that are kept alike have the same regions.
pub regions_are : (p : Image) (most : ℕ) (w v : PlainWorld) → AreKeptAlike p most w v → w.regions ≡ v.regions
regions_are p most w v alike =
    let hold : contents_at w.regions ≡ contents_at v.regions = ap (λ (k : PlainKept). k.regions) alike.same in
    lists_are p w.regions v.regions (alike.of.places ∙ sym alike.its.places) alike.of.programs alike.its.programs
    (λ h x y there its_there. hold_alike w.regions v.regions h x y hold there its_there)

states_are : (w v : PlainWorld) → kept w ≡ kept v → canon w.center.state ≡ canon v.center.state
states_are w v same = ap (λ (k : PlainKept). k.state) same

-- ---- what they tell

module _ (read_alike : AlikeAreReadAlike) (p : Image) (most : ℕ) (w v : PlainWorld) (alike : AreKeptAlike p most w v) where
  state : canon w.center.state ≡ canon v.center.state
  state = states_are w v alike.same

  count : w.center.state.count ≡ v.center.state.count
  count = ap (λ (s : State). s.count) state

  regions : w.regions ≡ v.regions
  regions = regions_are p most w v alike

  reads : (h : ℕ) → IsReadAlike h w.center v.center
  reads h = read_alike h w.center v.center state (alike.of.nobody_out h ∙ sym (alike.its.nobody_out h))

  pub same_job : (h : ℕ) → pick_for h w.center ≡ pick_for h v.center
  same_job h = (reads h).pick

  status_is : (h : ℕ) → status_in h w.center ≡ status_in h v.center
  status_is h = (reads h).status

  statuses_are : statuses w ≡ statuses v
  statuses_are =
      let each : (λ (h : ℕ). status_in h w.center) ≡ (λ (h : ℕ). status_in h v.center) = fun_ext status_is in
      λ i. map (each i) (range_with_len 0 (count i))

  refused_is : (h : ℕ) → (w.center.state.handlers h).refused ≡ (v.center.state.handlers h).refused
  refused_is h = ap (λ (s : State). (s.handlers h).refused) state

  line_is : (h : ℕ) → report_of h w ≡ report_of h v
  line_is h =
      let status = status_is h in
      let refused = refused_is h in
      let region = regions in
      λ i. handler_report h (status i) (refused i) (output_in (slice_get (region i) h))

  lines_are : (n : ℕ) → handlers_report n w ≡ handlers_report n v
  lines_are zero = refl
  lines_are (suc n) =
      let many = count in
      let first : report_of (w.center.state.count - suc n) w ≡ report_of (v.center.state.count - suc n) v =
      ap (λ (m : ℕ). report_of (m - suc n) w) many ∙ line_is (v.center.state.count - suc n) in
      let rest = lines_are n in
      λ i. first i ++ rest i

  busy_is : (n : ℕ) → some_is_busy n w ≡ some_is_busy n v
  busy_is zero = refl
  busy_is (suc n) =
      let status = status_is n in
      let rest = busy_is n in
      λ i. is_busy (status i) || rest i

  report_is : report w ≡ report v
  report_is =
      let lines = ap (λ (n : ℕ). handlers_report n w) count ∙ lines_are v.center.state.count in
      let busy = ap (λ (n : ℕ). some_is_busy n w) count ∙ busy_is v.center.state.count in
      λ i. lines i ++ end_text (busy i) ++ line_feed

  pub world_read_alike : AreReadAlike w v
  world_read_alike = record { jobs = same_job; statuses = statuses_are; report = report_is }

-- ---- their turns

module _ (read_alike : AlikeAreReadAlike) (settle_alike : AlikeSettleAlike) (p : Image) (most : ℕ) (w v : PlainWorld) (alike : AreKeptAlike p most w v) (h : ℕ) (x : PlainWorld) where
  same_rows : w.regions ≡ v.regions
  same_rows = regions_are p most w v alike

  stays : pick_for h w.center ≡ None → x ≡ w → TurnsTo h v (kept x)
  stays none same = record {
    after = v;
    turn = turn-none h v v (sym (sym (same_job read_alike p most w v alike h) ∙ none)) refl;
    kept = sym alike.same ∙ ap kept (sym same);
  }

  module _ (j : Job) (has : pick_for h w.center ≡ Some j) (makes : Makes 1 h j 1 w x) where
    -- the world to which the same turn leads
    abbrev after : PlainWorld
    after = record { most = v.most; center = settles v.most h j 1 makes.settles.outcome.want (picked h j v.center); regions = slice_set v.regions h makes.after }

    makes_it : Makes 1 h j 1 v after
    makes_it = record {
      before = makes.before;
      after = makes.after;
      stands = ap (λ rs. slice_get rs h) (sym same_rows) ∙ makes.stands;
      settles = record { outcome = makes.settles.outcome; count = makes.settles.count; plays = makes.settles.plays; center = refl };
      regions = refl;
      most = refl;
    }

    moved : TurnsTo h v (kept x)
    moved =
        let limit : v.most ≡ w.most = alike.its.most ∙ sym alike.of.most in
        let state : canon after.center.state ≡ canon x.center.state =
        ap (λ (m : ℕ). canon (settles m h j 1 makes.settles.outcome.want (picked h j v.center)).state) limit
        ∙ sym (settle_alike w.most h 1 j makes.settles.outcome.want w.center v.center has alike.of.counted alike.its.counted (states_are w v alike.same))
        ∙ ap (λ (c : Center). canon c.state) (sym makes.settles.center) in
        let regions : contents_at after.regions ≡ contents_at x.regions =
        ap contents_at (ap (λ rs. slice_set rs h makes.after) (sym same_rows) ∙ sym makes.regions) in
        record {
          after = after;
          turn = turn-some h j v after (sym (sym (same_job read_alike p most w v alike h) ∙ has)) makes_it;
          kept = λ i. record { state = state i; regions = regions i };
        }

  pub turns_alike : (o : Option Job) → pick_for h w.center ≡ o → TurnsUnder h o w x → TurnsTo h v (kept x)
  turns_alike None none same = stays none same
  turns_alike (Some j) has makes = moved j has makes

pub kept_alike_read_alike : AlikeAreReadAlike → KeptAlikeReadAlike
kept_alike_read_alike read_alike p most w v alike = world_read_alike read_alike p most w v alike

pub kept_alike_turn_alike : AlikeAreReadAlike → AlikeSettleAlike → KeptAlikeTurnAlike
kept_alike_turn_alike read_alike settle_alike p most w v alike h x turn =
    turns_alike read_alike settle_alike p most w v alike h x (pick_for h w.center) refl turn

-- ---- at the opening

so_many : (p : Image) (h n : ℕ) → length (new_regions p h n) ≡ n
unfolding new_regions
so_many p h zero = refl
so_many p h (suc n) = ap suc (so_many p (suc h) n)

all_of : (p : Image) (h n k : ℕ) (x : PlainRegion) → slice_get (new_regions p h n) k ≡ Some x → x.store.program ≡ p
unfolding new_regions
all_of p h zero k x e = absurd (cc)
all_of p h (suc n) zero x e = let is : new_region p h ≡ x = cc in ap (λ (r : PlainRegion). r.store.program) (sym is)
all_of p h (suc n) (suc k) x e = all_of p (suc h) n k x e

some_handler : (version : Version) → 1 ≤ most_handlers version
some_handler One = omega arith
some_handler Two = omega arith

pub openings_are_of : OpeningsAreCounted → OpeningsAreOf
openings_are_of open_counted p version = record {
  most = refl;
  few = some_handler version;
  nobody_out = λ h. refl;
  places = so_many p 0 max_handlers;
  programs = λ h x e. all_of p 0 max_handlers h x e;
  counted = open_counted (root_of p.root_class p.root_procedure);
}

-- ---- in turns

set_many : (xs : List PlainRegion) (h : ℕ) (y : PlainRegion) → length (slice_set xs h y) ≡ length xs
set_many [] h y = refl
set_many (x ∷ xs) zero y = refl
set_many (x ∷ xs) (suc h) y = ap suc (set_many xs h y)

set_here : (xs : List PlainRegion) (h : ℕ) (y z : PlainRegion) → slice_get (slice_set xs h y) h ≡ Some z → z ≡ y
set_here [] h y z e = absurd (cc)
set_here (x ∷ xs) zero y z e = cc
set_here (x ∷ xs) (suc h) y z e = set_here xs h y z e

set_elsewhere : (xs : List PlainRegion) (h k : ℕ) (y : PlainRegion) → (k ≡ h → ⊥) → slice_get (slice_set xs h y) k ≡ slice_get xs k
set_elsewhere [] h k y apart = refl
set_elsewhere (x ∷ xs) zero zero y apart = absurd (apart refl)
set_elsewhere (x ∷ xs) zero (suc k) y apart = refl
set_elsewhere (x ∷ xs) (suc h) zero y apart = refl
set_elsewhere (x ∷ xs) (suc h) (suc k) y apart = set_elsewhere xs h k y (λ e. apart (ap suc e))

is_in : (b : Bool) (j : Job) (o : Option Job) → o ≡ None → (if b then None else if b then Some j else o) ≡ None
is_in true j o e = refl
is_in false j o e = e

made_stay : SettlementsStayCounted → SettlementsStayFew → (p : Image) (most h : ℕ) (j : Job) (w v : PlainWorld) → IsOf p most w → pick_for h w.center ≡ Some j → Makes 1 h j 1 w v → IsOf p most v
made_stay settled few p most h j w v of has makes = record {
  most = makes.most ∙ of.most;
  few =
      let before : w.center.state.count ≤ w.most = subst (λ (n : ℕ). w.center.state.count ≤ n) (sym of.most) of.few in
      subst (λ (n : ℕ). v.center.state.count ≤ n) of.most
      (subst (λ (c : Center). c.state.count ≤ w.most) (sym makes.settles.center) (few w.most h 1 j makes.settles.outcome.want w.center before));
  nobody_out = λ k. ap (λ (c : Center). c.out k) makes.settles.center ∙ is_in (k == h) j (w.center.out k) (of.nobody_out k);
  places = ap length makes.regions ∙ set_many w.regions h makes.after ∙ of.places;
  programs = λ k x there.
      let set : slice_get (slice_set w.regions h makes.after) k ≡ Some x = ap (λ rs. slice_get rs k) (sym makes.regions) ∙ there in
      elim (cases_eq k h) [
        | inl is ↦
            let at : slice_get (slice_set w.regions h makes.after) h ≡ Some x = ap (λ i. slice_get (slice_set w.regions h makes.after) i) (sym is) ∙ set in
            ap (λ (r : PlainRegion). r.store.program) (set_here w.regions h makes.after x at) ∙ makes.settles.plays.program ∙ of.programs h makes.before makes.stands
        | inr apart ↦ of.programs k x (sym (set_elsewhere w.regions h k makes.after apart) ∙ set)
      ];
  counted =
      subst (λ (c : Center). IsCounted c.state) (sym makes.settles.center) (settled w.most h 1 j makes.settles.outcome.want w.center has of.counted);
}

turn_stays : SettlementsStayCounted → SettlementsStayFew → (p : Image) (most h : ℕ) (o : Option Job) (w v : PlainWorld) → IsOf p most w → pick_for h w.center ≡ o → TurnsUnder h o w v → IsOf p most v
turn_stays settled few p most h None w v of has same = let P : PlainWorld → Type 0 = λ u. IsOf p most u in subst P (sym same) of
turn_stays settled few p most h (Some j) w v of has makes = made_stay settled few p most h j w v of has makes

pub runs_stay_of : SettlementsStayCounted → SettlementsStayFew → RunsStayOf
runs_stay_of settled few p most [] w v of same = let P : PlainWorld → Type 0 = λ u. IsOf p most u in subst P (sym same) of
runs_stay_of settled few p most (h ∷ hs) w v of runs =
    runs_stay_of settled few p most hs runs.0 v (turn_stays settled few p most h (pick_for h w.center) w runs.0 of refl runs.1) runs.2

-- ---- where memory is refused

put_back_out : (h : ℕ) (j : Job) (c : Center) (k : ℕ) → c.out k ≡ None → (put_back h (picked h j c)).out k ≡ None
put_back_out h j c k e =
    ap (λ (o : Option Job). (put_back_with h o (picked h j c)).out k) (picked-out h j c (picked h j c) refl) ∙ is_in (k == h) j (c.out k) e

put_back_count : (h : ℕ) (o : Option Job) (c : Center) → (put_back_with h o c).state.count ≡ c.state.count
put_back_count h None c = refl
put_back_count h (Some j) c = refl

module _ (picks : PicksStayCounted) (put_backs : PutBacksStayCounted) (settled : SettlementsStayCounted) (few : SettlementsStayFew) where
  held_stays : (p : Image) (most h : ℕ) (j : Job) (w v : PlainWorld) → IsOf p most w → pick_for h w.center ≡ Some j → IsHeldUp h j w v → IsOf p most v
  held_stays p most h j w v of has held = record {
    most = held.most ∙ of.most;
    few =
        let same : v.center.state.count ≡ w.center.state.count =
        ap (λ (c : Center). c.state.count) held.put_back.center ∙ put_back_count h ((picked h j w.center).out h) (picked h j w.center) in
        subst (λ (n : ℕ). n ≤ most) (sym same) of.few;
    nobody_out = λ k. ap (λ (c : Center). c.out k) held.put_back.center ∙ put_back_out h j w.center k (of.nobody_out k);
    places = ap length held.regions ∙ set_many w.regions h held.after ∙ of.places;
    programs = λ k x there.
        let set : slice_get (slice_set w.regions h held.after) k ≡ Some x = ap (λ rs. slice_get rs k) (sym held.regions) ∙ there in
        elim (cases_eq k h) [
          | inl is ↦
              let at : slice_get (slice_set w.regions h held.after) h ≡ Some x = ap (λ i. slice_get (slice_set w.regions h held.after) i) (sym is) ∙ set in
              ap (λ (r : PlainRegion). r.store.program) (set_here w.regions h held.after x at) ∙ held.put_back.refused.program ∙ of.programs h held.before held.stands
          | inr apart ↦ of.programs k x (sym (set_elsewhere w.regions h k held.after apart) ∙ set)
        ];
    counted =
        subst (λ (c : Center). IsCounted c.state) (sym held.put_back.center) (put_backs h (picked h j w.center) (picks h j w.center has of.counted));
  }

  held_under : (p : Image) (most h : ℕ) (o : Option Job) (w v : PlainWorld) → IsOf p most w → pick_for h w.center ≡ o → HeldUpUnder h o w v → IsOf p most v
  held_under p most h None w v of has same = let P : PlainWorld → Type 0 = λ u. IsOf p most u in subst P (sym same) of
  held_under p most h (Some j) w v of has held = held_stays p most h j w v of has held

  refused_stays : (p : Image) (most h : ℕ) (w v : PlainWorld) → IsOf p most w → IsRefusedTurn h w v → IsOf p most v
  refused_stays p most h w v of (inl same) = let P : PlainWorld → Type 0 = λ u. IsOf p most u in subst P (sym same) of
  refused_stays p most h w v of (inr held) = held_under p most h (pick_for h w.center) w v of refl held

  pub attempts_stay_of : AttemptsStayOf
  attempts_stay_of p most [] w v of same = let P : PlainWorld → Type 0 = λ u. IsOf p most u in subst P (sym same) of
  attempts_stay_of p most (Made h ∷ ts) w v of tried =
      attempts_stay_of p most ts tried.0 v (turn_stays settled few p most h (pick_for h w.center) w tried.0 of refl tried.1) tried.2
  attempts_stay_of p most (Refused h ∷ ts) w v of tried =
      attempts_stay_of p most ts tried.0 v (refused_stays p most h w tried.0 of tried.1) tried.2
