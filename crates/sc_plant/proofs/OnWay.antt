-- How a run on one thread goes on.
use Rattle.std.proofs.Common.{◌≡◌, ◌⊎◌, ◌<◌, ◌++◌, ◌∷◌, [], inl, inr, ℕ, zero, suc, List, None, Some, All, Result, Ok, Err, OnErr, OnOk, IfOk, is_err, Bool, false, length, slice_get, slice_set, true, refl, sym, ap, subst, ◌∙◌}
use Rattle.std.proofs.Math.Logic.{∥∥₁_map}
use Rattle.std.proofs.lemmas.Bool.{cases_eq}
use Rattle.std.proofs.lemmas.List.Elements.{All-cons, All-nil}
use Rattle.sc_lockpass.specs.declared.version.Version.TheVariants.{Two}
use Rattle.sc_code.specs.declared.program.Image.{Image}
use Rattle.sc_region.specs.declared.job.Job.{Job}
use Rattle.sc_region.specs.declared.job.Want.{Want}
use Rattle.sc_region.specs.declared.job.Want.TheVariants as want
use Rattle.sc_handler.specs.declared.settlement.Settlement.{Settlement}
use Rattle.sc_request.specs.declared.center.Core as coded
use Rattle.sc_request.specs.Cores.{center_of, log_of}
use Rattle.sc_request.specs.Logs.{Center, settles}
use Rattle.sc_handler.specs.Logged.{settlement}
use Rattle.sc_play.specs.Regions.{IsRefused, PlainRegion, Plays, new_region, outcome}
use Rattle.sc_worklog.specs.Replaying.{AreMade, Replays, entry_of, played, refused}
use Rattle.sc_worklog.proofs.ReplayedTurns.{turns_replay}
use Rattle.sc_world.specs.Worlds.{max_handlers}
use Rattle.sc_world.proofs.SettledPicks.{settled_out}
use Rattle.sc_plant.specs.declared.left.Left.{Left}
use Rattle.sc_plant.specs.Alone.{AreNew, AreOwn, IsOnWay, IsOwn, IsPlayed}
use Rattle.sc_recording.specs.Due.{Settled, Stays}
use Rattle.sc_recording.specs.Ending.{IsOver}
use Rattle.sc_plant.specs.Left.{AreReplayed, IsLeft, IsRun, IsStopped}
use Rattle.sc_recording.specs.Recorded.{settlements_for}
use Rattle.sc_recording.proofs.Comparisons.{kept, ours, some_is}
use Rattle.sc_recording.proofs.Dues.{Goes, goes_out, same_below, same_center, same_lines, settled_below, settled_job, settled_lines, settled_plays, stays_plays}
use Rattle.sc_plant.proofs.Slots.{new_made, played_made}

-- ---- lists

all_from : {A : Type 0} (P : A → Type 0) (xs : List A) → ((h : ℕ) (x : A) → slice_get xs h ≡ Some x → P x) → All P xs
all_from P [] each = All-nil P
all_from P (x ∷ xs) each = All-cons P x xs (each 0 x refl) (all_from P xs (λ h. each (suc h)))

set_same : {A : Type 0} (xs : List A) (h : ℕ) (x y : A) → slice_get xs h ≡ Some x → slice_get (slice_set xs h y) h ≡ Some y
set_same [] h x y e = cc
set_same (z ∷ xs) zero x y e = refl
set_same (z ∷ xs) (suc h) x y e = set_same xs h x y e

set_other : {A : Type 0} (xs : List A) (h k : ℕ) (y : A) → (k ≡ h → ⊥) → slice_get (slice_set xs h y) k ≡ slice_get xs k
set_other [] h k y apart = refl
set_other (z ∷ xs) zero zero y apart = absurd (apart refl)
set_other (z ∷ xs) zero (suc k) y apart = refl
set_other (z ∷ xs) (suc h) zero y apart = refl
set_other (z ∷ xs) (suc h) (suc k) y apart = set_other xs h k y (λ e. apart (ap suc e))

pub set_length : {A : Type 0} (xs : List A) (h : ℕ) (y : A) → length (slice_set xs h y) ≡ length xs
set_length [] h y = refl
set_length (z ∷ xs) zero y = refl
set_length (z ∷ xs) (suc h) y = ap suc (set_length xs h y)

-- what holds of the one that is written, and of the others, holds of each
pub set_each : {A : Type 0} (P : ℕ → A → Type 0) (xs : List A) (h : ℕ) (x y : A) → slice_get xs h ≡ Some x → P h y →
    ((k : ℕ) (z : A) → (k ≡ h → ⊥) → slice_get xs k ≡ Some z → P k z) → (k : ℕ) (z : A) → slice_get (slice_set xs h y) k ≡ Some z → P k z
set_each P xs h x y at own others k z e = elim (cases_eq k h) [
  | inl same ↦
      let there : slice_get (slice_set xs h y) h ≡ Some z = ap (slice_get (slice_set xs h y)) (sym same) ∙ e in
      let is : y ≡ z = some_is y z (sym (set_same xs h x y at) ∙ there) in
      subst (P k) is (subst (λ (i : ℕ). P i y) (sym same) own)
  | inr apart ↦ others k z apart (sym (set_other xs h k y apart) ∙ e)
]

-- ---- one region

-- its settlements lead to it, and replay to it
own_leads : (p : Image) (es : List Settlement) (h : ℕ) (x : PlainRegion) → IsOwn p es h x → ∥ AreMade (settlements_for h es) (new_region p h) x ∥₁
own_leads p es h x one =
    subst (λ (q : Image). ∥ AreMade (settlements_for h es) (new_region q h) x ∥₁) one.program
    (subst (λ (k : ℕ). ∥ AreMade (settlements_for h es) (new_region x.store.program k) x ∥₁) one.handler one.made)

own_replays : (p : Image) (es : List Settlement) (h : ℕ) (x : PlainRegion) → IsOwn p es h x → ∥ Replays p h (settlements_for h es) x ∥₁
own_replays p es h x one =
    ∥∥₁_map (own_leads p es h x one) (λ (made : AreMade (settlements_for h es) (new_region p h) x). (turns_replay p h (settlements_for h es) x made).0)

module _ (p : Image) (es : List Settlement) (h turns limit : ℕ) (w : Want) (j : Job) (x y : PlainRegion) (one : IsOwn p es h x)
    (plays : Plays limit j x y (outcome x.handler turns w)) where
  -- one more of its settlements
  own_settlement : settlements_for h (es ++ settlement h j turns w ∷ []) ≡ settlements_for h es ++ entry_of j (outcome x.handler turns w) ∷ []
  own_settlement =
      ours es (settlement h j turns w) ∙ ap (λ (k : ℕ). settlements_for h es ++ settlement k j turns w ∷ []) (sym one.handler)

  -- the region that has played one more job
  own_more : ((turns < limit) × (w ≡ want.Continue) → ⊥) → IsOwn p (es ++ settlement h j turns w ∷ []) h y
  own_more whole = record {
    handler = ap (λ (z : PlainRegion). z.handler) plays.same ∙ one.handler;
    program = plays.program ∙ one.program;
    made = played_made limit j (outcome x.handler turns w) (settlements_for h es) (settlements_for h (es ++ settlement h j turns w ∷ [])) x y plays whole
        own_settlement one.made;
  }

  -- also where memory was refused after it
  own_replayed : ∥ Replays p h (settlements_for h (es ++ settlement h j turns w ∷ [])) y ∥₁
  own_replayed =
      subst (λ (fs : List Settlement). ∥ Replays p h fs y ∥₁) (sym own_settlement)
      (∥∥₁_map (own_replays p es h x one) (λ (before : Replays p h (settlements_for h es) x). played before plays))

-- another's settlement is none of its own
other_own : (p : Image) (es : List Settlement) (f : Settlement) (k : ℕ) (x : PlainRegion) → (k ≡ f.handler → ⊥) → IsOwn p es k x → IsOwn p (es ++ f ∷ []) k x
other_own p es f k x apart one = record {
  handler = one.handler;
  program = one.program;
  made = subst (λ (fs : List Settlement). ∥ AreMade fs (new_region x.store.program x.handler) x ∥₁) (sym (kept k es f apart)) one.made;
}

abbrev Programs : Image → List PlainRegion → Type 0
Programs p rs = All (λ (x : PlainRegion). x.store.program ≡ p) rs

own_programs : (p : Image) (es : List Settlement) (rs : List PlainRegion) → AreOwn p es rs → Programs p rs
own_programs p es rs own = all_from (λ (x : PlainRegion). x.store.program ≡ p) rs (λ h x e. (own h x e).program)

set_programs : (p : Image) (es : List Settlement) (rs : List PlainRegion) (h : ℕ) (r s : PlainRegion) → AreOwn p es rs → slice_get rs h ≡ Some r →
    s.store.program ≡ r.store.program → Programs p (slice_set rs h s)
set_programs p es rs h r s own at same =
    all_from (λ (x : PlainRegion). x.store.program ≡ p) (slice_set rs h s)
    (set_each (λ (k : ℕ) (x : PlainRegion). x.store.program ≡ p) rs h r s at (same ∙ (own h r at).program) (λ k x apart e. (own k x e).program))

-- ---- what a run has come to

way_left : (p : Image) (left : Left) → IsOnWay p left → IsLeft p left
way_left p left way = record {
  version = way.version;
  count = way.count;
  programs = own_programs p (log_of left.core) left.regions.items way.regions;
  plays = way.plays;
  below = way.below;
  lines = way.lines;
}

pub way_stopped : (p : Image) (left : Left) → IsOnWay p left → IsStopped p left
way_stopped p left way = record {
  left_is = way_left p left way;
  home = way.home;
  replays = λ h x e. own_replays p (log_of left.core) h x (way.regions h x e);
}

pub way_run : (p : Image) (limit : ℕ) (left : Left) → IsOnWay p left → IsOver limit (center_of left.core) left.lines.items → IsRun p limit left
way_run p limit left way over = record {
  left_is = way_left p left way;
  over = over;
  made = λ h x e. own_leads p (log_of left.core) h x (way.regions h x e);
}

-- nothing is settled
pub stays_on : (p : Image) (x y : Left) → center_of y.core ≡ center_of x.core → log_of y.core ≡ log_of x.core → y.regions.items ≡ x.regions.items →
    y.lines.items ≡ x.lines.items → y.version ≡ x.version → y.core.state.rights.version ≡ x.core.state.rights.version → IsOnWay p x → IsOnWay p y
stays_on p x y center log regions lines version rights way = record {
  version = version ∙ way.version;
  rights = rights ∙ way.rights;
  count = ap (λ (rs : List PlainRegion). length rs) regions ∙ way.count;
  plays = stays_plays p x.core y.core (same_center x.core y.core center log) way.plays;
  below = same_below x.core y.core log way.below;
  lines = lines ∙ same_lines x.core y.core x.lines.items log way.lines;
  home = λ h. ap (λ (c : Center). c.out h) center ∙ way.home h;
  regions = subst (λ (es : List Settlement). AreOwn p es y.regions.items) (sym log)
      (subst (AreOwn p (log_of x.core)) (sym regions) way.regions);
}

-- memory was refused to a turn of a handler
module _ (p : Image) (x y : Left) (h : ℕ) (j : Job) (r s : PlainRegion) (stays : Stays x.core y.core)
    (home : (k : ℕ) → (center_of x.core).out k ≡ None → (center_of y.core).out k ≡ None) (at : slice_get x.regions.items h ≡ Some r)
    (regions : y.regions.items ≡ slice_set x.regions.items h s) (is : IsRefused j r s) (lines : y.lines.items ≡ x.lines.items)
    (version : y.version ≡ x.version) (way : IsOnWay p x) where
  back_left : IsLeft p y
  back_left = record {
    version = version ∙ way.version;
    count = ap (λ (rs : List PlainRegion). length rs) regions ∙ set_length x.regions.items h s ∙ way.count;
    programs = subst (Programs p) (sym regions) (set_programs p (log_of x.core) x.regions.items h r s way.regions at is.program);
    plays = stays_plays p x.core y.core stays way.plays;
    below = same_below x.core y.core stays.log way.below;
    lines = lines ∙ same_lines x.core y.core x.lines.items stays.log way.lines;
  }

  back_replays : AreReplayed p (log_of x.core) (slice_set x.regions.items h s)
  back_replays =
      set_each (λ (k : ℕ) (z : PlainRegion). ∥ Replays p k (settlements_for k (log_of x.core)) z ∥₁) x.regions.items h r s at
      (∥∥₁_map (own_replays p (log_of x.core) h r (way.regions h r at)) (λ (before : Replays p h (settlements_for h (log_of x.core)) r). refused before is))
      (λ k z apart e. own_replays p (log_of x.core) k z (way.regions k z e))

  pub put_back_stopped : IsStopped p y
  put_back_stopped = record {
    left_is = back_left;
    home = λ k. home k (way.home k);
    replays = subst (λ (es : List Settlement). AreReplayed p es y.regions.items) (sym stays.log)
        (subst (AreReplayed p (log_of x.core)) (sym regions) back_replays);
  }

-- turns of a handler that was picked are played and settled
pub record Advances (limit h turns : ℕ) (w : Want) (c d : coded.Core) (r s : PlainRegion) : Type 0 where
  pub settled : Settled h turns w c d
  pub plays : Plays limit settled.job r s (outcome r.handler turns w)
  pub home : (k : ℕ) → (center_of c).out k ≡ None → (center_of d).out k ≡ None

pub advances : (limit h turns : ℕ) (w : Want) (c a b d : coded.Core) (r s : PlainRegion) → h < max_handlers → center_of a ≡ center_of c →
    log_of a ≡ log_of c → Goes h a b → log_of b ≡ log_of a →
    ((j : Job) → (center_of b).out h ≡ Some j → IsPlayed limit h j turns w b d r s) → Advances limit h turns w c d r s
advances limit h turns w c a b d r s below center log goes same ones =
    let asked = outcome r.handler turns w in
    let one = ones goes.0 (goes_out h a b goes) in
    let due = settled_job h turns w c a b d goes.0 below (ap (λ (x : Center). x.state) center) log goes.1 goes.2 same (λ i out. (ones i out).settled) in
    record {
      settled = due.0;
      plays = subst (λ (j : Job). Plays limit j r s asked) (sym due.1) one.plays;
      home = λ k none.
          ap (λ (x : Center). x.out k) (one.settled.center ∙ ap (λ (x : Center). settles max_handlers h goes.0 turns w x) goes.2)
          ∙ settled_out max_handlers h goes.0 turns w (center_of a) k (ap (λ (x : Center). x.out k) center ∙ none);
    }

module _ (p : Image) (x y : Left) (h turns limit : ℕ) (w : Want) (r s : PlainRegion) (go : Advances limit h turns w x.core y.core r s)
    (at : slice_get x.regions.items h ≡ Some r) (regions : y.regions.items ≡ slice_set x.regions.items h s)
    (lines : y.lines.items ≡ x.lines.items ++ record { handler = h; turns = turns } ∷ []) (version : y.version ≡ x.version) (way : IsOnWay p x) where
  abbrev now : List Settlement
  now = log_of x.core ++ settlement h go.settled.job turns w ∷ []

  goes_left : IsLeft p y
  goes_left = record {
    version = version ∙ way.version;
    count = ap (λ (rs : List PlainRegion). length rs) regions ∙ set_length x.regions.items h s ∙ way.count;
    programs = subst (Programs p) (sym regions) (set_programs p (log_of x.core) x.regions.items h r s way.regions at go.plays.program);
    plays = settled_plays p h turns w x.core y.core go.settled way.plays;
    below = settled_below h turns w x.core y.core go.settled way.below;
    lines = settled_lines h turns w x.core y.core x.lines.items y.lines.items go.settled way.lines lines;
  }

  goes_replays : AreReplayed p now (slice_set x.regions.items h s)
  goes_replays =
      set_each (λ (k : ℕ) (z : PlainRegion). ∥ Replays p k (settlements_for k now) z ∥₁) x.regions.items h r s at
      (own_replayed p (log_of x.core) h turns limit w go.settled.job r s (way.regions h r at) go.plays)
      (λ k z apart e. own_replays p now k z (other_own p (log_of x.core) (settlement h go.settled.job turns w) k z apart (way.regions k z e)))

  pub goes_stopped : IsStopped p y
  goes_stopped = record {
    left_is = goes_left;
    home = λ k. go.home k (way.home k);
    replays = subst (λ (es : List Settlement). AreReplayed p es y.regions.items) (sym go.settled.log)
        (subst (AreReplayed p now) (sym regions) goes_replays);
  }

  own : ((turns < limit) × (w ≡ want.Continue) → ⊥) → AreOwn p now (slice_set x.regions.items h s)
  own whole =
      set_each (IsOwn p now) x.regions.items h r s at
      (own_more p (log_of x.core) h turns limit w go.settled.job r s (way.regions h r at) go.plays whole)
      (λ k z apart e. other_own p (log_of x.core) (settlement h go.settled.job turns w) k z apart (way.regions k z e))

  pub goes_on : y.core.state.rights.version ≡ Two → ((turns < limit) × (w ≡ want.Continue) → ⊥) → IsOnWay p y
  goes_on rights whole = record {
    version = version ∙ way.version;
    rights = rights;
    count = goes_left.count;
    plays = goes_left.plays;
    below = goes_left.below;
    lines = goes_left.lines;
    home = λ k. go.home k (way.home k);
    regions = subst (λ (es : List Settlement). AreOwn p es y.regions.items) (sym go.settled.log) (subst (AreOwn p now) (sym regions) (own whole));
  }

-- ---- new regions

pub get_past : {A : Type 0} (xs : List A) (x y : A) (k : ℕ) → slice_get (xs ++ x ∷ []) k ≡ Some y → (slice_get xs k ≡ Some y) ⊎ ((k ≡ length xs) × (x ≡ y))
get_past [] x y zero e = inr (refl, some_is x y e)
get_past [] x y (suc k) e = cc
get_past (z ∷ xs) x y zero e = inl e
get_past (z ∷ xs) x y (suc k) e = elim (get_past xs x y k e) [
  | inl before ↦ inl before
  | inr last ↦ inr (ap suc last.0, last.1)
]

pub none_new : (p : Image) (rs : List PlainRegion) → rs ≡ [] → AreNew p rs
none_new p rs none h r e = let bad : slice_get [] h ≡ Some r = ap (λ (ss : List PlainRegion). slice_get ss h) (sym none) ∙ e in cc

pub more_new : (p : Image) (n : ℕ) (rs ss : List PlainRegion) (r : PlainRegion) → AreNew p rs → length rs ≡ n → r ≡ new_region p n →
    ss ≡ rs ++ r ∷ [] → AreNew p ss
more_new p n rs ss r new count region more h s e = elim (get_past rs r s h (ap (λ (xs : List PlainRegion). slice_get xs h) (sym more) ∙ e)) [
  | inl before ↦ new h s before
  | inr last ↦
      let place : n ≡ h = sym count ∙ sym last.0 in
      sym last.1 ∙ region ∙ ap (new_region p) place
]

pub new_own : (p : Image) (es : List Settlement) (rs : List PlainRegion) → es ≡ [] → AreNew p rs → AreOwn p es rs
new_own p es rs none new h r e =
    let one = new h r e in
    record {
      handler = ap (λ (x : PlainRegion). x.handler) one;
      program = ap (λ (x : PlainRegion). x.store.program) one;
      made = new_made p h (settlements_for h es) r one (ap (settlements_for h) none);
    }

-- ---- answers

pub err_holds : {T E : Type 0} (r : Result T E) (P : Type 0) → is_err r ≡ true → OnErr r P → P
err_holds (Ok t) P e p = absurd (cc)
err_holds (Err d) P e p = p

-- what is so where it says yes, as it does
pub over_holds : {E : Type 0} (r : Result Bool E) (P : Type 0) → is_err r ≡ false → IfOk r (λ b. b ≡ true) → IfOk r (λ b. b ≡ true → P) → P
over_holds (Ok b) P e is p = p is
over_holds (Err d) P e is p = absurd (cc)

-- what is so of what is done, or of what is refused, makes something else so
pub ok_goes : {T E : Type 0} (r : Result T E) (P Q : T → Type 0) (S : Type 0) → IfOk r P → IfOk r Q → ((t : T) → P t → Q t → S) → OnOk r S
ok_goes (Ok t) P Q S p q goes = goes t p q
ok_goes (Err e) P Q S p q goes = tt

pub if_ok_goes : {T E : Type 0} (r : Result T E) (P Q S : T → Type 0) → IfOk r P → IfOk r Q → ((t : T) → P t → Q t → S t) → IfOk r S
if_ok_goes (Ok t) P Q S p q goes = goes t p q
if_ok_goes (Err e) P Q S p q goes = tt

pub err_goes : {T E : Type 0} (r : Result T E) (P S : Type 0) → OnErr r P → (P → S) → OnErr r S
err_goes (Ok t) P S p goes = tt
err_goes (Err e) P S p goes = goes p
