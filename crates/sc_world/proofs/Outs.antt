-- Who is out.
use Rattle.std.proofs.Common.{Bor, ◌≡◌, inr, ℕ, List, true, false, Option, Some, None, Result, Ok, Err, IfOk, OnErr, slice_get, slice_set, refl, ap, sym, subst, ◌∙◌, arith}
use Rattle.std.specs.Prelude.{is_some}
use Rattle.std.specs.Option.{option_map}
use Rattle.sc_region.specs.declared.job.Job.{Job}
use Rattle.sc_request.specs.Logs.{Center, pick_for, picked, picked_if, settles}
use Rattle.sc_world.specs.Turning.{IsTurn, TurnsUnder, IsRefusedTurn, HeldUpUnder, IsHeldUp, Makes, PutsBack, Settles, turned_by}
use Rattle.sc_play.specs.Regions.{PlainRegion}
use Rattle.sc_world.specs.declared.configuration.Turned.TheVariants.{Moved, Nothing}
use Rattle.sc_world.specs.Worlds.{PlainWorld}

-- the handler that was picked is out with its job
pub picked-out : (h : ℕ) (j : Job) (c d : Center) → d ≡ picked h j c → d.out h ≡ Some j
picked-out h j c d e = ap (λ (d : Center). d.out h) e ∙ same
  where
    same : (picked h j c).out h ≡ Some j
    same = grind arith

pub turn-none : (h : ℕ) (x y : PlainWorld) → None ≡ pick_for h x.center → y ≡ x → IsTurn h x y
turn-none h x y e same = subst (λ (o : Option Job). TurnsUnder h o x y) e same

pub turn-some : (h : ℕ) (j : Job) (x y : PlainWorld) → Some j ≡ pick_for h x.center → Makes 1 h j 1 x y → IsTurn h x y
turn-some h j x y e makes = subst (λ (o : Option Job). TurnsUnder h o x y) e makes

pub refused-some : (h : ℕ) (j : Job) (x y : PlainWorld) → Some j ≡ pick_for h x.center → IsHeldUp h j x y → IsRefusedTurn h x y
refused-some h j x y e held = inr (subst (λ (o : Option Job). HeldUpUnder h o x y) e held)

-- a handler that has nothing to do isn't picked
pub none-picked : (h : ℕ) (c d : Center) → None ≡ pick_for h c → d ≡ picked_if h (pick_for h c) c → d ≡ c
none-picked h c d e p = p ∙ ap (λ o. picked_if h o c) (sym e)

pub some-picked : (h : ℕ) (j : Job) (c d : Center) → Some j ≡ pick_for h c → d ≡ picked_if h (pick_for h c) c → d ≡ picked h j c
some-picked h j c d e p = p ∙ ap (λ o. picked_if h o c) (sym e)

pub world-is : (m n : ℕ) (c d : Center) (rs : List PlainRegion) → n ≡ m → d ≡ c →
    ◌≡◌ {A = PlainWorld} (record { most = n; center = d; regions = rs }) (record { most = m; center = c; regions = rs })
world-is m n c d rs e f = ap (λ (n : ℕ). world n d rs) e ∙ ap (λ (c : Center). world m c rs) f
  where
    world : ℕ → Center → List PlainRegion → PlainWorld
    world m c rs = record { most = m; center = c; regions = rs }

pub moved-by : (o : Option Job) (j : Job) → Some j ≡ o → Moved ≡ turned_by o
moved-by o j e = ap turned_by e

pub nothing-by : (o : Option Job) → None ≡ o → Nothing ≡ turned_by o
nothing-by o e = ap turned_by e

-- at most one turn, and some, is one
one-turn : (h : ℕ) (j : Job) (turns most : ℕ) (c d : Center) (x y : PlainRegion) → Settles 1 h j turns most c d x y → Settles 1 h j 1 most c d x y
one-turn h j turns most c d x y s =
    let one : turns ≡ 1 = omega (arith, s.count, s.plays.few, s.plays.some) in
    record {
      outcome = s.outcome;
      count = s.count ∙ one;
      plays = s.plays;
      center = subst (λ (n : ℕ). d ≡ settles most h j n s.outcome.want c) one s.center;
    }

pub makes-many : (limit given h : ℕ) (j : Job) (turns m m' n : ℕ) (c b d : Center) (rs : List PlainRegion) (x y : PlainRegion) → given ≡ limit →
    slice_get rs h ≡ Some x → m' ≡ m → n ≡ m → b ≡ picked h j c → Settles given h j turns m' b d x y →
    Makes limit h j turns (record { most = m; center = c; regions = rs }) (record { most = n; center = d; regions = slice_set rs h y })
makes-many limit given h j turns m m' n c b d rs x y so-many stands same kept out settles =
    record { before = x; after = y; stands = stands; settles = rw (so-many, same, out) at settles; regions = refl; most = kept }

pub makes : (h : ℕ) (j : Job) (turns m m' n : ℕ) (c b d : Center) (rs : List PlainRegion) (x y : PlainRegion) → slice_get rs h ≡ Some x → m' ≡ m → n ≡ m →
    b ≡ picked h j c → Settles 1 h j turns m' b d x y →
    Makes 1 h j 1 (record { most = m; center = c; regions = rs }) (record { most = n; center = d; regions = slice_set rs h y })
makes h j turns m m' n c b d rs x y stands same kept out settles =
    makes-many 1 1 h j 1 m m' n c b d rs x y refl stands same kept out (one-turn h j turns m' b d x y settles)

pub held-up : (h : ℕ) (j : Job) (m n : ℕ) (c b d : Center) (rs : List PlainRegion) (x y : PlainRegion) → slice_get rs h ≡ Some x → n ≡ m →
    b ≡ picked h j c → PutsBack h j b d x y →
    IsHeldUp h j (record { most = m; center = c; regions = rs }) (record { most = n; center = d; regions = slice_set rs h y })
held-up h j m n c b d rs x y stands kept out back =
    record { before = x; after = y; stands = stands; put_back = rw out at back; regions = refl; most = kept }

pub on-err : {T E : Type 0} (r : Result T E) (P : Type 0) → P → OnErr r P
on-err (Ok t) P p = tt
on-err (Err e) P p = p

-- ---- the job that a handler is out with

pub some-of : (o : Option Job) → is_some o ≡ true → (j : Job) × (o ≡ Some j)
some-of None e = cc
some-of (Some j) e = (j, refl)

pub none-job : (o : Option Job) → is_some o ≡ false → None ≡ o
none-job None e = refl
none-job (Some j) e = cc

same-some : (h k : ℕ) → Some h ≡ Some k → h ≡ k
same-some h k e = cc

-- the one that is next has a job
pub next-of : (h : ℕ) (o : Option (ℕ × Job)) → Some h ≡ option_map (λ (p : ℕ × Job). p.0) o → (j : Job) × (o ≡ Some (h, j))
next-of h None e = cc
next-of h (Some (k, j)) e = (j, ap (λ (k : ℕ). Some (k, j)) (sym (same-some h k e)))

pub none-of : (o : Option (ℕ × Job)) → None ≡ option_map (λ (p : ℕ × Job). p.0) o → None ≡ o
none-of None e = refl
none-of (Some p) e = cc

-- what holds of each job that a handler is out with holds of this one
pub ok-at : {T E : Type 0} (r : Result T E) (o : Option Job) (P : T → Job → Type 0) (j : Job) → o ≡ Some j →
    IfOk r (λ t. (i : Job) → o ≡ Some i → P t i) → IfOk r (λ t. P t j)
ok-at (Ok t) o P j e p = p j e
ok-at (Err x) o P j e p = tt

pub err-at : {T E : Type 0} (r : Result T E) (o : Option Job) (P : Job → Type 0) (j : Job) → o ≡ Some j →
    OnErr r ((i : Job) → o ≡ Some i → P i) → OnErr r (P j)
err-at (Ok t) o P j e p = tt
err-at (Err x) o P j e p = p j e

pub job-is : (o : Option Job) (r : Option (Bor Job)) (x : Bor Job) → option_map (λ (x : Bor Job). x.now) r ≡ o → r ≡ Some x → o ≡ Some x.now
job-is o r x e is = sym e ∙ ap (λ (r : Option (Bor Job)). option_map (λ (x : Bor Job). x.now) r) is

pub one-job : (i j : Job) → Some i ≡ Some j → i ≡ j
one-job i j e = cc
