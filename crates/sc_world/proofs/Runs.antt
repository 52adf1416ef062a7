-- Turns one after the other.
use Rattle.std.proofs.Common.{◌≡◌, ◌<◌, ◌≤◌, ◌+◌, ◌-◌, ℕ, zero, suc, List, [], ◌∷◌, ◌++◌, true, false, Option, Some, None, Result, Ok, Err, OnErr, OnOk, is_some, length, take, drop, replicate, get_or, is_err, refl, sym, subst, take-append-drop, arith}
use Rattle.std.proofs.lemmas.List.{take_all, take_more, drop-replicate, get_or-replicate, length-replicate}
use Rattle.std.proofs.lemmas.Option.{slice_get-get_or}
use Rattle.sc_region.specs.declared.job.Job.{Job}
use Rattle.sc_request.specs.Logs.{pick_for}
use Rattle.sc_world.specs.declared.configuration.Turned.TheVariants.{Nothing}
use Rattle.sc_world.specs.Turning.{IsTurn, TurnsUnder, IsRefusedTurn, MakeTurns, Runs, StopsBehind, turned_by}
use Rattle.sc_world.specs.Worlds.{PlainWorld}
use Rattle.sc_world.proofs.Outs.{turn-none}

-- ---- what a call answered

pub err-holds : {T E : Type 0} (r : Result T E) (P : Type 0) → is_err r ≡ true → OnErr r P → P
err-holds (Ok t) P e p = absurd (cc)
err-holds (Err d) P e p = p

pub ok-holds : {T E : Type 0} (r : Result T E) (P : Type 0) → is_err r ≡ false → OnOk r P → P
ok-holds (Ok t) P e p = p
ok-holds (Err d) P e p = absurd (cc)

-- ---- runs

-- one turn more
pub runs-more : (hs : List ℕ) (h : ℕ) (x y z : PlainWorld) → Runs hs x y → IsTurn h y z → Runs (hs ++ h ∷ []) x z
runs-more [] h x y z same turn = (z, subst (λ (w : PlainWorld). IsTurn h w z) same turn, refl)
runs-more (k ∷ hs) h x y z runs turn = (runs.0, runs.1, runs-more hs h runs.0 y z runs.2 turn)

pub runs-join : (hs ks : List ℕ) (x y z : PlainWorld) → Runs hs x y → Runs ks y z → Runs (hs ++ ks) x z
runs-join [] ks x y z same runs = subst (λ (w : PlainWorld). Runs ks w z) same runs
runs-join (h ∷ hs) ks x y z first runs = (first.0, first.1, runs-join hs ks first.0 y z first.2 runs)

-- the turn of the handler at a place, behind those before it
pub runs-next : (hs : List ℕ) (i d : ℕ) (x y z : PlainWorld) → i < length hs → Runs (take i hs) x y → IsTurn (get_or hs i d) y z → Runs (take (i + 1) hs) x z
runs-next hs i d x y z below runs turn =
    let more = runs-more (take i hs) (get_or hs i d) x y z runs turn in
    subst (λ (ks : List ℕ). Runs ks x z) (sym (take_more hs i d below)) more

-- memory was refused to the turn of the handler at a place
pub stops-behind : (hs : List ℕ) (i d : ℕ) (x y z : PlainWorld) → i < length hs → Runs (take i hs) x y → IsRefusedTurn (get_or hs i d) y z → StopsBehind i hs x z
stops-behind hs i d x y z below runs refused =
    record { before = y; next = get_or hs i d; runs = runs; stands = slice_get-get_or hs i d below; refused = refused }

-- all of them
pub runs-all : (hs : List ℕ) (i : ℕ) (x y : PlainWorld) → length hs ≤ i → Runs (take i hs) x y → Runs hs x y
runs-all hs i x y past runs = subst (λ (ks : List ℕ). Runs ks x y) (take_all i hs past) runs

-- ---- turns that are made

pub made-run : (hs : List ℕ) (x y : PlainWorld) → MakeTurns hs x y → Runs hs x y
made-run [] x y same = same
made-run (h ∷ hs) x y made = (made.1, made.2, made-run hs made.1 y made.3)

-- one turn more
pub made-more : (hs : List ℕ) (h : ℕ) (x y z : PlainWorld) → MakeTurns hs x y → is_some (pick_for h y.center) ≡ true → IsTurn h y z → MakeTurns (hs ++ h ∷ []) x z
made-more [] h x y z same has turn = (
  subst (λ (w : PlainWorld). is_some (pick_for h w.center) ≡ true) same has,
  z,
  subst (λ (w : PlainWorld). IsTurn h w z) same turn,
  refl,
)
made-more (k ∷ hs) h x y z made has turn = (made.0, made.1, made.2, made-more hs h made.1 y z made.3 has turn)

pub made-join : (hs ks : List ℕ) (x y z : PlainWorld) → MakeTurns hs x y → MakeTurns ks y z → MakeTurns (hs ++ ks) x z
made-join [] ks x y z same made = subst (λ (w : PlainWorld). MakeTurns ks w z) same made
made-join (h ∷ hs) ks x y z first made = (first.0, first.1, first.2, made-join hs ks first.1 y z first.3 made)

-- ---- a handler that has nothing to do

idle-under : (h : ℕ) (o : Option Job) (x y : PlainWorld) → TurnsUnder h o x y → Nothing ≡ turned_by o → (y ≡ x) × (None ≡ o)
idle-under h None x y same e = (same, refl)
idle-under h (Some j) x y makes e = absurd (cc)

pub runs-idle : (n h : ℕ) (x : PlainWorld) → None ≡ pick_for h x.center → Runs (replicate n h) x x
runs-idle zero h x e = refl
runs-idle (suc n) h x e = (x, turn-none h x x e refl, runs-idle n h x e)

-- once it has nothing to do, its other turns change nothing
pub runs-rest : (n i h : ℕ) (x y z : PlainWorld) → Runs (take i (replicate n h)) x y → IsTurn h y z → Nothing ≡ turned_by (pick_for h y.center) → Runs (replicate n h) x z
runs-rest n i h x y z runs turn nothing =
    let idle = idle-under h (pick_for h y.center) y z turn nothing in
    let left = subst (λ (ks : List ℕ). Runs ks y y) (sym (drop-replicate i n h)) (runs-idle (n - i) h y idle.1) in
    let all = subst (λ (ks : List ℕ). Runs ks x y) (take-append-drop i (replicate n h)) (runs-join (take i (replicate n h)) (drop i (replicate n h)) x y y runs left) in
    subst (λ (w : PlainWorld). Runs (replicate n h) x w) (sym idle.0) all

-- ---- so many turns of one handler

-- one turn more
pub runs-again : (n i h : ℕ) (x y z : PlainWorld) → i < n → Runs (take i (replicate n h)) x y → IsTurn h y z → Runs (take (i + 1) (replicate n h)) x z
runs-again n i h x y z below runs turn =
    let many : i < length (replicate n h) = omega (arith, length-replicate n h) in
    runs-next (replicate n h) i h x y z many runs (subst (λ (k : ℕ). IsTurn k y z) (sym (get_or-replicate n i h h below)) turn)

pub stops-again : (n i h : ℕ) (x y z : PlainWorld) → i < n → Runs (take i (replicate n h)) x y → IsRefusedTurn h y z → StopsBehind i (replicate n h) x z
stops-again n i h x y z below runs refused =
    let many : i < length (replicate n h) = omega (arith, length-replicate n h) in
    stops-behind (replicate n h) i h x y z many runs (subst (λ (k : ℕ). IsRefusedTurn k y z) (sym (get_or-replicate n i h h below)) refused)

pub runs-many : (n i h : ℕ) (x y : PlainWorld) → n ≤ i → Runs (take i (replicate n h)) x y → Runs (replicate n h) x y
runs-many n i h x y past runs =
    let all : length (replicate n h) ≤ i = omega (arith, length-replicate n h) in
    runs-all (replicate n h) i x y all runs
