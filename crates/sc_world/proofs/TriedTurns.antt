-- What a world in memory came from: turns that were made, and turns that memory was refused to.
use Rattle.std.proofs.Common.{◌≡◌, ℕ, List, [], ◌∷◌, ◌++◌, Result, Ok, Err, IfOk, OnErr, OnOk, map, replicate, refl, subst}
use Rattle.std.proofs.Math.Logic.{∥∥₁_map}
use Rattle.sc_lockpass.specs.declared.version.Version.{Version}
use Rattle.sc_code.specs.declared.program.Image.{Image}
use Rattle.sc_world.specs.Turning.{Attempt, Attempts, IsRefusedTurn, IsTried, IsTurn, Made, Refused, Runs as RunsBy, StopsShort, TurnsUnderJob}
use Rattle.sc_world.specs.Worlds.{PlainWorld, opened}

-- ---- one after the other

attempts_join : (ts us : List Attempt) (x y z : PlainWorld) → Attempts ts x y → Attempts us y z → Attempts (ts ++ us) x z
attempts_join [] us x y z same later = subst (λ (w : PlainWorld). Attempts us w z) same later
attempts_join (t ∷ ts) us x y z before later = (before.0, before.1, attempts_join ts us before.0 y z before.2 later)

more_tried : (us : List Attempt) (x y : PlainWorld) → IsTried x → Attempts us x y → IsTried y
more_tried us x y t later = record {
  program = t.program;
  version = t.version;
  attempts = t.attempts ++ us;
  lead = attempts_join t.attempts us (opened t.program t.version) x y t.lead later;
}

all_made : (hs : List ℕ) (x y : PlainWorld) → RunsBy hs x y → Attempts (map (λ h. Made h) hs) x y
all_made [] x y same = same
all_made (h ∷ hs) x y runs = (runs.0, runs.1, all_made hs runs.0 y runs.2)

runs_tried : (hs : List ℕ) (x y : PlainWorld) → IsTried x → RunsBy hs x y → IsTried y
runs_tried hs x y t runs = more_tried (map (λ h. Made h) hs) x y t (all_made hs x y runs)

refused_tried : (h : ℕ) (x y : PlainWorld) → IsTried x → IsRefusedTurn h x y → IsTried y
refused_tried h x y t refused = more_tried (Refused h ∷ []) x y t (y, refused, refl)

-- ---- worlds in memory

pub opens_tried : (p : Image) (v : Version) (w : PlainWorld) → w ≡ opened p v → ∥ IsTried w ∥₁
opens_tried p v w same = let first : IsTried w = record { program = p; version = v; attempts = []; lead = same } in ∣ first ∣₁

-- the turn of a handler was made, or memory was refused to it
pub turn_tried : {T E : Type 0} (h : ℕ) (x y : PlainWorld) (r : Result T E) → ∥ IsTried x ∥₁ → OnOk r (IsTurn h x y) → OnErr r (IsRefusedTurn h x y) → ∥ IsTried y ∥₁
turn_tried h x y (Ok made_it) tried made refused = ∥∥₁_map tried (λ (t : IsTried x). runs_tried (h ∷ []) x y t (y, made, refl))
turn_tried h x y (Err e) tried made refused = ∥∥₁_map tried (λ (t : IsTried x). refused_tried h x y t refused)

-- turns under one job were made, and memory was refused to none of them, or to the next
pub job_tried : {E : Type 0} (limit h : ℕ) (x y : PlainWorld) (r : Result ℕ E) → ∥ IsTried x ∥₁ → IfOk r (λ n. TurnsUnderJob limit h n x y) →
    OnErr r (StopsShort limit h x y) → ∥ IsTried y ∥₁
job_tried limit h x y (Ok n) tried made stops = ∥∥₁_map tried (λ (t : IsTried x). runs_tried (replicate n h) x y t made.runs)
job_tried limit h x y (Err e) tried made stops =
    ∥∥₁_map tried (λ (t : IsTried x). refused_tried h stops.before y (runs_tried (replicate stops.made h) x stops.before t stops.runs) stops.refused)
