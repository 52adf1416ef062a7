-- What workers leave, without the logs of its regions.
use Rattle.std.proofs.Common.{◌≡◌, ◌++◌, ℕ, zero, suc, List, [], ◌∷◌, Option, None, Some, All, map, reverse, slice_get, refl, sym, ap, subst, ◌∙◌, append_assoc}
use Rattle.std.proofs.lemmas.List.{reverse-append}
use Rattle.std.proofs.lemmas.List.Elements.{All-head, All-map, All-tail, All-weaker}
use Rattle.sc_lockpass.specs.declared.version.Version.{Version}
use Rattle.sc_lockpass.specs.declared.version.Version.TheVariants.{Two}
use Rattle.sc_audit.specs.declared.line.RecordLine.{RecordLine}
use Rattle.sc_code.specs.declared.program.Image.{Image}
use Rattle.sc_handler.specs.declared.settlement.Settlement.{Settlement}
use Rattle.sc_request.specs.declared.center.Core as coded
use Rattle.sc_request.specs.Cores.{center_of, log_of}
use Rattle.sc_play.specs.Regions.{PlainRegion, new_region}
use Rattle.sc_worklog.specs.declared.logged_region.LoggedRegion.{LoggedRegion}
use Rattle.sc_worklog.specs.LoggedRegions.{entries_of, region_of}
use Rattle.sc_worklog.specs.Replaying.{AreMade, Replays}
use Rattle.sc_plant.specs.declared.left.Left.{Left}
use Rattle.sc_plant.specs.declared.left.LoggedLeft.{LoggedLeft}
use Rattle.sc_plant.specs.Alone.{AreOwn, IsOnWay, IsOwn}
use Rattle.sc_plant.specs.Left.{AgreesAt, AreReplayed, IsLeft, IsLeftLogged, IsLeftWith, IsStopped}
use Rattle.sc_recording.specs.Recorded.{settlements_for}
use Rattle.sc_recording.specs.Regions.{Agrees, AgreesIn, IsMadeByLog}

-- ---- one region

some_is : {A : Type 0} (a b : A) → Some a ≡ Some b → a ≡ b
some_is a b e = cc

mapped_at : {A B : Type 0} (f : A → B) (xs : List A) (h : ℕ) (y : B) → slice_get (map f xs) h ≡ Some y → (x : A) × (slice_get xs h ≡ Some x) × (f x ≡ y)
mapped_at f [] h y e = cc
mapped_at f (x ∷ xs) zero y e = (x, refl, some_is (f x) y e)
mapped_at f (x ∷ xs) (suc h) y e = mapped_at f xs h y e

all_at : {A : Type 0} (P : A → Type 0) (xs : List A) (h : ℕ) (x : A) → All P xs → slice_get xs h ≡ Some x → P x
all_at P [] h x all e = cc
all_at P (y ∷ ys) zero x all e = subst P (some_is y x e) (All-head P y ys all)
all_at P (y ∷ ys) (suc h) x all e = all_at P ys h x (All-tail P y ys all) e

abbrev Programs : Image → List PlainRegion → Type 0
Programs p xs = All (λ (x : PlainRegion). x.store.program ≡ p) xs

pub programs_left : (o : Option Image) (p : Image) (rs : List LoggedRegion) → o ≡ Some p →
    All (λ (r : LoggedRegion). o ≡ Some (region_of r).store.program) rs → Programs p (map region_of rs)
programs_left o p rs is all =
    All-map (λ (x : PlainRegion). x.store.program ≡ p) region_of rs
    (All-weaker (λ (r : LoggedRegion). o ≡ Some (region_of r).store.program) (λ (r : LoggedRegion). (region_of r).store.program ≡ p)
    (λ r e. some_is (region_of r).store.program p (sym e ∙ is)) rs all)

program_at : (p : Image) (rs : List LoggedRegion) (h : ℕ) (x : PlainRegion) (r : LoggedRegion) → Programs p (map region_of rs) →
    slice_get (map region_of rs) h ≡ Some x → region_of r ≡ x → (region_of r).store.program ≡ p
program_at p rs h x r programs e same =
    ap (λ (y : PlainRegion). y.store.program) same ∙ all_at (λ (y : PlainRegion). y.store.program ≡ p) (map region_of rs) h x programs e

replayed_at : (p : Image) (es : List Settlement) (n : ℕ) (r : LoggedRegion) → (region_of r).store.program ≡ p → Agrees n es r →
    ∥ Replays p n (settlements_for n es) (region_of r) ∥₁
replayed_at p es n r program agrees =
    subst (λ (fs : List Settlement). ∥ Replays p n fs (region_of r) ∥₁) agrees.1
    (subst (λ (k : ℕ). ∥ Replays p k (entries_of r) (region_of r) ∥₁) agrees.0
    (subst (λ (q : Image). ∥ Replays q (region_of r).handler (entries_of r) (region_of r) ∥₁) program r.replays))

-- ---- all of them

replayed_by : (p : Image) (es : List Settlement) (rs : List LoggedRegion) → Programs p (map region_of rs) → ((h : ℕ) → AgreesIn rs es h) →
    AreReplayed p es (map region_of rs)
replayed_by p es rs programs agree h x e =
    let at = mapped_at region_of rs h x e in
    let r = at.0 in
    subst (λ (y : PlainRegion). ∥ Replays p h (settlements_for h es) y ∥₁) at.2
    (replayed_at p es h r (program_at p rs h x r programs e at.2) (agree h r at.1))

own_by : (p : Image) (es : List Settlement) (rs : List LoggedRegion) → Programs p (map region_of rs) → ((h : ℕ) → AgreesIn rs es h) →
    All (λ (r : LoggedRegion). ∥ IsMadeByLog r ∥₁) rs → AreOwn p es (map region_of rs)
own_by p es rs programs agree made h x e =
    let at = mapped_at region_of rs h x e in
    let r = at.0 in
    let agrees = agree h r at.1 in
    subst (IsOwn p es h) at.2 (record {
      handler = agrees.0;
      program = program_at p rs h x r programs e at.2;
      made = subst (λ (fs : List Settlement). ∥ AreMade fs (new_region (region_of r).store.program (region_of r).handler) (region_of r) ∥₁) agrees.1
          (all_at (λ (r : LoggedRegion). ∥ IsMadeByLog r ∥₁) rs h r made at.1);
    })

-- ---- what is left

module _ (p : Image) (a : LoggedLeft) (b : Left) (version : b.version ≡ a.version) (regions : b.regions.items ≡ map region_of a.regions.items)
    (core : b.core ≡ a.core) (lines : b.lines.items ≡ a.lines.items) (is : IsLeftLogged p a) (agree : (h : ℕ) → AgreesAt a h) where
  bare_left : IsLeft p b
  bare_left =
      subst (λ (v : Version). IsLeftWith p v b.regions.items b.core b.lines.items) (sym version)
      (subst (λ (xs : List PlainRegion). IsLeftWith p a.version xs b.core b.lines.items) (sym regions)
      (subst (λ (c : coded.Core). IsLeftWith p a.version (map region_of a.regions.items) c b.lines.items) (sym core)
      (subst (λ (ls : List RecordLine). IsLeftWith p a.version (map region_of a.regions.items) a.core ls) (sym lines) is)))

  pub bare_way : a.core.state.rights.version ≡ Two → ((h : ℕ) → (center_of a.core).out h ≡ None) →
      All (λ (r : LoggedRegion). ∥ IsMadeByLog r ∥₁) a.regions.items → IsOnWay p b
  bare_way rights home made = record {
    version = bare_left.version;
    rights = subst (λ (c : coded.Core). c.state.rights.version ≡ Two) (sym core) rights;
    count = bare_left.count;
    plays = bare_left.plays;
    below = bare_left.below;
    lines = bare_left.lines;
    home = subst (λ (c : coded.Core). (h : ℕ) → (center_of c).out h ≡ None) (sym core) home;
    regions = subst (λ (c : coded.Core). AreOwn p (log_of c) b.regions.items) (sym core)
        (subst (AreOwn p (log_of a.core)) (sym regions) (own_by p (log_of a.core) a.regions.items is.programs agree made));
  }

  pub bare_stopped : ((h : ℕ) → (center_of a.core).out h ≡ None) → IsStopped p b
  bare_stopped home = record {
    left_is = bare_left;
    home = subst (λ (c : coded.Core). (h : ℕ) → (center_of c).out h ≡ None) (sym core) home;
    replays = subst (λ (c : coded.Core). AreReplayed p (log_of c) b.regions.items) (sym core)
        (subst (AreReplayed p (log_of a.core)) (sym regions) (replayed_by p (log_of a.core) a.regions.items is.programs agree));
  }
