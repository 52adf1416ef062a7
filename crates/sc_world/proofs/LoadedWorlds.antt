-- Worlds into which states are put.
use Rattle.std.proofs.Common.{◌≡◌, ◌∙◌, ◌<◌, ◌≤◌, inl, inr, ℕ, suc, Bool, true, false, List, [], ◌∷◌, Option, Some, None, length, map, refl, sym, ap, subst, arith}
use Rattle.std.proofs.lemmas.Bool.{cases_lt}
use Rattle.std.proofs.lemmas.List.{length-map}
use Rattle.std.proofs.lemmas.List.Elements.{All-cons, All-nil}
use Rattle.std.proofs.lemmas.Option.{slice_get_past}
use Rattle.std.specs.Prelude.{nat_lt, slice_get, if◌then◌else◌}
use Rattle.std.specs.List.{All}
use Rattle.sc_code.specs.declared.program.Image.{Image}
use Rattle.sc_region.specs.Stores.{PlainStore}
use Rattle.sc_handler.specs.Handlers.{HandlerStage, Idle, Runs, HasMade, Reserves, Awaits, Service, Handler, State, has_frames, new_handler}
use Rattle.sc_handler.specs.Canonical.{canon, canon_handler, canon_service, canon_stage, sessions_in}
use Rattle.sc_request.specs.Parts.{NameBelow, PlainPart, part_at, part_in, parts_in, state_with}
use Rattle.sc_counts.specs.Counted.{AreBelow, IsCounted}
use Rattle.sc_counts.proofs.ReadStates.{read_states_are_counted, read_states_stay}
use Rattle.sc_play.specs.Contents.{contents_at}
use Rattle.sc_play.specs.Regions.{PlainRegion}
use Rattle.sc_world.specs.declared.loading.Numbers.{Numbers}
use Rattle.sc_world.specs.declared.loading.Tables.{Tables}
use Rattle.sc_world.specs.Kept.{AreKeptAlike, IsOf, PlainKept, kept}
use Rattle.sc_world.specs.Loading.{AreOf, ChangesAreOf, IsLoadable, WorldsAreKeptByNumbers, contents_by, held_in, kept_by}
use Rattle.sc_world.specs.Requests.Links.{AreLinked}
use Rattle.sc_world.specs.Requests.Serving.{Agrees, HasFrames, Serves}
use Rattle.sc_world.specs.Requests.Settlements.{known}
use Rattle.sc_world.specs.Worlds.{PlainWorld}
use Rattle.sc_world.proofs.KeptWorlds.{regions_are}

-- ---- numbers

pub worlds_are_kept_by_numbers : WorldsAreKeptByNumbers
worlds_are_kept_by_numbers n w ps xs new many its_many each =
    let s : State = w.center.state in
    let there : (h : ℕ) → part_at h s ≡ part_in (slice_get ps h) = λ h. elim (cases_lt h n) [
      | inl below ↦ sym (ap part_in (each h below).0)
      | inr past ↦ (new h past).0 ∙ sym (ap part_in (slice_get_past ps h (omega (arith, many, past))))
    ] in
    let holds : (h : ℕ) → contents_at w.regions h ≡ held_in h (slice_get xs h) = λ h. elim (cases_lt h n) [
      | inl below ↦ sym (ap (held_in h) (each h below).1)
      | inr past ↦ (new h past).1 ∙ sym (ap (held_in h) (slice_get_past xs h (omega (arith, its_many, past))))
    ] in
    let state : canon s ≡ state_with s.count ps = λ i. record {
      count = s.count;
      handlers = λ h. (there h i).handler;
      rights = record { queue = λ h. (there h i).queue; top = λ h. (there h i).top };
    } in
    λ i. record { state = state i; regions = λ h. holds h i }

-- ---- handlers that serve what their regions serve are read so

frames_read : (S : ℕ → ℕ) (st : HandlerStage) → has_frames (canon_stage S st) ≡ has_frames st
frames_read S Idle = refl
frames_read S Runs = refl
frames_read S (HasMade k) = refl
frames_read S (Reserves ks mark) = refl
frames_read S (Awaits k is_creation) = refl

has_read : (S : ℕ → ℕ) (st : HandlerStage) (vs : List Service) → HasFrames st vs → HasFrames (canon_stage S st) (map (canon_service S) vs)
has_read S st [] has = tt
has_read S st (v ∷ vs) has = (frames_read S st ∙ has.0, has_read S v.over vs has.1)

agrees_read : (S : ℕ → ℕ) (x : Handler) (y : PlainStore) → Agrees x y → Agrees (canon_handler S x) y
agrees_read S x y agrees stands =
    let had = agrees stands in
    (subst (λ (n : ℕ). Serves n y) (sym (length-map x.services (canon_service S))) had.0, has_read S x.stage x.services had.1)

known_read : (h : ℕ) (s : State) (y : PlainStore) → Agrees (known h s) y → Agrees (known h (canon s)) y
known_read h s y = by (nat_lt h s.count)
  where
    by : (b : Bool) → Agrees (if b then s.handlers h else new_handler) y →
        Agrees (if b then canon_handler (sessions_in s) (s.handlers h) else new_handler) y
    by true agrees = agrees_read (sessions_in s) (s.handlers h) y agrees
    by false agrees = agrees

-- ---- what is put into the core

names_all : (count : ℕ) (ps : List PlainPart) → ((k : ℕ) → AreBelow count (part_in (slice_get ps k)).handler.entry) → NameBelow count ps
names_all count [] each = All-nil (λ (p : PlainPart). All (λ k. k < count) p.handler.entry)
names_all count (p ∷ ps) each =
    All-cons (λ (p : PlainPart). All (λ k. k < count) p.handler.entry) p ps (each 0) (names_all count ps (λ k. each (suc k)))

some_region : (xs : List PlainRegion) → 0 < length xs → (x : PlainRegion) × (slice_get xs 0 ≡ Some x)
some_region [] some = absurd (omega (arith, some))
some_region (x ∷ xs) some = (x, refl)

module _ (old : PlainWorld) (t : Tables) (n : Numbers) (l : IsLoadable old t n) where
  abbrev pub loaded : State
  loaded = state_with n.count (parts_in t.parts.now n.parts.now)

  read_is : canon l.world.center.state ≡ loaded
  read_is = ap (λ (k : PlainKept). k.state) l.kept_is

  loaded_counted : IsCounted loaded
  loaded_counted = subst IsCounted read_is (read_states_are_counted l.world.center.state l.its.counted)

  pub few_handlers : n.count ≤ old.most
  few_handlers =
      let count : l.world.center.state.count ≡ n.count = ap (λ (s : State). s.count) read_is in
      let few = l.its.few in
      let limit = l.of.most in omega (arith, count, few, limit)

  pub named : NameBelow n.count (parts_in t.parts.now n.parts.now)
  named = names_all n.count (parts_in t.parts.now n.parts.now) (λ k. (loaded_counted.handlers k).entry)

  program_is : (p : Image) (most : ℕ) → IsOf p most old → l.program ≡ p
  program_is p most of =
      let places = of.places in
      let first = some_region old.regions (omega (arith, places)) in
      sym (l.of.programs 0 first.0 first.1) ∙ of.programs 0 first.0 first.1

  pub table_of : (p : Image) (most : ℕ) → IsOf p most old → AreOf p t.regions.now
  table_of p most of = subst (λ (q : Image). AreOf q t.regions.now) (program_is p most of) l.programs

  -- ---- the world then

  module _ (v : PlainWorld) (cs : List (Option PlainRegion)) (same_most : v.most ≡ old.most) (state : v.center.state ≡ loaded)
      (home : (h : ℕ) → v.center.out h ≡ None) (many : length v.regions ≡ length old.regions)
      (holds : (h : ℕ) → contents_at v.regions h ≡ held_in h (slice_get (contents_by t.regions.now n.regions.now) h))
      (changes_of : (p : Image) → AreOf p t.regions.now → ChangesAreOf p cs)
      (programs : (p : Image) → AreOf p old.regions → ChangesAreOf p cs → AreOf p v.regions) where
    pub loaded_of : (p : Image) (most : ℕ) → IsOf p most old → IsOf p most v
    loaded_of p most of = record {
      most = same_most ∙ of.most;
      few =
          let count : v.center.state.count ≡ n.count = ap (λ (s : State). s.count) state in
          let limit = of.most in
          let few = few_handlers in omega (arith, count, few, limit);
      nobody_out = home;
      places = many ∙ of.places;
      programs = programs p of.programs (changes_of p (table_of p most of));
      counted = subst IsCounted (sym state) loaded_counted;
    }

    pub loaded_kept : kept v ≡ kept_by t n
    loaded_kept =
        let again : canon loaded ≡ loaded = subst (λ (s : State). canon s ≡ s) read_is (read_states_stay l.world.center.state) in
        let read : canon v.center.state ≡ loaded = ap canon state ∙ again in
        λ i. record { state = read i; regions = λ h. holds h i }

    pub loaded_linked : AreLinked v.center v.regions
    unfolding AreLinked
    loaded_linked h x e =
        let alike : AreKeptAlike l.program l.most v l.world =
        record { of = loaded_of l.program l.most l.of; its = l.its; same = loaded_kept ∙ sym l.kept_is } in
        let there : slice_get l.world.regions h ≡ Some x =
        ap (λ rs. slice_get rs h) (sym (regions_are l.program l.most v l.world alike)) ∙ e in
        subst (λ (s : State). Agrees (known h s) x.store) (read_is ∙ sym state) (known_read h l.world.center.state x.store (l.linked h x there))
